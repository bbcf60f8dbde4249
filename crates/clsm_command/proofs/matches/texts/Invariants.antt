use Rattle.std.proofs.Common.{◌≡◌, map, take}
use Rattle.clsm_command.proofs.matches.texts.Given as goal

-- the texts so far are those of the values before the index
abbrev pub invariant-loop-value : goal.invariant-loop-value
invariant-loop-value l = map (λ t. t.bytes.items) l.texts.items ≡ map (λ s. s.now) (take l.value-index l.values)
