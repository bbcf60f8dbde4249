-- In a lawful world a step that is open to a seat makes numbers of 64 bits alone.
use Rattle.std.proofs.Common.{◌≡◌, ℕ, ◌+◌, ◌*◌, ◌^◌, ◌<◌, ◌≤◌, true, nat_lt, length, arith}
use Rattle.std.proofs.lemmas.Bool.{and_parts, ltb-true}
use Rattle.clsm_law.specs.declared.word.Word.{Word}
use Rattle.clsm_law.specs.declared.word.Word.TheVariants.{Head, Merged, Cell, State}
use Rattle.clsm_law.specs.declared.step.Step.{Step}
use Rattle.clsm_law.specs.declared.step.Step.TheVariants.{EnterShared, Draw, Decide, Commit, Look, Note}
use Rattle.clsm_law.specs.Memory.{is_word, is_part}
use Rattle.clsm_law.specs.SeatBounds.{IsSmall, IsSmallLook, IsSmallFor}
use Rattle.clsm_law.proofs.Stepping.Steps.{May, finds, kept_by}
use Rattle.clsm_law.proofs.Setting.{Setting, v, clock_below}

-- a time that is not beyond the drawn ones has a next
drawn_small : (s : Setting) (t : ℕ) → t ≤ length s.slots → t + 1 < 2 ^ 64
drawn_small s t le = let bounded = s.law.bounded in let top = s.law.top in omega arith

look_small : (s : Setting) (word : Word) → is_word s.z word ≡ true → IsSmallLook s.z word (s.memory word)
look_small s (Head region chain) there =
    let parts : (nat_lt region 2 ≡ true) × (nat_lt chain s.z.chains ≡ true) = and_parts (nat_lt region 2) (nat_lt chain s.z.chains) there in
    let low : region < 2 = ltb-true region 2 parts.0 in
    let inside : chain < s.z.chains = ltb-true chain s.z.chains parts.1 in
    let few = s.sound.2.1 in omega arith
look_small s Merged there = let begun = s.law.begun in let below = clock_below s.ground in let bounded = s.law.bounded in let top = s.law.top in
    rw s.law.merged (omega arith)
look_small s (Cell c part) there = let inside = ltb-true c (2 * s.z.cells) (and_parts (nat_lt c (2 * s.z.cells)) (is_part part) there).0 in let few =
    s.sound.0.1 in omega arith
look_small s (State c) there = let inside = ltb-true c (2 * s.z.cells) there in let few = s.sound.0.1 in omega arith
look_small s word there = tt

pub step_small : (s : Setting) (step : Step) → May s step → IsSmall s.z step (finds s step)
step_small s (EnterShared l) o = let few = o.2 in omega arith
step_small s (Draw t) o = drawn_small s t (let a = s.law.fresh_clocks s.me t o.2 in let b = clock_below s.ground in omega arith)
step_small s (Decide t deed) o = let drawn = (s.law.pending s.me t o.0).1 in drawn_small s t (omega arith)
step_small s (Note b) o = drawn_small s b (let a = s.law.pin_clocks s.me b o.2 in let c = clock_below s.ground in omega arith)
step_small s (Look word) o = look_small s word o.0
step_small s step o = tt

pub commit_small : (s : Setting) (step : Step) → May s step → IsSmallFor (v s) step
commit_small s (Commit members) o = let after = kept_by s (Commit members) o in let clock = after.clock in let bounded = after.bounded in let top =
    after.top in omega arith
commit_small s step o = tt
