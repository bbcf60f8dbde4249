use Rattle.std.proofs.Common.{◌≡◌, ℕ, ◌-◌, ◌≤◌, List, [], ◌∷◌, ◌++◌, length, subst, sym, ap, ◌∙◌, arith, append-nil}
use Rattle.clsm_model.specs.History.{plain}
use Rattle.clsm_levels.specs.Run.{IsExact}
use Rattle.clsm_levels.proofs.Exactness.{exact_entries}
use Rattle.clsm_levels.specs.declared.entry.Entry.{Entry}
use Rattle.clsm_levels.specs.Entry.{entries_of, decided_slots}
use Rattle.clsm_levels.proofs.Histories.{entries_last, entries_none, length-entries_of}
use Rattle.clsm_levels.proofs.epoch.entries_of.Goals as goal

pub loop-time-preserved : goal.loop-time-preserved
loop-time-preserved c =
    let slots = decided_slots c.args.slots.now in
    let done = c.loop-time.entries.items in
    let last = entries_last slots c.args.from c.loop-time.time (omega arith) in
    ap (λ (l : List Entry). done ++ (l ++ entries_of slots c.args.from (c.loop-time.time - 1))) c.in_default.ensures
    ∙ ap (λ (l : List Entry). done ++ l) (sym last) ∙ c.loop-time.invariant

pub returns-clause-entries : goal.returns-clause-entries
returns-clause-entries c =
    let slots = decided_slots c.args.slots.now in
    let none : entries_of slots c.args.from c.loop-time.time ≡ [] = entries_none slots c.args.from c.loop-time.time (omega arith) in
    sym (append-nil c.loop-time.entries.items) ∙ ap (λ (l : List Entry). c.loop-time.entries.items ++ l) (sym none) ∙ c.loop-time.invariant

pub returns-clause-exact : goal.returns-clause-exact
returns-clause-exact c =
    let h = plain (decided_slots c.args.slots.now) in
    λ zero. subst (λ (es : List Entry). IsExact (es ∷ []) h 0 c.args.to)
    (sym (returns-clause-entries c ∙ ap (λ (from : ℕ). entries_of h.slots from c.args.to) zero)) (exact_entries h c.args.to)

pub returns-clause-small : goal.returns-clause-small
returns-clause-small c =
    let slots = decided_slots c.args.slots.now in
    subst (λ (es : List Entry). length es ≤ c.args.to - c.args.from) (sym (returns-clause-entries c)) (length-entries_of slots c.args.from c.args.to)
