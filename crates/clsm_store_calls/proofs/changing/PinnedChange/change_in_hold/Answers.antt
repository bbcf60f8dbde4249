use Rattle.std.proofs.Common.{◌≡◌, ◌∙◌, ◌+◌, ◌⊎◌, ℕ, List, Option, arith, false, inl, inr, subst, sym, true}
use Rattle.clsm_model.specs.declared.slot.Change.{Change}
use Rattle.clsm_store_calls.specs.declared.changing.ChangeProgress.{ChangeProgress}
use Rattle.clsm_store_calls.specs.Changing.{HasComeSoFar, IsAskedBy, Spared, is_last}
use Rattle.clsm_store_calls.specs.Tally.{tally_of}
use Rattle.clsm_store_calls.proofs.Attempts.{asked_again, change_still, comes_again, tries_behind}
use Rattle.clsm_store_calls.proofs.ChangeLosses.{changes_last, changes_more, changes_none}
use Rattle.clsm_store_calls.proofs.Giving.{spared_again}
use Rattle.clsm_store_calls.proofs.Rest.{still_none, still_trans}
use Rattle.clsm_store_calls.proofs.changing.PinnedChange.change_in_hold.Goals as goal
use Rattle.clsm_store_calls.proofs.changing.PinnedChange.change_in_hold.Goals.{then-is_last-via-then-is_last, then-is_last-via-else-is_last+then-lost-tries}

pub loop-lost-init : goal.loop-lost-init
loop-lost-init g c = record {
  of = c.requires.of;
  come = c.requires.come;
  asked = c.requires.asked;
  still = still_none c.args.seat.now.knows;
  spared = λ first so_far. so_far;
  counts = changes_none (tally_of c.args.seat.now.knows);
  few = c.requires.some;
}

pub loop-lost-preserved : goal.loop-lost-preserved
loop-lost-preserved g c =
    let a = c.args.seat.now.knows in
    let before = c.loop-lost.seat.knows in
    let now = c.go_on-attempt.new.seat in
    let attempt = c.go_on-attempt.result in
    let component = c.args.self.now.component in
    let key = c.args.self.now.key in
    let lost : is_last attempt ≡ false = sym c.is_last.ensures ∙ c.if-is_last.false in
    let on = sym c.progress-progress.ensures in
    let post : Option (List ℕ) → Change → Type 0 = λ old change. g.F.Fn.post c.args.self.now.f.now (old, tt) change in
    record {
      of = c.go_on-attempt.ensures.of;
      come = subst (λ (p : ChangeProgress). HasComeSoFar c.args.words.now now component key p) on
          (comes_again c.args.words.now now component key attempt lost c.go_on-attempt.ensures.stays);
      asked = subst (λ (p : ChangeProgress). IsAskedBy post p) on (asked_again post attempt lost c.go_on-attempt.ensures.answered);
      still = still_trans a before now.knows c.loop-lost.invariant.still
          (change_still before now.knows component key attempt lost c.go_on-attempt.ensures.changes);
      spared = λ first so_far. subst (λ (p : ChangeProgress). Spared first now.knows key p) on
          (spared_again first now.knows key attempt lost (c.go_on-attempt.ensures.spared first (c.loop-lost.invariant.spared first so_far)));
      counts = changes_more c.loop-lost.lost (tally_of a) (tally_of before) (tally_of now.knows) c.loop-lost.invariant.counts attempt lost
          c.go_on-attempt.ensures.counts;
      few = let more = c.if-lost-tries.false in let few = c.loop-lost.invariant.few in omega arith;
    }

pub returns-then-is_last-clause-changes : goal.returns-then-is_last-clause-changes
returns-then-is_last-clause-changes g c =
    tries_behind c.args.seat.now.knows c.loop-lost.seat.knows c.go_on-attempt.new.seat.knows c.args.self.now.component c.args.self.now.key
    c.go_on-attempt.result c.loop-lost.invariant.still c.go_on-attempt.ensures.changes

pub returns-then-is_last-clause-counts : goal.returns-then-is_last-clause-counts
returns-then-is_last-clause-counts g c =
    let last : (is_last c.go_on-attempt.result ≡ true) ⊎ (c.loop-lost.lost + 1 ≡ c.args.tries) = elim c.then-is_last.branch [
      | then-is_last-via-then-is_last w ↦ inl (sym c.is_last.ensures ∙ w.if-is_last.true)
      | then-is_last-via-else-is_last+then-lost-tries w ↦ inr (let e = w.if-lost-tries.true in omega arith)
    ] in
    changes_last c.loop-lost.lost (tally_of c.args.seat.now.knows) (tally_of c.loop-lost.seat.knows) (tally_of c.go_on-attempt.new.seat.knows)
    c.loop-lost.invariant.counts c.args.tries c.go_on-attempt.result c.loop-lost.invariant.few last c.go_on-attempt.ensures.counts

pub returns-then-is_last-clause-spared : goal.returns-then-is_last-clause-spared
returns-then-is_last-clause-spared g c = λ first so_far. c.go_on-attempt.ensures.spared first (c.loop-lost.invariant.spared first so_far)
