use Rattle.std.proofs.Common.{◌≡◌, ℕ, suc, ◌+◌, ◌<◌, List, length, length-set, remove, slice_index_or, slice_set, ap, ◌∙◌, sym, subst, arith}
use Rattle.std.specs.List.{refill}
use Rattle.arrayvec.proofs.ArrayVecLemmas.{items-with_items}
use Rattle.clsm_scan.specs.declared.merged.Stream.{Stream}
use Rattle.clsm_scan.specs.Streams.{AreAhead, AreOver, ArePast, IsAhead, all_ahead_stays, all_over_stays, first_of, first_of_stays}
use Rattle.clsm_scan.specs.Walks.{any_found, any_found_stays, any_over}
use Rattle.clsm_scan.proofs.Places.{all_at, all_remove, all_set, first_remove, first_set, nowhere, past_remove, past_set, remove_set}
use Rattle.clsm_scan.proofs.merged.Merged.pass_at.Given.{Over}
use Rattle.clsm_scan.proofs.merged.Merged.pass_at.Goals as goal
use Rattle.clsm_scan.proofs.merged.Merged.pass_at.Goals.{After-go_on}

-- ---- after the step: the streams before it are those of the loan

module _ (g : Over) (c : After-go_on g) where
  abbrev old : List Stream
  old = c.args.self.now.streams.items

  abbrev ss : List Stream
  ss = c.deref_mut.result.now

  lent : ss ≡ old
  lent = c.deref_mut.ensures.value

  put : refill (length old) old (slice_set ss c.args.at c.go_on.new.self) ≡ slice_set ss c.args.at c.go_on.new.self
  put = items-with_items c.args.self.now.streams (slice_set ss c.args.at c.go_on.new.self)
      (length-set ss c.args.at c.go_on.new.self ∙ ap (λ (l : List Stream). length l) lent)

  inside : c.args.at < length ss
  inside = subst (λ (l : List Stream). c.args.at < length l) (sym lent) c.requires.inside

  over : AreOver c.args.seat.now.knows ss
  over = subst (AreOver c.args.seat.now.knows) (sym lent) c.requires.merges.over

  over' : AreOver c.go_on.new.seat.knows ss
  over' = all_over_stays c.args.seat.now.knows c.go_on.new.seat.knows c.go_on.ensures.looks ss over

  ahead' : AreAhead c.go_on.new.seat.knows c.args.from c.args.self.now.hi ss
  ahead' = all_ahead_stays c.args.seat.now.knows c.go_on.new.seat.knows c.go_on.ensures.looks c.args.from c.args.self.now.hi ss over
      (subst (AreAhead c.args.seat.now.knows c.args.from c.args.self.now.hi) (sym lent) c.requires.merges.stands)

  past : ArePast c.args.from c.args.at ss
  past = subst (ArePast c.args.from c.args.at) (sym lent) c.requires.past

  found' : (key : ℕ) → first_of c.go_on.new.seat.knows ss key ≡ first_of c.args.seat.now.knows old key
  found' key = first_of_stays c.args.seat.now.knows c.go_on.new.seat.knows c.go_on.ensures.looks ss over key
      ∙ ap (λ (l : List Stream). first_of c.args.seat.now.knows l key) lent

  -- what its walk found before, it finds after the looks
  here : (key : ℕ) → any_found c.go_on.new.seat.knows (slice_index_or ss c.args.at nowhere).walk key
      ≡ any_found c.args.seat.now.knows (slice_index_or ss c.args.at nowhere).walk key
  here key = any_found_stays c.args.seat.now.knows c.go_on.new.seat.knows (slice_index_or ss c.args.at nowhere).walk c.go_on.ensures.looks
      (all_at (λ (s : Stream). any_over c.args.seat.now.knows s.walk) ss c.args.at nowhere inside over) key

-- ---- it went on

pub returns-then-go_on-clause-over : goal.returns-then-go_on-clause-over
returns-then-go_on-clause-over g c =
    let turn = (goal.at.returns-then-go_on-clause-over g c).After-go_on in
    subst (AreOver c.go_on.new.seat.knows) (sym (put g turn))
    (all_set (λ (s : Stream). any_over c.go_on.new.seat.knows s.walk) (ss g turn) c.args.at c.go_on.new.self c.go_on.ensures.over (over' g turn))

pub returns-then-go_on-clause-ahead : goal.returns-then-go_on-clause-ahead
returns-then-go_on-clause-ahead g c =
    let turn = (goal.at.returns-then-go_on-clause-ahead g c).After-go_on in
    subst (AreAhead c.go_on.new.seat.knows c.args.from c.args.self.now.hi) (sym (put g turn))
    (all_set (IsAhead c.go_on.new.seat.knows c.args.from c.args.self.now.hi) (ss g turn) c.args.at c.go_on.new.self
    (c.go_on.ensures.ahead c.if-go_on.true).1 (ahead' g turn))

pub returns-then-go_on-clause-past : goal.returns-then-go_on-clause-past
returns-then-go_on-clause-past g c =
    let turn = (goal.at.returns-then-go_on-clause-past g c).After-go_on in
    let one : suc c.args.at ≡ c.args.at + 1 = omega arith in
    subst (λ (n : ℕ). ArePast c.args.from n (refill (length (old g turn)) (old g turn) (slice_set (ss g turn) c.args.at c.go_on.new.self))) one
    (subst (ArePast c.args.from (suc c.args.at)) (sym (put g turn))
    (past_set c.args.from (ss g turn) c.args.at c.go_on.new.self (c.go_on.ensures.ahead c.if-go_on.true).0 (past g turn)))

pub returns-then-go_on-clause-same : goal.returns-then-go_on-clause-same
returns-then-go_on-clause-same g c =
    let turn = (goal.at.returns-then-go_on-clause-same g c).After-go_on in
    λ key from until. ap (λ (l : List Stream). first_of c.go_on.new.seat.knows l key) (put g turn)
    ∙ first_set c.go_on.new.seat.knows key (ss g turn) c.args.at nowhere c.go_on.new.self
    (c.go_on.ensures.same key ∙ sym (here g turn key)) ∙ found' g turn key

-- ---- it ended

-- it leaves
left : (g : Over) (c : After-go_on g) (rest : List Stream)
    → rest ≡ remove (refill (length (old g c)) (old g c) (slice_set (ss g c) c.args.at c.go_on.new.self)) c.args.at → rest ≡ remove (ss g c) c.args.at
left g c rest is = is ∙ ap (λ (l : List Stream). remove l c.args.at) (put g c) ∙ remove_set (ss g c) c.args.at c.go_on.new.self

pub returns-clause-over : goal.returns-clause-over
returns-clause-over g c =
    let turn = (goal.at.returns-clause-over g c).After-go_on in
    subst (AreOver c.go_on.new.seat.knows) (sym (left g turn c.end.new.self.streams.items c.end.ensures.removed))
    (all_remove (λ (s : Stream). any_over c.go_on.new.seat.knows s.walk) (ss g turn) c.args.at (over' g turn))

pub returns-clause-ahead : goal.returns-clause-ahead
returns-clause-ahead g c =
    let turn = (goal.at.returns-clause-ahead g c).After-go_on in
    subst (λ (hi : ℕ). AreAhead c.go_on.new.seat.knows c.args.from hi c.end.new.self.streams.items) (sym c.end.ensures.hi)
    (subst (AreAhead c.go_on.new.seat.knows c.args.from c.args.self.now.hi) (sym (left g turn c.end.new.self.streams.items c.end.ensures.removed))
    (all_remove (IsAhead c.go_on.new.seat.knows c.args.from c.args.self.now.hi) (ss g turn) c.args.at (ahead' g turn)))

pub returns-clause-past : goal.returns-clause-past
returns-clause-past g c =
    let turn = (goal.at.returns-clause-past g c).After-go_on in
    subst (ArePast c.args.from c.args.at) (sym (left g turn c.end.new.self.streams.items c.end.ensures.removed))
    (past_remove c.args.from (ss g turn) c.args.at (past g turn))

pub returns-clause-same : goal.returns-clause-same
returns-clause-same g c =
    let turn = (goal.at.returns-clause-same g c).After-go_on in
    λ key from until. ap (λ (l : List Stream). first_of c.go_on.new.seat.knows l key) (left g turn c.end.new.self.streams.items c.end.ensures.removed)
    ∙ first_remove c.go_on.new.seat.knows key (ss g turn) c.args.at nowhere (inside g turn)
    (here g turn key ∙ c.go_on.ensures.ended c.if-go_on.false key from until) ∙ found' g turn key
