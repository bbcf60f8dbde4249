use Rattle.std.proofs.Common.{refl, sym, subst, ◌∙◌, Option}
use Rattle.clsm_words.proofs.Keeps.{aside_trans}
use Rattle.clsm_scan.specs.declared.any_walk.AnyWalk.{AnyWalk}
use Rattle.clsm_scan.specs.Optional.{found_in}
use Rattle.clsm_scan.specs.Streams.{HasAdded}
use Rattle.clsm_scan.specs.Walks.{any_found}
use Rattle.clsm_scan.proofs.AddedWalks.{added_ended, added_one}
use Rattle.clsm_scan.proofs.merged.Merged.add.Goals as goal

pub returns-then-go_on-clause-added : goal.returns-then-go_on-clause-added
returns-then-go_on-clause-added g c =
    let k = c.args.seat.now.knows in
    let k' = c.go_on.new.seat.knows in
    let looks = aside_trans k c.seek.new.seat.knows k' c.seek.ensures.looks c.go_on.ensures.looks in
    let m = c.args.self.now in
    subst (λ (o : Option AnyWalk). HasAdded c.args.lo k m k' (record { streams = c.push.new.self; lead = m.lead; hi = m.hi }) (found_in (any_found k) o))
    (sym c.in-Some.is)
    (added_one c.args.lo k k' m (record { streams = c.push.new.self; lead = m.lead; hi = m.hi }) c.in-Some.walk looks
    c.requires.merges.over c.requires.merges.stands refl
    c.go_on.new.self c.push.ensures.items c.go_on.ensures.over (c.go_on.ensures.ahead c.if-go_on.true).1
    (λ key. c.go_on.ensures.same key ∙ c.seek.ensures.same key))

pub returns-else-go_on-clause-added : goal.returns-else-go_on-clause-added
returns-else-go_on-clause-added g c =
    let k = c.args.seat.now.knows in
    let k' = c.go_on.new.seat.knows in
    let looks = aside_trans k c.seek.new.seat.knows k' c.seek.ensures.looks c.go_on.ensures.looks in
    subst (λ (o : Option AnyWalk). HasAdded c.args.lo k c.args.self.now k' c.args.self.now (found_in (any_found k) o)) (sym c.in-Some.is)
    (added_ended c.args.lo k k' c.args.self.now c.args.self.now c.in-Some.walk looks c.requires.merges.over c.requires.merges.stands refl refl
    (λ key from until. sym (c.seek.ensures.same key) ∙ c.go_on.ensures.ended c.if-go_on.false key from until))
