use Rattle.std.proofs.Common.{◌<◌, ◌+◌, length, List, ap, ◌∙◌, sym, subst, arith}
use Rattle.clsm_store_calls.specs.Seats.{SeatState, known_by}
use Rattle.clsm_store.specs.Settling.{HaveFollowed}
use Rattle.clsm_store.proofs.SeatPlaces.{put_again, read_is}
use Rattle.clsm_store.proofs.Chained.{followed_chain, followed_met, followed_next}
use Rattle.clsm_store.proofs.settling.follow_all.Goals as goal

pub loop-place-preserved : goal.loop-place-preserved
loop-place-preserved g c =
    let l : List SeatState = c.loop-place.seats.items in
    let i = c.loop-place.place in
    let x : SeatState = c.follow.new.seat in
    let y : SeatState = c.tell-newest.new.seat in
    let z : SeatState = c.index_mut-in-loop-place.result.now in
    let inside : i < length l = let a = c.loop-place-test.true in let b = c.len-place-end.ensures in let d = c.args.seats.now.ok.0 in let e =
    c.loop-place.invariant.count in omega arith in
    let is = read_is l i inside x y z c.index_mut-in-loop-place.ensures.value in
    subst (λ (s : List SeatState). HaveFollowed c.args.store.now c.args.message c.args.seats.now.items s c.tell-newest.result (i + 1))
    (sym (put_again l i inside x y z c.index_mut-in-loop-place.ensures.value c.tell-newest.ensures.seat))
    (followed_next _ _ _ _ _ _ c.loop-place.invariant c.index_mut.result.now x c.follow.result c.follow.ensures c.tell-newest.result
    (c.tell-newest.ensures.told ∙ ap (λ (s : SeatState). known_by s) is) (c.tell-newest.ensures.heard ∙ ap (λ (s : SeatState). s.due) is)
    (inside, sym c.index_mut.ensures.value) c.tell-newest.ensures.table)

pub returns-clause-met : goal.returns-clause-met
returns-clause-met g c = followed_met _ _ _ _ _ _ c.loop-place.invariant
    (let a = c.loop-place-test.false in let b = c.len-place-end.ensures in let d = c.args.seats.now.ok.0 in let e = c.loop-place.auto.place-end in
    omega arith)

pub returns-clause-chained : goal.returns-clause-chained
returns-clause-chained g c = followed_chain _ _ _ _ _ _ c.loop-place.invariant
    (let a = c.loop-place-test.false in let b = c.len-place-end.ensures in let d = c.args.seats.now.ok.0 in let e = c.loop-place.auto.place-end in
    omega arith)
