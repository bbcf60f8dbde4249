use Rattle.std.proofs.Common.{◌++◌, ◌<◌, List, get_or, length, set, sym, subst, arith}
use Rattle.clsm_store_calls.specs.Seats.{SeatState}
use Rattle.clsm_script.specs.Play.{PairMeets}
use Rattle.clsm_script.proofs.Pairs.{at_low, at_high, put_low_first, put_high_first}
use Rattle.clsm_script.proofs.session.meet_pair.Goals as goal

pub returns-then-other-one : goal.returns-then-other-one
returns-then-other-one g c =
    let parts = c.split_at_mut-low.ensures in
    let low : List SeatState = c.split_at_mut-low.result.0.now in
    let high : List SeatState = c.split_at_mut-low.result.1.now in
    let inside = c.requires.one in
    let some : 0 < length high = let back = parts.back_len in omega arith in
    let below = c.if-other-one.true in
    let new : List SeatState = set low c.args.other c.meet.new.other ++ set high 0 c.meet.new.one in
    subst (λ seats. PairMeets c.args.one c.args.other c.meet.result seats new) (sym parts.value)
    (record {
      one = get_or high 0 c.index-high-0.result;
      one_after = c.meet.new.one;
      other = get_or low c.args.other c.index-low-other.result;
      other_after = c.meet.new.other;
      at =
          at_high low high c.args.one c.args.other parts.front_len below c.index-high-0.result
          some;
      other_at =
          at_low low high c.args.one c.args.other parts.front_len below c.index-low-other.result;
      above = c.meet.ensures.above;
      above_other = c.meet.ensures.above_other;
      meets = c.meet.ensures.one;
      other_meets = c.meet.ensures.other;
      begins = c.meet.ensures.begins;
      seats =
          put_high_first low high c.args.one c.args.other parts.front_len below c.meet.new.other
          c.meet.new.one;
    })

pub returns : goal.returns
returns g c =
    let parts = c.split_at_mut-low-2.ensures in
    let low : List SeatState = c.split_at_mut-low-2.result.0.now in
    let high : List SeatState = c.split_at_mut-low-2.result.1.now in
    let inside = c.requires.other in
    let some : 0 < length high = let back = parts.back_len in omega arith in
    let below : c.args.one < c.args.other =
    let least = c.if-other-one.false in let apart = c.requires.apart in omega arith in
    let new : List SeatState =
    set low c.args.one c.meet-2.new.one ++ set high 0 c.meet-2.new.other in
    subst (λ seats. PairMeets c.args.one c.args.other c.meet-2.result seats new) (sym parts.value)
    (record {
      one = get_or low c.args.one c.index-low-one.result;
      one_after = c.meet-2.new.one;
      other = get_or high 0 c.index-high-0-2.result;
      other_after = c.meet-2.new.other;
      at = at_low low high c.args.other c.args.one parts.front_len below c.index-low-one.result;
      other_at =
          at_high low high c.args.other c.args.one parts.front_len below c.index-high-0-2.result
          some;
      above = c.meet-2.ensures.above;
      above_other = c.meet-2.ensures.above_other;
      meets = c.meet-2.ensures.one;
      other_meets = c.meet-2.ensures.other;
      begins = c.meet-2.ensures.begins;
      seats =
          put_low_first low high c.args.other c.args.one parts.front_len below c.meet-2.new.one
          c.meet-2.new.other;
    })
