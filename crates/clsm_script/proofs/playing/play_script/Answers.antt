use Rattle.std.proofs.Common.{ap, refl, []}
use Rattle.clsm_store.specs.declared.phase.Phase.TheVariants.{Clean}
use Rattle.clsm_script.specs.Lines.{IsNewStage, stage_of}
use Rattle.clsm_script.proofs.Chains.{ended_played, ended_stops, new_reader, stopped_fault}
use Rattle.clsm_script.proofs.playing.play_script.Goals as goal

pub play_lines-played-requires : goal.play_lines-played-requires
play_lines-played-requires g c =
    c.new-session.ensures.session c.in_ok-store.field-0.store c.in_ok-store.ensures.store c.in_ok-store.ensures.seats
    c.in_ok-store.ensures.sizes.1.0

pub settle_seats-requires-clause-ends : goal.settle_seats-requires-clause-ends
settle_seats-requires-clause-ends g c =
    c.play_lines-played.ensures.session

pub settle_seats-requires-clause-fault : goal.settle_seats-requires-clause-fault
settle_seats-requires-clause-fault g c is =
    stopped_fault c.play_lines-played.result _ _ _ c.play_lines-played.ensures.stopped is

pub returns-clause-played : goal.returns-clause-played
returns-clause-played g c =
    let merger = c.in_ok-store.field-0.merger in
    let start = stage_of c.new-session.result (Clean merger) [] in
    let new : IsNewStage c.args.setting.now.config start = record {
      store = c.in_ok-store.field-0.store;
      merger = merger;
      sizes = c.in_ok-store.ensures.store;
      session = c.new-session.ensures.fresh c.in_ok-store.field-0.store c.in_ok-store.ensures.seats;
      merger_is = c.in_ok-store.ensures.merger;
      phase_is = refl;
      printed_is = refl;
    } in
    ended_played c.args.setting.now.config start _ _ _ _ _ c.play_lines-played.result new
    (new_reader _ _ _ _ c.in-Ok.ensures.empty c.in-Ok.ensures.capacity (ap g.R.Read.remaining c.in-Ok.ensures.inner))
    c.settle_seats.ensures.whole c.play_lines-played.ensures.played

pub returns-clause-stopped : goal.returns-clause-stopped
returns-clause-stopped g c =
    ended_stops c.play_lines-played.result _ c.args.setting.now.config _ _ _
    (new_reader _ _ _ _ c.in-Ok.ensures.empty c.in-Ok.ensures.capacity (ap g.R.Read.remaining c.in-Ok.ensures.inner))
    c.in_ok-store.ensures.sizes c.play_lines-played.ensures.stopped c.settle_seats.ensures.faultless
