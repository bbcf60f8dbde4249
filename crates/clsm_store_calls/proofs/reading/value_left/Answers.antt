use Rattle.std.proofs.Common.{refl, ◌∙◌, subst}
use Rattle.clsm_levels.specs.Run.{first_in_runs}
use Rattle.clsm_law.specs.Worlds.{runs_of}
use Rattle.clsm_words.specs.Knowing.{row_of}
use Rattle.clsm_search.specs.Searching.{IsNewest}
use Rattle.clsm_store_calls.proofs.Found.{epochs_answer, runs_answer}
use Rattle.clsm_store_calls.proofs.reading.value_left.Goals as goal

pub returns-in-Some-clause-value : goal.returns-in-Some-clause-value
returns-in-Some-clause-value g c =
    c.value_at.ensures.value ∙ epochs_answer c.args.seat.now.knows c.newest.new.seat.knows c.args.point.component c.args.key c.args.point.until
    c.in-Some.time c.newest.ensures.looks c.in-Some.ensures.newest

pub returns-clause-value : goal.returns-clause-value
returns-clause-value g c =
    let k = c.args.seat.now.knows in
    let k' = c.newest.new.seat.knows in
    let none = subst (IsNewest k c.args.point.component c.args.key c.args.point.until) c.in_default.is c.newest.ensures.newest in
    let entry = first_in_runs (runs_of (row_of k') c.args.point.component) c.args.key c.args.point.until in
    c.search.ensures.value
    ∙ runs_answer k k' c.args.point.component c.args.key c.args.point.until entry c.newest.ensures.looks c.show_invariant.ensures c.requires.may.held
    c.requires.may.may c.requires.may.settled none refl
