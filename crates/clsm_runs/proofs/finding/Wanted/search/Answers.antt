use Rattle.std.proofs.Common.{◌≡◌, ◌+◌, ◌-◌, ◌/◌, ◌%◌, Option, refl, sym, ap, ◌∙◌, arith}
use Rattle.clsm_levels.specs.declared.entry.Entry.{Entry}
use Rattle.clsm_levels.specs.Entry.{first_below, value_of}
use Rattle.clsm_law.specs.Worlds.{runs_of}
use Rattle.clsm_words.specs.Knowing.{row_of}
use Rattle.clsm_words.proofs.Keeps.{aside_trans}
use Rattle.clsm_runs.specs.Searching.{IsSearchable, run_at}
use Rattle.clsm_runs.proofs.NamedRuns.{names_zero, names_one}
use Rattle.clsm_runs.proofs.Looking.{found_stays}
use Rattle.clsm_runs.proofs.RunAfterRun.{found_here, found_behind, found_last, none_left}
use Rattle.clsm_runs.proofs.finding.Wanted.search.Given.{Over}
use Rattle.clsm_runs.proofs.finding.Wanted.search.Goals as goal
use Rattle.clsm_runs.proofs.finding.Wanted.search.Goals.{After-find}

-- what the run of a turn has of the key
abbrev here : (g : Over) → After-find g → Option Entry
here g c = first_below (run_at c.loop-place.seat.knows (c.loop-place.place - 1)) c.args.self.key c.args.self.until

-- the run of a turn is one that the component names, and has it from the beginning
stood : (g : Over) (c : After-find g) → here g c ≡ first_below (run_at c.args.seat.now.knows (c.loop-place.place - 1)) c.args.self.key c.args.self.until
stood g c =
    let run : IsSearchable c.args.seat.now.knows c.args.component (c.loop-place.place - 1) = record {
      held = c.requires.held;
      named = names_zero c.args.component (c.loop-place.place - 1) (let left = c.loop-place.invariant.left in omega arith);
    } in
    found_stays c.args.seat.now.knows c.loop-place.seat.knows c.args.component (c.loop-place.place - 1) c.args.self.key c.args.self.until (here g c)
    c.loop-place.invariant.looks.looks run refl

pub returns-then-find-clause-value : goal.returns-then-find-clause-value
returns-then-find-clause-value g c =
    let k = c.args.seat.now.knows in
    let turn = (goal.at.returns-then-find-clause-value g c).After-find in
    let all = found_here (row_of k) c.args.component c.args.self.key c.args.self.until c.loop-place.place
    (runs_of (row_of k) c.args.component) c.loop-place.invariant.searched (here g turn) (omega arith) (sym c.find.ensures.found ∙ c.if-find.true)
    (stood g turn) in
    c.find.ensures.value ∙ ap value_of all

pub loop-place-preserved : goal.loop-place-preserved
loop-place-preserved g c =
    let k = c.args.seat.now.knows in
    let turn = (goal.at.loop-place-preserved g c).After-find in
    let none = sym c.find.ensures.found ∙ c.if-find.false in
    record {
      of = c.find.ensures.of;
      looks = aside_trans k c.loop-place.seat.knows c.find.new.seat.knows c.loop-place.invariant.looks c.find.ensures.looks;
      empty = c.find.ensures.value ∙ none_left (here g turn) none;
      left = let left = c.loop-place.invariant.left in omega arith;
      searched = found_behind (row_of k) c.args.component c.args.self.key c.args.self.until c.loop-place.place
          (runs_of (row_of k) c.args.component) c.loop-place.invariant.searched (here g turn) (omega arith) none (stood g turn);
    }

pub returns-clause-value : goal.returns-clause-value
returns-clause-value g c =
    let k = c.args.seat.now.knows in
    let place = 3 + c.args.component / 4 % 2 in
    let run : IsSearchable k c.args.component place = record { held = c.requires.held; named = names_one c.args.component } in
    let last = first_below (run_at c.loop-place.seat.knows place) c.args.self.key c.args.self.until in
    let found = found_stays k c.loop-place.seat.knows c.args.component place c.args.self.key c.args.self.until last c.loop-place.invariant.looks.looks run
    refl in
    (rw c.level_one_place-place.ensures at c.find-2.ensures.value)
    ∙ ap value_of (found_last (row_of k) c.args.component c.args.self.key c.args.self.until c.loop-place.place
    (runs_of (row_of k) c.args.component) c.loop-place.invariant.searched last (omega arith) found)
