use Rattle.std.proofs.Common.{arith, refl}
use Rattle.clsm_words.specs.Knowing.{row_of}
use Rattle.clsm_words.specs.Keeping.{LooksAside}
use Rattle.clsm_words.proofs.Keeps.{aside_trans}
use Rattle.clsm_runs.specs.declared.side.Side.{Side}
use Rattle.clsm_runs.specs.declared.side.Side.TheVariants.{Before, Behind, Hit}
use Rattle.clsm_runs.specs.Searching.{IsSide, count_of}
use Rattle.clsm_runs.proofs.NamedRuns.{run_there}
use Rattle.clsm_runs.proofs.Looking.{side_stays}
use Rattle.clsm_runs.proofs.Halving.{skips, behind, position_at, run_of_all}
use Rattle.clsm_runs.proofs.finding.Wanted.bound.Given.{Over}
use Rattle.clsm_runs.proofs.finding.Wanted.bound.Goals as goal
use Rattle.clsm_runs.proofs.finding.Wanted.bound.Goals.{After-compare}

-- ---- a turn, after the look at an entry

looks : (g : Over) (c : After-compare g) → LooksAside c.args.seat.now.knows c.compare.new.seat.knows
looks g c = aside_trans c.args.seat.now.knows c.loop-span.seat.knows c.compare.new.seat.knows c.loop-span.invariant.looks c.compare.ensures.looks

-- where it stands it stood before
stood : (g : Over) (c : After-compare g) (s : Side) → IsSide (row_of c.loop-span.seat.knows) c.args.run.place c.next-at.result c.args.self.key
    c.args.self.until s
    → IsSide (row_of c.args.seat.now.knows) c.args.run.place c.next-at.result c.args.self.key c.args.self.until s
stood g c s = side_stays c.args.seat.now.knows c.loop-span.seat.knows c.args.run.component c.args.run.place c.next-at.result c.args.self.key c.args.self.until s
    c.loop-span.invariant.looks.looks c.requires.run

pub loop-span-preserved-in-Before : goal.loop-span-preserved-in-Before
loop-span-preserved-in-Before g c =
    let k = c.args.seat.now.knows in
    let at = c.next-at.result in
    let place = c.args.run.place in
    let before = c.loop-span.invariant.span in
    let side = stood g (goal.at.loop-span-preserved-in-Before g c).After-compare (Before c.in-Before.found) c.in-Before.ensures.side in
    let run = (run_there k c.args.run.component place c.show_invariant.ensures c.requires.run).order in
    record {
      of = c.compare.ensures.of;
      looks = looks g (goal.at.loop-span-preserved-in-Before g c).After-compare;
      span = record {
        order = omega arith;
        within = before.within;
        stands = skips k place c.args.self.key c.args.self.until c.loop-span.span.low at run before.stands (omega arith) (omega arith) side;
        at_high = before.at_high;
      };
    }

pub loop-span-preserved-in-Hit : goal.loop-span-preserved-in-Hit
loop-span-preserved-in-Hit g c =
    let at = c.next-at.result in
    let before = c.loop-span.invariant.span in
    let side = stood g (goal.at.loop-span-preserved-in-Hit g c).After-compare (Hit c.in-Hit.spelled) c.in-Hit.ensures.side in
    record {
      of = c.compare.ensures.of;
      looks = looks g (goal.at.loop-span-preserved-in-Hit g c).After-compare;
      span = record {
        order = omega arith;
        within = omega arith;
        stands = before.stands;
        at_high = (refl, omega arith, side);
      };
    }

pub loop-span-preserved : goal.loop-span-preserved
loop-span-preserved g c =
    let k = c.args.seat.now.knows in
    let at = c.next-at.result in
    let place = c.args.run.place in
    let before = c.loop-span.invariant.span in
    let side = stood g (goal.at.loop-span-preserved g c).After-compare (Behind c.in-Behind.found) c.in-Behind.ensures.side in
    let run = run_of_all k place (run_there k c.args.run.component place c.show_invariant.ensures c.requires.run).order in
    record {
      of = c.compare.ensures.of;
      looks = looks g (goal.at.loop-span-preserved g c).After-compare;
      span = record {
        order = omega arith;
        within = omega arith;
        stands = before.stands;
        at_high = behind (row_of k) place (count_of k place) c.args.self.key c.args.self.until at run (omega arith) side;
      };
    }

pub returns-clause-found : goal.returns-clause-found
returns-clause-found g c =
    let span = c.loop-span.invariant.span in
    position_at c.args.seat.now.knows c.args.run.place c.args.self.key c.args.self.until c.loop-span.span.low c.loop-span.span.high c.loop-span.span.hit
    (omega arith) span.stands span.at_high
