use Rattle.std.proofs.Common.{◌≡◌, ℕ, ◌+◌, ◌<◌, ◌^◌, ◌∷◌, [], List, Ok, Err, IfErr, length, arith, sym, ◌∙◌, ap, subst}
use Rattle.std.specs.declared.result.Result.{Result}
use Rattle.clsm_levels.specs.declared.entry.Entry.{Entry}
use Rattle.clsm_levels.specs.declared.entry.Version.{Version}
use Rattle.clsm_levels.specs.Cursors.{HeadsOf, cursor_at, rests}
use Rattle.clsm_levels.specs.Merge.{is_to_level_one, kept, merged}
use Rattle.clsm_levels.specs.Run.{all_of}
use Rattle.clsm_law.specs.declared.layout.Layout.{Layout}
use Rattle.clsm_law.specs.declared.merger.MergerView.{MergerView}
use Rattle.clsm_law.specs.Memory.{room_of}
use Rattle.clsm_law.specs.declared.word.Word.{Word}
use Rattle.clsm_law.specs.declared.word.Word.TheVariants.{Count}
use Rattle.clsm_law.specs.Merging.{place_of, target_of}
use Rattle.clsm_runs.specs.declared.merging.RunFull.{RunFull}
use Rattle.clsm_words.specs.Changing.{Changes, NoWord}
use Rattle.clsm_runs.specs.Placing.{IsOfPlace, rows_of}
use Rattle.clsm_runs.specs.Outputs.{AreSources, IsTaken, LeavesOff, kept_of}
use Rattle.clsm_words.proofs.Changing.{changes_more, changes_trans, writes_only}
use Rattle.clsm_search.proofs.FrozenWalks.{behind_stays}
use Rattle.clsm_runs.proofs.EpochWalks.{walked_on}
use Rattle.clsm_runs.proofs.Remaining.{output_stays}
use Rattle.clsm_runs.proofs.Finishing.{has_written, left_at_first, left_looked}
use Rattle.clsm_runs.proofs.MergeRows.{rows_stay, taken_stays}
use Rattle.clsm_runs.proofs.MergeSources.{are_sources}
use Rattle.clsm_runs.proofs.merging.merge.Given.{Over}
use Rattle.clsm_runs.proofs.merging.merge.Goals as goal
use Rattle.clsm_runs.proofs.merging.merge.Goals.{After-next, After-show_invariant-in-Some}

where_refused : (Q : Type 0) (r : Result (Unit {0}) RunFull) → Q → IfErr r (λ refusal. Q)
where_refused Q (Ok done) q = tt
where_refused Q (Err refusal) q = q

pub loop-winner-init : goal.loop-winner-init
loop-winner-init g c =
    let k = c.args.merger.now.knows in
    let k' = c.open_cursors-cursors.new.merger.knows in
    let looks = c.open_cursors-cursors.ensures.looks in
    let rows = rows_of k in
    let first = left_at_first k' c.open_output-output.result rows c.open_cursors-cursors.result c.args.floor c.args.merges
    c.open_output-output.ensures.begins c.open_output-output.ensures.rule c.open_cursors-cursors.ensures.begins in
    record {
      of = c.open_cursors-cursors.ensures.of;
      changes = changes_more NoWord (IsOfPlace (target_of k.merger)) k k' (λ word no. absurd no) looks;
      output = output_stays NoWord k k' c.open_output-output.result looks c.open_output-output.ensures.output;
      place = c.open_output-output.ensures.place;
      long = c.open_cursors-cursors.ensures.long;
      heads = c.open_cursors-cursors.ensures.heads;
      ahead = c.open_cursors-cursors.ensures.ahead;
      left = subst (λ (m : ℕ). LeavesOff k' c.open_output-output.result (merged (rests rows c.open_cursors-cursors.result))
          (kept c.args.floor (is_to_level_one m) (merged (all_of rows)))) (sym c.requires.merging.merged) first;
    }

pub next-requires-clause-sources : goal.next-requires-clause-sources
next-requires-clause-sources g c =
    let k = c.args.merger.now.knows in
    let inv = c.loop-winner.invariant in
    subst AreSources (sym (rows_stay k c.loop-winner.merger.knows c.args.merges c.show_invariant.ensures c.requires.merging inv.changes))
    (are_sources k c.show_invariant.ensures)

pub next-requires-clause-heads : goal.next-requires-clause-heads
next-requires-clause-heads g c =
    let k = c.args.merger.now.knows in
    let inv = c.loop-winner.invariant in
    subst (λ (rows : List (List Entry)). HeadsOf rows c.loop-winner.cursors)
    (sym (rows_stay k c.loop-winner.merger.knows c.args.merges c.show_invariant.ensures c.requires.merging inv.changes)) inv.heads

pub take-requires-clause-merging : goal.take-requires-clause-merging
take-requires-clause-merging g c =
    let inv = c.loop-winner.invariant in
    behind_stays NoWord c.loop-winner.merger.knows c.next.new.merger.knows c.in-Some.ensures.looks c.args.merges
    (behind_stays (IsOfPlace
    (target_of c.args.merger.now.knows.merger)) c.args.merger.now.knows c.loop-winner.merger.knows inv.changes c.args.merges c.requires.merging)

-- ---- a turn, after the look for the next entry

-- what was written up to there is of the target
written : (g : Over) (c : After-next g) → Changes (IsOfPlace (target_of c.args.merger.now.knows.merger)) c.args.merger.now.knows c.next.new.merger.knows
written g c =
    let k = c.args.merger.now.knows in
    let now = c.loop-winner.merger.knows in
    let then = c.next.new.merger.knows in
    let target = target_of k.merger in
    changes_trans (IsOfPlace target) k now then c.loop-winner.invariant.changes
    (changes_more NoWord (IsOfPlace target) now then (λ word no. absurd no) c.next.ensures.looks)

-- ---- and after it found one

-- the rows are as they were at first
same : (g : Over) (c : After-show_invariant-in-Some g) → rows_of c.loop-winner.merger.knows ≡ rows_of c.args.merger.now.knows
same g c = rows_stay c.args.merger.now.knows c.loop-winner.merger.knows c.args.merges c.show_invariant.ensures c.requires.merging
    c.loop-winner.invariant.changes

abbrev rest : (g : Over) → After-show_invariant-in-Some g → List Entry
rest g c = merged (rests (rows_of c.args.merger.now.knows) c.next.new.cursors)

-- it is the next one that is left
picked : (g : Over) (c : After-show_invariant-in-Some g)
    → merged (rests (rows_of c.args.merger.now.knows) c.loop-winner.cursors) ≡ c.in-Some.ensures.next.0 ∷ rest g c
picked g c = subst
    (λ (rows : List (List Entry)). merged (rests rows c.loop-winner.cursors) ≡ c.in-Some.ensures.next.0 ∷ merged (rests rows c.next.new.cursors))
    (same g c) c.in-Some.ensures.next.1

before : (g : Over) (c : After-show_invariant-in-Some g)
    → LeavesOff c.next.new.merger.knows c.loop-winner.output (c.in-Some.ensures.next.0 ∷ rest g c) (kept_of c.args.merger.now.knows c.args.floor)
before g c =
    let o = c.loop-winner.output in
    let all = kept_of c.args.merger.now.knows c.args.floor in
    subst (λ (l : List Entry). LeavesOff c.next.new.merger.knows o l all) (picked g c)
    (left_looked c.loop-winner.merger.knows c.next.new.merger.knows o (merged (rests (rows_of c.args.merger.now.knows) c.loop-winner.cursors)) all
    c.in-Some.ensures.looks c.loop-winner.invariant.left)

taken : (g : Over) (c : After-show_invariant-in-Some g) → IsTaken (rows_of c.next.new.merger.knows) c.in-Some.winner c.in-Some.ensures.next.0
taken g c = taken_stays c.loop-winner.merger.knows c.in-Some.winner c.in-Some.ensures.next.0 c.in-Some.ensures.next.2 c.args.merger.now.knows
    c.next.new.merger.knows c.args.merges c.show_invariant.ensures c.requires.merging c.loop-winner.invariant.changes c.in-Some.ensures.looks

pub take-requires-clause-there : goal.take-requires-clause-there
take-requires-clause-there g c =
    (c.in-Some.ensures.next.0, taken g (goal.at.take-requires-clause-there g c).After-show_invariant-in-Some)

pub take-requires-clause-early : goal.take-requires-clause-early
take-requires-clause-early g c = subst (λ (v : Version). v.time < 2 ^ 62) c.in-Some.ensures.next.2.version c.in-Some.ensures.next.3

pub loop-winner-smaller : goal.loop-winner-smaller
loop-winner-smaller g c =
    let turn = (goal.at.loop-winner-smaller g c).After-show_invariant-in-Some in
    let less : length (rest g turn) < length (merged (rests (rows_of c.args.merger.now.knows) c.loop-winner.cursors)) =
    omega (arith, ap (λ (l : List Entry). length l) (picked g turn)) in
    less

pub loop-winner-preserved : goal.loop-winner-preserved
loop-winner-preserved g c =
    let k = c.args.merger.now.knows in
    let then = c.next.new.merger.knows in
    let inv = c.loop-winner.invariant in
    let at = goal.at.loop-winner-preserved g c in
    let turn = at.After-show_invariant-in-Some in
    let done = c.in_ok-take.ensures in
    record {
      of = done.of;
      changes = changes_trans (IsOfPlace (target_of k.merger)) k then c.take.new.merger.knows (written g at.After-next)
          (subst (λ (p : ℕ). Changes (IsOfPlace p) then c.take.new.merger.knows) inv.place done.changes);
      output = done.output;
      place = done.same.place ∙ inv.place;
      long = c.in-Some.ensures.long;
      heads = subst (λ (rows : List (List Entry)). HeadsOf rows c.next.new.cursors) (same g turn) c.in-Some.ensures.heads;
      ahead = walked_on (IsOfPlace c.loop-winner.output.place) then c.take.new.merger.knows c.next.new.walk
          ((cursor_at c.next.new.cursors 0).position + 1) done.changes c.show_invariant-in-Some.ensures c.in-Some.ensures.ahead;
      left = done.goes_on c.in-Some.ensures.next.0 (rest g turn) (kept_of k c.args.floor) (taken g turn) (before g turn);
    }

pub returns-in_err-take-clause-full : goal.returns-in_err-take-clause-full
returns-in_err-take-clause-full g c =
    let k = c.args.merger.now.knows in
    let inv = c.loop-winner.invariant in
    let all = kept_of k c.args.floor in
    let turn = (goal.at.returns-in_err-take-clause-full g c).After-show_invariant-in-Some in
    let full = c.in_err-take.ensures.full c.in-Some.ensures.next.0 (rest g turn) all (taken g turn) (before g turn) in
    let room : c.loop-winner.output.room ≡ room_of k.layout (target_of k.merger) = inv.output.room
    ∙ ap (room_of c.loop-winner.merger.knows.layout) inv.place ∙ ap (λ (z : Layout). room_of z (target_of k.merger)) inv.changes.layout in
    where_refused (room_of k.layout (target_of k.merger) < length all) c.from_residual.result (omega arith)

pub returns-clause-written : goal.returns-clause-written
returns-clause-written g c =
    let k = c.args.merger.now.knows in
    let now = c.loop-winner.merger.knows in
    let then = c.next.new.merger.knows in
    let inv = c.loop-winner.invariant in
    let o = c.loop-winner.output in
    let rows = rows_of k in
    let all = kept_of k c.args.floor in
    let none : rests rows c.loop-winner.cursors
    ≡ [] = subst (λ (rows : List (List Entry)). rests rows c.loop-winner.cursors ≡ [])
    (rows_stay k now c.args.merges c.show_invariant.ensures c.requires.merging inv.changes) c.in_default.ensures.next in
    let looks = c.in_default.ensures.looks in
    let left : LeavesOff then o [] all = subst (λ (l : List Entry). LeavesOff then o (merged l) all) none
    (left_looked now then o (merged (rests rows c.loop-winner.cursors)) all looks inv.left) in
    has_written then c.write_run.new.seat.knows o all c.write_run.ensures.0 left (output_stays NoWord now then o looks inv.output)
    (inv.place ∙ ap (λ (m : MergerView). target_of m) (sym inv.changes.view) ∙ ap (λ (m : MergerView). target_of m) (sym looks.view)) c.write_run.ensures.1.1

pub returns-in_err-take-clause-changes : goal.returns-in_err-take-clause-changes
returns-in_err-take-clause-changes g c =
    let k = c.args.merger.now.knows in
    let then = c.next.new.merger.knows in
    changes_trans (IsOfPlace (target_of k.merger)) k then c.take.new.merger.knows (written g (goal.at.returns-in_err-take-clause-changes g c).After-next)
    (subst (λ (p : ℕ). Changes (IsOfPlace p) then c.take.new.merger.knows) c.loop-winner.invariant.place c.in_err-take.ensures.changes)

pub returns-clause-changes : goal.returns-clause-changes
returns-clause-changes g c =
    let k = c.args.merger.now.knows in
    let then = c.next.new.merger.knows in
    let target = target_of k.merger in
    let count = c.write_run.ensures in
    let last = c.write_run.new.seat.knows in
    changes_trans (IsOfPlace target) k then last (written g (goal.at.returns-clause-changes g c).After-next)
    (changes_more (λ (other : Word). other ≡ Count c.loop-winner.output.place) (IsOfPlace target) then last
    (λ word is. ap place_of is ∙ c.loop-winner.invariant.place)
    (writes_only then last (Count c.loop-winner.output.place) c.loop-winner.output.count count.0 count.1.1))
