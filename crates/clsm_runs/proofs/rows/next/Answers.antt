use Rattle.std.proofs.Common.{◌≡◌, ◌≢◌, ℕ, refl, subst, ◌+◌, ◌<◌, ◌^◌, sym, ◌∙◌, arith, drop, length}
use Rattle.clsm_levels.specs.declared.entry.Entry.{Entry}
use Rattle.clsm_levels.specs.declared.cursor.Cursor.{Cursor}
use Rattle.clsm_levels.specs.Cursors.{IsLeast, cursor_at, row_at}
use Rattle.clsm_levels.specs.Entry.{AreBelow}
use Rattle.clsm_levels.proofs.Picks.{at_set, head_entry, nothing_left, picks}
use Rattle.clsm_words.specs.Changing.{NoWord}
use Rattle.clsm_search.specs.declared.frozen_walk.FrozenWalk.{FrozenWalk}
use Rattle.clsm_runs.specs.Outputs.{IsWalkedTo}
use Rattle.clsm_runs.specs.Placing.{rows_of}
use Rattle.clsm_runs.proofs.EpochWalks.{walked_on}
use Rattle.clsm_runs.proofs.MergeRows.{every_first, every_row, few_rows}
use Rattle.clsm_runs.proofs.rows.next.Goals as goal

pub returns-clause-next : goal.returns-clause-next
returns-clause-next g c =
    let rows = rows_of c.args.merger.now.knows in
    let cursors = c.args.cursors.now in
    let row = c.in-Some.row in
    let least = c.in-Some.ensures in
    let few = few_rows c.args.merger.now.knows in
    let at = (cursor_at cursors row).position in
    let head = head_entry (drop at (row_at rows row)) c.in-Some.version (sym (c.requires.heads row least.0) ∙ least.1) in (
      head.0,
      picks rows cursors row head.0 c.cursor_to.result (let long = c.requires.long in omega arith) c.requires.sources.rise c.requires.heads head.1
          (subst (IsLeast cursors (length cursors) row) (sym head.2) least) c.cursor_to.ensures.position,
      record { stands = head.1; version = head.2 },
      every_first (λ (x : Entry). x.time < 2 ^ 62) (row_at rows row) at head.0 (every_row (AreBelow (2 ^ 62)) rows row tt c.requires.sources.early) head.1,
      let long = c.requires.long in let inside = least.0 in omega arith,
    )

pub returns-in_default-clause-next : goal.returns-in_default-clause-next
returns-in_default-clause-next g c =
    let few = few_rows c.args.merger.now.knows in
    nothing_left (rows_of c.args.merger.now.knows) c.args.cursors.now (let long = c.requires.long in omega arith) c.requires.heads c.in_default.ensures

pub returns-clause-ahead : goal.returns-clause-ahead
returns-clause-ahead g c =
    let k = c.args.merger.now.knows in
    let k' = c.cursor_to.new.merger.knows in
    let cursors = c.args.cursors.now in
    let row = c.in-Some.row in
    let new = c.cursor_to.result in
    at_set (λ (j : ℕ) (x : Cursor). j ≡ 0 → IsWalkedTo k' c.cursor_to.new.walk (x.position + 1)) cursors row new c.in-Some.ensures.0
    (λ first. subst (λ (n : ℕ). IsWalkedTo k' c.cursor_to.new.walk (n + 1)) (sym c.cursor_to.ensures.position) (c.cursor_to.ensures.walked first))
    (λ j ne first.
    let other : row ≢ 0 = λ e. ne (first ∙ sym e) in
    subst (λ (y : FrozenWalk × ℕ). IsWalkedTo k' y.0 ((cursor_at cursors y.1).position + 1)) (λ i. (sym (c.cursor_to.ensures.stays other) i, sym first i))
    (walked_on NoWord k k' c.args.walk.now ((cursor_at cursors 0).position + 1) c.cursor_to.ensures.looks c.show_invariant.ensures c.requires.ahead)) 0 refl
