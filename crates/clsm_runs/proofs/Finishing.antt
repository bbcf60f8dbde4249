-- A merge before its first entry, over a look, and when it has taken each entry and writes how many
-- it has written.
use Rattle.std.proofs.Common.{◌≡◌, ℕ, ◌<◌, ◌≤◌, Bool, true, List, [], ◌++◌, append-nil, length, Option, None, ap, sym, ◌∙◌, arith, subst}
use Rattle.clsm_levels.specs.declared.entry.Entry.{Entry}
use Rattle.clsm_levels.specs.declared.cursor.Cursor.{Cursor}
use Rattle.clsm_levels.specs.Cursors.{cursor_at, rests}
use Rattle.clsm_levels.specs.Merge.{is_to_level_one, kept, merged}
use Rattle.clsm_levels.specs.Pass.{kept_after}
use Rattle.clsm_levels.specs.Run.{all_of}
use Rattle.clsm_levels.proofs.Merges.{keys_rise-merged}
use Rattle.clsm_levels.proofs.Passes.{kept_after-none}
use Rattle.clsm_levels.proofs.Picks.{all_left}
use Rattle.clsm_law.specs.declared.layout.Layout.{Layout}
use Rattle.clsm_law.specs.declared.merger.MergerView.{MergerView}
use Rattle.clsm_law.specs.declared.word.Word.TheVariants.{Count, Entry as EntryWord}
use Rattle.clsm_law.specs.declared.step.Step.TheVariants.{WriteRun}
use Rattle.clsm_law.specs.Memory.{room_of}
use Rattle.clsm_law.specs.Merging.{target_of}
use Rattle.clsm_law.specs.Places.{entries_from, entries_in}
use Rattle.clsm_law.specs.Worlds.{are_canonical, is_canonical, passes_from}
use Rattle.clsm_law.proofs.Runs.Kept.{entry_canonical}
use Rattle.clsm_law.proofs.Passes.{passes_at, passes_if}
use Rattle.clsm_words.specs.declared.known.Known.{Known}
use Rattle.clsm_words.specs.Knowing.{row_of}
use Rattle.clsm_words.specs.Merging.{FollowsMerger}
use Rattle.clsm_runs.specs.declared.output.Output.{Output}
use Rattle.clsm_words.specs.Changing.{Changes, NoWord}
use Rattle.clsm_runs.specs.Outputs.{HasWritten, IsOutput, LeavesOff}
use Rattle.clsm_words.proofs.Changing.{writes_only}
use Rattle.clsm_runs.proofs.Taking.{entries_under}

-- nothing is written yet
pub left_at_first : (k : Known) (o : Output) (rows : List (List Entry)) (cursors : List Cursor) (floor m : ℕ) → (o.count ≡ 0) × (o.settled ≡ None)
    → (o.floor ≡ floor) × (o.to_level_one ≡ is_to_level_one m) → ((i : ℕ) → i < length cursors → (cursor_at cursors i).position ≡ 0)
    → LeavesOff k o (merged (rests rows cursors)) (kept floor (is_to_level_one m) (merged (all_of rows)))
left_at_first k o rows cursors floor m begins rule first = record {
  split =
      ap (λ (n : ℕ). entries_from (row_of k) o.place 0 n ++ kept_after o.settled o.floor o.to_level_one (merged (rests rows cursors))) begins.0
      ∙ ap (λ (s : Option ℕ). kept_after s o.floor o.to_level_one (merged (rests rows cursors))) begins.1
      ∙ ap (λ (f : ℕ). kept_after None f o.to_level_one (merged (rests rows cursors))) rule.0
      ∙ ap (λ (one : Bool). kept_after None floor one (merged (rests rows cursors))) rule.1
      ∙ ap (λ (l : List Entry). kept_after None floor (is_to_level_one m) (merged l)) (all_left rows cursors first)
      ∙ kept_after-none floor (is_to_level_one m) (merged (all_of rows)) (keys_rise-merged (all_of rows));
  canonical = ap (passes_from (is_canonical (row_of k) o.place) 0) begins.0;
}

-- a look changes nothing of it
pub left_looked : (k k' : Known) (o : Output) (rest all : List Entry) → Changes NoWord k k' → LeavesOff k o rest all → LeavesOff k' o rest all
left_looked k k' o rest all looks left = record {
  split = ap (λ (l : List Entry). l ++ kept_after o.settled o.floor o.to_level_one rest)
      (entries_under (row_of k) (row_of k') o.place 0 o.count (λ e part lt. looks.stays (EntryWord o.place e part) tt (λ no. no))) ∙ left.split;
  canonical = passes_if (is_canonical (row_of k') o.place) 0 o.count
      (λ i from until. entry_canonical (row_of k) (row_of k') o.place i (λ part. looks.stays (EntryWord o.place i part) tt (λ no. no))
      ∙ passes_at (is_canonical (row_of k) o.place) 0 o.count i left.canonical from until);
}

module _ (k k' : Known) (o : Output) (all : List Entry) (x : ℕ) (left : LeavesOff k o [] all) (output : IsOutput k o) (at : o.place ≡ target_of k.merger)
    (follows : FollowsMerger (WriteRun (Count o.place) o.count) k x k') where
  stays : (e part : ℕ) → row_of k' (EntryWord o.place e part) ≡ row_of k (EntryWord o.place e part)
  stays e part = (writes_only k k' (Count o.place) o.count x follows).stays (EntryWord o.place e part) tt (λ same. absurd (cc same))

  written_there : entries_in (row_of k') o.place ≡ all
  written_there =
      ap (entries_from (row_of k') o.place 0) follows.made
      ∙ entries_under (row_of k) (row_of k') o.place 0 o.count (λ e part lt. stays e part)
      ∙ sym (append-nil (entries_from (row_of k) o.place 0 o.count)) ∙ left.split

  canonical_there : are_canonical (row_of k') o.place ≡ true
  canonical_there =
      ap (passes_from (is_canonical (row_of k') o.place) 0) follows.made
      ∙ passes_if (is_canonical (row_of k') o.place) 0 o.count
      (λ i from until. entry_canonical (row_of k) (row_of k') o.place i (λ part. stays i part)
      ∙ passes_at (is_canonical (row_of k) o.place) 0 o.count i left.canonical from until)

  target_now : o.place ≡ target_of k'.merger
  target_now = at ∙ ap (λ (m : MergerView). target_of m) (sym follows.view)

  pub has_written : HasWritten k' all
  has_written = record {
    written = subst (λ (p : ℕ). entries_in (row_of k') p ≡ all) target_now written_there;
    fits = subst (λ (p : ℕ). row_of k' (Count p) ≤ room_of k'.layout p) target_now
        (let count = follows.made in let few = output.few in let room = output.room in let same = ap (λ (z : Layout). room_of z o.place) follows.layout in
        omega arith);
    canonical = subst (λ (p : ℕ). are_canonical (row_of k') p ≡ true) target_now canonical_there;
  }
