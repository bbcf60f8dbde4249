-- What the merger knows of a frozen epoch and of the runs stays while it makes the merge ready.
use Rattle.std.proofs.Common.{◌≡◌, ℕ, ◌+◌, ◌*◌, ◌<◌, ◌≤◌, true, false, List, length, get_or, ap, sym, subst, ◌∙◌, arith, lt_of_not-le}
use mathlib.Core.List.{IsPrefix}
use native.Mathlib.Decide.{dec_le}
use Rattle.std.proofs.lemmas.List.{get_or_append_left}
use Rattle.clsm_model.specs.declared.slot.Slot.{Slot}
use Rattle.clsm_model.specs.declared.slot.Slot.TheVariants.{Nothing}
use Rattle.clsm_levels.specs.declared.entry.Entry.{Entry}
use Rattle.clsm_levels.specs.Entry.{entries_of}
use Rattle.clsm_levels.specs.Merge.{merged}
use Rattle.clsm_law.specs.declared.layout.Layout.{Layout}
use Rattle.clsm_law.specs.declared.merger.MergerView.{MergerView}
use Rattle.clsm_law.specs.declared.word.Word.{Word}
use Rattle.clsm_law.specs.declared.word.Word.TheVariants.{Count, Entry as EntryWord}
use Rattle.clsm_law.specs.Merging.{IsRunWord, epoch_end, is_frozen}
use Rattle.clsm_law.specs.Worlds.{runs_of}
use Rattle.clsm_law.proofs.Runs.Kept.{runs_same}
use Rattle.clsm_words.specs.declared.known.Known.{Known}
use Rattle.clsm_words.specs.Knowing.{row_of}
use Rattle.clsm_words.specs.Merging.{IsSoundMerger}
use Rattle.clsm_words.proofs.MergerFacts.{entries_below as entries_agree, settled_known}
use Rattle.clsm_search.specs.Frozen.{epoch_row}
use Rattle.clsm_search.proofs.FrozenTimes.{frozen_known}
use Rattle.clsm_store_calls.specs.declared.merger_seat.MergerSeat.{MergerSeat}
use Rattle.clsm_store_calls.specs.Flooring.{with_floor}
use Rattle.clsm_store_calls.specs.Freezing.{IsFrozen}
use Rattle.clsm_store_calls.specs.Merging.{IsOfHistory, IsReady, epoch_known, frozen_of, merger_of, runs_known}

-- the epoch's writes are those of the past
pub epoch_is : (k : Known) → epoch_known k ≡ entries_of k.past (k.merger.merged * k.layout.cells) (epoch_end k.layout k.merger)
epoch_is k = ap (λ (l : List Slot). entries_of l (k.merger.merged * k.layout.cells) (epoch_end k.layout k.merger)) (settled_known k.past)

-- in a frozen phase, the seat knows more of the past alone, and its layout and the number of merges
-- are as they were
module _ (k k' : Known) (sound : IsSoundMerger k) (frozen : is_frozen k.merger.phase ≡ true) (free : k.merger.exclusive ≡ false)
    (layout : k'.layout ≡ k.layout) (merged : k'.merger.merged ≡ k.merger.merged) (longer : IsPrefix k.past k'.past) where
  same_past : (t : ℕ) → t < epoch_end k.layout k.merger → get_or k'.past t Nothing ≡ get_or k.past t Nothing
  same_past t lt = ap (λ (l : List Slot). get_or l t Nothing) (sym longer.1)
      ∙ get_or_append_left k.past longer.0 Nothing t (frozen_known k t sound free frozen lt)

  pub epoch_stays : epoch_known k' ≡ epoch_known k
  epoch_stays =
      epoch_is k'
      ∙ ap (λ (z : Layout). entries_of k'.past (k'.merger.merged * z.cells) ((k'.merger.merged + 1) * z.cells)) layout
      ∙ ap (λ (m : ℕ). entries_of k'.past (m * k.layout.cells) ((m + 1) * k.layout.cells)) merged
      ∙ entries_agree k'.past k.past (k.merger.merged * k.layout.cells) (epoch_end k.layout k.merger) same_past
      ∙ sym (epoch_is k)

-- so do the runs, where the words of their places are as they were
pub runs_stay : (k k' : Known) → k'.merger.merged ≡ k.merger.merged → ((word : Word) → IsRunWord word → row_of k' word ≡ row_of k word) → runs_known k'
    ≡ runs_known k
runs_stay k k' merged same = ap (runs_of (row_of k')) merged ∙ runs_same (row_of k) (row_of k') k.merger.merged
    (λ p named. record { count = same (Count p) tt; words = λ e i. same (EntryWord p e i) tt })

-- while an epoch is frozen, what its token carries is of the history that the merger's seat knows
module _ (m : MergerSeat) (sound : IsSoundMerger m.raw.knows) (frozen : IsFrozen m.raw.knows m.merges) (ready : IsReady m) where
  abbrev k : Known
  k = m.raw.knows

  reached : epoch_end k.layout k.merger ≤ length k.past
  reached = elim (dec_le (epoch_end k.layout k.merger) (length k.past)) [
    | yes le ↦ le
    | no nle ↦ absurd (let lt = lt_of_not-le nle in let below = frozen_known k (length k.past) sound frozen.out.exclusive frozen.frozen lt in omega arith)
  ]

  of_known : IsOfHistory k.past (record (frozen_of m) { merger = record (merger_of m) { merges = k.merger.merged } })
  of_known = record {
    reaches = reached;
    epoch = epoch_is k;
    writes = sound.runs.content.writes;
    exact = λ key time from to. let floor = ready.floor in let floors = sound.floors in sound.runs.content.exact key time (omega arith) to;
  }

  pub of_history : IsOfHistory k.past (frozen_of m)
  of_history = subst (λ (n : ℕ). IsOfHistory k.past (record (frozen_of m) { merger = record (merger_of m) { merges = n } })) frozen.out.merged of_known

-- what the merge reads of the epoch are its writes by rising key
pub row_is : (k : Known) → epoch_row k ≡ merged (epoch_known k)
row_is k = ap (λ (es : List Entry). merged es) (sym (epoch_is k))

-- ---- the whole

-- what was counted of the lock and of looks at the clock stays
pub record Counts (old new : MergerView) : Type 0 where
  pub holds : new.holds ≡ old.holds
  pub busy : new.busy ≡ old.busy
  pub looks : new.clock_looks ≡ old.clock_looks
  pub found : new.clock_found ≡ old.clock_found

-- so where another floor is taken at most
pub counts_of : (old new : Known) → new.merger ≡ with_floor old.merger new.merger → Counts old.merger new.merger
counts_of old new view = record {
  holds = ap (λ (m : MergerView). m.holds) view;
  busy = ap (λ (m : MergerView). m.busy) view;
  looks = ap (λ (m : MergerView). m.clock_looks) view;
  found = ap (λ (m : MergerView). m.clock_found) view;
}

-- what contracts see of the merger stays, but for the floor, the rounds and what the last one found
pub same_frozen : (old new : MergerSeat) → new.raw.table ≡ old.raw.table → new.raw.knows.layout ≡ old.raw.knows.layout → new.merges ≡ old.merges
    → Counts old.raw.knows.merger new.raw.knows.merger → epoch_known new.raw.knows ≡ epoch_known old.raw.knows → runs_known new.raw.knows
    ≡ runs_known old.raw.knows → frozen_of new ≡ record (frozen_of old) {
      floor = new.floor;
      rounds = new.raw.knows.merger.rounds;
      noted = new.raw.knows.merger.noted;
    }
same_frozen old new table layout merges counts epoch runs =
    λ i. record {
      merger = record {
        store = record { table = table i; layout = layout i };
        merges = merges i;
        holds = counts.holds i;
        busy = counts.busy i;
        polls = counts.looks i;
        polled = counts.found i;
      };
      floor = new.floor;
      rounds = new.raw.knows.merger.rounds;
      noted = new.raw.knows.merger.noted;
      epoch = epoch i;
      runs = runs i;
    }

-- and so does the phase
pub still_frozen : (k k' : Known) (merges : ℕ) → k'.merger ≡ with_floor k.merger k'.merger → IsFrozen k merges → IsFrozen k' merges
still_frozen k k' merges view is = record {
  out = record {
    merged = ap (λ (m : MergerView). m.merged) view ∙ is.out.merged;
    exclusive = ap (λ (m : MergerView). m.exclusive) view ∙ is.out.exclusive;
    unpadded = ap (λ (m : MergerView). m.padded) view ∙ is.out.unpadded;
    clock = ap (λ (m : MergerView). m.clock_extended) view ∙ is.out.clock;
    limit = ap (λ (m : MergerView). m.limit_extended) view ∙ is.out.limit;
  };
  frozen = ap (λ (m : MergerView). is_frozen m.phase) view ∙ is.frozen;
}
