-- What stays over looks: the words of runs, and their entries.
use Rattle.std.proofs.Common.{◌≡◌, ◌≢◌, ℕ, ◌%◌, ◌<◌, ap, sym, ◌∙◌, subst}
use Rattle.clsm_law.specs.declared.merger.MergerView.{MergerView}
use Rattle.clsm_law.specs.declared.view.View.{View}
use Rattle.clsm_law.specs.declared.word.Word.{Word}
use Rattle.clsm_law.specs.declared.word.Word.TheVariants.{Count, Entry as EntryWord}
use Rattle.clsm_law.specs.Merging.{is_frozen}
use Rattle.clsm_law.specs.Places.{entry_in, is_named}
use Rattle.clsm_law.proofs.Runs.Kept.{SamePlace, entry_same}
use Rattle.clsm_words.specs.declared.known.Known.{Known}
use Rattle.clsm_words.specs.Changing.{Changes, NoWord}
use Rattle.clsm_words.specs.Keeping.{Looks}
use Rattle.clsm_words.specs.Knowing.{IsNamedWord, row_of}
use Rattle.clsm_runs.specs.Placing.{IsMergedEntry}
use Rattle.clsm_runs.specs.Searching.{HasEntry, IsSearchable, entry_word}

-- ---- what a caller's seat reads

word_stays : (k k' : Known) (component place : ℕ) (word : Word) → Looks k k' → IsSearchable k component place → IsNamedWord component word
    → row_of k' word ≡ row_of k word
word_stays k k' component place word looks run named =
    (looks.reads.seat.runs component run.held (ap (λ (v : View). v.held) looks.reads.view ∙ run.held)).1 word named

pub place_stays : (k k' : Known) (component place : ℕ) → Looks k k' → IsSearchable k component place → SamePlace (row_of k) (row_of k') place
place_stays k k' component place looks run = record {
  count = word_stays k k' component place (Count place) looks run (tt, run.named);
  words = λ entry part. word_stays k k' component place (EntryWord place entry part) looks run (tt, run.named);
}

pub entry_in_stays : (k k' : Known) (component place entry : ℕ) → Looks k k' → IsSearchable k component place
    → entry_in (row_of k') place entry ≡ entry_in (row_of k) place entry
entry_in_stays k k' component place entry looks run = entry_same (row_of k) (row_of k') place entry ((place_stays k k' component place looks run).words entry)

pub has_stays : (k k' : Known) (component place entry : ℕ) → Looks k k' → HasEntry k component place entry → HasEntry k' component place entry
has_stays k k' component place entry looks has = record {
  run = record { held = ap (λ (v : View). v.held) looks.reads.view ∙ has.run.held; named = has.run.named };
  inside = subst (λ (n : ℕ). entry < n) (sym (place_stays k k' component place looks has.run).count) has.inside;
}

pub valued_stays : (k k' : Known) (component place entry : ℕ) → Looks k k' → IsSearchable k component place → entry_word k place entry 1 % 2 ≢ 1
    → entry_word k' place entry 1 % 2 ≢ 1
valued_stays k k' component place entry looks run valued =
    subst (λ (x : ℕ). x % 2 ≢ 1) (sym ((place_stays k k' component place looks run).words entry 1)) valued

-- ---- what the merger reads

pub merged_stays : (k k' : Known) (place entry : ℕ) → Changes NoWord k k' → IsMergedEntry k place entry → IsMergedEntry k' place entry
merged_stays k k' place entry looks has = record {
  frozen = ap (λ (m : MergerView). is_frozen m.phase) looks.view ∙ has.frozen;
  free = ap (λ (m : MergerView). m.exclusive) looks.view ∙ has.free;
  named = ap (λ (m : MergerView). is_named m.merged place) looks.view ∙ has.named;
  inside = subst (λ (n : ℕ). entry < n) (sym (looks.stays (Count place) tt (λ no. no))) has.inside;
}

pub merged_entry_stays : (k k' : Known) (place entry : ℕ) → Changes NoWord k k' → entry_in (row_of k') place entry ≡ entry_in (row_of k) place entry
merged_entry_stays k k' place entry looks = entry_same (row_of k) (row_of k') place entry (λ part. looks.stays (EntryWord place entry part) tt (λ no. no))

pub merged_valued_stays : (k k' : Known) (place entry : ℕ) → Changes NoWord k k' → entry_word k place entry 1 % 2 ≢ 1 → entry_word k' place entry 1 % 2 ≢ 1
merged_valued_stays k k' place entry looks valued = subst (λ (x : ℕ). x % 2 ≢ 1) (sym (looks.stays (EntryWord place entry 1) tt (λ no. no))) valued
