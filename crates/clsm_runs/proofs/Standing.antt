-- A passage of a run: it stays over looks and for greater keys, goes on over what is not found, and
-- finds the next.
use Rattle.std.proofs.Common.{ℕ, ◌+◌, ◌*◌, ◌<◌, ◌≤◌, ◌⊎◌, inl, List, refl, subst, sym, ap, ◌∙◌, arith, Some}
use Rattle.clsm_levels.specs.declared.entry.Entry.{Entry}
use Rattle.clsm_levels.specs.Entry.{first_below}
use Rattle.clsm_levels.specs.Run.{IsRun}
use Rattle.clsm_levels.specs.Yields.{IsNextFrom}
use Rattle.clsm_law.specs.declared.layout.Layout.{Layout}
use Rattle.clsm_law.specs.declared.word.Word.TheVariants.{Entry as EntryWord}
use Rattle.clsm_law.specs.Places.{entry_in}
use Rattle.clsm_words.specs.declared.known.Known.{Known}
use Rattle.clsm_words.specs.Knowing.{row_of}
use Rattle.clsm_words.specs.Keeping.{Looks}
use Rattle.clsm_runs.specs.declared.entry.HeldRun.{HeldRun}
use Rattle.clsm_runs.specs.declared.passing.Passage.{Passage}
use Rattle.clsm_runs.specs.Passing.{IsPassageFrom}
use Rattle.clsm_runs.specs.Searching.{IsSearchable, StandsFrom, count_of, rest_from, run_at}
use Rattle.clsm_runs.specs.Staying.{place_stays}
use Rattle.clsm_runs.proofs.Looking.{rest_stays, run_stays}
use Rattle.clsm_runs.proofs.Halving.{behind, hit_here, not_found, rest_more, run_of_all}

-- ---- what stays

pub stands_stays : (k k' : Known) (component place until from position : ℕ) → Looks k k' →
    IsSearchable k component place → StandsFrom k place until from position →
    StandsFrom k' place until from position
stands_stays k k' component place until from position looks run stands = record {
  within =
      let count = (place_stays k k' component place looks run).count in
      let within = stands.within in omega arith;
  passed = λ key le.
      let search = λ (es : List Entry). first_below es key until in
      ap search (run_stays k k' component place looks run)
      ∙ stands.passed key le
      ∙ ap search (sym (rest_stays k k' component place position looks run));
}

pub stands_later : (k : Known) (place until from from' position : ℕ) → from ≤ from' →
    StandsFrom k place until from position → StandsFrom k place until from' position
stands_later k place until from from' position le stands = record {
  within = stands.within;
  passed = λ key later. stands.passed key (omega arith);
}

pub passage_stays : (k k' : Known) (run : HeldRun) (until from : ℕ) (passage : Passage) → Looks k k' →
    IsSearchable k run.component run.place → IsPassageFrom k run until from passage → IsPassageFrom k' run until from passage
passage_stays k k' run until from passage looks held is = record {
  stands = stands_stays k k' run.component run.place until from passage.position looks held is.stands;
  count = let same = (place_stays k k' run.component run.place looks held).count in let count = is.count in omega arith;
  all = λ all. subst (λ (z : Layout). run.component * z.cells ≤ until) (sym looks.reads.seat.layout) (is.all all);
}

pub passage_later : (k : Known) (run : HeldRun) (until from later : ℕ) (passage : Passage) → from ≤ later →
    IsPassageFrom k run until from passage → IsPassageFrom k run until later passage
passage_later k run until from later passage le is = record {
  stands = stands_later k run.place until from later passage.position le is.stands;
  count = is.count;
  all = is.all;
}

-- ---- the entry at the position

module _ (k : Known) (place until from position : ℕ)
    (stands : StandsFrom k place until from position) (lt : position < count_of k place) where
  abbrev here : Entry
  here = entry_in (row_of k) place position

  -- one that no search from `from` on finds is passed
  pub passes : (here.key < from) ⊎ (until ≤ here.time) →
      StandsFrom k place until from (position + 1)
  passes is =
      let memory = row_of k in
      let n = count_of k place in
      let more = rest_more memory place n position lt in
      record {
        within = omega arith;
        passed = λ key le.
            stands.passed key le
            ∙ ap (λ (es : List Entry). first_below es key until) more
            ∙ not_found from until here (rest_from memory place n (position + 1)) is key le;
      }

  -- any other is the next
  pub takes : IsRun (run_at k place) → from ≤ here.key → here.time < until →
      IsNextFrom (λ key. first_below (run_at k place) key until) from (Some here)
  takes run le early =
      let memory = row_of k in
      let n = count_of k place in
      let spelled = memory (EntryWord place position 1) in (
        le,
        stands.passed here.key le
            ∙ hit_here memory place n here.key until position spelled lt (refl, refl, early),
        λ key from' less.
            stands.passed key from'
            ∙ behind memory place n key until position (run_of_all k place run) lt less,
      )

-- behind the next one it goes on for greater keys
pub passes_taken : (k : Known) (place until from position : ℕ) →
    StandsFrom k place until from position → position < count_of k place →
    from ≤ (entry_in (row_of k) place position).key →
    StandsFrom k place until ((entry_in (row_of k) place position).key + 1) (position + 1)
passes_taken k place until from position stands lt le =
    let key = (entry_in (row_of k) place position).key in
    let later = stands_later k place until from (key + 1) position (omega arith) stands in
    passes k place until (key + 1) position later lt (inl (omega arith))
