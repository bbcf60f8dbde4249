-- The first row of a merge: the epoch's writes, as the walk yields them.
use Rattle.std.proofs.Common.{◌≡◌, ℕ, zero, suc, ◌+◌, List, [], ◌∷◌, drop, refl, sym, ap, ◌∙◌, subst, arith, Option, Some, None}
use Rattle.clsm_levels.specs.declared.entry.Entry.{Entry}
use Rattle.clsm_levels.specs.declared.entry.Version.{Version}
use Rattle.clsm_levels.specs.Cursors.{first_of}
use Rattle.clsm_levels.specs.Version.{version_in}
use Rattle.clsm_law.specs.declared.word.Word.{Word}
use Rattle.clsm_words.specs.declared.known.Known.{Known}
use Rattle.clsm_words.specs.Changing.{Changes}
use Rattle.clsm_words.specs.Merging.{IsSoundMerger}
use Rattle.clsm_search.specs.declared.frozen_walk.FrozenWalk.{FrozenWalk}
use Rattle.clsm_search.specs.Frozen.{IsAhead, IsNextWrite, epoch_row}
use Rattle.clsm_search.proofs.FrozenWalks.{ahead_on, epoch_row_stays}
use Rattle.clsm_runs.specs.Outputs.{IsWalkedTo}

-- ---- one entry more

pub yields_first : (k : Known) (walk : FrozenWalk) (all : List Entry) (result : Option Version) → IsNextWrite k walk all result
    → result ≡ version_in (first_of all)
yields_first k walk all None next = ap (λ (es : List Entry). version_in (first_of es)) (sym next.0)
yields_first k walk all (Some v) next = ap (λ (w : Version). Some w) (sym next.3) ∙ ap (λ (es : List Entry). version_in (first_of es)) (sym next.2)

drop_none : (n : ℕ) (xs : List Entry) → drop n xs ≡ [] → drop (suc n) xs ≡ []
drop_none zero [] e = refl
drop_none zero (x ∷ xs) e = absurd (cc e)
drop_none (suc n) [] e = refl
drop_none (suc n) (x ∷ xs) e = drop_none n xs e

drop_some : (n : ℕ) (xs : List Entry) (e : Entry) (rest : List Entry) → drop n xs ≡ e ∷ rest → drop (suc n) xs ≡ rest
drop_some zero [] e rest is = absurd (cc is)
drop_some zero (x ∷ xs) e rest is = cc is
drop_some (suc n) [] e rest is = absurd (cc is)
drop_some (suc n) (x ∷ xs) e rest is = drop_some n xs e rest is

pub yields_on : (k : Known) (walk : FrozenWalk) (row : List Entry) (n : ℕ) (result : Option Version) → epoch_row k ≡ row
    → IsNextWrite k walk (drop n row) result → IsWalkedTo k walk (n + 1)
yields_on k walk row n None same next = let more : n + 1 ≡ suc n = omega arith in
    subst (IsAhead k walk) (sym (ap (drop (n + 1)) same ∙ ap (λ (m : ℕ). drop m row) more ∙ drop_none n row next.0)) next.1
yields_on k walk row n (Some v) same next = let more : n + 1 ≡ suc n = omega arith in
    subst (IsAhead k walk) (sym (ap (drop (n + 1)) same ∙ ap (λ (m : ℕ). drop m row) more ∙ drop_some n row next.0 next.1 next.2)) next.4

-- ---- what changes of runs leaves the walk

pub walked_on : (Those : Word → Type 0) (k k' : Known) (walk : FrozenWalk) (n : ℕ) → Changes Those k k' → IsSoundMerger k → IsWalkedTo k walk n
    → IsWalkedTo k' walk n
walked_on Those k k' walk n changes sound walked =
    subst (λ (row : List Entry). IsAhead k' walk (drop n row)) (sym (epoch_row_stays Those k k' changes walk.merges walked.frozen sound))
    (ahead_on Those k k' changes sound walk (drop n (epoch_row k)) walked)
