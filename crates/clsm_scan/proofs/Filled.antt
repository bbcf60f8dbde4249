-- One row more is filled.
use Rattle.std.proofs.Common.{◌≡◌, ◌∙◌, ℕ, ◌+◌, ◌<◌, nat_le, true, false, List, [], ◌∷◌, ◌++◌, ap, arith, is_some, length, map, refl, set}
use Rattle.std.proofs.Common.{subst, sym, take, Option, Some, None, true≢false, inl, inr, Result, Ok, Err, IfOk, OnOk}
use Rattle.std.proofs.lemmas.Bool.{cases_lt, le-leb}
use Rattle.std.proofs.lemmas.List.{length-map, length-set, length-take-le, map-append, take_more_set}
use Rattle.std.specs.List.{AllByRecursion}
use Rattle.clsm_model.specs.Map.{Pair}
use Rattle.clsm_levels.specs.declared.entry.Entry.{Entry}
use Rattle.clsm_scan.specs.Collected.{is_full}
use Rattle.clsm_scan.specs.Filling.{AreFilled}
use Rattle.clsm_scan.specs.Heads.{has_value, row_of, rows_of}

-- what has a value is a row
row_there : (key : ℕ) (o : Option (List ℕ)) → is_some o ≡ true → (row : Pair) × (row_of key o ≡ row ∷ [])
row_there key None some = absurd (true≢false (sym some))
row_there key (Some words) some = ((key, words), refl)

pub head_row : (head : Option Entry) → has_value head ≡ true → (row : Pair) × (rows_of head ≡ row ∷ [])
head_row None has = absurd (true≢false (sym has))
head_row (Some e) has = row_there e.key e.value has

each_pushed : {R : Type 0} (IsRow : R → Type 0) (rows : List R) (row : R) → AllByRecursion IsRow rows → IsRow row → AllByRecursion IsRow (rows ++ row ∷ [])
each_pushed IsRow [] row each is = (is, tt)
each_pushed IsRow (x ∷ rows) row each is = (each.0, each_pushed IsRow rows row each.1 is)

module _ {R : Type 0} (IsRow : R → Type 0) (pair : R → Pair) (rows : List R) (count : ℕ) (ready : AreFilled IsRow rows count) where
  -- there is room, where as many pairs are not too many
  pub room_left : is_full (Some (length rows)) (length (map pair (take count rows))) ≡ false → count < length rows
  room_left room = elim (cases_lt count (length rows)) [
    | inl lt ↦ lt
    | inr le ↦
        let long : length (map pair (take count rows)) ≡ count = length-map (take count rows) pair ∙ length-take-le count rows ready.within in
        absurd (true≢false (sym (le-leb (length rows) count le) ∙ ap (nat_le (length rows)) (sym long) ∙ room))
  ]

  pub filled_more : (row : R) → count < length rows → IsRow row → AreFilled IsRow (set rows count row) (count + 1)
  filled_more row room is = record {
    within = let long = length-set rows count row in omega arith;
    each = subst (AllByRecursion IsRow) (sym (take_more_set rows count row room)) (each_pushed IsRow (take count rows) row ready.each is);
  }

  pub pairs_more : (row : R) (words : Pair) → count < length rows → pair row ≡ words
      → map pair (take (count + 1) (set rows count row)) ≡ map pair (take count rows) ++ words ∷ []
  pairs_more row words room is =
      ap (map pair) (take_more_set rows count row room) ∙ map-append pair (take count rows) (row ∷ [])
      ∙ ap (λ (p : Pair). map pair (take count rows) ++ p ∷ []) is

-- where a row is taken if the reply is right, it is so for each row
pub taken_if_ok : {V E : Type 0} (Is Taken : Pair → Type 0) (reply : Result V E) → ((row : Pair) → Is row → OnOk reply (Taken row))
    → IfOk reply (λ done. (row : Pair) → Is row → Taken row)
taken_if_ok Is Taken (Ok done) takes = takes
taken_if_ok Is Taken (Err refusal) takes = tt
