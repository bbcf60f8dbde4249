-- Rows become members one by one.
use Rattle.std.proofs.Common.{◌+◌, ◌<◌, ◌++◌, ◌∷◌, [], ℕ, List, arith, get_or, inl, inr, length, subst, suc, sym, take, zero}
use Rattle.std.proofs.lemmas.List.{take_more}
use Rattle.clsm_model.specs.Right.{Member}
use Rattle.clsm_c.specs.declared.types.CoreRow.{CoreRow}
use Rattle.clsm_c.specs.Calls.{AreMembers, HasLong, IsMember}

one_more : (rows : List CoreRow) (members : List Member) (row : CoreRow) (member : Member) → AreMembers rows members → IsMember row member
    → AreMembers (rows ++ row ∷ []) (members ++ member ∷ [])
one_more [] [] row member are is = (is, tt)
one_more [] (m ∷ members) row member are is = elim are [ ]
one_more (x ∷ rows) [] row member are is = elim are [ ]
one_more (x ∷ rows) (m ∷ members) row member are is = (are.0, one_more rows members row member are.1 is)

-- the next row is a member
pub member_made : (rows : List CoreRow) (members : List Member) (i : ℕ) (d : CoreRow) (member : Member) → i < length rows → AreMembers (take i rows) members
    → IsMember (get_or rows i d) member → AreMembers (take (i + 1) rows) (members ++ member ∷ [])
member_made rows members i d member some are is =
    subst (λ (new : List CoreRow). AreMembers new (members ++ member ∷ [])) (sym (take_more rows i d some))
    (one_more (take i rows) members (get_or rows i d) member are is)

-- the value of a row is too long
pub row_long : (rows : List CoreRow) (i : ℕ) (d : CoreRow) → i < length rows → 8 < (get_or rows i d).value.length → HasLong rows
row_long [] i d some long = elim some [ ]
row_long (x ∷ rows) zero d some long = inl long
row_long (x ∷ rows) (suc i) d some long = inr (row_long rows i d (omega arith) long)
