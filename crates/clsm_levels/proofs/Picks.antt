-- The least head comes first of what is left.
use Rattle.std.proofs.Common.{◌≡◌, ℕ, ◌+◌, ◌<◌, ◌≤◌, zero, suc, Bool, true, false, cond, List, [], ◌∷◌, ◌++◌, length, set, drop, Option, Some, None, refl}
use Rattle.std.proofs.Common.{sym, ap, ◌∙◌, arith, subst, ⊎_elim, get_or-set_same, get_or-set_other, append_assoc, length-append}
use Rattle.std.proofs.Math.ListN.{length-set}
use Rattle.std.proofs.lemmas.Bool.{lt-ltb, le-ltb, cases_eq}
use Rattle.std.specs.List.{AllByRecursion}
use Rattle.clsm_levels.specs.declared.entry.Entry.{Entry}
use Rattle.clsm_levels.specs.declared.entry.Version.{Version}
use Rattle.clsm_levels.specs.declared.cursor.Cursor.{Cursor}
use Rattle.clsm_levels.specs.Run.{all_of}
use Rattle.clsm_levels.specs.Merge.{insert_entry, merged}
use Rattle.clsm_levels.specs.Pass.{RisesByKey, kept_after}
use Rattle.clsm_levels.specs.Version.{version_in, version_of}
use Rattle.clsm_levels.specs.Cursors.{row_at, no_cursor, cursor_at, first_of, HeadsOf, rests, IsLeast, IsEmptied, AllRise}
use Rattle.clsm_levels.proofs.Every.{every-append, every_weaker}
use Rattle.clsm_levels.proofs.Merges.{every-merged}

insert_first : (e : Entry) (xs : List Entry) → AllByRecursion (λ x. e.key ≤ x.key) xs → insert_entry e xs ≡ e ∷ xs
insert_first e [] h = refl
insert_first e (x ∷ xs) h = ap (λ (b : Bool). cond b (x ∷ insert_entry e xs) (e ∷ x ∷ xs)) (le-ltb x.key e.key h.0)

-- a row's entries with greater keys may stand before it
merged_past : (e : Entry) (pre xs xs' : List Entry) → AllByRecursion (λ x. e.key < x.key) pre → merged xs ≡ e ∷ merged xs' → merged (pre ++ xs)
    ≡ e ∷ merged (pre ++ xs')
merged_past e [] xs xs' h m = m
merged_past e (p ∷ ps) xs xs' h m = ap (λ (l : List Entry). insert_entry p l) (merged_past e ps xs xs' h.1 m)
    ∙ ap (λ (b : Bool). cond b (e ∷ insert_entry p (merged (ps ++ xs'))) (p ∷ e ∷ merged (ps ++ xs'))) (lt-ltb e.key p.key h.0)

rises_drop : (n : ℕ) (xs : List Entry) → RisesByKey xs → RisesByKey (drop n xs)
rises_drop zero xs h = h
rises_drop (suc n) [] h = h
rises_drop (suc n) (x ∷ xs) h = rises_drop n xs h.1

-- all of a row are at or above a bound, where its first is
from_first : (bound : ℕ) (xs : List Entry) → RisesByKey xs → ((x : Entry) → first_of xs ≡ Some x → bound ≤ x.key) → AllByRecursion (λ x. bound ≤ x.key) xs
from_first bound [] r h = tt
from_first bound (x ∷ xs) r h = let le = h x refl in (le, every_weaker (λ y. x.key ≤ y.key) (λ y. bound ≤ y.key) (λ y l. omega arith) xs r.0)

-- what is left is at or above a bound, where each head is
from_heads : (bound : ℕ) (rows : List (List Entry)) (cursors : List Cursor) → length rows ≤ length cursors → AllRise rows → HeadsOf rows cursors
    → ((j : ℕ) (x : Version) → j < length cursors → (cursor_at cursors j).head ≡ Some x → bound ≤ x.key)
    → AllByRecursion (λ x. bound ≤ x.key) (rests rows cursors)
from_heads bound [] cursors le r h b = tt
from_heads bound (row ∷ rows) [] le r h b = absurd (omega arith)
from_heads bound (row ∷ rows) (c ∷ cs) le r h b = every-append (λ x. bound ≤ x.key) (drop c.position row) (rests rows cs)
    (from_first bound (drop c.position row) (rises_drop c.position row r.0) (λ x e. b 0 (version_of x) (omega arith) (h 0 (omega arith) ∙ ap version_in e)))
    (from_heads bound rows cs (omega arith) r.1 (λ i lt. h (suc i) (omega arith)) (λ j x lt e. b (suc j) x (omega arith) e))

first_split : (n : ℕ) (xs : List Entry) (e : Entry) → first_of (drop n xs) ≡ Some e → drop n xs ≡ e ∷ drop (suc n) xs
first_split zero [] e h = absurd (cc h)
first_split zero (x ∷ xs) e h = cc h
first_split (suc n) [] e h = absurd (cc h)
first_split (suc n) (x ∷ xs) e h = first_split n xs e h

no_first : (n : ℕ) (e : Entry) → first_of (drop n []) ≡ Some e → ⊥
no_first zero e h = cc h
no_first (suc n) e h = cc h

-- a head is that of an entry
pub head_entry : (es : List Entry) (v : Version) → version_in (first_of es) ≡ Some v → (e : Entry) × (first_of es ≡ Some e) × (version_of e ≡ v)
head_entry [] v is = absurd (cc is)
head_entry (e ∷ es) v is = (e, refl, cc is)

-- the entry with the least head comes first of what is left, and then what is left behind it
pub picks : (rows : List (List Entry)) (cursors : List Cursor) (i : ℕ) (e : Entry) (next : Cursor) → length rows ≤ length cursors → AllRise rows
    → HeadsOf rows cursors → first_of (drop (cursor_at cursors i).position (row_at rows i)) ≡ Some e → IsLeast cursors (length cursors) i (version_of e)
    → next.position ≡ (cursor_at cursors i).position + 1 → merged (rests rows cursors) ≡ e ∷ merged (rests rows (set cursors i next))
picks [] cursors i e next le r h first least n = absurd (no_first _ e first)
picks (row ∷ rows) [] i e next le r h first least n = absurd (omega arith)
picks (row ∷ rows) (c ∷ cs) zero e next le r h first least n =
    let split : drop c.position row ≡ e ∷ drop (suc c.position) row = first_split c.position row e first in
    let rest : AllByRecursion (λ x. e.key ≤ x.key) (drop (suc c.position) row) = (subst RisesByKey split (rises_drop c.position row r.0)).0 in
    let others : AllByRecursion (λ x. e.key ≤ x.key) (rests rows cs) =
    from_heads e.key rows cs (omega arith) r.1 (λ j lt. h (suc j) (omega arith)) (λ j x lt hd. (least.2 (suc j) x (omega arith) hd).0) in
    let at : next.position ≡ suc c.position = omega arith in
    ap (λ (l : List Entry). merged (l ++ rests rows cs)) split
    ∙ insert_first e (merged (drop (suc c.position) row ++ rests rows cs))
    (every-merged (λ x. e.key ≤ x.key) _ (every-append (λ x. e.key ≤ x.key) (drop (suc c.position) row) (rests rows cs) rest others))
    ∙ ap (λ (p : ℕ). e ∷ merged (drop p row ++ rests rows cs)) (sym at)
picks (row ∷ rows) (c ∷ cs) (suc i) e next le r h first least n =
    merged_past e (drop c.position row) (rests rows cs) (rests rows (set cs i next))
    (every_weaker (λ x. suc e.key ≤ x.key) (λ x. e.key < x.key) (λ x l. omega arith) _
    (from_first (suc e.key) (drop c.position row) (rises_drop c.position row r.0)
    (λ x hd. let lt = (least.2 0 (version_of x) (omega arith) (h 0 (omega arith) ∙ ap version_in hd)).1 (omega arith) in omega arith)))
    (picks rows cs i e next (omega arith) r.1 (λ j lt. h (suc j) (omega arith)) first
    (omega arith, least.1, λ j x lt hd. let f = least.2 (suc j) x (omega arith) hd in (f.0, λ l. f.1 (omega arith))) n)

-- where no cursor has an entry, nothing is left
pub nothing_left : (rows : List (List Entry)) (cursors : List Cursor) → length rows ≤ length cursors → HeadsOf rows cursors
    → IsEmptied cursors (length cursors) → rests rows cursors ≡ []
nothing_left [] cursors le h none = refl
nothing_left (row ∷ rows) [] le h none = absurd (omega arith)
nothing_left (row ∷ rows) (c ∷ cs) le h none = cc (
  empty (drop c.position row) (sym (h 0 (omega arith)) ∙ none 0 (omega arith)),
  nothing_left rows cs (omega arith) (λ i lt. h (suc i) (omega arith)) (λ j lt. none (suc j) (omega arith)),
) where
  empty : (xs : List Entry) → version_in (first_of xs) ≡ None → xs ≡ []
  empty [] e = refl
  empty (x ∷ xs) e = absurd (cc e)

-- at the beginning all is left
pub all_left : (rows : List (List Entry)) (cursors : List Cursor) → ((i : ℕ) → i < length cursors → (cursor_at cursors i).position ≡ 0) → rests rows cursors
    ≡ all_of rows
all_left [] cursors h = refl
all_left (row ∷ rows) [] h = ap (λ (l : List Entry). row ++ l) (all_left rows [] (λ i lt. absurd (omega arith)))
all_left (row ∷ rows) (c ∷ cs) h = ap (λ (p : ℕ). drop p row ++ rests rows cs) (h 0 (omega arith))
    ∙ ap (λ (l : List Entry). row ++ l) (all_left rows cs (λ i lt. h (suc i) (omega arith)))

at_put : (P : ℕ → Cursor → Type 0) (cursors : List Cursor) (i : ℕ) (next : Cursor) → i < length cursors → P i next
    → ((j : ℕ) → j < length cursors → P j (cursor_at cursors j)) → (j : ℕ) → j < length (set cursors i next) → P j (cursor_at (set cursors i next) j)
at_put P cursors i next lt new h j l = ⊎_elim
    (λ (e : j ≡ i). subst (λ (k : ℕ). P k (cursor_at (set cursors i next) k)) (sym e) (subst (P i) (sym (get_or-set_same cursors i next no_cursor lt)) new))
    (λ (ne : j ≡ i → ⊥). subst (P j) (sym (get_or-set_other cursors i j next no_cursor ne)) (h j (omega (arith, length-set cursors i next))))
    (cases_eq j i)

-- a cursor that goes on by one
pub heads_more : (rows : List (List Entry)) (cursors : List Cursor) (i : ℕ) (next : Cursor) → i < length cursors → HeadsOf rows cursors → next.head
    ≡ version_in (first_of (drop next.position (row_at rows i))) → HeadsOf rows (set cursors i next)
heads_more rows cursors i next lt h new = at_put (λ j c. c.head ≡ version_in (first_of (drop c.position (row_at rows j)))) cursors i next lt new h

-- a fact of each cursor, through a write of one
pub at_set : (P : ℕ → Cursor → Type 0) (cursors : List Cursor) (i : ℕ) (next : Cursor) → i < length cursors → P i next
    → ((j : ℕ) → (j ≡ i → ⊥) → P j (cursor_at cursors j)) → (j : ℕ) → P j (cursor_at (set cursors i next) j)
at_set P cursors i next lt new h j = ⊎_elim
    (λ (e : j ≡ i). subst (λ (k : ℕ). P k (cursor_at (set cursors i next) k)) (sym e) (subst (P i) (sym (get_or-set_same cursors i next no_cursor lt)) new))
    (λ (ne : j ≡ i → ⊥). subst (P j) (sym (get_or-set_other cursors i j next no_cursor ne)) (h j ne))
    (cases_eq j i)

-- what is written and what is still to come are all that is kept, through a step past the entry e
module _ (settled settled' : Option ℕ) (f : ℕ) (one is_kept : Bool) (e : Entry) (before after w w' all : List Entry) (split : before ≡ e ∷ after)
    (keeps : (rest : List Entry) → kept_after settled f one (e ∷ rest) ≡ cond is_kept (e ∷ kept_after settled' f one rest) (kept_after settled' f one rest))
    (inv : w ++ kept_after settled f one before ≡ all) where
  after_step : w ++ cond is_kept (e ∷ kept_after settled' f one after) (kept_after settled' f one after) ≡ all
  after_step = ap (λ (l : List Entry). w ++ l) (sym (keeps after)) ∙ ap (λ (l : List Entry). w ++ kept_after settled f one l) (sym split) ∙ inv

  with_entry : is_kept ≡ true → w ++ e ∷ kept_after settled' f one after ≡ all
  with_entry k = ap (λ (b : Bool). w ++ cond b (e ∷ kept_after settled' f one after) (kept_after settled' f one after)) (sym k) ∙ after_step

  pub rest_kept : is_kept ≡ true → w' ≡ w ++ e ∷ [] → w' ++ kept_after settled' f one after ≡ all
  rest_kept k new = ap (λ (l : List Entry). l ++ kept_after settled' f one after) new ∙ append_assoc w (e ∷ []) (kept_after settled' f one after) ∙ with_entry k

  pub rest_dropped : is_kept ≡ false → w' ≡ w → w' ++ kept_after settled' f one after ≡ all
  rest_dropped k new = ap (λ (l : List Entry). l ++ kept_after settled' f one after) new
      ∙ ap (λ (b : Bool). w ++ cond b (e ∷ kept_after settled' f one after) (kept_after settled' f one after)) (sym k) ∙ after_step

  -- where the entry is to be kept, there are more than are written
  pub more_than : is_kept ≡ true → length w < length all
  more_than k = omega (arith, ap (λ (l : List Entry). length l) (with_entry k), length-append w (e ∷ kept_after settled' f one after))
