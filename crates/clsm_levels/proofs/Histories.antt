-- The writes of a history as entries: their times, and that a search of them is the history's own.
use Rattle.std.proofs.Common.{◌≡◌, ℕ, ◌-◌, ◌<◌, ◌≤◌, ◌==◌, nat_le, ◌&&◌, zero, suc, Bool, true, false, cond, List, [], ◌++◌, length, get_or, Option, Some}
use Rattle.std.proofs.Common.{None, refl, sym, ap, ◌∙◌, arith, append_assoc, length-append, subst, ⊎_elim}
use Rattle.std.proofs.lemmas.Bool.Decides.{nat_tests}
use Rattle.std.proofs.lemmas.Bool.{cases_lt, le-leb, lt-ltb, leb-true, leb-false}
use Rattle.std.specs.List.{AllByRecursion}
use Rattle.std.specs.Option.{option_map}
use Rattle.clsm_model.specs.declared.slot.Slot.{Slot}
use Rattle.clsm_model.specs.declared.slot.Slot.TheVariants.{Nothing, Wrote}
use Rattle.clsm_model.specs.History.{History, Write, slot_at, write_of, newest, value, left_by, or_else}
use Rattle.clsm_levels.specs.declared.entry.Entry.{Entry}
use Rattle.clsm_levels.specs.Entry.{entry_of, entries_of, first_below, value_of, IsWriteOf, AreBelow, TimesFall}
use Rattle.clsm_levels.proofs.Every.{every-append, every_weaker, every-cond}
use Rattle.clsm_levels.proofs.Searches.{first_below-append, first_below-above, first_below_none}

-- ---- each of them

entry_has : (P : Entry → Type 0) (t : ℕ) (slot : Slot) → ((e : Entry) → e.time ≡ t → P e) → AllByRecursion P (entry_of t slot)
entry_has P t Nothing h = tt
entry_has P t (Wrote seat k written) h = (h _ refl, tt)

pub entries_none : (slots : List Slot) (a b : ℕ) → b ≤ a → entries_of slots a b ≡ []
entries_none slots a zero le = refl
entries_none slots a (suc b) le = grind (arith, nat_tests)

pub entries_more : (slots : List Slot) (a b : ℕ) → a ≤ b → entries_of slots a (suc b) ≡ entry_of b (get_or slots b Nothing) ++ entries_of slots a b
entries_more slots a b le = ap (λ (t : Bool). cond t (entry_of b (get_or slots b Nothing) ++ entries_of slots a b) []) (le-leb a b le)

-- the newest of them stands first
pub entries_last : (slots : List Slot) (a t : ℕ) → a < t → entries_of slots a t ≡ entry_of (t - 1) (get_or slots (t - 1) Nothing) ++ entries_of slots a (t - 1)
entries_last slots a t lt = let same : suc (t - 1) ≡ t = omega arith in
    subst (λ (b : ℕ). entries_of slots a b ≡ entry_of (t - 1) (get_or slots (t - 1) Nothing) ++ entries_of slots a (t - 1)) same
    (entries_more slots a (t - 1) (omega arith))

pub entries_split : (slots : List Slot) (a b : ℕ) → a ≤ b → entries_of slots 0 b ≡ entries_of slots a b ++ entries_of slots 0 a
entries_split slots a zero le = let e : a ≡ 0 = omega arith in rw e refl
entries_split slots a (suc b) le = ⊎_elim
    (λ (lt : b < a).
    let e : suc b ≡ a = omega arith in
    subst (λ (c : ℕ). entries_of slots 0 (suc b) ≡ entries_of slots c (suc b) ++ entries_of slots 0 c) e
    (ap (λ (l : List Entry). l ++ entries_of slots 0 (suc b)) (sym (entries_none slots (suc b) (suc b) (omega arith)))))
    (λ (ge : a ≤ b).
    let mine = entry_of b (get_or slots b Nothing) in
    entries_more slots 0 b (omega arith) ∙ ap (λ (l : List Entry). mine ++ l) (entries_split slots a b ge)
    ∙ sym (append_assoc mine (entries_of slots a b) (entries_of slots 0 a))
    ∙ ap (λ (l : List Entry). l ++ entries_of slots 0 a) (sym (entries_more slots a b ge)))
    (cases_lt b a)

pub entries_from : (slots : List Slot) (a b : ℕ) → AllByRecursion (λ e. a ≤ e.time) (entries_of slots a b)
entries_from slots a zero = tt
entries_from slots a (suc b) = every-cond (λ e. a ≤ e.time) (nat_le a b) _ _
    (λ t. every-append (λ e. a ≤ e.time) (entry_of b (get_or slots b Nothing)) _
    (entry_has (λ e. a ≤ e.time) b (get_or slots b Nothing) (λ e same. let le = leb-true a b t in omega arith)) (entries_from slots a b))
    (λ t. tt)

pub entries_below : (slots : List Slot) (a b : ℕ) → AreBelow b (entries_of slots a b)
entries_below slots a zero = tt
entries_below slots a (suc b) = every-cond (λ e. e.time < suc b) (nat_le a b) _ _
    (λ t. every-append (λ e. e.time < suc b) (entry_of b (get_or slots b Nothing)) _
    (entry_has (λ e. e.time < suc b) b (get_or slots b Nothing) (λ e same. omega arith))
    (every_weaker (λ e. e.time < b) (λ e. e.time < suc b) (λ e lt. omega arith) _ (entries_below slots a b)))
    (λ t. tt)

entry_written : (h : History) (t : ℕ) (slot : Slot) → slot_at h t ≡ slot → AllByRecursion (IsWriteOf h) (entry_of t slot)
entry_written h t Nothing is = tt
entry_written h t (Wrote seat k written) is = ((seat, is), tt)

pub entries_written : (h : History) (a b : ℕ) → AllByRecursion (IsWriteOf h) (entries_of h.slots a b)
entries_written h a zero = tt
entries_written h a (suc b) = every-cond (IsWriteOf h) (nat_le a b) _ _
    (λ t. every-append (IsWriteOf h) (entry_of b (slot_at h b)) _ (entry_written h b (slot_at h b) refl) (entries_written h a b)) (λ t. tt)

entry_falls : (t : ℕ) (slot : Slot) (es : List Entry) → AreBelow t es → TimesFall es → TimesFall (entry_of t slot ++ es)
entry_falls t Nothing es h f = f
entry_falls t (Wrote seat k written) es h f = (h, f)

pub entries_fall : (slots : List Slot) (a b : ℕ) → TimesFall (entries_of slots a b)
entries_fall slots a zero = tt
entries_fall slots a (suc b) =
    elim (nat_le a b) as (λ (t : Bool). TimesFall (cond t (entry_of b (get_or slots b Nothing) ++ entries_of slots a b) [])) [
      | true ↦ entry_falls b
          (get_or slots b Nothing) (entries_of slots a b) (entries_below slots a b) (entries_fall slots a b)
      | false ↦ tt
    ]

length-entry_of : (t : ℕ) (slot : Slot) → length (entry_of t slot) ≤ 1
length-entry_of t Nothing = omega arith
length-entry_of t (Wrote seat k written) = omega arith

-- at most one entry a time
pub length-entries_of : (slots : List Slot) (a b : ℕ) → length (entries_of slots a b) ≤ b - a
length-entries_of slots a zero = omega arith
length-entries_of slots a (suc b) =
    elim (nat_le a b) as (λ (t : Bool). nat_le a b ≡ t → length (cond t (entry_of b (get_or slots b Nothing) ++ entries_of slots a b) []) ≤ suc b - a) [
      | true ↦ λ t. let le = leb-true a b t in omega (
        arith,
        length-append (entry_of b (get_or slots b Nothing)) (entries_of slots a b),
        length-entry_of b (get_or slots b Nothing),
        length-entries_of slots a b,
      )
      | false ↦ λ t. omega arith
    ] refl

-- what is written at or above s does not count
pub first_below-entries : (slots : List Slot) (a b k s : ℕ) → s ≤ b → first_below (entries_of slots a b) k s ≡ first_below (entries_of slots a s) k s
first_below-entries slots a zero k s le = let e : s ≡ 0 = omega arith in rw e refl
first_below-entries slots a (suc b) k s le = ⊎_elim
    (λ (lt : b < s). let e : suc b ≡ s = omega arith in ap (λ (c : ℕ). first_below (entries_of slots a c) k s) e)
    (λ (ge : s ≤ b).
    let mine = entry_of b (get_or slots b Nothing) in
    elim (nat_le a b) as (λ (t : Bool). nat_le a b ≡ t → first_below (cond t (mine ++ entries_of slots a b) []) k s ≡ first_below (entries_of slots a s) k s) [
      | true ↦ λ t. first_below-append mine (entries_of slots a b) k s
          ∙ ap (λ (o : Option Entry). or_else o (first_below (entries_of slots a b) k s))
          (first_below_none mine k s (entry_has (λ e. s ≤ e.time) b (get_or slots b Nothing) (λ e same. omega arith))) ∙ first_below-entries slots a b k s ge
      | false ↦ λ t. let lt = leb-false a b t in ap (λ (l : List Entry). first_below l k s) (sym (entries_none slots a s (omega arith)))
    ] refl)
    (cases_lt b s)

-- ---- the search by recursion on time

-- an entry as the write of its key
abbrev pub as_write : Entry → Write
as_write e = record { time = e.time; value = e.value }

or_else-map : (o p : Option Entry) → or_else (option_map as_write o) (option_map as_write p) ≡ option_map as_write (or_else o p)
or_else-map (Some e) p = refl
or_else-map None p = refl

write_of-entry : (k t : ℕ) (slot : Slot) → write_of k t slot ≡ option_map as_write (first_below (entry_of t slot) k (suc t))
write_of-entry k t Nothing = refl
write_of-entry k t (Wrote seat j written) = rw (lt-ltb t (suc t) (omega arith))
    (elim (j == k) as (λ (b : Bool). cond b (Some (record { time = t; value = written })) None ≡ option_map as_write
    (cond (b && true) (Some (record { key = j; time = t; value = written })) None)) [ true ↦ refl | false ↦ refl ])

-- the newest write of a key below s is the first of the history's entries below s
pub newest-entries : (h : History) (k s : ℕ) → newest h k s ≡ option_map as_write (first_below (entries_of h.slots 0 s) k s)
newest-entries h k zero = refl
newest-entries h k (suc t) =
    let mine = entry_of t (slot_at h t) in
    let rest = entries_of h.slots 0 t in
    let here = write_of-entry k t (slot_at h t) in
    let later : first_below (mine ++ rest) k (suc t) ≡ or_else (first_below mine k (suc t)) (first_below rest k t) = first_below-append mine rest k (suc t)
    ∙ ap (or_else (first_below mine k (suc t))) (first_below-above rest k t (suc t) (entries_below h.slots 0 t) (omega arith)) in
    ap (λ (o : Option Write). or_else o (newest h k t)) here ∙ ap (or_else (option_map as_write (first_below mine k (suc t)))) (newest-entries h k t)
    ∙ or_else-map (first_below mine k (suc t)) (first_below rest k t)
    ∙ ap (option_map as_write) (sym later ∙ ap (λ (l : List Entry). first_below l k (suc t)) (sym (entries_more h.slots 0 t (omega arith))))

left_by-as_write : (o : Option Entry) → left_by (option_map as_write o) ≡ value_of o
left_by-as_write None = refl
left_by-as_write (Some e) = refl

-- and the value of the key is what that entry says
pub value-entries : (h : History) (k s : ℕ) → value h k s ≡ value_of (first_below (entries_of h.slots 0 s) k s)
value-entries h k s = ap left_by (newest-entries h k s) ∙ left_by-as_write (first_below (entries_of h.slots 0 s) k s)
