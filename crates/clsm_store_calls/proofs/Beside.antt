-- Writes of a key during a call: none is the seat's own.
use Rattle.std.proofs.Common.{◌≡◌, ◌≢◌, ℕ, zero, suc, ◌+◌, ◌-◌, ◌<◌, ◌≤◌, ◌==◌, ◌++◌, ◌∷◌, ◌⊎◌, [], List, Bool, true, false, cond, length, get_or, drop}
use Rattle.std.proofs.Common.{take, inl, inr, ⊎_elim, refl, sym, ap, ◌∙◌, subst, arith, eq-eqb, ne_eqb, Option, Some, None, Result, Ok, Err, IfOk, IfErr}
use Rattle.std.specs.Prelude.{is_some}
use Rattle.std.specs.List.{count_by}
use Rattle.std.proofs.lemmas.Bool.{cases_lt, eqb-true}
use Rattle.std.proofs.lemmas.List.{get_or-drop, get_or-take, get_or_past, length-drop}
use Rattle.std.proofs.Math.Seq.{take-append-add}
use mathlib.Core.List.{IsPrefix}
use Rattle.std.proofs.lemmas.List.Elements.{filter-append}
use Rattle.std.proofs.lemmas.List.Sums.{sum_by-append, sum_by-cons}
use Rattle.clsm_model.specs.declared.slot.Slot.{Slot}
use Rattle.clsm_model.specs.declared.slot.Slot.TheVariants.{Nothing, Wrote}
use Rattle.clsm_model.specs.declared.slot.Change.{Change}
use Rattle.clsm_model.specs.declared.record.Deed.TheVariants.{Put, Rmw}
use Rattle.clsm_model.specs.declared.record.CallRecord.{CallRecord}
use Rattle.clsm_model.specs.Right.{write_at, write_by}
use Rattle.clsm_model.specs.Seats.{HasWrite, Rises, last_due, writes_at}
use Rattle.clsm_model.proofs.Rising.{rises_append}
use Rattle.clsm_model.proofs.Written.{one_write}
use Rattle.clsm_law.specs.Relation.{call_of}
use Rattle.clsm_words.specs.declared.known.Known.{Known}
use Rattle.clsm_words.specs.Knowing.{Sound}
use Rattle.clsm_words.specs.Seats.{RawState}
use Rattle.clsm_store_calls.specs.declared.got.Rmw.{Rmw as Answered}
use Rattle.clsm_store_calls.specs.declared.refusal.Full.{Full as Refusal}
use Rattle.clsm_store_calls.specs.Changing.{ChangesAt, EndsFull, GivesUpFor, changed_at, is_write_of, writes_from}
use Rattle.clsm_store_calls.specs.Resting.{seat_of}
use Rattle.clsm_store_calls.specs.Seats.{GivesUpForWrites, is_write_beside, writes_beside}

-- ---- a seat's own writes are below its due

has_on : (i t : ℕ) (write : Slot) (calls more : List CallRecord) → HasWrite i t write calls → HasWrite i t write (calls ++ more)
has_on i t write [] more has = elim has [ ]
has_on i t write (r ∷ rs) more (inl here) = inl here
has_on i t write (r ∷ rs) more (inr there) = inr (has_on i t write rs more there)

-- from the due on no call of the seat wrote: with one more there, two would
written_below : (i t : ℕ) (write : Slot) (calls : List CallRecord) → Rises 0 None calls → HasWrite i t write calls → last_due 0 None calls ≤ t → ⊥
written_below i t write calls rises has le =
    let next : CallRecord = call_of i t (Put 0 []) in
    let one = one_write i t 0 write None calls rises has in
    let two = one_write i t 0 write None (calls ++ next ∷ []) (rises_append 0 None calls next rises le) (has_on i t write calls (next ∷ []) has) in
    let here : is_some (write_at i t (Put 0 []) t) ≡ true = ap (λ (b : Bool). is_some (cond b (write_by i (Put 0 [])) None)) (eq-eqb t t refl) in
    let last : writes_at i t (next ∷ []) ≡ next ∷ [] = ap (λ (b : Bool). cond b (next ∷ []) []) here in
    let both = filter-append (λ (r : CallRecord). is_some (write_at i r.time r.deed t)) calls (next ∷ []) in
    let joined : two.0 ∷ [] ≡ (one.0 ∷ []) ++ (next ∷ []) = sym two.1 ∙ both ∙ (λ j. one.1 j ++ last j) in
    let long = ap (λ (l : List CallRecord). length l) joined in
    absurd (omega arith)

-- ---- counts of slots

more : (p : Slot → Bool) (x : Slot) (xs : List Slot) → count_by p (x ∷ xs) ≡ cond (p x) 1 0 + count_by p xs
more p x xs = sum_by-cons (λ s. cond (p s) 1 0) x xs

-- where a test passes with another, the other passes as often
counts_more_by : (p q : Slot → Bool) (l : List Slot) → ((i : ℕ) → i < length l → p (get_or l i Nothing) ≡ true → q (get_or l i Nothing) ≡ true)
    → count_by p l ≤ count_by q l
counts_more_by p q [] each = omega arith
counts_more_by p q (x ∷ xs) each =
    let a = more p x xs in
    let b = more q x xs in
    let rest = counts_more_by p q xs (λ i lt. each (suc i) (omega arith)) in
    head (p x) refl a b rest
  where
    head : (t : Bool) → p x ≡ t → count_by p (x ∷ xs) ≡ cond (p x) 1 0 + count_by p xs → count_by q (x ∷ xs) ≡ cond (q x) 1 0 + count_by q xs
        → count_by p xs ≤ count_by q xs → count_by p (x ∷ xs) ≤ count_by q (x ∷ xs)
    head true is a b rest =
        let one = ap {A = Bool} {B = ℕ} (λ t. cond {A = ℕ} t 1 0) is in
        let two = ap {A = Bool} {B = ℕ} (λ t. cond {A = ℕ} t 1 0) (each 0 (omega arith) is) in
        omega arith
    head false is a b rest =
        let none = ap {A = Bool} {B = ℕ} (λ t. cond {A = ℕ} t 1 0) is in
        omega arith

-- a write of the key that is not the seat's own is one beside it
beside : (number key : ℕ) (slot : Slot) → ((written : Option (List ℕ)) → slot ≢ Wrote number key written) → is_write_of key slot ≡ true
    → is_write_beside number key slot ≡ true
beside number key Nothing none is = absurd cc
beside number key (Wrote i k written) none is =
    let same = eqb-true k key is in
    let ne : (i == number) ≡ false = ne_eqb i number (λ (e : i ≡ number). none written (λ j. Wrote (e j) (same j) written)) in
    rw (is, ne) refl

-- so it is of all from the first time on and below the last, where none there is its own
all_beside : (slots : List Slot) (number key first last : ℕ)
    → ((t : ℕ) (written : Option (List ℕ)) → first ≤ t → t < last → get_or slots t Nothing ≢ Wrote number key written)
    → writes_from (take last slots) key first ≤ writes_beside slots number key first last
all_beside slots number key first last none =
    counts_more_by (is_write_of key) (is_write_beside number key) (drop first (take last slots)) (λ i lt is.
    elim (cases_lt (first + i) last) [
      | inl below ↦
          let at : get_or (drop first (take last slots)) i Nothing ≡ get_or slots (first + i) Nothing =
          get_or-drop first (take last slots) i Nothing ∙ get_or-take last slots (first + i) Nothing below in
          beside number key (get_or (drop first (take last slots)) i Nothing)
          (λ written e. none (first + i) written (omega arith) below (sym at ∙ e)) is
      | inr beyond ↦ absurd (let short = taken_short slots last in let long = length-drop first (take last slots) in omega arith)
    ])
  where
    taken_short : (l : List Slot) (n : ℕ) → length (take n l) ≤ n
    taken_short [] zero = omega arith
    taken_short [] (suc n) = omega arith
    taken_short (x ∷ xs) zero = omega arith
    taken_short (x ∷ xs) (suc n) = let rest = taken_short xs n in omega arith

-- ---- a read-modify-write

-- the calls that were made until now, of which the last is the one that changes the key, if it is
-- answered
abbrev Made : Known → Known → ℕ → ℕ → Type 0
Made a f key last =
    (f.view.calls ≡ a.view.calls) ⊎ ((old : Option (List ℕ)) × (change : Change)
    × (f.view.calls ≡ a.view.calls ++ call_of a.number last (Rmw key old change) ∷ []))

module _ (a f : Known) (key last : ℕ) (sound : Sound a) (sound' : Sound f) (number : f.number ≡ a.number) (made : Made a f key last)
    (h : GivesUpFor a f key last) where
  -- a write of the seat's own is none in between
  not_before : (t : ℕ) (write : Slot) → h.first ≤ t → HasWrite a.number t write a.view.calls → ⊥
  not_before t write from has =
      let due = sound.rising.due_is in
      let first = h.due in
      written_below a.number t write a.view.calls sound.rising.rises has (omega arith)

  not_last : (t s : ℕ) (old : Option (List ℕ)) (change : Change) (write : Slot) → t < s → write_at a.number s (Rmw key old change) t ≢ Some write
  not_last t s old change write lt e =
      let no = ne_eqb s t (λ (same : s ≡ t). absurd (omega arith)) in
      let none : write_at a.number s (Rmw key old change) t ≡ None = ap (λ (b : Bool). cond b (write_by a.number (Rmw key old change)) None) no in
      absurd (cc (none, e))

  in_both : (t : ℕ) (write : Slot) (r : CallRecord) (calls : List CallRecord) → HasWrite a.number t write (calls ++ r ∷ [])
      → (HasWrite a.number t write calls → ⊥) → (write_at a.number r.time r.deed t ≡ Some write → ⊥) → ⊥
  in_both t write r [] (inl here) before there = there here
  in_both t write r [] (inr none) before there = absurd none
  in_both t write r (c ∷ cs) (inl here) before there = before (inl here)
  in_both t write r (c ∷ cs) (inr later) before there = in_both t write r cs later (λ has. before (inr has)) there

  not_own : (t : ℕ) (written : Option (List ℕ)) → h.first ≤ t → t < last → get_or f.past t Nothing ≢ Wrote a.number key written
  not_own t written from until is =
      let write = Wrote a.number key written in
      let inside : t < length f.past = elim (cases_lt t (length f.past)) [
        | inl lt ↦ lt
        | inr le ↦ absurd (let none = get_or_past f.past t Nothing le in cc (none, is))
      ] in
      let has : HasWrite a.number t write f.view.calls = subst (λ (n : ℕ). get_or f.past t Nothing ≡ Wrote n key written
      → HasWrite n t (Wrote n key written) f.view.calls) number (sound'.agrees.recorded t key written inside) is in
      ⊎_elim
      (λ (same : f.view.calls ≡ a.view.calls). not_before t write from (subst (HasWrite a.number t write) same has))
      (λ (one : (old : Option (List ℕ)) × (change : Change) × (f.view.calls ≡ a.view.calls ++ call_of a.number last (Rmw key old change) ∷ [])).
      in_both t write (call_of a.number last (Rmw key one.0 one.1)) a.view.calls (subst (HasWrite a.number t write) one.2 has)
      (not_before t write from) (not_last t last one.0 one.1 write until))
      made

  within : h.counts.times ≤ writes_beside f.past a.number key h.first last
  within = let few = h.counts.within in let all = all_beside f.past a.number key h.first last not_own in omega arith

pub gives_up_for_writes : (a f : RawState) (key last : ℕ) → Sound a.knows → Sound f.knows → f.knows.number ≡ a.knows.number → Made a.knows f.knows key last
    → GivesUpFor a.knows f.knows key last → GivesUpForWrites (seat_of a) (seat_of f) key last
gives_up_for_writes a f key last sound sound' number made h = record {
  first = h.first;
  looked = h.looked;
  due = h.due;
  known = h.known;
  reached = h.reached;
  until = h.until;
  counts = record {
    times = h.counts.times;
    counted = h.counts.counted;
    within = within a.knows f.knows key last sound sound' number made h;
  };
}

-- the whole call, by its answer
pub changed_made : (a f : Known) (key : ℕ) (answer : Result Answered Refusal) → IfOk answer (λ rmw. ChangesAt a f rmw.time key rmw.old rmw.change)
    → IfErr answer (λ full. EndsFull a f full.time) → (f.number ≡ a.number) × Made a f key (changed_at answer)
changed_made a f key (Ok rmw) changed full = (changed.same.number, inr (rmw.old, rmw.change, changed.calls))
changed_made a f key (Err refusal) changed full = (full.same.number, inl full.calls)

-- ---- one call after another

count_append : (p : Slot → Bool) (xs ys : List Slot) → count_by p (xs ++ ys) ≡ count_by p xs + count_by p ys
count_append p xs ys = sum_by-append (λ s. cond (p s) 1 0) xs ys

count_dropped : (p : Slot → Bool) (n : ℕ) (xs : List Slot) → count_by p (drop n xs) ≤ count_by p xs
count_dropped p zero xs = omega arith
count_dropped p (suc n) [] = omega arith
count_dropped p (suc n) (x ∷ xs) = let a = more p x xs in let rest = count_dropped p n xs in omega arith

count_taken : (p : Slot → Bool) (n : ℕ) (xs : List Slot) → count_by p (take n xs) ≤ count_by p xs
count_taken p zero xs = omega arith
count_taken p (suc n) [] = omega arith
count_taken p (suc n) (x ∷ xs) = let a = more p x xs in let b = more p x (take n xs) in let rest = count_taken p n xs in omega arith

drop_append : (n : ℕ) (xs ys : List Slot) → n ≤ length xs → drop n (xs ++ ys) ≡ drop n xs ++ ys
drop_append zero xs ys le = refl
drop_append (suc n) [] ys le = absurd (omega arith)
drop_append (suc n) (x ∷ xs) ys le = drop_append n xs ys (omega arith)

drop_behind : (n : ℕ) (xs ys : List Slot) → length xs ≤ n → drop n (xs ++ ys) ≡ drop (n - length xs) ys
drop_behind n [] ys le = let same : n - 0 ≡ n = omega arith in ap (λ (k : ℕ). drop k ys) (sym same)
drop_behind zero (x ∷ xs) ys le = absurd (omega arith)
drop_behind (suc n) (x ∷ xs) ys le = let same : suc n - suc (length xs) ≡ n - length xs = omega arith in
    drop_behind n xs ys (omega arith) ∙ ap (λ (k : ℕ). drop k ys) (sym same)

take_inside : (n m : ℕ) (xs : List Slot) (p : Slot → Bool) → count_by p (drop n (take m xs)) ≤ count_by p (drop n xs)
take_inside zero m xs p = count_taken p m xs
take_inside (suc n) zero xs p = omega arith
take_inside (suc n) (suc m) [] p = omega arith
take_inside (suc n) (suc m) (x ∷ xs) p = take_inside n m xs p

-- what stands in the shorter past and what stands beyond it are others
pub beside_apart : (a b : List Slot) (number key first last first' last' : ℕ) → IsPrefix a b → first ≤ length a → length a ≤ first' → first' ≤ last'
    → writes_beside a number key first last + writes_beside b number key first' last' ≤ writes_beside b number key first last'
beside_apart a b number key first last first' last' begins le beyond until =
    let p = is_write_beside number key in
    let rest = take (last' - length a) begins.0 in
    let parts : length a + (last' - length a) ≡ last' = omega arith in
    let taken : take last' b ≡ a ++ rest = (λ i. take (sym parts i) (sym begins.1 i)) ∙ take-append-add a begins.0 (last' - length a) in
    let whole : writes_beside b number key first last' ≡ count_by p (drop first a) + count_by p rest =
    ap (λ (l : List Slot). count_by p (drop first l)) taken ∙ ap (λ (l : List Slot). count_by p l) (drop_append first a rest le)
    ∙ count_append p (drop first a) rest in
    let behind : writes_beside b number key first' last' ≡ count_by p (drop (first' - length a) rest) =
    ap (λ (l : List Slot). count_by p (drop first' l)) taken ∙ ap (λ (l : List Slot). count_by p l) (drop_behind first' a rest beyond) in
    let fewer = count_dropped p (first' - length a) rest in
    let inside = take_inside first last a p in
    omega arith
