-- Each word there is stands in the row, and no two stand at one place.
use Rattle.std.proofs.Common.{◌≡◌, ◌≢◌, ℕ, zero, suc, ◌+◌, ◌-◌, ◌*◌, ◌<◌, ◌≤◌, ◌&&◌, true, length, get_or, nat_lt, refl, ap, sym, ◌∙◌, arith, ne_eqb, inl, inr}
use Rattle.std.proofs.Common.{◌⊎◌}
use Rattle.std.proofs.lemmas.Bool.{and_parts, cases_lt, le-leb, lt-leb, ltb-true}
use Rattle.clsm_law.specs.declared.layout.Layout.{Layout}
use Rattle.clsm_law.specs.declared.word.Word.{Word}
use Rattle.clsm_law.specs.declared.word.Word.TheVariants.{Lock, Clock, Limit, Front, Merged, Pin, Snap, Head, Cell, Order, Hint, State, Count, Entry}
use Rattle.clsm_law.specs.declared.word.Part.{Part}
use Rattle.clsm_law.specs.declared.word.Part.TheVariants.{Key, Length, Value, Next}
use Rattle.clsm_law.specs.Memory.{is_part, is_word, room_of}
use Rattle.clsm_law.specs.Layout.{blocks, block_of, offset_of, part_block, part_offset, cell_offset, entry_offset, place_size, start_of, index_of, size_of}
use Rattle.clsm_law.proofs.Rows.Blocks.{block_inside, same_block}
use Rattle.clsm_law.proofs.Cases.{below}

-- ---- each word in its block

-- the block of a place has the place's size
place_block : (z : Layout) (p : ℕ) → p < 5 → get_or (blocks z) (11 + p) 0 ≡ place_size z p
place_block z = below (λ p. get_or (blocks z) (11 + p) 0 ≡ place_size z p) 5 (refl, (refl, (refl, (refl, (refl, tt)))))

-- an entry's key stands among the keys, its near words behind them, and its far words behind these
abbrev IsFirst : ℕ → ℕ → ℕ → ℕ → Type 0
IsFirst room e i offset = (i ≡ 0) × (offset ≡ e)

abbrev IsNear : ℕ → ℕ → ℕ → ℕ → Type 0
IsNear room e i offset = (0 < i) × (i < 5) × (offset ≡ room + (4 * e + (i - 1)))

abbrev IsFar : ℕ → ℕ → ℕ → ℕ → Type 0
IsFar room e i offset = (5 ≤ i) × (offset ≡ 5 * room + (6 * e + (i - 5)))

entry_near : (room e i : ℕ) → 0 < i → i < 5 → entry_offset room e i ≡ room + (4 * e + (i - 1))
entry_near room e i some few = rw (ne_eqb i 0 (λ q. absurd (omega arith)), le-leb i 4 (omega arith)) refl

entry_far : (room e i : ℕ) → 5 ≤ i → entry_offset room e i ≡ 5 * room + (6 * e + (i - 5))
entry_far room e i many =
    let less : i - 1 - 4 ≡ i - 5 = omega arith in rw (ne_eqb i 0 (λ q. absurd (omega arith)), lt-leb i 4 (omega arith), less) refl

entry_where : (room e i : ℕ) → IsFirst room e i (entry_offset room e i) ⊎ (IsNear room e i (entry_offset room e i) ⊎ IsFar room e i (entry_offset room e i))
entry_where room e zero = inl (refl, refl)
entry_where room e (suc i) = elim (cases_lt (suc i) 5) [
  | inl few ↦ inr (inl (omega arith, few, entry_near room e (suc i) (omega arith) few))
  | inr many ↦ inr (inr (many, entry_far room e (suc i) many))
]

-- it stands among the words of its place, and no two stand at one place
entry_below : (room e i : ℕ) → e < room → i < 11 → entry_offset room e i < 11 * room
entry_below room e i lt part = by (entry_offset room e i) (entry_where room e i)
  where
    by : (o : ℕ) → IsFirst room e i o ⊎ (IsNear room e i o ⊎ IsFar room e i o) → o < 11 * room
    by o (inl f) = let at = f.1 in omega arith
    by o (inr (inl n)) = let few = n.1 in let at = n.2 in omega arith
    by o (inr (inr m)) = let many = m.0 in let at = m.1 in omega arith

same_entry : (room x y i j : ℕ) → x < room → y < room → i < 11 → j < 11 → entry_offset room x i ≡ entry_offset room y j → (x ≡ y) × (i ≡ j)
same_entry room x y i j a b h k e = by (entry_offset room x i) (entry_offset room y j) e (entry_where room x i) (entry_where room y j)
  where
    by : (o q : ℕ) → o ≡ q → IsFirst room x i o ⊎ (IsNear room x i o ⊎ IsFar room x i o) → IsFirst room y j q ⊎ (IsNear room y j q ⊎ IsFar room y j q) →
        (x ≡ y) × (i ≡ j)
    by o q e (inl (c, at)) (inl (d, at')) = (omega arith, omega arith)
    by o q e (inl (c, at)) (inr (inl (d, d', at'))) = absurd (omega arith)
    by o q e (inl (c, at)) (inr (inr (d, at'))) = absurd (omega arith)
    by o q e (inr (inl (c, c', at))) (inl (d, at')) = absurd (omega arith)
    by o q e (inr (inl (c, c', at))) (inr (inl (d, d', at'))) = let f : x ≡ y = omega arith in (f, omega arith)
    by o q e (inr (inl (c, c', at))) (inr (inr (d, at'))) = absurd (omega arith)
    by o q e (inr (inr (c, at))) (inl (d, at')) = absurd (omega arith)
    by o q e (inr (inr (c, at))) (inr (inl (d, d', at'))) = absurd (omega arith)
    by o q e (inr (inr (c, at))) (inr (inr (d, at'))) = let f : x ≡ y = omega arith in (f, omega arith)

-- a part stands in its block: in its cell's line behind the state, or among the other words
part_inside : (z : Layout) (c : ℕ) (part : Part) → c < 2 * z.cells → is_part part ≡ true → cell_offset c part < get_or (blocks z) (part_block part) 0
part_inside z c Key lt h = omega arith
part_inside z c Next lt h = omega arith
part_inside z c Length lt h = omega arith
part_inside z c (Value zero) lt h = omega arith
part_inside z c (Value (suc zero)) lt h = omega arith
part_inside z c (Value (suc (suc zero))) lt h = omega arith
part_inside z c (Value (suc (suc (suc j)))) lt h = let below = ltb-true (suc (suc (suc j))) 8 h in omega arith

-- a part in a line stands neither where a state nor where a link of the ordered list does
part_apart : (c x y : ℕ) (part : Part) → part_block part ≡ 7 → (y ≡ 0) ⊎ (y ≡ 3) → cell_offset c part ≢ 8 * x + y
part_apart c x y Key b o e = elim o [ inl f ↦ absurd (omega arith) | inr f ↦ absurd (omega arith) ]
part_apart c x y Next b o e = elim o [ inl f ↦ absurd (omega arith) | inr f ↦ absurd (omega arith) ]
part_apart c x y Length b o e = elim o [ inl f ↦ absurd (omega arith) | inr f ↦ absurd (omega arith) ]
part_apart c x y (Value zero) b o e = elim o [ inl f ↦ absurd (omega arith) | inr f ↦ absurd (omega arith) ]
part_apart c x y (Value (suc zero)) b o e = elim o [ inl f ↦ absurd (omega arith) | inr f ↦ absurd (omega arith) ]
part_apart c x y (Value (suc (suc zero))) b o e = elim o [ inl f ↦ absurd (omega arith) | inr f ↦ absurd (omega arith) ]
part_apart c x y (Value (suc (suc (suc j)))) b o e = absurd (omega arith)

-- where a part stands, by whether it is one of the other words
pub far_part : (c j : ℕ) → 3 ≤ j → (part_block (Value j) ≡ 8) × (cell_offset c (Value j) ≡ 5 * c + (j - 3))
far_part c zero h = absurd (omega arith)
far_part c (suc zero) h = absurd (omega arith)
far_part c (suc (suc zero)) h = absurd (omega arith)
far_part c (suc (suc (suc j))) h = (refl, omega arith)

pub near_word : (c j : ℕ) → j < 3 → (part_block (Value j) ≡ 7) × (cell_offset c (Value j) ≡ 8 * (2 + c) + (5 + j))
near_word c zero h = (refl, omega arith)
near_word c (suc zero) h = (refl, omega arith)
near_word c (suc (suc zero)) h = (refl, omega arith)
near_word c (suc (suc (suc j))) h = absurd (omega arith)

part_block_within : (part : Part) → (7 ≤ part_block part) × (part_block part < 9)
part_block_within Key = (omega arith, omega arith)
part_block_within Next = (omega arith, omega arith)
part_block_within Length = (omega arith, omega arith)
part_block_within (Value zero) = (omega arith, omega arith)
part_block_within (Value (suc zero)) = (omega arith, omega arith)
part_block_within (Value (suc (suc zero))) = (omega arith, omega arith)
part_block_within (Value (suc (suc (suc j)))) = (omega arith, omega arith)

hinted : (z : Layout) (c i : ℕ) → is_word z (Hint c i) ≡ true → (c < 2 * z.cells) × (i < 3)
hinted z c i h = let a = and_parts (nat_lt c (2 * z.cells)) (nat_lt i 3) h in (ltb-true c (2 * z.cells) a.0, ltb-true i 3 a.1)

record Entered (z : Layout) (p e i : ℕ) : Type 0 where
  place : p < 5
  entry : e < room_of z p
  part : i < 11

entered : (z : Layout) (p e i : ℕ) → is_word z (Entry p e i) ≡ true → Entered z p e i
entered z p e i h =
    let a = and_parts (nat_lt p 5 && nat_lt e (room_of z p)) (nat_lt i 11) h in
    let b = and_parts (nat_lt p 5) (nat_lt e (room_of z p)) a.0 in
    record { place = ltb-true p 5 b.0; entry = ltb-true e (room_of z p) b.1; part = ltb-true i 11 a.1 }

block_below : (z : Layout) (w : Word) → is_word z w ≡ true → block_of w < length (blocks z)
block_below z (Cell c part) h = let b = (part_block_within part).1 in omega arith
block_below z (Count p) h = omega (arith, ltb-true p 5 h)
block_below z (Entry p e i) h = let x = entered z p e i h in omega arith
block_below z _ h = omega arith

offset_below : (z : Layout) (w : Word) → is_word z w ≡ true → offset_of z w < get_or (blocks z) (block_of w) 0
offset_below z (Pin i) h = omega (arith, ltb-true i z.seats h)
offset_below z (Snap i) h = omega (arith, ltb-true i z.seats h)
offset_below z (Cell c part) h =
    let a = and_parts (nat_lt c (2 * z.cells)) (is_part part) h in
    part_inside z c part (ltb-true c (2 * z.cells) a.0) a.1
offset_below z (Order k) h = omega (arith, ltb-true k (2 + 2 * z.cells) h)
offset_below z (Hint c zero) h = let a = hinted z c 0 h in omega (arith, a.0, a.1)
offset_below z (Hint c (suc zero)) h = let a = hinted z c 1 h in omega (arith, a.0, a.1)
offset_below z (Hint c (suc (suc zero))) h = let a = hinted z c 2 h in omega (arith, a.0, a.1)
offset_below z (Hint c (suc (suc (suc i)))) h = let a = hinted z c (suc (suc (suc i))) h in absurd (omega (arith, a.1))
offset_below z (State c) h = omega (arith, ltb-true c (2 * z.cells) h)
offset_below z (Head zero chain) h = let a = and_parts (nat_lt 0 2) (nat_lt chain z.chains) h in omega (arith, ltb-true chain z.chains a.1)
offset_below z (Head (suc zero) chain) h = let a = and_parts (nat_lt 1 2) (nat_lt chain z.chains) h in omega (arith, ltb-true chain z.chains a.1)
offset_below z (Head (suc (suc region)) chain) h =
    let a = and_parts (nat_lt (suc (suc region)) 2) (nat_lt chain z.chains) h in absurd (omega (arith, ltb-true (suc (suc region)) 2 a.0))
offset_below z (Count p) h = rw (place_block z p (ltb-true p 5 h)) (omega arith)
offset_below z (Entry p e i) h =
    let x = entered z p e i h in let o = entry_below (room_of z p) e i x.entry x.part in rw (place_block z p x.place) (omega arith)
offset_below z _ h = omega arith

-- each word stands in the row
pub index_inside : (z : Layout) (w : Word) → is_word z w ≡ true → index_of z w < size_of z
unfolding index_of size_of start_of
index_inside z w h = block_inside (blocks z) (block_of w) (offset_of z w) (block_below z w h) (offset_below z w h)

-- ---- one word at each place of a block

line_part : (c : ℕ) (p : Part) → part_block p ≡ 7 → (cell_offset c p ≡ 8 * (2 + c) + part_offset p) × (part_offset p < 8)
line_part c Key b = (omega arith, omega arith)
line_part c Next b = (omega arith, omega arith)
line_part c Length b = (omega arith, omega arith)
line_part c (Value zero) b = (omega arith, omega arith)
line_part c (Value (suc zero)) b = (omega arith, omega arith)
line_part c (Value (suc (suc zero))) b = (omega arith, omega arith)
line_part c (Value (suc (suc (suc j)))) b = absurd (omega arith)

same_part_offset : (p q : Part) → part_offset p ≡ part_offset q → p ≡ q
same_part_offset Key Key e = refl
same_part_offset Length Length e = refl
same_part_offset Next Next e = refl
same_part_offset (Value i) (Value j) e = let f : i ≡ j = omega arith in ap Value f
same_part_offset (Value i) Key e = absurd (omega arith)
same_part_offset (Value i) Next e = absurd (omega arith)
same_part_offset (Value i) Length e = absurd (omega arith)
same_part_offset Key (Value j) e = absurd (omega arith)
same_part_offset Next (Value j) e = absurd (omega arith)
same_part_offset Length (Value j) e = absurd (omega arith)
same_part_offset _ _ e = absurd (omega arith)

same_line : (c d : ℕ) (p q : Part) → part_block p ≡ 7 → part_block q ≡ 7 → cell_offset c p ≡ cell_offset d q → (c ≡ d) × (p ≡ q)
same_line c d p q b b' e =
    let m = line_part c p b in
    let n = line_part d q b' in
    let f : c ≡ d = omega arith in
    (f, same_part_offset p q (omega arith))

same_part : (c d : ℕ) (p q : Part) → part_block p ≡ part_block q → cell_offset c p ≡ cell_offset d q → is_part p ≡ true → is_part q ≡ true → (c ≡ d) × (p ≡ q)
same_part c d Key q b e h k = same_line c d Key q refl (sym b) e
same_part c d Next q b e h k = same_line c d Next q refl (sym b) e
same_part c d Length q b e h k = same_line c d Length q refl (sym b) e
same_part c d (Value zero) q b e h k = same_line c d (Value zero) q refl (sym b) e
same_part c d (Value (suc zero)) q b e h k = same_line c d (Value (suc zero)) q refl (sym b) e
same_part c d (Value (suc (suc zero))) q b e h k = same_line c d (Value (suc (suc zero))) q refl (sym b) e
same_part c d (Value (suc (suc (suc i)))) Key b e h k = absurd (omega arith)
same_part c d (Value (suc (suc (suc i)))) Next b e h k = absurd (omega arith)
same_part c d (Value (suc (suc (suc i)))) Length b e h k = absurd (omega arith)
same_part c d (Value (suc (suc (suc i)))) (Value zero) b e h k = absurd (omega arith)
same_part c d (Value (suc (suc (suc i)))) (Value (suc zero)) b e h k = absurd (omega arith)
same_part c d (Value (suc (suc (suc i)))) (Value (suc (suc zero))) b e h k = absurd (omega arith)
same_part c d (Value (suc (suc (suc i)))) (Value (suc (suc (suc j)))) b e h k =
    let x = ltb-true (suc (suc (suc i))) 8 h in
    let y = ltb-true (suc (suc (suc j))) 8 k in
    let f : i ≡ j = omega arith in
    (omega arith, ap (λ (n : ℕ). Value (suc (suc (suc n)))) f)

same_hint : (n c d i j : ℕ) → c < n → d < n → i < 3 → j < 3 → n * i + c ≡ n * j + d → (c ≡ d) × (i ≡ j)
same_hint n c d zero zero x y a b e = (omega arith, refl)
same_hint n c d (suc zero) (suc zero) x y a b e = (omega arith, refl)
same_hint n c d (suc (suc zero)) (suc (suc zero)) x y a b e = (omega arith, refl)
same_hint n c d (suc (suc (suc i))) j x y a b e = absurd (omega arith)
same_hint n c d i (suc (suc (suc j))) x y a b e = absurd (omega arith)
same_hint n c d _ _ x y a b e = absurd (omega arith)

behind_count : (a b : ℕ) → 1 + a ≡ 1 + b → a ≡ b
behind_count a b e = omega arith

same_place : (z : Layout) (v w : Word) → is_word z v ≡ true → is_word z w ≡ true → block_of v ≡ block_of w → offset_of z v ≡ offset_of z w → v ≡ w
same_place z Lock Lock h k b e = refl
same_place z Clock Clock h k b e = refl
same_place z Limit Limit h k b e = refl
same_place z Front Front h k b e = refl
same_place z Merged Merged h k b e = refl
same_place z (Pin i) (Pin j) h k b e = let f : i ≡ j = omega arith in ap Pin f
same_place z (Snap i) (Snap j) h k b e = let f : i ≡ j = omega arith in ap Snap f
same_place z (Head zero s) (Head zero t) h k b e = let g : s ≡ t = omega arith in ap (Head 0) g
same_place z (Head (suc zero) s) (Head (suc zero) t) h k b e = let g : s ≡ t = omega arith in ap (Head 1) g
same_place z (Head zero s) (Head (suc zero) t) h k b e = let x = ltb-true s z.chains (and_parts (nat_lt 0 2) (nat_lt s z.chains) h).1 in absurd (omega arith)
same_place z (Head (suc zero) s) (Head zero t) h k b e = let y = ltb-true t z.chains (and_parts (nat_lt 0 2) (nat_lt t z.chains) k).1 in absurd (omega arith)
same_place z (Head (suc (suc r)) s) (Head q t) h k b e =
    absurd (omega (arith, ltb-true (suc (suc r)) 2 (and_parts (nat_lt (suc (suc r)) 2) (nat_lt s z.chains) h).0))
same_place z (Head r s) (Head (suc (suc q)) t) h k b e =
    absurd (omega (arith, ltb-true (suc (suc q)) 2 (and_parts (nat_lt (suc (suc q)) 2) (nat_lt t z.chains) k).0))
same_place z (Cell c p) (Cell d q) h k b e =
    let x = and_parts (nat_lt c (2 * z.cells)) (is_part p) h in
    let y = and_parts (nat_lt d (2 * z.cells)) (is_part q) k in
    let f = same_part c d p q b e x.1 y.1 in
    let g = f.0 in let i = f.1 in cc
same_place z (Order x) (Order y) h k b e = let f : x ≡ y = omega arith in ap Order f
same_place z (Hint c i) (Hint d j) h k b e =
    let m = hinted z c i h in
    let n = hinted z d j k in
    let f = same_hint (2 * z.cells) c d i j m.0 n.0 m.1 n.1 e in
    let g = f.0 in let l = f.1 in cc
same_place z (Cell c p) (Hint d j) h k b e = let m = (part_block_within p).1 in absurd (omega arith)
same_place z (Hint c i) (Cell d q) h k b e = let m = (part_block_within q).1 in absurd (omega arith)
same_place z (Cell c p) (Order y) h k b e = absurd (part_apart c y 3 p b (inr refl) e)
same_place z (Order x) (Cell d q) h k b e = absurd (part_apart d x 3 q (sym b) (inr refl) (sym e))
same_place z (State c) (State d) h k b e = let f : c ≡ d = omega arith in ap State f
same_place z (Cell c p) (State d) h k b e = absurd (part_apart c (2 + d) 0 p b (inl refl) (omega arith))
same_place z (State c) (Cell d q) h k b e = absurd (part_apart d (2 + c) 0 q (sym b) (inl refl) (omega arith))
same_place z (Cell c p) (Count q) h k b e = let m = (part_block_within p).1 in absurd (omega arith)
same_place z (Count q) (Cell c p) h k b e = let m = (part_block_within p).1 in absurd (omega arith)
same_place z (Cell c p) (Entry q y i) h k b e = let m = (part_block_within p).1 in absurd (omega arith)
same_place z (Entry q y i) (Cell c p) h k b e = let m = (part_block_within p).1 in absurd (omega arith)
same_place z (Cell c p) (Head q y) h k b e = let m = (part_block_within p).1 in absurd (omega arith)
same_place z (Head q y) (Cell c p) h k b e = let m = (part_block_within p).1 in absurd (omega arith)
same_place z (Cell c p) w h k b e = let m = (part_block_within p).0 in absurd (omega arith)
same_place z v (Cell c p) h k b e = let m = (part_block_within p).0 in absurd (omega arith)
same_place z (Count p) (Count q) h k b e = let f : p ≡ q = omega arith in ap Count f
same_place z (Entry p x i) (Entry q y j) h k b e =
    let m = entered z p x i h in
    let n = entered z q y j k in
    let f : p ≡ q = omega arith in
    let r = ap (room_of z) f in
    let within : y < room_of z p = rw r n.entry in
    let s = behind_count (entry_offset (room_of z p) x i) (entry_offset (room_of z q) y j) e ∙ ap (λ room. entry_offset room y j) (sym r) in
    let d = same_entry (room_of z p) x y i j m.entry within m.part n.part s in
    let g = d.0 in let u = d.1 in cc
same_place z _ _ h k b e = absurd (omega arith)

-- no two words stand at one place
pub index_apart : (z : Layout) (v w : Word) → is_word z v ≡ true → is_word z w ≡ true → index_of z v ≡ index_of z w → v ≡ w
unfolding index_of start_of
index_apart z v w h k e =
    let s = same_block (blocks z) (block_of v) (block_of w) (offset_of z v) (offset_of z w) (block_below z v h) (block_below z w k) (offset_below z v h)
    (offset_below z w k) e in
    same_place z v w h k s.0 s.1
