-- The row as a memory: a read finds what stands at the word's place, and a write there puts into
-- that word alone.
--   memory-at    : is_word z w ≡ true → memory z words w ≡ slice_index words (index_of z w)
--   memory-set   : is_word z w ≡ true → length words ≡ size_of z →
--                  memory z (slice_set words (index_of z w) x) ≡ put (memory z words) w x
--   memory-zeros : memory z (replicate n 0) ≡ λ w. 0
--   is_layout    : (z : Layout) → IsLayout z
-- The lemmas below them: index_inside and index_apart (LayoutIndex), is_same-refl and same_word
-- (LayoutWords).
use Rattle.std.proofs.Common.{◌≡◌, ℕ, true, false, cond, List, length, get_or, inl, inr, ap, sym, ◌∙◌, arith, replicate, slice_index, slice_set}
use Rattle.std.proofs.lemmas.Bool.{cases_lt, cases_Bool, true≢false}
use Rattle.std.proofs.lemmas.List.{get_or_past, get_or-replicate, get_or-set_other, get_or-set_same, length-replicate}
use Rattle.clsm_law.specs.declared.layout.Layout.{Layout}
use Rattle.clsm_law.specs.declared.word.Word.{Word}
use Rattle.clsm_law.specs.Memory.{is_same, is_word, put}
use Rattle.clsm_law.specs.Layout.{IsLayout, index_of, memory, size_of}
use Rattle.clsm_law.proofs.Rows.Index.{index_apart, index_inside}
use Rattle.clsm_law.proofs.Rows.Words.{is_same-refl, same_word}

-- each layout is sound
pub is_layout : (z : Layout) → IsLayout z
is_layout z = (z.cells_in_range, z.seats_in_range, z.chains_in_range, z.run_in_range)

-- a word there is reads what stands at its place
pub memory-at : (z : Layout) (words : List ℕ) (w : Word) → is_word z w ≡ true → memory z words w ≡ slice_index words (index_of z w)
unfolding memory
memory-at z words w h = ap (λ b. cond b (get_or words (index_of z w) 0) 0) h

-- a word there is not reads 0
pub memory-none : (z : Layout) (words : List ℕ) (w : Word) → is_word z w ≡ false → memory z words w ≡ 0
unfolding memory
memory-none z words w h = ap (λ b. cond b (get_or words (index_of z w) 0) 0) h

set_here : (z : Layout) (words : List ℕ) (w : Word) (x : ℕ) (v : Word) → is_word z w ≡ true → length words ≡ size_of z → v ≡ w
    → memory z (slice_set words (index_of z w) x) v ≡ x
set_here z words w x v h sized e =
    let lt = index_inside z w h in
    rw e (memory-at z (slice_set words (index_of z w) x) w h ∙ get_or-set_same words (index_of z w) x 0 (omega arith))

set_elsewhere : (z : Layout) (words : List ℕ) (w : Word) (x : ℕ) (v : Word) → is_word z w ≡ true → is_same v w ≡ false
    → memory z (slice_set words (index_of z w) x) v ≡ memory z words v
set_elsewhere z words w x v h other =
    elim (cases_Bool (is_word z v)) [
      | inr none ↦ memory-none z (slice_set words (index_of z w) x) v none ∙ sym (memory-none z words v none)
      | inl some ↦ memory-at z (slice_set words (index_of z w) x) v some
          ∙ get_or-set_other words (index_of z w) (index_of z v) x 0 (λ e. true≢false (sym (rw (index_apart z v w some h e) (is_same-refl w)) ∙ other))
          ∙ sym (memory-at z words v some)
    ]

set_at : (z : Layout) (words : List ℕ) (w : Word) (x : ℕ) (v : Word) → is_word z w ≡ true → length words ≡ size_of z
    → memory z (slice_set words (index_of z w) x) v ≡ put (memory z words) w x v
set_at z words w x v h sized =
    elim (cases_Bool (is_same v w)) [
      | inl same ↦ rw same (set_here z words w x v h sized (same_word v w same))
      | inr other ↦ rw other (set_elsewhere z words w x v h other)
    ]

-- a write at a word's place puts into that word, and leaves each other word
pub memory-set : (z : Layout) (words : List ℕ) (w : Word) (x : ℕ) → is_word z w ≡ true → length words ≡ size_of z
    → memory z (slice_set words (index_of z w) x) ≡ put (memory z words) w x
memory-set z words w x h sized k v = set_at z words w x v h sized k

zero_at : (z : Layout) (n : ℕ) (w : Word) → memory z (replicate n 0) w ≡ 0
zero_at z n w =
    elim (cases_Bool (is_word z w)) [
      | inr none ↦ memory-none z (replicate n 0) w none
      | inl some ↦ memory-at z (replicate n 0) w some
          ∙ elim (cases_lt (index_of z w) n) [
            | inl inside ↦ get_or-replicate n (index_of z w) 0 0 inside
            | inr past ↦ get_or_past (replicate n 0) (index_of z w) 0 (omega (arith, length-replicate {A = ℕ} n 0))
          ]
    ]

-- a row of zeros is 0 at each word
pub memory-zeros : (z : Layout) (n : ℕ) → memory z (replicate n 0) ≡ (λ w. 0)
memory-zeros z n k w = zero_at z n w k
