-- The words as a function of their names, and times as cells of the ring.
use Rattle.std.specs.Prelude.{ℕ, ◌+◌, ◌-◌, ◌*◌, ◌%◌, ◌==◌, ◌&&◌, Bool, true, false, cond, nat_lt}
use Rattle.clsm_law.specs.declared.layout.Layout.{Layout}
use Rattle.clsm_law.specs.declared.word.Word.{Word}
use Rattle.clsm_law.specs.declared.word.Word.TheVariants.{Lock, Clock, Limit, Front, Merged, Pin, Snap, Head, Cell, Order, Hint, State, Count, Entry}
use Rattle.clsm_law.specs.declared.word.Part.{Part}
use Rattle.clsm_law.specs.declared.word.Part.TheVariants.{Key, Length, Value, Next}

-- the words: the number that each of them holds
abbrev pub Memory : Type 0
Memory = Word → ℕ

-- both name the same part of a cell
abbrev pub is_same_part : Part → Part → Bool
is_same_part Key Key = true
is_same_part Length Length = true
is_same_part (Value i) (Value j) = i == j
is_same_part Next Next = true
is_same_part _ _ = false

-- both name the same word
abbrev pub is_same : Word → Word → Bool
is_same Lock Lock = true
is_same Clock Clock = true
is_same Limit Limit = true
is_same Front Front = true
is_same Merged Merged = true
is_same (Pin i) (Pin j) = i == j
is_same (Snap i) (Snap j) = i == j
is_same (Head r s) (Head q t) = r == q && s == t
is_same (Cell c p) (Cell d q) = c == d && is_same_part p q
is_same (Order k) (Order l) = k == l
is_same (Hint c i) (Hint d j) = c == d && i == j
is_same (State c) (State d) = c == d
is_same (Count p) (Count q) = p == q
is_same (Entry p e i) (Entry q f j) = p == q && e == f && i == j
is_same _ _ = false

-- the memory with x in the word w
abbrev pub put : Memory → Word → ℕ → Memory
put memory w x v = cond (is_same v w) x (memory v)

-- ---- times and cells

-- time t names cell t mod 2N: so two epochs have cells at a time
abbrev pub cell_of : Layout → ℕ → ℕ
cell_of z t = t % (2 * z.cells)

-- the region of a cell: 0 or 1
abbrev pub region_of : Layout → ℕ → ℕ
region_of z c = cond (nat_lt c z.cells) 0 1

-- the head of the chain in which a time's cell with this key is linked
abbrev pub head_of : Layout → ℕ → ℕ → Word
head_of z t key = Head (region_of z (cell_of z t)) (key % z.chains)

-- ---- places of the ordered lists: 0 is before the first cell, and a cell's place is the cell plus
-- 1

-- the number of the link behind a place in the list of a region
abbrev pub link_at : ℕ → ℕ → ℕ
link_at region p = cond (p == 0) region (p + 1)

-- the link behind the place
abbrev pub link_of : Memory → ℕ → ℕ → ℕ
link_of memory region p = memory (Order (link_at region p))

-- the key of the cell at the place
abbrev pub key_at : Memory → ℕ → ℕ
key_at memory p = memory (Cell (p - 1) Key)

-- the region that a link is of
abbrev pub region_of_link : Layout → ℕ → ℕ
region_of_link z k = cond (nat_lt k 2) k (region_of z (k - 2))

-- ---- which words there are

-- how many entries a place has room for: three places of level 0 and two of level 1
abbrev pub room_of : Layout → ℕ → ℕ
room_of z p = cond (nat_lt p 3) z.cells z.run

-- a cell has the part: of the words of a value there are eight
abbrev pub is_part : Part → Bool
is_part (Value j) = nat_lt j 8
is_part _ = true

-- there is such a word: its seat, region, chain, cell, part, place and entry are within the sizes
abbrev pub is_word : Layout → Word → Bool
is_word z (Pin i) = nat_lt i z.seats
is_word z (Snap i) = nat_lt i z.seats
is_word z (Head r s) = nat_lt r 2 && nat_lt s z.chains
is_word z (Cell c p) = nat_lt c (2 * z.cells) && is_part p
is_word z (Order k) = nat_lt k (2 + 2 * z.cells)
is_word z (Hint c i) = nat_lt c (2 * z.cells) && nat_lt i 3
is_word z (State c) = nat_lt c (2 * z.cells)
is_word z (Count p) = nat_lt p 5
is_word z (Entry p e i) = nat_lt p 5 && nat_lt e (room_of z p) && nat_lt i 11
is_word z _ = true
