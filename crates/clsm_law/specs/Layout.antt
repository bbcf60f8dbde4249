-- Where each word stands in the one row of words, and the row as a memory.
use Rattle.std.specs.Prelude.{◌≡◌, ℕ, ◌+◌, ◌*◌, ◌-◌, ◌==◌, ◌%◌, max, cond, nat_le, suc, List, [], ◌∷◌, sum, take, slice_index}
use Rattle.clsm_model.specs.Config.{IsBetween}
use Rattle.clsm_model.specs.declared.config.Config.{Config}
use Rattle.clsm_law.specs.declared.layout.Layout.{Layout}
use Rattle.clsm_law.specs.declared.word.Word.{Word}
use Rattle.clsm_law.specs.declared.word.Word.TheVariants.{Lock, Clock, Limit, Front, Merged, Pin, Snap, Head, Cell, Order, Hint, State, Count, Entry}
use Rattle.clsm_law.specs.declared.word.Part.{Part}
use Rattle.clsm_law.specs.declared.word.Part.TheVariants.{Key, Length, Value, Next}
use Rattle.clsm_law.specs.Memory.{Memory, is_word, room_of}

-- the sizes of a sound layout
abbrev pub IsLayout : Layout → Type 0
IsLayout z = IsBetween 4 65536 z.cells × IsBetween 1 64 z.seats × IsBetween 1 65536 z.chains × IsBetween 4 4194304 z.run

-- the greatest odd number that is not above this one: an odd number of chains separates keys that
-- have the same last bits
abbrev pub odd_below : ℕ → ℕ
odd_below n = n - 1 + n % 2

-- the layout has the sizes of the configuration; the shards are the least number of chains
pub record HasSizesOf (z : Layout) (config : Config) : Type 0 where
  pub cells : z.cells ≡ config.cells
  pub seats : z.seats ≡ config.seats
  pub chains : z.chains ≡ max config.shards (odd_below config.cells)
  pub run : z.run ≡ config.run
  pub patience : z.patience ≡ config.patience

-- words that different threads write stand 128 bytes apart
abbrev pub spacing : ℕ
spacing = 16

-- from a cell to the next: a cell has a line of 64 bytes to itself
abbrev pub cell_words : ℕ
cell_words = 8

-- the row begins two words behind such a line, so many before the next
abbrev pub to_line : ℕ
to_line = cell_words - 2

-- the first words of a value stand in its cell's line
abbrev pub near_words : ℕ
near_words = 3

-- the others of its eight in a block behind the cells
abbrev pub far_words : ℕ
far_words = 8 - near_words

-- the words of an entry near the keys: its time, its length and the first two words of its value
abbrev pub near_entry_words : ℕ
near_entry_words = 4

-- and those far from them
abbrev pub far_entry_words : ℕ
far_entry_words = 6

-- an entry's words: its key and these
abbrev pub entry_words : ℕ
entry_words = 1 + near_entry_words + far_entry_words

-- a place's words: its count, and the entries that it has room for
abbrev pub place_size : Layout → ℕ → ℕ
place_size z p = 1 + entry_words * room_of z p

-- the row is made of blocks, one behind the other, and these are their lengths: of LOCK, CLOCK,
-- LIMIT, FRONT and MERGED, of the pins, of the snapshots, of the cells with the heads of the two
-- ordered lists before them, of the values' far words, of the hints, of the heads of the chains,
-- and of the five places. What could push the cells off their lines stands behind them
abbrev pub blocks : Layout → List ℕ
blocks z =
    (to_line + spacing) ∷ spacing ∷ spacing ∷ spacing ∷ spacing ∷ (spacing * z.seats) ∷ (spacing * z.seats)
    ∷ (cell_words * (2 + 2 * z.cells)) ∷ (far_words * (2 * z.cells)) ∷ (3 * (2 * z.cells)) ∷ (2 * z.chains)
    ∷ (place_size z 0) ∷ (place_size z 1) ∷ (place_size z 2) ∷ (place_size z 3) ∷ (place_size z 4) ∷ []

-- the numbers of the blocks behind the five words
abbrev pub pins_block : ℕ
pins_block = 5

abbrev pub snaps_block : ℕ
snaps_block = 6

abbrev pub cells_block : ℕ
cells_block = 7

abbrev pub far_block : ℕ
far_block = 8

abbrev pub hints_block : ℕ
hints_block = 9

abbrev pub heads_block : ℕ
heads_block = 10

abbrev pub block_of_place : ℕ → ℕ
block_of_place p = 11 + p

-- the block that a part of a cell stands in
abbrev pub part_block : Part → ℕ
part_block (Value (suc (suc (suc j)))) = far_block
part_block _ = cells_block

-- the block that a word stands in
abbrev pub block_of : Word → ℕ
block_of Lock = 0
block_of Clock = 1
block_of Limit = 2
block_of Front = 3
block_of Merged = 4
block_of (Pin i) = pins_block
block_of (Snap i) = snaps_block
block_of (Cell c part) = part_block part
block_of (Order k) = cells_block
block_of (Hint c i) = hints_block
block_of (State c) = cells_block
block_of (Head region chain) = heads_block
block_of (Count p) = block_of_place p
block_of (Entry p e i) = block_of_place p

-- where a part that is no far word stands in its cell's line
abbrev pub part_offset : Part → ℕ
part_offset Key = 1
part_offset Next = 2
part_offset Length = 4
part_offset (Value j) = 5 + j

-- and where the link of the ordered list stands there
abbrev pub order_offset : ℕ
order_offset = 3

-- where a part of the cell stands in its block
abbrev pub cell_offset : ℕ → Part → ℕ
cell_offset c (Value (suc (suc (suc j)))) = far_words * c + j
cell_offset c part = cell_words * (2 + c) + part_offset part

-- where a word of an entry stands behind its place's count: the keys of all entries side by side,
-- then the near words of each, and then the far words of each
abbrev pub entry_offset : ℕ → ℕ → ℕ → ℕ
entry_offset room e i = cond (i == 0) e (cond (nat_le i near_entry_words)
    (room + (near_entry_words * e + (i - 1)))
    ((1 + near_entry_words) * room + (far_entry_words * e + (i - 1 - near_entry_words))))

-- where a word stands in its block; an ordered list's head has a line of its own, and the link's
-- place in it; the hints stand in three rows
abbrev pub offset_of : Layout → Word → ℕ
offset_of z (Pin i) = spacing * i
offset_of z (Snap i) = spacing * i
offset_of z (Cell c part) = cell_offset c part
offset_of z (Order k) = cell_words * k + order_offset
offset_of z (Hint c i) = 2 * z.cells * i + c
offset_of z (State c) = cell_words * (2 + c)
offset_of z (Head region chain) = z.chains * region + chain
offset_of z (Entry p e i) = 1 + entry_offset (room_of z p) e i
offset_of z _ = 0

-- where a block begins
unfoldable pub start_of : Layout → ℕ → ℕ
start_of z b = sum (take b (blocks z))

-- where a word stands in the row
unfoldable pub index_of : Layout → Word → ℕ
index_of z w = start_of z (block_of w) + offset_of z w

-- the length of the row
unfoldable pub size_of : Layout → ℕ
size_of z = sum (blocks z)

-- the row as a function of the names of its words
unfoldable pub memory : Layout → List ℕ → Memory
memory z words w = cond (is_word z w) (slice_index words (index_of z w)) 0
