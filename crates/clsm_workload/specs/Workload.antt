-- The workload: which turn each draw of three words is.
use Rattle.std.specs.Prelude.{ℕ, ◌+◌, ◌-◌, ◌%◌, ◌^◌, ◌==◌, List, [], ◌∷◌, map, take, Bool, nat_le, if◌then◌else◌, ◌&&◌}
use Rattle.rand_pcg.specs.Lcg.{Lcg}
use Rattle.rand_pcg.specs.Pcg.{pcg32}
use Rattle.clsm_model.specs.declared.slot.Change.TheVariants.{Set}
use Rattle.clsm_workload.specs.declared.turn.Turn.{Turn}
use Rattle.clsm_workload.specs.declared.turn.Turn.TheVariants.{Call, Many, Swap}
use Rattle.clsm_workload.specs.declared.workload.Draw.{Draw}
use Rattle.clsm_model.specs.declared.deal.Deal.{Deal}
use Rattle.clsm_model.specs.declared.deal.Deal.TheVariants.{Put, Remove, Get, Add, Claim, Snap, Close, GetAt, Scan, Batch}

-- where the words come from, the number of keys, and whether there are batches, reads of several
-- keys, and exchanges
pub record Source : Type 0 where
  pub words : Lcg
  pub keys : ℕ
  pub batch : Bool
  pub many : Bool
  pub swap : Bool

-- the generator after one word, and after the three of a turn
abbrev pub after_word : Lcg → Lcg
after_word g = (pcg32 g).1

abbrev pub after_draw : Lcg → Lcg
after_draw g = after_word (after_word (after_word g))

-- its next three words: which call, which key, and which words it writes
abbrev pub drawn : Lcg → Draw
drawn g = record {
  call = (pcg32 g).0;
  key = (pcg32 (after_word g)).0;
  first = (pcg32 (after_word (after_word g))).0;
}

-- of the words v, v + 1 and so on, modulo 2^64, the first 1 + (v mod 8)
abbrev pub words_by : ℕ → List ℕ
words_by v = take (1 + v % 8) (map (λ i. (v + i) % 2 ^ 64) (0 ∷ 1 ∷ 2 ∷ 3 ∷ 4 ∷ 5 ∷ 6 ∷ 7 ∷ []))

-- the call of the number r below 16, for the key k and the word v
abbrev pub dealt : ℕ → ℕ → ℕ → ℕ → Bool → Deal
dealt r k v keys has_snapshot =
    if nat_le r 5 then Put k (words_by v)
    else if r == 6 then Remove k
    else if nat_le r 10 then Get k
    else if r == 11 then Add k 1
    else if r == 12 then Claim k (words_by v)
    else if r == 13 then Scan k (k + 15)
    else if r == 14 then (if has_snapshot then GetAt k else Snap)
    else if has_snapshot then Close else Scan 0 (keys - 1)

-- the call of a draw where there are calls of one key alone
abbrev pub deal_of : Draw → ℕ → Bool → Deal
deal_of draw keys has_snapshot =
    dealt (draw.call % 16) (draw.key % keys) draw.first keys has_snapshot

-- the batch of a draw: one value at the key and at the next one, modulo the number of keys
abbrev pub pair_of : Draw → ℕ → Deal
pair_of draw keys =
    Batch ((draw.key % keys, Set (words_by draw.first))
    ∷ ((draw.key % keys + 1) % keys, Set (words_by draw.first))
    ∷ [])

-- the exchange of a draw: of two keys, by its second and its third word
abbrev pub swap_of : Draw → ℕ → Turn
swap_of draw keys = Swap (draw.key % keys) (draw.first % keys)

-- the key and the three behind it, modulo the number of keys
abbrev pub keys_from : ℕ → ℕ → List ℕ
keys_from key keys = key ∷ (key + 1) % keys ∷ (key + 2) % keys ∷ (key + 3) % keys ∷ []

-- the read of several keys of a draw
abbrev pub many_of : Draw → ℕ → Turn
many_of draw keys = Many (keys_from (draw.key % keys) keys)

-- the turn of a draw: with batches, one of them at the number 0; with exchanges, one at 1; with
-- reads of several keys, one at 7
abbrev pub turn_from : Source → Draw → Bool → Turn
turn_from source draw has_snapshot =
    if source.batch && draw.call % 16 == 0 then Call (pair_of draw source.keys)
    else if source.swap && draw.call % 16 == 1 then swap_of draw source.keys
    else if source.many && draw.call % 16 == 7 then many_of draw source.keys
    else Call (deal_of draw source.keys has_snapshot)
