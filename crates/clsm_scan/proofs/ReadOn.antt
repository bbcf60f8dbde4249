-- A cursor that reads on, from look to look.
use Rattle.std.proofs.Common.{◌≡◌, ◌∙◌, ◌≤◌, ℕ, Option, arith, refl}
use Rattle.clsm_levels.specs.declared.entry.Entry.{Entry}
use Rattle.clsm_words.specs.declared.known.Known.{Known}
use Rattle.clsm_words.specs.declared.words.WordTable.{WordTable}
use Rattle.clsm_words.specs.Keeping.{LooksAside}
use Rattle.clsm_words.specs.Plays.{IsSeatOf}
use Rattle.clsm_words.specs.Seats.{RawState}
use Rattle.clsm_scan.specs.Reading.{HasReadTo, MayReadFrom}
use Rattle.clsm_words.proofs.Keeps.{aside_trans, looks_none}

module _ {C : Type 0} (IsOver : Known → C → Type 0) (found : Known → C → ℕ → Option Entry) (StandsAt : Known → C → ℕ → Type 0) (words : WordTable) where
  pub read_none : (seat : RawState) (cursor : C) (from : ℕ) → MayReadFrom IsOver StandsAt words seat cursor from
      → HasReadTo IsOver found StandsAt words seat seat cursor cursor from
  read_none seat cursor from may = record {
    of = may.of;
    looks = record { looks = looks_none seat.knows; trail = refl };
    over = may.over;
    same = λ key le. refl;
    stands = may.stands;
  }

  -- From there it read on to another key, and then looked aside. The laws are those of a source.
  pub read_on : ((k k' : Known) (s : C) → LooksAside k k' → IsOver k s → IsOver k' s)
      → ((k k' : Known) (s : C) → LooksAside k k' → IsOver k s → (key : ℕ) → found k' s key ≡ found k s key)
      → ((k k' : Known) (s : C) (from : ℕ) → LooksAside k k' → IsOver k s → StandsAt k s from → StandsAt k' s from)
      → (first a b c : RawState) (x y z : C) (from to : ℕ) → from ≤ to → HasReadTo IsOver found StandsAt words first a x y from
      → HasReadTo IsOver found StandsAt words a b y z to → IsSeatOf words c → LooksAside b.knows c.knows
      → HasReadTo IsOver found StandsAt words first c x z to
  read_on over_stays found_stays stands_stays first a b c x y z from to le before read of aside = record {
    of = of;
    looks = aside_trans first.knows b.knows c.knows (aside_trans first.knows a.knows b.knows before.looks read.looks) aside;
    over = over_stays b.knows c.knows z aside read.over;
    same = λ key le'. found_stays b.knows c.knows z aside read.over key ∙ read.same key le' ∙ before.same key (omega arith);
    stands = stands_stays b.knows c.knows z to aside read.over read.stands;
  }

  -- a cursor that read to a key may read on from there
  pub may_read : (first seat : RawState) (begun cursor : C) (from : ℕ) → HasReadTo IsOver found StandsAt words first seat begun cursor from
      → MayReadFrom IsOver StandsAt words seat cursor from
  may_read first seat begun cursor from read = record { of = read.of; over = read.over; stands = read.stands }
