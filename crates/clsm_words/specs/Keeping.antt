-- What a seat keeps over several steps.
use Rattle.std.specs.Prelude.{◌≡◌, ◌≤◌}
use Rattle.clsm_model.specs.History.{IsBeginning}
use Rattle.clsm_law.specs.declared.view.View.{View}
use Rattle.clsm_words.specs.declared.known.Known.{Known}
use Rattle.clsm_words.specs.Knowing.{KeepsRuns, KeepsSelf, KeepsSpots, known_of}

-- It is the seat that it was, with a past that goes on. While it holds a component, the runs that
-- it searches stay, and its spots
pub record KeepsSeat (old new : Known) : Type 0 where
  pub self : KeepsSelf old new
  pub open self use *
  pub past : IsBeginning (known_of old) (known_of new)
  pub runs : KeepsRuns old new
  pub spots : KeepsSpots old new

-- It is the seat that it was, and learned of no time more
pub record KeepsPast (old new : Known) : Type 0 where
  pub self : KeepsSelf old new
  pub open self use *
  pub past : new.past ≡ old.past
  pub batches : new.batches ≡ old.batches

-- It is the seat that it was, and neither its past nor its walk went on: at most its view changed
pub record KeepsPlace (old new : Known) : Type 0 where
  pub seat : KeepsSeat old new
  pub past : new.past ≡ old.past
  pub batches : new.batches ≡ old.batches
  pub trail : new.trail ≡ old.trail

-- the old view with what the new one found along chains and the ordered list: heads, a link, and
-- the places that it met, and found before and behind its drawn cell
abbrev pub walked : View → View → View
walked old new = record old { fresh_heads = new.fresh_heads; fresh_link = new.fresh_link; met = new.met; low = new.low; high = new.high }

-- and with what it learned of times: what it reached, how far its past goes, how many times of
-- others it cancelled, and for which state it waits
abbrev pub learned : View → View → View
learned old new = record old { reached = new.reached; past = new.past; cancelled = new.cancelled; waited = new.waited }

-- It only read: its view is as it was but for these. What it reached does not fall back, and the
-- count of times that it cancelled too early stays
pub record OnlyReads (old new : Known) : Type 0 where
  pub seat : KeepsSeat old new
  pub view : new.view ≡ learned (walked old.view new.view) new.view
  pub reached : old.view.reached ≤ new.view.reached

-- it read, and neither learned of a time more nor cancelled one
pub record Looks (old new : Known) : Type 0 where
  pub reads : OnlyReads old new
  pub past : new.past ≡ old.past
  pub batches : new.batches ≡ old.batches
  pub cancelled : new.view.cancelled ≡ old.view.cancelled

-- and it did not go on along the chain that it walks
pub record LooksAside (old new : Known) : Type 0 where
  pub looks : Looks old new
  pub trail : new.trail ≡ old.trail
