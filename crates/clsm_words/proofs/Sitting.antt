-- The seats at a table of words that keep to the rule: a caller's, and the merger's.
use Rattle.std.proofs.Common.{◌≡◌, ℕ, true}
use mathlib.Core.Option.{some}
use lib.ListN.{get_elem?}
use Rattle.atomic_table.specs.Table.{State}
use Rattle.clsm_words.specs.declared.known.Known.{Known}
use Rattle.clsm_words.specs.Ruled.{Ruled}

-- what the table has of a seat: its number there, and what it knows
pub record Place : Type 0 where
  pub s : State ℕ Known
  pub id : ℕ
  pub k : Known
  pub r : Ruled k.layout s
  pub at : get_elem? s.views id ≡ some k

-- a caller's
pub record Sitting : Type 0 where
  pub place : Place
  pub open place use *
  pub sits : k.seated ≡ true

-- the merger's
pub record MergerSitting : Type 0 where
  pub place : Place
  pub open place use *
  pub merges : k.merges ≡ true
