-- How long the rows in a view are, after each step.
use Rattle.std.proofs.Common.{◌≡◌, ℕ, ◌*◌, ◌==◌, Bool, true, false, cond, List, length, replicate, set, ◌∙◌, Option, Some, None, length-set}
use Rattle.std.proofs.lemmas.List.{length-replicate}
use Rattle.clsm_law.specs.declared.layout.Layout.{Layout}
use Rattle.clsm_law.specs.declared.word.Word.{Word}
use Rattle.clsm_law.specs.declared.word.Word.TheVariants.{Lock, Clock, Limit, Front, Merged, Head, Cell, Order, State}
use Rattle.clsm_law.specs.declared.word.Part.{Part}
use Rattle.clsm_law.specs.declared.word.Part.TheVariants.{Key, Length, Value, Next}
use Rattle.clsm_law.specs.declared.step.Step.{Step}
use Rattle.clsm_law.specs.declared.step.Step.TheVariants.{EnterShared, LeaveShared, Draw, Fill, Link, Look, EnterExclusive, LeaveExclusive, Stage}
use Rattle.clsm_law.specs.declared.view.View.{View}
use Rattle.clsm_law.specs.Views.{blank, idle, line_of, own_line}
use Rattle.clsm_law.specs.Relation.{holds_lock, looked, filled, view_after}
use Rattle.clsm_words.specs.Knowing.{HasRows}

blank_long : (n : ℕ) → length (blank n) ≡ n
blank_long n = length-replicate {A = Option ℕ} n None

either_long : (b : Bool) (xs ys : List (Option ℕ)) (n : ℕ) → length xs ≡ n → length ys ≡ n → length (cond b xs ys) ≡ n
either_long true xs ys n e f = e
either_long false xs ys n e f = f

set_long : (xs : List (Option ℕ)) (i : ℕ) (x : Option ℕ) (n : ℕ) → length xs ≡ n → length (set xs i x) ≡ n
set_long xs i x n e = length-set xs i x ∙ e

pub idle_rows : (z : Layout) → HasRows z (idle z)
idle_rows z = record { heads = blank_long (2 * z.chains); words = blank_long 8 }

filled_rows : (z : Layout) (v : View) (part : Part) (w : ℕ) → HasRows z v → HasRows z (filled v part w)
filled_rows z v Key w h = record { heads = h.heads; words = h.words }
filled_rows z v Length w h = record { heads = h.heads; words = h.words }
filled_rows z v (Value j) w h = record { heads = h.heads; words = set_long v.words j (Some w) 8 h.words }
filled_rows z v Next w h = record { heads = h.heads; words = h.words }

looked_rows : (z : Layout) (v : View) (word : Word) (x : ℕ) → HasRows z v → HasRows z (looked z v word x)
looked_rows z v Lock x h = record { heads = h.heads; words = h.words }
looked_rows z v Clock x h = record { heads = h.heads; words = h.words }
looked_rows z v Limit x h = record { heads = h.heads; words = h.words }
looked_rows z v Front x h = record { heads = h.heads; words = h.words }
looked_rows z v Merged x h = record { heads = h.heads; words = h.words }
looked_rows z v (Head region chain) x h =
    record {
      heads = either_long (holds_lock v) (set v.fresh_heads (line_of region chain) (Some x)) v.fresh_heads (2 * z.chains)
          (set_long v.fresh_heads (line_of region chain) (Some x) (2 * z.chains) h.heads) h.heads;
      words = h.words;
    }
looked_rows z v (State cell) x h = record { heads = h.heads; words = h.words }
looked_rows z v (Order link) x h = record { heads = h.heads; words = h.words }
looked_rows z v (Cell cell part) x h = record { heads = h.heads; words = h.words }
looked_rows z v word x h = h

-- they stay so long
pub rows_stay : (z : Layout) (i : ℕ) (v : View) (step : Step) (x : ℕ) → HasRows z v → HasRows z (view_after z i v step x)
rows_stay z i v (EnterShared l) x h =
    record { heads = either_long (x == l) (replicate (2 * z.chains) None) v.fresh_heads (2 * z.chains) (blank_long (2 * z.chains)) h.heads; words = h.words }
rows_stay z i v LeaveShared x h = record { heads = blank_long (2 * z.chains); words = h.words }
rows_stay z i v EnterExclusive x h =
    record { heads = either_long (x == 0) (replicate (2 * z.chains) None) v.fresh_heads (2 * z.chains) (blank_long (2 * z.chains)) h.heads; words = h.words }
rows_stay z i v LeaveExclusive x h = record { heads = blank_long (2 * z.chains); words = h.words }
rows_stay z i v (Stage t key) x h = record { heads = h.heads; words = blank_long 8 }
rows_stay z i v (Draw t) x h = record { heads = h.heads; words = either_long (x == t) (replicate 8 None) v.words 8 (blank_long 8) h.words }
rows_stay z i v (Fill part w) x h = filled_rows z v part w h
rows_stay z i v (Link head) x h = record { heads = set_long v.fresh_heads (own_line z v) None (2 * z.chains) h.heads; words = h.words }
rows_stay z i v (Look word) x h = looked_rows z v word x h
rows_stay z i v step x h = record { heads = h.heads; words = h.words }
