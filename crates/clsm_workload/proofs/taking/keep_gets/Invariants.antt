use Rattle.std.proofs.Common.{◌≡◌, ◌+◌, ◌++◌, List, ℕ, Option, take}
use Rattle.std.specs.Prelude.{vec_len}
use Rattle.std.specs.Vec.{vec_capacity}
use Rattle.clsm_model.specs.History.{History}
use Rattle.clsm_store_calls.specs.Many.{HoldValues}
use Rattle.clsm_workload.specs.Turns.{gets_of}
use Rattle.clsm_workload.proofs.taking.keep_gets.Given as goal

-- so many gets are kept
abbrev pub invariant-loop-at : goal.invariant-loop-at
invariant-loop-at l = record {
  kept : (h : History) → HoldValues (λ (place value : Option (List ℕ)). place ≡ value) h l.time l.keys l.values
      → l.records.items ≡ l.initial.records.items ++ gets_of h l.seat l.time (take l.at l.keys);
  len : vec_len l.records ≡ vec_len l.initial.records + l.at;
  capacity : vec_capacity l.records ≡ vec_capacity l.initial.records;
}
