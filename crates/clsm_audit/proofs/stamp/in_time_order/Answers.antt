use Rattle.std.proofs.Common.{rules, subst, List}
use Rattle.std.proofs.lemmas.List.Sorted.{answers_always}
use Rattle.std.specs.List.Sorted.{IsPermutation}
use Rattle.clsm_audit.specs.declared.stamp.Stamp.{Stamp}
use Rattle.clsm_audit.specs.Order.{comes_before}
use Rattle.clsm_audit.proofs.Orders.{comes_before-order}
use Rattle.clsm_audit.proofs.stamp.in_time_order.Goals as goal

pub returns : goal.returns
returns c =
    record {
      same = subst (λ (stamps : List Stamp). IsPermutation stamps c.sort_unstable_by.new.self.items) c.in_ok-stamps.ensures
          c.sort_unstable_by.ensures.permutation;
      sorted = c.sort_unstable_by.ensures.sorted comes_before comes_before-order (answers_always _ _ _ (λ f a r f' called. search rules));
    }
