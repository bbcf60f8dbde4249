use Rattle.std.proofs.Common.{rules, sym, ◌∙◌}
use Rattle.clsm_model.proofs.Ranges.{IsRange-between, IsRange-rows, between-entries, between-none}
use Rattle.clsm_model.proofs.plain_map.PlainMap.range.Goals as goal

pub returns-clause-history : goal.returns-clause-history
returns-clause-history c = IsRange-rows (λ rows. rows.items) c.args.lo c.args.hi c.args.self.now c.map_err.result (search (rules, between-entries))

pub returns-clause-rows : goal.returns-clause-rows
returns-clause-rows c = search (rules, between-entries)

pub returns-then-hi-lo-clause-rows : goal.returns-then-hi-lo-clause-rows
returns-then-hi-lo-clause-rows c = c.new.ensures.items ∙ sym (between-none c.args.lo c.args.hi c.args.self.now c.if-hi-lo.true)

pub returns-then-hi-lo-clause-history : goal.returns-then-hi-lo-clause-history
returns-then-hi-lo-clause-history c = λ h s map.
    rw (c.new.ensures.items, ← between-none c.args.lo c.args.hi c.args.self.now c.if-hi-lo.true) (IsRange-between h s c.args.lo c.args.hi c.args.self.now map)
