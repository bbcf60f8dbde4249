use Rattle.clsm_store_audit.proofs.Popped.{first, second}
use Rattle.clsm_store_audit.proofs.told.pass.Goals as goal

pub join-passed-requires-after_bounds : goal.join-passed-requires-after_bounds
join-passed-requires-after_bounds g c κs within = (
  (
    first _ _ c.requires.new _ c.args.seats.ok.0 _ _ c.pop.ensures.rest c.pop.new.self.ok.0 _ _ c.pop-2.ensures.value c.unwrap-writer.ensures,
    c.requires.home,
  ),
  (second _ _ c.requires.new _ c.args.seats.ok.0 _ _ c.pop.ensures.value c.unwrap-reader.ensures, c.requires.home),
)
