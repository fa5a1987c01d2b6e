use Rattle.show_names.specs.Uses.{uses_left}
use Rattle.show_names.proofs.Pushes.{uses_next}
use Rattle.show_names.proofs.unit_uses.lines_of.Goals as goal

pub uses-preserved : goal.uses-preserved
uses-preserved c = (
  c.in_ok-add_use.ensures.sound,
  uses_next c.uses.lines c.add_use.new.lines c.in-Some.used (uses_left c.uses.used-iterator) (uses_left c.next.new.self) c.args.steps.now c.in-Some.ensures.steps c.in_ok-add_use.ensures.lines c.uses.invariant.1,
)
