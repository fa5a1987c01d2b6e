use Rattle.std.proofs.Common.{◌≡◌, ◌++◌}
use Rattle.load_order.specs.Related.{tabulate}
use Rattle.load_code.specs.Laying.{element_opening}
use Rattle.load_code.proofs.laying.add_elements.Given as goal

abbrev pub invariant-elements : goal.invariant-elements
invariant-elements l = l.openings ≡ l.fn.openings ++ tabulate l.before (element_opening l.path l.lower l.element)
