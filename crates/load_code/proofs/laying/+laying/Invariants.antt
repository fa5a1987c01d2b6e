use Rattle.std.proofs.Common.{◌≡◌, ◌++◌, ◌+◌, ◌*◌, drop}
use Rattle.load_code.specs.Laying.{list_openings, block_openings}
use Rattle.load_code.proofs.laying.+laying.Given as goal

abbrev pub decreases-add_instance : goal.decreases-add_instance
decreases-add_instance l = 3 * l.depth

abbrev pub decreases-add_variable : goal.decreases-add_variable
decreases-add_variable l = 3 * l.depth + 1

abbrev pub decreases-add_variables : goal.decreases-add_variables
decreases-add_variables l = 3 * l.depth + 2

abbrev pub invariant-add_variables-variables : goal.invariant-add_variables-variables
invariant-add_variables-variables l =
    l.openings ++ list_openings (block_openings l.depth l.blocks.lists.now) l.path (drop l.variable-index l.list) ≡ l.fn.openings ++ list_openings (block_openings l.depth l.blocks.lists.now) l.path l.list
