use Rattle.load_declarations.specs.Taken.{TakenNames}
use Rattle.load_declarations.proofs.InLists.{four_found}
use Rattle.load_declarations.proofs.taken.taken_variables.Goals as goal

pub returns : goal.returns
returns c =
    four_found (TakenNames c.args.names.now) (TakenNames c.args.names.now) (TakenNames c.args.names.now) (TakenNames c.args.names.now) c.args.unit.now.inputs c.args.unit.now.outputs c.args.unit.now.variables c.args.unit.now.externals c.as_slice.result.now c.as_slice-2.result.now c.as_slice-3.result.now c.as_slice-4.result.now
    c.taken_declared-inputs.result c.taken_declared-outputs.result c.taken_declared-variables.result c.taken_declared-externals.result c.earlier.result c.earlier-2.result c.earlier-3.result c.as_slice.ensures c.as_slice-2.ensures c.as_slice-3.ensures c.as_slice-4.ensures
    c.taken_declared-inputs.ensures c.taken_declared-outputs.ensures c.taken_declared-variables.ensures c.taken_declared-externals.ensures c.earlier.ensures c.earlier-2.ensures c.earlier-3.ensures
