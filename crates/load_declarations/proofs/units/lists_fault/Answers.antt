use Rattle.std.proofs.Common.{subst}
use Rattle.il_statics.specs.Declarations.{admitted_variables, ScalarsAlone, ScalarsAndArrays}
use Rattle.il_statics.specs.Least.{IsLeast}
use Rattle.load_declarations.specs.Places.{Among}
use Rattle.load_declarations.specs.Written.{Misdeclared}
use Rattle.load_declarations.proofs.InLists.{four_found}
use Rattle.load_declarations.proofs.units.lists_fault.Goals as goal

pub returns : goal.returns
returns c =
    four_found (Misdeclared c.args.names.now ScalarsAlone) (Misdeclared c.args.names.now ScalarsAlone) (Misdeclared c.args.names.now (admitted_variables c.args.unit.now.kind)) (Misdeclared c.args.names.now ScalarsAndArrays) c.args.unit.now.inputs c.args.unit.now.outputs c.args.unit.now.variables c.args.unit.now.externals c.as_slice.result.now c.as_slice-2.result.now c.as_slice-3.result.now c.as_slice-4.result.now
    c.declarations_fault-inputs.result c.declarations_fault-outputs.result c.declarations_fault-variables.result c.declarations_fault-externals.result c.earlier.result c.earlier-2.result c.earlier-3.result c.as_slice.ensures c.as_slice-2.ensures c.as_slice-3.ensures c.as_slice-4.ensures
    c.declarations_fault-inputs.ensures c.declarations_fault-outputs.ensures (subst (λ a. IsLeast c.declarations_fault-variables.result (Among (Misdeclared c.args.names.now a) c.as_slice-3.result.now)) c.admitted_variables-admitted.ensures c.declarations_fault-variables.ensures) c.declarations_fault-externals.ensures c.earlier.ensures c.earlier-2.ensures c.earlier-3.ensures
