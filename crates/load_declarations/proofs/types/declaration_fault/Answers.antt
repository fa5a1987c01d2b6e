use Rattle.il_statics.specs.Declarations.{type_numbers}
use Rattle.il_statics.proofs.Least.{least_both}
use Rattle.load_declarations.specs.Places.{At}
use Rattle.load_declarations.specs.Written.{shown, BreaksInitial}
use Rattle.load_declarations.proofs.Lowest.{least_at}
use Rattle.load_declarations.proofs.types.declaration_fault.Goals as goal

pub returns : goal.returns
returns c =
    least_both (At (type_numbers c.args.names.now (shown c.args.admitted) c.args.declaration.now.declared.form) c.args.declaration.now.declared.place) (BreaksInitial c.args.declaration.now.declared.form c.args.declaration.now.initial)
    c.type_fault-mistyped.result c.initial_fault-misvalued.result c.earlier.result c.earlier.ensures (least_at _ _ _ c.type_fault-mistyped.ensures) c.initial_fault-misvalued.ensures
