use Rattle.std.proofs.Common.{Option, ap, ◌∙◌}
use Rattle.il_statics.specs.declared.names.StandardFunction.{StandardFunction}
use Rattle.il_statics.specs.Names as names
use Rattle.il_statics.specs.Types.{function_numbers}
use Rattle.il_statics.specs.Lowest.{lowest}
use Rattle.load_types.proofs.functions.function_fault.Goals as goal

pub returns-in-Some : goal.returns-in-Some
returns-in-Some g c =
    let config = g.S.Scope.config c.args.scope.now in
    let unit = g.S.Scope.unit c.args.scope.now in
    let own = names.function_named config c.args.name.now in
    c.counted_fault.ensures own ∙ ap (λ (o : Option StandardFunction). lowest (function_numbers config unit o own c.args.operands.now c.args.before)) c.in-Some.ensures
