use Rattle.std.proofs.Common.{◌∙◌, arith, ap}
use Rattle.std.specs.Prelude.{flat_map}
use Rattle.il_statics.specs.Declarations.{argument_name_numbers}
use Rattle.load_scope.proofs.Filled.{take_all}
use Rattle.load_declarations.specs.Places.{lowest_at}
use Rattle.load_declarations.proofs.Lowest.{at_next}
use Rattle.load_declarations.proofs.mentions.arguments_fault.Goals as goal

pub loop-argument-preserved : goal.loop-argument-preserved
loop-argument-preserved c =
    at_next (argument_name_numbers c.args.here.now.config c.args.here.now.unit) c.args.arguments.now c.loop-argument.argument-index c.argument-item.result c.args.place c.loop-argument.found c.argument_fault.result c.earlier-found.result (omega arith) c.argument-item.is c.argument_fault.ensures c.earlier-found.ensures c.loop-argument.invariant

pub returns : goal.returns
returns c = c.loop-argument.invariant ∙ ap (λ l. lowest_at (flat_map (argument_name_numbers c.args.here.now.config c.args.here.now.unit) l) c.args.place) (take_all c.args.arguments.now c.loop-argument.argument-index (omega arith))
