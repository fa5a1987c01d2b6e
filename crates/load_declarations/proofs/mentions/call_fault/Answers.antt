use Rattle.std.proofs.Common.{ap, ◌∙◌}
use Rattle.std.specs.Prelude.{flat_map}
use Rattle.il_statics.specs.Names.{meaning}
use Rattle.il_statics.specs.Declarations.{called_numbers, argument_name_numbers}
use Rattle.load_declarations.specs.Places.{lowest_at}
use Rattle.load_declarations.proofs.Lowest.{at_two}
use Rattle.load_declarations.proofs.mentions.call_fault.Goals as goal

pub returns : goal.returns
returns c =
    at_two (called_numbers (meaning c.args.here.now.config c.args.here.now.unit c.args.instance.now.name)) (flat_map (argument_name_numbers c.args.here.now.config c.args.here.now.unit) c.args.arguments.now) c.args.place c.called_name_fault-called.result c.arguments_fault.result c.earlier.result
    (c.called_name_fault-called.ensures ∙ ap (λ n. lowest_at (called_numbers (meaning c.args.here.now.config c.args.here.now.unit n)) c.args.place) c.as_str.ensures) c.arguments_fault.ensures c.earlier.ensures
