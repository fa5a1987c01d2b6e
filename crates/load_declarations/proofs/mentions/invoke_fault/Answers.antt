use Rattle.std.proofs.Common.{ap, ◌∙◌, [], is_some, if◌then◌else◌}
use Rattle.std.specs.Prelude.{flat_map}
use Rattle.il_syntax.specs.declared.tree.Operand.{Operand}
use Rattle.il_statics.specs.Names.{standard_function, function_named}
use Rattle.il_statics.specs.Declarations.{unless, reference_numbers, Reads}
use Rattle.load_declarations.specs.Places.{lowest_at}
use Rattle.load_declarations.proofs.Lowest.{at_two}
use Rattle.load_declarations.proofs.mentions.invoke_fault.Goals as goal

pub returns : goal.returns
returns c =
    at_two (if is_some (standard_function c.args.function.now.name) then [] else unless (is_some (function_named c.args.here.now.config c.args.function.now.name)) 21) (flat_map (λ (o : Operand). reference_numbers c.args.here.now.config c.args.here.now.unit Reads o.reference) c.args.operands.now) c.args.place c.function_fault-unknown.result c.operands_fault.result c.earlier.result
    (c.function_fault-unknown.ensures ∙ ap (λ d. lowest_at (if is_some (standard_function c.as_str.result.now) then [] else unless (is_some (function_named d c.as_str.result.now)) 21) c.args.place) c.names.ensures ∙ ap (λ n. lowest_at (if is_some (standard_function n) then [] else unless (is_some (function_named c.args.here.now.config n)) 21) c.args.place) c.as_str.ensures) c.operands_fault.ensures c.earlier.ensures
