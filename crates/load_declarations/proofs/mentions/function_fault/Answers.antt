use Rattle.load_declarations.proofs.MentionLaws.{function_unknown, function_standard}
use Rattle.load_declarations.proofs.mentions.function_fault.Goals as goal

pub returns-then-is_some : goal.returns-then-is_some
returns-then-is_some c = function_standard c.args.names.now c.args.name.now c.args.place c.standard_function.result c.is_some.result c.standard_function.ensures c.is_some.ensures c.if-is_some.true

pub returns : goal.returns
returns c = function_unknown c.args.names.now c.args.name.now c.args.place c.standard_function.result c.function.result c.is_some.result c.is_some-known.result c.fault_if.result c.standard_function.ensures c.is_some.ensures c.if-is_some.false c.function.ensures c.is_some-known.ensures c.fault_if.ensures
