use Rattle.load_declarations.proofs.MentionLaws.{invoke_is}
use Rattle.load_declarations.proofs.mentions.instruction_fault.Goals as goal

pub returns-in-Invoke : goal.returns-in-Invoke
returns-in-Invoke c = invoke_is c.args.here.now.config c.args.here.now.unit c.args.place c.args.instruction.now c.in-Invoke.function c.in-Invoke.operands c.as_slice-in-Invoke.result.now c.invoke_fault.result c.in-Invoke.is c.as_slice-in-Invoke.ensures c.invoke_fault.ensures
