use Rattle.load_lines.specs.Reads.{SpellsRoomyBy}
use Rattle.load_lines.proofs.ByError.{up_by}
use Rattle.load_lines.proofs.Instructions.{function_refused, operands_refused}
use Rattle.il_syntax.specs.declared.tree.Instruction.TheVariants as instruction
use Rattle.load_lines.specs.Reads.{SpellsRoomyOf}
use Rattle.load_lines.proofs.Breaks.{later_tight, map_breaks}
use Rattle.il_syntax_laws.proofs.Samples.{operands_sampled}
use Rattle.load_lines.proofs.Completions.{the_name_filling, as_effect, roomy_first, up_so}
use Rattle.std.proofs.Common.{refl}
use Rattle.load_lines.specs.Reads.Effect.{Even}
use Rattle.load_lines.proofs.source.Source.invocation.Goals as goal

pub returns-in_err-function-clause-refused : goal.returns-in_err-function-clause-refused
returns-in_err-function-clause-refused c = up_by (SpellsRoomyBy c.args.room) _ c.from_residual.ensures.1 (function_refused c.args.self.now _ _ _ c.requires c.in_err-function.ensures.refused)

pub returns-in_err-operands-clause-refused : goal.returns-in_err-operands-clause-refused
returns-in_err-operands-clause-refused c = up_by (SpellsRoomyBy c.args.room) _ c.from_residual-in_err-operands.ensures.1 (operands_refused c.args.self.now _ _ _ _ _ c.requires c.in_ok-function.ensures.reads c.in_err-operands.ensures.refused)

pub returns-in_err-function-clause-begins : goal.returns-in_err-function-clause-begins
returns-in_err-function-clause-begins c = up_so _ _ c.from_residual.ensures.1 (roomy_first _ c.in_err-function.ensures.first)

pub returns-in_err-operands-clause-begins : goal.returns-in_err-operands-clause-begins
returns-in_err-operands-clause-begins c = up_so _ _ c.from_residual-in_err-operands.ensures.1 (as_effect Even (map_breaks {Q = λ text. SpellsRoomyOf text c.args.room Even} (λ x. instruction.Invoke x.0 x.1) (λ x other us r w. (refl, (tt, w))) (later_tight the_name_filling c.in_ok-function.ensures.reads operands_sampled c.in_err-operands.ensures.begins)))
