use Rattle.load_lines.specs.Reads.{SpellsRoomyBy}
use Rattle.load_lines.proofs.ByError.{up_by}
use Rattle.load_lines.proofs.Leaves.{word_there}
use Rattle.load_lines.proofs.Instructions.{call_refused}
use Rattle.il_syntax.specs.declared.tree.Instruction.TheVariants as instruction
use Rattle.il_syntax.specs.declared.keyword.Keyword.TheVariants as word
use Rattle.load_lines.specs.Reads.{SpellsRoomyOf}
use Rattle.il_syntax_laws.proofs.Samples.{called_sampled}
use Rattle.load_lines.proofs.Breaks.{map_breaks, part_tight}
use Rattle.il_syntax_laws.proofs.Open.{word_fills}
use Rattle.load_lines.proofs.Completions.{as_effect, up_so}
use Rattle.std.proofs.Common.{refl}
use Rattle.load_lines.specs.Reads.Effect.{Even}
use Rattle.load_lines.proofs.source.Source.call.Goals as goal

pub returns-in_err-instance-clause-refused : goal.returns-in_err-instance-clause-refused
returns-in_err-instance-clause-refused c = up_by (SpellsRoomyBy c.args.room) _ c.from_residual.ensures.1 (call_refused c.args.self.now _ _ _ _ c.requires (rw c.advance.ensures.rest at c.in_err-instance.ensures.refused))

pub returns-clause-reads : goal.returns-clause-reads
returns-clause-reads c = record { found = (tt, (_, word_there c.args.self.now _ _ c.requires, (rw c.advance.ensures.rest at c.in_ok-instance.ensures.reads).found)) }

pub returns-in_err-instance-clause-begins : goal.returns-in_err-instance-clause-begins
returns-in_err-instance-clause-begins c =
    up_so _ _ c.from_residual.ensures.1 (as_effect Even (map_breaks {Q = λ text. SpellsRoomyOf text c.args.room Even} (λ x. instruction.Call c.args.condition x.0 x.1) (λ x other us r w. (refl, (tt, w))) (part_tight (word_fills (word.Call c.args.condition)) (record { found = word_there c.args.self.now _ _ c.requires }) called_sampled (rw c.advance.ensures.rest at c.in_err-instance.ensures.begins))))
