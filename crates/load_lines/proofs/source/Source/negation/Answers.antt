use Rattle.load_lines.specs.Reads.{SpellsRoomyBy}
use Rattle.load_lines.proofs.ByError.{up_by}
use Rattle.load_lines.proofs.Leaves.{word_there}
use Rattle.load_lines.proofs.Instructions.{not_refused}
use Rattle.il_syntax.specs.declared.tree.Instruction.TheVariants as instruction
use Rattle.il_syntax.specs.declared.keyword.Keyword.TheVariants as word
use Rattle.load_lines.specs.Reads.{SpellsRoomyOf}
use Rattle.load_lines.proofs.Breaks.{at_first, map_breaks, part_tight}
use Rattle.il_syntax_laws.proofs.Samples.{line_end_sampled}
use Rattle.il_syntax_laws.proofs.Open.{word_fills}
use Rattle.load_lines.proofs.Completions.{as_effect, up_so}
use Rattle.std.proofs.Common.{refl}
use Rattle.load_lines.specs.Reads.Effect.{Even}
use Rattle.load_lines.proofs.source.Source.negation.Goals as goal

pub returns-in_err-line_end-clause-refused : goal.returns-in_err-line_end-clause-refused
returns-in_err-line_end-clause-refused c = up_by (SpellsRoomyBy c.args.room) _ c.from_residual.ensures.1 (not_refused c.args.self.now _ _ _ c.requires (rw c.advance.ensures.rest at c.in_err-line_end.ensures.refused))

pub returns-clause-reads : goal.returns-clause-reads
returns-clause-reads c = record { found = (tt, (_, word_there c.args.self.now _ _ c.requires, (rw c.advance.ensures.rest at c.in_ok-line_end.ensures.reads).found)) }

pub returns-in_err-line_end-clause-begins : goal.returns-in_err-line_end-clause-begins
returns-in_err-line_end-clause-begins c =
    up_so _ _ c.from_residual.ensures.1 (as_effect Even (map_breaks {Q = λ text. SpellsRoomyOf text c.args.room Even} (λ x. instruction.Not) (λ x other us r w. (refl, (tt, w))) (part_tight (word_fills word.Not) (record { found = word_there c.args.self.now _ _ c.requires }) line_end_sampled (at_first line_end_sampled (rw c.advance.ensures.rest at c.in_err-line_end.ensures.first)))))
