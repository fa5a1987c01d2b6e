use Rattle.std.proofs.Common.{refl, []}
use Rattle.il_syntax.specs.Grammar.{SpellsUnit}
use Rattle.il_syntax.specs.declared.keyword.Keyword.TheVariants as word
use Rattle.il_syntax.specs.declared.tree.UnitKind.TheVariants as unit
use Rattle.load_lines.proofs.ByError.{up_by}
use Rattle.load_tree.specs.GoesOn.{SpellsWholeBlock}
use Rattle.load_tree.specs.Units.{SpellsUnitOfBy}
use Rattle.load_tree.proofs.Shallow.{mapped}
use Rattle.load_tree.proofs.Ahead.{up_so}
use Rattle.load_tree.proofs.OneUnit.{block_read, block_refused}
use Rattle.load_tree.proofs.Rests.{block_is}
use Rattle.load_tree.proofs.LateUnits.{block_late}
use Rattle.load_tree.proofs.one_unit.block_unit.Goals as goal

pub returns-in_err-place-clause-refused : goal.returns-in_err-place-clause-refused
returns-in_err-place-clause-refused c = up_by (SpellsUnitOfBy word.FunctionBlock) _ c.from_residual.ensures.1 (block_refused c.args.source.now _ _ c.in_err-place.ensures.refused)

pub returns-clause-reads : goal.returns-clause-reads
returns-clause-reads c = rw c.new.ensures (block_read c.args.source.now _ _ _ _ _ _ _ _ c.in_ok-place.ensures.reads)

pub returns-in_err-place-clause-begins : goal.returns-in_err-place-clause-begins
returns-in_err-place-clause-begins c = up_so _ _ c.from_residual.ensures.1 (mapped SpellsWholeBlock SpellsUnit (λ x. x.2.3) (λ u. u.body) (λ x. record { place = x.0; kind = unit.FunctionBlock; name = x.1; inputs = x.2.0; outputs = x.2.1; variables = x.2.2; externals = []; body = x.2.3 }) (λ x. refl) block_is c.in_err-place.ensures.begins)

pub returns-in_err-place-clause-late : goal.returns-in_err-place-clause-late
returns-in_err-place-clause-late c = up_so _ _ c.from_residual.ensures.1 (block_late c.in_err-place.ensures.late)
