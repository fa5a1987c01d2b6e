use Rattle.std.proofs.Common.{refl, []}
use Rattle.il_syntax.specs.Grammar.{SpellsUnit}
use Rattle.il_syntax.specs.declared.keyword.Keyword.TheVariants as word
use Rattle.il_syntax.specs.declared.tree.UnitKind.TheVariants as unit
use Rattle.load_lines.proofs.ByError.{up_by}
use Rattle.load_tree.specs.GoesOn.{SpellsWholeProgram}
use Rattle.load_tree.specs.Units.{SpellsUnitOfBy}
use Rattle.load_tree.proofs.Shallow.{mapped}
use Rattle.load_tree.proofs.Ahead.{up_so}
use Rattle.load_tree.proofs.OneUnit.{program_read, program_refused}
use Rattle.load_tree.proofs.Rests.{program_is}
use Rattle.load_tree.proofs.LateUnits.{program_late}
use Rattle.load_tree.proofs.one_unit.program_unit.Goals as goal

pub returns-in_err-place-clause-refused : goal.returns-in_err-place-clause-refused
returns-in_err-place-clause-refused c = up_by (SpellsUnitOfBy word.Program) _ c.from_residual.ensures.1 (program_refused c.args.source.now _ _ c.in_err-place.ensures.refused)

pub returns-clause-reads : goal.returns-clause-reads
returns-clause-reads c = rw (c.new.ensures, c.new-2.ensures) (program_read c.args.source.now _ _ _ _ _ _ _ c.in_ok-place.ensures.reads)

pub returns-in_err-place-clause-begins : goal.returns-in_err-place-clause-begins
returns-in_err-place-clause-begins c = up_so _ _ c.from_residual.ensures.1 (mapped SpellsWholeProgram SpellsUnit (λ x. x.2.2) (λ u. u.body) (λ x. record { place = x.0; kind = unit.Program; name = x.1; inputs = []; outputs = []; variables = x.2.0; externals = x.2.1; body = x.2.2 }) (λ x. refl) program_is c.in_err-place.ensures.begins)

pub returns-in_err-place-clause-late : goal.returns-in_err-place-clause-late
returns-in_err-place-clause-late c = up_so _ _ c.from_residual.ensures.1 (program_late c.in_err-place.ensures.late)
