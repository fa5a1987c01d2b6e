use Rattle.std.proofs.Common.{arith, length, ◌≤◌}
use Rattle.std.proofs.lemmas.List.Elements.{All-nil}
use Rattle.il_syntax.specs.declared.keyword.Keyword.TheVariants as word
use Rattle.il_syntax.specs.Grammar.{TheWord}
use Rattle.il_syntax.specs.declared.tree.Unit.{Unit as ProgramUnit}
use Rattle.il_syntax_laws.proofs.Local.{word_told}
use Rattle.il_syntax_laws.proofs.GoesOn.{gone_on, gone_starts}
use Rattle.load_lines.specs.declared.stop.SyntaxError.TheVariants.{TooDeep}
use Rattle.load_lines.proofs.Chain.{starts, goes_on, ended, was_there, was_missing, within_read}
use Rattle.load_lines.proofs.ByError.{up_by}
use Rattle.load_tree.specs.Parts.{SpellsUnits, SpellsFewUnitsBy}
use Rattle.load_tree.proofs.UnitsByError.{unit_gone, units_full, unit_by_local, unit_by_read}
use Rattle.load_tree.proofs.Parts.{few_more}
use Rattle.load_tree.proofs.OneUnit.{small_unit_local}
use Rattle.load_tree.proofs.Surplus.{few_with, units_break, units_full_break}
use Rattle.load_tree.proofs.Rests.{small_unit_filling, unit_by_filling, unit_filling}
use Rattle.load_tree.proofs.Ahead.{up_so}
use Rattle.load_lines.specs.declared.stop.SyntaxError.TheVariants.{Unexpected}
use Rattle.load_tree.proofs.LateBodies.{cut_starts}
use Rattle.load_tree.proofs.LateUnits.{unit_cut, units_late, units_full_late}
use Rattle.load_tree.proofs.units.units.Goals as goal

pub returns-then-is_full-clause-refused : goal.returns-then-is_full-clause-refused
returns-then-is_full-clause-refused c =
    let none = was_missing (TheWord c.args.source.now word.Configuration) c.units.tokens _ c.eat_word.new.tokens c.eat_word.ensures.eaten c.units-test.true in
    let how = rw none.0 at c.surplus.ensures in
    units_full c.args.source.now _ _ _ _ none.1 (c.is_full.ensures.yes c.if-is_full.true) c.units.invariant.2 how

pub returns-in_err-unit-clause-refused : goal.returns-in_err-unit-clause-refused
returns-in_err-unit-clause-refused c =
    let none = was_missing (TheWord c.args.source.now word.Configuration) c.units.tokens _ c.eat_word.new.tokens c.eat_word.ensures.eaten c.units-test.true in
    up_by SpellsFewUnitsBy _ c.from_residual.ensures.1 (unit_gone c.args.source.now _ _ _ _ none.1 (c.units.invariant.2 _) (rw none.0 at c.in_err-unit.ensures.refused))

pub units-preserved : goal.units-preserved
units-preserved c =
    let none = was_missing (TheWord c.args.source.now word.Configuration) c.units.tokens _ c.eat_word.new.tokens c.eat_word.ensures.eaten c.units-test.true in (
      rw c.in_ok-push.ensures.ok (few_more _ _ _ c.if-is_full.false c.is_full.ensures.no c.units.invariant.0),
      rw (c.skip_lines.ensures.rest, c.in_ok-push.ensures.ok)
          (goes_on _ _ _ small_unit_filling small_unit_local (word_told word.Configuration) _ _ _ _ _ none.1 c.units.invariant.1 (rw none.0 at c.in_ok-unit.ensures.reads)),
      λ error. rw (c.skip_lines.ensures.rest, c.in_ok-push.ensures.ok)
          (goes_on _ _ _ (unit_by_filling error) (unit_by_local error) (word_told word.Configuration) _ _ _ _ _ none.1 (c.units.invariant.2 error) (unit_by_read c.args.source.now error _ _ _ (rw none.0 at c.in_ok-unit.ensures.reads))),
      rw (c.skip_lines.ensures.rest, c.in_ok-push.ensures.ok) (gone_on unit_filling c.units.invariant.3 (rw none.0 at c.in_ok-unit.ensures.reads).found.0),
      rw c.in_ok-push.ensures.ok (few_with _ _ c.units.invariant.4 c.in_ok-unit.ensures.reads.found.1.0),
      rw (c.skip_lines.ensures.rest, c.in_ok-push.ensures.ok) (unit_cut c.units.invariant.5 (unit_by_read c.args.source.now Unexpected _ _ _ (rw none.0 at c.in_ok-unit.ensures.reads))),
    )

pub returns-clause-reads : goal.returns-clause-reads
returns-clause-reads c =
    within_read SpellsUnits {text = c.args.source.now} 64 c.units.invariant.0 (ended _ _ _ _ _ _ _ c.units.invariant.1 (was_there (TheWord c.args.source.now word.Configuration) c.units.tokens _ c.eat_word.new.tokens c.eat_word.ensures.eaten c.units-test.false))

pub units-init : goal.units-init
units-init c = rw c.new-units.ensures (omega arith, starts _ _ _ _, (λ error. starts _ _ _ _), gone_starts _, All-nil (λ (u : ProgramUnit). length u.body.steps ≤ 4096), cut_starts _)

pub returns-then-is_full-clause-begins : goal.returns-then-is_full-clause-begins
returns-then-is_full-clause-begins c =
    let none = was_missing (TheWord c.args.source.now word.Configuration) c.units.tokens _ c.eat_word.new.tokens c.eat_word.ensures.eaten c.units-test.true in
    let how = rw none.0 at c.surplus.ensures in
    units_full_break c.units.invariant.4 (c.units.invariant.2 TooDeep).gone c.units.invariant.3 (c.is_full.ensures.yes c.if-is_full.true) how

pub returns-in_err-unit-clause-begins : goal.returns-in_err-unit-clause-begins
returns-in_err-unit-clause-begins c =
    let none = was_missing (TheWord c.args.source.now word.Configuration) c.units.tokens _ c.eat_word.new.tokens c.eat_word.ensures.eaten c.units-test.true in
    up_so _ _ c.from_residual.ensures.1 (units_break _ c.if-is_full.false c.is_full.ensures.no c.units.invariant.0 c.units.invariant.4 (c.units.invariant.2 TooDeep).gone c.units.invariant.3 (rw none.0 at c.in_err-unit.ensures.begins))

pub returns-then-is_full-clause-late : goal.returns-then-is_full-clause-late
returns-then-is_full-clause-late c =
    let none = was_missing (TheWord c.args.source.now word.Configuration) c.units.tokens _ c.eat_word.new.tokens c.eat_word.ensures.eaten c.units-test.true in
    units_full_late (c.is_full.ensures.yes c.if-is_full.true) c.units.invariant.4 c.units.invariant.5 (rw none.0 at c.surplus.ensures)

pub returns-in_err-unit-clause-late : goal.returns-in_err-unit-clause-late
returns-in_err-unit-clause-late c =
    let none = was_missing (TheWord c.args.source.now word.Configuration) c.units.tokens _ c.eat_word.new.tokens c.eat_word.ensures.eaten c.units-test.true in
    up_so _ _ c.from_residual.ensures.1
    (units_late _ c.if-is_full.false c.is_full.ensures.no c.units.invariant.0 c.units.invariant.4 c.units.invariant.5 (rw none.0 at c.in_err-unit.ensures.refused) (rw none.0 at c.in_err-unit.ensures.late))
