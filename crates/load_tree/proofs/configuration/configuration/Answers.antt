use Rattle.il_syntax.specs.Grammar.{loose}
use Rattle.il_syntax_laws.proofs.Alike.{loose_gap}
use Rattle.load_lines.proofs.Chain.{first, later, part}
use Rattle.load_lines.proofs.ByError.{up_by}
use Rattle.load_tree.specs.Parts.{SpellsGroup, SpellsConfigBy}
use Rattle.load_tree.proofs.Surplus.{text_units_break, text_group_break}
use Rattle.load_tree.proofs.Ahead.{up_so}
use Rattle.load_tree.proofs.Parts.{config_read, config_refused, few_units_local}
use Rattle.load_tree.proofs.UnitsByError.{units_by_read}
use Rattle.load_tree.proofs.LateUnits.{text_units_late, text_group_late}
use Rattle.load_tree.proofs.configuration.configuration.Goals as goal

pub returns-in_err-units-clause-refused : goal.returns-in_err-units-clause-refused
returns-in_err-units-clause-refused c =
    up_by SpellsConfigBy _ c.from_residual.ensures.1
    (config_refused c.args.source.now _ _ (first (λ b. b.0) loose (λ text b. SpellsGroup text b.1) (rw c.skip_lines.ensures.rest at c.in_err-units.ensures.refused)))

pub returns-in_err-sizes-clause-refused : goal.returns-in_err-sizes-clause-refused
returns-in_err-sizes-clause-refused c =
    up_by SpellsConfigBy _ c.from_residual-in_err-sizes.ensures.1
    (config_refused c.args.source.now _ _ (later (λ b. b.0) loose_gap (λ text b. SpellsGroup text b.1) (few_units_local _) (units_by_read c.args.source.now _ _ _ _ (rw c.skip_lines.ensures.rest at c.in_ok-units.ensures.reads))
    (part (λ b. b.1) (rw c.skip_lines-2.ensures.rest at c.in_err-sizes.ensures.refused))))

pub returns-clause-reads : goal.returns-clause-reads
returns-clause-reads c =
    rw c.config_of.ensures
    (config_read c.args.source.now _ _ _ _ (record { found = (_, (rw c.skip_lines.ensures.rest at c.in_ok-units.ensures.reads).found, (rw c.skip_lines-2.ensures.rest at c.in_ok-sizes.ensures.reads).found) }))

pub returns-in_err-units-clause-begins : goal.returns-in_err-units-clause-begins
returns-in_err-units-clause-begins c = up_so _ _ c.from_residual.ensures.1 (text_units_break (rw c.skip_lines.ensures.rest at c.in_err-units.ensures.begins))

pub returns-in_err-sizes-clause-begins : goal.returns-in_err-sizes-clause-begins
returns-in_err-sizes-clause-begins c =
    up_so _ _ c.from_residual-in_err-sizes.ensures.1 (text_group_break (rw c.skip_lines.ensures.rest at c.in_ok-units.ensures.reads) (rw c.skip_lines-2.ensures.rest at c.in_err-sizes.ensures.begins))

pub returns-in_err-units-clause-late : goal.returns-in_err-units-clause-late
returns-in_err-units-clause-late c = up_so _ _ c.from_residual.ensures.1 (text_units_late (rw c.skip_lines.ensures.rest at c.in_err-units.ensures.late))

pub returns-in_err-sizes-clause-late : goal.returns-in_err-sizes-clause-late
returns-in_err-sizes-clause-late c =
    up_so _ _ c.from_residual-in_err-sizes.ensures.1 (text_group_late (rw c.skip_lines.ensures.rest at c.in_ok-units.ensures.reads) (rw c.skip_lines-2.ensures.rest at c.in_err-sizes.ensures.refused))
