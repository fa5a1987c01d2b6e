use Rattle.load_lines.specs.Reads.{gap_of}
use Rattle.load_lines.proofs.Chain.{up}
use Rattle.load_lines.proofs.Alternatives.{no_name, selector_refused, selected_read, gap_is}
use Rattle.load_lines.proofs.Breaks.{at_first, map_breaks, up_breaks}
use Rattle.load_lines.proofs.Completions.{bracket_sampled, later_gap, name_filling, selected_is, selected_sampled}
use Rattle.std.proofs.Common.{refl}
use Rattle.load_lines.specs.Operands.{reference_of}
use Rattle.load_lines.proofs.source.Source.selected.Goals as goal

pub returns-in_err-name-clause-refused : goal.returns-in_err-name-clause-refused
returns-in_err-name-clause-refused c = up _ c.from_residual.ensures.1 (no_name c.args.self.now _ _ c.requires c.in_err-name.ensures.refused)

pub returns-in_err-selector-clause-refused : goal.returns-in_err-selector-clause-refused
returns-in_err-selector-clause-refused c =
    up _ c.from_residual-in_err-selector.ensures.1 (selector_refused c.args.self.now (gap_is c.args.gap) _ _ _ _ c.in_ok-name.ensures.reads (rw c.pass.ensures.rest at c.in_err-selector.ensures.refused))

pub returns-clause-reads : goal.returns-clause-reads
returns-clause-reads c =
    rw c.reference_of.ensures (selected_read c.args.self.now (gap_of c.args.gap) _ _ _ _ _ c.in_ok-name.ensures.reads (rw c.pass.ensures.rest at c.in_ok-selector.ensures.reads))

pub returns-in_err-name-clause-begins : goal.returns-in_err-name-clause-begins
returns-in_err-name-clause-begins c = up_breaks _ c.from_residual.ensures.1 (at_first (selected_sampled c.args.gap) c.in_err-name.ensures.first)

pub returns-in_err-selector-clause-begins : goal.returns-in_err-selector-clause-begins
returns-in_err-selector-clause-begins c =
    up_breaks _ c.from_residual-in_err-selector.ensures.1 (map_breaks (λ x. reference_of x.0 x.1) (selected_is c.args.gap)
    (later_gap c.args.gap name_filling c.in_ok-name.ensures.reads (bracket_sampled c.args.gap) refl (rw c.pass.ensures.rest at c.in_err-selector.ensures.begins)))
