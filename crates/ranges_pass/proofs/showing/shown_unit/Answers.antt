use Rattle.std.proofs.Common.{sym, ap, ◌∙◌}
use Rattle.il_syntax.specs.declared.tree.Unit.{Unit as ProgramUnit}
use Rattle.ranges_laws.specs.Facts.{Names}
use Rattle.ranges_pass.proofs.Verdict.{fine_in, ranges_in, setting_of, if_ok}
use Rattle.ranges_pass.proofs.Shown.{shown_in}
use Rattle.ranges_pass.proofs.showing.shown_unit.Goals as goal

pub of-scope-requires-clause-fine : goal.of-scope-requires-clause-fine
of-scope-requires-clause-fine g c = fine_in c.args.names.now c.args.unit.now c.args.at c.requires.unit c.requires.declared c.of-named.result c.of-named.ensures.config c.of-named.ensures.unit

pub of-scope-requires-clause-ranges : goal.of-scope-requires-clause-ranges
of-scope-requires-clause-ranges g c = ranges_in c.args.names.now c.args.unit.now c.args.at c.of-named.result c.in_ok-numbering.numbering.numbers c.in_ok-numbering.numbering.declared c.requires.unit c.requires.declared c.of-named.ensures.config c.of-named.ensures.unit c.in_ok-numbering.ensures

pub showing_fault-requires-clause-steps : goal.showing_fault-requires-clause-steps
showing_fault-requires-clause-steps g c = c.as_slice.ensures ∙ ap (λ (u : ProgramUnit). u.body.steps) (sym (ap (λ (n : Names). n.unit) c.of-scope.ensures ∙ c.of-named.ensures.unit))

pub showing_fault-requires-clause-setting : goal.showing_fault-requires-clause-setting
showing_fault-requires-clause-setting g c =
    setting_of c.args.names.now c.args.unit.now c.args.at c.of-named.result c.of-scope.result c.in_ok-numbering.numbering.numbers c.in_ok-numbering.numbering.declared c.requires.unit c.requires.declared c.requires.typed c.of-named.ensures.config c.of-named.ensures.unit c.of-scope.ensures c.in_ok-numbering.ensures

pub returns : goal.returns
returns g c =
    if_ok c.showing_fault.result _ _
    (λ r p. shown_in c.args.names.now c.args.unit.now c.of-named.result c.of-scope.result c.in_ok-numbering.numbering.numbers c.in_ok-numbering.numbering.declared (g.W.Witness.shows c.args.witness) (g.W.Witness.text c.args.witness) (g.W.Witness.text r.1) r.0 c.of-named.ensures.config c.of-named.ensures.unit c.of-scope.ensures p)
    c.showing_fault.ensures
