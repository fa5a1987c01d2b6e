use Rattle.std.proofs.Common.{sym, ap, ◌∙◌}
use Rattle.il_syntax.specs.declared.tree.Unit.{Unit as ProgramUnit}
use Rattle.ranges_laws.specs.Facts.{Names}
use Rattle.ranges_pass.proofs.Verdict.{fine_in, ranges_in, setting_of, judged_in, if_ok}
use Rattle.ranges_pass.proofs.unit_flow.unit_fault.Goals as goal

pub of-scope-requires-clause-fine : goal.of-scope-requires-clause-fine
of-scope-requires-clause-fine c = fine_in c.args.names.now c.args.unit.now c.args.at c.requires.unit c.requires.declared c.of-named.result c.of-named.ensures.config c.of-named.ensures.unit

pub of-scope-requires-clause-ranges : goal.of-scope-requires-clause-ranges
of-scope-requires-clause-ranges c = ranges_in c.args.names.now c.args.unit.now c.args.at c.of-named.result c.in_ok-numbering.numbering.numbers c.in_ok-numbering.numbering.declared c.requires.unit c.requires.declared c.of-named.ensures.config c.of-named.ensures.unit c.in_ok-numbering.ensures

pub first_fault-requires-clause-steps : goal.first_fault-requires-clause-steps
first_fault-requires-clause-steps c = c.as_slice.ensures ∙ ap (λ (u : ProgramUnit). u.body.steps) (sym (ap (λ (n : Names). n.unit) c.of-scope.ensures ∙ c.of-named.ensures.unit))

pub first_fault-requires-clause-setting : goal.first_fault-requires-clause-setting
first_fault-requires-clause-setting c =
    setting_of c.args.names.now c.args.unit.now c.args.at c.of-named.result c.of-scope.result c.in_ok-numbering.numbering.numbers c.in_ok-numbering.numbering.declared c.requires.unit c.requires.declared c.requires.typed c.of-named.ensures.config c.of-named.ensures.unit c.of-scope.ensures c.in_ok-numbering.ensures

pub returns : goal.returns
returns c =
    if_ok c.first_fault.result _ _
    (λ o p. judged_in c.args.names.now c.args.unit.now c.of-named.result c.of-scope.result c.in_ok-numbering.numbering.numbers c.in_ok-numbering.numbering.declared o c.of-named.ensures.config c.of-named.ensures.unit c.of-scope.ensures p)
    c.first_fault.ensures
