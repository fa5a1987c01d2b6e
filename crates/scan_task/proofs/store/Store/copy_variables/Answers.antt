use Rattle.std.proofs.Common.{◌≡◌, rules, subst, sym, take, length}
use Rattle.load_slots.specs.Layout.{rows}
use Rattle.il_semantics.specs.Scan.{restricted}
use Rattle.scan_task.specs.Scanning.{FitsOwn, OwnsDeclared, kept_of, variables_in}
use Rattle.scan_task.specs.Standing.{Standing}
use Rattle.scan_task.proofs.Keeping.{variables_declared, left_so, takes_variables}
use Rattle.scan_task.proofs.store.Store.copy_variables.Goals as goal

pub returns-clause-variables : goal.returns-clause-variables
returns-clause-variables c =
    let config = c.self.inside.program.value.config in
    let task = c.self.inside.task in
    let scan = c.self.inside.scan.value in
    let v = c.args.variables.now in
    let new = c.copy_front.new.first in
    let fits : FitsOwn config task v = subst (λ (s : Standing). FitsOwn s.config s.task v) (sym c.self.view_is) c.requires.fits in
    let wrote : new ≡ rows (take (length v.numbers) scan.rows.numbers) (take (length v.flags) scan.rows.flags) = search rules in
    subst (λ (s : Standing). variables_in s.config s.task new ≡ restricted (variables_in s.config s.task v) s.state.values) c.self.view_is
    (left_so config c.self.invariant.0 task scan c.self.invariant.1 v new fits (takes_variables config c.self.invariant.0 task scan c.self.invariant.1 v new fits wrote))

pub returns-clause-own : goal.returns-clause-own
returns-clause-own c =
    let config = c.self.inside.program.value.config in
    let task = c.self.inside.task in
    let scan = c.self.inside.scan.value in
    let v = c.args.variables.now in
    let new = c.copy_front.new.first in
    let fits : FitsOwn config task v = subst (λ (s : Standing). FitsOwn s.config s.task v) (sym c.self.view_is) c.requires.fits in
    let wrote : new ≡ rows (take (length v.numbers) scan.rows.numbers) (take (length v.flags) scan.rows.flags) = search rules in
    let kept : variables_in config task new ≡ (kept_of config task scan).variables = takes_variables config c.self.invariant.0 task scan c.self.invariant.1 v new fits wrote in
    subst (λ (s : Standing). OwnsDeclared s.config s.task (variables_in s.config s.task new)) c.self.view_is
    (subst (OwnsDeclared config task) (sym kept) (variables_declared config c.self.invariant.0 task scan c.self.invariant.1))
