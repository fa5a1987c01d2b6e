use Rattle.std.proofs.Common.{◌≡◌, IfOk, subst, sym, map}
use Rattle.std.specs.Prelude.{IfErr}
use Rattle.il_syntax.specs.declared.tree.Config.{Config}
use Rattle.il_statics.specs.Faults.{HasNoFault, IsRefusedBy, Broken, Declaring, Typing, Ordering}
use Rattle.il_semantics.specs.Paths.{longest}
use Rattle.load_budgets.specs.Costs.{path_of, AreBudgets, ArePaths, IsTooLong}
use Rattle.load_budgets.proofs.costing.budget.Goals as goal

pub budgets-requires-clause-declared : goal.budgets-requires-clause-declared
budgets-requires-clause-declared c = subst (λ d. HasNoFault (Broken Declaring d)) (sym c.names.ensures.is) c.names.ensures.declared

pub budgets-requires-clause-typed : goal.budgets-requires-clause-typed
budgets-requires-clause-typed c = subst (λ d. HasNoFault (Broken Typing d)) (sym c.names.ensures.is) c.names.ensures.typed

pub budgets-requires-clause-ordered : goal.budgets-requires-clause-ordered
budgets-requires-clause-ordered c = subst (λ d. HasNoFault (Broken Ordering d)) (sym c.names.ensures.is) c.names.ensures.ordered

pub returns-clause-budgets : goal.returns-clause-budgets
returns-clause-budgets c = subst (λ (d : Config). IfOk c.budgets.result (λ r. AreBudgets d r.0)) c.names.ensures.is c.budgets.ensures.budgets

pub returns-clause-paths : goal.returns-clause-paths
returns-clause-paths c = subst (λ (d : Config). IfOk c.budgets.result (λ r. ArePaths d r.1)) c.names.ensures.is c.budgets.ensures.paths

pub returns-clause-costs : goal.returns-clause-costs
returns-clause-costs c = subst (λ (d : Config). IfOk c.budgets.result (λ r. r.0.units ≡ map (longest d) d.units)) c.names.ensures.is c.budgets.ensures.costs

pub returns-clause-lines : goal.returns-clause-lines
returns-clause-lines c = subst (λ (d : Config). IfOk c.budgets.result (λ r. r.1.units ≡ map (path_of d) d.units)) c.names.ensures.is c.budgets.ensures.lines

pub returns-clause-accepted : goal.returns-clause-accepted
returns-clause-accepted c = subst (λ (d : Config). IfOk c.budgets.result (λ _. HasNoFault (IsTooLong d))) c.names.ensures.is c.budgets.ensures.accepted

pub returns-clause-refused : goal.returns-clause-refused
returns-clause-refused c = subst (λ (d : Config). IfErr c.budgets.result (IsRefusedBy (IsTooLong d))) c.names.ensures.is c.budgets.ensures.refused
