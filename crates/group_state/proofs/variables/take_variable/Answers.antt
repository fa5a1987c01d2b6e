use Rattle.std.proofs.Common.{ℕ, List, sym, subst}
use Rattle.group_state.specs.Parts.{IsSplit, path_by}
use Rattle.group_state.specs.Variables.{IsOfVariable}
use Rattle.group_state.proofs.Words.{absent_end, absent_line}
use Rattle.group_state.proofs.variables.take_variable.Goals as goal

pub returns-in_default-clause-found : goal.returns-in_default-clause-found
returns-in_default-clause-found c = absent_end (path_by c.args.owner c.args.cell.now.path) c.args.text.now (subst (IsSplit c.args.text.now) c.in_default.is c.requires.split)

pub returns-in_default-word_of-clause-found : goal.returns-in_default-word_of-clause-found
returns-in_default-word_of-clause-found c =
    absent_line (path_by c.args.owner c.args.cell.now.path) c.args.text.now c.in-Some.line.now c.in-Some.rest.now (subst (IsSplit c.args.text.now) c.in-Some.is c.requires.split)
    (λ word of. c.in_default-word_of.ensures.none word (subst (λ (p : List ℕ). IsOfVariable (path_by c.args.owner p) c.in-Some.line.now word) (sym c.as_str.ensures) of))
