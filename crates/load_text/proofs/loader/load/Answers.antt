use Rattle.il_syntax.specs.declared.tree.Config.{Config}
use Rattle.load_text.specs.Loading.{IsExplained}
use Rattle.load_text.proofs.Explaining.{handed_as, handed_report, handed_grammar, no_fault_of_spelled}
use Rattle.load_text.proofs.Accepting.{handed_on}
use Rattle.load_text.proofs.Phases.{found_by, runs_by, works_by, refused_by, named_by, explained_by}
use Rattle.load_text.proofs.OneFault.{one_by}
use Rattle.load_text.proofs.loader.load.Goals as goal

-- TOKENS AND GRAMMAR

pub returns-in_err-config-clause-refused : goal.returns-in_err-config-clause-refused
returns-in_err-config-clause-refused c = λ fault d a. c.in_err-config.ensures.none (handed_on Config _ _ c.from_residual.ensures.1 fault) d a.spelled

pub returns-in_err-config-clause-named : goal.returns-in_err-config-clause-named
returns-in_err-config-clause-named c = λ fault d a. absurd (c.in_err-config.ensures.none (handed_on Config _ _ c.from_residual.ensures.1 fault) d a)

pub returns-in_err-config-clause-number : goal.returns-in_err-config-clause-number
returns-in_err-config-clause-number c = handed_as (IsExplained c.args.text.now) _ _ c.from_residual.ensures.1 c.in_err-config.ensures.number

pub returns-in_err-config-clause-one : goal.returns-in_err-config-clause-one
returns-in_err-config-clause-one c = λ fault n l w. absurd (c.in_err-config.ensures.none (handed_on Config _ _ c.from_residual.ensures.1 fault) w.0 w.1)

pub returns-in_err-config-clause-bytes : goal.returns-in_err-config-clause-bytes
returns-in_err-config-clause-bytes c = handed_report c.args.text.now _ _ c.from_residual.ensures.1 c.in_err-config.ensures.bytes

pub returns-in_err-config-clause-grammar : goal.returns-in_err-config-clause-grammar
returns-in_err-config-clause-grammar c = handed_grammar c.args.text.now _ _ c.from_residual.ensures.1 c.in_err-config.ensures.grammar

-- THE CONFIGURATION

pub returns-clause-found : goal.returns-clause-found
returns-clause-found c = found_by c.args.text.now c.in_ok-config.config c.in_ok-config.ensures.only c.verified.result c.verified.ensures.same c.verified.ensures.unbroken c.verified.ensures.annotated c.verified.ensures.affordable

pub returns-clause-runs : goal.returns-clause-runs
returns-clause-runs c = runs_by c.in_ok-config.config c.verified.result c.in_ok-config.ensures.written c.in_ok-config.ensures.nested c.verified.ensures.same c.verified.ensures.unbroken c.verified.ensures.annotated

pub returns-clause-works : goal.returns-clause-works
returns-clause-works c = works_by c.in_ok-config.config c.verified.result c.in_ok-config.ensures.written c.in_ok-config.ensures.nested c.verified.ensures.same c.verified.ensures.unbroken c.verified.ensures.annotated

pub returns-clause-refused : goal.returns-clause-refused
returns-clause-refused c = refused_by c.args.text.now c.in_ok-config.config c.in_ok-config.ensures.only c.verified.result c.verified.ensures.refused

pub returns-clause-named : goal.returns-clause-named
returns-clause-named c = named_by c.args.text.now c.in_ok-config.config c.in_ok-config.ensures.only c.verified.result c.verified.ensures.refused

pub returns-clause-number : goal.returns-clause-number
returns-clause-number c = explained_by c.args.text.now c.in_ok-config.config c.in_ok-config.ensures.only c.verified.result c.verified.ensures.refused

pub returns-clause-one : goal.returns-clause-one
returns-clause-one c = one_by c.args.text.now c.in_ok-config.config c.in_ok-config.ensures.only c.verified.result c.verified.ensures.refused

pub returns-clause-bytes : goal.returns-clause-bytes
returns-clause-bytes c = λ n l fault. absurd (no_fault_of_spelled c.args.text.now c.in_ok-config.config n l c.in_ok-config.ensures.only.spelled fault)

pub returns-clause-grammar : goal.returns-clause-grammar
returns-clause-grammar c = λ n p fault. absurd (c.in_ok-config.ensures.grammar n p fault)
