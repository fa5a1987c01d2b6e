use Rattle.std.proofs.Common.{subst}
use Rattle.il_syntax.specs.declared.tree.Config.{Config}
use Rattle.load_text.specs.Loading.{IsUnbroken, IsExplained}
use Rattle.load_text.proofs.Explaining.{handed_as, handed_report, no_fault_of_spelled}
use Rattle.load_text.proofs.Accepting.{handed_on}
use Rattle.load_text.proofs.Phases.{found_unbroken, explained_by}
use Rattle.load_text.proofs.loader.unbroken.Goals as goal

pub returns-in_err-written-clause-none : goal.returns-in_err-written-clause-none
returns-in_err-written-clause-none c = λ fault d spelled unbroken. c.in_err-written.ensures.none (handed_on Config _ _ c.from_residual.ensures.1 fault) d spelled

pub returns-clause-found : goal.returns-clause-found
returns-clause-found c = found_unbroken c.args.text.now c.in_ok-written.written c.in_ok-written.ensures.only c.in_order.result c.in_order.ensures.same c.in_order.ensures.unbroken

pub returns-clause-none : goal.returns-clause-none
returns-clause-none c = λ fault d spelled unbroken. c.in_order.ensures.broken fault (subst IsUnbroken (c.in_ok-written.ensures.only.only d spelled) unbroken)

pub returns-in_err-written-clause-number : goal.returns-in_err-written-clause-number
returns-in_err-written-clause-number c = handed_as (IsExplained c.args.text.now) _ _ c.from_residual.ensures.1 c.in_err-written.ensures.number

pub returns-clause-number : goal.returns-clause-number
returns-clause-number c = explained_by c.args.text.now c.in_ok-written.written c.in_ok-written.ensures.only c.in_order.result c.in_order.ensures.refused

pub returns-in_err-written-clause-bytes : goal.returns-in_err-written-clause-bytes
returns-in_err-written-clause-bytes c = handed_report c.args.text.now _ _ c.from_residual.ensures.1 c.in_err-written.ensures.bytes

pub returns-clause-bytes : goal.returns-clause-bytes
returns-clause-bytes c = λ n l fault. absurd (no_fault_of_spelled c.args.text.now c.in_ok-written.written n l c.in_ok-written.ensures.only.spelled fault)
