use Rattle.std.proofs.Common.{length, sym, subst}
use Rattle.std.specs.Prelude.{OnOk}
use Rattle.ranges_pass.specs.Numbering.{Adds, AreNumbered, IsArgumentNumbered, IsStepNumbered}
use Rattle.ranges_pass.proofs.numbering.add_step.Goals as goal

pub returns-in-Call : goal.returns-in-Call
returns-in-Call c =
    subst (λ i. OnOk c.add_arguments.result (Adds c.args.unit.now (λ ns. IsStepNumbered c.args.unit.now ns c.args.tests i) c.args.numbering.now.numbers c.args.numbering.now.declared c.add_arguments.new.numbering.numbers c.add_arguments.new.numbering.declared)) (sym c.in-Call.is)
    (subst (λ l. OnOk c.add_arguments.result (Adds c.args.unit.now (λ ns. AreNumbered (IsArgumentNumbered c.args.unit.now ns) l (length l)) c.args.numbering.now.numbers c.args.numbering.now.declared c.add_arguments.new.numbering.numbers c.add_arguments.new.numbering.declared)) c.as_slice.ensures c.add_arguments.ensures)
