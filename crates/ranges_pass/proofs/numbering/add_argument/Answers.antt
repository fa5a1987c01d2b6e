use Rattle.std.proofs.Common.{sym, subst}
use Rattle.std.specs.Prelude.{OnOk}
use Rattle.ranges_pass.specs.Numbering.{Adds, HasNumberIn, IsArgumentNumbered}
use Rattle.ranges_pass.proofs.numbering.add_argument.Goals as goal

pub returns-in-Output : goal.returns-in-Output
returns-in-Output c =
    subst (λ a. OnOk c.add.result (Adds c.args.unit.now (λ ns. IsArgumentNumbered c.args.unit.now ns a) c.args.numbering.now.numbers c.args.numbering.now.declared c.add.new.numbering.numbers c.add.new.numbering.declared)) (sym c.in-Output.is)
    (subst (λ n. OnOk c.add.result (Adds c.args.unit.now (λ ns. HasNumberIn c.args.unit.now ns n) c.args.numbering.now.numbers c.args.numbering.now.declared c.add.new.numbering.numbers c.add.new.numbering.declared)) c.as_str.ensures c.add.ensures)
