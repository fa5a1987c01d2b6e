use Rattle.std.proofs.Common.{sym, subst}
use Rattle.std.specs.Prelude.{OnOk}
use Rattle.ranges_pass.specs.Numbering.{Adds, HasNumberIn, IsTargetNumbered}
use Rattle.ranges_pass.proofs.numbering.add_target.Goals as goal

pub returns-in-Variable : goal.returns-in-Variable
returns-in-Variable c =
    subst (λ r. OnOk c.add.result (Adds c.args.unit.now (λ ns. IsTargetNumbered c.args.unit.now ns r) c.args.numbering.now.numbers c.args.numbering.now.declared c.add.new.numbering.numbers c.add.new.numbering.declared)) (sym c.in-Variable.is)
    (subst (λ n. OnOk c.add.result (Adds c.args.unit.now (λ ns. HasNumberIn c.args.unit.now ns n) c.args.numbering.now.numbers c.args.numbering.now.declared c.add.new.numbering.numbers c.add.new.numbering.declared)) c.as_str.ensures c.add.ensures)
