use Rattle.std.proofs.Common.{◌≡◌}
use Rattle.std.proofs.lemmas.Result.{IfOk-weaker}
use Rattle.il_statics.specs.Declarations.{IsUnknown}
use Rattle.il_statics.specs.Types.{HasUnknownLabel}
use Rattle.reasons_faults.specs.TreeReasons.{AreToldOfTree}
use Rattle.reasons_faults.specs.NamesTold.{HasLine}
use Rattle.reasons_faults.proofs.EachTold.{unknown_has_line, label_has_line}
use Rattle.reasons_faults.proofs.tree.told.Goals as goal

pub returns-clause-unknown : goal.returns-clause-unknown
returns-clause-unknown c =
    let config = c.args.names.now in
    IfOk-weaker c.lines_of.result (λ lines. AreToldOfTree config c.args.number c.args.place lines.items) (λ lines. c.args.number ≡ 21 → IsUnknown config c.args.place → HasLine lines.items)
    (λ lines told. unknown_has_line config c.args.number c.args.place lines.items told) c.lines_of.ensures

pub returns-clause-label : goal.returns-clause-label
returns-clause-label c =
    let config = c.args.names.now in
    IfOk-weaker c.lines_of.result (λ lines. AreToldOfTree config c.args.number c.args.place lines.items) (λ lines. c.args.number ≡ 34 → HasUnknownLabel config c.args.place → HasLine lines.items)
    (λ lines told. label_has_line config c.args.number c.args.place lines.items told) c.lines_of.ensures
