use Rattle.std.proofs.Common.{ap, ap₂, [], List}
use Rattle.group_spec.specs.declared.image.CarOutputs.{CarOutputs}
use Rattle.group_spec.specs.declared.image.Image.{Image}
use Rattle.group_spec.specs.declared.report.Denial.{Denial}
use Rattle.group_spec.specs.declared.report.Report.{Report}
use Rattle.group_world.proofs.shared.settle_cars.Goals as goal

pub returns-clause-image : goal.returns-clause-image
returns-clause-image c =
    let image : List CarOutputs → Image = λ outputs. record { fields = c.args.fields.now; outputs = outputs } in
    rw c.take_fields.ensures (ap image c.settle_each.ensures.outputs)

pub returns-clause-report : goal.returns-clause-report
returns-clause-report c =
    let report : List CarOutputs → List Denial → Report = λ outputs denials. record { outputs = outputs; denials = denials; answers = []; entered = c.args.report.now.entered } in
    rw (c.take_outputs.ensures, c.clear.ensures) (ap₂ report c.settle_each.ensures.outputs c.settle_each.ensures.denials)
