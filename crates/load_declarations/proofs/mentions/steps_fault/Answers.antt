use Rattle.std.proofs.Common.{◌<◌, length, arith, refl}
use Rattle.std.proofs.lemmas.Option.{slice_get_read}
use Rattle.il_statics.proofs.Least.{least_next}
use Rattle.load_declarations.proofs.Lowest.{least_among, least_at}
use Rattle.il_syntax.specs.declared.tree.Step.{Step}
use Rattle.il_statics.specs.Declarations.{name_numbers}
use Rattle.load_declarations.specs.Places.{At}
use Rattle.load_declarations.proofs.mentions.steps_fault.Goals as goal

pub loop-step-preserved : goal.loop-step-preserved
loop-step-preserved c =
    let low : c.loop-step.step-index < length c.args.steps.now = omega arith in
    least_next (λ at. λ (s : Step). At (name_numbers c.args.here.now.config c.args.here.now.unit s.instruction) s.place) c.args.steps.now c.loop-step.step-index c.step-item.result c.loop-step.found c.instruction_fault.result c.earlier-found.result (slice_get_read _ _ _ _ refl low c.step-item.is) c.earlier-found.ensures c.loop-step.invariant
    (least_at (name_numbers c.args.here.now.config c.args.here.now.unit c.step-item.result.instruction) c.step-item.result.place c.instruction_fault.result c.instruction_fault.ensures)

pub returns : goal.returns
returns c = least_among (λ (s : Step). At (name_numbers c.args.here.now.config c.args.here.now.unit s.instruction) s.place) c.args.steps.now c.loop-step.step-index c.loop-step.found (omega arith) c.loop-step.invariant
