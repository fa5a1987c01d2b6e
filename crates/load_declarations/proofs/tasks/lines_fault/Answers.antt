use Rattle.std.proofs.Common.{◌<◌, ◌∙◌, length, arith, refl, sym}
use Rattle.std.proofs.lemmas.Option.{slice_get_read}
use Rattle.il_statics.specs.Least.{When}
use Rattle.il_statics.proofs.Least.{least_next, least_if}
use Rattle.load_declarations.proofs.Lowest.{least_among}
use Rattle.load_declarations.specs.TaskRules.{BreaksLine}
use Rattle.load_declarations.proofs.TaskLaws.{line_breaks, breaks_line}
use Rattle.load_declarations.proofs.tasks.lines_fault.Goals as goal

pub loop-line-preserved : goal.loop-line-preserved
loop-line-preserved c =
    let low : c.loop-line.line-index < length c.args.lines.now = omega arith in
    least_next (λ at. λ x. When (BreaksLine c.args.names.now x) 24 x.place) c.args.lines.now c.loop-line.line-index c.line-item.result c.loop-line.found c.fault_if.result c.earlier-found.result (slice_get_read _ _ _ _ refl low c.line-item.is) c.earlier-found.ensures c.loop-line.invariant
    (least_if c.is_wrong_line-wrong.result 24 c.line-item.result.place c.fault_if.result _ c.fault_if.ensures (λ e. line_breaks c.args.names.now c.line-item.result (sym c.is_wrong_line-wrong.ensures ∙ e)) (λ b. c.is_wrong_line-wrong.ensures ∙ breaks_line c.args.names.now c.line-item.result b))

pub returns : goal.returns
returns c = least_among (λ x. When (BreaksLine c.args.names.now x) 24 x.place) c.args.lines.now c.loop-line.line-index c.loop-line.found (omega arith) c.loop-line.invariant
