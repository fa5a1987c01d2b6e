use Rattle.std.proofs.Common.{◌≡◌, true, arith, ap, sym, ◌∙◌}
use Rattle.il_statics.specs.Least.{When}
use Rattle.il_statics.proofs.Least.{least_next, least_if}
use Rattle.load_scope.proofs.Seen.{read_at}
use Rattle.load_order.specs.Counted.{is_over}
use Rattle.load_order.proofs.answer.lines_fault.Goals as goal

pub loop-at-preserved : goal.loop-at-preserved
loop-at-preserved c =
    least_next (λ at line. When (is_over c.args.names.now c.args.reached.now c.args.counted.now line ≡ true) 12 line.place) c.args.names.now.programs c.loop-at.at c.index-lines-at.result c.loop-at.found c.fault_if.result c.earlier-found.result
    (read_at c.as_slice-lines.result.now c.args.names.now.programs c.loop-at.at c.index-lines-at.result (c.as_slice-lines.ensures ∙ ap (λ k. k.programs) c.config.ensures) (omega arith) c.index-lines-at.is) c.earlier-found.ensures c.loop-at.invariant
    (least_if c.is_over-over.result 12 c.index-lines-at.result.place c.fault_if.result (is_over c.args.names.now c.args.reached.now c.args.counted.now c.index-lines-at.result ≡ true) c.fault_if.ensures (λ e. sym c.is_over-over.ensures ∙ e) (λ e. c.is_over-over.ensures ∙ e))
