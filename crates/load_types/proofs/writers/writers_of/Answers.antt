use Rattle.std.proofs.Common.{◌≡◌, arith, ap, subst, length, ◌∙◌}
use Rattle.load_scope.proofs.Seen.{read_at}
use Rattle.load_types.specs.Writers.{AreWriters}
use Rattle.load_types.proofs.Sharing.{writers_none, line_next}
use Rattle.load_types.proofs.writers.writers_of.Goals as goal

pub loop-line-init : goal.loop-line-init
loop-line-init c = writers_none c.args.names.now c.new-writers.result c.new-writers.ensures

pub loop-line-preserved : goal.loop-line-preserved
loop-line-preserved c =
    line_next c.args.names.now c.loop-line.line c.index-lines-line.result (read_at c.as_slice-lines.result.now c.args.names.now.programs c.loop-line.line c.index-lines-line.result (c.as_slice-lines.ensures ∙ ap (λ k. k.programs) c.config.ensures) (omega arith) c.index-lines-line.is) c.loop-line.writers c.note_line.new.writers c.in_ok-note_line.ensures
    c.loop-line.invariant

pub returns : goal.returns
returns c =
    let e = ap length (c.as_slice-lines.ensures ∙ ap (λ k. k.programs) c.config.ensures) in
    let low = c.loop-line-test.false in
    let high = c.loop-line.auto.line-end in
    let same : c.loop-line.line ≡ length c.args.names.now.programs = omega arith in
    subst (λ k. AreWriters c.args.names.now k c.loop-line.writers) same c.loop-line.invariant
