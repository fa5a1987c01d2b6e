use Rattle.std.proofs.Common.{sym, ap, ◌∙◌, Some, w64}
use Rattle.std.proofs.lemmas.Int.{quot_is}
use Rattle.il_syntax.specs.declared.tree.Arithmetic.TheVariants.{Div}
use Rattle.il_semantics.specs.declared.value.Value.TheVariants.{Integer}
use Rattle.il_semantics.specs.Step.{content}
use Rattle.scan_step.proofs.Numbers.{computes_so}
use Rattle.scan_step.proofs.instruction.quotient.Goals as goal

pub returns : goal.returns
returns c =
    let e = c.args.elementary in
    let so = computes_so Div e c.args.left c.args.right c.requires in
    so.is ∙ ap Some (ap (λ z. content e (Integer z)) (sym (quot_is w64 c.args.left c.args.right c.ranges.left c.ranges.right so.fits)))
