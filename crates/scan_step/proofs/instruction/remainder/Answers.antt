use Rattle.std.proofs.Common.{rules, sym, ap, ap₂, ◌∙◌, Some, w64, FitsSigned}
use Rattle.std.specs.Prelude.{int_rem}
use Rattle.std.proofs.lemmas.Int.{to_z-of_z}
use Rattle.il_syntax.specs.declared.tree.Arithmetic.TheVariants.{Mod}
use Rattle.il_semantics.specs.declared.value.Value.TheVariants.{Integer}
use Rattle.il_semantics.specs.Step.{content}
use Rattle.scan_step.proofs.Numbers.{computes_so, remainder_is}
use Rattle.scan_step.proofs.instruction.remainder.Goals as goal

pub returns : goal.returns
returns c =
    let e = c.args.elementary in
    let so = computes_so Mod e c.args.left c.args.right c.requires in
    let fits : FitsSigned w64 c.wrapping_rem.result = search rules in
    so.is ∙ ap Some (sym (ap (λ z. content e (Integer z))
    (to_z-of_z w64 c.wrapping_rem.result fits ∙ c.wrapping_rem.ensures ∙ ap₂ int_rem (to_z-of_z w64 c.args.left c.ranges.left) (to_z-of_z w64 c.args.right c.ranges.right) ∙ remainder_is c.args.left c.args.right)))
