use Rattle.std.proofs.Common.{◌∙◌, ap, subst, length, ◌<◌, ◌^◌, arith}
use Rattle.il_syntax.specs.declared.tree.Config.{Config}
use Rattle.load_code.proofs.maker.unit_count.Goals as goal

pub returns : goal.returns
returns c = subst (λ us. length us < 2 ^ 63) (c.as_slice.ensures ∙ ap (λ (x : Config). x.units) c.config.ensures) (let h = c.as_slice.type_inv.1 in omega (arith, h))
