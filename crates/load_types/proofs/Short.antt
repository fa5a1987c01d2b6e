-- Within the limits of a text units are short.
use Rattle.std.proofs.Common.{◌≤◌, length, subst, arith}
use Rattle.std.proofs.lemmas.Option.{slice_get_within, get_or_from_slice_get}
use Rattle.il_syntax.specs.declared.tree.Config.{Config}
use Rattle.il_syntax.specs.declared.tree.Unit.{Unit as ProgramUnit}
use Rattle.il_statics.specs.Written.{HasFewInstructions}
use Rattle.load_types.specs.Judged.{AreShort}

pub few_short : (c : Config) → HasFewInstructions c → AreShort c.units
few_short c limited at unit stands =
    let few = subst (λ (v : ProgramUnit). length v.body.steps ≤ 4096) (get_or_from_slice_get c.units at unit unit stands) (limited at unit (slice_get_within c.units at unit stands)) in
    omega (arith, few)
