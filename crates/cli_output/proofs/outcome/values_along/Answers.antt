use Rattle.std.proofs.Common.{List, ℕ, ap, map, subst, ◌∙◌}
use Rattle.std.specs.Prelude.{String, string_bytes}
use Rattle.std.specs.Global.{Global}
use Rattle.cli_output.specs.Parts.{AreValued}
use Rattle.cli_output.proofs.Followed.{valued_is}
use Rattle.cli_output.proofs.outcome.values_along.Goals as goal

pub returns-clause-is : goal.returns-clause-is
returns-clause-is c =
    let world = c.args.world.now in
    valued_is c.args.names c.args.changes world.program world.world c.args.events.now c.args.lines c.values_of.result
    (subst (λ (l : List (List ℕ)). AreValued l c.args.changes world.program world.world c.args.events.now c.args.lines c.values_of.result) (ap (λ (l : List (String Global)). map string_bytes l) c.deref.ensures.value ∙ c.in_ok-names.ensures)
    c.values_of.ensures.is)
