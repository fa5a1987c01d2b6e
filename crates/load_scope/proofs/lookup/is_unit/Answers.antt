use Rattle.std.proofs.Common.{ap, ◌∙◌}
use Rattle.std.specs.Prelude.{is_some}
use Rattle.il_statics.specs.Declarations.{names_of_units}
use Rattle.load_scope.proofs.Seen.{place_there}
use Rattle.load_scope.proofs.lookup.is_unit.Goals as goal

pub returns : goal.returns
returns c = λ config are. c.is_some.ensures ∙ ap is_some (c.get.ensures ∙ are c.args.name.now) ∙ place_there (names_of_units config) c.args.name.now
