use Rattle.std.proofs.Common.{sym, ap, ◌∙◌}
use Rattle.base_maps.specs.NameMap.{get}
use Rattle.il_semantics.specs.Annotation.{Knowledge}
use Rattle.ranges_laws.proofs.Rows.{row_is}
use Rattle.ranges_pass.proofs.places.PlaceFacts.range.Goals as goal

pub returns : goal.returns
returns c = c.range.ensures ∙ sym (row_is c.self.inside.scope.now c.self.inside.facts.now.row c.args.name.now) ∙ ap (λ (k : Knowledge). get k.variables c.args.name.now) c.self.view_is
