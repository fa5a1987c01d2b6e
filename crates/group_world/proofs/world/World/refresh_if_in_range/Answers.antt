use Rattle.std.proofs.Common.{◌∙◌, sym, ap, subst}
use Rattle.group_spec.specs.Image.{sizes_of, fields_in_range, FieldsInRange}
use Rattle.group_spec.proofs.Laws.{fields_in_range_means}
use Rattle.group_world.specs.Kept.{world_in}
use Rattle.group_world.specs.Worlds.{WorldOf}
use Rattle.group_world.proofs.Events.{refresh_outside}
use Rattle.group_world.proofs.world.World.refresh_if_in_range.Goals as goal

pub returns-then-not-in_range-clause-model : goal.returns-then-not-in_range-clause-model
returns-then-not-in_range-clause-model c =
    let w = c.self.inside in
    rw (← c.self.view_is) (refresh_outside w.verified.config (world_in w) c.args.fields.now (ap (λ s. fields_in_range s c.args.fields.now) (sym c.sizes.ensures) ∙ sym c.in_range.ensures ∙ c.if-not-in_range.true))

pub refresh-requires : goal.refresh-requires
refresh-requires c = record {
  inside =
      subst (λ (w : WorldOf). FieldsInRange (sizes_of w.program.config) c.args.fields.now) c.self.view_is
      (fields_in_range_means (sizes_of c.self.inside.verified.config) c.args.fields.now (ap (λ s. fields_in_range s c.args.fields.now) (sym c.sizes.ensures) ∙ sym c.in_range.ensures ∙ c.if-not-in_range.false));
}
