use Rattle.std.proofs.Common.{ap, ap₂, sym, ◌∙◌, subst, refl}
use Rattle.group_spec.specs.Image.{sizes_of, FieldsInRange}
use Rattle.group_world.specs.Groups.{GroupOf}
use Rattle.group_world.specs.Setting.{with_image}
use Rattle.group_world.proofs.Setting.{image_holds, image_group, image_of}
use Rattle.group_world.proofs.group.Core.set_image.Goals as goal

pub invariant_of-self : goal.invariant_of-self
invariant_of-self c =
    image_holds c.self.inside.program.value.config c.self.inside.shared _ c.self.invariant refl c.args.image.now (ap₂ image_of c.take_fields.ensures c.take_outputs.ensures) refl refl
    (subst (λ (k : GroupOf). FieldsInRange (sizes_of k.config) c.args.image.now.fields) (sym c.self.view_is) c.requires.fields) c.requires.obeys

pub returns-clause-group : goal.returns-clause-group
returns-clause-group c =
    let k = c.self.inside.shared in
    let after = record k { image = image_of c.take_fields.new.fields c.take_outputs.new.outputs } in
    image_group c.self.inside.program.value.config k after c.self.invariant refl c.args.image.now (ap₂ image_of c.take_fields.ensures c.take_outputs.ensures) refl refl ∙ ap (λ (k : GroupOf). with_image k.group c.args.image.now) c.self.view_is
