use Rattle.std.proofs.Common.{◌≡◌, ◌≤◌, length, replicate, refl, ap, sym, ◌∙◌, subst}
use Rattle.il_syntax.specs.declared.tree.Config.{Config}
use Rattle.scan_task.proofs.Sizes.{sizes_fit}
use Rattle.group_spec.specs.declared.image.Sizes.{Sizes}
use Rattle.group_spec.specs.declared.image.Image.{Image}
use Rattle.group_spec.specs.Image.{sizes_of, opening_outputs}
use Rattle.group_laws.proofs.Resting.{obeys_at_rest}
use Rattle.group_world.specs.Groups.{GroupOf}
use Rattle.group_world.specs.Setting.{rested}
use Rattle.group_world.proofs.Grouped.{config_here}
use Rattle.group_world.proofs.Setting.{image_of, image_holds, image_group}
use Rattle.group_world.proofs.group.Core.rest.Goals.{After-take_outputs}
use Rattle.group_world.proofs.group.Core.rest.Goals as goal

pub opening_image-opening-requires : goal.opening_image-opening-requires
opening_image-opening-requires c = subst (λ (s : Sizes). s.cars ≤ 8) (sym c.sizes.ensures) (sizes_fit _ c.config-config.ensures.runnable).0.1

-- there are as many outputs as cars
outputs_are : (c : After-take_outputs) → let fields = c.self.inside.shared.image.fields in image_of fields c.take_outputs.new.outputs ≡ image_of fields (replicate (length fields.cars) opening_outputs)
outputs_are c =
    let fields = c.self.inside.shared.image.fields in
    let same = config_here c.self.inside.program.value.config c.self.inside.shared c.args.self.now c.self.view_is _ c.requires.program in
    ap (image_of fields)
    (c.take_outputs.ensures ∙ ap (λ (i : Image). i.outputs) c.opening_image-opening.ensures
    ∙ ap (λ n. replicate n opening_outputs) (ap (λ (s : Sizes). s.cars) c.sizes.ensures ∙ ap (λ (k : Config). (sizes_of k).cars) (sym same) ∙ sym c.self.invariant.ranges.fields.cars))

pub invariant_of-self : goal.invariant_of-self
invariant_of-self c =
    let fields = c.self.inside.shared.image.fields in
    image_holds c.self.inside.program.value.config c.self.inside.shared _ c.self.invariant refl (image_of fields (replicate (length fields.cars) opening_outputs)) (outputs_are (goal.at.invariant_of-self c).After-take_outputs) refl refl c.self.invariant.ranges.fields (obeys_at_rest fields)

pub returns-clause-group : goal.returns-clause-group
returns-clause-group c =
    let k = c.self.inside.shared in
    let after = record k { image = image_of k.image.fields c.take_outputs.new.outputs } in
    image_group c.self.inside.program.value.config k after c.self.invariant refl (image_of k.image.fields (replicate (length k.image.fields.cars) opening_outputs)) (outputs_are (goal.at.returns-clause-group c).After-take_outputs) refl refl
    ∙ ap (λ (k : GroupOf). rested k.group) c.self.view_is
