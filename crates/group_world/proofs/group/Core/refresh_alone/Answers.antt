use Rattle.std.proofs.Common.{refl, sym, ap, ◌∙◌, subst, [], arith}
use Rattle.group_spec.specs.Image.{sizes_of, FieldsInRange}
use Rattle.group_spec.specs.World.{refreshed_group}
use Rattle.group_world.specs.Groups.{GroupOf}
use Rattle.group_world.proofs.Committing.{refreshes_alone}
use Rattle.group_world.proofs.Grouped.{refreshed_holds}
use Rattle.group_world.proofs.group.Core.refresh_alone.Goals as goal

pub settle_cars-requires : goal.settle_cars-requires
settle_cars-requires c = c.self.invariant.ranges.outputs ∙ ap (λ (k : GroupOf). (sizes_of k.config).cars) c.self.view_is ∙ sym c.requires.cars

pub invariant_of-self : goal.invariant_of-self
invariant_of-self c =
    refreshed_holds c.self.inside.program.value.config c.self.inside.shared _ c.self.invariant c.args.fields.now [] _ (subst (λ (k : GroupOf). FieldsInRange (sizes_of k.config) c.args.fields.now) (sym c.self.view_is) c.requires) (λ k d low. absurd (omega (arith, low))) tt
    (refreshes_alone c.self.inside.program.value.config c.self.inside.shared c.args.fields.now c.settle_cars.new.image c.settle_cars.new.report c.args.report.now.entered c.clear.new.row c.settle_cars.ensures.image c.settle_cars.ensures.report c.clear.ensures) refl refl

pub returns-clause-group : goal.returns-clause-group
returns-clause-group c =
    ap (λ (k : GroupOf). refreshed_group k.group c.args.fields.now []) (sym c.self.view_is)
    ∙ refreshes_alone c.self.inside.program.value.config c.self.inside.shared c.args.fields.now c.settle_cars.new.image c.settle_cars.new.report c.args.report.now.entered c.clear.new.row c.settle_cars.ensures.image c.settle_cars.ensures.report c.clear.ensures
