use Rattle.std.proofs.Common.{◌∙◌, sym, refl}
use Rattle.group_spec.specs.declared.event.Event.TheVariants.{Gather}
use Rattle.group_spec.specs.Hands.{calls_from, mask_of}
use Rattle.group_spec.specs.Replies.{Gathered}
use Rattle.group_world.specs.Kept.{world_in}
use Rattle.group_world.proofs.Events.{gather_nowhere, gather_held, gather_moves}
use Rattle.group_world.proofs.Happening.{told, floor_fits, keeps_world}
use Rattle.group_world.proofs.world.World.gather.Goals as goal

pub returns-then-not-is_floor-clause-model : goal.returns-then-not-is_floor-clause-model
returns-then-not-is_floor-clause-model c = λ _.
    let w = c.self.inside in
    rw (← c.self.view_is) (gather_nowhere w.verified.config (world_in w) c.args.floor (told _ _ _ _ _ c.sizes.ensures c.is_floor.ensures c.if-not-is_floor.true))

pub has_from-requires : goal.has_from-requires
has_from-requires c = floor_fits c.self.inside.verified.config c.self.invariant.runnable c.args.floor (told _ _ _ _ _ c.sizes.ensures c.is_floor.ensures c.if-not-is_floor.false)

pub returns-then-has_from-clause-model : goal.returns-then-has_from-clause-model
returns-then-has_from-clause-model c = λ _.
    let w = c.self.inside in
    rw (← c.self.view_is)
    (gather_held w.verified.config (world_in w) c.args.floor (told _ _ _ _ _ c.sizes.ensures c.is_floor.ensures c.if-not-is_floor.false) (sym c.has_from.ensures ∙ c.if-has_from.true))

pub take_from-requires : goal.take_from-requires
take_from-requires c = floor_fits c.self.inside.verified.config c.self.invariant.runnable c.args.floor (told _ _ _ _ _ c.sizes.ensures c.is_floor.ensures c.if-not-is_floor.false)

pub invariant_of-self : goal.invariant_of-self
invariant_of-self c =
    let w = c.self.inside in
    let is = c.self.invariant in
    keeps_world w _ (Gather c.args.floor) (Gathered (mask_of (calls_from c.args.floor w.desk))) is refl refl is.stores is.variables
    (rw (c.take_from.ensures.rest, c.take_from.ensures.moved)
    (gather_moves w.verified.config (world_in w) c.args.floor (told _ _ _ _ _ c.sizes.ensures c.is_floor.ensures c.if-not-is_floor.false) (sym c.has_from.ensures ∙ c.if-has_from.false)))

pub returns-clause-model : goal.returns-clause-model
returns-clause-model c = λ _.
    let w = c.self.inside in
    rw (c.take_from.ensures.rest, c.take_from.ensures.moved, c.take_from.ensures.mask, ← c.self.view_is)
    (gather_moves w.verified.config (world_in w) c.args.floor (told _ _ _ _ _ c.sizes.ensures c.is_floor.ensures c.if-not-is_floor.false) (sym c.has_from.ensures ∙ c.if-has_from.false))
