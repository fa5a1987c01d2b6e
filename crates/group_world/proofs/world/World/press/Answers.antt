use Rattle.std.proofs.Common.{◌∙◌, sym, refl}
use Rattle.group_spec.specs.declared.event.Event.TheVariants.{Press}
use Rattle.group_spec.specs.Replies.{New}
use Rattle.group_world.specs.Kept.{world_in}
use Rattle.group_world.proofs.Events.{press_nowhere, press_same, press_again, press_new}
use Rattle.group_world.proofs.Happening.{told, floor_fits, first_not, second_not, same_so, other_so, keeps_world}
use Rattle.group_world.proofs.world.World.press.Goals.{then-not-is_floor-via-then-not-is_floor, then-not-is_floor-via-else-not-is_floor+then-not-is_floor-2}
use Rattle.group_world.proofs.world.World.press.Goals as goal
use Rattle.il_semantics_laws.proofs.Fresh.{both as both_so}

pub returns-then-not-is_floor-clause-model : goal.returns-then-not-is_floor-clause-model
returns-then-not-is_floor-clause-model c = λ _.
    let w = c.self.inside in
    rw (← c.self.view_is)
    (press_nowhere w.verified.config (world_in w) c.args.call
    (elim c.then-not-is_floor.branch [
      | then-not-is_floor-via-then-not-is_floor b ↦ first_not _ _ (told _ _ _ _ _ c.sizes-sizes.ensures c.is_floor.ensures b.if-not-is_floor.true)
      | then-not-is_floor-via-else-not-is_floor+then-not-is_floor-2 b ↦
          second_not _ _ (told _ _ _ _ _ c.sizes-sizes.ensures c.is_floor.ensures b.if-not-is_floor.false) (told _ _ _ _ _ c.sizes-sizes.ensures b.is_floor-else-not-is_floor.ensures b.if-not-is_floor-2.true)
    ]))

pub returns-then-call-clause-model : goal.returns-then-call-clause-model
returns-then-call-clause-model c = λ _.
    let w = c.self.inside in
    let from = told _ _ _ _ _ c.sizes-sizes.ensures c.is_floor.ensures c.if-not-is_floor.false in
    let to = told _ _ _ _ _ c.sizes-sizes.ensures c.is_floor-else-not-is_floor.ensures c.if-not-is_floor-2.false in
    rw (← c.self.view_is) (press_same w.verified.config (world_in w) c.args.call (both_so _ _ from to) (same_so _ _ c.if-call.true))

pub has-requires-clause-from : goal.has-requires-clause-from
has-requires-clause-from c = floor_fits c.self.inside.verified.config c.self.invariant.runnable c.args.call.from (told _ _ _ _ _ c.sizes-sizes.ensures c.is_floor.ensures c.if-not-is_floor.false)

pub has-requires-clause-to : goal.has-requires-clause-to
has-requires-clause-to c = floor_fits c.self.inside.verified.config c.self.invariant.runnable c.args.call.to (told _ _ _ _ _ c.sizes-sizes.ensures c.is_floor-else-not-is_floor.ensures c.if-not-is_floor-2.false)

pub returns-then-has-clause-model : goal.returns-then-has-clause-model
returns-then-has-clause-model c = λ _.
    let w = c.self.inside in
    let from = told _ _ _ _ _ c.sizes-sizes.ensures c.is_floor.ensures c.if-not-is_floor.false in
    let to = told _ _ _ _ _ c.sizes-sizes.ensures c.is_floor-else-not-is_floor.ensures c.if-not-is_floor-2.false in
    rw (← c.self.view_is) (press_again w.verified.config (world_in w) c.args.call (both_so _ _ from to) (other_so _ _ c.if-call.false) (sym c.has.ensures ∙ c.if-has.true))

pub insert-requires-clause-from : goal.insert-requires-clause-from
insert-requires-clause-from c = floor_fits c.self.inside.verified.config c.self.invariant.runnable c.args.call.from (told _ _ _ _ _ c.sizes-sizes.ensures c.is_floor.ensures c.if-not-is_floor.false)

pub insert-requires-clause-to : goal.insert-requires-clause-to
insert-requires-clause-to c = floor_fits c.self.inside.verified.config c.self.invariant.runnable c.args.call.to (told _ _ _ _ _ c.sizes-sizes.ensures c.is_floor-else-not-is_floor.ensures c.if-not-is_floor-2.false)

pub invariant_of-self : goal.invariant_of-self
invariant_of-self c =
    let w = c.self.inside in
    let is = c.self.invariant in
    let from = told _ _ _ _ _ c.sizes-sizes.ensures c.is_floor.ensures c.if-not-is_floor.false in
    let to = told _ _ _ _ _ c.sizes-sizes.ensures c.is_floor-else-not-is_floor.ensures c.if-not-is_floor-2.false in
    keeps_world w _ (Press c.args.call) New is refl refl is.stores is.variables
    (rw c.insert.ensures (press_new w.verified.config (world_in w) c.args.call (both_so _ _ from to) (other_so _ _ c.if-call.false) (sym c.has.ensures ∙ c.if-has.false)))

pub returns-clause-model : goal.returns-clause-model
returns-clause-model c = λ _.
    let w = c.self.inside in
    let from = told _ _ _ _ _ c.sizes-sizes.ensures c.is_floor.ensures c.if-not-is_floor.false in
    let to = told _ _ _ _ _ c.sizes-sizes.ensures c.is_floor-else-not-is_floor.ensures c.if-not-is_floor-2.false in
    rw (c.insert.ensures, ← c.self.view_is) (press_new w.verified.config (world_in w) c.args.call (both_so _ _ from to) (other_so _ _ c.if-call.false) (sym c.has.ensures ∙ c.if-has.false))
