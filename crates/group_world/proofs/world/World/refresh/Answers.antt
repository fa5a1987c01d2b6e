use Rattle.std.proofs.Common.{[], ◌∷◌, refl, sym, subst}
use Rattle.group_spec.specs.Image.{sizes_of, FieldsInRange}
use Rattle.group_spec.specs.declared.event.Event.TheVariants.{Refresh}
use Rattle.group_spec.specs.Replies.{Refreshed}
use Rattle.group_world.specs.Worlds.{WorldOf}
use Rattle.group_world.proofs.Happening.{refresh_fields, refresh_calls, refreshed_world, refreshed_stores, refreshed_variables, keeps_world}
use Rattle.group_world.proofs.world.World.refresh.Goals as goal

pub refresh-requires-clause-fields : goal.refresh-requires-clause-fields
refresh-requires-clause-fields c =
    refresh_fields c.self.inside c.self.invariant c.args.fields.now (subst (λ (v : WorldOf). FieldsInRange (sizes_of v.program.config) c.args.fields.now) (sym c.self.view_is) c.requires.inside)

pub refresh-requires-clause-calls : goal.refresh-requires-clause-calls
refresh-requires-clause-calls c =
    refresh_calls c.self.inside c.self.invariant c.args.fields.now (subst (λ (v : WorldOf). FieldsInRange (sizes_of v.program.config) c.args.fields.now) (sym c.self.view_is) c.requires.inside)

pub invariant_of-self : goal.invariant_of-self
invariant_of-self c =
    let w = c.self.inside in
    let is = c.self.invariant in
    let fields = c.args.fields.now in
    let inside = subst (λ (v : WorldOf). FieldsInRange (sizes_of v.program.config) fields) (sym c.self.view_is) c.requires.inside in
    let after = c.refresh.new.core.group in
    let hand = c.refresh.new.hand in
    let report = c.refresh.new.report in
    let group = c.refresh.ensures.group in
    keeps_world w _ (Refresh fields) (Refreshed report) is refl c.refresh.ensures.config (refreshed_stores w is fields inside after hand report group) (refreshed_variables w is fields inside after hand report group)
    (refreshed_world w is fields inside after hand report group c.refresh.ensures.hand)

pub returns-clause-model : goal.returns-clause-model
returns-clause-model c =
    let inside = subst (λ (v : WorldOf). FieldsInRange (sizes_of v.program.config) c.args.fields.now) (sym c.self.view_is) c.requires.inside in
    rw (← c.self.view_is) (refreshed_world c.self.inside c.self.invariant c.args.fields.now inside c.refresh.new.core.group c.refresh.new.hand c.refresh.new.report c.refresh.ensures.group c.refresh.ensures.hand)

pub returns-clause-well : goal.returns-clause-well
returns-clause-well c = c.holds.ensures.well (Refresh c.args.fields.now ∷ [])
