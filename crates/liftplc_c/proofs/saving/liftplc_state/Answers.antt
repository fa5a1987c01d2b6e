use Rattle.std.proofs.Common.{rules, ◌≡◌, subst}
use Rattle.group_world.specs.Worlds.{WorldOf}
use Rattle.liftplc_c.specs.States.{whole_state, IsTooShort, StandsIn}
use Rattle.liftplc_c.proofs.saving.liftplc_state.Goals as goal

pub returns-clause-done : goal.returns-clause-done
returns-clause-done c zero =
    let w = c.in-Some.rounds.value.world in
    let from : c.deref.result.now.world ≡ w = search rules in
    (w, c.in-Some.ensures.some, subst (λ (x : WorldOf). StandsIn c.args.state.now c.save-status.new.state c.save-status.new.length (whole_state c.args.text.now x)) from (c.save-status.ensures.done zero))

pub returns-clause-short : goal.returns-clause-short
returns-clause-short c eleven =
    let w = c.in-Some.rounds.value.world in
    let from : c.deref.result.now.world ≡ w = search rules in
    (w, c.in-Some.ensures.some, subst (λ (x : WorldOf). IsTooShort c.args.state.now c.save-status.new.state c.save-status.new.length (whole_state c.args.text.now x)) from (c.save-status.ensures.short eleven))
