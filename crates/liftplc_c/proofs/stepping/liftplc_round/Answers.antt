use Rattle.std.proofs.Common.{rules, ◌≡◌, Some, subst}
use Rattle.group_world.specs.Worlds.{WorldOf}
use Rattle.liftplc_c.specs.Inputs.{fields_of}
use Rattle.liftplc_c.specs.Rounds.{GoesRound}
use Rattle.liftplc_c.proofs.stepping.liftplc_round.Goals as goal

pub returns-then-done-clause-round : goal.returns-then-done-clause-round
returns-then-done-clause-round c _ =
    let w = c.in-Some.rounds.value.world in
    let v = c.step-done.new.rounds.world in
    let from : c.deref_mut.result.now.world ≡ w = search rules in
    let at : c.put.new.self.held.world ≡ Some v = search rules in
    (w, v, c.in-Some.ensures.some, at, subst (λ (x : WorldOf). GoesRound (fields_of c.args.fields.now) x v c.step-done.new.outputs) from (c.step-done.ensures.round c.if-done.true))
