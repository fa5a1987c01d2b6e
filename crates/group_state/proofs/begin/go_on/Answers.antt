use Rattle.std.proofs.Common.{ℕ, List, subst}
use Rattle.group_state.specs.Reading.{IsState, Explains}
use Rattle.group_state.specs.Walking.{begun_of}
use Rattle.group_state.proofs.Beginning.{ok_three, err_then, some_lines, few_lines, error_fits, follows, no_events_there, stateless}
use Rattle.group_state.proofs.begin.go_on.Goals as goal

pub follow-requires-clause-lines : goal.follow-requires-clause-lines
follow-requires-clause-lines c =
    let begun = begun_of c.in-Ok.begun in
    some_lines c.args.verified.config c.args.source.now c.args.text.now c.args.state.now c.requires begun
    (subst (λ (d : List ℕ). IsState c.args.verified.config d c.args.state.now begun) c.digest-digest.ensures c.in-Ok.ensures.state)

pub follow-requires-clause-room : goal.follow-requires-clause-room
follow-requires-clause-room c =
    let begun = begun_of c.in-Ok.begun in
    few_lines c.args.verified.config c.args.source.now c.args.text.now c.args.state.now c.requires begun
    (subst (λ (d : List ℕ). IsState c.args.verified.config d c.args.state.now begun) c.digest-digest.ensures c.in-Ok.ensures.state)

pub fault_of_state-requires : goal.fault_of_state-requires
fault_of_state-requires c =
    error_fits c.args.verified.config c.args.source.now c.args.text.now c.args.state.now c.requires c.config-config.ensures.runnable c.in-Err.error
    (subst (λ (d : List ℕ). Explains c.args.verified.config d c.args.state.now c.in-Err.error) c.digest-digest.ensures c.in-Err.ensures.wrong)

pub returns-in-Ok-clause-begins : goal.returns-in-Ok-clause-begins
returns-in-Ok-clause-begins c =
    let begun = begun_of c.in-Ok.begun in
    let state = subst (λ (d : List ℕ). IsState c.args.verified.config d c.args.state.now begun) c.digest-digest.ensures c.in-Ok.ensures.state in
    ok_three _ _ _ _ c.follow.result (λ b world lines events. follows c.args.verified.config c.args.source.now c.args.text.now c.args.state.now c.requires begun state b.world.world b.events b.lines b.cut world lines events)
    c.follow.ensures.world c.follow.ensures.lines c.follow.ensures.events

pub returns-in-Ok-clause-fault : goal.returns-in-Ok-clause-fault
returns-in-Ok-clause-fault c =
    let begun = begun_of c.in-Ok.begun in
    let state = subst (λ (d : List ℕ). IsState c.args.verified.config d c.args.state.now begun) c.digest-digest.ensures c.in-Ok.ensures.state in
    err_then _ _ c.follow.result (λ fault why. no_events_there c.args.verified.config c.args.source.now c.args.text.now c.args.state.now c.requires begun state fault why) c.follow.ensures.fault

pub returns-in-Err-clause-fault : goal.returns-in-Err-clause-fault
returns-in-Err-clause-fault c =
    stateless c.args.verified.config c.args.source.now c.args.text.now c.args.state.now c.requires c.in-Err.error c.fault_of_state.result
    (subst (λ (d : List ℕ). Explains c.args.verified.config d c.args.state.now c.in-Err.error) c.digest-digest.ensures c.in-Err.ensures.wrong) c.fault_of_state.ensures
