use Rattle.std.proofs.Common.{subst}
use Rattle.group_spec.specs.declared.image.Sizes.{Sizes}
use Rattle.trace_text.specs.Fronts.{RefusesFront}
use Rattle.trace_text.specs.Reading.{ReadsFront}
use Rattle.group_state.specs.Beginnings.{events_text}
use Rattle.group_state.proofs.Beginning.{few_events, cut_fits, fault_behind_fits, eventless}
use Rattle.group_state.proofs.begin.follow.Goals as goal

pub moved-requires-clause-room : goal.moved-requires-clause-room
moved-requires-clause-room c = cut_fits c.sizes.result.cars c.args.begun.lines c.args.begun.rest.now c.in-Ok.field-0.events c.in-Ok.field-0.cut c.requires.lines c.requires.room c.in-Ok.ensures

pub fault_of-requires-clause-room : goal.fault_of-requires-clause-room
fault_of-requires-clause-room c = fault_behind_fits c.sizes.result.cars c.args.begun.lines c.args.begun.rest.now c.in-Err.fault c.requires.room c.in-Err.ensures

pub returns-in_ok-world-in-Ok-clause-events : goal.returns-in_ok-world-in-Ok-clause-events
returns-in_ok-world-in-Ok-clause-events c =
    let front = c.in-Ok.field-0 in
    (front.cut, subst (λ (s : Sizes). ReadsFront s.cars (events_text c.args.begun.rest.now) front.events front.cut) c.sizes.ensures c.in-Ok.ensures, c.moved.ensures)

pub returns-in_ok-world-in-Ok-clause-few : goal.returns-in_ok-world-in-Ok-clause-few
returns-in_ok-world-in-Ok-clause-few c = few_events c.sizes.result.cars c.args.begun.lines c.args.begun.rest.now c.in-Ok.field-0.events c.in-Ok.field-0.cut c.requires.room c.in-Ok.ensures

pub returns-in-Err-clause-fault : goal.returns-in-Err-clause-fault
returns-in-Err-clause-fault c =
    eventless _ c.args.begun.lines c.args.begun.rest.now c.in-Err.fault c.fault_of.result
    (subst (λ (s : Sizes). RefusesFront s.cars (events_text c.args.begun.rest.now) c.in-Err.fault) c.sizes.ensures c.in-Err.ensures) c.fault_of.ensures
