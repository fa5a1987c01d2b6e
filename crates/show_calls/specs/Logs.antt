-- What is known of a trace's calls after each of its events (own rules).
use Rattle.std.specs.Prelude.{ℕ, zero, suc, ◌+◌, ◌-◌, nat_lt, Bool, true, false, List, [], ◌∷◌, ◌++◌, slice_get, slice_set, Option, Some, None, ◌==◌, ◌&&◌, if◌then◌else◌}
use Rattle.group_spec.specs.declared.calls.Answer.{Answer}
use Rattle.group_spec.specs.declared.calls.Answer.TheVariants.{Done, Stale, NotYours, NoSlot}
use Rattle.group_spec.specs.declared.calls.Call.{Call}
use Rattle.group_spec.specs.declared.calls.Slot.{Slot}
use Rattle.group_spec.specs.declared.calls.Slot.TheVariants.{Free, Waiting, Told as ToldSlot}
use Rattle.group_spec.specs.declared.image.CarFields.{CarFields}
use Rattle.group_spec.specs.declared.report.Answered.{Answered}
use Rattle.group_spec.specs.declared.report.EnteredCall.{EnteredCall}
use Rattle.group_spec.specs.declared.report.Report.{Report}
use Rattle.group_spec.specs.declared.trace.TraceEvent.{TraceEvent}
use Rattle.group_spec.specs.declared.trace.TraceEvent.TheVariants as traced
use Rattle.group_spec.specs.Replies.{Reply, New, Committed, Refreshed}
use Rattle.group_spec.specs.World.{World}
use Rattle.show_calls.specs.declared.journey.Journey.{Journey}
use Rattle.show_calls.specs.declared.journey.Moment.{Moment}
use Rattle.show_calls.specs.declared.log.Log.{Log}
use Rattle.show_calls.specs.Presses.{first_pressed, without_first}

-- before the first event: round 0
abbrev pub empty_log : Log
empty_log = record { at = record { round = 0; now = 0 }; pressed = 0; pending = []; journeys = [] }

-- PRESSES

-- A press counts. One that puts its call on the desk waits for the refresh that enters it; it belongs to the round of the next refresh.
abbrev pub pressed_in : Bool → Call → Log → Log
pressed_in true call log = record log { pressed = log.pressed + 1; pending = log.pending ++ record { call = call; round = log.at.round + 1 } ∷ [] }
pressed_in false call log = record log { pressed = log.pressed + 1 }

-- REFRESHES

-- a journey as it begins, under this press
abbrev pub beginning : Moment → Option ℕ → EnteredCall → Journey
beginning at pressed entered =
    record { ticket = entered.ticket; call = entered.call; pressed = pressed; entered = at; told = None; boarded = None; served = None }

-- A call enters, under its first press that no earlier entry has used.
abbrev pub entered_in : EnteredCall → Log → Log
entered_in entered log =
    record log {
      pending = without_first entered.call log.pending;
      journeys = log.journeys ++ beginning log.at (first_pressed entered.call log.pending) entered ∷ [];
    }

abbrev pub all_entered_in : List EnteredCall → Log → Log
all_entered_in [] log = log
all_entered_in (entered ∷ calls) log = all_entered_in calls (entered_in entered log)

-- The place of a ticket. Tickets rise by one in the order in which calls enter. The first of a trace that goes on from another is not 1, and the tickets of
-- calls that entered before have no place.
abbrev pub place_of : ℕ → List Journey → Option ℕ
place_of ticket [] = None
place_of ticket (first ∷ journeys) = if nat_lt ticket first.ticket then None else Some (ticket - first.ticket)

-- the journey of a place
abbrev pub journey_in : Option ℕ → List Journey → Option Journey
journey_in None journeys = None
journey_in (Some place) journeys = slice_get journeys place

-- the journey of a ticket
abbrev pub journey_at : ℕ → List Journey → Option Journey
journey_at ticket journeys = journey_in (place_of ticket journeys) journeys

-- the journeys with another one in a place
abbrev pub with_in : Option ℕ → Journey → List Journey → List Journey
with_in None journey journeys = journeys
with_in (Some place) journey journeys = slice_set journeys place journey

-- the journeys with another one under a ticket
abbrev pub with_journey : ℕ → Journey → List Journey → List Journey
with_journey ticket journey journeys = with_in (place_of ticket journeys) journey journeys

-- whether a car stands at a floor with its door wholly open; cars count from 1
abbrev pub stands_open : ℕ → Option CarFields → Bool
stands_open floor None = false
stands_open floor (Some fields) = fields.pos == floor && (fields.level && fields.opened)

abbrev pub fields_of : ℕ → List CarFields → Option CarFields
fields_of zero cars = None
fields_of (suc k) cars = slice_get cars k

-- a journey whose passenger has boarded, the first time
abbrev pub boarded_first : Moment → Journey → Option Moment → Journey
boarded_first at journey None = record journey { boarded = Some at }
boarded_first at journey (Some earlier) = journey

abbrev pub boarded_under : ℕ → Moment → List Journey → Option Journey → List Journey
boarded_under ticket at journeys None = journeys
boarded_under ticket at journeys (Some journey) = with_journey ticket (boarded_first at journey journey.boarded) journeys

-- A slot whose car stands at the landing with its door wholly open: its passenger boards.
abbrev pub boarded_from : Moment → List CarFields → Slot → List Journey → List Journey
boarded_from at cars Free journeys = journeys
boarded_from at cars (Waiting ticket call) journeys = journeys
boarded_from at cars (ToldSlot ticket call car) journeys =
    if stands_open call.from (fields_of car cars) then boarded_under ticket at journeys (journey_at ticket journeys) else journeys

abbrev pub all_boarded_from : Moment → List CarFields → List Slot → List Journey → List Journey
all_boarded_from at cars [] journeys = journeys
all_boarded_from at cars (slot ∷ slots) journeys = all_boarded_from at cars slots (boarded_from at cars slot journeys)

-- the log once those of the slots have boarded whose car stands there
abbrev pub boarded_in : List CarFields → List Slot → Log → Log
boarded_in cars slots log = record log { journeys = all_boarded_from log.at cars slots log.journeys }

-- the log as a round begins
abbrev pub in_next_round : ℕ → Log → Log
in_next_round now log = record log { at = record { round = log.at.round + 1; now = now } }

-- A refresh begins a round. It enters calls, and those board whose car stands at their landing with its door wholly open.
abbrev pub refreshed_in : ℕ → List EnteredCall → List CarFields → List Slot → Log → Log
refreshed_in now entered cars slots log = boarded_in cars slots (all_entered_in entered (in_next_round now log))

-- COMMITS

abbrev pub told_under : ℕ → ℕ → ℕ → List Journey → Option Journey → List Journey
told_under ticket round car journeys None = journeys
told_under ticket round car journeys (Some journey) = with_journey ticket (record journey { told = Some (record { round = round; car = car }) }) journeys

-- a tell that was done
abbrev pub told_by : ℕ → Answer → Option ℕ → ℕ → List Journey → List Journey
told_by round Done (Some ticket) car journeys = told_under ticket round car journeys (journey_at ticket journeys)
told_by round Done None car journeys = journeys
told_by round Stale ticket car journeys = journeys
told_by round NotYours ticket car journeys = journeys
told_by round NoSlot ticket car journeys = journeys

abbrev pub all_told_by : ℕ → List Answered → List Journey → List Journey
all_told_by round [] journeys = journeys
all_told_by round (a ∷ answers) journeys = all_told_by round answers (told_by round a.answer a.ticket a.car journeys)

-- a journey that has ended: its car is at the destination with its door wholly open, or not
abbrev pub served_to : Moment → Option CarFields → Journey → Journey
served_to at fields journey = record journey { served = Some (record { at = at; there = stands_open journey.call.to fields }) }

abbrev pub served_under : ℕ → Moment → Option CarFields → List Journey → Option Journey → List Journey
served_under ticket at fields journeys None = journeys
served_under ticket at fields journeys (Some journey) = with_journey ticket (served_to at fields journey) journeys

-- a serve that was done
abbrev pub served_by : Moment → List CarFields → Answer → Option ℕ → ℕ → List Journey → List Journey
served_by at cars Done (Some ticket) car journeys = served_under ticket at (fields_of car cars) journeys (journey_at ticket journeys)
served_by at cars Done None car journeys = journeys
served_by at cars Stale ticket car journeys = journeys
served_by at cars NotYours ticket car journeys = journeys
served_by at cars NoSlot ticket car journeys = journeys

abbrev pub all_served_by : Moment → List CarFields → List Answered → List Journey → List Journey
all_served_by at cars [] journeys = journeys
all_served_by at cars (a ∷ answers) journeys = all_served_by at cars answers (served_by at cars a.answer a.ticket a.car journeys)

-- A commit of GROUP tells calls, and one of a car serves one.
abbrev pub committed_in : ℕ → List Answered → List CarFields → Log → Log
committed_in zero answers cars log = record log { journeys = all_told_by log.at.round answers log.journeys }
committed_in (suc k) answers cars log = record log { journeys = all_served_by log.at cars answers log.journeys }

-- EVENTS

-- whether a press put its call on the desk
abbrev pub is_new : Reply → Bool
is_new New = true
is_new _ = false

-- the calls that a refresh entered
abbrev pub entered_of : Reply → List EnteredCall
entered_of (Refreshed report) = report.entered
entered_of _ = []

-- the tells or the serve of a commit
abbrev pub answers_of : Reply → List Answered
answers_of (Committed report) = report.answers
answers_of _ = []

-- what is known after an event, by what the world replied to it and how it follows it
abbrev pub log_after : TraceEvent → Reply → World → Log → Log
log_after (traced.Start t) reply after log = log
log_after (traced.Commit t) reply after log = committed_in t (answers_of reply) after.group.image.fields.cars log
log_after (traced.Press call) reply after log = pressed_in (is_new reply) call log
log_after (traced.Gather floor) reply after log = log
log_after (traced.Refresh fields) reply after log = refreshed_in fields.time (entered_of reply) fields.cars after.group.calls.slots log
