-- Call slots and their tickets (own rules).
use Rattle.std.specs.Prelude.{◌≡◌, ℕ, zero, suc, ◌+◌, ◌≤◌, false, List, [], ◌∷◌, ◌++◌, slice_get, slice_set, replicate, Option, Some, None, ◌==◌, if◌then◌else◌}
use Rattle.group_spec.specs.declared.image.Sizes.{Sizes}
use Rattle.group_spec.specs.declared.calls.Call.{Call}
use Rattle.group_spec.specs.declared.calls.Slot.{Slot}
use Rattle.group_spec.specs.declared.calls.Slot.TheVariants.{Free, Waiting, Told}
use Rattle.group_spec.specs.declared.calls.Answer.{Answer}
use Rattle.group_spec.specs.declared.calls.Answer.TheVariants.{Done, Stale, NotYours, NoSlot}
use Rattle.group_spec.specs.declared.calls.Entering.{Entering}
use Rattle.group_spec.specs.declared.calls.Entering.TheVariants.{Done as EntersAt, Kept}
use Rattle.group_spec.specs.declared.report.EnteredCall.{EnteredCall}
use Rattle.group_spec.specs.Image.{IsFloor}

-- the slots, slot 1 first, and the last ticket that was given, 0 before the first
pub record Calls : Type 0 where
  pub slots : List Slot
  pub last_ticket : ℕ

-- how the calls open: each slot is Free, and no ticket is out (own rule)
abbrev pub opening_calls : Sizes → Calls
opening_calls sizes = record { slots = replicate sizes.slots Free; last_ticket = 0 }

-- after this ticket no call is entered
abbrev pub greatest_ticket : ℕ
greatest_ticket = 9223372036854775807

-- a call of the group
pub record IsCall (sizes : Sizes) (call : Call) : Type 0 where
  pub from : IsFloor sizes call.from
  pub to : IsFloor sizes call.to
  pub differs : (call.from == call.to) ≡ false

-- a slot holds a call and a car of the group, under a ticket that was given
abbrev pub SlotInRange : Sizes → ℕ → Slot → Type 0
SlotInRange sizes last Free = Unit {0}
SlotInRange sizes last (Waiting ticket call) = IsCall sizes call × (1 ≤ ticket) × (ticket ≤ last)
SlotInRange sizes last (Told ticket call car) = IsCall sizes call × (1 ≤ ticket) × (ticket ≤ last) × (1 ≤ car) × (car ≤ sizes.cars)

-- the ticket of a slot that isn't Free
abbrev pub ticket_of : Slot → Option ℕ
ticket_of Free = None
ticket_of (Waiting ticket call) = Some ticket
ticket_of (Told ticket call car) = Some ticket

-- the number of the lowest Free slot; the first slot given has this number
abbrev pub lowest_free_from : ℕ → List Slot → Option ℕ
lowest_free_from at [] = None
lowest_free_from at (Free ∷ slots) = Some at
lowest_free_from at (Waiting ticket call ∷ slots) = lowest_free_from (at + 1) slots
lowest_free_from at (Told ticket call car ∷ slots) = lowest_free_from (at + 1) slots

-- the slot that the next call enters: none where no slot is Free or no ticket is left
abbrev pub slot_for_next : Calls → Option ℕ
slot_for_next calls = if calls.last_ticket == greatest_ticket then None else lowest_free_from 1 calls.slots

-- the slots with another one at a number; slots count from 1
abbrev pub with_slot : List Slot → ℕ → Slot → List Slot
with_slot slots zero slot = slots
with_slot slots (suc k) slot = slice_set slots k slot

-- the slot of a number, which counts from 1 (own rule)
abbrev pub slot_at : List Slot → ℕ → Option Slot
slot_at slots zero = None
slot_at slots (suc k) = slice_get slots k

-- the calls once a call has entered a slot, under the next ticket
abbrev pub entered_at : Calls → ℕ → Call → Calls
entered_at calls slot call =
    record { slots = with_slot calls.slots slot (Waiting (calls.last_ticket + 1) call); last_ticket = calls.last_ticket + 1 }

-- a call enters a slot under the next ticket, or stays in the hand where no slot is Free (own rule)
abbrev pub enter_into : Calls → Call → Option ℕ → Calls × Entering
enter_into calls call None = (calls, Kept)
enter_into calls call (Some slot) = (entered_at calls slot call, EntersAt slot (calls.last_ticket + 1))

-- one call enters the lowest Free slot, under the next ticket, or stays in the hand
unfoldable pub enter : Calls → Call → Calls × Entering
enter calls call = enter_into calls call (slot_for_next calls)

-- what entering all calls of a hand leaves, and what it did
pub record Entered : Type 0 where
  pub calls : Calls
  pub hand : List Call
  pub done : List EnteredCall

-- the calls of the hand enter in its order, (from, to); from the first without a slot on they stay
abbrev pub enter_all : Calls → List EnteredCall → List Call → Entered
enter_all calls done [] = record { calls = calls; hand = []; done = done }
enter_all calls done (call ∷ hand) =
    elim (slot_for_next calls) [
      | None ↦ record { calls = calls; hand = call ∷ hand; done = done }
      | Some slot ↦ enter_all (entered_at calls slot call) (done ++ record { slot = slot; ticket = calls.last_ticket + 1; call = call } ∷ []) hand
    ]

-- the calls once the answer is Done, and otherwise as they were
abbrev pub told_at : Calls → ℕ → ℕ → ℕ → Option Slot → Calls × Answer
told_at calls slot ticket car None = (calls, NoSlot)
told_at calls slot ticket car (Some Free) = (calls, Stale)
told_at calls slot ticket car (Some (Told other call told)) = (calls, Stale)
told_at calls slot ticket car (Some (Waiting other call)) =
    if other == ticket then (record { slots = with_slot calls.slots slot (Told ticket call car); last_ticket = calls.last_ticket }, Done) else (calls, Stale)

-- a tell acts exactly where the slot waits under this ticket
unfoldable pub tell : Calls → ℕ → ℕ → ℕ → Calls × Answer
tell calls slot ticket car = told_at calls slot ticket car (slot_at calls.slots slot)

-- what a serve does to the slot that is there (own rule)
abbrev pub served_at : Calls → ℕ → ℕ → ℕ → Option Slot → Calls × Answer
served_at calls slot ticket car None = (calls, NoSlot)
served_at calls slot ticket car (Some Free) = (calls, Stale)
served_at calls slot ticket car (Some (Waiting other call)) = (calls, Stale)
served_at calls slot ticket car (Some (Told other call told)) =
    if other == ticket
    then (if told == car then (record { slots = with_slot calls.slots slot Free; last_ticket = calls.last_ticket }, Done) else (calls, NotYours))
    else (calls, Stale)

-- a serve frees exactly a slot that is told to this car under this ticket
unfoldable pub serve : Calls → ℕ → ℕ → ℕ → Calls × Answer
serve calls slot ticket car = served_at calls slot ticket car (slot_at calls.slots slot)

-- the car to which a slot is told under a ticket, if there is one
abbrev pub told_car : ℕ → List Slot → Option ℕ
told_car ticket [] = None
told_car ticket (Free ∷ slots) = told_car ticket slots
told_car ticket (Waiting other call ∷ slots) = told_car ticket slots
told_car ticket (Told other call car ∷ slots) = if other == ticket then Some car else told_car ticket slots
