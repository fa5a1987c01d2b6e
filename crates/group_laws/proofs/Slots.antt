-- Call slots stay in their ranges.
use Rattle.std.proofs.Common.{◌≡◌, ℕ, zero, suc, ◌+◌, ◌≤◌, ◌⊎◌, inl, inr, Bool, true, false, ◌==◌, List, [], ◌∷◌, ◌++◌, length, slice_get, slice_set, refl, sym, ap, ◌∙◌, subst, Some, None, Option, All, if◌then◌else◌, arith, eqb-true}
use Rattle.std.proofs.lemmas.List.Elements.{All-head, All-tail, All-weaker}
use Rattle.group_spec.specs.declared.image.Sizes.{Sizes}
use Rattle.group_spec.specs.declared.calls.Call.{Call}
use Rattle.group_spec.specs.declared.calls.Slot.{Slot}
use Rattle.group_spec.specs.declared.calls.Slot.TheVariants.{Free, Waiting, Told}
use Rattle.group_spec.specs.declared.calls.Answer.{Answer}
use Rattle.group_spec.specs.declared.report.Answered.{Answered}
use Rattle.group_spec.specs.declared.calls.Answer.TheVariants.{Done, Stale, NotYours}
use Rattle.group_spec.specs.declared.report.EnteredCall.{EnteredCall}
use Rattle.group_spec.specs.Calls.{ticket_of, Calls, IsCall, SlotInRange, greatest_ticket, with_slot, slot_at, told_at, tell, served_at, serve, slot_for_next, lowest_free_from, entered_at, Entered, enter_all}
use Rattle.group_spec.specs.World.{flat, tell_with, serve_with, tell_all, serve_wish}
use Rattle.group_laws.specs.Holding.{ticket_at, TicketsHold, IsSetOf}
use Rattle.group_laws.proofs.Lists.{false_true, length_set, all_set, all_get, same_or_other}

-- the slots are as many as the group has, each in its range, and a ticket is left or was the last
pub record CallsHold (sizes : Sizes) (calls : Calls) : Type 0 where
  pub slots : length calls.slots ≡ sizes.slots
  pub each : All (SlotInRange sizes calls.last_ticket) calls.slots
  pub tickets : TicketsHold calls

-- TICKETS

ticket_there : (slots : List Slot) (k : ℕ) (slot : Slot) → slice_get slots k ≡ Some slot → ticket_at slots k ≡ ticket_of slot
ticket_there [] k slot e = cc
ticket_there (x ∷ slots) zero slot e = let same : x ≡ slot = cc in ap ticket_of same
ticket_there (x ∷ slots) (suc k) slot e = ticket_there slots k slot e

ticket_set : (slots : List Slot) (k n : ℕ) (slot : Slot) → ticket_at (slice_set slots k slot) k ≡ Some n → ticket_of slot ≡ Some n
ticket_set [] k n slot e = cc
ticket_set (x ∷ slots) zero n slot e = e
ticket_set (x ∷ slots) (suc k) n slot e = ticket_set slots k n slot e

ticket_other : (slots : List Slot) (k j : ℕ) (slot : Slot) → (j ≡ k → ⊥) → ticket_at (slice_set slots k slot) j ≡ ticket_at slots j
ticket_other [] k j slot h = refl
ticket_other (x ∷ slots) zero zero slot h = absurd (h refl)
ticket_other (x ∷ slots) zero (suc j) slot h = refl
ticket_other (x ∷ slots) (suc k) zero slot h = refl
ticket_other (x ∷ slots) (suc k) (suc j) slot h = ticket_other slots k j slot (λ e. h (ap suc e))

ticket_below : (sizes : Sizes) (last : ℕ) (slots : List Slot) (j n : ℕ) → All (SlotInRange sizes last) slots → ticket_at slots j ≡ Some n → n ≤ last
ticket_below sizes last [] j n each e = cc
ticket_below sizes last (x ∷ slots) zero n each e = by x (All-head (SlotInRange sizes last) x slots each) e
  where
    by : (slot : Slot) → SlotInRange sizes last slot → ticket_of slot ≡ Some n → n ≤ last
    by Free h e = cc
    by (Waiting ticket call) h e = let same : ticket ≡ n = cc in omega (arith, same, h.2)
    by (Told ticket call car) h e = let same : ticket ≡ n = cc in omega (arith, same, h.2)
ticket_below sizes last (x ∷ slots) (suc j) n each e = ticket_below sizes last slots j n (All-tail (SlotInRange sizes last) x slots each) e

-- no two slots are under one ticket
abbrev AreDistinct : List Slot → Type 0
AreDistinct slots = (i j n : ℕ) → ticket_at slots i ≡ Some n → ticket_at slots j ≡ Some n → i ≡ j

-- nor after a write of a slot under a ticket that no other is under
distinct_set : (slots : List Slot) (k : ℕ) (slot : Slot) → AreDistinct slots → ((j n : ℕ) → (j ≡ k → ⊥) → ticket_of slot ≡ Some n → ticket_at slots j ≡ Some n → ⊥) → AreDistinct (slice_set slots k slot)
distinct_set slots k slot old new i j n at_i at_j = by (same_or_other i k) (same_or_other j k)
  where
    at : (l : ℕ) → l ≡ k → ticket_at (slice_set slots k slot) l ≡ Some n → ticket_of slot ≡ Some n
    at l same e = ticket_set slots k n slot (subst (λ m. ticket_at (slice_set slots k slot) m ≡ Some n) same e)

    by : ((i ≡ k) × ((i == k) ≡ true)) ⊎ ((i ≡ k → ⊥) × ((i == k) ≡ false)) → ((j ≡ k) × ((j == k) ≡ true)) ⊎ ((j ≡ k → ⊥) × ((j == k) ≡ false)) → i ≡ j
    by (inl a) (inl b) = a.0 ∙ sym b.0
    by (inl a) (inr b) = absurd (new j n b.0 (at i a.0 at_i) (sym (ticket_other slots k j slot b.0) ∙ at_j))
    by (inr a) (inl b) = absurd (new i n a.0 (at j b.0 at_j) (sym (ticket_other slots k i slot a.0) ∙ at_i))
    by (inr a) (inr b) = old i j n (sym (ticket_other slots k i slot a.0) ∙ at_i) (sym (ticket_other slots k j slot b.0) ∙ at_j)

distinct_with : (slots : List Slot) (k : ℕ) (slot : Slot) → AreDistinct slots → ((j n : ℕ) → (suc j ≡ k → ⊥) → ticket_of slot ≡ Some n → ticket_at slots j ≡ Some n → ⊥) → AreDistinct (with_slot slots k slot)
distinct_with slots zero slot old new = old
distinct_with slots (suc k) slot old new = distinct_set slots k slot old (λ j n other. new j n (λ e. other (omega (arith, e))))

-- a write of a slot in range, under a ticket that no other is under
with_slot_holds : (sizes : Sizes) (calls : Calls) (k last : ℕ) (slot : Slot) → length calls.slots ≡ sizes.slots → All (SlotInRange sizes last) calls.slots → last ≤ greatest_ticket → AreDistinct (with_slot calls.slots k slot) → SlotInRange sizes last slot
    → CallsHold sizes (record { slots = with_slot calls.slots k slot; last_ticket = last })
with_slot_holds sizes calls zero last slot long each most distinct h = record { slots = long; each = each; tickets = record { last = most; distinct = distinct } }
with_slot_holds sizes calls (suc k) last slot long each most distinct h =
    record { slots = length_set calls.slots k slot ∙ long; each = all_set (SlotInRange sizes last) calls.slots k slot h each; tickets = record { last = most; distinct = distinct } }

-- another slot isn't under the ticket of this one
other_ticket : (slots : List Slot) (k ticket : ℕ) (slot : Slot) → AreDistinct slots → slot_at slots k ≡ Some slot → ticket_of slot ≡ Some ticket → (j n : ℕ) → (suc j ≡ k → ⊥) → n ≡ ticket → ticket_at slots j ≡ Some n → ⊥
other_ticket slots zero ticket slot distinct e is j n other same there = cc
other_ticket slots (suc k) ticket slot distinct e is j n other same there = other (ap suc (distinct j k ticket (there ∙ ap Some same) (ticket_there slots k slot e ∙ is)))

-- the slot of a number is in its range
slot_holds : (sizes : Sizes) (calls : Calls) (k : ℕ) (slot : Slot) → CallsHold sizes calls → slot_at calls.slots k ≡ Some slot → SlotInRange sizes calls.last_ticket slot
slot_holds sizes calls zero slot h e = cc
slot_holds sizes calls (suc k) slot h e = all_get (SlotInRange sizes calls.last_ticket) calls.slots k slot h.each e

-- TELLS

of_some : (a b : ℕ) → Some a ≡ Some b → a ≡ b
of_some a b e = cc

told_by : (sizes : Sizes) (calls : Calls) (slot ticket car other : ℕ) (call : Call) (b : Bool) → CallsHold sizes calls → 1 ≤ car → car ≤ sizes.cars → slot_at calls.slots slot ≡ Some (Waiting other call) → (other == ticket) ≡ b
    → CallsHold sizes (let answered : Calls × Answer = if b then (record { slots = with_slot calls.slots slot (Told ticket call car); last_ticket = calls.last_ticket }, Done) else (calls, Stale) in answered.0)
told_by sizes calls slot ticket car other call false h one most stands e = h
told_by sizes calls slot ticket car other call true h one most stands e =
    let same : other ≡ ticket = eqb-true other ticket e in
    let there : SlotInRange sizes calls.last_ticket (Waiting other call) = slot_holds sizes calls slot (Waiting other call) h stands in
    let distinct : AreDistinct (with_slot calls.slots slot (Told ticket call car)) =
    distinct_with calls.slots slot (Told ticket call car) h.tickets.distinct (λ j n apart is. let new : n ≡ other = sym (of_some ticket n is) ∙ sym same in other_ticket calls.slots slot other (Waiting other call) h.tickets.distinct stands refl j n apart new) in
    with_slot_holds sizes calls slot calls.last_ticket (Told ticket call car) h.slots h.each h.tickets.last distinct (there.0, omega (arith, same, there.1), omega (arith, same, there.2), one, most)

told_holds : (sizes : Sizes) (calls : Calls) (slot ticket car : ℕ) (o : Option Slot) → CallsHold sizes calls → 1 ≤ car → car ≤ sizes.cars → slot_at calls.slots slot ≡ o → CallsHold sizes (told_at calls slot ticket car o).0
told_holds sizes calls slot ticket car None h one most e = h
told_holds sizes calls slot ticket car (Some Free) h one most e = h
told_holds sizes calls slot ticket car (Some (Told other call told)) h one most e = h
told_holds sizes calls slot ticket car (Some (Waiting other call)) h one most e = told_by sizes calls slot ticket car other call (other == ticket) h one most e refl

tell_holds : (sizes : Sizes) (calls : Calls) (slot ticket car : ℕ) → CallsHold sizes calls → 1 ≤ car → car ≤ sizes.cars → CallsHold sizes (tell calls slot ticket car).0
unfolding tell
tell_holds sizes calls slot ticket car h one most = told_holds sizes calls slot ticket car (slot_at calls.slots slot) h one most refl

tell_with_holds : (sizes : Sizes) (calls : Calls) (slot car : ℕ) (ticket : Option ℕ) → CallsHold sizes calls → 1 ≤ car → car ≤ sizes.cars → CallsHold sizes (tell_with calls slot car ticket).0
tell_with_holds sizes calls slot car None h one most = h
tell_with_holds sizes calls slot car (Some ticket) h one most = tell_holds sizes calls slot ticket car h one most

-- all tells of a group's commit, of cars of the group
pub tell_all_holds : (sizes : Sizes) (tickets : List (Option ℕ)) (cars : List ℕ) (calls : Calls) (answers : List Answered) (slot : ℕ) → CallsHold sizes calls → All (λ car. car ≤ sizes.cars) cars → CallsHold sizes (tell_all calls answers slot tickets cars).0
tell_all_holds sizes [] cars calls answers slot h most = h
tell_all_holds sizes (ticket ∷ tickets) [] calls answers slot h most = h
tell_all_holds sizes (ticket ∷ tickets) (zero ∷ cars) calls answers slot h most = tell_all_holds sizes tickets cars calls answers (slot + 1) h (All-tail (λ car. car ≤ sizes.cars) zero cars most)
tell_all_holds sizes (ticket ∷ tickets) (suc car ∷ cars) calls answers slot h most =
    tell_all_holds sizes tickets cars _ _ (slot + 1) (tell_with_holds sizes calls slot (suc car) ticket h (omega arith) (All-head (λ car. car ≤ sizes.cars) (suc car) cars most)) (All-tail (λ car. car ≤ sizes.cars) (suc car) cars most)

-- SERVES

none_some : {A : Type 0} (n : ℕ) → None ≡ Some n → A
none_some n e = cc

served_by : (sizes : Sizes) (calls : Calls) (slot : ℕ) (a b : Bool) → CallsHold sizes calls
    → CallsHold sizes (let answered : Calls × Answer = if a then (if b then (record { slots = with_slot calls.slots slot Free; last_ticket = calls.last_ticket }, Done) else (calls, NotYours)) else (calls, Stale) in answered.0)
served_by sizes calls slot false b h = h
served_by sizes calls slot true false h = h
served_by sizes calls slot true true h = with_slot_holds sizes calls slot calls.last_ticket Free h.slots h.each h.tickets.last (distinct_with calls.slots slot Free h.tickets.distinct (λ j n apart is. none_some n is)) tt

served_holds : (sizes : Sizes) (calls : Calls) (slot ticket car : ℕ) (o : Option Slot) → CallsHold sizes calls → CallsHold sizes (served_at calls slot ticket car o).0
served_holds sizes calls slot ticket car None h = h
served_holds sizes calls slot ticket car (Some Free) h = h
served_holds sizes calls slot ticket car (Some (Waiting other call)) h = h
served_holds sizes calls slot ticket car (Some (Told other call told)) h = served_by sizes calls slot (other == ticket) (told == car) h

serve_with_holds : (sizes : Sizes) (calls : Calls) (slot car : ℕ) (o : Option ℕ) → CallsHold sizes calls → CallsHold sizes (serve_with calls slot car o).0
unfolding serve
serve_with_holds sizes calls slot car None h = h
serve_with_holds sizes calls slot car (Some ticket) h = served_holds sizes calls slot ticket car (slot_at calls.slots slot) h

-- what a car serves
pub serve_wish_holds : (sizes : Sizes) (calls : Calls) (car : ℕ) (tickets : List (Option ℕ)) (wish : ℕ) → CallsHold sizes calls → CallsHold sizes (serve_wish calls car tickets wish).0
serve_wish_holds sizes calls car tickets zero h = h
serve_wish_holds sizes calls car tickets (suc slot) h = serve_with_holds sizes calls (suc slot) car (flat (slice_get tickets slot)) h

-- ENTERING

more_tickets : (sizes : Sizes) (last : ℕ) (slot : Slot) → SlotInRange sizes last slot → SlotInRange sizes (last + 1) slot
more_tickets sizes last Free h = tt
more_tickets sizes last (Waiting ticket call) h = (h.0, h.1, omega (arith, h.2))
more_tickets sizes last (Told ticket call car) h = (h.0, h.1, omega (arith, h.2), h.3, h.4)

-- a ticket is left where a call enters
ticket_left : (calls : Calls) (slot : ℕ) (b : Bool) → (calls.last_ticket == greatest_ticket) ≡ b → (if b then None else lowest_free_from 1 calls.slots) ≡ Some slot → (calls.last_ticket ≡ greatest_ticket) → ⊥
ticket_left calls slot true is e same = cc
ticket_left calls slot false is e same = let test : (calls.last_ticket == greatest_ticket) ≡ true = ap (λ n. n == greatest_ticket) same in false_true (sym is ∙ test)

entered_holds : (sizes : Sizes) (calls : Calls) (slot : ℕ) (call : Call) → CallsHold sizes calls → IsCall sizes call → slot_for_next calls ≡ Some slot → CallsHold sizes (entered_at calls slot call)
entered_holds sizes calls slot call h is e =
    let left : calls.last_ticket ≡ greatest_ticket → ⊥ = ticket_left calls slot (calls.last_ticket == greatest_ticket) refl e in
    let room : calls.last_ticket + 1 ≤ greatest_ticket = below calls.last_ticket greatest_ticket h.tickets.last left in
    let distinct : AreDistinct (with_slot calls.slots slot (Waiting (calls.last_ticket + 1) call)) =
    distinct_with calls.slots slot (Waiting (calls.last_ticket + 1) call) h.tickets.distinct
    (λ j n apart is_new there. let new : calls.last_ticket + 1 ≡ n = of_some (calls.last_ticket + 1) n is_new in let old : n ≤ calls.last_ticket = ticket_below sizes calls.last_ticket calls.slots j n h.each there in omega (arith, new, old)) in
    with_slot_holds sizes calls slot (calls.last_ticket + 1) (Waiting (calls.last_ticket + 1) call) h.slots
    (All-weaker (SlotInRange sizes calls.last_ticket) (SlotInRange sizes (calls.last_ticket + 1)) (more_tickets sizes calls.last_ticket) calls.slots h.each) room distinct (is, omega arith, omega arith)
  where
    below : (a b : ℕ) → a ≤ b → (a ≡ b → ⊥) → a + 1 ≤ b
    below a b most other = omega (arith, most, other)

-- what a refresh leaves of slots and hand
pub record EntersWell (sizes : Sizes) (entered : Entered) : Type 0 where
  pub calls : CallsHold sizes entered.calls
  pub hand : IsSetOf sizes entered.hand

set_tail : (sizes : Sizes) (call : Call) (set : List Call) → IsSetOf sizes (call ∷ set) → IsSetOf sizes set
set_tail sizes call set h = record { each = All-tail (IsCall sizes) call set h.each; in_order = h.in_order.1 }

pub enter_all_holds : (sizes : Sizes) (hand : List Call) (calls : Calls) (done : List EnteredCall) → CallsHold sizes calls → IsSetOf sizes hand → EntersWell sizes (enter_all calls done hand)
enter_all_holds sizes [] calls done h all = record { calls = h; hand = all }
enter_all_holds sizes (call ∷ hand) calls done h all =
    by (slot_for_next calls) refl (λ slot e done. enter_all_holds sizes hand (entered_at calls slot call) done (entered_holds sizes calls slot call h (All-head (IsCall sizes) call hand all.each) e) (set_tail sizes call hand all))
  where
    by : (o : Option ℕ) → slot_for_next calls ≡ o → ((slot : ℕ) → slot_for_next calls ≡ Some slot → (done : List EnteredCall) → EntersWell sizes (enter_all (entered_at calls slot call) done hand)) → EntersWell sizes (elim o [
      | None ↦ record { calls = calls; hand = call ∷ hand; done = done }
      | Some slot ↦ enter_all (entered_at calls slot call) (done ++ record { slot = slot; ticket = calls.last_ticket + 1; call = call } ∷ []) hand
    ])
    by None e go = record { calls = h; hand = all }
    by (Some slot) e go = go slot e _
