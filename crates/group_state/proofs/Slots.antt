-- Lines of call slots.
use Rattle.std.proofs.Common.{◌≡◌, ℕ, zero, suc, ◌+◌, ◌<◌, ◌≤◌, List, [], ◌∷◌, ◌++◌, length, get_or, refl, sym, ap, ◌∙◌, subst, append_assoc, append-nil, arith, Some}
use Rattle.std.specs.Prelude.{codes}
use Rattle.group_spec.specs.declared.calls.Call.{Call}
use Rattle.group_spec.specs.declared.calls.Slot.{Slot}
use Rattle.group_spec.specs.declared.calls.Slot.TheVariants.{Free, Waiting, Told}
use Rattle.group_spec.specs.declared.image.Sizes.{Sizes}
use Rattle.group_spec.specs.Calls.{greatest_ticket, ticket_of}
use Rattle.group_laws.specs.Holding.{ticket_at}
use Rattle.trace_text.specs.Text.{part}
use Rattle.trace_text.specs.Parts.{Ends}
use Rattle.trace_text.proofs.Numbers.{part_once}
use Rattle.trace_text.proofs.Bytes.{same_first, same_rest}
use Rattle.group_state.specs.Text.{slot_part, slot_line}
use Rattle.group_state.specs.Saying.{HasSmallFloors, HasSmallNumbers, SaysSlot, TakesSlot}
use Rattle.group_state.specs.Parts.{IsWaiting, IsTold}
use Rattle.group_state.specs.Heads.{TakesSlots}
use Rattle.group_state.proofs.Words.{cancel}

-- WHAT A SLOT HOLDS

-- a text that is of neither of three kinds is of no slot
pub none_held :
    (text : List ℕ) → (text ≡ slot_part Free → ⊥)
    → ((parts : List ℕ) (slot : Slot) → text ≡ codes " WAITING" ++ parts → IsWaiting parts slot → ⊥)
    → ((parts : List ℕ) (slot : Slot) → text ≡ codes " TOLD" ++ parts → IsTold parts slot → ⊥)
    → (slot : Slot) → HasSmallNumbers slot → text ≡ slot_part slot → ⊥
unfolding slot_part
none_held text free waiting told Free h e = free e
none_held text free waiting told (Waiting ticket call) h e = waiting (part ticket ++ (part call.from ++ part call.to)) (Waiting ticket call) e (h, refl)
none_held text free waiting told (Told ticket call car) h e = told (part ticket ++ (part call.from ++ (part call.to ++ part car))) (Told ticket call car) e (h, refl)

-- what is held of a slot that waits, and of one that is told
pub waiting_held : (text parts : List ℕ) (slot : Slot) → text ≡ codes " WAITING" ++ parts → IsWaiting parts slot → HasSmallNumbers slot × (text ≡ slot_part slot)
unfolding slot_part
waiting_held text parts Free e h = absurd h
waiting_held text parts (Waiting ticket call) e h = (h.0, e ∙ ap (λ (p : List ℕ). codes " WAITING" ++ p) h.1)
waiting_held text parts (Told ticket call car) e h = absurd h

pub told_held : (text parts : List ℕ) (slot : Slot) → text ≡ codes " TOLD" ++ parts → IsTold parts slot → HasSmallNumbers slot × (text ≡ slot_part slot)
unfolding slot_part
told_held text parts Free e h = absurd h
told_held text parts (Waiting ticket call) e h = absurd h
told_held text parts (Told ticket call car) e h = (h.0, e ∙ ap (λ (p : List ℕ). codes " TOLD" ++ p) h.1)

-- words that differ at a byte
pub no_free_waits : (parts : List ℕ) → codes " FREE" ≡ codes " WAITING" ++ parts → ⊥
no_free_waits parts e = let n : ◌≡◌ {A = ℕ} 70 87 = same_first _ _ _ _ (same_rest _ _ _ _ e) in omega arith

pub no_free_told : (parts : List ℕ) → codes " FREE" ≡ codes " TOLD" ++ parts → ⊥
no_free_told parts e = let n : ◌≡◌ {A = ℕ} 70 84 = same_first _ _ _ _ (same_rest _ _ _ _ e) in omega arith

pub no_wait_told : (parts others : List ℕ) → codes " WAITING" ++ parts ≡ codes " TOLD" ++ others → ⊥
no_wait_told parts others e = let n : ◌≡◌ {A = ℕ} 87 84 = same_first _ _ _ _ (same_rest _ _ _ _ e) in omega arith

-- what a slot holds begins with a space
pub slot_ends : (slot : Slot) → Ends 32 (slot_part slot)
unfolding slot_part
slot_ends Free = refl
slot_ends (Waiting ticket call) = refl
slot_ends (Told ticket call car) = refl

-- A ticket and a call are read in one way.
pub ticket_once :
    (t u : ℕ) (a b : Call) (x y : List ℕ) → t ≤ greatest_ticket → u ≤ greatest_ticket → HasSmallFloors a → HasSmallFloors b → Ends 32 x → Ends 32 y
    → part t ++ (part a.from ++ (part a.to ++ x)) ≡ part u ++ (part b.from ++ (part b.to ++ y)) → (t ≡ u) × (a ≡ b) × (x ≡ y)
ticket_once t u a b x y h k f g ex ey e =
    let first = part_once t u (part a.from ++ (part a.to ++ x)) (part b.from ++ (part b.to ++ y)) (omega (arith, h)) (omega (arith, k)) refl refl e in
    let second = part_once a.from b.from (part a.to ++ x) (part b.to ++ y) (omega (arith, f.0)) (omega (arith, g.0)) refl refl first.1 in
    let third = part_once a.to b.to x y (omega (arith, f.1)) (omega (arith, g.1)) ex ey second.1 in
    let from : a.from ≡ b.from = second.0 in
    let to : a.to ≡ b.to = third.0 in
    let made : ◌≡◌ {A = Call} (record { from = a.from; to = a.to }) (record { from = b.from; to = b.to }) = cc in
    (first.0, made, third.1)

-- TICKETS

-- a ticket is under one of the first slots, or under the next
pub ticket_more : (slots : List Slot) (slot : Slot) (k n : ℕ) → ticket_at (slots ++ slot ∷ []) k ≡ Some n → ((j : ℕ) → ticket_at slots j ≡ Some n → ⊥) → (k ≡ length slots) × (ticket_of slot ≡ Some n)
ticket_more [] slot zero n e none = (refl, e)
ticket_more [] slot (suc k) n e none = absurd (cc)
ticket_more (x ∷ slots) slot zero n e none = absurd (none zero e)
ticket_more (x ∷ slots) slot (suc k) n e none = let more = ticket_more slots slot k n e (λ j. none (suc j)) in (omega (arith, more.0), more.1)

-- the ticket at a place is that of the slot there
pub ticket_got : (slots : List Slot) (k : ℕ) → ticket_at slots k ≡ ticket_of (get_or slots k Free)
ticket_got [] k = refl
ticket_got (x ∷ slots) zero = refl
ticket_got (x ∷ slots) (suc k) = ticket_got slots k

pub ticket_within : (slots : List Slot) (k n : ℕ) → ticket_at slots k ≡ Some n → k < length slots
ticket_within [] k n e = absurd (cc)
ticket_within (x ∷ slots) zero n e = omega arith
ticket_within (x ∷ slots) (suc k) n e = let more = ticket_within slots k n e in omega (arith, more)

-- KINDS OF SLOTS

pub no_waiting : (text : List ℕ) → ((t : ℕ) (call : Call) (rest : List ℕ) → t ≤ greatest_ticket → HasSmallFloors call → Ends 32 rest → text ≡ part t ++ (part call.from ++ (part call.to ++ rest)) → ⊥) → (slot : Slot) → IsWaiting text slot → ⊥
no_waiting text none Free h = h
no_waiting text none (Waiting t call) h = none t call [] h.0.0 h.0.1 tt (h.1 ∙ ap (λ (l : List ℕ). part t ++ (part call.from ++ l)) (sym (append-nil (part call.to))))
no_waiting text none (Told t call car) h = h

-- what follows the call of a slot that waits, and of one that is told
module _ (text : List ℕ) (t : ℕ) (call : Call) (rest : List ℕ) (few : t ≤ greatest_ticket) (small : HasSmallFloors call) (is : text ≡ part t ++ (part call.from ++ (part call.to ++ rest))) (ends : Ends 32 rest) where
  pub waiting_ends : (slot : Slot) → IsWaiting text slot → rest ≡ []
  waiting_ends Free h = absurd h
  waiting_ends (Waiting u other) h =
      let whole : text ≡ part u ++ (part other.from ++ (part other.to ++ [])) = h.1 ∙ ap (λ (l : List ℕ). part u ++ (part other.from ++ l)) (sym (append-nil (part other.to))) in
      (ticket_once t u call other rest [] few h.0.0 small h.0.1 ends tt (sym is ∙ whole)).2
  waiting_ends (Told u other car) h = absurd h

  pub told_ends : ((car : ℕ) → car ≤ 255 → rest ≡ part car → ⊥) → (slot : Slot) → IsTold text slot → ⊥
  told_ends none Free h = h
  told_ends none (Waiting u other) h = h
  told_ends none (Told u other car) h = none car h.0.2 (ticket_once t u call other rest (part car) few h.0.0 small h.0.1 ends refl (sym is ∙ h.1)).2

-- THE LINES

-- one slot more
pub slots_more :
    (sizes : Sizes) (last : ℕ) (earlier : List Slot) (text behind rest : List ℕ) (slots : List Slot) (slot : Slot) → TakesSlots sizes last earlier text slots behind
    → TakesSlot sizes last (earlier ++ slots) (length (earlier ++ slots) + 1) behind slot rest → TakesSlots sizes last earlier text (slots ++ slot ∷ []) rest
slots_more sizes last earlier text behind rest [] slot h k =
    let same : earlier ++ [] ≡ earlier = append-nil earlier in
    (rest, subst (λ (xs : List Slot). TakesSlot sizes last xs (length xs + 1) text slot rest) same (subst (λ (t : List ℕ). TakesSlot sizes last (earlier ++ []) (length (earlier ++ []) + 1) t slot rest) (sym h) k), refl)
slots_more sizes last earlier text behind rest (x ∷ slots) slot h k =
    let flat : earlier ++ (x ∷ slots) ≡ (earlier ++ x ∷ []) ++ slots = sym (append_assoc earlier (x ∷ []) slots) in
    (h.0, h.1, slots_more sizes last (earlier ++ x ∷ []) h.0 behind rest slots slot h.2 (subst (λ (xs : List Slot). TakesSlot sizes last xs (length xs + 1) behind slot rest) flat k))

-- what follows SLOT
pub slot_parts : (number : ℕ) (line parts : List ℕ) (slot : Slot) → SaysSlot number slot line → line ≡ codes "SLOT" ++ parts → parts ≡ part number ++ slot_part slot
unfolding slot_line
slot_parts number line parts slot says e = cancel (codes "SLOT") parts (part number ++ slot_part slot) (sym e ∙ says.1)
