-- What the tasks share: denials, entered calls, the opening tasks.
use Rattle.std.proofs.Common.{◌≡◌, ℕ, zero, suc, ◌+◌, ◌-◌, ◌≤◌, Bool, true, false, List, [], ◌∷◌, ◌++◌, map, length, drop, Option, Some, None, refl, sym, ap, ap₂, ◌∙◌, arith, if◌then◌else◌}
use Rattle.std.specs.Prelude.{slice_get, slice_set, ◌==◌}
use Rattle.std.proofs.lemmas.List.{length-append}
use Rattle.group_spec.specs.declared.calls.Call.{Call}
use Rattle.group_spec.specs.declared.calls.Slot.{Slot}
use Rattle.group_spec.specs.declared.calls.Slot.TheVariants.{Free, Waiting, Told}
use Rattle.group_spec.specs.declared.calls.Answer.{Answer}
use Rattle.group_spec.specs.declared.report.Answered.{Answered}
use Rattle.group_spec.specs.World.{tell_with, tell_all}
use Rattle.group_spec.specs.declared.calls.Entering.{Entering}
use Rattle.group_spec.specs.declared.calls.Entering.TheVariants.{Done as EntersAt, Kept}
use Rattle.group_spec.specs.declared.report.Rule.{Rule}
use Rattle.group_spec.specs.declared.report.EnteredCall.{EnteredCall}
use Rattle.group_spec.specs.Settle.{denials_of}
use Rattle.group_spec.specs.Calls.{Calls, lowest_free_from, slot_for_next, entered_at, enter_into, enter, enter_all, greatest_ticket, Entered}
use Rattle.group_world.specs.Running.{free_count}

pub denials_map : (car : ℕ) (rules : List Rule) → map (λ rule. record { car = car; rule = rule }) rules ≡ denials_of car rules
denials_map car [] = refl
denials_map car (r ∷ rules) = ap (λ l. record { car = car; rule = r } ∷ l) (denials_map car rules)

-- TELLS

-- car 0 is none
pub tells_none : (calls : Calls) (answers : List Answered) (slot : ℕ) (ticket : Option ℕ) (car : ℕ) → car ≡ 0 → (tickets : List (Option ℕ)) (cars : List ℕ) → tell_all calls answers slot (ticket ∷ tickets) (car ∷ cars) ≡ tell_all calls answers (slot + 1) tickets cars
tells_none calls answers slot ticket zero none tickets cars = refl
tells_none calls answers slot ticket (suc n) none tickets cars = absurd (omega (arith, none))

-- what is told is answered
pub tells_one : (calls after : Calls) (answers more : List Answered) (slot : ℕ) (ticket : Option ℕ) (car : ℕ) (answer : Answer) → 1 ≤ car → tell_with calls slot car ticket ≡ (after, answer) → more ≡ answers ++ record { slot = slot; ticket = ticket; car = car; answer = answer } ∷ []
    → (tickets : List (Option ℕ)) (cars : List ℕ) → tell_all calls answers slot (ticket ∷ tickets) (car ∷ cars) ≡ tell_all after more (slot + 1) tickets cars
tells_one calls after answers more slot ticket zero answer some told is tickets cars = absurd (omega (arith, some))
tells_one calls after answers more slot ticket (suc n) answer some told is tickets cars =
    ap (λ (t : Calls × Answer). tell_all t.0 (answers ++ record { slot = slot; ticket = ticket; car = suc n; answer = t.1 } ∷ []) (slot + 1) tickets cars) told ∙ ap (λ l. tell_all after l (slot + 1) tickets cars) (sym is)

-- FREE SLOTS

pub free_few : (slots : List Slot) → free_count slots ≤ length slots
free_few [] = omega arith
free_few (Free ∷ slots) = let rest = free_few slots in omega (arith, rest)
free_few (Waiting ticket call ∷ slots) = let rest = free_few slots in omega (arith, rest)
free_few (Told ticket call car ∷ slots) = let rest = free_few slots in omega (arith, rest)

-- the lowest free slot is not below the first
lowest_above : (at k : ℕ) (slots : List Slot) → lowest_free_from at slots ≡ Some k → at ≤ k
lowest_above at k [] e = let bad : ◌≡◌ {A = Option ℕ} None (Some k) = e in cc
lowest_above at k (Free ∷ slots) e = let both : Some at ≡ Some k = e in let same : at ≡ k = cc in omega (arith, same)
lowest_above at k (Waiting ticket call ∷ slots) e = let rest = lowest_above (at + 1) k slots e in omega (arith, rest)
lowest_above at k (Told ticket call car ∷ slots) e = let rest = lowest_above (at + 1) k slots e in omega (arith, rest)

-- one free slot fewer
fewer : (at k : ℕ) (slots : List Slot) (ticket : ℕ) (call : Call) → lowest_free_from at slots ≡ Some k → free_count (slice_set slots (k - at) (Waiting ticket call)) + 1 ≡ free_count slots
fewer at k [] ticket call e = let bad : ◌≡◌ {A = Option ℕ} None (Some k) = e in cc
fewer at k (Free ∷ slots) ticket call e =
    let both : Some at ≡ Some k = e in
    let same : at ≡ k = cc in
    let none : k - at ≡ 0 = omega (arith, same) in
    ap (λ n. free_count (slice_set (Free ∷ slots) n (Waiting ticket call)) + 1) none ∙ (let s : free_count slots + 1 ≡ suc (free_count slots) = omega arith in s)
fewer at k (Waiting t c ∷ slots) ticket call e =
    let above = lowest_above (at + 1) k slots e in
    let next : k - at ≡ suc (k - (at + 1)) = omega (arith, above) in
    ap (λ n. free_count (slice_set (Waiting t c ∷ slots) n (Waiting ticket call)) + 1) next ∙ fewer (at + 1) k slots ticket call e
fewer at k (Told t c car ∷ slots) ticket call e =
    let above = lowest_above (at + 1) k slots e in
    let next : k - at ≡ suc (k - (at + 1)) = omega (arith, above) in
    ap (λ n. free_count (slice_set (Told t c car ∷ slots) n (Waiting ticket call)) + 1) next ∙ fewer (at + 1) k slots ticket call e

-- ENTERING

kept_apart : (slot ticket : ℕ) → Kept ≡ EntersAt slot ticket → ⊥
kept_apart slot ticket e = cc

slot_same : (k n slot ticket : ℕ) → EntersAt k n ≡ EntersAt slot ticket → (k ≡ slot) × (n ≡ ticket)
slot_same k n slot ticket e = (cc, cc)

-- how a call enters tells what entering all does next
pub enters : (calls after : Calls) (done : List EnteredCall) (call : Call) (hand : List Call) (slot ticket : ℕ) → enter calls call ≡ (after, EntersAt slot ticket)
    → enter_all calls done (call ∷ hand) ≡ enter_all after (done ++ record { slot = slot; ticket = ticket; call = call } ∷ []) hand
unfolding enter
enters calls after done call hand slot ticket e = by (slot_for_next calls) refl e
  where
    next : Option ℕ → Entered
    next None = record { calls = calls; hand = call ∷ hand; done = done }
    next (Some k) = enter_all (entered_at calls k call) (done ++ record { slot = k; ticket = calls.last_ticket + 1; call = call } ∷ []) hand

    by : (o : Option ℕ) → slot_for_next calls ≡ o → enter_into calls call o ≡ (after, EntersAt slot ticket) → next (slot_for_next calls) ≡ enter_all after (done ++ record { slot = slot; ticket = ticket; call = call } ∷ []) hand
    by None is f = absurd (kept_apart slot ticket (ap (λ (p : Calls × Entering). p.1) f))
    by (Some k) is f =
        let same = slot_same k (calls.last_ticket + 1) slot ticket (ap (λ (p : Calls × Entering). p.1) f) in
        ap next is ∙ ap₂ (λ a d. enter_all a (done ++ d ∷ []) hand) (ap (λ (p : Calls × Entering). p.0) f) (ap₂ (λ s t. record { slot = s; ticket = t; call = call }) same.0 same.1)

pub stays : (calls after : Calls) (done : List EnteredCall) (call : Call) (hand : List Call) → enter calls call ≡ (after, Kept) → enter_all calls done (call ∷ hand) ≡ record { calls = after; hand = call ∷ hand; done = done }
unfolding enter
stays calls after done call hand e = by (slot_for_next calls) refl e
  where
    next : Option ℕ → Entered
    next None = record { calls = calls; hand = call ∷ hand; done = done }
    next (Some k) = enter_all (entered_at calls k call) (done ++ record { slot = k; ticket = calls.last_ticket + 1; call = call } ∷ []) hand

    by : (o : Option ℕ) → slot_for_next calls ≡ o → enter_into calls call o ≡ (after, Kept) → next (slot_for_next calls) ≡ record { calls = after; hand = call ∷ hand; done = done }
    by None is f = ap next is ∙ ap (λ a. record { calls = a; hand = call ∷ hand; done = done }) (ap (λ (p : Calls × Entering). p.0) f)
    by (Some k) is f = absurd (kept_apart k (calls.last_ticket + 1) (sym (ap (λ (p : Calls × Entering). p.1) f)))

-- and there is one free slot fewer
pub enters_free : (calls after : Calls) (call : Call) (slot ticket : ℕ) → enter calls call ≡ (after, EntersAt slot ticket) → free_count after.slots + 1 ≡ free_count calls.slots
unfolding enter
enters_free calls after call slot ticket e = by (calls.last_ticket == greatest_ticket) (lowest_free_from 1 calls.slots) refl e
  where
    by : (b : Bool) (o : Option ℕ) → lowest_free_from 1 calls.slots ≡ o → enter_into calls call (if b then None else o) ≡ (after, EntersAt slot ticket) → free_count after.slots + 1 ≡ free_count calls.slots
    by true o is f = absurd (kept_apart slot ticket (ap (λ (p : Calls × Entering). p.1) f))
    by false None is f = absurd (kept_apart slot ticket (ap (λ (p : Calls × Entering). p.1) f))
    by false (Some zero) is f = let low = lowest_above 1 zero calls.slots is in absurd (omega (arith, low))
    by false (Some (suc k)) is f =
        let left = ap (λ (p : Calls × Entering). p.0) f in
        let off : suc k - 1 ≡ k = omega arith in
        ap (λ (a : Calls). free_count a.slots + 1) (sym left) ∙ ap (λ n. free_count (slice_set calls.slots n (Waiting (calls.last_ticket + 1) call)) + 1) (sym off) ∙ fewer 1 (suc k) calls.slots (calls.last_ticket + 1) call is

-- the first of a list
pub first_of : {X : Type 0} (xs : List X) (x : X) → Some x ≡ slice_get xs 0 → xs ≡ x ∷ drop 1 xs
first_of [] x e = let bad : ◌≡◌ {A = Option _} None (Some x) = sym e in cc
first_of (y ∷ ys) x e = let same : Some x ≡ Some y = e in let is : x ≡ y = cc in ap (λ z. z ∷ ys) (sym is)

pub none_left : {X : Type 0} (xs : List X) → None ≡ slice_get xs 0 → xs ≡ []
none_left [] e = refl
none_left (y ∷ ys) e = let bad : ◌≡◌ {A = Option _} None (Some y) = e in cc

-- room for one more
pub room_more : (done : List EnteredCall) (entered : EnteredCall) (before after : ℕ) → length done + before ≤ 64 → after + 1 ≡ before → length (done ++ entered ∷ []) + after ≤ 64
room_more done entered before after room fewer = let n : length (done ++ entered ∷ []) ≡ length done + 1 = length-append done (entered ∷ []) in omega (arith, n, room, fewer)
