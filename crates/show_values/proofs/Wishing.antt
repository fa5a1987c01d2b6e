-- What is asked for is what the scans wished.
use Rattle.std.proofs.Common.{◌≡◌, ℕ, zero, suc, ◌+◌, ◌<◌, Bool, List, [], ◌∷◌, ◌++◌, length, Option, Some, None, if◌then◌else◌, refl, sym, ap, ◌∙◌, arith, eq-eqb, ne_eqb}
use Rattle.std.specs.Prelude.{slice_get, slice_set, option_map, unwrap_or, ◌==◌}
use Rattle.std.specs.List.{find}
use Rattle.std.proofs.lemmas.List.{append_assoc, append-nil}
use Rattle.group_spec.specs.declared.report.Answered.{Answered}
use Rattle.group_spec.specs.Calls.{Calls}
use Rattle.group_spec.specs.Snapshot.{wishes_of, assigned}
use Rattle.group_spec.specs.World.{committed_group, tell_with, tell_all, serve_wish}
use Rattle.show_values.specs.Asked.{serve_in}
use Rattle.show_values.specs.Wished.{ServeIsWished, AssignIsWished}

-- SERVE

serve_said : (calls : Calls) (car : ℕ) (tickets : List (Option ℕ)) (slot : ℕ) → serve_in (serve_wish calls car tickets slot).1 ≡ slot
serve_said calls car tickets zero = refl
serve_said calls car tickets (suc slot) = refl

set_here : (xs : List ℕ) (i n : ℕ) → i < length xs → unwrap_or (slice_get (slice_set xs i n) i) 0 ≡ n
set_here [] i n low = absurd (omega (arith, low))
set_here (x ∷ xs) zero n low = refl
set_here (x ∷ xs) (suc i) n low = set_here xs i n (omega (arith, low))

pub serve_is_wished : ServeIsWished
unfolding committed_group
serve_is_wished c g k task tickets values asked low =
    let serve = (wishes_of values).serve in
    set_here asked.serves k (serve_in (serve_wish g.calls (suc k) tickets serve).1) low ∙ serve_said g.calls (suc k) tickets serve

-- ASSIGN

-- the tells come after the answers so far
tells_behind : (calls : Calls) (answers : List Answered) (slot : ℕ) (tickets : List (Option ℕ)) (cars : List ℕ) → (tell_all calls answers slot tickets cars).1 ≡ answers ++ (tell_all calls [] slot tickets cars).1
tells_behind calls answers slot [] cars = sym (append-nil answers)
tells_behind calls answers slot (ticket ∷ tickets) [] = sym (append-nil answers)
tells_behind calls answers slot (ticket ∷ tickets) (zero ∷ cars) = tells_behind calls answers (slot + 1) tickets cars
tells_behind calls answers slot (ticket ∷ tickets) (suc car ∷ cars) =
    let told = tell_with calls slot (suc car) ticket in
    let one : List Answered = record { slot = slot; ticket = ticket; car = suc car; answer = told.1 } ∷ [] in
    tells_behind told.0 (answers ++ one) (slot + 1) tickets cars ∙ append_assoc answers one (tell_all told.0 [] (slot + 1) tickets cars).1
    ∙ ap (λ l. answers ++ l) (sym (tells_behind told.0 one (slot + 1) tickets cars))

-- the first tell of a slot
abbrev tell_of : ℕ → List Answered → Option Answered
tell_of slot answers = find (λ (a : Answered). a.slot == slot) answers

abbrev car_of : Option Answered → ℕ
car_of tell = unwrap_or (option_map (λ (a : Answered). a.car) tell) 0

first_is : (slot : ℕ) (a : Answered) (rest : List Answered) → a.slot ≡ slot → tell_of slot (a ∷ rest) ≡ Some a
first_is slot a rest e = ap (λ (b : Bool). if b then Some a else tell_of slot rest) (eq-eqb a.slot slot e)

first_is_not : (slot : ℕ) (a : Answered) (rest : List Answered) → (a.slot ≡ slot → ⊥) → tell_of slot (a ∷ rest) ≡ tell_of slot rest
first_is_not slot a rest e = ap (λ (b : Bool). if b then Some a else tell_of slot rest) (ne_eqb a.slot slot e)

-- a slot before them is not told
not_before : (calls : Calls) (slot from : ℕ) (tickets : List (Option ℕ)) (cars : List ℕ) → slot < from → tell_of slot (tell_all calls [] from tickets cars).1 ≡ None
not_before calls slot from [] cars low = refl
not_before calls slot from (ticket ∷ tickets) [] low = refl
not_before calls slot from (ticket ∷ tickets) (zero ∷ cars) low = not_before calls slot (from + 1) tickets cars (omega (arith, low))
not_before calls slot from (ticket ∷ tickets) (suc car ∷ cars) low =
    let told = tell_with calls from (suc car) ticket in
    let one : Answered = record { slot = from; ticket = ticket; car = suc car; answer = told.1 } in
    ap (tell_of slot) (tells_behind told.0 (one ∷ []) (from + 1) tickets cars) ∙ first_is_not slot one (tell_all told.0 [] (from + 1) tickets cars).1 (λ e. omega (arith, low, e))
    ∙ not_before told.0 slot (from + 1) tickets cars (omega (arith, low))

-- and each of them is told to its car
told_to : (calls : Calls) (from place slot car : ℕ) (tickets : List (Option ℕ)) (cars : List ℕ) → slot ≡ from + place → place < length tickets → slice_get cars place ≡ Some car → car_of (tell_of slot (tell_all calls [] from tickets cars).1) ≡ car
told_to calls from place slot car [] cars at low is = absurd (omega (arith, low))
told_to calls from place slot car (ticket ∷ tickets) [] at low is = let no_car : None ≡ Some car = is in cc
told_to calls from zero slot car (ticket ∷ tickets) (zero ∷ cars) at low is =
    let same : 0 ≡ car = cc in ap car_of (not_before calls slot (from + 1) tickets cars (omega (arith, at))) ∙ same
told_to calls from (suc place) slot car (ticket ∷ tickets) (zero ∷ cars) at low is = told_to calls (from + 1) place slot car tickets cars (omega (arith, at)) (omega (arith, low)) is
told_to calls from zero slot car (ticket ∷ tickets) (suc k ∷ cars) at low is =
    let same : suc k ≡ car = cc in
    let told = tell_with calls from (suc k) ticket in
    let one : Answered = record { slot = from; ticket = ticket; car = suc k; answer = told.1 } in
    ap car_of (ap (tell_of slot) (tells_behind told.0 (one ∷ []) (from + 1) tickets cars) ∙ first_is slot one (tell_all told.0 [] (from + 1) tickets cars).1 (omega (arith, at))) ∙ same
told_to calls from (suc place) slot car (ticket ∷ tickets) (suc k ∷ cars) at low is =
    let told = tell_with calls from (suc k) ticket in
    let one : Answered = record { slot = from; ticket = ticket; car = suc k; answer = told.1 } in
    ap car_of (ap (tell_of slot) (tells_behind told.0 (one ∷ []) (from + 1) tickets cars) ∙ first_is_not slot one (tell_all told.0 [] (from + 1) tickets cars).1 (λ e. omega (arith, at, e)))
    ∙ told_to told.0 (from + 1) place slot car tickets cars (omega (arith, at)) (omega (arith, low)) is

pub assign_is_wished : AssignIsWished
unfolding committed_group
assign_is_wished c g task tickets values asked place car low is = told_to g.calls 1 place (place + 1) car tickets (assigned (length tickets) values) (omega arith) low is
