-- The opening world holds.
use Rattle.std.proofs.Common.{◌≡◌, ℕ, zero, suc, ◌+◌, ◌<◌, ◌≤◌, ◌⊎◌, inl, inr, length, replicate, slice_get, refl, sym, ap, ◌∙◌, subst, Some, None, Option, arith}
use Rattle.std.proofs.lemmas.Int.{ints}
use Rattle.std.proofs.lemmas.List.{length-replicate}
use Rattle.std.proofs.lemmas.List.Elements.{All-nil, All-replicate}
use Rattle.il_syntax.specs.declared.tree.Config.{Config}
use Rattle.il_syntax.specs.declared.tree.Unit.{Unit as ProgramUnit}
use Rattle.il_semantics.specs.State.{State}
use Rattle.group_spec.specs.declared.image.CarFields.{CarFields}
use Rattle.group_spec.specs.declared.calls.Slot.TheVariants.{Free}
use Rattle.group_spec.specs.Image.{sizes_of, IsFloor, opening_car, opening_outputs}
use Rattle.group_spec.specs.Calls.{IsCall, SlotInRange}
use Rattle.group_spec.specs.Snapshot.{program_of}
use Rattle.group_spec.specs.World.{opening, opening_group, opening_task, opening_tasks_from, flat, scan_at, InRanges}
use Rattle.group_spec.proofs.Laws.{opening_obeys}
use Rattle.group_laws.specs.Scans.{OpensWell}
use Rattle.group_laws.specs.Holding.{ticket_at, WorldHolds, SeatHolds}

-- THE TASKS

many_tasks : (c : Config) (count t : ℕ) → length (opening_tasks_from c t count) ≡ count
many_tasks c zero t = refl
many_tasks c (suc count) t = let rest : length (opening_tasks_from c (t + 1) count) ≡ count = many_tasks c count (t + 1) in omega (arith, rest)

none_flat : {X : Type 0} (n t : ℕ) → flat {A = X} (slice_get (replicate n None) t) ≡ None
none_flat zero t = refl
none_flat (suc n) zero = refl
none_flat (suc n) (suc t) = none_flat n t

flat_some : {X : Type 0} (o : Option X) → flat (Some o) ≡ o
flat_some None = refl
flat_some (Some x) = refl

-- the task of a number, if the tasks go so far
task_opens : (c : Config) (count first t : ℕ) → t < count → flat (slice_get (opening_tasks_from c first count) t) ≡ opening_task c (program_of c (first + t))
task_opens c zero first t h = absurd (omega (arith, h))
task_opens c (suc count) first zero h = let here : first ≡ first + 0 = omega arith in flat_some (opening_task c (program_of c first)) ∙ ap (λ k. opening_task c (program_of c k)) here
task_opens c (suc count) first (suc t) h =
    let next : first + 1 + t ≡ first + suc t = omega arith in task_opens c count (first + 1) t (omega (arith, h)) ∙ ap (λ k. opening_task c (program_of c k)) next

no_task : (c : Config) (count first t : ℕ) → count ≤ t → flat (slice_get (opening_tasks_from c first count) t) ≡ None
no_task c zero first t h = refl
no_task c (suc count) first zero h = absurd (omega (arith, h))
no_task c (suc count) first (suc t) h = no_task c count (first + 1) t (omega (arith, h))

within_or_past : (t n : ℕ) → (t < n) ⊎ (n ≤ t)
within_or_past zero zero = inr (omega arith)
within_or_past zero (suc n) = inl (omega arith)
within_or_past (suc t) zero = inr (omega arith)
within_or_past (suc t) (suc n) = by (within_or_past t n)
  where
    by : (t < n) ⊎ (n ≤ t) → (suc t < suc n) ⊎ (suc n ≤ suc t)
    by (inl h) = inl (omega (arith, h))
    by (inr h) = inr (omega (arith, h))

-- each seat
seat_opens : (c : Config) → OpensWell c → (t : ℕ) → SeatHolds c t 0 (flat (slice_get (opening_tasks_from c 0 (suc (sizes_of c).cars)) t)) None
seat_opens c opens t = by (within_or_past t (suc (sizes_of c).cars))
  where
    task : (o : Option ProgramUnit) → program_of c t ≡ o → t ≤ (sizes_of c).cars → SeatHolds c t 0 (opening_task c o) None
    task None is within = λ _. is
    task (Some u) is within = record { unit = u; is = record { within = within; program = is }; variables = opens.variables t u (record { within = within; program = is }); scanning = refl }

    by : (t < suc (sizes_of c).cars) ⊎ (suc (sizes_of c).cars ≤ t) → SeatHolds c t 0 (flat (slice_get (opening_tasks_from c 0 (suc (sizes_of c).cars)) t)) None
    by (inl h) =
        let same : 0 + t ≡ t = omega arith in
        subst (λ o. SeatHolds c t 0 o None) (sym (task_opens c (suc (sizes_of c).cars) 0 t h ∙ ap (λ k. opening_task c (program_of c k)) same)) (task (program_of c t) refl (omega (arith, h)))
    by (inr h) = subst (λ o. SeatHolds c t 0 o None) (sym (no_task c (suc (sizes_of c).cars) 0 t h)) (λ within. absurd (omega (arith, within, h)))

-- THE IMAGE

no_ticket : (n i : ℕ) → ticket_at (replicate n Free) i ≡ None
no_ticket zero i = refl
no_ticket (suc n) zero = refl
no_ticket (suc n) (suc i) = no_ticket n i

none_some : {A : Type 0} (n : ℕ) → None ≡ Some n → A
none_some n e = cc

in_ranges : (c : Config) → OpensWell c → InRanges c (opening_group c)
in_ranges c opens =
    let first : IsFloor (sizes_of c) 1 = (omega arith, omega (arith, ints, opens.sized.floors)) in
    record {
      fields = record { cars = length-replicate (sizes_of c).cars opening_car; positions = All-replicate (λ (car : CarFields). IsFloor (sizes_of c) car.pos) (sizes_of c).cars opening_car first; time = omega arith; run_limit = omega arith };
      outputs = length-replicate (sizes_of c).cars opening_outputs;
      slots = length-replicate (sizes_of c).slots Free;
      each_slot = All-replicate (SlotInRange (sizes_of c) 0) (sizes_of c).slots Free tt;
      globals = opens.globals;
    }

pub world_opens : (c : Config) → OpensWell c → WorldHolds c (λ _. 0) (opening c)
unfolding opening
world_opens c opens =
    record {
      ranges = in_ranges c opens;
      tickets = record { last = omega arith; distinct = λ i j n at_i at_j. none_some n (sym (no_ticket (sizes_of c).slots i) ∙ at_i) };
      obeys = opening_obeys (sizes_of c);
      tasks = many_tasks c (suc (sizes_of c).cars) 0;
      scans = length-replicate (suc (sizes_of c).cars) None;
      each = λ t. subst (λ s. SeatHolds c t 0 (flat (slice_get (opening_tasks_from c 0 (suc (sizes_of c).cars)) t)) s) (sym (none_flat {X = State} (suc (sizes_of c).cars) t)) (seat_opens c opens t);
      within = λ t. omega arith;
      desk = record { each = All-nil (IsCall (sizes_of c)); in_order = tt };
      hand = record { each = All-nil (IsCall (sizes_of c)); in_order = tt };
    }

-- no scan is open there
pub no_scan_open : (c : Config) (t : ℕ) → scan_at (opening c) t ≡ None
unfolding opening
no_scan_open c t = none_flat {X = State} (suc (sizes_of c).cars) t
