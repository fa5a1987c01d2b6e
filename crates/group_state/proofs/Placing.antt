-- What was read of the head, set in a core.
use Rattle.std.proofs.Common.{◌≡◌, ◌⊎◌, inl, inr, ℕ, zero, suc, ◌+◌, ◌<◌, ◌≤◌, List, [], ◌∷◌, ◌++◌, length, take, drop, replicate, refl, sym, ap, ap₂, ◌∙◌, subst, append_assoc, append-nil, arith, Some, None, Option, Ok, Err, Result, All}
use Rattle.std.specs.Prelude.{slice_get, slice_set, slice_index_or, Contains}
use Rattle.std.proofs.lemmas.List.Elements.{All-nil, All-cons}
use Rattle.std.proofs.lemmas.Option.{same_Some}
use Rattle.il_syntax.specs.declared.tree.Config.{Config}
use Rattle.il_syntax.specs.declared.tree.Scalar.{Scalar}
use Rattle.base_maps.specs.NameMap.{Text, insert}
use Rattle.il_semantics.specs.declared.value.Value.{Value}
use Rattle.il_semantics.specs.State.{Values}
use Rattle.il_semantics.specs.Meaning.{entities}
use Rattle.il_semantics.specs.Ranges.{global_scalars, task_scalars}
use Rattle.il_semantics.specs.Values.{IsOf}
use Rattle.il_semantics_laws.specs.Listed.{HaveOneType}
use Rattle.il_semantics_laws.proofs.Lists.{in_map, of_map}
use Rattle.il_semantics_laws.proofs.Opening.{globals_once}
use Rattle.load_slots.specs.declared.flat.Cell.{Cell}
use Rattle.load_slots.specs.Layout.{cell}
use Rattle.load_slots.specs.Program.{global_cells}
use Rattle.scan_task.specs.declared.setting.Unset.{Unset}
use Rattle.scan_task.specs.declared.setting.Unset.TheVariants.{Unknown, Outside}
use Rattle.scan_task.specs.Scanning.{IsRunnable}
use Rattle.scan_task.specs.Setting.{Sets}
use Rattle.scan_task.proofs.Changed.{own_declared, one_type}
use Rattle.scan_task.proofs.Given.{cells_of}
use Rattle.scan_task.proofs.Scans.{accepted}
use Rattle.scan_task.proofs.Shared.{shallow_cells}
use Rattle.group_spec.specs.declared.calls.Slot.{Slot}
use Rattle.group_spec.specs.declared.calls.Slot.TheVariants.{Free, Waiting, Told}
use Rattle.group_spec.specs.declared.image.CarFields.{CarFields}
use Rattle.group_spec.specs.declared.image.CarOutputs.{CarOutputs}
use Rattle.group_spec.specs.declared.image.Image.{Image}
use Rattle.group_spec.specs.declared.image.Sizes.{Sizes}
use Rattle.group_spec.specs.Calls.{Calls, ticket_of, SlotInRange}
use Rattle.group_spec.specs.Image.{IsFloor}
use Rattle.group_spec.specs.World.{Group, TaskState, task_at}
use Rattle.group_laws.specs.Holding.{ticket_at}
use Rattle.group_world.specs.Setting.{with_variables, SetsGlobal, SetsVariable, SetsTask}
use Rattle.group_state.specs.Saying.{SlotHolds}
use Rattle.group_state.specs.Heads.{TakesCars, TakesSlots, TakesHead}
use Rattle.group_state.specs.Holding.{AreApart, HoldsHead, with_globals, IsOwnCell}
use Rattle.group_state.proofs.Puts.{all_taken}
use Rattle.group_state.proofs.Walks.{nothing_left}

-- SLOTS, ONE AFTER ANOTHER

-- one slot more is set
pub placed : (xs ys : List Slot) (k m : ℕ) (x : Slot) → slice_get xs k ≡ Some x → k < length ys → m ≡ k + 1 → slice_set (take k xs ++ drop k ys) k x ≡ take m xs ++ drop m ys
placed [] ys k m x at h is = absurd (cc)
placed (a ∷ xs) [] k m x at h is = absurd (omega (arith, h))
placed (a ∷ xs) (b ∷ ys) zero m x at h is =
    let one : m ≡ 1 = omega (arith, is) in
    ap (λ (s : Slot). s ∷ ys) (sym (same_Some a x at)) ∙ ap (λ n. take n (a ∷ xs) ++ drop n (b ∷ ys)) (sym one)
placed (a ∷ xs) (b ∷ ys) (suc k) m x at h is =
    let next : m ≡ suc (k + 1) = omega (arith, is) in
    ap (λ (ss : List Slot). a ∷ ss) (placed xs ys k (k + 1) x at (omega (arith, h)) refl) ∙ ap (λ n. take n (a ∷ xs) ++ drop n (b ∷ ys)) (sym next)

-- all of them are
pub all_placed : (xs ys : List Slot) (k : ℕ) → length xs ≤ k → length ys ≤ k → take k xs ++ drop k ys ≡ xs
all_placed xs ys k h l = ap₂ (λ (a b : List Slot). a ++ b) (all_taken xs k h) (nothing_left ys k l) ∙ append-nil xs

-- what is at a place before the end
pub at_index : {X : Type 0} (xs : List X) (k : ℕ) (d : X) → k < length xs → slice_get xs k ≡ Some (slice_index_or xs k d)
at_index [] k d h = absurd (omega (arith, h))
at_index (x ∷ xs) zero d h = refl
at_index (x ∷ xs) (suc k) d h = at_index xs k d (omega (arith, h))

pub free_length : (n : ℕ) → length (replicate n Free) ≡ n
free_length zero = refl
free_length (suc n) = ap suc (free_length n)

-- free slots are under no ticket
pub free_tickets : (n k : ℕ) → ticket_at (replicate n Free) k ≡ None
free_tickets zero k = refl
free_tickets (suc n) zero = refl
free_tickets (suc n) (suc k) = free_tickets n k

none_is : (n : ℕ) → ◌≡◌ {A = Option ℕ} None (Some n) → ⊥
none_is n e = cc

dropped_tickets : (ys : List Slot) (k : ℕ) → ((i : ℕ) → ticket_at ys i ≡ None) → (i : ℕ) → ticket_at (drop k ys) i ≡ None
dropped_tickets ys zero none i = none i
dropped_tickets [] (suc k) none i = refl
dropped_tickets (y ∷ ys) (suc k) none i = dropped_tickets ys k (λ j. none (suc j)) i

-- a ticket before free slots is that of a slot in front
before_free : (front free : List Slot) (j n : ℕ) → ((i : ℕ) → ticket_at free i ≡ None) → ticket_at (front ++ free) j ≡ Some n → ticket_at front j ≡ Some n
before_free [] free j n none e = absurd (none_is n (sym (none j) ∙ e))
before_free (x ∷ front) free zero n none e = e
before_free (x ∷ front) free (suc j) n none e = before_free front free j n none e

of_front : (xs : List Slot) (k j n : ℕ) → ticket_at (take k xs) j ≡ Some n → ticket_at xs j ≡ Some n
of_front [] zero j n e = absurd (none_is n e)
of_front [] (suc k) j n e = absurd (none_is n e)
of_front (x ∷ xs) zero j n e = absurd (none_is n e)
of_front (x ∷ xs) (suc k) zero n e = e
of_front (x ∷ xs) (suc k) (suc j) n e = of_front xs k j n e

pub front_ticket : (xs ys : List Slot) (k j n : ℕ) → ((i : ℕ) → ticket_at ys i ≡ None) → ticket_at (take k xs ++ drop k ys) j ≡ Some n → ticket_at xs j ≡ Some n
front_ticket xs ys k j n none e = of_front xs k j n (before_free (take k xs) (drop k ys) j n (dropped_tickets ys k none) e)

-- the ticket at a place is that of the slot there
pub ticket_there : (xs : List Slot) (k n : ℕ) (x : Slot) → slice_get xs k ≡ Some x → ticket_of x ≡ Some n → ticket_at xs k ≡ Some n
ticket_there [] k n x at e = absurd (cc)
ticket_there (y ∷ xs) zero n x at e = ap ticket_of (same_Some y x at) ∙ e
ticket_there (y ∷ xs) (suc k) n x at e = ticket_there xs k n x at e

pub in_range : {X : Type 0} (P : X → Type 0) (xs : List X) (k : ℕ) (x : X) → slice_get xs k ≡ Some x → All P xs → P x
in_range P [] k x at all = absurd (cc)
in_range P (y ∷ xs) zero x at all = subst P (same_Some y x at) (all 0 y (omega arith))
in_range P (y ∷ xs) (suc k) x at all = in_range P xs k x at (λ j d low. all (suc j) d (omega (arith, low)))

-- THE HEAD

slot_in_range : (sizes : Sizes) (last : ℕ) (earlier : List Slot) (slot : Slot) → SlotHolds sizes last earlier slot → SlotInRange sizes last slot
slot_in_range sizes last earlier Free h = tt
slot_in_range sizes last earlier (Waiting ticket call) h = (record { from = h.actors.0; to = h.actors.1; differs = h.way }, h.ticket.least, h.ticket.most)
slot_in_range sizes last earlier (Told ticket call car) h = (record { from = h.actors.0.0; to = h.actors.0.1; differs = h.way }, h.ticket.least, h.ticket.most, h.actors.1, h.actors.2)

slots_in_range : (sizes : Sizes) (last : ℕ) (earlier : List Slot) (text : List ℕ) (slots : List Slot) (rest : List ℕ) → TakesSlots sizes last earlier text slots rest → All (SlotInRange sizes last) slots
slots_in_range sizes last earlier text [] rest h = All-nil (SlotInRange sizes last)
slots_in_range sizes last earlier text (slot ∷ slots) rest h =
    All-cons (SlotInRange sizes last) slot slots (slot_in_range sizes last earlier slot h.1.holds) (slots_in_range sizes last (earlier ++ slot ∷ []) h.0 slots rest h.2)

fresh_of : (sizes : Sizes) (last : ℕ) (earlier : List Slot) (slot : Slot) → SlotHolds sizes last earlier slot → (n : ℕ) → ticket_of slot ≡ Some n → (k : ℕ) → ticket_at earlier k ≡ Some n → ⊥
fresh_of sizes last earlier Free h n e k at = none_is n e
fresh_of sizes last earlier (Waiting ticket call) h n e k at = h.ticket.fresh k (at ∙ sym e)
fresh_of sizes last earlier (Told ticket call car) h n e k at = h.ticket.fresh k (at ∙ sym e)

-- a ticket among some slots and one more
one_of : (slots : List Slot) (slot : Slot) (k n : ℕ) → ticket_at (slots ++ slot ∷ []) k ≡ Some n → (ticket_at slots k ≡ Some n) ⊎ ((k ≡ length slots) × (ticket_of slot ≡ Some n))
one_of [] slot zero n e = inr (refl, e)
one_of [] slot (suc k) n e = absurd (none_is n e)
one_of (x ∷ slots) slot zero n e = inl e
one_of (x ∷ slots) slot (suc k) n e =
    elim (one_of slots slot k n e) [
      | inl a ↦ inl a
      | inr b ↦ inr (ap suc b.0, b.1)
    ]

apart_more : (slots : List Slot) (slot : Slot) → AreApart slots → ((n : ℕ) → ticket_of slot ≡ Some n → (k : ℕ) → ticket_at slots k ≡ Some n → ⊥) → AreApart (slots ++ slot ∷ [])
apart_more slots slot old fresh i j n a b =
    elim (one_of slots slot i n a) [
      | inl x ↦ elim (one_of slots slot j n b) [
        | inl y ↦ old i j n x y
        | inr y ↦ absurd (fresh n y.1 i x)
      ]
      | inr x ↦ elim (one_of slots slot j n b) [
        | inl y ↦ absurd (fresh n x.1 j y)
        | inr y ↦ x.0 ∙ sym y.0
      ]
    ]

slots_apart : (sizes : Sizes) (last : ℕ) (earlier : List Slot) (text : List ℕ) (slots : List Slot) (rest : List ℕ) → TakesSlots sizes last earlier text slots rest → AreApart earlier → AreApart (earlier ++ slots)
slots_apart sizes last earlier text [] rest h old = subst AreApart (sym (append-nil earlier)) old
slots_apart sizes last earlier text (slot ∷ slots) rest h old =
    subst AreApart (append_assoc earlier (slot ∷ []) slots)
    (slots_apart sizes last (earlier ++ slot ∷ []) h.0 slots rest h.2 (apart_more earlier slot old (fresh_of sizes last earlier slot h.1.holds)))

cars_at_floors : (sizes : Sizes) (number : ℕ) (text rest : List ℕ) (fields : List CarFields) (outputs : List CarOutputs) → TakesCars sizes number text fields outputs rest → All (λ (f : CarFields). IsFloor sizes f.pos) fields
cars_at_floors sizes number text rest [] [] h = All-nil (λ (f : CarFields). IsFloor sizes f.pos)
cars_at_floors sizes number text rest [] (o ∷ outputs) h = absurd h
cars_at_floors sizes number text rest (f ∷ fields) [] h = absurd h
cars_at_floors sizes number text rest (f ∷ fields) (o ∷ outputs) h = All-cons (λ (g : CarFields). IsFloor sizes g.pos) f fields h.1.holds (cars_at_floors sizes (number + 1) h.0 rest fields outputs h.2)

-- what was read of the head is such as a group may have
pub head_holds : (sizes : Sizes) (digest text : List ℕ) (image : Image) (calls : Calls) (rest : List ℕ) → TakesHead sizes digest text image calls rest → HoldsHead sizes image calls
head_holds sizes digest text image calls rest h =
    let i = h.image_is in
    let k = h.calls_are in
    record {
      fields =
          record {
            cars = i.cars.all;
            positions = cars_at_floors sizes 1 i.behind h.behind_image image.fields.cars image.outputs i.cars.each;
            time = i.times.now_is.holds;
            run_limit = i.times.limit_is.holds;
          };
      obeys = i.obeys;
      last = k.tickets.holds;
      slots =
          record {
            count = k.all;
            each = slots_in_range sizes calls.last_ticket [] k.behind calls.slots rest k.slots;
            apart = slots_apart sizes calls.last_ticket [] k.behind calls.slots rest k.slots (λ a b n e. absurd (none_is n e));
          };
    }

-- VARIABLES

scalar_of : (ps : List (Text × Scalar)) (x : Cell) → Contains (cells_of ps) x → Contains ps (x.path, x.scalar)
scalar_of ps x has = let w = of_map (λ (p : Text × Scalar). cell p.0 p.1) ps x has in subst (λ (y : Cell). Contains ps (y.path, y.scalar)) w.2 w.1

-- what comes of giving a declared variable a value of its set
set_well : (scalars : List (Text × Scalar)) (before : Values) (x : Cell) (value : Value) (result : Result Values Unset) → HaveOneType scalars → Contains scalars (x.path, x.scalar) → IsOf x.scalar value
    → Sets scalars before x.path value result → result ≡ Ok (insert before x.path value)
set_well scalars before x value (Ok after) once has of h = ap Ok h.3
set_well scalars before x value (Err Unknown) once has of h = absurd (h (in_map (λ (p : Text × Scalar). p.0) scalars (x.path, x.scalar) has))
set_well scalars before x value (Err Outside) once has of h =
    absurd (h.2 (subst (λ (s : Scalar). IsOf s value) (once (x.path, x.scalar) (x.path, h.0) has h.1 refl) of))

ok_values : (a b : Values) → ◌≡◌ {A = Result Values Unset} (Ok a) (Ok b) → a ≡ b
ok_values a b e = cc

err_no : (a : Values) (why : Unset) → ◌≡◌ {A = Result Values Unset} (Err why) (Ok a) → ⊥
err_no a why e = cc

-- a global
pub global_set : {A : Type 0} (c : Config) (runs : IsRunnable c) (before : Group) (x : Cell) (value : Value) (result : Result A Unset) (after : Group) → Contains (global_cells c) x → IsOf x.scalar value → SetsGlobal c before x.path value result after
    → after ≡ with_globals before (insert before.globals x.path value)
global_set c runs before x value (Ok done) after has of h =
    let declared = scalar_of (global_scalars c) x (subst (λ xs. Contains xs x) (shallow_cells c (entities c.globals)) has) in
    let same = ok_values h.0 (insert before.globals x.path value) (set_well (global_scalars c) before.globals x value (Ok h.0) (globals_once c runs.declared runs.written) declared of h.1) in
    h.2 ∙ ap (with_globals before) same
global_set c runs before x value (Err why) after has of h =
    let declared = scalar_of (global_scalars c) x (subst (λ xs. Contains xs x) (shallow_cells c (entities c.globals)) has) in
    absurd (err_no (insert before.globals x.path value) why (set_well (global_scalars c) before.globals x value (Err why) (globals_once c runs.declared runs.written) declared of h.0))

-- a variable of a task
pub variable_set :
    {A : Type 0} (c : Config) (runs : IsRunnable c) (t : ℕ) (before : Group) (x : Cell) (value : Value) (result : Result A Unset) (after : Group) → IsOwnCell c t x → IsOf x.scalar value → SetsVariable c t before x.path value result after
    → (task : TaskState) → task_at before t ≡ Some task → after ≡ with_variables before t task (insert task.variables x.path value)
variable_set {A = A} c runs t before x value result after own of sets task there = by result (sets task own.0 there own.1)
  where
    declared : Contains (task_scalars c own.0) (x.path, x.scalar)
    declared = own_declared c own.0 (accepted c runs t own.0 own.1) x own.2

    by : (o : Result A Unset) → SetsTask c t own.0 task before x.path value o after → after ≡ with_variables before t task (insert task.variables x.path value)
    by (Ok done) h =
        let same = ok_values h.0 (insert task.variables x.path value) (set_well (task_scalars c own.0) task.variables x value (Ok h.0) (one_type c own.0 (accepted c runs t own.0 own.1)) declared of h.1) in
        h.2 ∙ ap (with_variables before t task) same
    by (Err why) h = absurd (err_no (insert task.variables x.path value) why (set_well (task_scalars c own.0) task.variables x value (Err why) (one_type c own.0 (accepted c runs t own.0 own.1)) declared of h.0))
