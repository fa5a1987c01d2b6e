-- A group that is set piece by piece keeps what holds of it.
use Rattle.std.proofs.Common.{◌≡◌, ℕ, zero, suc, ◌-◌, ◌≤◌, ◌⊎◌, inl, inr, true, false, ◌==◌, List, [], ◌∷◌, length, Option, Some, Result, Ok, Err, All, refl, sym, ap, ap₂, ◌∙◌, subst, arith}
use Rattle.std.specs.Prelude.{slice_get, slice_set}
use Rattle.std.proofs.lemmas.List.Elements.{All-weaker}
use Rattle.il_syntax.specs.declared.tree.Config.{Config}
use Rattle.il_syntax.specs.declared.tree.Unit.{Unit as ProgramUnit}
use Rattle.base_maps.specs.NameMap.{Text}
use Rattle.il_semantics.specs.declared.value.Value.{Value}
use Rattle.il_semantics.specs.Ranges.{HoldGlobals, task_scalars}
use Rattle.load_slots.specs.Layout.{Rows}
use Rattle.scan_task.specs.declared.setting.Unset.{Unset}
use Rattle.scan_task.specs.Scanning.{variables_in}
use Rattle.scan_task.specs.Setting.{SetsRows, SetsGlobals}
use Rattle.scan_task.specs.Sharing.{globals_in, FitsGlobals}
use Rattle.group_spec.specs.declared.calls.Slot.{Slot}
use Rattle.group_spec.specs.declared.calls.Slot.TheVariants.{Free, Waiting, Told}
use Rattle.group_spec.specs.declared.image.CarOutputs.{CarOutputs}
use Rattle.group_spec.specs.declared.image.Fields.{Fields}
use Rattle.group_spec.specs.declared.image.Image.{Image}
use Rattle.group_spec.specs.declared.image.Sizes.{Sizes}
use Rattle.group_spec.specs.Calls.{Calls, SlotInRange, ticket_of, with_slot, greatest_ticket}
use Rattle.group_spec.specs.Image.{sizes_of, FieldsInRange, Obeys}
use Rattle.group_spec.specs.World.{TaskState, flat, task_at}
use Rattle.group_laws.specs.Holding.{ticket_at}
use Rattle.group_laws.specs.Tasks.{IsTaskOf}
use Rattle.group_laws.proofs.Lists.{all_set, same_or_other}
use Rattle.group_world.specs.declared.shared.Shared.{Shared}
use Rattle.group_world.specs.declared.shared.TaskMemory.{TaskMemory}
use Rattle.group_world.specs.Running.{memory_at, task_in, task_by, group_in, SharedFits, HoldsShared}
use Rattle.group_world.specs.Setting.{IsFreshAt, with_image, with_variables, SetsGlobal, SetsTask, SetsAmong}
use Rattle.group_world.proofs.Grouped.{task_is}
use Rattle.group_world.proofs.Keeping.{memories_put, memories_same}
use Rattle.group_world.proofs.Views.{flat_some, length_set, after_set, set_same, task_put}

-- TICKETS

ticket_set : (slots : List Slot) (k n : ℕ) (slot : Slot) → ticket_at (slice_set slots k slot) k ≡ Some n → ticket_of slot ≡ Some n
ticket_set [] zero n slot e = cc
ticket_set [] (suc k) n slot e = cc
ticket_set (x ∷ slots) zero n slot e = e
ticket_set (x ∷ slots) (suc k) n slot e = ticket_set slots k n slot e

ticket_other : (slots : List Slot) (k j : ℕ) (slot : Slot) → (j ≡ k → ⊥) → ticket_at (slice_set slots k slot) j ≡ ticket_at slots j
ticket_other [] zero j slot h = refl
ticket_other [] (suc k) j slot h = refl
ticket_other (x ∷ slots) zero zero slot h = absurd (h refl)
ticket_other (x ∷ slots) zero (suc j) slot h = refl
ticket_other (x ∷ slots) (suc k) zero slot h = refl
ticket_other (x ∷ slots) (suc k) (suc j) slot h = ticket_other slots k j slot (λ e. h (ap suc e))

-- no two slots are under one ticket
abbrev AreDistinct : List Slot → Type 0
AreDistinct slots = (i j n : ℕ) → ticket_at slots i ≡ Some n → ticket_at slots j ≡ Some n → i ≡ j

distinct_set : (slots : List Slot) (k : ℕ) (slot : Slot) → AreDistinct slots → ((j n : ℕ) → (j ≡ k → ⊥) → ticket_of slot ≡ Some n → ticket_at slots j ≡ Some n → ⊥) → AreDistinct (slice_set slots k slot)
distinct_set slots k slot old new i j n at_i at_j = by (same_or_other i k) (same_or_other j k)
  where
    at : (l : ℕ) → l ≡ k → ticket_at (slice_set slots k slot) l ≡ Some n → ticket_of slot ≡ Some n
    at l same e = ticket_set slots k n slot (subst (λ m. ticket_at (slice_set slots k slot) m ≡ Some n) same e)

    by : ((i ≡ k) × ((i == k) ≡ true)) ⊎ ((i ≡ k → ⊥) × ((i == k) ≡ false)) → ((j ≡ k) × ((j == k) ≡ true)) ⊎ ((j ≡ k → ⊥) × ((j == k) ≡ false)) → i ≡ j
    by (inl a) (inl b) = a.0 ∙ sym b.0
    by (inl a) (inr b) = absurd (new j n b.0 (at i a.0 at_i) (sym (ticket_other slots k j slot b.0) ∙ at_j))
    by (inr a) (inl b) = absurd (new i n a.0 (at j b.0 at_j) (sym (ticket_other slots k i slot a.0) ∙ at_i))
    by (inr a) (inr b) = old i j n (sym (ticket_other slots k i slot a.0) ∙ at_i) (sym (ticket_other slots k j slot b.0) ∙ at_j)

-- a slot that is put under a ticket that no other is under
pub distinct_put : (slots : List Slot) (slot : ℕ) (place : Slot) → 1 ≤ slot → AreDistinct slots → IsFreshAt slots slot place → AreDistinct (with_slot slots slot place)
distinct_put slots zero place some old fresh = absurd (omega (arith, some))
distinct_put slots (suc k) place some old fresh =
    let back : suc k - 1 ≡ k = omega arith in
    distinct_set slots k place old (λ j n other under there. other (fresh j n there under ∙ back))

pub length_put : (slots : List Slot) (slot : ℕ) (place : Slot) → length (with_slot slots slot place) ≡ length slots
length_put slots zero place = refl
length_put slots (suc k) place = length_set slots k place

pub each_put : (sizes : Sizes) (last : ℕ) (slots : List Slot) (slot : ℕ) (place : Slot) → SlotInRange sizes last place → All (SlotInRange sizes last) slots → All (SlotInRange sizes last) (with_slot slots slot place)
each_put sizes last slots zero place here each = each
each_put sizes last slots (suc k) place here each = all_set (SlotInRange sizes last) slots k place here each

later_slot : (sizes : Sizes) (last later : ℕ) → last ≤ later → (slot : Slot) → SlotInRange sizes last slot → SlotInRange sizes later slot
later_slot sizes last later low Free h = h
later_slot sizes last later low (Waiting ticket call) h = let most = h.2 in (h.0, h.1, omega (arith, most, low))
later_slot sizes last later low (Told ticket call car) h = let most = h.2 in (h.0, h.1, omega (arith, most, low), h.3, h.4)

-- slots are in range where a later ticket was the last
pub each_later : (sizes : Sizes) (last later : ℕ) (slots : List Slot) → last ≤ later → All (SlotInRange sizes last) slots → All (SlotInRange sizes later) slots
each_later sizes last later slots low each = All-weaker (SlotInRange sizes last) (SlotInRange sizes later) (later_slot sizes last later low) slots each

-- IMAGE, CALLS AND GLOBALS

-- an image of these fields and outputs
abbrev pub image_of : Fields → List CarOutputs → Image
image_of fields outputs = record { fields = fields; outputs = outputs }

module _ (c : Config) (k after : Shared) (holds : HoldsShared c k) (memories : after.memories ≡ k.memories) where
  fits_so : FitsGlobals c after.globals → SharedFits c after
  fits_so globals = record { memories = memories_same c k after holds.fits.memories memories; globals = globals }

  many_so : length after.memories.items ≡ suc (sizes_of c).cars
  many_so = ap (λ m. length m.items) memories ∙ holds.many

  saw_so : (t : ℕ) (s : TaskMemory) (tickets : List (Option ℕ)) → memory_at after t ≡ Some s → s.tickets ≡ Some tickets → length tickets ≡ (sizes_of c).slots
  saw_so t s tickets there saw = holds.saw t s tickets (ap (λ m. flat (slice_get m.items t)) (sym memories) ∙ there) saw

  -- another image
  pub image_holds : (image : Image) → after.image ≡ image → after.calls ≡ k.calls → after.globals ≡ k.globals → FieldsInRange (sizes_of c) image.fields → Obeys image → HoldsShared c after
  image_holds image is calls globals fields obeys = record {
    runnable = holds.runnable;
    fits = fits_so (rw globals holds.fits.globals);
    ranges = rw (is, calls, globals) (record { fields = fields; outputs = obeys.cars ∙ fields.cars; slots = holds.ranges.slots; each_slot = holds.ranges.each_slot; globals = holds.ranges.globals });
    obeys = rw is obeys;
    tickets = rw calls holds.tickets;
    many = many_so;
    saw = saw_so;
  }

  pub image_group : (image : Image) → after.image ≡ image → after.calls ≡ k.calls → after.globals ≡ k.globals → group_in c after ≡ with_image (group_in c k) image
  image_group image is calls globals = rw (is, calls, globals, memories) refl

  -- other calls
  module _ (slots : List Slot) (last : ℕ) (slots_are : after.calls.slots ≡ slots) (last_is : after.calls.last_ticket ≡ last) (image : after.image ≡ k.image) (globals : after.globals ≡ k.globals) where
    calls_are : after.calls ≡ record { slots = slots; last_ticket = last }
    calls_are = ap₂ (λ s l. record { slots = s; last_ticket = l }) slots_are last_is

    pub calls_hold : length slots ≡ (sizes_of c).slots → All (SlotInRange (sizes_of c) last) slots → last ≤ greatest_ticket → AreDistinct slots → HoldsShared c after
    calls_hold long each most distinct = record {
      runnable = holds.runnable;
      fits = fits_so (rw globals holds.fits.globals);
      ranges = rw (image, globals, calls_are) (record { fields = holds.ranges.fields; outputs = holds.ranges.outputs; slots = long; each_slot = each; globals = holds.ranges.globals });
      obeys = rw image holds.obeys;
      tickets = rw calls_are (record { last = most; distinct = distinct });
      many = many_so;
      saw = saw_so;
    }

    pub calls_group : group_in c after ≡ record (group_in c k) { calls = record { slots = slots; last_ticket = last } }
    calls_group = rw (image, globals, memories) (ap (λ (x : Calls). record { image = k.image; calls = x; globals = globals_in c k.globals; tasks = (group_in c k).tasks }) calls_are)

  -- other globals
  module _ (image : after.image ≡ k.image) (calls : after.calls ≡ k.calls) where
    pub globals_hold : FitsGlobals c after.globals → HoldGlobals c (globals_in c after.globals) → HoldsShared c after
    globals_hold fits shared = record {
      runnable = holds.runnable;
      fits = fits_so fits;
      ranges = rw (image, calls) (record { fields = holds.ranges.fields; outputs = holds.ranges.outputs; slots = holds.ranges.slots; each_slot = holds.ranges.each_slot; globals = shared });
      obeys = rw image holds.obeys;
      tickets = rw calls holds.tickets;
      many = many_so;
      saw = saw_so;
    }

    pub global_set : {A : Type 0} (path : Text) (value : Value) (result : Result A Unset) → SetsGlobals c k.globals path value result after.globals → SetsGlobal c (group_in c k) path value result (group_in c after)
    global_set path value (Ok done) h = (globals_in c after.globals, h, rw (image, calls, memories) refl)
    global_set path value (Err why) h = (h.0, rw (image, calls, memories) (ap (λ (r : Rows). record { image = k.image; calls = k.calls; globals = globals_in c r; tasks = (group_in c k).tasks }) h.1))

-- VARIABLES

some_same : (a b : TaskState) → Some a ≡ Some b → a ≡ b
some_same a b e = cc

module _ {A : Type 0} (c : Config) (k after : Shared) (holds : HoldsShared c k) (t : ℕ) (s : TaskMemory) (there : memory_at k t ≡ Some s) (path : Text) (value : Value) (result : Result A Unset) (sets : SetsAmong c t k s path value result after) (image : after.image ≡ k.image) (calls : after.calls ≡ k.calls)
    (globals : after.globals ≡ k.globals) where
  abbrev memory : TaskMemory
  memory = record { variables = sets.0; tickets = s.tickets }

  pub variable_holds : HoldsShared c after
  variable_holds = record {
    runnable = holds.runnable;
    fits = record { memories = memories_put c k after t sets.0 s.tickets holds.fits.memories sets.1 sets.2 sets.3; globals = rw globals holds.fits.globals };
    ranges = rw (image, calls, globals) (record { fields = holds.ranges.fields; outputs = holds.ranges.outputs; slots = holds.ranges.slots; each_slot = holds.ranges.each_slot; globals = holds.ranges.globals });
    obeys = rw image holds.obeys;
    tickets = rw calls holds.tickets;
    many = ap length sets.1 ∙ length_set k.memories.items t (Some memory) ∙ holds.many;
    saw = λ j x tickets at saw.
        elim (after_set k.memories.items t j memory x (ap (λ l. flat (slice_get l j)) (sym sets.1) ∙ at)) [
          | inl now ↦ holds.saw t s tickets there (ap (λ (y : TaskMemory). y.tickets) now.1 ∙ saw)
          | inr was ↦ holds.saw j x tickets was saw
        ];
  }

  task_there : task_at (group_in c k) t ≡ Some (task_in c t s)
  task_there = task_is c k t ∙ ap (task_by c t) there

  group_with : group_in c after ≡ with_variables (group_in c k) t (task_in c t s) (variables_in c t sets.0)
  group_with = rw (image, calls, globals, sets.1) (ap (λ ts. record { image = k.image; calls = k.calls; globals = globals_in c k.globals; tasks = ts }) (task_put c k.memories.items t memory))

  group_same : sets.0 ≡ s.variables → group_in c after ≡ group_in c k
  group_same same =
      group_with ∙ ap (λ (v : Rows). with_variables (group_in c k) t (task_in c t s) (variables_in c t v)) same
      ∙ ap (λ ts. record { image = k.image; calls = k.calls; globals = globals_in c k.globals; tasks = ts }) (set_same (group_in c k).tasks t (Some (task_in c t s)) (flat_some (slice_get (group_in c k).tasks t) (task_in c t s) task_there))

  pub variable_set : (x : TaskState) (u : ProgramUnit) → task_at (group_in c k) t ≡ Some x → IsTaskOf c t u → SetsTask c t u x (group_in c k) path value result (group_in c after)
  variable_set x u at is = subst (λ (y : TaskState). SetsTask c t u y (group_in c k) path value result (group_in c after)) (some_same (task_in c t s) x (sym task_there ∙ at)) (by result (sets.4 u is))
    where
      by : (o : Result A Unset) → SetsRows (task_scalars c u) (variables_in c t) s.variables path value o sets.0 → SetsTask c t u (task_in c t s) (group_in c k) path value o (group_in c after)
      by (Ok done) h = (variables_in c t sets.0, h, group_with)
      by (Err why) h = (h.0, group_same h.1)
