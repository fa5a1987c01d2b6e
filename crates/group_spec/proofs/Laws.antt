-- Laws of the definitions: the test of fields, the opening image, and what an Instruction leaves.
use Rattle.std.specs.Prelude.{◌≡◌, ℕ, zero, suc, ◌+◌, ◌≤◌, Bool, true, false, ◌&&◌, List, [], ◌∷◌, length, All, nat_le, ◌==◌, Ok, Err, Option, Some, None, unwrap_or, replicate, slice_get, slice_set, refl, IsTrue, ◌↔◌}
use Rattle.std.proofs.Common.{ap, subst, arith, eqb-true, eq-eqb}
use Rattle.std.proofs.lemmas.Bool.Decides.{leb_tells}
use Rattle.group_spec.specs.declared.image.Sizes.{Sizes}
use Rattle.group_spec.specs.declared.image.CarFields.{CarFields}
use Rattle.group_spec.specs.declared.image.Fields.{Fields}
use Rattle.group_spec.specs.Image.{running_from, opening_car, opening_outputs, opening_image, CarObeys, Obeys, IsFloor, is_floor, FieldsInRange, positions_in_range, fields_in_range}
use Rattle.group_spec.proofs.Interlock.{false_true}
use Rattle.il_syntax.specs.declared.tree.Config.{Config}
use Rattle.group_spec.specs.declared.image.Motor.TheVariants.{Up, Down, Still}
use Rattle.group_spec.specs.declared.image.CarOutputs.{CarOutputs}
use Rattle.group_spec.specs.declared.event.Event.TheVariants.{Instruction}
use Rattle.group_spec.specs.Replies.{Reply}
use Rattle.il_semantics.specs.Step.{Outcome, Next as Goes, Trapped, Stuck, step as scan_step}
use Rattle.il_semantics.specs.State.{State}
use Rattle.il_semantics.specs.Scan.{has_ended}
use Rattle.group_spec.specs.World.{World, TaskState, Next, ChangesScanOnly, stepped, instructs, instructs_in, instructs_scan, scan_at, task_at, happens}

pub both_true : (a b : Bool) → (a && b) ≡ true → (a ≡ true) × (b ≡ true)
both_true true true h = (refl, refl)
both_true true false h = false_true h
both_true false b h = false_true h

at_most : (m n : ℕ) → nat_le m n ≡ true → m ≤ n
at_most m n h = grind (arith, leb_tells, h)

is_floor_means : (sizes : Sizes) (floor : ℕ) → is_floor sizes floor ≡ true → IsFloor sizes floor
is_floor_means sizes floor h = let parts = both_true (nat_le 1 floor) (nat_le floor sizes.floors) h in (at_most 1 floor parts.0, at_most floor sizes.floors parts.1)

positions_mean : (sizes : Sizes) (cars : List CarFields) → positions_in_range sizes cars ≡ true → All (λ car. IsFloor sizes car.pos) cars
positions_mean sizes [] h k d l = absurd (omega (arith, l))
positions_mean sizes (car ∷ cars) h zero d l = is_floor_means sizes car.pos (both_true (is_floor sizes car.pos) (positions_in_range sizes cars) h).0
positions_mean sizes (car ∷ cars) h (suc k) d l = positions_mean sizes cars (both_true (is_floor sizes car.pos) (positions_in_range sizes cars) h).1 k d (omega (arith, l))

-- where the test passes, the fields lie in their ranges
pub fields_in_range_means : (sizes : Sizes) (fields : Fields) → fields_in_range sizes fields ≡ true → FieldsInRange sizes fields
fields_in_range_means sizes fields h =
    let a = both_true (length fields.cars == sizes.cars) (positions_in_range sizes fields.cars && (nat_le fields.time 2147483647 && nat_le fields.run_limit sizes.cars)) h in
    let b = both_true (positions_in_range sizes fields.cars) (nat_le fields.time 2147483647 && nat_le fields.run_limit sizes.cars) a.1 in
    let c = both_true (nat_le fields.time 2147483647) (nat_le fields.run_limit sizes.cars) b.1 in
    record { cars = eqb-true (length fields.cars) sizes.cars a.0; positions = positions_mean sizes fields.cars b.0; time = at_most fields.time 2147483647 c.0; run_limit = at_most fields.run_limit sizes.cars c.1 }

-- The opening image obeys.
none_running : (count a : ℕ) → running_from a (replicate count opening_outputs) ≡ []
none_running zero a = refl
none_running (suc count) a = none_running count (a + 1)

get_replicate : {X : Type 0} (count i : ℕ) (x y : X) → slice_get (replicate count x) i ≡ Some y → x ≡ y
get_replicate zero i x y h = false_true (ap (λ o. elim o [ None ↦ false | Some z ↦ true ]) h)
get_replicate (suc count) zero x y h = ap (λ o. unwrap_or o x) h
get_replicate (suc count) (suc i) x y h = get_replicate count i x y h

opening_car_obeys : CarObeys opening_car opening_outputs
opening_car_obeys =
    record {
      running = λ r. false_true r;
      up = λ e. false_true (ap (λ m. elim m [ Up ↦ true | Down ↦ true | Still ↦ false ]) e);
      down = λ e. false_true (ap (λ m. elim m [ Up ↦ true | Down ↦ true | Still ↦ false ]) e);
      opening = λ o. false_true o;
    }

same_count : {X Y : Type 0} (count : ℕ) (x : X) (y : Y) → length (replicate count x) ≡ length (replicate count y)
same_count zero x y = refl
same_count (suc count) x y = let rest : length (replicate count x) ≡ length (replicate count y) = same_count count x y in omega (arith, rest)

pub opening_obeys : (sizes : Sizes) → Obeys (opening_image sizes)
opening_obeys sizes =
    record {
      cars = same_count sizes.cars opening_outputs opening_car;
      each = λ car f o is_fields is_outputs.
          let P : CarFields → Type 0 = λ x. CarObeys x o in
          let Q : CarOutputs → Type 0 = λ x. CarObeys opening_car x in
          subst P (get_replicate sizes.cars car opening_car f is_fields) (subst Q (get_replicate sizes.cars car opening_outputs o is_outputs) opening_car_obeys);
      limit = let none : length (running_from 1 (replicate sizes.cars opening_outputs)) ≡ 0 = ap length (none_running sizes.cars 1) in omega (arith, none);
      fire = λ on car o is_outputs up. false_true on;
    }

-- An Instruction of one task leaves the group and every other task's scan as they were.
get_other : {X : Type 0} (xs : List X) (k j : ℕ) (v : X) → (j ≡ k → ⊥) → slice_get (slice_set xs k v) j ≡ slice_get xs j
get_other [] k j v h = refl
get_other (x ∷ xs) zero zero v h = absurd (h refl)
get_other (x ∷ xs) zero (suc j) v h = refl
get_other (x ∷ xs) (suc k) zero v h = refl
get_other (x ∷ xs) (suc k) (suc j) v h = get_other xs k j v (λ e. h (ap suc e))

same_changes : (t : ℕ) (w : World) → ChangesScanOnly t w w
same_changes t w = record { group = refl; desk = refl; hand = refl; others = λ other h. refl }

abbrev Leaves : ℕ → World → Next → Type 0
Leaves t w (Ok n) = ChangesScanOnly t w n.0
Leaves t w (Err trap) = Unit {0}

stepped_leaves : (w : World) (t : ℕ) (o : Outcome) → Leaves t w (stepped w t o)
stepped_leaves w t (Trapped trap) = tt
stepped_leaves w t Stuck = tt
stepped_leaves w t (Goes s) = record { group = refl; desk = refl; hand = refl; others = λ other h. get_other w.scans t other _ h }

instructs_scan_leaves : (p : Config) (w : World) (t : ℕ) (scan : State) (b : Bool) → Leaves t w (instructs_scan p w t scan b)
instructs_scan_leaves p w t scan true = same_changes t w
instructs_scan_leaves p w t scan false = stepped_leaves w t (scan_step p scan)

instructs_in_leaves : (p : Config) (w : World) (t : ℕ) (o : Option State) → Leaves t w (instructs_in p w t o)
instructs_in_leaves p w t None = same_changes t w
instructs_in_leaves p w t (Some scan) = instructs_scan_leaves p w t scan (has_ended scan)

instructs_leaves : (p : Config) (w : World) (t : ℕ) (o : Option TaskState) → Leaves t w (instructs p w t o)
instructs_leaves p w t None = same_changes t w
instructs_leaves p w t (Some task) = instructs_in_leaves p w t (scan_at w t)

pub instruction_leaves : (p : Config) (w : World) (t : ℕ) (v : World) (r : Reply) → happens p w (Instruction t) ≡ Ok (v, r) → ChangesScanOnly t w v
unfolding happens
instruction_leaves p w t v r h =
    let P : Next → Type 0 = λ n. Leaves t w n in
    subst P h (instructs_leaves p w t (task_at w.group t))

-- where the fields lie in their ranges, the test passes
both : (a b : Bool) → a ≡ true → b ≡ true → (a && b) ≡ true
both true b h k = k
both false b h k = false_true h

test_le : (m n : ℕ) → m ≤ n → nat_le m n ≡ true
test_le m n h = grind (arith, leb_tells, h)

positions_pass : (sizes : Sizes) (cars : List CarFields) → All (λ car. IsFloor sizes car.pos) cars → positions_in_range sizes cars ≡ true
positions_pass sizes [] h = refl
positions_pass sizes (car ∷ cars) h =
    let here : IsFloor sizes car.pos = h 0 car (omega arith) in
    both (is_floor sizes car.pos) (positions_in_range sizes cars) (both (nat_le 1 car.pos) (nat_le car.pos sizes.floors) (test_le 1 car.pos here.0) (test_le car.pos sizes.floors here.1))
    (positions_pass sizes cars (λ k d l. h (suc k) d (omega (arith, l))))

pub range_test : (sizes : Sizes) (fields : Fields) → IsTrue (fields_in_range sizes fields) ↔ FieldsInRange sizes fields
range_test sizes fields = (
  λ yes. fields_in_range_means sizes fields yes,
  λ h.
      both (length fields.cars == sizes.cars) _ (eq-eqb (length fields.cars) sizes.cars h.cars)
      (both (positions_in_range sizes fields.cars) _ (positions_pass sizes fields.cars h.positions) (both (nat_le fields.time 2147483647) _ (test_le fields.time 2147483647 h.time) (test_le fields.run_limit sizes.cars h.run_limit))),
)
