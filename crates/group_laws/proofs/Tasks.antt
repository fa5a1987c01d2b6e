-- The tasks of an accepted configuration: their programs are accepted, and see the image of their role.
use Rattle.std.proofs.Common.{◌≡◌, ◌≢◌, ◌≤◌, ◌<◌, ◌+◌, ◌-◌, ◌*◌, ℕ, zero, suc, ◌∷◌, ◌++◌, ap₂, ne_eqb, ℤ, pos, Bool, true, false, List, [], map, filter, refl, sym, ap, ◌∙◌, Some, None, Option, Contains, arith}
use Rattle.std.proofs.lemmas.Int.{ints}
use Rattle.std.proofs.lemmas.Slice.Eq.{bytes_eq-Decides}
use Rattle.std.proofs.lemmas.Bool.{cond-false, le-leb}
use Rattle.std.proofs.lemmas.Fmt.{decimal_digit}
use Rattle.std.specs.Char.{is_ascii_digit}
use Rattle.std.specs.Prelude.{find, bytes_eq, int_le, ◌≤ℤ◌, ◌&&◌, ◌==◌, if◌then◌else◌, codes, option_and_then}
use Rattle.il_syntax.specs.declared.tree.Config.{Config}
use Rattle.il_syntax.specs.declared.tree.Size.{Size}
use Rattle.il_syntax.specs.declared.tree.Scalar.{Scalar}
use Rattle.il_syntax.specs.declared.tree.Subrange.{Subrange}
use Rattle.il_syntax.specs.declared.tree.ProgramLine.{ProgramLine}
use Rattle.il_syntax.specs.declared.tree.Unit.{Unit as ProgramUnit}
use Rattle.il_statics.specs.Limits.{cars_limits, floors_limits, slots_limits}
use Rattle.il_statics.specs.declared.names.Role.{Role}
use Rattle.il_statics.specs.declared.names.Role.TheVariants.{Car as CarRole, Group as GroupRole}
use Rattle.il_statics.specs.Names.{ImageName, is_seen_by, car_number, image_of, program_named, program_role, task_role}
use Rattle.il_statics.specs.Declarations.{is_within, sizes_of as sizes_with_limits, size_outside, other_role}
use Rattle.il_statics.specs.Faults.{HasNoFault, Broken, Declaring, initial_outside, bad_task}
use Rattle.base_maps.specs.NameMap.{Text}
use Rattle.il_semantics.specs.Scan.{program_of as line_program}
use Rattle.il_semantics_laws.specs.Accepted.{IsAccepted}
use Rattle.il_semantics_laws.specs.Listed.{seen_scalars, image_entity}
use Rattle.il_semantics.specs.Ranges.{entity_scalars}
use Rattle.il_semantics_laws.proofs.Lists.{found_in}
use Rattle.il_semantics_laws.proofs.Named.{name_of}
use Rattle.il_semantics_laws.proofs.Meant.{program_is}
use Rattle.il_semantics_laws.proofs.Fresh.{within_is}
use Rattle.group_spec.specs.Image.{sizes_of}
use Rattle.group_spec.specs.Snapshot.{task_name}
use Rattle.group_laws.specs.Tasks.{IsTaskOf, IsSized, role_of}
use Rattle.group_laws.specs.Seeing.{image_scalars}
use Rattle.group_laws.specs.Accepted.{IsSound}

-- NAMES

is_digit : (n : ℕ) → n < 10 → is_ascii_digit (48 + n) ≡ true
is_digit n few = ap₂ (λ a b. a && b) (le-leb 48 (48 + n) (omega arith)) (le-leb (48 + n) 57 (omega (arith, few)))

-- a car's number of one digit
one_digit : (n : ℕ) → 1 ≤ n → n < 10 → car_number (codes "CAR" ++ (48 + n) ∷ []) ≡ Some n
one_digit n least few =
    cond-false (48 + n == 48) None (if is_ascii_digit (48 + n) then Some (0 * 10 + (48 + n - 48)) else None) (ne_eqb (48 + n) 48 (λ e. omega (arith, least, e)))
    ∙ ap (λ b. if b then Some (0 * 10 + (48 + n - 48)) else None) (is_digit n few) ∙ ap Some (omega arith)

-- SIZES

module _ (c : Config) (unbroken : HasNoFault (Broken Declaring c)) where
  -- a size lies within its limits (23)
  size_within : (s : Size) (limits : Subrange) → Contains (sizes_with_limits c) (s, limits) → (limits.lower ≤ℤ s.value) × (s.value ≤ℤ limits.upper)
  size_within s limits among = by_test (is_within limits s.value) refl
    where
      by_test : (b : Bool) → is_within limits s.value ≡ b → (limits.lower ≤ℤ s.value) × (s.value ≤ℤ limits.upper)
      by_test true is = within_is limits s.value is
      by_test false is = absurd (unbroken 23 s.place (initial_outside refl (size_outside (s, limits) among is refl)))

  cars_within : (pos 1 ≤ℤ c.cars.value) × (c.cars.value ≤ℤ cars_limits.upper)
  cars_within = size_within c.cars cars_limits (0, omega arith, refl)

  pub floors_within : (pos 2 ≤ℤ c.floors.value) × (c.floors.value ≤ℤ pos 16)
  floors_within = size_within c.floors floors_limits (1, omega arith, refl)

  slots_within : (pos 1 ≤ℤ c.slots.value) × (c.slots.value ≤ℤ pos 64)
  slots_within = size_within c.slots slots_limits (2, omega arith, refl)

  pub is_sized : IsSized c
  is_sized = record { floors = let h = floors_within.0 in omega (arith, ints); slots = slots_within.0; cars = cars_within.0 }

  -- ROLES

  -- the number of a car is not greater than that of the cars
  car_is : (k : ℕ) → k ≤ (sizes_of c).cars → int_le (pos k) c.cars.value ≡ true
  car_is k within = by_cars c.cars.value refl
    where
      by_cars : (z : ℤ) → c.cars.value ≡ z → int_le (pos k) z ≡ true
      by_cars z is = by_test (int_le (pos k) z) refl
        where
          by_test : (b : Bool) → int_le (pos k) z ≡ b → b ≡ true
          by_test true e = refl
          by_test false e = let low = cars_within.0 in absurd (grind (arith, ints))

  -- a task's name has its role
  name_role : (t : ℕ) → t ≤ (sizes_of c).cars → task_role c.cars.value (task_name t) ≡ Some (role_of t)
  name_role zero within = refl
  name_role (suc k) within =
      let high = cars_within.1 in
      let low = cars_within.0 in
      let few : suc k < 10 = omega (arith, ints) in
      ap (λ (name : List ℕ). task_role c.cars.value (codes "CAR" ++ name)) (decimal_digit (suc k) few)
      ∙ ap (option_and_then (λ n. if int_le (pos n) c.cars.value then Some CarRole else None)) (one_digit (suc k) (omega arith) few)
      ∙ ap (λ b. if b then Some CarRole else None) (car_is (suc k) within)

  same_role : (o : Option Role) (r : Role) → ((o ≢ Some r) → ⊥) → o ≡ Some r
  same_role None r never = absurd (never (λ same. cc))
  same_role (Some CarRole) CarRole never = refl
  same_role (Some GroupRole) GroupRole never = refl
  same_role (Some CarRole) GroupRole never = absurd (never (λ same. cc))
  same_role (Some GroupRole) CarRole never = absurd (never (λ same. cc))

  -- a task's program has the role of the task (24)
  line_role : (line : ProgramLine) (t : ℕ) → Contains c.programs line → line.task.name ≡ task_name t → t ≤ (sizes_of c).cars → program_role c line.program.name c.programs ≡ Some (role_of t)
  line_role line t among named within =
      same_role (program_role c line.program.name c.programs) (role_of t) (λ other.
      unbroken 24 line.place (bad_task refl (other_role line (role_of t) among (ap (task_role c.cars.value) named ∙ name_role t within) other refl)))

-- PROGRAMS

-- the PROGRAM line of a task's program
pub record HasLine (c : Config) (t : ℕ) (u : ProgramUnit) : Type 0 where
  pub line : ProgramLine
  pub among : Contains c.programs line
  pub of_task : line.task.name ≡ task_name t
  pub program : program_named c line.program.name ≡ Some u

has_line : (c : Config) (t : ℕ) (u : ProgramUnit) → IsTaskOf c t u → HasLine c t u
has_line c t u is = by_line (find (λ l. bytes_eq (task_name t) l.task.name) c.programs) refl is.program
  where
    by_line : (o : Option ProgramLine) → find (λ l. bytes_eq (task_name t) l.task.name) c.programs ≡ o → line_program c o ≡ Some u → HasLine c t u
    by_line None at e = cc
    by_line (Some l) at e =
        let r = found_in (λ (l : ProgramLine). bytes_eq (task_name t) l.task.name) c.programs l at in
        record { line = l; among = r.0; of_task = sym ((bytes_eq-Decides (task_name t) l.task.name).0 r.1); program = e }

pub task_accepted : (c : Config) → IsSound c → (t : ℕ) (u : ProgramUnit) → IsTaskOf c t u → IsAccepted c u
task_accepted c sound t u is =
    let l = has_line c t u is in
    let named = name_of c l.line.program.name u (program_is c l.line.program.name u l.program).0 in
    record { written = sound.written; declared = sound.declared; typed = sound.typed; ordered = sound.ordered; program = ap (program_named c) named ∙ l.program }

-- a task's program sees the image of the task's role
pub same_image : (c : Config) → IsSound c → (t : ℕ) (u : ProgramUnit) → IsTaskOf c t u → seen_scalars c u ≡ image_scalars c t
same_image c sound t u is =
    let l = has_line c t u is in
    let p = program_is c l.line.program.name u l.program in
    let role : program_role c u.name.name c.programs ≡ Some (role_of t) = ap (λ n. program_role c n c.programs) (name_of c l.line.program.name u p.0) ∙ line_role c sound.declared l.line t l.among l.of_task is.within in
    ap (scalars_by (program_role c u.name.name c.programs)) p.1 ∙ ap (λ r. scalars_by r true) role
  where
    scalars_by : Option Role → Bool → List (Text × Scalar)
    scalars_by r b = entity_scalars (λ _ _. []) [] (map image_entity (filter (λ (i : ImageName). b && is_seen_by r i.audience) (image_of c.cars.value c.floors.value c.slots.value)))
