-- The sizes of a group lie within their limits.
use Rattle.std.proofs.Common.{◌≡◌, ◌<◌, ◌≤◌, ℕ, ℤ, pos, nat_abs, Bool, true, false, refl, Contains, arith}
use Rattle.std.proofs.lemmas.Int.{ints}
use Rattle.std.specs.Prelude.{◌≤ℤ◌, negsuc, nat_le}
use Rattle.std.proofs.lemmas.Bool.{le-leb}
use Rattle.il_syntax.specs.declared.tree.Config.{Config}
use Rattle.il_syntax.specs.declared.tree.Size.{Size}
use Rattle.il_syntax.specs.declared.tree.Subrange.{Subrange}
use Rattle.il_statics.specs.Limits.{cars_limits, floors_limits, slots_limits}
use Rattle.il_statics.specs.Declarations.{is_within, sizes_of as sizes_with_limits, size_outside}
use Rattle.il_statics.specs.Faults.{HasNoFault, Broken, Declaring, initial_outside}
use Rattle.il_semantics_laws.proofs.Fresh.{within_is}
use Rattle.group_spec.specs.Limits.{most_cars}
use Rattle.group_spec.specs.Image.{sizes_of}
use Rattle.group_laws.specs.Tasks.{IsTaskOf}
use Rattle.scan_task.specs.Scanning.{IsRunnable}
use Rattle.il_syntax.specs.declared.tree.Unit.{Unit as ProgramUnit}

module _ (c : Config) (unbroken : HasNoFault (Broken Declaring c)) where
  size_within : (s : Size) (limits : Subrange) → Contains (sizes_with_limits c) (s, limits) → (limits.lower ≤ℤ s.value) × (s.value ≤ℤ limits.upper)
  size_within s limits among = by_test (is_within limits s.value) refl
    where
      by_test : (b : Bool) → is_within limits s.value ≡ b → (limits.lower ≤ℤ s.value) × (s.value ≤ℤ limits.upper)
      by_test true is = within_is limits s.value is
      by_test false is = absurd (unbroken 23 s.place (initial_outside refl (size_outside (s, limits) among is refl)))

  pub cars_within : (pos 1 ≤ℤ c.cars.value) × (c.cars.value ≤ℤ cars_limits.upper)
  cars_within = size_within c.cars cars_limits (0, omega arith, refl)

  pub floors_within : (pos 2 ≤ℤ c.floors.value) × (c.floors.value ≤ℤ pos 16)
  floors_within = size_within c.floors floors_limits (1, omega arith, refl)

  pub slots_within : (pos 1 ≤ℤ c.slots.value) × (c.slots.value ≤ℤ pos 64)
  slots_within = size_within c.slots slots_limits (2, omega arith, refl)

  -- there are at most 8 cars
  pub few_cars : (sizes_of c).cars ≤ most_cars
  few_cars = let h = cars_within in omega (arith, ints, h.0, h.1)

  -- so a task's number is at most 8
  pub few_tasks : (task : ℕ) (u : ProgramUnit) → IsTaskOf c task u → nat_le task most_cars ≡ true
  few_tasks task u is = let few = few_cars in let within = is.within in le-leb task most_cars (omega (arith, few, within))

-- a size is a number in a byte
pub byte_of : (z : ℤ) → pos 1 ≤ℤ z → z ≤ℤ pos 64 → (n : ℕ) × (z ≡ pos n) × (n < 256)
byte_of (pos n) low high = (n, refl, omega (arith, ints, high))
byte_of (negsuc n) low high = let no : ⊥ = omega (arith, ints, low) in absurd no

pub cars_byte : (c : Config) → HasNoFault (Broken Declaring c) → (n : ℕ) × (c.cars.value ≡ pos n) × (n < 256)
cars_byte c unbroken = let h = cars_within c unbroken in byte_of c.cars.value h.0 (omega (arith, ints, h.1))

pub floors_byte : (c : Config) → HasNoFault (Broken Declaring c) → (n : ℕ) × (c.floors.value ≡ pos n) × (n < 256)
floors_byte c unbroken = let h = floors_within c unbroken in byte_of c.floors.value (omega (arith, ints, h.0)) (omega (arith, ints, h.1))

pub slots_byte : (c : Config) → HasNoFault (Broken Declaring c) → (n : ℕ) × (c.slots.value ≡ pos n) × (n < 256)
slots_byte c unbroken = let h = slots_within c unbroken in byte_of c.slots.value h.0 h.1

-- THE SIZES OF A GROUP

-- a number within limits, as a size
sized : (lo hi : ℕ) (z : ℤ) → (pos lo ≤ℤ z) × (z ≤ℤ pos hi) → (lo ≤ nat_abs z) × (nat_abs z ≤ hi)
sized lo hi (pos n) h = (omega (arith, ints, h.0), omega (arith, ints, h.1))
sized lo hi (negsuc n) h = absurd (omega (arith, ints, h.0))

pub sizes_fit : (c : Config) (runs : IsRunnable c) → ((1 ≤ (sizes_of c).cars) × ((sizes_of c).cars ≤ most_cars)) × ((2 ≤ (sizes_of c).floors) × ((sizes_of c).floors ≤ 16)) × ((1 ≤ (sizes_of c).slots) × ((sizes_of c).slots ≤ 64))
sizes_fit c runs = (sized 1 8 c.cars.value (cars_within c runs.declared), sized 2 16 c.floors.value (floors_within c runs.declared), sized 1 64 c.slots.value (slots_within c runs.declared))
