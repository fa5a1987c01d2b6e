use Rattle.std.proofs.Common.{rules, arith, ◌≡◌, ℕ, ◌≤◌, ◌≤ℤ◌, ◌-◌, ◌*◌, ◌<◌, Bool, nat_eq, w16, ℤ, pos, negsuc, ◌+ℤ◌, ◌-ℤ◌, ◌*ℤ◌, FitsSigned, to_z, of_z, ◌∙◌, ap, refl}
use Rattle.std.specs.Prelude.{nat_abs, int_div, int_rem, int_le, ◌==◌}
use Rattle.std.proofs.lemmas.Int.{to_z-of_z, ints, rem_below, quot-rem, fits_signed_from_abs, quot_fits}
use Rattle.group_spec.specs.declared.image.CarFields.{CarFields}
use Rattle.group_spec.specs.Plant.{kept_within}
use Rattle.group_plant.proofs.car.car_fields.Goals as goal

-- fields are equal part by part
same_fields : (p q : ℕ) (level level' top top' bottom bottom' locked opened : Bool) → p ≡ q → level ≡ level' → top ≡ top' → bottom ≡ bottom'
    → ◌≡◌ {A = CarFields} (record { pos = p; level = level; top = top; bottom = bottom; locked = locked; opened = opened }) (record { pos = q; level = level'; top = top'; bottom = bottom'; locked = locked; opened = opened })
same_fields p q level level' top top' bottom bottom' locked opened a b d e = cc

-- the bits of a number are 0 where the number is
zero_bits : (z : ℤ) → FitsSigned w16 z → nat_eq (of_z w16 z) 0 ≡ (nat_abs z == 0)
zero_bits (pos n) f = refl
zero_bits (negsuc n) f = grind (arith, f.sfits)

level_is : (place : ℤ) → FitsSigned w16 place → nat_eq (of_z w16 (int_rem (to_z w16 (of_z w16 place)) (pos 10))) 0 ≡ (nat_abs (int_rem place (pos 10)) == 0)
level_is place f = rw to_z-of_z (zero_bits (int_rem place (pos 10)) (fits_signed_from_abs w16 (int_rem place (pos 10)) (let h = rem_below place (pos 10) (omega arith) in omega arith)))

bottom_is : (place : ℤ) → FitsSigned w16 place → int_le (to_z w16 (of_z w16 place)) (pos 0) ≡ int_le place (pos 0)
bottom_is place f = rw to_z-of_z refl

top_is : (place : ℤ) (floors : ℕ) (f : ℤ) → FitsSigned w16 place → 2 ≤ floors → floors ≤ 16 → f ≡ pos floors
    → int_le (to_z w16 (of_z w16 (pos 10 *ℤ to_z w16 (of_z w16 (to_z w16 (of_z w16 f) -ℤ pos 1))))) (to_z w16 (of_z w16 place)) ≡ int_le (pos (10 * (floors - 1))) place
top_is place floors f fits two most e =
    let low : to_z w16 (of_z w16 (pos 10 *ℤ to_z w16 (of_z w16 (to_z w16 (of_z w16 f) -ℤ pos 1)))) ≡ pos (10 * (floors - 1)) = omega (arith, ints) in
    rw (low, to_z-of_z) refl

-- a tenth of a place, rounded, and one more: the sum fits
floor_fits : (q r a : ℤ) → q *ℤ pos 10 +ℤ r ≡ a → nat_abs r < 10 → negsuc 4 ≤ℤ a → a ≤ℤ pos 165 → FitsSigned w16 q → to_z w16 (of_z w16 (to_z w16 (of_z w16 q) +ℤ pos 1)) ≡ q +ℤ pos 1
floor_fits q r a back small low high fits = omega (arith, ints)

pos_is : (place f n : ℤ) (floors p : ℕ) → FitsSigned w16 place → negsuc 9 ≤ℤ place → place ≤ℤ pos 160 → f ≡ pos floors → floors ≤ 16 → FitsSigned w16 n
    → n ≡ kept_within (pos 1) (to_z w16 (of_z w16 f)) (to_z w16 (of_z w16 (to_z w16 (of_z w16 (int_div (to_z w16 (of_z w16 (to_z w16 (of_z w16 place) +ℤ pos 5))) (pos 10))) +ℤ pos 1)))
    → p ≡ nat_abs (to_z w16 (of_z w16 n)) → p ≡ nat_abs (kept_within (pos 1) (pos floors) (int_div (place +ℤ pos 5) (pos 10) +ℤ pos 1))
pos_is place f n floors p fits low high e most fits_n kept abs =
    let ef : to_z w16 (of_z w16 f) ≡ pos floors = omega (arith, ints) in
    let ep : to_z w16 (of_z w16 (to_z w16 (of_z w16 place) +ℤ pos 5)) ≡ place +ℤ pos 5 = omega (arith, ints) in
    let fp : FitsSigned w16 (place +ℤ pos 5) = search (rules, arith, ints) in
    let fq : FitsSigned w16 (int_div (place +ℤ pos 5) (pos 10)) = quot_fits w16 (place +ℤ pos 5) (pos 10) fp (search rules) in
    let small = rem_below (place +ℤ pos 5) (pos 10) (omega arith) in
    let eq = floor_fits (int_div (place +ℤ pos 5) (pos 10)) (int_rem (place +ℤ pos 5) (pos 10)) (place +ℤ pos 5) (quot-rem (place +ℤ pos 5) (pos 10)) small (omega (arith, ints)) (omega (arith, ints)) fq in
    let k = rw (ef, ep, eq) at kept in
    abs ∙ ap nat_abs (to_z-of_z w16 n fits_n ∙ k)

pub returns : goal.returns
returns c =
    let fits : FitsSigned w16 c.args.car.place = search rules in
    let low : negsuc 9 ≤ℤ c.args.car.place = search rules in
    let most : c.args.floors ≤ 16 = search rules in
    let high : c.args.car.place ≤ℤ pos (10 * c.args.floors) = search rules in
    same_fields _ _ _ _ _ _ _ _ _ _
    (pos_is c.args.car.place c.from.result c.nearest-floor.result c.args.floors c.unsigned_abs.result fits low (omega (arith, ints)) c.from.ensures most (search rules) c.nearest-floor.ensures.value c.unsigned_abs.ensures.value)
    (level_is c.args.car.place fits)
    (top_is c.args.car.place c.args.floors c.from-2.result fits (search rules) most c.from-2.ensures)
    (bottom_is c.args.car.place fits)
