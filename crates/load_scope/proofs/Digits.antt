-- The value of digits against a limit.
use Rattle.std.proofs.Common.{◌≡◌, ℕ, ◌+◌, ◌-◌, ◌*◌, ◌<◌, Bool, true, false, List, [], ◌∷◌, length, drop, get_or, refl, ap, ◌∙◌, sym, pos, arith, if◌then◌else◌, add-one, drop-cons, suc}
use Rattle.std.proofs.lemmas.Bool.Decides.{nat_tests}
use Rattle.std.specs.Char.{is_ascii_digit}
use Rattle.std.specs.Prelude.{ℤ, int_le, Option, Some, None, is_some, option_map, option_and_then, bytes_eq, codes}
use Rattle.il_statics.specs.Names.{Spelling, decimal_value, car_number, task_role}
use Rattle.load_scope.specs.Cars.{up_to, car_of}
use Rattle.il_statics.specs.declared.names.Role.TheVariants.{Car, Group}

-- a number above the limit
not_within : (limit total : ℕ) → limit < total → int_le (pos total) (pos limit) ≡ false
not_within limit total large = grind (arith, nat_tests)

above : (limit total : ℕ) → limit < total → up_to (pos limit) (Some total) ≡ None
above limit total large = ap (λ b. if b then Some total else None) (not_within limit total large)

-- a number that is none is not within the limit
by_digit : (t : Bool) (limit : ℕ) (value : Option ℕ) → up_to (pos limit) value ≡ None → up_to (pos limit) (if t then value else None) ≡ None
by_digit true limit value e = e
by_digit false limit value e = refl

-- more digits make no number smaller
pub too_large : (limit total : ℕ) (bs : List ℕ) → limit < total → up_to (pos limit) (decimal_value total bs) ≡ None
too_large limit total [] large = above limit total large
too_large limit total (b ∷ bs) large = by_digit (is_ascii_digit b) limit (decimal_value (total * 10 + (b - 48)) bs) (too_large limit (total * 10 + (b - 48)) bs (omega arith))

-- one digit more
pub digit_next : (digits : List ℕ) (i total : ℕ) → i < length digits → is_ascii_digit (get_or digits i 0) ≡ true → decimal_value total (drop i digits) ≡ decimal_value (total * 10 + (get_or digits i 0 - 48)) (drop (i + 1) digits)
digit_next digits i total low is = rw (add-one, drop-cons digits i 0) (ap (λ t. if t then decimal_value (total * 10 + (get_or digits i 0 - 48)) (drop (suc i) digits) else None) is)

-- a car's task
pub role_is : (cars : ℤ) (name : Spelling) (group : Bool) → group ≡ bytes_eq name (codes "GROUP") → (if group then Some Group else (if is_some (car_of cars name) then Some Car else None)) ≡ task_role cars name
unfolding car_of
role_is cars name group is = rw (is) (by_group (bytes_eq name (codes "GROUP")) (car_number name))
  where
    by_group : (g : Bool) (k : Option ℕ) → (if g then Some Group else (if is_some (up_to cars k) then Some Car else None)) ≡ (if g then Some Group else option_and_then (λ j. if int_le (pos j) cars then Some Car else None) k)
    by_group true k = refl
    by_group false None = refl
    by_group false (Some j) = by_limit (int_le (pos j) cars)
      where
        by_limit : (b : Bool) → (if is_some (if b then Some j else None) then Some Car else None) ≡ (if b then Some Car else None)
        by_limit true = refl
        by_limit false = refl

-- the same, as the code tests it
role_by : (cars : ℤ) (name : Spelling) (group there : Bool) (k : Option ℕ) → group ≡ bytes_eq name (codes "GROUP") → k ≡ car_of cars name → there ≡ is_some k → (if group then Some Group else (if there then Some Car else None)) ≡ task_role cars name
role_by cars name group there k g n t = ap (λ b. if group then Some Group else (if b then Some Car else None)) (t ∙ ap is_some n) ∙ role_is cars name group g

pub role_of_car : (cars read : ℤ) (name : Spelling) (group there : Bool) (k : Option ℕ) → read ≡ cars → group ≡ bytes_eq name (codes "GROUP") → k ≡ car_of read name → there ≡ is_some k → group ≡ false → there ≡ true → Some Car ≡ task_role cars name
role_of_car cars read name group there k same g n t other is = sym (ap (λ b. if b then Some Group else (if there then Some Car else None)) other ∙ ap (λ b. if b then Some Car else None) is) ∙ role_by cars name group there k g (n ∙ ap (λ z. car_of z name) same) t

pub role_of_none : (cars read : ℤ) (name : Spelling) (group there : Bool) (k : Option ℕ) → read ≡ cars → group ≡ bytes_eq name (codes "GROUP") → k ≡ car_of read name → there ≡ is_some k → group ≡ false → there ≡ false → None ≡ task_role cars name
role_of_none cars read name group there k same g n t other is = sym (ap (λ b. if b then Some Group else (if there then Some Car else None)) other ∙ ap (λ b. if b then Some Car else None) is) ∙ role_by cars name group there k g (n ∙ ap (λ z. car_of z name) same) t
