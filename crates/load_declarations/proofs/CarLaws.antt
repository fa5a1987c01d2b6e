-- Cars without a task: what is found is what is broken.
use Rattle.std.proofs.Common.{◌≡◌, ℕ, zero, suc, ◌≤◌, Bool, true, false, ◌||◌, List, [], ◌∷◌, refl, sym, ap, ◌∙◌, subst, Option, Some, None, if◌then◌else◌, arith}
use Rattle.std.specs.Prelude.{ℤ, pos, int_le, ◌≤ℤ◌, nat_eq, Contains}
use Rattle.std.specs.List.{list_any}
use Rattle.std.proofs.lemmas.Int.{ints}
use Rattle.std.proofs.lemmas.Bool.Decides.{Decides-eqb}
use borrow.Author.Differences.{le-false}
use Rattle.il_syntax.specs.declared.tree.Config.{Config}
use Rattle.il_syntax.specs.declared.tree.Task.{Task}
use Rattle.il_statics.specs.Names.{Spelling, car_number}
use Rattle.load_scope.specs.Cars.{up_to, car_of}
use Rattle.load_declarations.specs.CarRules.{is_number, MissesCar}

-- a test that fails
le_not : (x y : ℤ) → int_le x y ≡ false → x ≤ℤ y → ⊥
le_not x y e h = let less = le-false x y e in omega (arith, ints)

-- a car of the group
of_group : (cars : ℤ) (name : Spelling) (k : ℕ) → pos k ≤ℤ cars → car_number name ≡ Some k → is_number k (car_of cars name) ≡ true
unfolding car_of
of_group cars name k low is = ap (λ o. is_number k (up_to cars o)) is ∙ go (int_le (pos k) cars) refl
  where
    same : nat_eq k k ≡ true
    same = (Decides-eqb k k).1 refl

    go : (b : Bool) → int_le (pos k) cars ≡ b → is_number k (if b then Some k else None) ≡ true
    go true e = same
    go false e = absurd (le_not (pos k) cars e low)

-- the number of its car
number_of : (cars : ℤ) (name : Spelling) (k : ℕ) → is_number k (car_of cars name) ≡ true → car_number name ≡ Some k
unfolding car_of
number_of cars name k e = go (car_number name) e
  where
    go : (o : Option ℕ) → is_number k (up_to cars o) ≡ true → o ≡ Some k
    go None h = let bad : false ≡ true = h in cc
    go (Some n) h = by_limit (int_le (pos n) cars) h
      where
        by_limit : (b : Bool) → is_number k (if b then Some n else None) ≡ true → Some n ≡ Some k
        by_limit true t = ap Some (sym ((Decides-eqb k n).0 t))
        by_limit false t = let bad : false ≡ true = t in cc

-- no task has the number
none_has : (f : Task → Bool) (tasks : List Task) (t : Task) → list_any f tasks ≡ false → Contains tasks t → f t ≡ true → ⊥
none_has f [] t e (k, low, is) h = omega arith
none_has f (x ∷ tasks) t e (zero, low, is) h = let yes : (f x || list_any f tasks) ≡ true = ap (λ b. b || list_any f tasks) (ap f is ∙ h) in let bad : false ≡ true = sym e ∙ yes in cc
none_has f (x ∷ tasks) t e (suc k, low, is) h = none_has f tasks t (last (f x) (list_any f tasks) e) (k, omega arith, is) h
  where
    last : (a b : Bool) → (a || b) ≡ false → b ≡ false
    last true b g = let bad : true ≡ false = g in cc
    last false b g = g

-- some task has it
some_has : (f : Task → Bool) (tasks : List Task) → list_any f tasks ≡ true → (t : Task) × Contains tasks t × (f t ≡ true)
some_has f [] e = let bad : false ≡ true = e in cc
some_has f (x ∷ tasks) e = go (f x) refl e (some_has f tasks)
  where
    go : (b : Bool) → f x ≡ b → (b || list_any f tasks) ≡ true → (list_any f tasks ≡ true → (t : Task) × Contains tasks t × (f t ≡ true)) → (t : Task) × Contains (x ∷ tasks) t × (f t ≡ true)
    go true is h rest = (x, (0, omega arith, refl), is)
    go false is h rest = let r = rest h in (r.0, (suc r.1.0, omega (arith, r.1.1), r.1.2), r.2)

-- a car that is found without a task
pub is_missed : (config : Config) (cars : ℤ) (tasks : List Task) (has : ℕ → Bool) → cars ≡ config.cars.value → tasks ≡ config.tasks → ((k : ℕ) → has k ≡ list_any (λ t. is_number k (car_of cars t.name.name)) tasks)
    → (k : ℕ) × (1 ≤ k) × (pos k ≤ℤ cars) × (has k ≡ false) → MissesCar config
is_missed config cars tasks has value listed all m =
    (m.0, m.1, subst (λ z. pos m.0 ≤ℤ z) value m.2, λ task there is. none_has (λ t. is_number m.0 (car_of cars t.name.name)) tasks task (sym (all m.0) ∙ m.3) (subst (λ l. Contains l task) (sym listed) there) (of_group cars task.name.name m.0 m.2 is))

-- a car without a task is found
pub missed_is : (config : Config) (cars : ℤ) (tasks : List Task) (has : ℕ → Bool) (missing : Bool) → cars ≡ config.cars.value → tasks ≡ config.tasks → ((k : ℕ) → has k ≡ list_any (λ t. is_number k (car_of cars t.name.name)) tasks)
    → (missing ≡ false → (k : ℕ) → 1 ≤ k → pos k ≤ℤ cars → has k ≡ true) → MissesCar config → missing ≡ true
missed_is config cars tasks has true value listed all none m = refl
missed_is config cars tasks has false value listed all none m =
    let found = some_has (λ t. is_number m.0 (car_of cars t.name.name)) tasks (sym (all m.0) ∙ none refl m.0 m.1 (subst (λ z. pos m.0 ≤ℤ z) (sym value) m.2)) in
    absurd (m.3 found.0 (subst (λ l. Contains l found.0) listed found.1) (number_of cars found.0.name.name m.0 found.2))
