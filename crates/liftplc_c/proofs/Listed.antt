-- A task is listed once under its name.
use Rattle.std.proofs.Common.{◌≡◌, ℕ, zero, suc, ◌≤◌, ◌+◌, ◌-◌, Bool, true, false, ◌&&◌, List, [], ◌∷◌, Option, Some, None, refl, sym, ap, ◌∙◌, arith, bytes_eq, cond, inl, inr}
use Rattle.std.specs.Prelude.{find, nat_le, option_and_then, option_map, decimal, ◌⊎◌}
use Rattle.std.specs.List.{cons_option}
use Rattle.std.proofs.lemmas.Bool.{leb-true, cases_eq}
use Rattle.std.proofs.lemmas.Fmt.{decimal_injective}
use Rattle.std.proofs.lemmas.Slice.Eq.{bytes_eq-Decides}
use Rattle.il_syntax.specs.declared.tree.Task.{Task}
use Rattle.il_syntax.specs.declared.tree.ProgramLine.{ProgramLine}
use Rattle.il_semantics_laws.proofs.Lists.{found_in}
use Rattle.base_maps.specs.NameMap.{Text}
use Rattle.scan_task.specs.Scanning.{Program}
use Rattle.scan_task.specs.Listing.{TaskLine, UnitLine, task_by, task_of, program_line_of, unit_of, unit_lines, is_task_name, task_among, task_line, last_tasks, task_order, tasks_of}
use Rattle.group_spec.specs.Limits.{most_cars}
use Rattle.group_spec.specs.Snapshot.{task_name}
use Rattle.liftplc_c.specs.Budgets.{named_line}
use Rattle.load_tree.proofs.Ascii.{both_true as first_of_and}

-- NAMES

named : (name : Text) (n : ℕ) → is_task_name name n ≡ true → (n ≤ most_cars) × (name ≡ task_name n)
named name n is =
    let both = first_of_and (nat_le n most_cars) (bytes_eq name (task_name n)) is in
    (leb-true n most_cars both.0, (bytes_eq-Decides name (task_name n)).0 both.1)

tail_of : (a b : ℕ) (xs ys : List ℕ) → a ∷ xs ≡ b ∷ ys → xs ≡ ys
tail_of a b xs ys e = cc

head_of : (a b : ℕ) (xs ys : List ℕ) → a ∷ xs ≡ b ∷ ys → a ≡ b
head_of a b xs ys e = cc

-- GROUP is no CARk
group_no_car : (k : ℕ) → task_name zero ≡ task_name (suc k) → ⊥
group_no_car k e = let bad : 71 ≡ 67 = head_of 71 67 (82 ∷ 79 ∷ 85 ∷ 80 ∷ []) (65 ∷ 82 ∷ decimal (suc k)) e in omega (arith, bad)

one_number : (m n : ℕ) → m ≤ most_cars → n ≤ most_cars → task_name m ≡ task_name n → m ≡ n
one_number zero zero low few same = refl
one_number zero (suc n) low few same = absurd (group_no_car n same)
one_number (suc m) zero low few same = absurd (group_no_car m (sym same))
one_number (suc m) (suc n) low few same =
    decimal_injective (suc m) (suc n) (omega (arith, low)) (omega (arith, few))
    (tail_of 82 82 _ _ (tail_of 65 65 _ _ (tail_of 67 67 (65 ∷ 82 ∷ decimal (suc m)) (65 ∷ 82 ∷ decimal (suc n)) same)))

one_task : (name : Text) (m n : ℕ) → is_task_name name m ≡ true → is_task_name name n ≡ true → m ≡ n
one_task name m n first other =
    let a = named name m first in
    let b = named name n other in
    one_number m n a.0 b.0 (sym a.1 ∙ b.1)

-- LINES

-- what is listed of a number has its name
line_named : (p : Program) (n : ℕ) (line : TaskLine) → task_line p n ≡ Some line → is_task_name line.name n ≡ true
unfolding task_among
line_named p n line is = by_task (task_of p.config.tasks n) refl is
  where
    units : List UnitLine
    units = unit_lines p.config.units p.costs

    by_unit : (t : Task) (l : ProgramLine) (o : Option UnitLine) → option_map (task_by t l) o ≡ Some line → line.name ≡ t.name.name
    by_unit t l None e = cc
    by_unit t l (Some u) e = let same : Some (task_by t l u) ≡ Some line = e in let one : task_by t l u ≡ line = cc in sym (ap (λ (x : TaskLine). x.name) one)

    by_line : (t : Task) (o : Option ProgramLine) → option_and_then (λ (l : ProgramLine). option_map (task_by t l) (unit_of units l.program.name)) o ≡ Some line → line.name ≡ t.name.name
    by_line t None e = cc
    by_line t (Some l) e = by_unit t l (unit_of units l.program.name) e

    by_task : (o : Option Task) → task_of p.config.tasks n ≡ o → option_and_then (λ (t : Task). option_and_then (λ (l : ProgramLine). option_map (task_by t l) (unit_of units l.program.name)) (program_line_of p.config.programs n)) o ≡ Some line
        → is_task_name line.name n ≡ true
    by_task None found e = cc
    by_task (Some t) found e = ap (λ x. is_task_name x n) (by_line t (program_line_of p.config.programs n) e) ∙ (found_in (λ (t : Task). is_task_name t.name.name n) p.config.tasks t found).1

-- what a search under the name of a number finds among the lines of some numbers
abbrev search_in : Program → ℕ → List ℕ → Option TaskLine
search_in p n numbers = find (λ (line : TaskLine). is_task_name line.name n) (tasks_of p numbers)

abbrev IsAmong : ℕ → List ℕ → Type 0
IsAmong n [] = ⊥
IsAmong n (k ∷ ks) = (k ≡ n) ⊎ IsAmong n ks

both_lines : (l line : TaskLine) (o : Option TaskLine) → o ≡ Some l → o ≡ Some line → l ≡ line
both_lines l line o a b = let same : Some l ≡ Some line = sym a ∙ b in cc

no_line : (l : TaskLine) (o : Option TaskLine) → o ≡ None → o ≡ Some l → ⊥
no_line l o a b = let bad : ◌≡◌ {A = Option TaskLine} None (Some l) = sym a ∙ b in cc

module _ (p : Program) (n : ℕ) where
  abbrev found : Option TaskLine → List TaskLine → Option TaskLine
  found o rest = find (λ (line : TaskLine). is_task_name line.name n) (cons_option o rest)

  there_by_test : (line : TaskLine) → task_line p n ≡ Some line → (k : ℕ) (l : TaskLine) (rest : Option TaskLine) → task_line p k ≡ Some l → (b : Bool) → is_task_name l.name n ≡ b → (k ≡ n) ⊎ (rest ≡ Some line) → cond b (Some l) rest ≡ Some line
  there_by_test line is k l rest there true test among =
      let same : k ≡ n = one_task l.name k n (line_named p k l there) test in
      ap Some (both_lines l line (task_line p n) (sym (ap (task_line p) same) ∙ there) is)
  there_by_test line is k l rest there false test (inl same) =
      let yes : is_task_name l.name n ≡ true = ap (is_task_name l.name) (sym same) ∙ line_named p k l there in
      let bad : false ≡ true = sym test ∙ yes in
      cc
  there_by_test line is k l rest there false test (inr found) = found

  there_by_line : (line : TaskLine) → task_line p n ≡ Some line → (k : ℕ) (rest : List TaskLine) (o : Option TaskLine) → task_line p k ≡ o → (k ≡ n) ⊎ (found None rest ≡ Some line) → found o rest ≡ Some line
  there_by_line line is k rest None there (inl same) = absurd (no_line line (task_line p n) (sym (ap (task_line p) same) ∙ there) is)
  there_by_line line is k rest None there (inr found) = found
  there_by_line line is k rest (Some l) there among = there_by_test line is k l (found None rest) there (is_task_name l.name n) refl among

  -- the line of a number that is looked for is found
  found_there : (line : TaskLine) → task_line p n ≡ Some line → (numbers : List ℕ) → IsAmong n numbers → search_in p n numbers ≡ Some line
  found_there line is [] among = absurd among
  found_there line is (k ∷ ks) (inl same) = there_by_line line is k (tasks_of p ks) (task_line p k) refl (inl same)
  found_there line is (k ∷ ks) (inr among) = there_by_line line is k (tasks_of p ks) (task_line p k) refl (inr (found_there line is ks among))

  none_by_test : task_line p n ≡ None → (k : ℕ) (l : TaskLine) (rest : Option TaskLine) → task_line p k ≡ Some l → (b : Bool) → is_task_name l.name n ≡ b → rest ≡ None → cond b (Some l) rest ≡ None
  none_by_test is k l rest there true test none =
      let same : k ≡ n = one_task l.name k n (line_named p k l there) test in
      absurd (no_line l (task_line p n) is (sym (ap (task_line p) same) ∙ there))
  none_by_test is k l rest there false test none = none

  none_by_line : task_line p n ≡ None → (k : ℕ) (rest : List TaskLine) (o : Option TaskLine) → task_line p k ≡ o → found None rest ≡ None → found o rest ≡ None
  none_by_line is k rest None there none = none
  none_by_line is k rest (Some l) there none = none_by_test is k l (found None rest) there (is_task_name l.name n) refl none

  -- where there is none, none is found
  found_none : task_line p n ≡ None → (numbers : List ℕ) → search_in p n numbers ≡ None
  found_none is [] = refl
  found_none is (k ∷ ks) = none_by_line is k (tasks_of p ks) (task_line p k) refl (found_none is ks)

group_last : (m : ℕ) → IsAmong 0 (last_tasks (suc m))
group_last zero = inl refl
group_last (suc k) = inr (group_last k)

car_last : (m n : ℕ) → n ≤ most_cars → most_cars + 1 ≤ n + m → IsAmong n (last_tasks (suc m))
car_last zero n few high = absurd (omega (arith, few, high))
car_last (suc k) n few high =
    elim (cases_eq n (most_cars - k)) [
      | inl same ↦ inl (sym same)
      | inr other ↦ inr (car_last k n few (omega (arith, few, high, other)))
    ]

in_order : (n : ℕ) → n ≤ most_cars → IsAmong n task_order
in_order zero few = group_last most_cars
in_order (suc k) few = car_last most_cars (suc k) few (omega arith)

-- the line that is found under the name of a number is that of the number
pub named_is : (p : Program) (n : ℕ) → named_line p n ≡ task_line p n
named_is p n = by_line (task_line p n) refl
  where
    by_line : (o : Option TaskLine) → task_line p n ≡ o → named_line p n ≡ o
    by_line None is = found_none p n is task_order
    by_line (Some line) is = found_there p n line is task_order (in_order n (named line.name n (line_named p n line is)).0)
