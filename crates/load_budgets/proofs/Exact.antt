-- What the code keeps of units and tasks is what they cost, and the fault that it finds is the first.
use Rattle.std.proofs.Common.{◌≡◌, ℕ, suc, ◌+◌, ◌<◌, ◌≤◌, inl, inr, true, List, [], ◌∷◌, map, length, slice_get, Option, Some, None, refl, sym, ap, ap₂, ◌∙◌, subst, arith}
use Rattle.std.specs.Prelude.{Contains, nat_lt, option_map, option_and_then}
use Rattle.std.proofs.lemmas.Bool.{cases_lt, ltb-true, lt-ltb}
use Rattle.std.proofs.lemmas.Option.{slice_get_within, slice_get-get_or, get_or_from_slice_get, slice_get-map}
use Rattle.il_syntax.specs.declared.tree.Config.{Config}
use Rattle.il_syntax.specs.declared.tree.Unit.{Unit as ProgramUnit}
use Rattle.il_syntax.specs.declared.tree.ProgramLine.{ProgramLine}
use Rattle.il_syntax.specs.declared.tree.Place.{Place}
use Rattle.il_syntax.specs.declared.fault.Refusal.{Refusal}
use Rattle.il_syntax.specs.declared.fault.Refusal.TheVariants.{Fault}
use Rattle.il_statics.specs.Faults.{Declaring, Typing, Ordering, Broken, HasNoFault, IsRefusedBy}
use Rattle.il_semantics.specs.Paths.{IsLongest, rest_at, table_of, longest, longest_path, longest_within}
use Rattle.load_scope.specs.Views.{program_number}
use Rattle.load_scope.proofs.Laws.{program_found}
use Rattle.il_statics.specs.Least.{NumberedFault, fault_of, IsLeast, When}
use Rattle.il_statics.proofs.Least.{least_same, least_if}
use Rattle.il_semantics_laws.specs.Forward.{HasLongest}
use Rattle.il_semantics_laws.proofs.Accepted.{forward, same, has_longest}
use Rattle.load_budgets.specs.Tables.{capped, number_or, number_at, rests_above}
use Rattle.load_budgets.specs.Rounds.{unit_ways, rounds, line_at, followed}
use Rattle.load_budgets.specs.Units.{AreOver, AreExact, kept_path, cost_at, task_cost}
use Rattle.load_budgets.specs.Costs.{path_of, AreBudgets, ArePaths, IsTooLong, too_long}
use Rattle.load_budgets.specs.declared.ways.Way.{Way}
use Rattle.load_budgets.specs.declared.answer.Budget.{Budget}
use Rattle.load_budgets.specs.declared.answer.Path.{Path}
use Rattle.load_budgets.proofs.Agreeing.{rounds_agree, longer}
use Rattle.load_budgets.proofs.Following.{same_path}

-- a unit at its number is one of the units
pub among : {A : Type 0} (xs : List A) (i : ℕ) (x : A) → slice_get xs i ≡ Some x → Contains xs x
among xs i x e = (i, slice_get_within xs i x e, get_or_from_slice_get xs i x x e)

at_number : {A : Type 0} (xs : List A) (x : A) → Contains xs x → (i : ℕ) × (slice_get xs i ≡ Some x)
at_number xs x has = (has.0, slice_get-get_or xs has.0 x has.1 ∙ ap Some has.2)

-- as many rests as places
rests_long : (costs : List ℕ) (place : ℕ) (ways : List Way) → length (rests_above costs place ways) ≡ length ways + 1
rests_long costs place [] = refl
rests_long costs place (w ∷ ways) = longer (rests_above costs (place + 1) ways) _ ∙ (let more = rests_long costs (place + 1) ways in omega (arith, more))

as_many : {A B : Type 0} (f : A → B) (xs : List A) → length (map f xs) ≡ length xs
as_many f [] = refl
as_many f (x ∷ xs) = let more = as_many f xs in omega (arith, more)

-- THE FAULT

-- the greatest cost is one
one_longest : (c : Config) (u : ProgramUnit) (m n : ℕ) → IsLongest c u m → IsLongest c u n → m ≡ n
one_longest c u m n is_m is_n =
    let low = is_n.greatest is_m.attained.0 m is_m.attained.1 in let high = is_m.greatest is_n.attained.0 n is_n.attained.1 in omega (arith, low, high)

rounds_long : (n : ℕ) (all : List (List Way)) → length (rounds (suc n) all) ≡ length all
rounds_long n all = as_many _ all

-- numbers that are a function of a list's items
all_numbers : {A : Type 0} (f : A → ℕ) (xs : List A) (ns : List ℕ) → length ns ≡ length xs → ((k : ℕ) (x : A) → slice_get xs k ≡ Some x → number_at ns k ≡ f x) → ns ≡ map f xs
all_numbers f [] [] long each = refl
all_numbers f [] (n ∷ ns) long each = absurd (omega (arith, long))
all_numbers f (x ∷ xs) [] long each = absurd (omega (arith, long))
all_numbers f (x ∷ xs) (n ∷ ns) long each = ap₂ (λ m ms. m ∷ ms) (each 0 x refl) (all_numbers f xs ns (omega (arith, long)) (λ k y e. each (suc k) y e))

module _ (c : Config) (declared : HasNoFault (Broken Declaring c)) (typed : HasNoFault (Broken Typing c)) (ordered : HasNoFault (Broken Ordering c)) where
  has : (u : ProgramUnit) → Contains c.units u → HasLongest c u
  has u is_among = has_longest c declared typed (λ n p other. ordered n p) u is_among

  module _ (costs : List ℕ) (is : costs ≡ rounds 16 (map (unit_ways c) c.units)) where
    kept_at : (k : ℕ) (u : ProgramUnit) → slice_get c.units k ≡ Some u → number_at costs k ≡ capped (longest_within 16 c u)
    kept_at k u stands = ap (λ cs. number_at cs k) is ∙ rounds_agree c 16 k u stands

    over_is : (k : ℕ) (u : ProgramUnit) → slice_get c.units k ≡ Some u → nat_lt 1000000 (number_at costs k) ≡ true → 1000000 < longest c u
    unfolding longest
    over_is k u stands over = let more = ltb-true _ _ over in let at = kept_at k u stands in omega (arith, more, at)

    is_over : (k : ℕ) (u : ProgramUnit) → slice_get c.units k ≡ Some u → 1000000 < longest c u → nat_lt 1000000 (number_at costs k) ≡ true
    unfolding longest
    is_over k u stands more = lt-ltb _ _ (let at = kept_at k u stands in omega (arith, more, at))

    pub least_too_long : (found : Option NumberedFault) → IsLeast found (AreOver c costs (length c.units)) → IsLeast found (λ n p. IsTooLong c n p)
    least_too_long found least = least_same (AreOver c costs (length c.units)) (λ n p. IsTooLong c n p) found least down up
      where
        down : (n : ℕ) (p : Place) → AreOver c costs (length c.units) n p → IsTooLong c n p
        down n p (k, u, low, stands, (over, number, place)) = let is_among = among c.units k u stands in too_long u (longest c u) is_among (has u is_among).greatest (over_is k u stands over) number place

        up : (n : ℕ) (p : Place) → IsTooLong c n p → AreOver c costs (length c.units) n p
        up n p (too_long u cost is_among most more number place) =
            let at = at_number c.units u is_among in
            let same_cost : cost ≡ longest c u = one_longest c u cost (longest c u) most (has u is_among).greatest in
            (at.0, u, slice_get_within c.units at.0 u at.1, at.1, (is_over at.0 u at.1 (subst (λ m. 1000000 < m) same_cost more), number, place))

    -- COSTS

    module _ (fine : HasNoFault (λ n p. IsTooLong c n p)) where
      -- none costs too much
      within : (k : ℕ) (u : ProgramUnit) → slice_get c.units k ≡ Some u → longest_within 16 c u ≤ 1000000
      unfolding longest
      within k u stands = elim (cases_lt 1000000 (longest_within 16 c u)) [
        | inl more ↦ absurd (let is_among = among c.units k u stands in fine 50 u.place (too_long u (longest c u) is_among (has u is_among).greatest more refl refl))
        | inr le ↦ le
      ]

      cost_is : (k : ℕ) (u : ProgramUnit) → slice_get c.units k ≡ Some u → number_at costs k ≡ longest c u
      unfolding longest
      cost_is k u stands = let low = within k u stands in let at = kept_at k u stands in omega (arith, low, at)

      path_is : (k : ℕ) (u : ProgramUnit) → slice_get c.units k ≡ Some u → kept_path u.body (unit_ways c u) costs ≡ path_of c u
      unfolding longest longest_path
      path_is k u stands =
          let is_among = among c.units k u stands in
          let long : length (rests_above costs 0 (unit_ways c u)) ≡ length u.body.steps + 1 = rests_long costs 0 (unit_ways c u) ∙ ap (λ n. n + 1) (as_many _ u.body.steps) in
          let whole : (rest_at (table_of (longest_within 16 c) c u) 0 0).cost ≤ 1000000 = (let again = same c declared typed (λ n p other. ordered n p) u is_among in let low = within k u stands in omega (arith, again, low)) in
          ap (map (line_at u.body)) (ap (λ n. followed n (rests_above costs 0 (unit_ways c u)) (Some 0)) long
          ∙ sym (same_path c u (longest_within 16 c) (forward c declared typed (λ n p other. ordered n p) u is_among) costs (subst (λ cs. (j : ℕ) (v : ProgramUnit) → slice_get c.units j ≡ Some v → number_at cs j ≡ capped (longest_within 16 c v)) (sym is) (rounds_agree c 16)) (length u.body.steps + 1) 0 (omega arith) whole))

      pub exact : AreExact c costs
      exact = record {
        greatest = all_numbers (longest c) c.units costs (ap length is ∙ rounds_long 15 (map (unit_ways c) c.units) ∙ as_many (unit_ways c) c.units) cost_is;
        paths = path_is;
      }

  -- BUDGETS AND PATHS

  -- what each unit has, by a list of it
  listed : {A : Type 0} (f : ProgramUnit → A) (xs : List A) (k : ℕ) (u : ProgramUnit) → xs ≡ map f c.units → slice_get c.units k ≡ Some u → slice_get xs k ≡ Some (f u)
  listed f xs k u are stands = ap (λ ys. slice_get ys k) are ∙ slice_get-map f c.units k ∙ ap (option_map f) stands

  -- the number of a program that is there
  program_at : (number : Option ℕ) (u : ProgramUnit) → option_and_then (slice_get c.units) number ≡ Some u → (k : ℕ) × (number ≡ Some k) × (slice_get c.units k ≡ Some u)
  program_at None u e = let bad : ◌≡◌ {A = Option ProgramUnit} None (Some u) = e in cc
  program_at (Some k) u e = (k, refl, e)

  pub are_budgets : (b : Budget) → b.units ≡ map (longest c) c.units → b.tasks ≡ map (task_cost c b.units) c.programs → AreBudgets c b
  are_budgets b units tasks = record {
    units = λ k u stands. (longest c u, listed (longest c) b.units k u units stands, (has u (among c.units k u stands)).greatest);
    many_units = ap length units ∙ as_many (longest c) c.units;
    tasks = λ k line u stands named. by_number k line u stands (program_at (program_number c line.program.name) u (program_found c line.program.name ∙ named));
    many_tasks = ap length tasks ∙ as_many (task_cost c b.units) c.programs;
  }
    where
      by_number : (k : ℕ) (line : ProgramLine) (u : ProgramUnit) → slice_get c.programs k ≡ Some line → (j : ℕ) × (program_number c line.program.name ≡ Some j) × (slice_get c.units j ≡ Some u)
          → (cost : ℕ) × (slice_get b.tasks k ≡ Some cost) × IsLongest c u cost
      by_number k line u stands (j, number, there) =
          let at_line = ap (λ ns. slice_get ns k) tasks ∙ slice_get-map (task_cost c b.units) c.programs k ∙ ap (option_map (task_cost c b.units)) stands in
          let cost = ap (λ o. Some (cost_at b.units o)) number ∙ ap (λ o. Some (number_or o)) (listed (longest c) b.units j u units there) in
          (longest c u, at_line ∙ cost, (has u (among c.units j u there)).greatest)

  pub are_paths : (p : Path) → p.units ≡ map (path_of c) c.units → ArePaths c p
  are_paths p are = record {
    units = λ k u stands. let h = has u (among c.units k u stands) in (longest c u, longest_path c u, listed (path_of c) p.units k u are stands, h.greatest, h.path);
    many = ap length are ∙ as_many (path_of c) c.units;
  }

-- a refusal names the fault
pub refused_by : (c : Config) (found : Option NumberedFault) (f : NumberedFault) (r : Refusal) → IsLeast found (λ n p. IsTooLong c n p) → found ≡ Some f → r ≡ Fault f.number f.place → IsRefusedBy (IsTooLong c) r
refused_by c found f r least is named = subst (IsRefusedBy (IsTooLong c)) (sym named) (record { broken = least.holds f is; first = least.first f is })

-- one unit more
pub over_next : (c : Config) (costs : List ℕ) (at : ℕ) (u : ProgramUnit) (one : Option NumberedFault) → one ≡ fault_of (nat_lt 1000000 (number_at costs at)) 50 u.place → IsLeast one (When (nat_lt 1000000 (number_at costs at) ≡ true) 50 u.place)
over_next c costs at u one is = least_if (nat_lt 1000000 (number_at costs at)) 50 u.place one (nat_lt 1000000 (number_at costs at) ≡ true) is (λ e. e) (λ e. e)

some_same : {X : Type 0} {x y : X} → ◌≡◌ {A = Option X} (Some x) (Some y) → x ≡ y
some_same e = cc

-- the lines that are kept of a unit are those of its path
pub kept_is : (c : Config) (costs : List ℕ) (all : List (List Way)) (k : ℕ) (u v : ProgramUnit) (ways : List Way) → AreExact c costs → slice_get c.units k ≡ Some u → v ≡ u → all ≡ map (unit_ways c) c.units → slice_get all k ≡ Some ways → kept_path v.body ways costs ≡ path_of c u
kept_is c costs all k u v ways are stands is_v is_all at =
    let is_ways : ways ≡ unit_ways c u = some_same (sym at ∙ ap (λ ws. slice_get ws k) is_all ∙ slice_get-map (unit_ways c) c.units k ∙ ap (option_map (unit_ways c)) stands) in
    ap (λ (w : ProgramUnit). kept_path w.body ways costs) is_v ∙ ap (λ ws. kept_path u.body ws costs) is_ways ∙ are.paths k u stands

-- as many lists of ways as units
pub all_within : (c : Config) (all : List (List Way)) (units : List ProgramUnit) (at : ℕ) → all ≡ map (unit_ways c) c.units → units ≡ c.units → at < length units → at < length all
all_within c all units at is same low = let m = ap length is ∙ as_many (unit_ways c) c.units in let n = ap length same in omega (arith, m, n, low)
