-- What the code looks for are the rules.
use Rattle.std.proofs.Common.{◌≡◌, ℕ, suc, ◌+◌, ◌<◌, inl, inr, Bool, true, false, nat_lt, List, length, slice_get, Option, Some, None, is_some, option_and_then, refl, sym, ap, ◌∙◌, subst, arith}
use Rattle.std.specs.Prelude.{Contains, sum_by}
use Rattle.std.proofs.lemmas.Bool.{ltb-true}
use Rattle.std.proofs.lemmas.Option.{slice_get_within}
use Rattle.il_syntax.specs.declared.tree.Config.{Config}
use Rattle.il_syntax.specs.declared.tree.Place.{Place}
use Rattle.il_syntax.specs.declared.tree.Unit.{Unit as ProgramUnit}
use Rattle.il_syntax.specs.declared.tree.ProgramLine.{ProgramLine}
use Rattle.il_syntax.specs.declared.fault.Refusal.{Refusal}
use Rattle.il_syntax.specs.declared.fault.Refusal.TheVariants.{Fault}
use Rattle.il_statics.specs.Names.{program_named}
use Rattle.il_statics.specs.Faults.{HasNoFault, IsRefusedBy, Broken, Ordering, BreaksDeclarations, BreaksOrder, recursive as of_recursive, long_chain as of_long_chain, too_many_slots}
use Rattle.il_statics.specs.Order.{HasTooManySlots, recursive, long_chain, of_task, of_globals, unit_slots, function_slots}
use Rattle.il_statics.specs.Least.{NumberedFault, earlier_of, IsLeast, Either}
use Rattle.il_statics.proofs.Least.{least_both, least_same}
use Rattle.load_scope.specs.Views.{program_number}
use Rattle.load_scope.proofs.Laws.{program_found, program_there}
use Rattle.load_order.specs.Related.{closed}
use Rattle.load_order.specs.Used.{uses}
use Rattle.load_order.specs.Counted.{counts, counts_of, unit_counts, units_listed, all_listed, with_variables, is_over, is_over_of, task_count, with_declared}
use Rattle.load_order.specs.declared.variables.Variables.{Variables}
use Rattle.load_order.specs.Breaks.{reached, UnitsBreak, LinesBreak, GlobalsBreak, SlotsBreak, AllUnitsBreak}
use Rattle.load_order.proofs.Tabled.{place_in, in_place, below_true}
use Rattle.load_order.proofs.Distinct.{AreDistinct, distinct}
use Rattle.load_order.proofs.Using.{found_at}
use Rattle.load_order.proofs.Reaching.{reach_to, reach_from}
use Rattle.load_order.proofs.Chaining.{long_to, long_from}
use Rattle.load_order.proofs.Counting.{over_cap, cap_over, globals_are}
use Rattle.load_order.proofs.Tasks.{functions, are_functions, most_slots, task_is}

module _ (c : Config) (apart : AreDistinct c) where
  units_up : (n : ℕ) (p : Place) → AllUnitsBreak c n p → BreaksOrder c n p
  units_up n p (inl (at, u, low, there, (is, number, place))) = of_recursive number (recursive u (in_place c.units at u there) (reach_to c at at u u there there is) place)
  units_up n p (inr (at, u, low, there, (is, number, place))) =
      let w = long_to c apart at u there is in of_long_chain number (long_chain u w.chain (in_place c.units at u there) w.is_chain w.once w.long place)

  over_is : (at : ℕ) (P : ProgramUnit) (there : slice_get c.units at ≡ Some P) → nat_lt 4096 (task_count c (reached c) (counts c (suc (length c.units + 1))) at (length c.units)) ≡ true
      → 4096 < unit_slots c P + sum_by (function_slots c) (functions c apart at P there (length c.units))
  over_is at P there e = over_cap _ (subst (λ k. 4096 < k) (task_is c apart at P there (length c.units)) (ltb-true 4096 _ e))

  lines_up : (line : ProgramLine) → Contains c.programs line → is_over c (reached c) (counts c (suc (length c.units + 1))) line ≡ true → HasTooManySlots c line.place
  lines_up line among e = by_number (program_number c line.program.name) refl e
    where
      by_unit : (at : ℕ) (o : Option ProgramUnit) → program_number c line.program.name ≡ Some at → slice_get c.units at ≡ o → nat_lt 4096 (task_count c (reached c) (counts c (suc (length c.units + 1))) at (length c.units)) ≡ true → HasTooManySlots c line.place
      by_unit at (Some P) number there over =
          of_task line P (functions c apart at P there (length c.units)) among (sym (program_found c line.program.name) ∙ ap (option_and_then (slice_get c.units)) number ∙ there) (are_functions c apart at P there) (over_is at P there over) refl
      by_unit at None number there over = absurd (bad (program_there c line.program.name))
        where
          bad : is_some (program_number c line.program.name) ≡ is_some (program_named c line.program.name) → ⊥
          bad same =
              let none : program_named c line.program.name ≡ None = sym (program_found c line.program.name) ∙ ap (option_and_then (slice_get c.units)) number ∙ there in
              let wrong : true ≡ false = sym (ap is_some number) ∙ same ∙ ap is_some none in cc

      by_number : (o : Option ℕ) → program_number c line.program.name ≡ o → is_over_of c (reached c) (counts c (suc (length c.units + 1))) o ≡ true → HasTooManySlots c line.place
      by_number None number over = let bad : false ≡ true = over in cc
      by_number (Some at) number over = by_unit at (slice_get c.units at) number refl over

  slots_up : (n : ℕ) (p : Place) → SlotsBreak c n p → BreaksOrder c n p
  slots_up n p (inl (at, line, low, there, (is, number, place))) = too_many_slots number (subst (HasTooManySlots c) (sym place) (lines_up line (in_place c.programs at line there) is))
  slots_up n p (inr g) = too_many_slots g.is (of_globals (over_cap _ (subst (λ k. 4096 < k) (globals_are c) (ltb-true 4096 _ g.over))) g.stands)

  up : (n : ℕ) (p : Place) → Either (AllUnitsBreak c) (SlotsBreak c) n p → BreaksOrder c n p
  up n p (inl h) = units_up n p h
  up n p (inr h) = slots_up n p h

  down : (n : ℕ) (p : Place) → BreaksOrder c n p → Either (AllUnitsBreak c) (SlotsBreak c) n p
  down n p (of_recursive number (recursive u among way place)) =
      let r = place_in c.units u among in inl (inl (r.0, u, slice_get_within c.units r.0 u r.1, r.1, (reach_from c apart r.0 r.0 u u r.1 r.1 way, number, place)))
  down n p (of_long_chain number (long_chain u chain among is_chain once long place)) =
      let r = place_in c.units u among in inl (inr (r.0, u, slice_get_within c.units r.0 u r.1, r.1, (long_from c apart r.0 u chain r.1 is_chain once long, number, place)))
  down n p (too_many_slots number (of_task line program fs among named are over place)) =
      let l = place_in c.programs line among in
      let r = found_at c (program_number c line.program.name) (program_named c line.program.name) program (program_found c line.program.name) named in
      let most = most_slots c apart r.0 program r.2 fs are in
      let all : 4096 < unit_slots c program + sum_by (function_slots c) (functions c apart r.0 program r.2 (length c.units)) = omega (arith, most, over) in
      let counted = subst (λ k. 4096 < k) (sym (task_is c apart r.0 program r.2 (length c.units))) (cap_over _ all) in
      inr (inl (l.0, line, slice_get_within c.programs l.0 line l.1, l.1, (ap (is_over_of c (reached c) (counts c (suc (length c.units + 1)))) r.1 ∙ below_true 4096 _ counted, number, place)))
  down n p (too_many_slots number (of_globals over stands)) =
      inr (inr (record { stands = stands; over = below_true 4096 _ (subst (λ k. 4096 < k) (sym (globals_are c)) (cap_over _ over)); is = number }))

-- the first of what the code looks for is the first fault
pub least_order : (c : Config) → HasNoFault (BreaksDeclarations c) → (units slots r : Option NumberedFault) → r ≡ earlier_of units slots → IsLeast units (AllUnitsBreak c) → IsLeast slots (SlotsBreak c) → IsLeast r (λ n p. BreaksOrder c n p)
least_order c declared units slots r is a b =
    least_same (Either (AllUnitsBreak c) (SlotsBreak c)) (λ n p. BreaksOrder c n p) r (least_both (AllUnitsBreak c) (SlotsBreak c) units slots r is a b) (up c (distinct c declared)) (down c (distinct c declared))

-- a refusal names it
pub refused_by : (c : Config) (found : Option NumberedFault) (f : NumberedFault) (r : Refusal) → IsLeast found (λ n p. BreaksOrder c n p) → found ≡ Some f → r ≡ Fault f.number f.place → IsRefusedBy (Broken Ordering c) r
refused_by c found f r least is named = subst (IsRefusedBy (Broken Ordering c)) (sym named) (record { broken = least.holds f is; first = least.first f is })

-- the slots of tasks, and of the globals
pub slots_least : (c : Config) (r : List (List Bool)) (count total : ℕ) (units : List (List Variables)) (declared : List Variables) (counted all : List ℕ) (lines globals found : Option NumberedFault)
    → r ≡ reached c → count ≡ length c.units → units ≡ units_listed c → declared ≡ all_listed c c.globals → counted ≡ counts_of units (count + 1) → all ≡ unit_counts (count + 1) counted units
    → total ≡ with_variables (count + 1) counted 0 declared
    → IsLeast lines (LinesBreak c r all (length c.programs)) → IsLeast globals (GlobalsBreak c total) → found ≡ earlier_of lines globals → IsLeast found (SlotsBreak c)
slots_least c r count total units declared counted all lines globals found reaching counting units_are declared_are own_counts all_counts total_is a b is =
    least_both (LinesBreak c (reached c) (counts c (suc (length c.units + 1))) (length c.programs)) (GlobalsBreak c (with_declared c (length c.units + 1) (counts c (length c.units + 1)) 0 c.globals)) lines globals found is
    (subst (λ x. IsLeast lines (LinesBreak c x (counts c (suc (length c.units + 1))) (length c.programs))) reaching (subst (λ x. IsLeast lines (LinesBreak c r x (length c.programs))) every a))
    (subst (λ x. IsLeast globals (GlobalsBreak c x)) sum_is b)
  where
    own : counted ≡ counts c (length c.units + 1)
    own = own_counts ∙ ap (λ u. counts_of u (count + 1)) units_are ∙ ap (λ x. counts c (x + 1)) counting

    every : all ≡ counts c (suc (length c.units + 1))
    every = all_counts ∙ ap (λ u. unit_counts (count + 1) counted u) units_are ∙ ap (λ x. unit_counts (count + 1) x (units_listed c)) own ∙ ap (λ x. unit_counts (x + 1) (counts c (length c.units + 1)) (units_listed c)) counting

    sum_is : total ≡ with_declared c (length c.units + 1) (counts c (length c.units + 1)) 0 c.globals
    sum_is = total_is ∙ ap (λ d. with_variables (count + 1) counted 0 d) declared_are ∙ ap (λ x. with_declared c (count + 1) x 0 c.globals) own ∙ ap (λ x. with_declared c (x + 1) (counts c (length c.units + 1)) 0 c.globals) counting

-- the relation of the units that reach which
pub reached_is : (c : Config) (count : ℕ) (used r : List (List Bool)) → count ≡ length c.units → used ≡ uses c true → r ≡ closed count used count → r ≡ reached c
reached_is c count used r counting using closing = closing ∙ ap (λ u. closed count u count) using ∙ ap (λ n. closed n (uses c true) n) counting

-- all of order
pub order_least : (c : Config) → HasNoFault (BreaksDeclarations c) → (count : ℕ) (used r : List (List Bool)) (units slots found : Option NumberedFault)
    → count ≡ length c.units → used ≡ uses c true → r ≡ closed count used count
    → IsLeast units (UnitsBreak c used r) → IsLeast slots (SlotsBreak c) → found ≡ earlier_of units slots → IsLeast found (λ n p. BreaksOrder c n p)
order_least c declared count used r units slots found counting using closing a b is =
    least_order c declared units slots found is (subst (λ x. IsLeast units (UnitsBreak c x (reached c))) using (subst (λ x. IsLeast units (UnitsBreak c used x)) (reached_is c count used r counting using closing) a)) b
