-- The first rows of a task show its variables as they open, those of its functions among them.
use Rattle.std.proofs.Common.{◌≡◌, ℕ, zero, suc, ◌⊎◌, inl, inr, Bool, true, false, List, [], ◌∷◌, ◌++◌, slice_get, refl, sym, ap, ap₂, ◌∙◌, cond, Option, Some, None, subst, arith}
use Rattle.std.specs.Prelude.{Contains}
use Rattle.std.proofs.lemmas.List.Elements.{Contains-append_left, Contains-append_right, Contains-append_cases}
use Rattle.std.proofs.lemmas.Option.{same_Some}
use Rattle.std.specs.Ordering.{eq_by_cmp}
use Rattle.il_syntax.specs.declared.tree.Unit.{Unit as ProgramUnit}
use Rattle.il_syntax.specs.declared.tree.UnitKind.{UnitKind}
use Rattle.il_syntax.specs.declared.tree.UnitKind.TheVariants.{Function, FunctionBlock, Program}
use Rattle.il_syntax.specs.declared.tree.Config.{Config}
use Rattle.il_statics.specs.Names.{is_function, is_function_kind}
use Rattle.base_maps.specs.NameMap.{Text, order, get, from_entries, get-empty, get-insert, same_map}
use Rattle.il_semantics.specs.declared.value.Value.{Value}
use Rattle.il_semantics.specs.Scan.{used_units, function_values, opening_variables}
use Rattle.il_semantics.specs.Meaning.{own_entities, depth, block_entities, instance_values, entity_values, fresh_values}
use Rattle.il_semantics_laws.specs.Accepted.{IsAccepted}
use Rattle.il_semantics_laws.proofs.Lists.{in_nothing, at_head, in_tail}
use Rattle.il_semantics_laws.proofs.Listing.{used_stack}
use Rattle.il_semantics_laws.proofs.Used.{used_among}
use Rattle.il_semantics_laws.proofs.Declared.{one_unit}
use Rattle.base_maps.proofs.Texts.{same_text}
use Rattle.load_slots.specs.declared.flat.Cell.{Cell}
use Rattle.load_slots.specs.Layout.{AreOnce, view}
use Rattle.load_slots.specs.Cells.{entity_cells, instance_cells}
use Rattle.load_slots.specs.Places.{deepest, height_to, any_block}
use Rattle.load_slots.specs.Whole.{first_rows, AreOf}
use Rattle.load_slots.specs.Program.{task_functions, function_cells, functions_cells, variable_cells, own_cells, seen_cells, own_values}
use Rattle.load_slots.proofs.Kept.{itself}
use Rattle.load_slots.proofs.Placed.{in_front}
use Rattle.load_slots.proofs.IsPlaced.{entities_same, instances_same}
use Rattle.load_slots.proofs.Opening.{shown, are_of-append, entities_of, instances_of}
use Rattle.load_slots.proofs.Uses.{heights, own_below}
use Rattle.load_slots.proofs.Begins.{own_initial, blocks_initial}
use Rattle.load_slots.proofs.Frames.{function_in_task, of_task_functions}
use Rattle.load_slots.proofs.Tasks.{cells_once, fresh_cells, fresh_are, program_among}

-- WHAT A MAP OF ENTRIES HAS

-- what it answers is an entry
got : (es : List (Text × Value)) (q : Text) (v : Value) → get (from_entries es) q ≡ Some v → Contains es (q, v)
got [] q v is = let none : None ≡ Some v = sym (get-empty q) ∙ is in cc
got (e ∷ es) q v is = by_test (eq_by_cmp order q e.0) refl (sym (get-insert (from_entries es) e.0 e.1 q) ∙ is) (got es q v)
  where
    by_test : (b : Bool) → eq_by_cmp order q e.0 ≡ b → cond b (Some e.1) (get (from_entries es) q) ≡ Some v → (get (from_entries es) q ≡ Some v → Contains es (q, v)) → Contains (e ∷ es) (q, v)
    by_test true test h more = let here : ◌≡◌ {A = Text × Value} e (q, v) = ap₂ (λ (a : Text) (b : Value). (a, b)) (sym (same_text q e.0 test)) (same_Some e.1 v h) in (0, omega arith, here)
    by_test false test h more = in_tail e es (q, v) (more h)

-- and of the path of an entry it answers something
gets : (es : List (Text × Value)) (e : Text × Value) → Contains es e → (w : Value) × (get (from_entries es) e.0 ≡ Some w)
gets [] e has = absurd (in_nothing e has)
gets (d ∷ es) e has = by_test (eq_by_cmp order e.0 d.0) refl has (gets es e)
  where
    answer : get (from_entries (d ∷ es)) e.0 ≡ cond (eq_by_cmp order e.0 d.0) (Some d.1) (get (from_entries es) e.0)
    answer = get-insert (from_entries es) d.0 d.1 e.0

    by_test : (b : Bool) → eq_by_cmp order e.0 d.0 ≡ b → Contains (d ∷ es) e → (Contains es e → (w : Value) × (get (from_entries es) e.0 ≡ Some w)) → (w : Value) × (get (from_entries (d ∷ es)) e.0 ≡ Some w)
    by_test true test h more = (d.1, answer ∙ ap (λ b. cond b (Some d.1) (get (from_entries es) e.0)) test)
    by_test false test (zero, low, same) more = let wrong : true ≡ false = sym (itself d.0) ∙ ap (λ (x : Text × Value). eq_by_cmp order x.0 d.0) same ∙ test in cc
    by_test false test (suc n, low, same) more = let r = more (n, omega arith, same) in (r.0, answer ∙ ap (λ b. cond b (Some d.1) (get (from_entries es) e.0)) test ∙ r.1)

-- entries of which no two share a path
abbrev IsFunctional : List (Text × Value) → Type 0
IsFunctional es = (e f : Text × Value) → Contains es e → Contains es f → e.0 ≡ f.0 → e ≡ f

-- two lists with the same entries make the same map
same_entries : (xs ys : List (Text × Value)) → IsFunctional xs → ((e : Text × Value) → Contains xs e → Contains ys e) → ((e : Text × Value) → Contains ys e → Contains xs e) → from_entries xs ≡ from_entries ys
same_entries xs ys once there back = same_map (from_entries xs) (from_entries ys) (λ q. by_answers q (get (from_entries xs) q) refl (get (from_entries ys) q) refl)
  where
    by_answers : (q : Text) (a : Option Value) → get (from_entries xs) q ≡ a → (b : Option Value) → get (from_entries ys) q ≡ b → get (from_entries xs) q ≡ get (from_entries ys) q
    by_answers q None one None other = one ∙ sym other
    by_answers q (Some v) one (Some w) other =
        let same = once (q, v) (q, w) (got xs q v one) (back (q, w) (got ys q w other)) refl in
        one ∙ ap (λ (e : Text × Value). Some e.1) same ∙ sym other
    by_answers q (Some v) one None other = let r = gets ys (q, v) (there (q, v) (got xs q v one)) in let wrong : None ≡ Some r.0 = sym other ∙ r.1 in cc
    by_answers q None one (Some w) other = let r = gets xs (q, w) (back (q, w) (got ys q w other)) in let wrong : None ≡ Some r.0 = sym one ∙ r.1 in cc

-- the slot of an entry
slot_of_entry : (xs : List Cell) (vs : List (Text × Value)) → AreOf xs vs → (e : Text × Value) → Contains vs e → (k : ℕ) × (x : Cell) × (slice_get xs k ≡ Some x) × (x.path ≡ e.0)
slot_of_entry [] [] all e has = absurd (in_nothing e has)
slot_of_entry [] (v ∷ vs) all e has = absurd all
slot_of_entry (x ∷ xs) [] all e has = absurd all
slot_of_entry (x ∷ xs) (v ∷ vs) all e (zero, low, same) = (0, x, refl, all.0 ∙ ap (λ (f : Text × Value). f.0) same)
slot_of_entry (x ∷ xs) (v ∷ vs) all e (suc n, low, same) = let r = slot_of_entry xs vs all.2 e (n, omega arith, same) in (suc r.0, r.1, r.2, r.3)

-- values of slots of which no two have one path
functional : (xs : List Cell) (vs : List (Text × Value)) → AreOf xs vs → AreOnce xs → IsFunctional vs
functional [] [] all once e f a b same = absurd (in_nothing e a)
functional [] (v ∷ vs) all once e f a b same = absurd all
functional (x ∷ xs) [] all once e f a b same = absurd all
functional (x ∷ xs) (v ∷ vs) all once e f (zero, low, is) (zero, up, js) same = sym is ∙ js
functional (x ∷ xs) (v ∷ vs) all once e f (suc n, low, is) (suc m, up, js) same = functional xs vs all.2 once.1 e f (n, omega arith, is) (m, omega arith, js) same
functional (x ∷ xs) (v ∷ vs) all once e f (zero, low, is) (suc m, up, js) same =
    let r = slot_of_entry xs vs all.2 f (m, omega arith, js) in
    let paths : r.1.path ≡ x.path = r.3 ∙ sym same ∙ ap (λ (g : Text × Value). g.0) (sym is) ∙ sym all.0 in
    let wrong : true ≡ false = sym (itself x.path) ∙ ap (λ t. eq_by_cmp order t x.path) (sym paths) ∙ once.0 r.0 r.1 r.2 in cc
functional (x ∷ xs) (v ∷ vs) all once e f (suc n, low, is) (zero, up, js) same =
    let r = slot_of_entry xs vs all.2 e (n, omega arith, is) in
    let paths : r.1.path ≡ x.path = r.3 ∙ same ∙ ap (λ (g : Text × Value). g.0) (sym js) ∙ sym all.0 in
    let wrong : true ≡ false = sym (itself x.path) ∙ ap (λ t. eq_by_cmp order t x.path) (sym paths) ∙ once.0 r.0 r.1 r.2 in cc

once_front : (xs ys : List Cell) → AreOnce (xs ++ ys) → AreOnce xs
once_front [] ys once = tt
once_front (x ∷ xs) ys once = (λ k y is. once.0 k y (in_front xs ys k y is), once_front xs ys once.1)

-- VALUES OF FUNCTIONS

-- those of a function among some units
pub function_head : (c : Config) (u : ProgramUnit) (us : List ProgramUnit) → is_function u ≡ true → function_values c (u ∷ us) ≡ fresh_values c u ++ function_values c us
function_head c u us is = by_kind u.kind refl is
  where
    by_kind : (k : UnitKind) → u.kind ≡ k → is_function_kind k ≡ true → function_values c (u ∷ us) ≡ fresh_values c u ++ function_values c us
    by_kind (Function s place) kind h = rw kind refl
    by_kind FunctionBlock kind h = cc
    by_kind Program kind h = cc

-- and of another unit
other_head : (c : Config) (u : ProgramUnit) (us : List ProgramUnit) → is_function u ≡ false → function_values c (u ∷ us) ≡ function_values c us
other_head c u us is = by_kind u.kind refl is
  where
    by_kind : (k : UnitKind) → u.kind ≡ k → is_function_kind k ≡ false → function_values c (u ∷ us) ≡ function_values c us
    by_kind (Function s place) kind h = cc
    by_kind FunctionBlock kind h = rw kind refl
    by_kind Program kind h = rw kind refl

-- the function of a value
abbrev IsOfFunction : Config → List ProgramUnit → Text × Value → Type 0
IsOfFunction c us e = (v : ProgramUnit) × Contains us v × (is_function v ≡ true) × Contains (fresh_values c v) e

of_values : (c : Config) (us : List ProgramUnit) (e : Text × Value) → Contains (function_values c us) e → IsOfFunction c us e
of_values c [] e has = absurd (in_nothing e has)
of_values c (u ∷ us) e has = by_test (is_function u) refl (of_values c us e)
  where
    later : IsOfFunction c us e → IsOfFunction c (u ∷ us) e
    later r = (r.0, in_tail u us r.0 r.1, r.2, r.3)

    by_side : is_function u ≡ true → Contains (fresh_values c u) e ⊎ Contains (function_values c us) e → (Contains (function_values c us) e → IsOfFunction c us e) → IsOfFunction c (u ∷ us) e
    by_side is (inl a) more = (u, at_head u us, is, a)
    by_side is (inr b) more = later (more b)

    by_test : (b : Bool) → is_function u ≡ b → (Contains (function_values c us) e → IsOfFunction c us e) → IsOfFunction c (u ∷ us) e
    by_test true is more = by_side is (Contains-append_cases (fresh_values c u) (function_values c us) e (subst (λ vs. Contains vs e) (function_head c u us is) has)) more
    by_test false is more = later (more (subst (λ vs. Contains vs e) (other_head c u us is) has))

in_values : (c : Config) (us : List ProgramUnit) (e : Text × Value) → IsOfFunction c us e → Contains (function_values c us) e
in_values c [] e r = absurd (in_nothing r.0 r.1)
in_values c (u ∷ us) e (v, (zero, low, same), is, has) =
    subst (λ vs. Contains vs e) (sym (function_head c u us (ap is_function same ∙ is))) (Contains-append_left (fresh_values c u) (function_values c us) e (subst (λ (w : ProgramUnit). Contains (fresh_values c w) e) (sym same) has))
in_values c (u ∷ us) e (v, (suc n, low, same), is, has) = by_test (is_function u) refl (in_values c us e (v, (n, omega arith, same), is, has))
  where
    by_test : (b : Bool) → is_function u ≡ b → Contains (function_values c us) e → Contains (function_values c (u ∷ us)) e
    by_test true test h = subst (λ vs. Contains vs e) (sym (function_head c u us test)) (Contains-append_right (fresh_values c u) (function_values c us) e h)
    by_test false test h = subst (λ vs. Contains vs e) (sym (other_head c u us test)) h

-- THE OPENING

module _ (c : Config) (p : ProgramUnit) (accepted : IsAccepted c p) where
  abbrev own : List (Text × Value)
  own = entity_values (instance_values depth c) [] (own_entities p)

  abbrev height : Text → ℕ
  height = height_to any_block (block_entities c) 18

  functions_of : (us : List ProgramUnit) → ((v : ProgramUnit) → Contains us v → Contains c.units v × (is_function v ≡ true)) → AreOf (functions_cells c us) (function_values c us)
  functions_of [] each = tt
  functions_of (u ∷ us) each =
      let here = each u (at_head u us) in
      subst (AreOf (functions_cells c (u ∷ us))) (sym (function_head c u us here.1))
      (are_of-append (function_cells c u) (functions_cells c us) (fresh_values c u) (function_values c us)
      (subst (λ xs. AreOf xs (fresh_values c u)) (fresh_cells c p accepted u here.0 here.1) (fresh_are c p accepted u here.0 here.1)) (functions_of us (λ v has. each v (in_tail u us v has))))

  -- so deep as il_semantics goes, and one deeper, a program's variables are the same
  pub variables_same : entity_cells (instance_cells depth c) [] (own_entities p) ≡ variable_cells c p
  variables_same =
      entities_same height 16 (instance_cells depth c) (instance_cells deepest c) (λ path block low. instances_same c height (heights c accepted.declared accepted.ordered) depth deepest path block low (omega (arith, low))) [] (own_entities p)
      (own_below c accepted.declared accepted.ordered p (program_among c p accepted))

  own_of : AreOf (own_cells c p) (own_values c p)
  own_of =
      are_of-append (functions_cells c (task_functions c p)) (variable_cells c p) (function_values c (task_functions c p)) own
      (functions_of (task_functions c p) (λ v has. let r = of_task_functions c p v has in (r.0, r.1)))
      (subst (λ xs. AreOf xs own) variables_same
      (entities_of (instance_cells depth c) (instance_values depth c) (instances_of c (blocks_initial c accepted.declared) depth) [] (own_entities p) (own_initial c accepted.declared p (program_among c p accepted))))

  used_units_among : (v : ProgramUnit) → Contains (used_units depth c p) v → Contains c.units v
  used_units_among v has = let r = used_stack c p depth p [] refl v has in used_among c r.0 v r.2.0

  there : (e : Text × Value) → Contains (own_values c p) e → Contains (own ++ function_values c (used_units depth c p)) e
  there e has = by_side (Contains-append_cases (function_values c (task_functions c p)) own e has)
    where
      used : (r : IsOfFunction c (task_functions c p) e) → Contains (used_units depth c p) r.0
      used r =
          let t = of_task_functions c p r.0 r.1 in
          subst (Contains (used_units depth c p)) (one_unit c accepted.declared t.2.0 r.0 (used_units_among t.2.0 t.2.1) t.0 t.2.2) t.2.1

      by_side : Contains (function_values c (task_functions c p)) e ⊎ Contains own e → Contains (own ++ function_values c (used_units depth c p)) e
      by_side (inl a) =
          let r = of_values c (task_functions c p) e a in
          Contains-append_right own (function_values c (used_units depth c p)) e (in_values c (used_units depth c p) e (r.0, used r, r.2, r.3))
      by_side (inr b) = Contains-append_left own (function_values c (used_units depth c p)) e b

  back : (e : Text × Value) → Contains (own ++ function_values c (used_units depth c p)) e → Contains (own_values c p) e
  back e has = by_side (Contains-append_cases own (function_values c (used_units depth c p)) e has)
    where
      by_side : Contains own e ⊎ Contains (function_values c (used_units depth c p)) e → Contains (own_values c p) e
      by_side (inl a) = Contains-append_right (function_values c (task_functions c p)) own e a
      by_side (inr b) =
          let r = of_values c (used_units depth c p) e b in
          Contains-append_left (function_values c (task_functions c p)) own e (in_values c (task_functions c p) e (r.0, function_in_task c p r.0 (used_units_among r.0 r.1) r.2 r.1, r.2, r.3))

  -- the first rows show the task's variables as they open (2.4.3.2)
  pub own_opening : view (own_cells c p) (first_rows (own_values c p)) ≡ opening_variables c p
  unfolding opening_variables
  own_opening =
      shown (own_cells c p) (own_values c p) own_of
      ∙ same_entries (own_values c p) (own ++ function_values c (used_units depth c p)) (functional (own_cells c p) (own_values c p) own_of (once_front (own_cells c p) (seen_cells c p) (cells_once c p accepted))) there back
