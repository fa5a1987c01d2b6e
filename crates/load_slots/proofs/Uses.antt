-- How long chains of uses are, and chains of instances, from the rules of the order of units (36, 46).
use Rattle.std.proofs.Common.{◌≡◌, ℕ, zero, suc, ◌+◌, ◌<◌, ◌≤◌, Bool, true, false, List, [], ◌∷◌, length, refl, sym, ap, ap₂, ◌∙◌, Option, Some, None, subst, arith}
use Rattle.std.specs.Prelude.{Contains, max, bytes_eq, find, if◌then◌else◌, ◌==◌}
use Rattle.std.proofs.lemmas.Bool.Decides.{nat_tests}
use Rattle.std.proofs.lemmas.List.Elements.{Contains-append_left}
use Rattle.std.proofs.lemmas.Slice.Eq.{bytes_eq-Decides}
use Rattle.il_syntax.specs.declared.tree.Form.{Form}
use Rattle.il_syntax.specs.declared.tree.Form.TheVariants.{Scalar as ScalarForm, Array as ArrayForm, Block as BlockForm}
use Rattle.il_syntax.specs.declared.tree.Unit.{Unit as ProgramUnit}
use Rattle.il_syntax.specs.declared.tree.Config.{Config}
use Rattle.il_statics.specs.declared.names.StandardBlock.{StandardBlock}
use Rattle.il_statics.proofs.Every.{every_block}
use Rattle.il_statics.specs.Names.{standard_block, standard_variables, is_predeclared, unit_named, function_block_named}
use Rattle.il_statics.specs.Declarations.{predeclared_unit}
use Rattle.il_statics.specs.Faults.{duplicate, HasNoFault, Broken, Declaring}
use Rattle.base_maps.specs.NameMap.{Text}
use Rattle.il_semantics.specs.Meaning.{Entity, own_entities, standard_entities, block_entities}
use Rattle.il_semantics.specs.Scan.{block_names, invoked_names, used_names, found_units}
use Rattle.il_semantics_laws.specs.Accepted.{IsOrdered}
use Rattle.il_semantics_laws.specs.Agreement.{HasUse, IsStack}
use Rattle.il_semantics_laws.proofs.Lists.{in_nothing, at_head, in_tail, finds_some, found_in}
use Rattle.il_semantics_laws.proofs.Declared.{one_unit}
use Rattle.il_semantics_laws.proofs.Running.{block_is_unit}
use Rattle.il_semantics_laws.proofs.Stacks.{is_shallow, top_among}
use Rattle.il_semantics_laws.proofs.Used.{in_found, in_block_names}
use Rattle.il_semantics_laws.proofs.Meant.{block_among}
use Rattle.load_slots.specs.Places.{form_height, highest, height_to, any_block, IsHeight, AreBelow, used_if, tallest, use_height}
use Rattle.load_slots.proofs.Declared.{block_is_own, block_is_standard}
use Rattle.load_slots.proofs.Heights.{is_height, forms_below}

-- UNITS BY THEIR NAMES

-- a unit of the configuration is that of its name (20)
pub unit_found : (c : Config) → HasNoFault (Broken Declaring c) → (u : ProgramUnit) → Contains c.units u → unit_named c u.name.name ≡ Some u
unit_found c unbroken u among = by_test (is_predeclared c u.name.name) refl
  where
    itself : bytes_eq u.name.name u.name.name ≡ true
    itself = (bytes_eq-Decides u.name.name u.name.name).1 refl

    by_test : (b : Bool) → is_predeclared c u.name.name ≡ b → (if b then None else find (λ w. bytes_eq w.name.name u.name.name) c.units) ≡ Some u
    by_test true is = absurd (unbroken 20 u.place (duplicate refl (predeclared_unit u among is refl)))
    by_test false is =
        let w = finds_some (λ (w : ProgramUnit). bytes_eq w.name.name u.name.name) c.units u among itself in
        let r = found_in (λ (w : ProgramUnit). bytes_eq w.name.name u.name.name) c.units w.0 w.1 in
        w.1 ∙ ap Some (one_unit c unbroken w.0 u r.0 among ((bytes_eq-Decides w.0.name.name u.name.name).0 r.1))

-- GREATEST NUMBERS

both_below : (a b k m : ℕ) → a + k ≤ m → b + k ≤ m → max a b + k ≤ m
both_below a b k m p q = omega (arith, p, q)

tallest_below : (inner : Text → ℕ) (k m : ℕ) → k ≤ m → (vs : List ProgramUnit) → ((v : ProgramUnit) → Contains vs v → inner v.name.name + k ≤ m) → tallest inner vs + k ≤ m
tallest_below inner k m low [] each = omega (arith, low)
tallest_below inner k m low (v ∷ vs) each = both_below (inner v.name.name) (tallest inner vs) k m (each v (at_head v vs)) (tallest_below inner k m low vs (λ w has. each w (in_tail v vs w has)))

in_tallest : (inner : Text → ℕ) (vs : List ProgramUnit) (v : ProgramUnit) → Contains vs v → inner v.name.name ≤ tallest inner vs
in_tallest inner [] v has = absurd (in_nothing v has)
in_tallest inner (w ∷ vs) v (zero, low, same) = first (inner v.name.name) (inner w.name.name) (tallest inner vs) (ap (λ (x : ProgramUnit). inner x.name.name) (sym same))
  where
    first : (k a b : ℕ) → k ≡ a → k ≤ max a b
    first k a b is = omega (arith, is)
in_tallest inner (w ∷ vs) v (suc n, low, same) = second (inner v.name.name) (inner w.name.name) (tallest inner vs) (in_tallest inner vs v (n, omega arith, same))
  where
    second : (k a b : ℕ) → k ≤ b → k ≤ max a b
    second k a b is = omega (arith, is)

tallest_same : (one other : Text → ℕ) (m : ℕ) → ((name : Text) → one name < m → other name ≡ one name) → (vs : List ProgramUnit) → tallest one vs < m → tallest other vs ≡ tallest one vs
tallest_same one other m same [] below = refl
tallest_same one other m same (v ∷ vs) below =
    ap₂ max (same v.name.name (left (one v.name.name) (tallest one vs) below)) (tallest_same one other m same vs (right (one v.name.name) (tallest one vs) below))
  where
    left : (a b : ℕ) → max a b < m → a < m
    left a b below = omega (arith, below)

    right : (a b : ℕ) → max a b < m → b < m
    right a b below = omega (arith, below)

-- a height below the limit is the same under a higher one
stable : (c : Config) (n : ℕ) (name : Text) → use_height c n name < n → use_height c (suc n) name ≡ use_height c n name
stable c zero name below = absurd (let none : ⊥ = omega (arith, below) in none)
stable c (suc n) name below =
    ap suc (tallest_same (use_height c n) (use_height c (suc n)) n (stable c n) (used_if c (unit_named c name)) (let h : tallest (use_height c n) (used_if c (unit_named c name)) < n = omega (arith, below) in h))

highest_below : (inner : Text → ℕ) (k m : ℕ) → k ≤ m → (es : List Entity) → ((e : Entity) (block : Text) → Contains es e → e.form ≡ BlockForm block → inner block + k ≤ m) → highest any_block inner es + k ≤ m
highest_below inner k m low [] each = omega (arith, low)
highest_below inner k m low (e ∷ es) each =
    both_below (form_height any_block inner e.form) (highest any_block inner es) k m (of_form e.form refl) (highest_below inner k m low es (λ d block has is. each d block (in_tail e es d has) is))
  where
    of_form : (f : Form) → e.form ≡ f → form_height any_block inner f + k ≤ m
    of_form (ScalarForm s) is = omega (arith, low)
    of_form (ArrayForm bounds s) is = omega (arith, low)
    of_form (BlockForm block) is = each e block (at_head e es) is

-- INSTANCES ARE USES

declares_use : (c : Config) (u v : ProgramUnit) (e : Entity) (block : Text) → Contains (own_entities u) e → e.form ≡ BlockForm block → function_block_named c block ≡ Some v → HasUse c u v
declares_use c u v e block has is found =
    in_found c (used_names u) block v (Contains-append_left (block_names (own_entities u)) (invoked_names u.body.steps) block (in_block_names (own_entities u) e block has is)) (block_is_unit c block v found)

nat_same : (a b : ℕ) → (a == b) ≡ true → a ≡ b
nat_same a b e = grind (arith, nat_tests)

-- a standard block has no instances
standard_low : (inner : Text → ℕ) (b : StandardBlock) → highest any_block inner (standard_entities (standard_variables b)) ≡ 0
standard_low inner b = nat_same _ 0 (every_block (λ d. highest any_block inner (standard_entities (standard_variables d)) == 0) refl b)

module _ (c : Config) (unbroken : HasNoFault (Broken Declaring c)) (ordered : IsOrdered c) where
  -- a unit's height, and those that use it, are no more than 16 (46)
  low : (p : ProgramUnit) → Contains c.units p → (n : ℕ) (v : ProgramUnit) (us : List ProgramUnit) → IsStack c p v us → use_height c n v.name.name + length us ≤ 16
  low p among zero v us stack = let short = is_shallow c p among unbroken ordered v us stack in omega (arith, short)
  low p among (suc n) v us stack =
      let short : length us < 16 = is_shallow c p among unbroken ordered v us stack in
      let found : unit_named c v.name.name ≡ Some v = unit_found c unbroken v (top_among c p among unbroken ordered v us stack) in
      subst (λ o. suc (tallest (use_height c n) (used_if c o)) + length us ≤ 16) (sym found)
      (further (tallest (use_height c n) (found_units c (used_names v))) (length us)
      (tallest_below (use_height c n) (suc (length us)) 16 (omega (arith, short)) (found_units c (used_names v)) (λ w has. low p among n w (v ∷ us) (has, stack))))
    where
      further : (h k : ℕ) → h + suc k ≤ 16 → suc h + k ≤ 16
      further h k le = omega (arith, le)

  pub uses_most : (u : ProgramUnit) → Contains c.units u → use_height c 17 u.name.name ≤ 16
  uses_most u among = let h : use_height c 17 u.name.name + 0 ≤ 16 = low u among 17 u [] refl in plain (use_height c 17 u.name.name) h
    where
      plain : (h : ℕ) → h + 0 ≤ 16 → h ≤ 16
      plain h le = omega (arith, le)

  -- what a unit uses is lower
  pub uses_fall : (u v : ProgramUnit) → Contains c.units u → HasUse c u v → use_height c 17 v.name.name < use_height c 17 u.name.name
  uses_fall u v among uses =
      let most : use_height c 17 u.name.name ≤ 16 = uses_most u among in
      let again : use_height c 18 u.name.name ≡ use_height c 17 u.name.name = stable c 17 u.name.name (limit (use_height c 17 u.name.name) most) in
      let found : unit_named c u.name.name ≡ Some u = unit_found c unbroken u among in
      let whole : use_height c 18 u.name.name ≡ suc (tallest (use_height c 17) (found_units c (used_names u))) = ap (λ o. suc (tallest (use_height c 17) (used_if c o))) found in
      beside (use_height c 17 v.name.name) (tallest (use_height c 17) (found_units c (used_names u))) (use_height c 17 u.name.name) (in_tallest (use_height c 17) (found_units c (used_names u)) v uses) (sym whole ∙ again)
    where
      limit : (h : ℕ) → h ≤ 16 → h < 17
      limit h le = omega (arith, le)

      beside : (a b h : ℕ) → a ≤ b → suc b ≡ h → a < h
      beside a b h le is = omega (arith, le, is)

  -- INSTANCES IN ONE ANOTHER

  abbrev inner : ℕ → Text → ℕ
  inner n = height_to any_block (block_entities c) n

  -- instances in a unit, and the units that use it
  deep : (p : ProgramUnit) → Contains c.units p → (n : ℕ) (v : ProgramUnit) (us : List ProgramUnit) → IsStack c p v us → highest any_block (inner n) (own_entities v) + suc (length us) ≤ 17
  deep p among zero v us stack =
      let short : length us < 16 = is_shallow c p among unbroken ordered v us stack in
      highest_below (inner 0) (suc (length us)) 17 (omega (arith, short)) (own_entities v) (λ e block has is. omega (arith, short))
  deep p among (suc m) v us stack =
      let short : length us < 16 = is_shallow c p among unbroken ordered v us stack in
      highest_below (inner (suc m)) (suc (length us)) 17 (omega (arith, short)) (own_entities v) (λ e block has is. of_block e block has is short (deep p among m))
    where
      of_block : (e : Entity) (block : Text) → Contains (own_entities v) e → e.form ≡ BlockForm block → length us < 16
          → ((w : ProgramUnit) (ws : List ProgramUnit) → IsStack c p w ws → highest any_block (inner m) (own_entities w) + suc (length ws) ≤ 17) → inner (suc m) block + suc (length us) ≤ 17
      of_block e block has is short more = by_case (standard_block block) refl (function_block_named c block) refl
        where
          one : (h : ℕ) → h ≡ 0 → suc h + suc (length us) ≤ 17
          one h none = omega (arith, none, short)

          further : (h : ℕ) → h + suc (suc (length us)) ≤ 17 → suc h + suc (length us) ≤ 17
          further h le = omega (arith, le)

          by_case : (s : Option StandardBlock) → standard_block block ≡ s → (g : Option ProgramUnit) → function_block_named c block ≡ g → inner (suc m) block + suc (length us) ≤ 17
          by_case (Some b) at g function = one (highest any_block (inner m) (block_entities c block)) (ap (highest any_block (inner m)) (block_is_standard c block b at) ∙ standard_low (inner m) b)
          by_case None at (Some w) function =
              further (highest any_block (inner m) (block_entities c block))
              (subst (λ es. highest any_block (inner m) es + suc (suc (length us)) ≤ 17) (sym (block_is_own c block w function)) (more w (v ∷ us) (declares_use c v w e block has is function, stack)))
          by_case None at None function = one (highest any_block (inner m) (block_entities c block)) (ap (highest any_block (inner m)) (let none : block_entities c block ≡ [] = rw function (rw at refl) in none))

  pub tall : (block : Text) → inner 18 block ≤ 17
  tall block = by_case (standard_block block) refl (function_block_named c block) refl
    where
      one : (h : ℕ) → h ≡ 0 → suc h ≤ 17
      one h none = omega (arith, none)

      plain : (h : ℕ) → h + 1 ≤ 17 → suc h ≤ 17
      plain h le = omega (arith, le)

      by_case : (s : Option StandardBlock) → standard_block block ≡ s → (g : Option ProgramUnit) → function_block_named c block ≡ g → inner 18 block ≤ 17
      by_case (Some b) at g function = one (highest any_block (inner 17) (block_entities c block)) (ap (highest any_block (inner 17)) (block_is_standard c block b at) ∙ standard_low (inner 17) b)
      by_case None at (Some w) function =
          plain (highest any_block (inner 17) (block_entities c block))
          (subst (λ es. highest any_block (inner 17) es + 1 ≤ 17) (sym (block_is_own c block w function)) (deep w (block_among c block w function) 17 w [] refl))
      by_case None at None function = one (highest any_block (inner 17) (block_entities c block)) (ap (highest any_block (inner 17)) (let none : block_entities c block ≡ [] = rw function (rw at refl) in none))

  pub heights : IsHeight c (inner 18)
  heights = is_height c 17 tall

  -- the blocks of a unit's own instances are no deeper than 16
  pub own_below : (u : ProgramUnit) → Contains c.units u → AreBelow (inner 18) 17 (own_entities u)
  own_below u among = forms_below (inner 18) 17 (own_entities u) (plain (highest any_block (inner 18) (own_entities u)) (deep u among 18 u [] refl))
    where
      plain : (h : ℕ) → h + 1 ≤ 17 → h < 17
      plain h le = omega (arith, le)
