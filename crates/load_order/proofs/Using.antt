-- The numbers of the units that a unit uses are those of the rules.
use Rattle.std.proofs.Common.{◌≡◌, ℕ, zero, suc, ◌<◌, inl, inr, Bool, true, false, ◌&&◌, ◌||◌, if◌then◌else◌, List, [], ◌∷◌, ◌++◌, map, length, slice_get, Option, Some, None, is_some, option_map, option_and_then, refl, sym, ap, ap₂, ◌∙◌, subst, arith}
use Rattle.std.specs.Prelude.{Contains, nat_eq, find, bytes_eq}
use Rattle.std.proofs.lemmas.Bool.Decides.{nat_tests}
use Rattle.std.proofs.lemmas.Option.{slice_get-map, slice_get_within}
use Rattle.std.proofs.lemmas.List.Elements.{Contains-append_left, Contains-append_right, Contains-append_cases}
use Rattle.il_syntax.specs.declared.tree.Config.{Config}
use Rattle.il_syntax.specs.declared.tree.Unit.{Unit as ProgramUnit}
use Rattle.il_syntax.specs.declared.tree.Step.{Step}
use Rattle.il_syntax.specs.declared.tree.Declaration.{Declaration}
use Rattle.il_syntax.specs.declared.tree.Form.{Form}
use Rattle.il_syntax.specs.declared.tree.Form.TheVariants.{Scalar as OfScalar, Array as OfArray, Block as OfBlock}
use Rattle.il_syntax.specs.declared.tree.Instruction.{Instruction}
use Rattle.il_syntax.specs.declared.tree.Instruction.TheVariants.{Load, Store, Not, Operate, Defer, Evaluate, Jump, Return, Call, Invoke}
use Rattle.il_statics.specs.declared.names.StandardBlock.{StandardBlock}
use Rattle.il_statics.specs.Names.{Spelling, or_else, is_function_block, image_name, standard_function, standard_block, function_named, function_block_named}
use Rattle.il_statics.specs.Order.{Uses, calls as of_call, declares as of_instance}
use Rattle.load_scope.specs.declared.entry.BlockType.{BlockType}
use Rattle.load_scope.specs.declared.entry.BlockType.TheVariants.{Standard as StandardType, Own}
use Rattle.load_scope.specs.Views.{function_number, function_block_number, block_type}
use Rattle.load_scope.proofs.Laws.{function_found, function_block_found}
use Rattle.load_declarations.proofs.Members.{none_in, one_in, in_rest, in_flat, from_flat}
use Rattle.load_order.specs.Related.{is_entry, holds_in, holds, tabulate, closed}
use Rattle.load_order.specs.Breaks.{reached}
use Rattle.load_order.specs.Instances.{UsesBy, calls, declares, needed}
use Rattle.load_order.specs.Used.{numbers, own_number, called, declared_in, has_name, all_named, are_named, counted_in, called_by, declared_by, used_by, is_among, uses_row, uses}
use Rattle.load_order.proofs.Tabled.{from_or, or_left, or_right, tabulated, some_same}
use Rattle.load_types.proofs.Sharing.{both_true as both_are}

-- NUMBERS

pub among_to : (ks : List ℕ) (v : ℕ) → is_among ks v ≡ true → Contains ks v
among_to [] v e = let bad : false ≡ true = e in cc
among_to (k ∷ ks) v e = elim (from_or (nat_eq k v) (is_among ks v) e) [ inl a ↦ here (same k v a) | inr b ↦ in_rest k ks v (among_to ks v b) ]
  where
    same : (a b : ℕ) → nat_eq a b ≡ true → a ≡ b
    same a b e = grind (arith, nat_tests)

    here : k ≡ v → Contains (k ∷ ks) v
    here is = (0, omega arith, is)

pub among_from : (ks : List ℕ) (v : ℕ) → Contains ks v → is_among ks v ≡ true
among_from [] v among = absurd (none_in v among)
among_from (k ∷ ks) v (zero, low, e) = or_left (nat_eq k v) (is_among ks v) (same k v e)
  where
    same : (a b : ℕ) → a ≡ b → nat_eq a b ≡ true
    same a b e = grind (arith, nat_tests)
among_from (k ∷ ks) v (suc i, low, e) = or_right (nat_eq k v) (is_among ks v) (among_from ks v (i, omega (arith, low), e))

numbers_to : (o : Option ℕ) (v : ℕ) → Contains (numbers o) v → o ≡ Some v
numbers_to None v among = absurd (none_in v among)
numbers_to (Some k) v among = ap Some (one_in k v among)

numbers_from : (o : Option ℕ) (v : ℕ) → o ≡ Some v → Contains (numbers o) v
numbers_from o v e = subst (λ x. Contains (numbers x) v) (sym e) (0, omega arith, refl)

own_to : (o : Option BlockType) (v : ℕ) → own_number o ≡ Some v → o ≡ Some (Own v)
own_to None v e = let bad : None ≡ Some v = e in cc
own_to (Some (StandardType b)) v e = let bad : None ≡ Some v = e in cc
own_to (Some (Own k)) v e = ap (λ x. Some (Own x)) (some_same k v e)

-- the unit of a number that is found
pub found_at : (c : Config) (o : Option ℕ) (named : Option ProgramUnit) (U : ProgramUnit) → option_and_then (slice_get c.units) o ≡ named → named ≡ Some U → (k : ℕ) × (o ≡ Some k) × (slice_get c.units k ≡ Some U)
found_at c None named U e f = let bad : None ≡ Some U = e ∙ f in cc
found_at c (Some k) named U e f = (k, refl, e ∙ f)

-- BLOCKS

-- an own block's number is its unit's
pub own_of_type : (c : Config) (name : Spelling) (v : ℕ) → block_type c name ≡ Some (Own v) → function_block_number c name ≡ Some v
unfolding block_type
own_of_type c name v e = by_standard (standard_block name) (function_block_number c name) e
  where
    by_standard : (s : Option StandardBlock) (o : Option ℕ) → or_else (option_map (λ b. StandardType b) s) (option_map Own o) ≡ Some (Own v) → o ≡ Some v
    by_standard (Some b) o e = let bad : Some (StandardType b) ≡ Some (Own v) = e in cc
    by_standard None None e = let bad : None ≡ Some (Own v) = e in cc
    by_standard None (Some k) e = let same : Some (Own k) ≡ Some (Own v) = e in cc

-- a name of an own block is no standard block's
type_of_own : (c : Config) (name : Spelling) (v : ℕ) (U : ProgramUnit) → function_block_named c name ≡ Some U → function_block_number c name ≡ Some v → block_type c name ≡ Some (Own v)
unfolding block_type
type_of_own c name v U named number = by_standard (standard_block name) refl
  where
    predeclared : (a b : Bool) (s : Option StandardBlock) (sb : StandardBlock) → s ≡ Some sb → (a || b || is_some s) ≡ true
    predeclared true b s sb e = refl
    predeclared false true s sb e = refl
    predeclared false false s sb e = ap is_some e

    none : (b : Bool) → b ≡ true → option_and_then (λ (u : ProgramUnit). if is_function_block u then Some u else None) (if b then None else find (λ u. bytes_eq u.name.name name) c.units) ≡ Some U → ⊥
    none true is e = let bad : None ≡ Some U = e in cc
    none false is e = let bad : false ≡ true = is in cc

    by_standard : (s : Option StandardBlock) → standard_block name ≡ s → or_else (option_map (λ b. StandardType b) s) (option_map Own (function_block_number c name)) ≡ Some (Own v)
    by_standard (Some b) is = absurd (none (is_some (image_name c name) || is_some (standard_function name) || is_some (standard_block name)) (predeclared (is_some (image_name c name)) (is_some (standard_function name)) (standard_block name) b is) named)
    by_standard None is = ap (option_map Own) number

-- USES

-- what counts of a declaration
counted_to : (b : Bool) (ks : List ℕ) (v : ℕ) → Contains (if b then ks else []) v → (b ≡ true) × Contains ks v
counted_to true ks v has = (refl, has)
counted_to false ks v has = absurd (none_in v has)

counted_from : (b : Bool) (ks : List ℕ) (v : ℕ) → b ≡ true → Contains ks v → Contains (if b then ks else []) v
counted_from true ks v is has = has
counted_from false ks v is has = let bad : false ≡ true = is in cc

module _ (c : Config) (nameless : Bool) where
  -- the numbers that a unit uses are those of units that it uses
  uses_of : (U V : ProgramUnit) (v : ℕ) → slice_get c.units v ≡ Some V → Contains (used_by c nameless U) v → UsesBy c nameless U V
  uses_of U V v there among = elim (Contains-append_cases (called_by c U.body.steps) (declared_by c nameless U.variables) v among) [ inl a ↦ by_steps (from_flat (λ (s : Step). called c s.instruction) U.body.steps v a) | inr b ↦ by_variables (from_flat (λ (d : Declaration). counted_in c nameless d) U.variables v b) ]
    where
      by_steps : (s : Step) × Contains U.body.steps s × Contains (called c s.instruction) v → UsesBy c nameless U V
      by_steps (s, listed, has) = by_instruction s.instruction refl has
        where
          by_instruction : (i : Instruction) → s.instruction ≡ i → Contains (called c i) v → UsesBy c nameless U V
          by_instruction (Load negated operand) is h = absurd (none_in v h)
          by_instruction (Store store target) is h = absurd (none_in v h)
          by_instruction Not is h = absurd (none_in v h)
          by_instruction (Operate operator operand) is h = absurd (none_in v h)
          by_instruction (Defer operator first) is h = absurd (none_in v h)
          by_instruction Evaluate is h = absurd (none_in v h)
          by_instruction (Jump condition label) is h = absurd (none_in v h)
          by_instruction (Return condition) is h = absurd (none_in v h)
          by_instruction (Call condition instance arguments) is h = absurd (none_in v h)
          by_instruction (Invoke function operands) is h =
              calls s function operands listed is (sym (function_found c function.name) ∙ ap (option_and_then (slice_get c.units)) (numbers_to (function_number c function.name) v h) ∙ there)

      by_variables : (d : Declaration) × Contains U.variables d × Contains (counted_in c nameless d) v → UsesBy c nameless U V
      by_variables (d, listed, has) = let r = counted_to (nameless || has_name d.names) (declared_in c d.declared.form) v has in by_form d.declared.form refl r.0 r.1
        where
          by_form : (f : Form) → d.declared.form ≡ f → (nameless || has_name d.names) ≡ true → Contains (declared_in c f) v → UsesBy c nameless U V
          by_form (OfScalar scalar) is named h = absurd (none_in v h)
          by_form (OfArray bounds element) is named h = absurd (none_in v h)
          by_form (OfBlock name) is named h =
              declares d name listed named is (sym (function_block_found c name) ∙ ap (option_and_then (slice_get c.units)) (own_of_type c name v (own_to (block_type c name) v (numbers_to (own_number (block_type c name)) v h))) ∙ there)

  -- and those of all
  of_uses : (U V : ProgramUnit) → UsesBy c nameless U V → (v : ℕ) × (slice_get c.units v ≡ Some V) × Contains (used_by c nameless U) v
  of_uses U V (calls s function operands listed is named) =
      let r = found_at c (function_number c function.name) (function_named c function.name) V (function_found c function.name) named in
      (r.0, r.2, Contains-append_left (called_by c U.body.steps) (declared_by c nameless U.variables) r.0 (in_flat (λ (s : Step). called c s.instruction) U.body.steps s r.0 listed (subst (λ i. Contains (called c i) r.0) (sym is) (numbers_from (function_number c function.name) r.0 r.1))))
  of_uses U V (declares d name listed counts is named) =
      let r = found_at c (function_block_number c name) (function_block_named c name) V (function_block_found c name) named in (
        r.0,
        r.2,
        Contains-append_right (called_by c U.body.steps) (declared_by c nameless U.variables) r.0 (in_flat (λ (d : Declaration). counted_in c nameless d) U.variables d r.0 listed
            (counted_from (nameless || has_name d.names) (declared_in c d.declared.form) r.0 counts
            (subst (λ f. Contains (declared_in c f) r.0) (sym is) (numbers_from (own_number (block_type c name)) r.0 (ap own_number (type_of_own c name r.0 V named r.1)))))),
      )

  uses_is : (u v : ℕ) (U : ProgramUnit) → slice_get c.units u ≡ Some U → v < length c.units → holds (uses c nameless) u v ≡ is_among (used_by c nameless U) v
  uses_is u v U there low =
      ap (λ o. holds_in o v) (slice_get-map (uses_row c nameless) c.units u ∙ ap (option_map (uses_row c nameless)) there)
      ∙ ap is_entry (tabulated (λ to. is_among (used_by c nameless U) to) (length c.units) v low)

  -- the relation is that of the units
  pub used_to : (u v : ℕ) (U V : ProgramUnit) → slice_get c.units u ≡ Some U → slice_get c.units v ≡ Some V → holds (uses c nameless) u v ≡ true → UsesBy c nameless U V
  used_to u v U V here there e = uses_of U V v there (among_to (used_by c nameless U) v (sym (uses_is u v U here (slice_get_within c.units v V there)) ∙ e))

  pub used_from : (u : ℕ) (U V : ProgramUnit) → slice_get c.units u ≡ Some U → UsesBy c nameless U V → (v : ℕ) × (slice_get c.units v ≡ Some V) × (holds (uses c nameless) u v ≡ true)
  used_from u U V here used =
      let r = of_uses U V used in
      (r.0, r.1, uses_is u r.0 U here (slice_get_within c.units r.0 V r.1) ∙ among_from (used_by c nameless U) r.0 r.2)

module _ (c : Config) where
  -- where each declaration counts, it is that of the rules
  pub held_to : (u v : ℕ) (U V : ProgramUnit) → slice_get c.units u ≡ Some U → slice_get c.units v ≡ Some V → holds (uses c true) u v ≡ true → Uses c U V
  held_to u v U V here there e = by_use (used_to c true u v U V here there e)
    where
      by_use : UsesBy c true U V → Uses c U V
      by_use (calls s function operands listed is named) = of_call s function operands listed is named
      by_use (declares d name listed counts is named) = of_instance d name listed is named

  pub held_from : (u : ℕ) (U V : ProgramUnit) → slice_get c.units u ≡ Some U → Uses c U V → (v : ℕ) × (slice_get c.units v ≡ Some V) × (holds (uses c true) u v ≡ true)
  held_from u U V here (of_call s function operands listed is named) = used_from c true u U V here (calls s function operands listed is named)
  held_from u U V here (of_instance d name listed is named) = used_from c true u U V here (declares d name listed refl is named)

-- WHERE ALL ARE NAMED

declared_same : (c : Config) (ds : List Declaration) → all_named ds ≡ true → declared_by c true ds ≡ declared_by c false ds
declared_same c [] named = refl
declared_same c (d ∷ ds) named =
    let both = both_are (has_name d.names) (all_named ds) named in
    ap₂ ◌++◌ (ap (λ b. if b then declared_in c d.declared.form else []) (sym both.0)) (declared_same c ds both.1)

rows_same : (c : Config) (us : List ProgramUnit) → are_named us ≡ true → map (uses_row c true) us ≡ map (uses_row c false) us
rows_same c [] named = refl
rows_same c (u ∷ us) named =
    let both = both_are (all_named u.variables) (are_named us) named in
    ap₂ ◌∷◌ (ap (λ ks. tabulate (length c.units) (λ to. is_among (called_by c u.body.steps ++ ks) to)) (declared_same c u.variables both.0)) (rows_same c us both.1)

-- what is needed is what is reached
pub needed_same : (c : Config) (units : List ProgramUnit) (b : Bool) → units ≡ c.units → b ≡ are_named units → b ≡ true → (r : List (List Bool)) → r ≡ reached c → r ≡ needed c
needed_same c units b is test passes r reaching =
    reaching ∙ ap (λ u. closed (length c.units) u (length c.units)) (rows_same c c.units (ap are_named (sym is) ∙ sym test ∙ passes))
