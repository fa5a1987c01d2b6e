-- Which units a unit uses, by the names in its declarations and instructions.
use Rattle.std.proofs.Common.{◌≡◌, zero, suc, Bool, true, false, List, [], ◌∷◌, ◌++◌, refl, sym, ap, ◌∙◌, Some, None, Option, subst, slice_get, arith, ◌⊎◌, inl, inr}
use Rattle.std.proofs.lemmas.Option.{same_Some, slice_get_within, get_or_from_slice_get}
use Rattle.std.proofs.lemmas.List.Elements.{Contains-get_or, Contains-append_left, Contains-append_right, Contains-append_cases}
use Rattle.std.specs.Prelude.{Contains, is_some, if◌then◌else◌, flat_map, find, bytes_eq, ◌||◌}
use Rattle.il_syntax.specs.declared.tree.Config.{Config}
use Rattle.il_syntax.specs.declared.tree.Unit.{Unit as ProgramUnit}
use Rattle.il_syntax.specs.declared.tree.Named.{Named}
use Rattle.il_syntax.specs.declared.tree.Declaration.{Declaration}
use Rattle.il_syntax.specs.declared.tree.Scalar.{Scalar}
use Rattle.il_syntax.specs.declared.tree.Operand.{Operand}
use Rattle.il_syntax.specs.declared.tree.Step.{Step as BodyStep}
use Rattle.il_syntax.specs.declared.tree.Form.{Form}
use Rattle.il_syntax.specs.declared.tree.Form.TheVariants.{Scalar as ScalarForm, Array as ArrayForm, Block as BlockForm}
use Rattle.il_syntax.specs.declared.tree.Instruction.{Instruction}
use Rattle.il_syntax.specs.declared.tree.Instruction.TheVariants.{Load, Store, Not, Operate, Defer, Evaluate, Jump, Return, Call, Invoke}
use Rattle.il_statics.specs.declared.names.StandardFunction.{StandardFunction}
use Rattle.il_statics.specs.Names.{standard_function, standard_block, image_name, is_predeclared, unit_named, function_named, function_block_named}
use Rattle.il_statics.specs.Declarations.{admitted_variables, name_numbers, reference_numbers, Reads, unless, unknown_name}
use Rattle.il_statics.specs.Faults.{HasNoFault, Broken, Declaring, unknown}
use Rattle.il_statics.specs.Order.{Uses, calls, declares}
use Rattle.base_maps.specs.NameMap.{Text}
use Rattle.il_semantics.specs.Meaning.{Entity, entities, own_entities}
use Rattle.il_semantics.specs.Scan.{block_names, invoked_names, used_names, found_units}
use Rattle.il_semantics.specs.Step.{instruction_or_return}
use Rattle.il_semantics_laws.specs.Agreement.{CallsBy, HasUse}
use Rattle.il_semantics_laws.specs.Soundness.{CallsAreUses}
use Rattle.il_semantics_laws.proofs.Lists.{in_nothing, at_head, in_tail, in_map}
use Rattle.il_semantics_laws.proofs.Named.{found_unit, function_is_unit}
use Rattle.il_semantics_laws.proofs.Running.{block_is_unit, not_predeclared, neither}
use Rattle.il_semantics_laws.proofs.Declared.{IsListed}
use Rattle.il_semantics_laws.proofs.Meant.{instance_of, is_scalar, is_block, input_typed, output_typed, variable_typed}
use Rattle.il_semantics_laws.proofs.Fresh.{entity, IsEntity, of_entities}

-- NAMES

-- the entity of a declared name
pub in_entities : (ds : List Declaration) (d : Declaration) (n : Named) → Contains ds d → Contains d.names n → Contains (entities ds) (entity d n)
in_entities [] d n among listed = absurd (in_nothing d among)
in_entities (e ∷ ds) d n (zero, low, same) listed = subst (λ (x : Declaration). Contains (entities (x ∷ ds)) (entity d n)) (sym same) (Contains-append_left _ (entities ds) _ (in_map (entity d) d.names n listed))
in_entities (e ∷ ds) d n (suc k, low, same) listed = Contains-append_right _ (entities ds) _ (in_entities ds d n (k, omega arith, same) listed)

-- the block of an instance is one of the names
pub in_block_names : (es : List Entity) (e : Entity) (block : Text) → Contains es e → e.form ≡ BlockForm block → Contains (block_names es) block
in_block_names [] e block among is = absurd (in_nothing e among)
in_block_names (d ∷ es) e block (zero, low, same) is =
    let form : d.form ≡ BlockForm block = ap (λ (x : Entity). x.form) same ∙ is in rw form (at_head block (block_names es))
in_block_names (d ∷ es) e block (suc k, low, same) is = Contains-append_right _ (block_names es) block (in_block_names es e block (k, omega arith, same) is)

-- a name of them is that of an instance's block
pub of_block_names : (es : List Entity) (block : Text) → Contains (block_names es) block → (e : Entity) × Contains es e × (e.form ≡ BlockForm block)
of_block_names [] block among = absurd (in_nothing block among)
of_block_names (d ∷ es) block among = by_form d.form refl among (of_block_names es block)
  where
    later : (e : Entity) × Contains es e × (e.form ≡ BlockForm block) → (e : Entity) × Contains (d ∷ es) e × (e.form ≡ BlockForm block)
    later r = (r.0, in_tail d es r.0 r.1, r.2)

    by_form : (f : Form) → d.form ≡ f → Contains (block_names (d ∷ es)) block → (Contains (block_names es) block → (e : Entity) × Contains es e × (e.form ≡ BlockForm block)) → (e : Entity) × Contains (d ∷ es) e × (e.form ≡ BlockForm block)
    by_form (ScalarForm s) is has more = later (more (rw is at has))
    by_form (ArrayForm bounds s) is has more = later (more (rw is at has))
    by_form (BlockForm b) is has more = by_place (rw is at has)
      where
        by_place : Contains (b ∷ block_names es) block → (e : Entity) × Contains (d ∷ es) e × (e.form ≡ BlockForm block)
        by_place (zero, low, same) = (d, at_head d es, is ∙ ap (λ (t : Text). BlockForm t) same)
        by_place (suc k, low, same) = later (more (k, omega arith, same))

-- the name of a called function is one of the names
in_invoked : (ss : List BodyStep) (s : BodyStep) (function : Named) (operands : List Operand) → Contains ss s → s.instruction ≡ Invoke function operands → Contains (invoked_names ss) function.name
in_invoked [] s function operands among is = absurd (in_nothing s among)
in_invoked (t ∷ ss) s function operands (zero, low, same) is =
    let here : t.instruction ≡ Invoke function operands = ap (λ (x : BodyStep). x.instruction) same ∙ is in rw here (at_head function.name (invoked_names ss))
in_invoked (t ∷ ss) s function operands (suc k, low, same) is = Contains-append_right _ (invoked_names ss) function.name (in_invoked ss s function operands (k, omega arith, same) is)

-- a name of them is that of a called function
pub record Invoked (ss : List BodyStep) (name : Text) : Type 0 where
  pub step : BodyStep
  pub function : Named
  pub operands : List Operand
  pub among : Contains ss step
  pub is : step.instruction ≡ Invoke function operands
  pub named : function.name ≡ name

of_invoked : (ss : List BodyStep) (name : Text) → Contains (invoked_names ss) name → Invoked ss name
of_invoked [] name among = absurd (in_nothing name among)
of_invoked (t ∷ ss) name among = by_instruction t.instruction refl among (of_invoked ss name)
  where
    later : Invoked ss name → Invoked (t ∷ ss) name
    later r = record { step = r.step; function = r.function; operands = r.operands; among = in_tail t ss r.step r.among; is = r.is; named = r.named }

    by_instruction : (i : Instruction) → t.instruction ≡ i → Contains (invoked_names (t ∷ ss)) name → (Contains (invoked_names ss) name → Invoked ss name) → Invoked (t ∷ ss) name
    by_instruction (Load negated o) is has more = later (more (rw is at has))
    by_instruction (Store kind to) is has more = later (more (rw is at has))
    by_instruction Not is has more = later (more (rw is at has))
    by_instruction (Operate operator o) is has more = later (more (rw is at has))
    by_instruction (Defer operator first) is has more = later (more (rw is at has))
    by_instruction Evaluate is has more = later (more (rw is at has))
    by_instruction (Jump condition label) is has more = later (more (rw is at has))
    by_instruction (Return condition) is has more = later (more (rw is at has))
    by_instruction (Call condition instance arguments) is has more = later (more (rw is at has))
    by_instruction (Invoke function operands) is has more = by_place (rw is at has)
      where
        by_place : Contains (function.name ∷ invoked_names ss) name → Invoked (t ∷ ss) name
        by_place (zero, low, same) = record { step = t; function = function; operands = operands; among = at_head t ss; is = is; named = same }
        by_place (suc k, low, same) = later (more (k, omega arith, same))

-- UNITS OF NAMES

pub in_found : (c : Config) (names : List Text) (name : Text) (v : ProgramUnit) → Contains names name → unit_named c name ≡ Some v → Contains (found_units c names) v
in_found c [] name v among is = absurd (in_nothing name among)
in_found c (n ∷ names) name v (zero, low, same) is =
    let here : unit_named c n ≡ Some v = ap (unit_named c) same ∙ is in rw here (at_head v (found_units c names))
in_found c (n ∷ names) name v (suc k, low, same) is = Contains-append_right _ (found_units c names) v (in_found c names name v (k, omega arith, same) is)

pub of_found : (c : Config) (names : List Text) (v : ProgramUnit) → Contains (found_units c names) v → (name : Text) × Contains names name × (unit_named c name ≡ Some v)
of_found c [] v among = absurd (in_nothing v among)
of_found c (n ∷ names) v among = by_unit (unit_named c n) refl among (of_found c names v)
  where
    later : (name : Text) × Contains names name × (unit_named c name ≡ Some v) → (name : Text) × Contains (n ∷ names) name × (unit_named c name ≡ Some v)
    later r = (r.0, in_tail n names r.0 r.1, r.2)

    by_unit : (o : Option ProgramUnit) → unit_named c n ≡ o → Contains (found_units c (n ∷ names)) v → (Contains (found_units c names) v → (name : Text) × Contains names name × (unit_named c name ≡ Some v)) → (name : Text) × Contains (n ∷ names) name × (unit_named c name ≡ Some v)
    by_unit None is has more = later (more (rw is at has))
    by_unit (Some u) is has more = by_place (rw is at has)
      where
        by_place : Contains (u ∷ found_units c names) v → (name : Text) × Contains (n ∷ names) name × (unit_named c name ≡ Some v)
        by_place (zero, low, same) = (n, at_head n names, is ∙ ap Some same)
        by_place (suc k, low, same) = later (more (k, omega arith, same))

-- USES

-- a unit that another uses is one of the configuration
pub used_among : (c : Config) (u v : ProgramUnit) → HasUse c u v → Contains c.units v
used_among c u v h = let r = of_found c (used_names u) v h in found_unit c r.0 v r.2

module _ (c : Config) (unbroken : HasNoFault (Broken Declaring c)) where
  -- an instance of an own block
  pub instance_used : (u v : ProgramUnit) (name block : Text) → IsListed u.variables name (BlockForm block) → function_block_named c block ≡ Some v → HasUse c u v
  instance_used u v name block l is =
      in_found c (used_names u) block v
      (Contains-append_left (block_names (own_entities u)) (invoked_names u.body.steps) block
      (in_block_names (own_entities u) (entity l.declaration l.name_of) block (Contains-append_right (entities u.inputs ++ entities u.outputs) (entities u.variables) _ (in_entities u.variables l.declaration l.name_of l.among l.listed)) l.formed))
      (block_is_unit c block v is)

  -- a call is a use (2.5.1, 2.5.2)
  pub calls_are_uses : CallsAreUses c
  calls_are_uses u v place among h = by_step (slice_get u.body.steps place) refl h
    where
      by_instruction : (s : BodyStep) → Contains u.body.steps s → (i : Instruction) → s.instruction ≡ i → CallsBy c u v i → HasUse c u v
      by_instruction s has (Invoke function operands) is h =
          in_found c (used_names u) function.name v (Contains-append_right (block_names (own_entities u)) (invoked_names u.body.steps) function.name (in_invoked u.body.steps s function operands has is)) (function_is_unit c function.name v h.1).0
      by_instruction s has (Call condition instance arguments) is h = instance_used u v instance.name h.0 (instance_of c unbroken u instance.name h.0 among h.1).0 h.2
      by_instruction s has (Load negated o) is h = absurd h
      by_instruction s has (Store kind to) is h = absurd h
      by_instruction s has Not is h = absurd h
      by_instruction s has (Operate operator o) is h = absurd h
      by_instruction s has (Defer operator first) is h = absurd h
      by_instruction s has Evaluate is h = absurd h
      by_instruction s has (Jump condition label) is h = absurd h
      by_instruction s has (Return condition) is h = absurd h

      by_step : (o : Option BodyStep) → slice_get u.body.steps place ≡ o → CallsBy c u v (instruction_or_return o) → HasUse c u v
      by_step None is h = absurd h
      by_step (Some s) is h = by_instruction s (subst (Contains u.body.steps) (get_or_from_slice_get u.body.steps place s s is) (Contains-get_or u.body.steps place s (slice_get_within u.body.steps place s is))) s.instruction refl h

  -- an instance whose block has a unit's name is one of an own block (21)
  instance_uses : (u v : ProgramUnit) (block : Text) → Contains c.units u → unit_named c block ≡ Some v → (e : Entity) → Contains (own_entities u) e → e.form ≡ BlockForm block → Uses c u v
  instance_uses u v block among is e has form = by_list (Contains-append_cases (entities u.inputs ++ entities u.outputs) (entities u.variables) e has)
    where
      no_scalar : (f : Form) → f ≡ BlockForm block → (s : Scalar) × (f ≡ ScalarForm s) → Uses c u v
      no_scalar f b s = let never : BlockForm block ≡ ScalarForm s.0 = sym b ∙ s.1 in cc

      formed : (ds : List Declaration) (l : IsEntity ds e) → l.declaration.declared.form ≡ BlockForm block
      formed ds l = ap (λ (x : Entity). x.form) l.same ∙ form

      by_input : Contains (entities u.inputs) e ⊎ Contains (entities u.outputs) e → Uses c u v
      by_input (inl a) = let l = of_entities u.inputs e a in no_scalar l.declaration.declared.form (formed u.inputs l) (is_scalar c unbroken l.declaration.declared (input_typed c u l.declaration among l.among))
      by_input (inr a) = let l = of_entities u.outputs e a in no_scalar l.declaration.declared.form (formed u.outputs l) (is_scalar c unbroken l.declaration.declared (output_typed c u l.declaration among l.among))

      by_block : (l : IsEntity u.variables e) → (o : Option ProgramUnit) → function_block_named c block ≡ o → Uses c u v
      by_block l None none =
          let b = is_block c unbroken (admitted_variables u.kind) l.declaration.declared block (variable_typed c u l.declaration among l.among) (formed u.variables l) in
          let never : None ≡ Some b.0 = sym (neither c block (not_predeclared c block v is) none) ∙ b.1 in cc
      by_block l (Some w) some =
          let same : w ≡ v = same_Some w v (sym (block_is_unit c block w some) ∙ is) in
          declares l.declaration block l.among (formed u.variables l) (some ∙ ap Some same)

      by_list : Contains (entities u.inputs ++ entities u.outputs) e ⊎ Contains (entities u.variables) e → Uses c u v
      by_list (inl a) = by_input (Contains-append_cases (entities u.inputs) (entities u.outputs) e a)
      by_list (inr a) = by_block (of_entities u.variables e a) (function_block_named c block) refl

  -- a name that a unit has is no standard function's
  pub no_standard : (name : Text) (v : ProgramUnit) → unit_named c name ≡ Some v → standard_function name ≡ None
  no_standard name v e = by_test (is_predeclared c name) refl e
    where
      by_function : (a b : Bool) (o : Option StandardFunction) → (a || is_some o || b) ≡ false → o ≡ None
      by_function a b None h = refl
      by_function true true (Some s) h = cc
      by_function true false (Some s) h = cc
      by_function false true (Some s) h = cc
      by_function false false (Some s) h = cc

      by_test : (b : Bool) → is_predeclared c name ≡ b → (if b then None else find (λ u. bytes_eq u.name.name name) c.units) ≡ Some v → standard_function name ≡ None
      by_test true is e = cc
      by_test false is e = by_function (is_some (image_name c name)) (is_some (standard_block name)) (standard_function name) is

  -- a called name is an own function's, where a unit has it (21)
  call_uses : (u v : ProgramUnit) (name : Text) → Contains c.units u → unit_named c name ≡ Some v → Invoked u.body.steps name → Uses c u v
  unfolding name_numbers
  call_uses u v name among is r = by_function (function_named c r.function.name) refl
    where
      unit_is : unit_named c r.function.name ≡ Some v
      unit_is = ap (unit_named c) r.named ∙ is

      by_function : (o : Option ProgramUnit) → function_named c r.function.name ≡ o → Uses c u v
      by_function None none =
          absurd (unbroken 21 r.step.place (unknown refl (unknown_name (
            u,
            r.step,
            among,
            r.among,
            subst (λ (i : Instruction). Contains (name_numbers c u i) 21) (sym r.is)
                (Contains-append_left (if is_some (standard_function r.function.name) then [] else unless (is_some (function_named c r.function.name)) 21) (flat_map (λ (o : Operand). reference_numbers c u Reads o.reference) r.operands) 21
                (subst (λ o. Contains (if is_some o then [] else unless (is_some (function_named c r.function.name)) 21) 21) (sym (no_standard r.function.name v unit_is))
                (subst (λ o. Contains (unless (is_some o) 21) 21) (sym none) (at_head 21 [])))),
            refl,
          ))))
      by_function (Some w) some =
          let same : w ≡ v = same_Some w v (sym (function_is_unit c r.function.name w some).0 ∙ unit_is) in
          calls r.step r.function r.operands r.among r.is (some ∙ ap Some same)

  -- a use by names is a use of the rules (21)
  pub uses_of : (u v : ProgramUnit) → Contains c.units u → HasUse c u v → Uses c u v
  uses_of u v among h = by_name (of_found c (used_names u) v h)
    where
      by_side : (name : Text) → unit_named c name ≡ Some v → Contains (block_names (own_entities u)) name ⊎ Contains (invoked_names u.body.steps) name → Uses c u v
      by_side name is (inl a) = let e = of_block_names (own_entities u) name a in instance_uses u v name among is e.0 e.1 e.2
      by_side name is (inr a) = call_uses u v name among is (of_invoked u.body.steps name a)

      by_name : (name : Text) × Contains (used_names u) name × (unit_named c name ≡ Some v) → Uses c u v
      by_name r = by_side r.0 r.2 (Contains-append_cases (block_names (own_entities u)) (invoked_names u.body.steps) r.0 r.1)
