-- What the program of a task uses are the units that it needs.
use Rattle.std.proofs.Common.{◌≡◌, ◌↔◌, ◌⊎◌, inl, inr, ℕ, zero, suc, ◌<◌, ◌≤◌, Bool, true, false, ◌&&◌, List, [], ◌∷◌, ◌++◌, length, slice_get, refl, sym, ap, ◌∙◌, subst, Option, Some, None, arith}
use Rattle.std.specs.Prelude.{Contains, flat_map, is_some, if◌then◌else◌}
use Rattle.std.proofs.lemmas.List.Elements.{Contains-append_left, Contains-append_cases}
use Rattle.std.proofs.lemmas.Option.{same_Some, slice_get-get_or}
use Rattle.il_syntax.specs.declared.tree.Form.{Form}
use Rattle.il_syntax.specs.declared.tree.Form.TheVariants.{Scalar as ScalarForm, Array as ArrayForm, Block as BlockForm}
use Rattle.il_syntax.specs.declared.tree.Scalar.{Scalar}
use Rattle.il_syntax.specs.declared.tree.Named.{Named}
use Rattle.il_syntax.specs.declared.tree.Operand.{Operand}
use Rattle.il_syntax.specs.declared.tree.Step.{Step}
use Rattle.il_syntax.specs.declared.tree.Instruction.{Instruction}
use Rattle.il_syntax.specs.declared.tree.Instruction.TheVariants.{Load, Store, Not, Operate, Defer, Evaluate, Jump, Return, Call, Invoke}
use Rattle.il_syntax.specs.declared.tree.Declaration.{Declaration}
use Rattle.il_syntax.specs.declared.tree.Unit.{Unit as ProgramUnit}
use Rattle.il_syntax.specs.declared.tree.Config.{Config}
use Rattle.il_statics.specs.Declarations.{admitted_variables, name_numbers, reference_numbers, Reads, unless, unknown_name}
use Rattle.il_statics.specs.Faults.{HasNoFault, Broken, Declaring, unknown}
use Rattle.il_statics.specs.Names.{is_function, standard_function, unit_named, function_named, function_block_named}
use Rattle.base_maps.specs.NameMap.{Text}
use Rattle.il_semantics.specs.Meaning.{Entity, entities, own_entities, depth}
use Rattle.il_semantics.specs.Scan.{block_names, invoked_names, used_names, found_units, used_units}
use Rattle.il_semantics.specs.Step.{instruction_or_return}
use Rattle.load_order.specs.Instances.{UsesBy, calls, declares, LeadsThrough, Needs}
use Rattle.load_order.specs.Used.{has_name}
use Rattle.il_semantics_laws.specs.Accepted.{IsOrdered}
use Rattle.il_semantics_laws.specs.Agreement.{CallsBy, HasUse, IsStack}
use Rattle.il_semantics_laws.proofs.Lists.{in_nothing, at_head, in_tail, of_flat_map}
use Rattle.il_semantics_laws.proofs.Named.{function_is_unit}
use Rattle.il_semantics_laws.proofs.Running.{block_is_unit, not_predeclared, neither}
use Rattle.il_semantics_laws.proofs.Declared.{one_unit}
use Rattle.il_semantics_laws.proofs.Meant.{is_scalar, is_block, input_typed, output_typed, variable_typed}
use Rattle.il_semantics_laws.proofs.Fresh.{IsEntity, of_entities}
use Rattle.il_semantics_laws.proofs.Stacks.{is_shallow}
use Rattle.il_semantics_laws.proofs.Used.{Invoked, of_found, used_among, instance_used, calls_are_uses, no_standard, of_block_names}
use Rattle.load_slots.specs.Program.{is_used}
use Rattle.load_slots.proofs.Frames.{two_of, function_in_task, of_task_functions}
use Rattle.load_slots.proofs.Tasks.{at_contains}
use Rattle.load_code.specs.Laying.{has_frame}
use Rattle.il_semantics_laws.proofs.Listing.{in_filter, of_filter, stack_used}

-- NAMES

name_among : (ns : List Named) → has_name ns ≡ true → (n : Named) × Contains ns n
name_among [] is = cc
name_among (n ∷ ns) is = (n, at_head n ns)

has_some : (ns : List Named) (n : Named) → Contains ns n → has_name ns ≡ true
has_some [] n among = absurd (in_nothing n among)
has_some (m ∷ ns) n among = refl

of_invoked : (ss : List Step) (name : Text) → Contains (invoked_names ss) name → Invoked ss name
of_invoked [] name among = absurd (in_nothing name among)
of_invoked (t ∷ ss) name among = by_instruction t.instruction refl among (of_invoked ss name)
  where
    later : Invoked ss name → Invoked (t ∷ ss) name
    later r = record { step = r.step; function = r.function; operands = r.operands; among = in_tail t ss r.step r.among; is = r.is; named = r.named }

    by_instruction : (i : Instruction) → t.instruction ≡ i → Contains (invoked_names (t ∷ ss)) name → (Contains (invoked_names ss) name → Invoked ss name) → Invoked (t ∷ ss) name
    by_instruction (Load negated o) is has more = later (more (rw is at has))
    by_instruction (Store kind to) is has more = later (more (rw is at has))
    by_instruction Not is has more = later (more (rw is at has))
    by_instruction (Operate operator o) is has more = later (more (rw is at has))
    by_instruction (Defer operator first) is has more = later (more (rw is at has))
    by_instruction Evaluate is has more = later (more (rw is at has))
    by_instruction (Jump condition label) is has more = later (more (rw is at has))
    by_instruction (Return condition) is has more = later (more (rw is at has))
    by_instruction (Call condition instance arguments) is has more = later (more (rw is at has))
    by_instruction (Invoke function operands) is has more = by_place (rw is at has)
      where
        by_place : Contains (function.name ∷ invoked_names ss) name → Invoked (t ∷ ss) name
        by_place (zero, low, same) = record { step = t; function = function; operands = operands; among = at_head t ss; is = is; named = same }
        by_place (suc k, low, same) = later (more (k, omega arith, same))

module _ (c : Config) (unbroken : HasNoFault (Broken Declaring c)) where
  -- USES

  -- a use of the rules, by a name, is one of what a scan runs
  use_to : (u v : ProgramUnit) → Contains c.units u → UsesBy c false u v → HasUse c u v
  use_to u v among (calls s function operands (k, low, same) is named) = calls_are_uses c unbroken u v k among (subst (CallsBy c u v) (sym at) (no_standard c unbroken function.name v (function_is_unit c function.name v named).0, named))
    where
      at : instruction_or_return (slice_get u.body.steps k) ≡ Invoke function operands
      at = ap instruction_or_return (slice_get-get_or u.body.steps k s low ∙ ap Some same) ∙ is
  use_to u v among (declares d block listed named is found) =
      let n = name_among d.names named in
      instance_used c unbroken u v n.0.name block (record { declaration = d; name_of = n.0; among = listed; listed = n.1; spelled = refl; formed = is }) found

  instance_from : (u v : ProgramUnit) (block : Text) → Contains c.units u → unit_named c block ≡ Some v → (e : Entity) → Contains (own_entities u) e → e.form ≡ BlockForm block → UsesBy c false u v
  instance_from u v block among is e has form = by_list (Contains-append_cases (entities u.inputs ++ entities u.outputs) (entities u.variables) e has)
    where
      no_scalar : (f : Form) → f ≡ BlockForm block → (s : Scalar) × (f ≡ ScalarForm s) → UsesBy c false u v
      no_scalar f b s = let never : BlockForm block ≡ ScalarForm s.0 = sym b ∙ s.1 in cc

      formed : (ds : List Declaration) (l : IsEntity ds e) → l.declaration.declared.form ≡ BlockForm block
      formed ds l = ap (λ (x : Entity). x.form) l.same ∙ form

      by_input : Contains (entities u.inputs) e ⊎ Contains (entities u.outputs) e → UsesBy c false u v
      by_input (inl a) = let l = of_entities u.inputs e a in no_scalar l.declaration.declared.form (formed u.inputs l) (is_scalar c unbroken l.declaration.declared (input_typed c u l.declaration among l.among))
      by_input (inr a) = let l = of_entities u.outputs e a in no_scalar l.declaration.declared.form (formed u.outputs l) (is_scalar c unbroken l.declaration.declared (output_typed c u l.declaration among l.among))

      by_block : (l : IsEntity u.variables e) → (o : Option ProgramUnit) → function_block_named c block ≡ o → UsesBy c false u v
      by_block l None none =
          let b = is_block c unbroken (admitted_variables u.kind) l.declaration.declared block (variable_typed c u l.declaration among l.among) (formed u.variables l) in
          let never : None ≡ Some b.0 = sym (neither c block (not_predeclared c block v is) none) ∙ b.1 in cc
      by_block l (Some w) some =
          let same : w ≡ v = same_Some w v (sym (block_is_unit c block w some) ∙ is) in
          declares l.declaration block l.among (has_some l.declaration.names l.name_of l.listed) (formed u.variables l) (some ∙ ap Some same)

      by_list : Contains (entities u.inputs ++ entities u.outputs) e ⊎ Contains (entities u.variables) e → UsesBy c false u v
      by_list (inl a) = by_input (Contains-append_cases (entities u.inputs) (entities u.outputs) e a)
      by_list (inr a) = by_block (of_entities u.variables e a) (function_block_named c block) refl

  -- a called name is an own function's, where a unit has it (21)
  call_from : (u v : ProgramUnit) (name : Text) → Contains c.units u → unit_named c name ≡ Some v → Invoked u.body.steps name → UsesBy c false u v
  unfolding name_numbers
  call_from u v name among is r = by_function (function_named c r.function.name) refl
    where
      unit_is : unit_named c r.function.name ≡ Some v
      unit_is = ap (unit_named c) r.named ∙ is

      by_function : (o : Option ProgramUnit) → function_named c r.function.name ≡ o → UsesBy c false u v
      by_function None none =
          absurd (unbroken 21 r.step.place (unknown refl (unknown_name (
            u,
            r.step,
            among,
            r.among,
            subst (λ (i : Instruction). Contains (name_numbers c u i) 21) (sym r.is)
                (Contains-append_left (if is_some (standard_function r.function.name) then [] else unless (is_some (function_named c r.function.name)) 21) (flat_map (λ (o : Operand). reference_numbers c u Reads o.reference) r.operands) 21
                (subst (λ o. Contains (if is_some o then [] else unless (is_some (function_named c r.function.name)) 21) 21) (sym (no_standard c unbroken r.function.name v unit_is))
                (subst (λ o. Contains (unless (is_some o) 21) 21) (sym none) (at_head 21 [])))),
            refl,
          ))))
      by_function (Some w) some =
          let same : w ≡ v = same_Some w v (sym (function_is_unit c r.function.name w some).0 ∙ unit_is) in
          calls r.step r.function r.operands r.among r.is (some ∙ ap Some same)

  use_from : (u v : ProgramUnit) → Contains c.units u → HasUse c u v → UsesBy c false u v
  use_from u v among h = by_name (of_found c (used_names u) v h)
    where
      by_side : (name : Text) → unit_named c name ≡ Some v → Contains (block_names (own_entities u)) name ⊎ Contains (invoked_names u.body.steps) name → UsesBy c false u v
      by_side name is (inl a) = let e = of_block_names (own_entities u) name a in instance_from u v name among is e.0 e.1 e.2
      by_side name is (inr a) = call_from u v name among is (of_invoked u.body.steps name a)

      by_name : (name : Text) × Contains (used_names u) name × (unit_named c name ≡ Some v) → UsesBy c false u v
      by_name r = by_side r.0 r.2 (Contains-append_cases (block_names (own_entities u)) (invoked_names u.body.steps) r.0 r.1)

  -- CHAINS OF USES

  -- what is used so deep is needed
  used_needs : (n : ℕ) (u v : ProgramUnit) → Contains c.units u → Contains (used_units n c u) v → Needs c u v × Contains c.units v
  used_needs zero u v among has = absurd (in_nothing v has)
  used_needs (suc n) u v among has = by_unit (of_flat_map (λ (w : ProgramUnit). w ∷ used_units n c w) (found_units c (used_names u)) v has) (λ w. used_needs n w v)
    where
      by_unit : (w : ProgramUnit) × Contains (found_units c (used_names u)) w × Contains (w ∷ used_units n c w) v → ((w : ProgramUnit) → Contains c.units w → Contains (used_units n c w) v → Needs c w v × Contains c.units v) → Needs c u v × Contains c.units v
      by_unit (w, found, (zero, low, same)) more = subst (λ (x : ProgramUnit). Needs c u x × Contains c.units x) same (([], use_from u w among found), used_among c u w found)
      by_unit (w, found, (suc k, low, same)) more =
          let r = more w (used_among c u w found) (k, omega arith, same) in
          ((w ∷ r.0.0, (use_from u w among found, r.0.1)), r.1)

  -- a chain of uses grows by what uses its first
  stacked : (p u v : ProgramUnit) (us between : List ProgramUnit) → Contains c.units u → IsStack c p u us → LeadsThrough (UsesBy c false) u between v → (w : ProgramUnit) × (ws : List ProgramUnit) × IsStack c p v (w ∷ ws)
  stacked p u v us [] among is used = (u, us, (use_to u v among used, is))
  stacked p u v us (w ∷ between) among is used =
      let here = use_to u w among used.0 in
      stacked p w v (u ∷ us) between (used_among c u w here) (here, is) used.1

  module _ (ordered : IsOrdered c) where
    -- and what is needed is used so deep: no chain of uses is longer
    needs_used : (p v : ProgramUnit) → Contains c.units p → Needs c p v → Contains (used_units depth c p) v
    needs_used p v among needs =
        let r = stacked p p v [] needs.0 among refl needs.1 in
        let short : length (r.0 ∷ r.1) < 16 = is_shallow c p among unbroken ordered v (r.0 ∷ r.1) r.2 in
        stack_used c p depth v r.0 r.1 r.2 (short_is (length r.1) short)
      where
        short_is : (n : ℕ) → suc n < 16 → suc n ≤ 16
        short_is n low = omega (arith, low)

    function_used : (p v : ProgramUnit) → Contains c.units p → Contains c.units v → is_function v ≡ true → Needs c p v → is_used c p v ≡ true
    function_used p v among has is needs =
        (two_of (is_function v) (is_used c p v) (of_filter (λ (w : ProgramUnit). is_function w && is_used c p w) c.units v (function_in_task c p v has is (needs_used p v among needs))).1).1

    function_needed : (p v : ProgramUnit) → Contains c.units p → Contains c.units v → is_function v ≡ true → is_used c p v ≡ true → Needs c p v
    function_needed p v among has is used =
        let r = of_task_functions c p v (in_filter (λ (w : ProgramUnit). is_function w && is_used c p w) c.units v has (ap (λ b. b && is_used c p v) is ∙ used)) in
        let w = r.2 in
        let found = used_needs depth p w.0 among w.1 in
        subst (Needs c p) (one_unit c unbroken w.0 v found.1 has w.2) found.0

    -- the functions that a program needs have frames in its task
    pub frame_is : (at k : ℕ) (p v : ProgramUnit) (b r : Bool) → slice_get c.units at ≡ Some p → slice_get c.units k ≡ Some v → (b ≡ true) ↔ Needs c p v → r ≡ (is_function v && b) → r ≡ has_frame c p v
    frame_is at k p v b r here there needs made = made ∙ by_kind (is_function v) refl
      where
        same : (a d : Bool) → (a ≡ true → d ≡ true) → (d ≡ true → a ≡ true) → a ≡ d
        same true d to from = sym (to refl)
        same false true to from = from refl
        same false false to from = refl

        by_kind : (f : Bool) → is_function v ≡ f → (f && b) ≡ (f && is_used c p v)
        by_kind false is = refl
        by_kind true is =
            let program = at_contains c.units at p here in
            let unit = at_contains c.units k v there in
            same b (is_used c p v) (λ e. function_used p v program unit is (needs.0 e)) (λ e. needs.1 (function_needed p v program unit is e))
