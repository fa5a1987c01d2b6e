-- Amid a test: what its LD and its comparison leave, and which side its jump takes.
use Rattle.std.proofs.Common.{◌≡◌, ℕ, zero, suc, ◌+◌, Bool, true, false, List, [], ◌∷◌, refl, sym, ap, ◌∙◌, Some, None, Option, subst, ℤ, ◌≤◌, arith, slice_get, cond, map}
use Rattle.std.specs.Prelude.{option_map, option_and_then, if◌then◌else◌}
use Rattle.std.specs.Ordering.{eq_by_cmp}
use Rattle.il_syntax.specs.declared.tree.Config.{Config}
use Rattle.il_syntax.specs.declared.tree.Unit.{Unit as ProgramUnit}
use Rattle.il_syntax.specs.declared.tree.Elementary.{Elementary}
use Rattle.il_syntax.specs.declared.tree.Scalar.{Scalar}
use Rattle.il_syntax.specs.declared.tree.Body.{Body}
use Rattle.il_syntax.specs.declared.tree.Step.{Step}
use Rattle.il_syntax.specs.declared.tree.Named.{Named}
use Rattle.il_syntax.specs.declared.tree.Operand.{Operand}
use Rattle.il_syntax.specs.declared.tree.Operator.{Operator}
use Rattle.il_syntax.specs.declared.tree.Operator.TheVariants.{Logic, Arithmetic, Comparison}
use Rattle.il_syntax.specs.declared.tree.Instruction.{Instruction}
use Rattle.il_syntax.specs.declared.tree.Instruction.TheVariants.{Load, Store, Not, Operate, Defer, Evaluate, Jump, Return, Call, Invoke}
use Rattle.il_syntax.specs.declared.tree.Literal.{Literal}
use Rattle.il_syntax.specs.declared.tree.Literal.TheVariants.{Truth, Bare, Whole, Time as Duration}
use Rattle.il_syntax.specs.declared.tree.Elementary.TheVariants.{Time}
use Rattle.il_syntax.specs.declared.tree.Comparison.{Comparison as ComparisonKind}
use Rattle.il_syntax.specs.declared.tree.Form.TheVariants.{Scalar as ScalarForm}
use Rattle.il_syntax.specs.ElementaryTypes.{limits, is_whole, is_same_type}
use Rattle.ranges_interval.specs.declared.Interval.{Interval}
use Rattle.ranges_interval.specs.Interval.{IsIn}
use Rattle.ranges_interval.specs.Compared.{interval_narrow, IsLeft}
use Rattle.ranges_interval.proofs.Outcomes.{leaves_all}
use Rattle.il_statics.specs.Declarations.{is_within_any}
use Rattle.il_statics.specs.Names.{form_named}
use Rattle.il_semantics.specs.Meaning.{Denotation, under}
use Rattle.il_semantics.specs.declared.known.Known.{Known}
use Rattle.il_semantics.specs.declared.known.Known.TheVariants.{Flag, Ranged}
use Rattle.il_semantics.specs.Annotation.{WithKnownResult, WithOperand, WithOperated, narrowed, narrowed_by}
use Rattle.il_semantics_laws.proofs.Going.{same_by, both, provided_ok}
use Rattle.il_semantics_laws.proofs.Reading.{operand_known}
use Rattle.il_semantics_laws.proofs.Texts.{same_text}
use Rattle.std.proofs.lemmas.Option.{same_Some}
use Rattle.il_statics.specs.Names.{Spelling, is_one_of}
use Rattle.il_statics.specs.Types.{label_from, label_place}
use Rattle.il_semantics.specs.declared.value.Content.{Content}
use Rattle.base_maps.specs.NameMap.{NameMap, Text, order, get, insert, get-insert}
use Rattle.il_semantics.specs.State.{Values}
use Rattle.il_semantics.specs.declared.value.Value.TheVariants.{Integer}
use Rattle.ranges_interval.specs.Compared.{compared}
use Rattle.il_semantics.specs.Step.{Outcome, with_literal, truth, content, instruction_at}
use Rattle.il_semantics.specs.Tests.{Test, if_value, literal_number, loaded_variable, comparison_of, jump_on, if_unlabelled, unlabelled, compared_at, test_at}
use Rattle.il_semantics.proofs.Testing.{on_none, compared_behind, tested_behind, compares, tested_of}
use Rattle.il_semantics_laws.specs.Agreement.{HasTested, IsTested, KnowsVariables}

-- a label names no place before those that are looked at
label_from_on : (at : ℕ) (steps : List Step) (last : List Spelling) (name : Spelling) (to : ℕ) → label_from at steps last name ≡ Some to → at ≤ to
label_from_on at [] last name to e = by_test (is_one_of last name) e
  where
    by_test : (b : Bool) → (if b then Some at else None) ≡ Some to → at ≤ to
    by_test true e = let same : at ≡ to = cc in omega arith
    by_test false e = cc
label_from_on at (s ∷ steps) last name to e = by_test (is_one_of (map (λ l. l.name) s.labels) name) e (label_from_on (at + 1) steps last name to)
  where
    by_test : (b : Bool) → (if b then Some at else label_from (at + 1) steps last name) ≡ Some to → (label_from (at + 1) steps last name ≡ Some to → at + 1 ≤ to) → at ≤ to
    by_test true e more = let same : at ≡ to = cc in omega arith
    by_test false e more = let h = more e in omega arith

-- a place that a label names has one
labelled : (steps : List Step) (at : ℕ) (last : List Spelling) (name : Spelling) (n to : ℕ) → to ≡ at + n → label_from at steps last name ≡ Some to → unlabelled (slice_get steps n) ≡ None
labelled [] at last name n to where_is e = refl
labelled (s ∷ steps) at last name n to where_is e = by_test (is_one_of (map (λ l. l.name) s.labels) name) refl n where_is e (λ m w g. labelled steps (at + 1) last name m to w g)
  where
    by_labels : (labels : List Named) (i : Instruction) → is_one_of (map (λ l. l.name) labels) name ≡ true → if_unlabelled labels i ≡ None
    by_labels [] i e = cc
    by_labels (l ∷ ls) i e = refl

    by_place : (n : ℕ) → to ≡ at + n → label_from (at + 1) steps last name ≡ Some to → ((m : ℕ) → to ≡ (at + 1) + m → label_from (at + 1) steps last name ≡ Some to → unlabelled (slice_get steps m) ≡ None) → unlabelled (slice_get (s ∷ steps) n) ≡ None
    by_place zero w e more = let h = label_from_on (at + 1) steps last name to e in absurd (omega arith)
    by_place (suc n) w e more = more n (omega arith) e

    by_test : (b : Bool) → is_one_of (map (λ l. l.name) s.labels) name ≡ b → (n : ℕ) → to ≡ at + n → (if b then Some at else label_from (at + 1) steps last name) ≡ Some to → ((m : ℕ) → to ≡ (at + 1) + m → label_from (at + 1) steps last name ≡ Some to → unlabelled (slice_get steps m) ≡ None) → unlabelled (slice_get (s ∷ steps) n) ≡ None
    by_test true t zero w e more = by_labels s.labels s.instruction t
    by_test true t (suc n) w e more = let same : at ≡ to = cc in absurd (omega arith)
    by_test false t n w e more = by_place n w e more

place_labelled : (body : Body) (name : Spelling) (to : ℕ) → label_place body name ≡ Some to → unlabelled (slice_get body.steps to) ≡ None
unfolding label_place
place_labelled body name to e = labelled body.steps 0 (map (λ l. l.name) body.last_labels) name to to (omega arith) e

-- WHERE NO TEST STANDS

no_test : (c : Config) (u : ProgramUnit) (path : Text) (place : ℕ) (values : Values) (result : Option Content) → compared_at c u place ≡ None → test_at c u place ≡ None → IsTested c u path place values result
no_test c u path place values result e g = record {
  loaded = λ t is. let bad : None ≡ Some t = sym e ∙ is in cc;
  compared = λ t is. let bad : None ≡ Some t = sym g ∙ is in cc;
}

-- at a label
pub tested_at_label : (c : Config) (u : ProgramUnit) (path : Text) (name : Spelling) (to : ℕ) (values : Values) (result : Option Content) → label_place u.body name ≡ Some to → IsTested c u path to values result
tested_at_label c u path name to values result e = by_place to (place_labelled u.body name to e)
  where
    by_place : (to : ℕ) → unlabelled (slice_get u.body.steps to) ≡ None → IsTested c u path to values result
    by_place zero e = no_test c u path 0 values result refl refl
    by_place (suc n) e =
        no_test c u path (suc n) values result (on_none (λ i. option_and_then (comparison_of i) (loaded_variable c u (instruction_at u.body n))) (unlabelled (slice_get u.body.steps (suc n))) e) (on_none (λ i. option_and_then (jump_on i) (compared_at c u n)) (unlabelled (slice_get u.body.steps (suc n))) e)

-- at the entry of a body
pub tested_at_entry : (c : Config) (u : ProgramUnit) (path : Text) (values : Values) (result : Option Content) → IsTested c u path 0 values result
tested_at_entry c u path values result = no_test c u path 0 values result refl refl

-- whether no test goes on after an instruction: not after LD of what may be a variable, nor after a comparison
abbrev pub is_apart : Instruction → Bool
is_apart (Load false operand) = false
is_apart (Operate (Comparison kind) operand) = false
is_apart _ = true

apart_loads : (c : Config) (u : ProgramUnit) (i : Instruction) → is_apart i ≡ true → loaded_variable c u i ≡ None
apart_loads c u (Load false o) e = cc
apart_loads c u (Load true o) e = refl
apart_loads c u (Store kind to) e = refl
apart_loads c u Not e = refl
apart_loads c u (Operate operator o) e = refl
apart_loads c u (Defer operator first) e = refl
apart_loads c u Evaluate e = refl
apart_loads c u (Jump condition label) e = refl
apart_loads c u (Return condition) e = refl
apart_loads c u (Call condition instance arguments) e = refl
apart_loads c u (Invoke function operands) e = refl

apart_compares : (i : Instruction) (v : Text × Elementary) (t : Test) → is_apart i ≡ true → comparison_of i v ≡ Some t → ⊥
apart_compares (Load negated o) v t e g = cc
apart_compares (Store kind to) v t e g = cc
apart_compares Not v t e g = cc
apart_compares (Operate (Logic kind negated) o) v t e g = cc
apart_compares (Operate (Arithmetic kind) o) v t e g = cc
apart_compares (Operate (Comparison kind) o) v t e g = cc
apart_compares (Defer operator first) v t e g = cc
apart_compares Evaluate v t e g = cc
apart_compares (Jump condition label) v t e g = cc
apart_compares (Return condition) v t e g = cc
apart_compares (Call condition instance arguments) v t e g = cc
apart_compares (Invoke function operands) v t e g = cc

-- after such an instruction
pub tested_apart : (c : Config) (u : ProgramUnit) (path : Text) (place : ℕ) (i : Instruction) (values : Values) (result : Option Content) → instruction_at u.body place ≡ i → is_apart i ≡ true → IsTested c u path (place + 1) values result
tested_apart c u path place i values result is apart =
    no_test c u path (place + 1) values result (compared_behind c u place (ap (loaded_variable c u) is ∙ apart_loads c u i apart)) (tested_behind c u place (by_test (compared_at c u place) refl))
  where
    by_test : (o : Option Test) → compared_at c u place ≡ o → compared_at c u place ≡ None
    by_test None e = e
    by_test (Some t) e = let h = compares c u place t e in absurd (apart_compares i h.variable t apart (ap (λ j. comparison_of j h.variable) (sym is) ∙ h.comparison))

-- after an LD, whose place follows no LD of its own test
pub tested_loaded : (c : Config) (u : ProgramUnit) (path : Text) (place : ℕ) (negated : Bool) (o : Operand) (values : Values) (result : Option Content) → instruction_at u.body place ≡ Load negated o
    → ((t : Test) → compared_at c u (place + 1) ≡ Some t → HasTested path values t (λ z. content t.elementary (Integer z)) result) → IsTested c u path (place + 1) values result
tested_loaded c u path place negated o values result is loaded = record {
  loaded = loaded;
  compared = λ t e. let h = compares c u place t (tested_of c u place t e) in let bad : comparison_of (Load negated o) h.variable ≡ Some t = ap (λ j. comparison_of j h.variable) (sym is) ∙ h.comparison in cc;
}

-- after an operator
pub tested_compared : (c : Config) (u : ProgramUnit) (path : Text) (place : ℕ) (operator : Operator) (o : Operand) (values : Values) (result : Option Content) → instruction_at u.body place ≡ Operate operator o
    → ((t : Test) → compared_at c u place ≡ Some t → HasTested path values t (λ z. truth (compared t.comparison z t.number)) result) → IsTested c u path (place + 1) values result
tested_compared c u path place operator o values result is compares = record {
  loaded = λ t e. let bad : None ≡ Some t = sym (compared_behind c u place (ap (loaded_variable c u) is)) ∙ e in cc;
  compared = λ t e. compares t (tested_of c u place t e);
}

-- a literal of a type has its number
module _ (Q : Outcome → Type 0) where
  if_some : (b : Bool) (x y : ℤ) → (if b then Some x else None) ≡ Some y → (b ≡ true) × (x ≡ y)
  if_some true x y e = (refl, cc)
  if_some false x y e = cc

  within_type : (b : Bool) (e : Elementary) (z n : ℤ) → (if b then if_value e z else None) ≡ Some n → (b ≡ true) × (is_within_any (limits e) z ≡ true) × (z ≡ n)
  within_type true e z n h = let r = if_some (is_within_any (limits e) z) z n h in (refl, r.0, r.1)
  within_type false e z n h = cc

  pub number_read : (e : Elementary) (l : Literal) (n : ℤ) (go : Content → Outcome) → literal_number e l ≡ Some n → Q (go (content e (Integer n))) → Q (with_literal e l go)
  number_read e (Truth b) n go h q = cc
  number_read e (Bare z) n go h q = let r = within_type (is_whole e) e z n h in provided_ok Q _ _ _ (both _ _ r.0 r.1) (subst (λ x. Q (go (content e (Integer x)))) (sym r.2) q)
  number_read e (Whole written z) n go h q =
      let r = within_type (is_same_type written e) e z n h in
      subst (λ t. Q (go (content t (Integer z)))) (sym (same_by written e r.0)) (subst (λ x. Q (go (content e (Integer x)))) (sym r.2) q)
  number_read e (Duration z) n go h q =
      let r = within_type (is_same_type Time e) e z n h in
      subst (λ t. Q (go (content t (Integer z)))) (sym (same_by Time e r.0)) (subst (λ x. Q (go (content e (Integer x)))) (sym r.2) q)

-- a comparison of a known number gives a Boolean
flag_operated : (kind : ComparisonKind) (k l : Known) (P : Known → Type 0) → WithOperated (Comparison kind) k l P → P Flag
flag_operated kind (Ranged e i) (Ranged g j) P w = w.1
flag_operated kind Flag Flag P w = w.1
flag_operated kind Flag (Ranged g j) P w = absurd w
flag_operated kind (Ranged e i) Flag P w = absurd w

pub flag_on : (variables : NameMap Interval) (m : Denotation) (context : Known → Elementary) (kind : ComparisonKind) (o : Option Known) (P : Known → Type 0) → WithKnownResult o (λ left. WithOperand variables (context left) m (λ right. WithOperated (Comparison kind) left right P)) → P Flag
flag_on variables m context kind None P w = absurd w
flag_on variables m context kind (Some k) P w = let r = operand_known variables (context k) m (λ right. WithOperated (Comparison kind) k right P) w in flag_operated kind k r.0 P r.1

-- SIDES

-- what an outcome leaves of the range of a variable holds for a value with the outcome
pub narrowed_knows : (c : Config) (u : ProgramUnit) (path : Text) (variables : NameMap Interval) (values : Values) → KnowsVariables c u path variables values → (t : Test) (holds : Bool) (z : ℤ) → get values (under path t.name) ≡ Some (Integer z) → compared t.comparison z t.number ≡ holds
    → (after : NameMap Interval) × (narrowed (Some t) holds variables ≡ Some after) × KnowsVariables c u path after values
narrowed_knows c u path variables values knows t holds z there outcome = by_range (get variables t.name) refl
  where
    put : (i j : Interval) → get variables t.name ≡ Some i → IsIn j z → KnowsVariables c u path (insert variables t.name j) values
    put i j is inside other k at = by_test (eq_by_cmp order other t.name) refl
      where
        by_test : (b : Bool) → eq_by_cmp order other t.name ≡ b → ((s : Scalar) × (form_named c u other ≡ Some (ScalarForm s))) × ((z : ℤ) × (get values (under path other) ≡ Some (Integer z)) × IsIn k z)
        by_test true e =
            let same = same_text other t.name e in
            let range : j ≡ k = same_Some j k (sym (get-insert variables t.name j other ∙ ap (λ b. cond b (Some j) (get variables other)) e) ∙ at) in
            let form = (knows t.name i is).0 in
            ((form.0, ap (form_named c u) same ∙ form.1), (z, ap (λ q. get values (under path q)) same ∙ there, subst (λ r. IsIn r z) range inside))
        by_test false e = knows other k (sym (get-insert variables t.name j other ∙ ap (λ b. cond b (Some j) (get variables other)) e) ∙ at)

    by_left : (i : Interval) → get variables t.name ≡ Some i → (o : Option Interval) → interval_narrow t.comparison holds i t.number ≡ o → IsLeft o z
        → (after : NameMap Interval) × (option_map (insert variables t.name) o ≡ Some after) × KnowsVariables c u path after values
    by_left i is None e left = absurd left
    by_left i is (Some j) e left = (insert variables t.name j, refl, put i j is left)

    by_range : (o : Option Interval) → get variables t.name ≡ o → (after : NameMap Interval) × (narrowed_by t holds o variables ≡ Some after) × KnowsVariables c u path after values
    by_range None is = (variables, refl, knows)
    by_range (Some i) is =
        let n = (knows t.name i is).1 in
        let same : z ≡ n.0 = let e = sym there ∙ n.1 in cc in
        by_left i is (interval_narrow t.comparison holds i t.number) refl (leaves_all t.comparison holds i t.number z (subst (IsIn i) (sym same) n.2) outcome)
