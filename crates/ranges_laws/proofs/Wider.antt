-- An annotation that holds without tests holds with them.
use Rattle.std.proofs.Common.{◌≡◌, ℕ, ◌+◌, Bool, true, false, not, cond, Option, Some, None, option_map, refl, sym, ap, ◌∙◌, subst}
use Rattle.std.specs.Ordering.{eq_by_cmp}
use Rattle.ranges_interval.specs.declared.Interval.{Interval}
use Rattle.ranges_interval.specs.Interval.{IsWithin}
use Rattle.ranges_interval.specs.Compared.{interval_narrow}
use Rattle.ranges_interval.proofs.Outcomes.{left_within}
use Rattle.il_syntax.specs.declared.tree.Config.{Config}
use Rattle.il_syntax.specs.declared.tree.Unit.{Unit as ProgramUnit}
use Rattle.il_syntax.specs.declared.tree.Condition.{Condition}
use Rattle.il_syntax.specs.declared.tree.Condition.TheVariants.{Always, WhenTrue, WhenFalse}
use Rattle.il_syntax.specs.declared.tree.Instruction.{Instruction}
use Rattle.il_syntax.specs.declared.tree.Instruction.TheVariants.{Load, Store, Not, Operate, Defer, Evaluate, Jump, Return, Call, Invoke}
use Rattle.il_statics.specs.Types.{label_place}
use Rattle.base_maps.specs.NameMap.{NameMap, Text, order, get, insert, get-insert}
use Rattle.il_semantics.specs.Step.{instruction_at}
use Rattle.il_semantics.specs.Tests.{Test, test_at}
use Rattle.il_semantics.specs.Annotation.{Knowledge, knowledge, Annotation, Spot, Passes, GoesOn, Leads, LeadsTo, MayPass, IsPart, IsVariableWithin, IsAnnotated, narrowed, narrowed_by, WithSide, side, IsJumped, IsPassed, acts_at, result_at_target}
use Rattle.ranges_laws.specs.Whole.{PassesWhole, IsAnnotatedWhole}
use Rattle.ranges_laws.proofs.Joins.{part_trans, result_itself, deferred_itself}
use Rattle.ranges_laws.proofs.Rows.{same_text, variable_itself}

-- what is left of the ranges lies in them
narrowed_within : (t : Option Test) (holds : Bool) (variables after : NameMap Interval) → narrowed t holds variables ≡ Some after → (q : Text) → IsVariableWithin (get after q) (get variables q)
narrowed_within None holds variables after e q = subst (λ m. IsVariableWithin (get m q) (get variables q)) (let same : variables ≡ after = cc in same) (variable_itself (get variables q))
narrowed_within (Some t) holds variables after e q = by_range (get variables t.name) refl e
  where
    put : (i r : Interval) → get variables t.name ≡ Some i → IsWithin r i → IsVariableWithin (get (insert variables t.name r) q) (get variables q)
    put i r is w = subst (λ o. IsVariableWithin o (get variables q)) (sym (get-insert variables t.name r q)) (by_test (eq_by_cmp order q t.name) refl)
      where
        by_test : (b : Bool) → eq_by_cmp order q t.name ≡ b → IsVariableWithin (cond b (Some r) (get variables q)) (get variables q)
        by_test true g = subst (IsVariableWithin (Some r)) (sym (ap (get variables) (same_text q t.name g) ∙ is)) w
        by_test false g = variable_itself (get variables q)

    by_left : (i : Interval) → get variables t.name ≡ Some i → (o : Option Interval) → interval_narrow t.comparison holds i t.number ≡ o → option_map (insert variables t.name) o ≡ Some after → IsVariableWithin (get after q) (get variables q)
    by_left i is None g e = cc
    by_left i is (Some r) g e = subst (λ m. IsVariableWithin (get m q) (get variables q)) (let same : insert variables t.name r ≡ after = cc in same) (put i r is (left_within t.comparison holds i r t.number g))

    by_range : (o : Option Interval) → get variables t.name ≡ o → narrowed_by t holds o variables ≡ Some after → IsVariableWithin (get after q) (get variables q)
    by_range None is e = subst (λ m. IsVariableWithin (get m q) (get variables q)) (let same : variables ≡ after = cc in same) (variable_itself (get variables q))
    by_range (Some i) is e = by_left i is (interval_narrow t.comparison holds i t.number) refl e

-- a place that takes all takes what is left
leads_left : (s : Spot) (holds : Bool) (a : Annotation) (place : ℕ) (make : NameMap Interval → Knowledge) → ((after : NameMap Interval) → ((q : Text) → IsVariableWithin (get after q) (get s.known.variables q)) → IsPart (make after) (make s.known.variables)) → Leads a place (make s.known.variables)
    → WithSide (side s holds) (λ after. Leads a place (make after))
leads_left s holds a place make part (next, stands, below) = by_side (side s holds) refl
  where
    by_side : (o : Option (NameMap Interval)) → side s holds ≡ o → WithSide o (λ after. Leads a place (make after))
    by_side None e = tt
    by_side (Some after) e = (next, stands, part_trans (make after) (make s.known.variables) next (part after (narrowed_within (test_at s.config s.unit s.place) holds s.known.variables after e)) below)

nowhere : (s : Spot) (holds : Bool) (P : NameMap Interval → Type 0) → ⊥ → WithSide (side s holds) P
nowhere s holds P h = absurd h

jumps_left : (s : Spot) (condition : Condition) (at : Option ℕ) → LeadsTo s at (knowledge s.known.variables (result_at_target condition s.known.result) s.known.deferred) → IsJumped s condition at
jumps_left s condition None h = nowhere s (acts_at condition) (λ after. LeadsTo s None (knowledge after (result_at_target condition s.known.result) s.known.deferred)) h
jumps_left s condition (Some to) h =
    leads_left s (acts_at condition) s.annotation to (λ v. knowledge v (result_at_target condition s.known.result) s.known.deferred)
    (λ after w. record { variables = w; result = result_itself (result_at_target condition s.known.result); deferred = deferred_itself s.known.deferred }) h

passes_left : (s : Spot) (condition : Condition) → MayPass s condition s.known.result → IsPassed s condition
passes_left s Always h = tt
passes_left s WhenTrue h =
    leads_left s false s.annotation (s.place + 1) (λ v. knowledge v s.known.result s.known.deferred)
    (λ after w. record { variables = w; result = result_itself s.known.result; deferred = deferred_itself s.known.deferred }) h
passes_left s WhenFalse h =
    leads_left s true s.annotation (s.place + 1) (λ v. knowledge v s.known.result s.known.deferred)
    (λ after w. record { variables = w; result = result_itself s.known.result; deferred = deferred_itself s.known.deferred }) h

passes_with_tests : (s : Spot) (i : Instruction) → PassesWhole s i → Passes s i
passes_with_tests s (Jump condition label) h = (h.0, h.1, jumps_left s condition (label_place s.unit.body label.name) h.2, passes_left s condition h.3)
passes_with_tests s (Load negated operand) h = h
passes_with_tests s (Store kind to) h = h
passes_with_tests s Not h = h
passes_with_tests s (Operate operator operand) h = h
passes_with_tests s (Defer operator first) h = h
passes_with_tests s Evaluate h = h
passes_with_tests s (Return condition) h = h
passes_with_tests s (Call condition instance arguments) h = h
passes_with_tests s (Invoke function operands) h = h

pub holds_with_tests : (c : Config) (u : ProgramUnit) (a : Annotation) → IsAnnotatedWhole c u a → IsAnnotated c u a
holds_with_tests c u a h = record {
  entry = h.entry;
  each = λ place k low is. passes_with_tests (record { config = c; unit = u; annotation = a; place = place; known = k }) (instruction_at u.body place) (h.each place k low is);
}
