-- A unit lacks ranges at one place, with one number.
use Rattle.std.proofs.Common.{◌≡◌, ℕ, ◌+◌, ◌<◌, ◌≤◌, ◌⊎◌, inl, inr, List, [], ◌∷◌, length, Option, Some, None, refl, sym, ap, ◌∙◌, subst, slice_get, arith}
use Rattle.std.specs.Prelude.{Any}
use Rattle.std.proofs.lemmas.Int.{ints}
use Rattle.std.proofs.lemmas.Bool.{cases_lt}
use Rattle.std.proofs.lemmas.Option.{slice_get_within}
use Rattle.ranges_interval.specs.declared.Interval.{Interval}
use Rattle.ranges_interval.specs.Interval.{IsWithin, between}
use Rattle.il_syntax.specs.declared.tree.Elementary.{Elementary}
use Rattle.il_syntax.specs.declared.tree.Operand.{Operand}
use Rattle.il_syntax.specs.declared.tree.Operator.{Operator}
use Rattle.il_syntax.specs.declared.tree.Instruction.{Instruction}
use Rattle.il_syntax.specs.declared.tree.Instruction.TheVariants.{Load, Store, Not, Operate, Defer, Evaluate, Jump, Return, Call, Invoke}
use Rattle.il_syntax.specs.declared.tree.Place.{Place}
use Rattle.il_syntax.specs.declared.tree.Step.{Step}
use Rattle.il_syntax.specs.declared.tree.Unit.{Unit as ProgramUnit}
use Rattle.il_syntax.specs.declared.tree.Config.{Config}
use Rattle.il_statics.specs.Faults.{IsNoLater}
use Rattle.base_maps.specs.NameMap.{Text, get}
use Rattle.il_statics.specs.Least.{NumberedFault, IsLeast}
use Rattle.il_statics.proofs.Least.{no_later-refl, least_none}
use Rattle.il_semantics.specs.Meaning.{Denotation, Constant, Direct, Numbered, Indexed, Inside, Unknown, denotation}
use Rattle.il_semantics.specs.declared.known.Known.{Known}
use Rattle.il_semantics.specs.declared.known.Known.TheVariants.{Flag, Ranged}
use Rattle.il_semantics.specs.declared.known.KnownDeferred.{KnownDeferred}
use Rattle.il_semantics.specs.Annotation.{Knowledge, Annotation, IsKnownWithin, IsResultWithin, IsDeferredWithin, IsVariableWithin, IsPart, IsAnnotatedBelow, IsAnnotated, IsFirstWithout, interval, range, WithInterval, WithKnownResult, WithFlow, WithOperated}
use Rattle.ranges_laws.proofs.Least.{same_some}
use Rattle.ranges_pass.specs.Lacking.{MayLeaveArray, operands_of, MayMissIndex, WithValue, type_behind, WithSides, DividesByZero, EvaluatesByZero, MayDivideByZero, MayLeaveType, IsRangeNumber, zero_divisor, out_of_type, out_of_array, otherwise, IsLeastAt, LacksRanges}

-- WHAT IS KNOWN

-- two that say the same
record IsSame (k l : Knowledge) : Type 0 where
  variables : (q : Text) → get k.variables q ≡ get l.variables q
  result : k.result ≡ l.result
  deferred : k.deferred ≡ l.deferred

same_back : (k l : Knowledge) → IsSame k l → IsSame l k
same_back k l s = record { variables = λ q. sym (s.variables q); result = sym s.result; deferred = sym s.deferred }

same_interval : (i j : Interval) → IsWithin i j → IsWithin j i → i ≡ j
same_interval i j v w =
    let low : i.lo ≡ j.lo = omega (arith, ints) in
    let high : i.hi ≡ j.hi = omega (arith, ints) in
    ap (λ z. between z i.hi) low ∙ ap (between j.lo) high

same_variable : (o p : Option Interval) → IsVariableWithin o p → IsVariableWithin p o → o ≡ p
same_variable None None v w = refl
same_variable (Some i) (Some j) v w = ap Some (same_interval i j v w)
same_variable None (Some j) v w = absurd v
same_variable (Some i) None v w = absurd v

same_known : (k l : Known) → IsKnownWithin k l → IsKnownWithin l k → k ≡ l
same_known Flag Flag v w = refl
same_known (Ranged e i) (Ranged f j) v w = ap (λ x. Ranged x i) v.0 ∙ ap (Ranged f) (same_interval i j v.1 w.1)
same_known Flag (Ranged f j) v w = absurd v
same_known (Ranged e i) Flag v w = absurd v

same_result : (o p : Option Known) → IsResultWithin o p → IsResultWithin p o → o ≡ p
same_result None None v w = refl
same_result (Some k) (Some l) v w = ap Some (same_known k l v w)
same_result None (Some l) v w = absurd v
same_result (Some k) None v w = absurd w

same_deferred : (ds es : List KnownDeferred) → IsDeferredWithin ds es → IsDeferredWithin es ds → ds ≡ es
same_deferred [] [] v w = refl
same_deferred (d ∷ ds) (e ∷ es) v w =
    let one : d ≡ e = ap (λ (x : Operator). made x d.left) v.0 ∙ ap (made e.operator) (same_known d.left e.left v.1 w.1) in
    ap (λ x. x ∷ ds) one ∙ ap (λ xs. e ∷ xs) (same_deferred ds es v.2 w.2)
  where
    made : Operator → Known → KnownDeferred
    made operator left = record { operator = operator; left = left }
same_deferred [] (e ∷ es) v w = absurd v
same_deferred (d ∷ ds) [] v w = absurd v

-- each of two least ones is part of the other
part_of : (c : Config) (u : ProgramUnit) (place : ℕ) (k l : Knowledge) → IsLeastAt c u place k → IsLeastAt c u place l → IsPart k l
part_of c u place k l a b =
    let leads = a.below b.annotation b.holds in
    subst (IsPart k) (same_some leads.0 l (same_some (Some leads.0) (Some l) (sym leads.1 ∙ b.stands))) leads.2

same_least : (c : Config) (u : ProgramUnit) (place : ℕ) (k l : Knowledge) → IsLeastAt c u place k → IsLeastAt c u place l → IsSame k l
same_least c u place k l a b =
    let p = part_of c u place k l a b in
    let q = part_of c u place l k b a in
    record {
      variables = λ name. same_variable (get k.variables name) (get l.variables name) (p.variables name) (q.variables name);
      result = same_result k.result l.result p.result q.result;
      deferred = same_deferred k.deferred l.deferred p.deferred q.deferred;
    }

-- THE NUMBER

with_map : (o : Option Known) (g h : Known → Type 0) → ((k : Known) → g k → h k) → WithKnownResult o g → WithKnownResult o h
with_map None g h to x = x
with_map (Some k) g h to x = to k x

any_map : {X : Type 0} (P Q : X → Type 0) (xs : List X) → ((x : X) → P x → Q x) → Any P xs → Any Q xs
any_map P Q xs to (k, x, low, e, p) = (k, x, low, e, to x p)

module _ (c : Config) (u : ProgramUnit) (k l : Knowledge) (s : IsSame k l) where
  array_same : (d : Denotation) → MayLeaveArray k.variables d → MayLeaveArray l.variables d
  array_same (Numbered name bounds element z) h = h
  array_same (Indexed name bounds element variable scalar) h = λ inside. h (subst (λ o. WithInterval o (λ i. IsWithin i (interval bounds))) (sym (s.variables variable)) inside)
  array_same (Constant x) h = h
  array_same (Direct name scalar) h = h
  array_same (Inside instance word scalar) h = h
  array_same Unknown h = h

  value_same : (e : Elementary) (d : Denotation) (go : Known → Type 0) → WithValue k.variables e d go → WithValue l.variables e d go
  value_same e (Direct name scalar) go h = subst (λ o. WithFlow scalar.elementary (range scalar) o go) (s.variables name) h
  value_same e (Numbered name bounds element z) go h = h
  value_same e (Indexed name bounds element variable scalar) go h = h
  value_same e (Constant x) go h = h
  value_same e (Inside instance word scalar) go h = h
  value_same e Unknown go h = h

  sides_same : (o : Operand) (go : Known → Known → Type 0) → WithSides c u k o go → WithSides c u l o go
  sides_same o go h =
      with_map l.result _ _ (λ left. value_same (type_behind left (denotation c u o.reference)) (denotation c u o.reference) (go left))
      (subst (λ r. WithKnownResult r (λ left. WithValue k.variables (type_behind left (denotation c u o.reference)) (denotation c u o.reference) (go left))) s.result h)

  zero_same : (i : Instruction) → MayDivideByZero c u k i → MayDivideByZero c u l i
  zero_same (Operate operator operand) h = sides_same operand (λ left right. DividesByZero operator right) h
  zero_same Evaluate h = subst (λ ds. WithKnownResult l.result (EvaluatesByZero ds)) s.deferred (subst (λ r. WithKnownResult r (EvaluatesByZero k.deferred)) s.result h)
  zero_same (Load negated operand) h = h
  zero_same (Store kind to) h = h
  zero_same Not h = h
  zero_same (Defer operator first) h = h
  zero_same (Jump condition label) h = h
  zero_same (Return condition) h = h
  zero_same (Call condition instance arguments) h = h
  zero_same (Invoke function operands) h = h

  index_same : (i : Instruction) → MayMissIndex c u k i → MayMissIndex c u l i
  index_same i h = any_map _ _ (operands_of i) (λ (o : Operand). array_same (denotation c u o.reference)) h

type_same : (c : Config) (u : ProgramUnit) (k l : Knowledge) → IsSame k l → (i : Instruction) → MayLeaveType c u k i → MayLeaveType c u l i
type_same c u k l s (Operate operator operand) h = λ fits. h (sides_same c u l k (same_back k l s) operand (λ left right. WithOperated operator left right (λ x. Unit {0})) fits)
type_same c u k l s Evaluate h = h
type_same c u k l s (Load negated operand) h = h
type_same c u k l s (Store kind to) h = h
type_same c u k l s Not h = h
type_same c u k l s (Defer operator first) h = h
type_same c u k l s (Jump condition label) h = h
type_same c u k l s (Return condition) h = h
type_same c u k l s (Call condition instance arguments) h = h
type_same c u k l s (Invoke function operands) h = h

number_same : (c : Config) (u : ProgramUnit) (k l : Knowledge) → IsSame k l → (i : Instruction) (n : ℕ) → IsRangeNumber c u k i n → IsRangeNumber c u l i n
number_same c u k l s i n (zero_divisor e z) = zero_divisor e (zero_same c u k l s i z)
number_same c u k l s i n (out_of_type e z t) = out_of_type e (λ h. z (zero_same c u l k (same_back k l s) i h)) (type_same c u k l s i t)
number_same c u k l s i n (out_of_array e z t x) = out_of_array e (λ h. z (zero_same c u l k (same_back k l s) i h)) (λ h. t (type_same c u l k (same_back k l s) i h)) (index_same c u k l s i x)
number_same c u k l s i n (otherwise e z t x) =
    otherwise e (λ h. z (zero_same c u l k (same_back k l s) i h)) (λ h. t (type_same c u l k (same_back k l s) i h)) (λ h. x (index_same c u l k (same_back k l s) i h))

one_number : (c : Config) (u : ProgramUnit) (k : Knowledge) (i : Instruction) (n m : ℕ) → IsRangeNumber c u k i n → IsRangeNumber c u k i m → n ≡ m
one_number c u k i n m (zero_divisor e z) (zero_divisor f w) = e ∙ sym f
one_number c u k i n m (out_of_type e z t) (out_of_type f w v) = e ∙ sym f
one_number c u k i n m (out_of_array e z t x) (out_of_array f w v y) = e ∙ sym f
one_number c u k i n m (otherwise e z t x) (otherwise f w v y) = e ∙ sym f
one_number c u k i n m (zero_divisor e z) (out_of_type f w v) = absurd (w z)
one_number c u k i n m (zero_divisor e z) (out_of_array f w v y) = absurd (w z)
one_number c u k i n m (zero_divisor e z) (otherwise f w v y) = absurd (w z)
one_number c u k i n m (out_of_type e z t) (zero_divisor f w) = absurd (z w)
one_number c u k i n m (out_of_type e z t) (out_of_array f w v y) = absurd (v t)
one_number c u k i n m (out_of_type e z t) (otherwise f w v y) = absurd (v t)
one_number c u k i n m (out_of_array e z t x) (zero_divisor f w) = absurd (z w)
one_number c u k i n m (out_of_array e z t x) (out_of_type f w v) = absurd (t v)
one_number c u k i n m (out_of_array e z t x) (otherwise f w v y) = absurd (y x)
one_number c u k i n m (otherwise e z t x) (zero_divisor f w) = absurd (z w)
one_number c u k i n m (otherwise e z t x) (out_of_type f w v) = absurd (t v)
one_number c u k i n m (otherwise e z t x) (out_of_array f w v y) = absurd (x y)

-- THE FIRST PLACE OF A UNIT

restricted : (c : Config) (u : ProgramUnit) (low high : ℕ) (a : Annotation) → low ≤ high → IsAnnotatedBelow c u high a → IsAnnotatedBelow c u low a
restricted c u low high a le h = record { entry = h.entry; each = λ place k below is. h.each place k (omega arith) is }

-- a unit with an annotation has no such place
none_lacked : (c : Config) (u : ProgramUnit) → (a : Annotation) × IsAnnotated c u a → (n : ℕ) (p : Place) → LacksRanges c u n p → ⊥
none_lacked c u (a, h) n p f =
    let low = slice_get_within u.body.steps f.at f.step f.stands in
    f.first.none a (restricted c u (f.at + 1) (length u.body.steps + 1) a (omega arith) h)

-- there is one such place at most
one_first : (c : Config) (u : ProgramUnit) (p q : ℕ) → IsFirstWithout c u p → IsFirstWithout c u q → p ≡ q
one_first c u p q f g = by_order (cases_lt p q) (cases_lt q p)
  where
    never : (p q : ℕ) → IsFirstWithout c u p → IsFirstWithout c u q → p < q → ⊥
    never p q f g low = f.none g.before.0 (restricted c u (p + 1) q g.before.0 (omega arith) g.before.1)

    by_order : (p < q) ⊎ (q ≤ p) → (q < p) ⊎ (p ≤ q) → p ≡ q
    by_order (inl low) other = absurd (never p q f g low)
    by_order (inr le) (inl low) = absurd (never q p g f low)
    by_order (inr le) (inr ge) = omega arith

-- and one fault
one_fault : (c : Config) (u : ProgramUnit) (n m : ℕ) (p q : Place) → LacksRanges c u n p → LacksRanges c u m q → (n ≡ m) × (p ≡ q)
one_fault c u n m p q f g =
    let at = one_first c u f.at g.at f.first g.first in
    let step = same_some f.step g.step (sym f.stands ∙ ap (slice_get u.body.steps) at ∙ g.stands) in
    let same = same_least c u f.at f.known g.known f.least (subst (λ a. IsLeastAt c u a g.known) (sym at) g.least) in
    let number = subst (λ (x : Step). IsRangeNumber c u g.known x.instruction n) step (number_same c u f.known g.known same f.step.instruction n f.number_is) in
    (one_number c u g.known g.step.instruction n m number g.number_is, f.place_is ∙ ap (λ (x : Step). x.place) step ∙ sym g.place_is)

-- so it is the first of its unit
pub lacked_least : (c : Config) (u : ProgramUnit) (f : NumberedFault) → LacksRanges c u f.number f.place → IsLeast (Some f) (LacksRanges c u)
lacked_least c u f lacks = record {
  none = λ e n p h. let bad : Some f ≡ None = e in cc;
  holds = λ g e. subst (λ x. LacksRanges c u x.number x.place) (same_some f g e) lacks;
  first = λ g e n p h.
      let one = one_fault c u f.number n f.place p lacks h in
      subst (λ x. IsNoLater x.number x.place n p) (same_some f g e) (subst (λ m. IsNoLater f.number f.place m p) one.0 (subst (IsNoLater f.number f.place f.number) one.1 (no_later-refl f.number f.place)));
}

pub annotated_least : (c : Config) (u : ProgramUnit) → (a : Annotation) × IsAnnotated c u a → IsLeast None (LacksRanges c u)
annotated_least c u has = least_none (LacksRanges c u) None refl (none_lacked c u has)
