-- The number that the code finds is that of the definitions.
use Rattle.std.proofs.Common.{◌≡◌, ℕ, zero, suc, ◌⊎◌, inl, inr, Bool, true, false, if◌then◌else◌, List, [], ◌∷◌, Option, Some, None, option_map, ℤ, pos, refl, sym, ap, ◌∙◌, subst, arith}
use Rattle.std.specs.Prelude.{Any, flat_map, is_some}
use Rattle.std.proofs.lemmas.Int.{ints}
use Rattle.ranges_interval.specs.declared.Interval.{Interval}
use Rattle.ranges_interval.specs.Interval.{IsIn, IsWithin, IsOperand}
use Rattle.il_syntax.specs.declared.tree.Elementary.{Elementary}
use Rattle.il_syntax.specs.declared.tree.Elementary.TheVariants.{Time}
use Rattle.il_syntax.specs.declared.tree.Subrange.{Subrange}
use Rattle.il_syntax.specs.declared.tree.Literal.{Literal}
use Rattle.il_syntax.specs.declared.tree.Literal.TheVariants.{Truth, Bare, Whole, Time as Duration}
use Rattle.il_syntax.specs.declared.tree.Operand.{Operand}
use Rattle.il_syntax.specs.declared.tree.Reference.{Reference}
use Rattle.il_syntax.specs.declared.tree.Operator.{Operator}
use Rattle.il_syntax.specs.declared.tree.Operator.TheVariants.{Logic, Arithmetic, Comparison}
use Rattle.il_syntax.specs.declared.tree.Arithmetic.TheVariants.{Add, Sub, Mul, Div, Mod}
use Rattle.il_syntax.specs.declared.tree.Argument.{Argument}
use Rattle.il_syntax.specs.declared.tree.Argument.TheVariants.{Input, Output}
use Rattle.il_syntax.specs.declared.tree.Instruction.{Instruction}
use Rattle.il_syntax.specs.declared.tree.Instruction.TheVariants.{Load, Store, Not, Operate, Defer, Evaluate, Jump, Return, Call, Invoke}
use Rattle.il_syntax.specs.declared.tree.Unit.{Unit as ProgramUnit}
use Rattle.il_syntax.specs.declared.tree.Config.{Config}
use Rattle.il_syntax.specs.ElementaryTypes.{limits, LiesIn, IsValueOf, is_whole}
use Rattle.il_statics.specs.declared.names.StandardFunction.{StandardFunction}
use Rattle.il_statics.specs.Names.{standard_function}
use Rattle.base_maps.specs.NameMap.{NameMap, get}
use Rattle.il_semantics.specs.Meaning.{Denotation, Constant, Direct, Numbered, Indexed, Inside, Unknown, denotation}
use Rattle.il_semantics.specs.declared.known.Known.{Known}
use Rattle.il_semantics.specs.declared.known.Known.TheVariants.{Flag, Ranged}
use Rattle.il_semantics.specs.declared.known.KnownDeferred.{KnownDeferred}
use Rattle.il_semantics.specs.Annotation.{Knowledge, interval, only, numbers_of, range, declared_known, WithInterval, WithKnownResult, WithFlow, WithLiteral, WithOperated}
use Rattle.ranges_laws.specs.declared.facts.Facts.{Facts}
use Rattle.ranges_laws.specs.Facts.{Names, variables_of, shown, IsRowOf, IsFineKnown, IsFineResult, IsFine}
use Rattle.ranges_laws.specs.Found.{provided, is_part, fits, fitting, found_literal, found_flow, found_operated}
use Rattle.ranges_laws.specs.Numbers.{is_inside, unless_outside, divisor_fault, operand_inside, evaluate_fault, operands_fault, arguments_fault, invoke_fault}
use Rattle.ranges_laws.specs.Steps.{context}
use Rattle.ranges_laws.specs.Prepared.{IsFineDenotation}
use Rattle.ranges_laws.proofs.Tests.{part_is, is_part_of, fit_is, is_fit, there_is, is_there, fits_operand}
use Rattle.ranges_laws.proofs.Least.{same_some, mapped}
use Rattle.ranges_laws.proofs.Agree.{Tests, provided_is}
use Rattle.ranges_laws.proofs.Joins.{known_itself}
use Rattle.ranges_laws.proofs.Rows.{row_is, row_operand}
use Rattle.ranges_laws.proofs.Operations.{Knows, operated_agrees}
use Rattle.ranges_pass.specs.Lacking.{MayLeaveArray, input_operand, operands_of, WithValue, type_behind, WithSides, DividesByZero, EvaluatesByZero, MayDivideByZero, MayLeaveType, function_number, other_number, IsRangeNumber, zero_divisor, out_of_type, out_of_array, otherwise}
use Rattle.ranges_pass.specs.Reasons.{operated_fault, operate_fault, fault_of}

-- INDICES

stays_inside : (variables : NameMap Interval) (d : Denotation) → is_inside (get variables) d ≡ true → MayLeaveArray variables d → ⊥
stays_inside variables (Numbered name bounds element z) e h = h (part_is (only z) (interval bounds) e)
stays_inside variables (Indexed name bounds element variable s) e h = h (there_is (get variables variable) (interval bounds) e)
stays_inside variables (Constant l) e h = h
stays_inside variables (Direct name s) e h = h
stays_inside variables (Inside instance word s) e h = h
stays_inside variables Unknown e h = h

may_leave : (variables : NameMap Interval) (d : Denotation) → is_inside (get variables) d ≡ false → MayLeaveArray variables d
may_leave variables (Numbered name bounds element z) e = λ h. let bad : false ≡ true = sym e ∙ is_part_of (only z) (interval bounds) h in cc
may_leave variables (Indexed name bounds element variable s) e = λ h. let bad : false ≡ true = sym e ∙ is_there (get variables variable) (interval bounds) h in cc
may_leave variables (Constant l) e = let bad : true ≡ false = e in cc
may_leave variables (Direct name s) e = let bad : true ≡ false = e in cc
may_leave variables (Inside instance word s) e = let bad : true ≡ false = e in cc
may_leave variables Unknown e = let bad : true ≡ false = e in cc

any_first : {X : Type 0} (P : X → Type 0) (x : X) (xs : List X) → P x → Any P (x ∷ xs)
any_first P x xs p = (0, x, omega arith, refl, p)

any_later : {X : Type 0} (P : X → Type 0) (x : X) (xs : List X) → Any P xs → Any P (x ∷ xs)
any_later P x xs (k, y, low, e, p) = (suc k, y, omega (arith, low), e, p)

first_or_later : {X : Type 0} (P : X → Type 0) (x : X) (xs : List X) → Any P (x ∷ xs) → P x ⊎ Any P xs
first_or_later P x xs (zero, y, low, e, p) = inl (subst P (sym e) p)
first_or_later P x xs (suc k, y, low, e, p) = inr (k, y, omega (arith, low), e, p)

module _ (c : Config) (u : ProgramUnit) (k : Knowledge) where
  abbrev Leaves : Operand → Type 0
  Leaves o = MayLeaveArray k.variables (denotation c u o.reference)

  -- an index, or the given number
  operands_number : (P : ℕ → Type 0) (os : List Operand) (number : ℕ) → (Any Leaves os → P 42) → ((Any Leaves os → ⊥) → P number) → P (operands_fault c u (get k.variables) os number)
  operands_number P [] number outside inside = inside (λ h. omega (arith, h.2))
  operands_number P (o ∷ os) number outside inside =
      by_test (is_inside (get k.variables) (denotation c u o.reference)) refl
      (λ stays. operands_number P os number (λ h. outside (any_later Leaves o os h)) (λ none. inside (λ h. elim (first_or_later Leaves o os h) [ inl here ↦ stays here | inr later ↦ none later ])))
    where
      by_test : (b : Bool) → is_inside (get k.variables) (denotation c u o.reference) ≡ b → ((Leaves o → ⊥) → P (operands_fault c u (get k.variables) os number)) → P (if b then operands_fault c u (get k.variables) os number else 42)
      by_test true e further = further (stays_inside k.variables (denotation c u o.reference) e)
      by_test false e further = outside (any_first Leaves o os (may_leave k.variables (denotation c u o.reference) e))

  -- where no divisor and no result is wrong
  by_index : (i : Instruction) → (MayDivideByZero c u k i → ⊥) → (MayLeaveType c u k i → ⊥) → IsRangeNumber c u k i (operands_fault c u (get k.variables) (operands_of i) (other_number i))
  by_index i d l = operands_number (IsRangeNumber c u k i) (operands_of i) (other_number i) (λ h. out_of_array refl d l h) (λ h. otherwise refl d l h)

  arguments_are : (os : List Argument) → operands_fault c u (get k.variables) (flat_map input_operand os) 44 ≡ arguments_fault c u (get k.variables) os
  arguments_are [] = refl
  arguments_are (Input word o ∷ os) = ap (unless_outside (get k.variables) (denotation c u o.reference)) (arguments_are os)
  arguments_are (Output word to ∷ os) = arguments_are os

  invoke_is : (o : Option StandardFunction) (os : List Operand) → operands_fault c u (get k.variables) os (function_number o) ≡ invoke_fault c u (get k.variables) o os
  invoke_is None os = refl
  invoke_is (Some f) os = refl

-- VALUES

-- the value that is found is the one that there is
record Exactly (o : Option Known) (W : (Known → Type 0) → Type 0) : Type 1 where
  found : (go : Known → Type 0) → W go → WithKnownResult o go
  is : (go : Known → Type 0) → WithKnownResult o go → W go

exact_if : (b : Bool) (P : Type 0) (o : Option Known) (W : (Known → Type 0) → Type 0) → Tests b P P → Exactly o W → Exactly (provided b o) (λ go. P × W go)
exact_if true P o W t x = record { found = λ go h. x.found go h.1; is = λ go h. (t.holds refl, x.is go h) }
exact_if false P o W t x = record { found = λ go h. let bad : false ≡ true = t.follows h.0 in cc; is = λ go h. absurd h }

value_in : (o : Option Subrange) (z : ℤ) → LiesIn o z → WithInterval (option_map interval o) (λ j. IsWithin (only z) j)
value_in None z h = h
value_in (Some s) z h = h

fit_value : (o : Option Subrange) (z : ℤ) → WithInterval (option_map interval o) (λ j. IsWithin (only z) j) → LiesIn o z
fit_value None z h = h
fit_value (Some s) z h = h

number_exact : (e : Elementary) (z : ℤ) → Exactly (fitting e (only z)) (λ go. IsValueOf e z × go (Ranged e (only z)))
number_exact e z =
    exact_if (fits (numbers_of e) (only z)) (IsValueOf e z) (Some (Ranged e (only z))) (λ go. go (Ranged e (only z)))
    (record { holds = λ h. fit_value (limits e) z (fit_is (numbers_of e) (only z) h); follows = λ h. is_fit (numbers_of e) (only z) (value_in (limits e) z h) })
    (record { found = λ go h. h; is = λ go h. h })

literal_exact : (e : Elementary) (l : Literal) → Exactly (found_literal e l) (WithLiteral e l)
literal_exact e (Truth b) = record { found = λ go h. h; is = λ go h. h }
literal_exact e (Bare z) =
    let x = exact_if (is_whole e) (is_whole e ≡ true) (fitting e (only z)) (λ go. IsValueOf e z × go (Ranged e (only z))) (record { holds = λ h. h; follows = λ h. h }) (number_exact e z) in
    record { found = λ go h. x.found go (h.0, (h.1, h.2)); is = λ go h. let r = x.is go h in (r.0, r.1.0, r.1.1) }
literal_exact e (Whole written z) = number_exact written z
literal_exact e (Duration z) = number_exact Time z

flow_exact : (e : Elementary) (declared flow : Option Interval) → Exactly (found_flow e declared flow) (WithFlow e declared flow)
flow_exact e None flow = record { found = λ go h. h; is = λ go h. h }
flow_exact e (Some d) None = record { found = λ go h. h; is = λ go h. h }
flow_exact e (Some d) (Some i) = record { found = λ go h. h; is = λ go h. h }

value_exact : (variables : NameMap Interval) (e : Elementary) (d : Denotation) → Exactly (operand_inside (get variables) e d) (WithValue variables e d)
value_exact variables e (Constant l) = literal_exact e l
value_exact variables e (Direct name s) = flow_exact s.elementary (range s) (get variables name)
value_exact variables e (Numbered name bounds element z) = record { found = λ go h. h; is = λ go h. h }
value_exact variables e (Indexed name bounds element variable s) = record { found = λ go h. h; is = λ go h. h }
value_exact variables e (Inside instance word s) = record { found = λ go h. h; is = λ go h. h }
value_exact variables e Unknown = record { found = λ go h. h; is = λ go h. h }

-- what is found is fine
number_fine : (e : Elementary) (z : ℤ) (x : Known) → fitting e (only z) ≡ Some x → IsFineKnown x
number_fine e z x h = let p = provided_is (fits (numbers_of e) (only z)) (Some (Ranged e (only z))) x h in subst IsFineKnown (same_some (Ranged e (only z)) x p.is) (fits_operand e (only z) (omega (arith, ints)) p.test)

literal_fine : (e : Elementary) (l : Literal) (x : Known) → found_literal e l ≡ Some x → IsFineKnown x
literal_fine e (Truth b) x h = subst IsFineKnown (same_some Flag x h) tt
literal_fine e (Bare z) x h = number_fine e z x (provided_is (is_whole e) (fitting e (only z)) x h).is
literal_fine e (Whole written z) x h = number_fine written z x h
literal_fine e (Duration z) x h = number_fine Time z x h

flow_fine : (e : Elementary) (declared flow : Option Interval) (x : Known) → ((i : Interval) → flow ≡ Some i → IsOperand i) → found_flow e declared flow ≡ Some x → IsFineKnown x
flow_fine e None flow x fine h = subst IsFineKnown (same_some Flag x h) tt
flow_fine e (Some d) flow x fine h = let m = mapped (Ranged e) flow x h in subst IsFineKnown m.gives (fine m.from m.was)

value_fine : (n : Names) (row : List Interval) → IsRowOf n row → (e : Elementary) (d : Denotation) → IsFineDenotation d → (x : Known) → operand_inside (get (variables_of n row)) e d ≡ Some x → IsFineKnown x
value_fine n row fine e (Constant l) f x h = literal_fine e l x h
value_fine n row fine e (Direct name s) f x h = flow_fine s.elementary (range s) (get (variables_of n row) name) x (λ i there. row_operand n row name i fine (sym (row_is n row name) ∙ there)) h
value_fine n row fine e (Numbered name bounds element z) f x h = subst IsFineKnown (same_some (declared_known element) x h) f
value_fine n row fine e (Indexed name bounds element variable s) f x h = subst IsFineKnown (same_some (declared_known element) x h) f
value_fine n row fine e (Inside instance word s) f x h = subst IsFineKnown (same_some (declared_known s) x h) f
value_fine n row fine e Unknown f x h = absurd (let bad : ◌≡◌ {A = Option Known} None (Some x) = h in cc)

-- SIDES

with_some : (o : Option Known) (x : Known) (go : Known → Type 0) → o ≡ Some x → WithKnownResult o go → go x
with_some o x go e h = subst (λ o. WithKnownResult o go) e h

some_with : (o : Option Known) (x : Known) (go : Known → Type 0) → o ≡ Some x → go x → WithKnownResult o go
some_with o x go e h = subst (λ o. WithKnownResult o go) (sym e) h

with_none : (o : Option Known) (go : Known → Type 0) → o ≡ None → WithKnownResult o go → ⊥
with_none o go e h = subst (λ o. WithKnownResult o go) e h

same_context : (left : Known) (d : Denotation) → context d left ≡ type_behind left d
same_context Flag d = refl
same_context (Ranged e i) d = refl

-- DIVISORS

by_zero : (P : ℕ → Type 0) (j : Interval) → (IsIn j (pos 0) → P 41) → ((IsIn j (pos 0) → ⊥) → P 40) → P (if is_part (only (pos 0)) j then 41 else 40)
by_zero P j zero_ other_ = by_test (is_part (only (pos 0)) j) refl
  where
    by_test : (b : Bool) → is_part (only (pos 0)) j ≡ b → P (if b then 41 else 40)
    by_test true e = zero_ (part_is (only (pos 0)) j e)
    by_test false e = other_ (λ h. let bad : false ≡ true = sym e ∙ is_part_of (only (pos 0)) j h in cc)

-- 41 where 0 lies in the divisor, otherwise 40
divisor_number : (P : ℕ → Type 0) (op : Operator) (o : Option Known) → (WithKnownResult o (DividesByZero op) → P 41) → ((WithKnownResult o (DividesByZero op) → ⊥) → P 40) → P (divisor_fault op o)
divisor_number P (Logic kind negated) None zero_ other_ = other_ (λ h. h)
divisor_number P (Logic kind negated) (Some k) zero_ other_ = other_ (λ h. h)
divisor_number P (Comparison kind) None zero_ other_ = other_ (λ h. h)
divisor_number P (Comparison kind) (Some k) zero_ other_ = other_ (λ h. h)
divisor_number P (Arithmetic Add) None zero_ other_ = other_ (λ h. h)
divisor_number P (Arithmetic Add) (Some k) zero_ other_ = other_ (λ h. h)
divisor_number P (Arithmetic Sub) None zero_ other_ = other_ (λ h. h)
divisor_number P (Arithmetic Sub) (Some k) zero_ other_ = other_ (λ h. h)
divisor_number P (Arithmetic Mul) None zero_ other_ = other_ (λ h. h)
divisor_number P (Arithmetic Mul) (Some k) zero_ other_ = other_ (λ h. h)
divisor_number P (Arithmetic Div) None zero_ other_ = other_ (λ h. h)
divisor_number P (Arithmetic Div) (Some Flag) zero_ other_ = other_ (λ h. h)
divisor_number P (Arithmetic Div) (Some (Ranged e j)) zero_ other_ = by_zero P j zero_ other_
divisor_number P (Arithmetic Mod) None zero_ other_ = other_ (λ h. h)
divisor_number P (Arithmetic Mod) (Some Flag) zero_ other_ = other_ (λ h. h)
divisor_number P (Arithmetic Mod) (Some (Ranged e j)) zero_ other_ = by_zero P j zero_ other_

-- an operation that holds divides by no 0
divides_by_none : (op : Operator) (left right : Known) (go : Known → Type 0) → WithOperated op left right go → DividesByZero op right → ⊥
divides_by_none (Arithmetic Div) (Ranged e i) (Ranged f j) go h z = h.2.1.0 z
divides_by_none (Arithmetic Mod) (Ranged e i) (Ranged f j) go h z = h.2.1.0 z
divides_by_none (Arithmetic Div) Flag right go h z = h
divides_by_none (Arithmetic Mod) Flag right go h z = h
divides_by_none (Arithmetic Div) (Ranged e i) Flag go h z = z
divides_by_none (Arithmetic Mod) (Ranged e i) Flag go h z = z
divides_by_none (Arithmetic Add) left right go h z = z
divides_by_none (Arithmetic Sub) left right go h z = z
divides_by_none (Arithmetic Mul) left right go h z = z
divides_by_none (Logic kind negated) left right go h z = z
divides_by_none (Comparison kind) left right go h z = z

-- `)`
evaluate_number : (c : Config) (u : ProgramUnit) (k : Knowledge) (ds : List KnownDeferred) → k.deferred ≡ ds → IsRangeNumber c u k Evaluate (evaluate_fault ds k.result)
evaluate_number c u k [] is = by_index c u k Evaluate (λ h. nothing k.result (subst (λ ds. WithKnownResult k.result (EvaluatesByZero ds)) is h)) (λ h. h)
  where
    nothing : (o : Option Known) → WithKnownResult o (EvaluatesByZero []) → ⊥
    nothing None h = h
    nothing (Some x) h = h
evaluate_number c u k (d ∷ ds) is =
    divisor_number (IsRangeNumber c u k Evaluate) d.operator k.result (λ h. zero_divisor refl (subst (λ ds. WithKnownResult k.result (EvaluatesByZero ds)) (sym is) h))
    (λ none. by_index c u k Evaluate (λ h. none (subst (λ ds. WithKnownResult k.result (EvaluatesByZero ds)) is h)) (λ h. h))

module _ (n : Names) (f : Facts) (fine : IsFine n f) (denotes : (r : Reference) → IsFineDenotation (denotation n.config n.unit r)) where
  module _ (op : Operator) (o : Operand) where
    abbrev what : Denotation
    what = denotation n.config n.unit o.reference

    abbrev Number : ℕ → Type 0
    Number = IsRangeNumber n.config n.unit (shown n f) (Operate op o)

    -- the value of the operand
    abbrev value : Known → Option Known
    value left = operand_inside (get (variables_of n f.row)) (context what left) what

    to_value : (left : Known) (go : Known → Known → Type 0) → f.result ≡ Some left → WithSides n.config n.unit (shown n f) o go → WithKnownResult (value left) (go left)
    to_value left go is h =
        (value_exact (variables_of n f.row) (context what left) what).found (go left)
        (subst (λ e. WithValue (variables_of n f.row) e what (go left)) (sym (same_context left what)) (with_some f.result left (λ x. WithValue (variables_of n f.row) (type_behind x what) what (λ right. go x right)) is h))

    of_value : (left : Known) (go : Known → Known → Type 0) → f.result ≡ Some left → WithKnownResult (value left) (go left) → WithSides n.config n.unit (shown n f) o go
    of_value left go is h =
        some_with f.result left (λ x. WithValue (variables_of n f.row) (type_behind x what) what (λ right. go x right)) is
        (subst (λ e. WithValue (variables_of n f.row) e what (go left)) (same_context left what) ((value_exact (variables_of n f.row) (context what left) what).is (go left) h))

    -- the questions of both sides
    abbrev Divisor : Known → Known → Type 0
    Divisor left right = DividesByZero op right

    abbrev Result : Known → Known → Type 0
    Result left right = WithOperated op left right (λ _. Unit {0})

    -- the result of the operation, if it was found
    operation : (left right : Known) → f.result ≡ Some left → value left ≡ Some right → Knows (found_operated op left right) (WithOperated op left right) (WithOperated op left right)
    operation left right is there =
        operated_agrees op left right left right (subst IsFineResult is fine.result) (value_fine n f.row fine.row (context what left) what (denotes o.reference) right there) (known_itself left) (known_itself right)

    of_operation : (left right : Known) → f.result ≡ Some left → value left ≡ Some right → (z : Option Known) → found_operated op left right ≡ z → Number (if is_some z then unless_outside (get (variables_of n f.row)) what 40 else divisor_fault op (Some right))
    of_operation left right is there (Some x) e =
        let holds : Result left right = (operation left right is there).sound x e (λ _. Unit {0}) tt in
        by_index n.config n.unit (shown n f) (Operate op o) (λ h. divides_by_none op left right (λ _. Unit {0}) holds (with_some (value left) right (DividesByZero op) there (to_value left Divisor is h)))
        (λ bad. bad (of_value left Result is (some_with (value left) right (Result left) there holds)))
    of_operation left right is there None e =
        divisor_number Number op (Some right) (λ h. zero_divisor refl (of_value left Divisor is (some_with (value left) right (DividesByZero op) there h)))
        (λ none. out_of_type refl (λ h. none (with_some (value left) right (DividesByZero op) there (to_value left Divisor is h)))
        (λ h. let k = (operation left right is there).complete (λ _. Unit {0}) (with_some (value left) right (Result left) there (to_value left Result is h)) in
        let bad : ◌≡◌ {A = Option Known} None (Some k.least) = sym e ∙ k.is in cc))

    of_right : (left : Known) → f.result ≡ Some left → (z : Option Known) → value left ≡ z → Number (operated_fault op left z (unless_outside (get (variables_of n f.row)) what 40))
    of_right left is None e = out_of_type refl (λ h. with_none (value left) (DividesByZero op) e (to_value left Divisor is h)) (λ h. with_none (value left) (Result left) e (to_value left Result is h))
    of_right left is (Some right) e = of_operation left right is e (found_operated op left right) refl

    of_left : (z : Option Known) → f.result ≡ z → Number (operate_fault (get (variables_of n f.row)) op what z)
    of_left None is = out_of_type refl (λ h. with_none f.result _ is h) (λ h. with_none f.result _ is h)
    of_left (Some left) is = of_right left is (value left) refl

  -- the number that the code finds at an instruction
  pub fault_number : (i : Instruction) → IsRangeNumber n.config n.unit (shown n f) i (fault_of n.config n.unit (shown n f) i)
  fault_number (Load negated operand) = by_index n.config n.unit (shown n f) (Load negated operand) (λ h. h) (λ h. h)
  fault_number (Store kind to) = by_index n.config n.unit (shown n f) (Store kind to) (λ h. h) (λ h. h)
  fault_number Not = by_index n.config n.unit (shown n f) Not (λ h. h) (λ h. h)
  fault_number (Operate op o) = of_left op o f.result refl
  fault_number (Defer op None) = by_index n.config n.unit (shown n f) (Defer op None) (λ h. h) (λ h. h)
  fault_number (Defer op (Some o)) = by_index n.config n.unit (shown n f) (Defer op (Some o)) (λ h. h) (λ h. h)
  fault_number Evaluate = evaluate_number n.config n.unit (shown n f) f.deferred refl
  fault_number (Jump condition label) = by_index n.config n.unit (shown n f) (Jump condition label) (λ h. h) (λ h. h)
  fault_number (Return condition) = by_index n.config n.unit (shown n f) (Return condition) (λ h. h) (λ h. h)
  fault_number (Call condition instance arguments) =
      subst (IsRangeNumber n.config n.unit (shown n f) (Call condition instance arguments)) (arguments_are n.config n.unit (shown n f) arguments) (by_index n.config n.unit (shown n f) (Call condition instance arguments) (λ h. h) (λ h. h))
  fault_number (Invoke function operands) =
      subst (IsRangeNumber n.config n.unit (shown n f) (Invoke function operands)) (invoke_is n.config n.unit (shown n f) (standard_function function.name) operands) (by_index n.config n.unit (shown n f) (Invoke function operands) (λ h. h) (λ h. h))
