-- Operands and operations agree with annotations.
use Rattle.std.proofs.Common.{◌≡◌, Bool, true, false, List, [], ◌∷◌, Option, Some, None, option_map, ℤ, pos, refl, sym, ◌∙◌, subst, arith}
use Rattle.std.specs.Prelude.{option_and_then, not, IsTrue, int_div}
use Rattle.std.specs.Int.{int_min, int_max}
use Rattle.std.proofs.lemmas.Int.{ints}
use Rattle.ranges_interval.specs.declared.Interval.{Interval}
use Rattle.ranges_interval.specs.Interval.{IsIn, IsWithin, IsOrdered, IsOperand, IsWithoutZero, interval_add, interval_sub, interval_mul, interval_div, interval_mod, interval_abs, interval_min, interval_max, interval_limit, interval_join}
use Rattle.ranges_interval.specs.Held.{Holds1, Holds3, absolute, limited}
use Rattle.ranges_interval.proofs.Hulls.{add_holds, add_least, sub_holds, sub_least, mul_holds, mul_least, div_holds, div_least, mod_holds, abs_holds, abs_least, min_holds, min_least, max_holds, max_least, limit_holds, limit_least, join_operand, join_first, join_second, join_least}
use Rattle.ranges_interval.proofs.Growth.{mod_grows}
use Rattle.il_statics.proofs.Alike.{same_type, type_same}
use Rattle.il_syntax.specs.declared.tree.Elementary.{Elementary}
use Rattle.il_syntax.specs.declared.tree.Elementary.TheVariants.{Time}
use Rattle.il_syntax.specs.declared.tree.Subrange.{Subrange}
use Rattle.il_syntax.specs.declared.tree.Literal.{Literal}
use Rattle.il_syntax.specs.declared.tree.Literal.TheVariants.{Truth, Bare, Whole, Time as Duration}
use Rattle.il_syntax.specs.declared.tree.Operator.{Operator}
use Rattle.il_syntax.specs.declared.tree.Operator.TheVariants.{Logic, Arithmetic, Comparison}
use Rattle.il_syntax.specs.declared.tree.Arithmetic.{Arithmetic as ArithmeticKind}
use Rattle.il_syntax.specs.declared.tree.Arithmetic.TheVariants.{Add, Sub, Mul, Div, Mod}
use Rattle.il_syntax.specs.declared.tree.Comparison.{Comparison as ComparisonKind}
use Rattle.il_syntax.specs.declared.tree.Comparison.TheVariants.{Equal, NotEqual, Greater, GreaterOrEqual, Less, LessOrEqual}
use Rattle.il_syntax.specs.ElementaryTypes.{limits, LiesIn, IsValueOf, is_whole, is_same_type}
use Rattle.il_statics.specs.declared.names.StandardFunction.{StandardFunction}
use Rattle.il_statics.specs.declared.names.StandardFunction.TheVariants.{Absolute, Minimum, Maximum, Limited, Selected, Converted}
use Rattle.base_maps.specs.NameMap.{NameMap, Text, get}
use Rattle.il_semantics.specs.Meaning.{Denotation, Constant, Direct, Numbered, Indexed, Inside, Unknown}
use Rattle.il_semantics.specs.Step.{takes}
use Rattle.il_semantics.specs.declared.known.Known.{Known}
use Rattle.il_semantics.specs.declared.known.Known.TheVariants.{Flag, Ranged}
use Rattle.il_semantics.specs.Annotation.{interval, only, numbers_of, range, declared_known, IsKnownWithin, IsVariableWithin, WithInterval, WithFlow, WithLiteral, WithOperand, WithOperated, WithNumber, GivesWithin, ComparesFlags, FitsType, WithSelected, WithApplied}
use Rattle.ranges_laws.specs.Facts.{Names, row_at, variables_of, IsRowOf, IsFineKnown}
use Rattle.ranges_laws.specs.Found.{provided, is_part, fits, there_fits, fitting, found_literal, found_flow, found_operand, combined, compares_flags, found_operated, found_selected, found_applied}
use Rattle.ranges_laws.specs.Prepared.{IsFineDenotation}
use Rattle.ranges_laws.proofs.Tests.{part_is, is_part_of, fit_is, is_fit, there_is, interval_trans, fits_operand}
use Rattle.ranges_laws.proofs.Least.{same_some}
use Rattle.ranges_laws.proofs.Joins.{known_itself}
use Rattle.ranges_laws.proofs.Rows.{row_is, row_operand}
use Rattle.ranges_laws.proofs.Agree.{Agrees, Tests, agrees_some, agrees_none, agrees_test, agrees_if, agrees_if_both, provided_is, is_provided}

-- what is found of a value agrees
abbrev pub Knows : Option Known → ((Known → Type 0) → Type 0) → ((Known → Type 0) → Type 0) → Type 1
Knows = Agrees IsFineKnown IsKnownWithin

pub finds : (k w : Known) → IsFineKnown k → IsKnownWithin k w → Knows (Some k) (λ go. go k) (λ go. go w)
finds = agrees_some IsFineKnown IsKnownWithin

pub finds_none : (narrow wide : (Known → Type 0) → Type 0) → ((go : Known → Type 0) → wide go → ⊥) → Knows None narrow wide
finds_none = agrees_none IsFineKnown IsKnownWithin

wider_in : (i wide : Interval) (x : ℤ) → IsWithin i wide → IsIn i x → IsIn wide x
wider_in i wide x w h = (omega (arith, ints), omega (arith, ints))

-- a test of its own claim
pub test_is : (b : Bool) → Tests b (b ≡ true) (b ≡ true)
test_is b = record { holds = λ e. e; follows = λ e. e }

pub type_tests : (e f : Elementary) → Tests (is_same_type e f) (e ≡ f) (e ≡ f)
type_tests e f = record { holds = same_type e f; follows = type_same e f }

-- OPERANDS

value_in : (o : Option Subrange) (z : ℤ) → LiesIn o z → WithInterval (option_map interval o) (λ j. IsWithin (only z) j)
value_in None z h = h
value_in (Some s) z h = h

fit_value : (o : Option Subrange) (z : ℤ) → WithInterval (option_map interval o) (λ j. IsWithin (only z) j) → LiesIn o z
fit_value None z h = h
fit_value (Some s) z h = h

-- a number of a type
number_of_type : (e : Elementary) (z : ℤ) → Knows (fitting e (only z)) (λ go. IsValueOf e z × go (Ranged e (only z))) (λ go. IsValueOf e z × go (Ranged e (only z)))
number_of_type e z =
    agrees_test IsFineKnown IsKnownWithin (fits (numbers_of e) (only z)) (IsValueOf e z) (IsValueOf e z) (Some (Ranged e (only z))) (λ go. go (Ranged e (only z))) (λ go. go (Ranged e (only z)))
    (record { holds = λ h. fit_value (limits e) z (fit_is (numbers_of e) (only z) h); follows = back }) (λ h. by_fit (back h)) by_fit
  where
    back : IsValueOf e z → fits (numbers_of e) (only z) ≡ true
    back h = is_fit (numbers_of e) (only z) (value_in (limits e) z h)

    by_fit : fits (numbers_of e) (only z) ≡ true → Knows (Some (Ranged e (only z))) (λ go. go (Ranged e (only z))) (λ go. go (Ranged e (only z)))
    by_fit h = finds (Ranged e (only z)) (Ranged e (only z)) (fits_operand e (only z) (omega (arith, ints)) h) (known_itself (Ranged e (only z)))

literal_agrees : (e : Elementary) (l : Literal) → Knows (found_literal e l) (WithLiteral e l) (WithLiteral e l)
literal_agrees e (Truth b) = finds Flag Flag tt tt
literal_agrees e (Bare z) =
    let a = agrees_if IsFineKnown IsKnownWithin (is_whole e) (IsTrue (is_whole e)) (IsTrue (is_whole e)) (fitting e (only z)) (λ go. IsValueOf e z × go (Ranged e (only z))) (λ go. IsValueOf e z × go (Ranged e (only z))) (test_is (is_whole e)) (number_of_type e z) in
    record { fine = a.fine; sound = λ x h go g. let r = a.sound x h go g in (r.0, r.1.0, r.1.1); complete = λ go g. a.complete go (g.0, (g.1, g.2)) }
literal_agrees e (Whole written z) = number_of_type written z
literal_agrees e (Duration z) = number_of_type Time z

-- a variable: what the pass has, what the facts show of it, and what an annotation has
flow_agrees : (e : Elementary) (declared row narrow wide : Option Interval) → narrow ≡ row → IsVariableWithin row wide → ((j : Interval) → row ≡ Some j → IsOperand j) → Knows (found_flow e declared row) (WithFlow e declared narrow) (WithFlow e declared wide)
flow_agrees e None row narrow wide same within fine = finds Flag Flag tt tt
flow_agrees e (Some d) None narrow None same within fine = finds_none _ _ (λ go h. h)
flow_agrees e (Some d) None narrow (Some j) same within fine = absurd within
flow_agrees e (Some d) (Some i) narrow None same within fine = absurd within
flow_agrees e (Some d) (Some i) narrow (Some j) same within fine =
    subst (λ o. Knows (Some (Ranged e i)) (WithFlow e (Some d) o) (WithFlow e (Some d) (Some j))) (sym same) (finds (Ranged e i) (Ranged e j) (fine i refl) (refl, within))

pub index_tests : (row narrow wide : Option Interval) (bounds : Interval) → narrow ≡ row → IsVariableWithin row wide → Tests (there_fits row bounds) (WithInterval narrow (λ i. IsWithin i bounds)) (WithInterval wide (λ i. IsWithin i bounds))
index_tests row narrow wide bounds same within = record { holds = λ h. subst (λ o. WithInterval o (λ i. IsWithin i bounds)) (sym same) (there_is row bounds h); follows = follows row wide within }
  where
    follows : (row wide : Option Interval) → IsVariableWithin row wide → WithInterval wide (λ i. IsWithin i bounds) → there_fits row bounds ≡ true
    follows None None w h = absurd h
    follows (Some i) (Some j) w h = is_part_of i bounds (interval_trans i j bounds w h)
    follows None (Some j) w h = absurd w
    follows (Some i) None w h = absurd h

-- what the pass has of the variables of a place, and an annotation
pub record Variables (names : Names) (row : List Interval) (wide : NameMap Interval) : Type 0 where
  pub fine : IsRowOf names row
  pub within : (q : Text) → IsVariableWithin (row_at names row q) (get wide q)

pub operand_agrees : (names : Names) (row : List Interval) (wide : NameMap Interval) → Variables names row wide → (e : Elementary) (d : Denotation) → IsFineDenotation d
    → Knows (found_operand (row_at names row) e d) (WithOperand (variables_of names row) e d) (WithOperand wide e d)
operand_agrees names row wide v e (Constant l) fine = literal_agrees e l
operand_agrees names row wide v e (Direct name s) fine =
    flow_agrees s.elementary (range s) (row_at names row name) (get (variables_of names row) name) (get wide name) (row_is names row name) (v.within name) (λ j. row_operand names row name j v.fine)
operand_agrees names row wide v e (Numbered name bounds element z) fine =
    agrees_if IsFineKnown IsKnownWithin (is_part (only z) (interval bounds)) (IsIn (interval bounds) z) (IsIn (interval bounds) z) (Some (declared_known element)) (λ go. go (declared_known element)) (λ go. go (declared_known element))
    (record { holds = part_is (only z) (interval bounds); follows = is_part_of (only z) (interval bounds) }) (finds (declared_known element) (declared_known element) fine (known_itself (declared_known element)))
operand_agrees names row wide v e (Indexed name bounds element variable s) fine =
    agrees_if_both IsFineKnown IsKnownWithin (is_whole s.elementary) (there_fits (row_at names row variable) (interval bounds)) (IsTrue (is_whole s.elementary)) (IsTrue (is_whole s.elementary)) (WithInterval (get (variables_of names row) variable) (λ i. IsWithin i (interval bounds))) (WithInterval (get wide variable) (λ i. IsWithin i (interval bounds)))
    (Some (declared_known element)) (λ go. go (declared_known element)) (λ go. go (declared_known element)) (test_is (is_whole s.elementary))
    (index_tests (row_at names row variable) (get (variables_of names row) variable) (get wide variable) (interval bounds) (row_is names row variable) (v.within variable)) (finds (declared_known element) (declared_known element) fine (known_itself (declared_known element)))
operand_agrees names row wide v e (Inside instance word s) fine = finds (declared_known s) (declared_known s) fine (known_itself (declared_known s))
operand_agrees names row wide v e Unknown fine = finds_none _ _ (λ go h. h)

-- NUMBERS

narrower : (o : Option Interval) (i w : Interval) → IsWithin i w → WithInterval o (λ j. IsWithin w j) → WithInterval o (λ j. IsWithin i j)
narrower None i w v h = h
narrower (Some j) i w v h = interval_trans i w j v h

-- a hull is found where it lies in the type
pub number_agrees : (e : Elementary) (hull : Interval) (narrow wide : Interval → Type 0) → IsOrdered hull → narrow hull → ((r : Interval) → wide r → IsWithin hull r) → Knows (fitting e hull) (WithNumber e narrow) (WithNumber e wide)
number_agrees e hull narrow wide ordered holds least = record {
  fine = λ z h. let p = provided_is (fits (numbers_of e) hull) (Some (Ranged e hull)) z h in subst IsFineKnown (same_some (Ranged e hull) z p.is) (fits_operand e hull ordered p.test);
  sound = λ z h go g. let p = provided_is (fits (numbers_of e) hull) (Some (Ranged e hull)) z h in (hull, holds, fit_is (numbers_of e) hull p.test, subst go (sym (same_some (Ranged e hull) z p.is)) g);
  complete = λ go (r, h, fit, goes). record {
    least = Ranged e hull;
    wide = Ranged e r;
    is = is_provided (fits (numbers_of e) hull) (Some (Ranged e hull)) (is_fit (numbers_of e) hull (narrower (numbers_of e) hull r (least r h) fit));
    within = (refl, least r h);
    goes = goes;
  };
}

record Ranges (i j wide_i wide_j : Interval) : Type 0 where
  first : IsOrdered i
  second : IsOrdered j
  within_first : IsWithin i wide_i
  within_second : IsWithin j wide_j

-- an operation that has a hull
hull_agrees : (e : Elementary) (f : ℤ → ℤ → ℤ) (hull : Interval) (i j wide_i wide_j : Interval) → Ranges i j wide_i wide_j → IsOrdered hull → ((x y : ℤ) → IsIn i x → IsIn j y → IsIn hull (f x y)) → ((s : Interval) → ((x y : ℤ) → IsIn i x → IsIn j y → IsIn s (f x y)) → IsWithin hull s)
    → Knows (fitting e hull) (WithNumber e (λ r. (x y : ℤ) → IsIn i x → IsIn j y → IsIn r (f x y))) (WithNumber e (λ r. (x y : ℤ) → IsIn wide_i x → IsIn wide_j y → IsIn r (f x y)))
hull_agrees e f hull i j wide_i wide_j g ordered holds least =
    number_agrees e hull (λ r. (x y : ℤ) → IsIn i x → IsIn j y → IsIn r (f x y)) (λ r. (x y : ℤ) → IsIn wide_i x → IsIn wide_j y → IsIn r (f x y)) ordered holds
    (λ r h. least r (λ x y a b. h x y (wider_in i wide_i x g.within_first a) (wider_in j wide_j y g.within_second b)))

ordered_from : (i : Interval) (x : ℤ) → IsIn i x → IsOrdered i
ordered_from i x h = omega (arith, ints)

low_in : (i : Interval) → IsOrdered i → IsIn i i.lo
low_in i p = (omega (arith, ints), omega (arith, ints))

-- a divisor
by_divisor : (e : Elementary) (i j wide_j : Interval) (hull : Interval) (narrow wide : Interval → Type 0) → IsWithin j wide_j → (IsWithoutZero j → IsOrdered hull) → (IsWithoutZero j → narrow hull) → ((r : Interval) → IsWithoutZero wide_j → wide r → IsWithin hull r)
    → Knows (option_and_then (fitting e) (provided (not (is_part (only (pos 0)) j)) (Some hull))) (WithNumber e (λ r. IsWithoutZero j × narrow r)) (WithNumber e (λ r. IsWithoutZero wide_j × wide r))
by_divisor e i j wide_j hull narrow wide within ordered holds least = by_test (is_part (only (pos 0)) j) refl
  where
    by_test : (b : Bool) → is_part (only (pos 0)) j ≡ b → Knows (option_and_then (fitting e) (provided (not b) (Some hull))) (WithNumber e (λ r. IsWithoutZero j × narrow r)) (WithNumber e (λ r. IsWithoutZero wide_j × wide r))
    by_test true is = finds_none _ _ (λ go h. h.1.0 (wider_in j wide_j (pos 0) within (part_is (only (pos 0)) j is)))
    by_test false is =
        let without : IsWithoutZero j = λ z. let bad : false ≡ true = sym is ∙ is_part_of (only (pos 0)) j z in cc in
        number_agrees e hull (λ r. IsWithoutZero j × narrow r) (λ r. IsWithoutZero wide_j × wide r) (ordered without) (without, holds without) (λ r h. least r h.0 h.1)

arithmetic_agrees : (e : Elementary) (kind : ArithmeticKind) (i j wide_i wide_j : Interval) → Ranges i j wide_i wide_j → Knows (option_and_then (fitting e) (combined kind i j)) (WithNumber e (λ r. GivesWithin kind i j r)) (WithNumber e (λ r. GivesWithin kind wide_i wide_j r))
arithmetic_agrees e Add i j wide_i wide_j g = hull_agrees e _ (interval_add i j) i j wide_i wide_j g (ordered_from (interval_add i j) _ (add_holds i j i.lo j.lo (low_in i g.first) (low_in j g.second))) (add_holds i j) (add_least i j g.first g.second)
arithmetic_agrees e Sub i j wide_i wide_j g = hull_agrees e _ (interval_sub i j) i j wide_i wide_j g (ordered_from (interval_sub i j) _ (sub_holds i j i.lo j.lo (low_in i g.first) (low_in j g.second))) (sub_holds i j) (sub_least i j g.first g.second)
arithmetic_agrees e Mul i j wide_i wide_j g = hull_agrees e _ (interval_mul i j) i j wide_i wide_j g (ordered_from (interval_mul i j) _ (mul_holds i j i.lo j.lo (low_in i g.first) (low_in j g.second))) (mul_holds i j) (mul_least i j g.first g.second)
arithmetic_agrees e Div i j wide_i wide_j g =
    by_divisor e i j wide_j (interval_div i j) (λ r. (x y : ℤ) → IsIn i x → IsIn j y → IsIn r (int_div x y)) (λ r. (x y : ℤ) → IsIn wide_i x → IsIn wide_j y → IsIn r (int_div x y)) g.within_second
    (λ w. ordered_from (interval_div i j) _ (div_holds i j w i.lo j.lo (low_in i g.first) (low_in j g.second))) (div_holds i j) (λ r w h. div_least i j g.first g.second r (λ x y a b. h x y (wider_in i wide_i x g.within_first a) (wider_in j wide_j y g.within_second b)))
arithmetic_agrees e Mod i j wide_i wide_j g =
    by_divisor e i j wide_j (interval_mod i j) (λ r. IsWithin (interval_mod i j) r) (λ r. IsWithin (interval_mod wide_i wide_j) r) g.within_second
    (λ w. ordered_from (interval_mod i j) _ (mod_holds i j w i.lo j.lo (low_in i g.first) (low_in j g.second))) (λ w. (omega (arith, ints), omega (arith, ints))) (λ r w h. interval_trans (interval_mod i j) (interval_mod wide_i wide_j) r (mod_grows i j wide_i wide_j g.first g.second w g.within_first g.within_second) h)

-- OPERATIONS

flags_tests : (kind : ComparisonKind) → Tests (compares_flags kind) (ComparesFlags kind) (ComparesFlags kind)
flags_tests Equal = record { holds = λ e. tt; follows = λ h. refl }
flags_tests NotEqual = record { holds = λ e. tt; follows = λ h. refl }
flags_tests Greater = record { holds = λ e. let bad : false ≡ true = e in cc; follows = λ h. absurd h }
flags_tests GreaterOrEqual = record { holds = λ e. let bad : false ≡ true = e in cc; follows = λ h. absurd h }
flags_tests Less = record { holds = λ e. let bad : false ≡ true = e in cc; follows = λ h. absurd h }
flags_tests LessOrEqual = record { holds = λ e. let bad : false ≡ true = e in cc; follows = λ h. absurd h }

flag_operated : (op : Operator) (r w : Known) → IsKnownWithin r w → Knows (found_operated op Flag r) (WithOperated op Flag r) (WithOperated op Flag w)
flag_operated (Logic kind negated) Flag Flag v = finds Flag Flag tt tt
flag_operated (Logic kind negated) (Ranged f j) (Ranged g h) v = finds_none _ _ (λ go h. h)
flag_operated (Logic kind negated) Flag (Ranged g h) v = absurd v
flag_operated (Logic kind negated) (Ranged f j) Flag v = absurd v
flag_operated (Arithmetic kind) r w v = finds_none _ _ (λ go h. h)
flag_operated (Comparison kind) Flag Flag v = agrees_if IsFineKnown IsKnownWithin (compares_flags kind) (ComparesFlags kind) (ComparesFlags kind) (Some Flag) (λ go. go Flag) (λ go. go Flag) (flags_tests kind) (finds Flag Flag tt tt)
flag_operated (Comparison kind) (Ranged f j) (Ranged g h) v = finds_none _ _ (λ go h. h)
flag_operated (Comparison kind) Flag (Ranged g h) v = absurd v
flag_operated (Comparison kind) (Ranged f j) Flag v = absurd v

-- both are ranges: of types that are one, as the annotation's are
ranged_operated : (op : Operator) (e f : Elementary) (i j wide_i wide_j : Interval) → Ranges i j wide_i wide_j → Knows (found_operated op (Ranged e i) (Ranged f j)) (WithOperated op (Ranged e i) (Ranged f j)) (WithOperated op (Ranged e wide_i) (Ranged f wide_j))
ranged_operated (Logic kind negated) e f i j wide_i wide_j g = finds_none _ _ (λ go h. h)
ranged_operated (Arithmetic kind) e f i j wide_i wide_j g =
    agrees_if_both IsFineKnown IsKnownWithin (takes kind e) (is_same_type e f) (IsTrue (takes kind e)) (IsTrue (takes kind e)) (e ≡ f) (e ≡ f) (option_and_then (fitting e) (combined kind i j))
    (WithNumber e (λ r. GivesWithin kind i j r)) (WithNumber e (λ r. GivesWithin kind wide_i wide_j r)) (test_is (takes kind e)) (type_tests e f) (arithmetic_agrees e kind i j wide_i wide_j g)
ranged_operated (Comparison kind) e f i j wide_i wide_j g = agrees_if IsFineKnown IsKnownWithin (is_same_type e f) (e ≡ f) (e ≡ f) (Some Flag) (λ go. go Flag) (λ go. go Flag) (type_tests e f) (finds Flag Flag tt tt)

ranged_flag : (op : Operator) (e : Elementary) (i wide_i : Interval) → Knows (found_operated op (Ranged e i) Flag) (WithOperated op (Ranged e i) Flag) (WithOperated op (Ranged e wide_i) Flag)
ranged_flag (Logic kind negated) e i wide_i = finds_none _ _ (λ go h. h)
ranged_flag (Arithmetic kind) e i wide_i = finds_none _ _ (λ go h. h)
ranged_flag (Comparison kind) e i wide_i = finds_none _ _ (λ go h. h)

pub operated_agrees : (op : Operator) (l r wide_l wide_r : Known) → IsFineKnown l → IsFineKnown r → IsKnownWithin l wide_l → IsKnownWithin r wide_r → Knows (found_operated op l r) (WithOperated op l r) (WithOperated op wide_l wide_r)
operated_agrees op Flag r Flag wide_r fl fr u v = flag_operated op r wide_r v
operated_agrees op (Ranged e i) Flag (Ranged f k) Flag fl fr u v = subst (λ x. Knows (found_operated op (Ranged e i) Flag) (WithOperated op (Ranged e i) Flag) (WithOperated op (Ranged x k) Flag)) u.0 (ranged_flag op e i k)
operated_agrees op (Ranged e i) (Ranged g j) (Ranged f k) (Ranged h l) fl fr u v =
    subst (λ x. Knows (found_operated op (Ranged e i) (Ranged g j)) (WithOperated op (Ranged e i) (Ranged g j)) (WithOperated op (Ranged f k) (Ranged x l))) v.0
    (subst (λ x. Knows (found_operated op (Ranged e i) (Ranged g j)) (WithOperated op (Ranged e i) (Ranged g j)) (WithOperated op (Ranged x k) (Ranged g l))) u.0
    (ranged_operated op e g i j k l (record { first = fl.ordered; second = fr.ordered; within_first = u.1; within_second = v.1 })))
operated_agrees op Flag r (Ranged f k) wide_r fl fr u v = absurd u
operated_agrees op (Ranged e i) r Flag wide_r fl fr u v = absurd u
operated_agrees op (Ranged e i) Flag (Ranged f k) (Ranged h l) fl fr u v = absurd v
operated_agrees op (Ranged e i) (Ranged g j) (Ranged f k) Flag fl fr u v = absurd v

-- STANDARD FUNCTIONS

-- what is known of each argument lies within what an annotation has
abbrev pub AreWithin : List Known → List Known → Type 0
AreWithin [] [] = Unit {0}
AreWithin (k ∷ ks) (l ∷ ls) = IsKnownWithin k l × AreWithin ks ls
AreWithin [] (l ∷ ls) = ⊥
AreWithin (k ∷ ks) [] = ⊥

abbrev pub AreFine : List Known → Type 0
AreFine [] = Unit {0}
AreFine (k ∷ ks) = IsFineKnown k × AreFine ks

pub are_within_itself : (ks : List Known) → AreWithin ks ks
are_within_itself [] = tt
are_within_itself (k ∷ ks) = (known_itself k, are_within_itself ks)

-- a function of one number
one_agrees : (e : Elementary) (f : ℤ → ℤ) (hull i wide : Interval) → IsWithin i wide → IsOrdered hull → Holds1 f i hull → ((s : Interval) → Holds1 f i s → IsWithin hull s) → Knows (fitting e hull) (WithNumber e (λ r. Holds1 f i r)) (WithNumber e (λ r. Holds1 f wide r))
one_agrees e f hull i wide w ordered holds least = number_agrees e hull (λ r. Holds1 f i r) (λ r. Holds1 f wide r) ordered holds (λ r h. least r (λ x a. h x (wider_in i wide x w a)))

-- LIMIT
limit_agrees : (e : Elementary) (i j k wide_i wide_j wide_k : Interval) → IsOperand i → IsOperand j → IsOperand k → IsWithin i wide_i → IsWithin j wide_j → IsWithin k wide_k
    → Knows (fitting e (interval_limit i j k)) (WithNumber e (λ r. Holds3 limited i j k r)) (WithNumber e (λ r. Holds3 limited wide_i wide_j wide_k r))
limit_agrees e i j k wide_i wide_j wide_k fi fj fk u v w =
    number_agrees e (interval_limit i j k) (λ r. Holds3 limited i j k r) (λ r. Holds3 limited wide_i wide_j wide_k r)
    (ordered_from (interval_limit i j k) _ (limit_holds i j k i.lo j.lo k.lo (low_in i fi.ordered) (low_in j fj.ordered) (low_in k fk.ordered))) (limit_holds i j k)
    (λ r h. limit_least i j k fi.ordered fj.ordered fk.ordered r (λ x y z a b c. h x y z (wider_in i wide_i x u a) (wider_in j wide_j y v b) (wider_in k wide_k z w c)))

-- SEL gives both
selected_agrees : (k l wide_k wide_l : Known) → IsFineKnown k → IsFineKnown l → IsKnownWithin k wide_k → IsKnownWithin l wide_l → Knows (found_selected k l) (WithSelected k l) (WithSelected wide_k wide_l)
selected_agrees Flag Flag Flag Flag fk fl u v = finds Flag Flag tt tt
selected_agrees (Ranged e i) (Ranged f j) (Ranged g k) (Ranged h l) fk fl u v =
    subst (λ x. Knows (found_selected (Ranged e i) (Ranged f j)) (WithSelected (Ranged e i) (Ranged f j)) (WithSelected (Ranged g k) (Ranged x l))) v.0
    (subst (λ x. Knows (found_selected (Ranged e i) (Ranged f j)) (WithSelected (Ranged e i) (Ranged f j)) (WithSelected (Ranged x k) (Ranged f l))) u.0
    (agrees_if IsFineKnown IsKnownWithin (is_same_type e f) (e ≡ f) (e ≡ f) (fitting e (interval_join i j)) (λ go. (r : Interval) × IsWithin i r × IsWithin j r × FitsType e r × go (Ranged e r)) (λ go. (r : Interval) × IsWithin k r × IsWithin l r × FitsType e r × go (Ranged e r)) (type_tests e f) hull))
  where
    numbers : Knows (fitting e (interval_join i j)) (WithNumber e (λ r. IsWithin i r × IsWithin j r)) (WithNumber e (λ r. IsWithin k r × IsWithin l r))
    numbers = number_agrees e (interval_join i j) (λ r. IsWithin i r × IsWithin j r) (λ r. IsWithin k r × IsWithin l r) (join_operand i j fk fl).ordered (join_first i j, join_second i j)
        (λ r h. join_least i j r (interval_trans i k r u.1 h.0) (interval_trans j l r v.1 h.1))

    hull : Knows (fitting e (interval_join i j)) (λ go. (r : Interval) × IsWithin i r × IsWithin j r × FitsType e r × go (Ranged e r)) (λ go. (r : Interval) × IsWithin k r × IsWithin l r × FitsType e r × go (Ranged e r))
    hull = record {
      fine = numbers.fine;
      sound = λ z h go g. let n = numbers.sound z h go g in (n.0, n.1.0, n.1.1, n.2, n.3);
      complete = λ go h. numbers.complete go (h.0, (h.1, h.2), h.3, h.4);
    }
selected_agrees Flag (Ranged f j) Flag (Ranged h l) fk fl u v = finds_none _ _ (λ go h. h)
selected_agrees (Ranged e i) Flag (Ranged g k) Flag fk fl u v = finds_none _ _ (λ go h. h)
selected_agrees Flag l (Ranged g k) wide_l fk fl u v = absurd u
selected_agrees (Ranged e i) l Flag wide_l fk fl u v = absurd u
selected_agrees Flag Flag Flag (Ranged h l) fk fl u v = absurd v
selected_agrees Flag (Ranged f j) Flag Flag fk fl u v = absurd v
selected_agrees (Ranged e i) Flag (Ranged g k) (Ranged h l) fk fl u v = absurd v
selected_agrees (Ranged e i) (Ranged f j) (Ranged g k) Flag fk fl u v = absurd v

min_agrees : (e : Elementary) (i w : Interval) (ks ls : List Known) → IsOperand i → IsWithin i w → AreFine ks → AreWithin ks ls → Knows (found_applied Minimum (Ranged e i) ks) (WithApplied Minimum (Ranged e i) ks) (WithApplied Minimum (Ranged e w) ls)
min_agrees e i w (Ranged f j ∷ []) (Ranged g v ∷ []) fi u fs us =
    subst (λ x. Knows (found_applied Minimum (Ranged e i) (Ranged f j ∷ [])) (WithApplied Minimum (Ranged e i) (Ranged f j ∷ [])) (WithApplied Minimum (Ranged e w) (Ranged x v ∷ []))) us.0.0
    (agrees_if IsFineKnown IsKnownWithin (is_same_type e f) (e ≡ f) (e ≡ f) (fitting e (interval_min i j)) (WithNumber e (λ r. (x y : ℤ) → IsIn i x → IsIn j y → IsIn r (int_min x y))) (WithNumber e (λ r. (x y : ℤ) → IsIn w x → IsIn v y → IsIn r (int_min x y))) (type_tests e f)
    (hull_agrees e int_min (interval_min i j) i j w v (record { first = fi.ordered; second = fs.0.ordered; within_first = u; within_second = us.0.1 })
    (ordered_from (interval_min i j) _ (min_holds i j i.lo j.lo (low_in i fi.ordered) (low_in j fs.0.ordered))) (min_holds i j) (min_least i j fi.ordered fs.0.ordered)))
min_agrees e i w [] [] fi u fs us = finds_none _ _ (λ go h. h)
min_agrees e i w (Flag ∷ ks) (Flag ∷ ls) fi u fs us = finds_none _ _ (λ go h. h)
min_agrees e i w (Ranged f j ∷ k ∷ ks) (Ranged g v ∷ l ∷ ls) fi u fs us = finds_none _ _ (λ go h. h)
min_agrees e i w [] (l ∷ ls) fi u fs us = absurd us
min_agrees e i w (k ∷ ks) [] fi u fs us = absurd us
min_agrees e i w (Flag ∷ ks) (Ranged g v ∷ ls) fi u fs us = absurd us.0
min_agrees e i w (Ranged f j ∷ ks) (Flag ∷ ls) fi u fs us = absurd us.0
min_agrees e i w (Ranged f j ∷ []) (Ranged g v ∷ l ∷ ls) fi u fs us = absurd us.1
min_agrees e i w (Ranged f j ∷ k ∷ ks) (Ranged g v ∷ []) fi u fs us = absurd us.1

max_agrees : (e : Elementary) (i w : Interval) (ks ls : List Known) → IsOperand i → IsWithin i w → AreFine ks → AreWithin ks ls → Knows (found_applied Maximum (Ranged e i) ks) (WithApplied Maximum (Ranged e i) ks) (WithApplied Maximum (Ranged e w) ls)
max_agrees e i w (Ranged f j ∷ []) (Ranged g v ∷ []) fi u fs us =
    subst (λ x. Knows (found_applied Maximum (Ranged e i) (Ranged f j ∷ [])) (WithApplied Maximum (Ranged e i) (Ranged f j ∷ [])) (WithApplied Maximum (Ranged e w) (Ranged x v ∷ []))) us.0.0
    (agrees_if IsFineKnown IsKnownWithin (is_same_type e f) (e ≡ f) (e ≡ f) (fitting e (interval_max i j)) (WithNumber e (λ r. (x y : ℤ) → IsIn i x → IsIn j y → IsIn r (int_max x y))) (WithNumber e (λ r. (x y : ℤ) → IsIn w x → IsIn v y → IsIn r (int_max x y))) (type_tests e f)
    (hull_agrees e int_max (interval_max i j) i j w v (record { first = fi.ordered; second = fs.0.ordered; within_first = u; within_second = us.0.1 })
    (ordered_from (interval_max i j) _ (max_holds i j i.lo j.lo (low_in i fi.ordered) (low_in j fs.0.ordered))) (max_holds i j) (max_least i j fi.ordered fs.0.ordered)))
max_agrees e i w [] [] fi u fs us = finds_none _ _ (λ go h. h)
max_agrees e i w (Flag ∷ ks) (Flag ∷ ls) fi u fs us = finds_none _ _ (λ go h. h)
max_agrees e i w (Ranged f j ∷ k ∷ ks) (Ranged g v ∷ l ∷ ls) fi u fs us = finds_none _ _ (λ go h. h)
max_agrees e i w [] (l ∷ ls) fi u fs us = absurd us
max_agrees e i w (k ∷ ks) [] fi u fs us = absurd us
max_agrees e i w (Flag ∷ ks) (Ranged g v ∷ ls) fi u fs us = absurd us.0
max_agrees e i w (Ranged f j ∷ ks) (Flag ∷ ls) fi u fs us = absurd us.0
max_agrees e i w (Ranged f j ∷ []) (Ranged g v ∷ l ∷ ls) fi u fs us = absurd us.1
max_agrees e i w (Ranged f j ∷ k ∷ ks) (Ranged g v ∷ []) fi u fs us = absurd us.1

limited_agrees : (e : Elementary) (i w : Interval) (ks ls : List Known) → IsOperand i → IsWithin i w → AreFine ks → AreWithin ks ls → Knows (found_applied Limited (Ranged e i) ks) (WithApplied Limited (Ranged e i) ks) (WithApplied Limited (Ranged e w) ls)
limited_agrees e i w (Ranged f j ∷ Ranged h k ∷ []) (Ranged g v ∷ Ranged m x ∷ []) fi u fs us =
    subst (λ t. Knows (found_applied Limited (Ranged e i) (Ranged f j ∷ Ranged h k ∷ [])) (WithApplied Limited (Ranged e i) (Ranged f j ∷ Ranged h k ∷ [])) (WithApplied Limited (Ranged e w) (Ranged g v ∷ Ranged t x ∷ []))) us.1.0.0
    (subst (λ t. Knows (found_applied Limited (Ranged e i) (Ranged f j ∷ Ranged h k ∷ [])) (WithApplied Limited (Ranged e i) (Ranged f j ∷ Ranged h k ∷ [])) (WithApplied Limited (Ranged e w) (Ranged t v ∷ Ranged h x ∷ []))) us.0.0
    (agrees_if_both IsFineKnown IsKnownWithin (is_same_type e f) (is_same_type e h) (e ≡ f) (e ≡ f) (e ≡ h) (e ≡ h) (fitting e (interval_limit i j k)) (WithNumber e (λ r. Holds3 limited i j k r)) (WithNumber e (λ r. Holds3 limited w v x r)) (type_tests e f) (type_tests e h)
    (limit_agrees e i j k w v x fi fs.0 fs.1.0 u us.0.1 us.1.0.1)))
limited_agrees e i w [] [] fi u fs us = finds_none _ _ (λ go h. h)
limited_agrees e i w (Flag ∷ ks) (Flag ∷ ls) fi u fs us = finds_none _ _ (λ go h. h)
limited_agrees e i w (Ranged f j ∷ []) (Ranged g v ∷ []) fi u fs us = finds_none _ _ (λ go h. h)
limited_agrees e i w (Ranged f j ∷ Flag ∷ ks) (Ranged g v ∷ Flag ∷ ls) fi u fs us = finds_none _ _ (λ go h. h)
limited_agrees e i w (Ranged f j ∷ Ranged h k ∷ y ∷ ys) (Ranged g v ∷ Ranged m x ∷ z ∷ zs) fi u fs us = finds_none _ _ (λ go h. h)
limited_agrees e i w [] (l ∷ ls) fi u fs us = absurd us
limited_agrees e i w (k ∷ ks) [] fi u fs us = absurd us
limited_agrees e i w (Flag ∷ ks) (Ranged g v ∷ ls) fi u fs us = absurd us.0
limited_agrees e i w (Ranged f j ∷ ks) (Flag ∷ ls) fi u fs us = absurd us.0
limited_agrees e i w (Ranged f j ∷ []) (Ranged g v ∷ l ∷ ls) fi u fs us = absurd us.1
limited_agrees e i w (Ranged f j ∷ k ∷ ks) (Ranged g v ∷ []) fi u fs us = absurd us.1
limited_agrees e i w (Ranged f j ∷ Flag ∷ ks) (Ranged g v ∷ Ranged m x ∷ ls) fi u fs us = absurd us.1.0
limited_agrees e i w (Ranged f j ∷ Ranged h k ∷ ks) (Ranged g v ∷ Flag ∷ ls) fi u fs us = absurd us.1.0
limited_agrees e i w (Ranged f j ∷ Ranged h k ∷ []) (Ranged g v ∷ Ranged m x ∷ z ∷ zs) fi u fs us = absurd us.1.1
limited_agrees e i w (Ranged f j ∷ Ranged h k ∷ y ∷ ys) (Ranged g v ∷ Ranged m x ∷ []) fi u fs us = absurd us.1.1

absolute_agrees : (e : Elementary) (i w : Interval) (ks ls : List Known) → IsOperand i → IsWithin i w → AreWithin ks ls → Knows (found_applied Absolute (Ranged e i) ks) (WithApplied Absolute (Ranged e i) ks) (WithApplied Absolute (Ranged e w) ls)
absolute_agrees e i w [] [] fi u us =
    agrees_if IsFineKnown IsKnownWithin (is_whole e) (IsTrue (is_whole e)) (IsTrue (is_whole e)) (fitting e (interval_abs i)) (WithNumber e (λ r. Holds1 absolute i r)) (WithNumber e (λ r. Holds1 absolute w r)) (test_is (is_whole e))
    (one_agrees e absolute (interval_abs i) i w u (ordered_from (interval_abs i) _ (abs_holds i i.lo (low_in i fi.ordered))) (abs_holds i) (abs_least i fi.ordered))
absolute_agrees e i w (k ∷ ks) (l ∷ ls) fi u us = finds_none _ _ (λ go h. h)
absolute_agrees e i w [] (l ∷ ls) fi u us = absurd us
absolute_agrees e i w (k ∷ ks) [] fi u us = absurd us

converted_agrees : (from to e : Elementary) (i w : Interval) (ks ls : List Known) → IsOperand i → IsWithin i w → AreWithin ks ls
    → Knows (found_applied (Converted from to) (Ranged e i) ks) (WithApplied (Converted from to) (Ranged e i) ks) (WithApplied (Converted from to) (Ranged e w) ls)
converted_agrees from to e i w [] [] fi u us =
    agrees_if_both IsFineKnown IsKnownWithin (is_same_type e from) (fits (numbers_of to) i) (e ≡ from) (e ≡ from) (FitsType to i) (FitsType to w) (Some (Ranged to i)) (λ go. go (Ranged to i)) (λ go. go (Ranged to w)) (type_tests e from)
    (record { holds = fit_is (numbers_of to) i; follows = λ h. is_fit (numbers_of to) i (narrower (numbers_of to) i w u h) }) (finds (Ranged to i) (Ranged to w) fi (refl, u))
converted_agrees from to e i w (k ∷ ks) (l ∷ ls) fi u us = finds_none _ _ (λ go h. h)
converted_agrees from to e i w [] (l ∷ ls) fi u us = absurd us
converted_agrees from to e i w (k ∷ ks) [] fi u us = absurd us

chosen_agrees : (ks ls : List Known) → AreFine ks → AreWithin ks ls → Knows (found_applied Selected Flag ks) (WithApplied Selected Flag ks) (WithApplied Selected Flag ls)
chosen_agrees (k ∷ j ∷ []) (l ∷ m ∷ []) fs us = selected_agrees k j l m fs.0 fs.1.0 us.0 us.1.0
chosen_agrees [] [] fs us = finds_none _ _ (λ go h. h)
chosen_agrees (k ∷ []) (l ∷ []) fs us = finds_none _ _ (λ go h. h)
chosen_agrees (k ∷ j ∷ x ∷ xs) (l ∷ m ∷ y ∷ ys) fs us = finds_none _ _ (λ go h. h)
chosen_agrees [] (l ∷ ls) fs us = absurd us
chosen_agrees (k ∷ ks) [] fs us = absurd us
chosen_agrees (k ∷ []) (l ∷ m ∷ ls) fs us = absurd us.1
chosen_agrees (k ∷ j ∷ ks) (l ∷ []) fs us = absurd us.1
chosen_agrees (k ∷ j ∷ []) (l ∷ m ∷ y ∷ ys) fs us = absurd us.1.1
chosen_agrees (k ∷ j ∷ x ∷ xs) (l ∷ m ∷ []) fs us = absurd us.1.1

ranged_applied : (f : StandardFunction) (e : Elementary) (i w : Interval) (ks ls : List Known) → IsOperand i → IsWithin i w → AreFine ks → AreWithin ks ls → Knows (found_applied f (Ranged e i) ks) (WithApplied f (Ranged e i) ks) (WithApplied f (Ranged e w) ls)
ranged_applied Absolute e i w ks ls fi u fs us = absolute_agrees e i w ks ls fi u us
ranged_applied Minimum e i w ks ls fi u fs us = min_agrees e i w ks ls fi u fs us
ranged_applied Maximum e i w ks ls fi u fs us = max_agrees e i w ks ls fi u fs us
ranged_applied Limited e i w ks ls fi u fs us = limited_agrees e i w ks ls fi u fs us
ranged_applied Selected e i w ks ls fi u fs us = finds_none _ _ (λ go h. h)
ranged_applied (Converted from to) e i w ks ls fi u fs us = converted_agrees from to e i w ks ls fi u us

flag_applied : (f : StandardFunction) (ks ls : List Known) → AreFine ks → AreWithin ks ls → Knows (found_applied f Flag ks) (WithApplied f Flag ks) (WithApplied f Flag ls)
flag_applied Absolute ks ls fs us = finds_none _ _ (λ go h. h)
flag_applied Minimum ks ls fs us = finds_none _ _ (λ go h. h)
flag_applied Maximum ks ls fs us = finds_none _ _ (λ go h. h)
flag_applied Limited ks ls fs us = finds_none _ _ (λ go h. h)
flag_applied Selected ks ls fs us = chosen_agrees ks ls fs us
flag_applied (Converted from to) ks ls fs us = finds_none _ _ (λ go h. h)

-- a standard function of arguments
pub applied_agrees : (f : StandardFunction) (k wide : Known) (ks ls : List Known) → IsFineKnown k → IsKnownWithin k wide → AreFine ks → AreWithin ks ls → Knows (found_applied f k ks) (WithApplied f k ks) (WithApplied f wide ls)
applied_agrees f Flag Flag ks ls fk u fs us = flag_applied f ks ls fs us
applied_agrees f (Ranged e i) (Ranged g w) ks ls fk u fs us = subst (λ x. Knows (found_applied f (Ranged e i) ks) (WithApplied f (Ranged e i) ks) (WithApplied f (Ranged x w) ls)) u.0 (ranged_applied f e i w ks ls fk u.1 fs us)
applied_agrees f Flag (Ranged g w) ks ls fk u fs us = absurd u
applied_agrees f (Ranged e i) Flag ks ls fk u fs us = absurd u
