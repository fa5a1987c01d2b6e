-- Arguments of functions, one after another.
use Rattle.std.proofs.Common.{◌≡◌, ℕ, zero, suc, ◌+◌, ◌<◌, ◌≤◌, Bool, true, false, ◌&&◌, List, [], ◌∷◌, map, length, take, drop, get_or, ◌-◌, slice_get, Option, Some, None, option_map, refl, sym, ap, ◌∙◌, add-one, arith}
use Rattle.std.specs.Prelude.{option_and_then}
use Rattle.ranges_interval.specs.declared.Interval.{Interval}
use Rattle.il_syntax.specs.declared.tree.Config.{Config}
use Rattle.il_syntax.specs.declared.tree.Unit.{Unit as ProgramUnit}
use Rattle.il_syntax.specs.declared.tree.Scalar.{Scalar}
use Rattle.il_syntax.specs.declared.tree.Form.{Form}
use Rattle.il_syntax.specs.declared.tree.Operand.{Operand}
use Rattle.il_syntax.specs.declared.tree.Reference.{Reference}
use Rattle.il_statics.specs.declared.names.StandardFunction.{StandardFunction}
use Rattle.il_statics.specs.declared.names.StandardFunction.TheVariants.{Absolute, Minimum, Maximum, Limited, Selected, Converted}
use Rattle.il_statics.specs.Names.{named_forms}
use Rattle.base_maps.specs.NameMap.{Text}
use Rattle.il_semantics.specs.Step.{rest_of}
use Rattle.il_semantics.specs.declared.known.Known.{Known}
use Rattle.il_semantics.specs.declared.known.Known.TheVariants.{Flag, Ranged}
use Rattle.il_semantics.specs.Meaning.{denotation}
use Rattle.il_semantics.specs.Annotation.{known_argument_type}
use Rattle.ranges_laws.specs.Facts.{Names, row_at}
use Rattle.ranges_laws.specs.Found.{provided, found_operand, found_applied}
use Rattle.ranges_laws.specs.Steps.{found_arguments, applied_to, fits_form, fits_input, fits_first, fit_inputs, found_result}
use Rattle.ranges_transfer.specs.Meant.{resolved}
use Rattle.ranges_transfer.specs.Standard.{argument_type_of}
use Rattle.load_scope.specs.Units.{scalar_of, AreInputsOf}
use Rattle.ranges_transfer.specs.Scopes.{denoted, all_fit, result_by, own_found}
use Rattle.ranges_transfer.proofs.Resolved.{natural_is}

-- STANDARD FUNCTIONS

pub type_is : (n : Names) (f : StandardFunction) (k : Known) (r : Reference) → argument_type_of f k (resolved n (denoted n r)) ≡ known_argument_type f k (denoted n r)
type_is n Selected k r = natural_is n r
type_is n Absolute (Ranged e i) r = refl
type_is n Absolute Flag r = natural_is n r
type_is n Minimum (Ranged e i) r = refl
type_is n Minimum Flag r = natural_is n r
type_is n Maximum (Ranged e i) r = refl
type_is n Maximum Flag r = natural_is n r
type_is n Limited (Ranged e i) r = refl
type_is n Limited Flag r = natural_is n r
type_is n (Converted from to) (Ranged e i) r = refl
type_is n (Converted from to) Flag r = natural_is n r

arguments_length : (n : Names) (row : List Interval) (c : Config) (u : ProgramUnit) (f : StandardFunction) (k : Known) (os : List Operand) (ks : List Known) → found_arguments n row c u f k os ≡ Some ks → length ks ≡ length os
arguments_length n row c u f k [] [] e = refl
arguments_length n row c u f k [] (x ∷ ks) e = let bad : ◌≡◌ {A = List Known} [] (x ∷ ks) = cc in cc
arguments_length n row c u f k (o ∷ os) ks e = by_first (found_operand (row_at n row) _ (denotation c u o.reference)) (found_arguments n row c u f k os) refl (arguments_length n row c u f k os) e
  where
    by_rest : (x : Known) (p : Option (List Known)) → ((js : List Known) → p ≡ Some js → length js ≡ length os) → option_map (λ js. x ∷ js) p ≡ Some ks → length ks ≡ length (o ∷ os)
    by_rest x None h e = let bad : ◌≡◌ {A = Option (List Known)} None (Some ks) = e in cc
    by_rest x (Some js) h e = let same : x ∷ js ≡ ks = cc in ap length (sym same) ∙ ap suc (h js refl)

    by_first : (q : Option Known) (p : Option (List Known)) → found_arguments n row c u f k os ≡ p → ((js : List Known) → found_arguments n row c u f k os ≡ Some js → length js ≡ length os) → option_and_then (λ x. option_map (λ js. x ∷ js) (found_arguments n row c u f k os)) q ≡ Some ks → length ks ≡ length (o ∷ os)
    by_first None p s h e = let bad : ◌≡◌ {A = Option (List Known)} None (Some ks) = e in cc
    by_first (Some x) p s h e = by_rest x (found_arguments n row c u f k os) h e

too_many : (f : StandardFunction) (k : Known) (ks : List Known) → 3 ≤ length ks → found_applied f k ks ≡ None
too_many f k [] h = absurd (omega arith)
too_many f k (a ∷ []) h = absurd (omega arith)
too_many f k (a ∷ b ∷ []) h = absurd (omega arith)
too_many Absolute Flag (a ∷ b ∷ c ∷ ks) h = refl
too_many Absolute (Ranged e i) (a ∷ b ∷ c ∷ ks) h = refl
too_many Minimum Flag (a ∷ b ∷ c ∷ ks) h = refl
too_many Minimum (Ranged e i) (Flag ∷ b ∷ c ∷ ks) h = refl
too_many Minimum (Ranged e i) (Ranged g j ∷ b ∷ c ∷ ks) h = refl
too_many Maximum Flag (a ∷ b ∷ c ∷ ks) h = refl
too_many Maximum (Ranged e i) (Flag ∷ b ∷ c ∷ ks) h = refl
too_many Maximum (Ranged e i) (Ranged g j ∷ b ∷ c ∷ ks) h = refl
too_many Limited Flag (a ∷ b ∷ c ∷ ks) h = refl
too_many Limited (Ranged e i) (Flag ∷ b ∷ c ∷ ks) h = refl
too_many Limited (Ranged e i) (Ranged g j ∷ Flag ∷ c ∷ ks) h = refl
too_many Limited (Ranged e i) (Ranged g j ∷ Ranged x y ∷ c ∷ ks) h = refl
too_many Selected Flag (a ∷ b ∷ c ∷ ks) h = refl
too_many Selected (Ranged e i) (a ∷ b ∷ c ∷ ks) h = refl
too_many (Converted from to) Flag (a ∷ b ∷ c ∷ ks) h = refl
too_many (Converted from to) (Ranged e i) (a ∷ b ∷ c ∷ ks) h = refl

-- operands that a slice pattern took apart
pub one_operand : (os : List Operand) (a : Operand) → 1 ≤ length os → length os < 2 → a ≡ get_or os 0 a → os ≡ a ∷ []
one_operand [] a h k e = absurd (omega arith)
one_operand (x ∷ []) a h k e = ap (λ y. y ∷ []) (sym e)
one_operand (x ∷ y ∷ os) a h k e = absurd (omega arith)

pub two_operands : (os : List Operand) (a b : Operand) → 2 ≤ length os → length os < 3 → a ≡ get_or os 0 a → b ≡ get_or os 1 b → os ≡ a ∷ b ∷ []
two_operands [] a b h k e f = absurd (omega arith)
two_operands (x ∷ []) a b h k e f = absurd (omega arith)
two_operands (x ∷ y ∷ []) a b h k e f = ap (λ z. z ∷ y ∷ []) (sym e) ∙ ap (λ z. a ∷ z ∷ []) (sym f)
two_operands (x ∷ y ∷ z ∷ os) a b h k e f = absurd (omega arith)

pub applied_some : (n : Names) (row : List Interval) (f : StandardFunction) (first : Option Known) (k : Known) (os us : List Operand) (r : Option Known) → first ≡ Some k → os ≡ us → r ≡ applied_to n row n.config n.unit f us k → r ≡ option_and_then (applied_to n row n.config n.unit f os) first
applied_some n row f first k os us r is same e = e ∙ ap (λ x. applied_to n row n.config n.unit f x k) (sym same) ∙ ap (option_and_then (applied_to n row n.config n.unit f os)) (sym is)

-- no function takes three further arguments
pub applied_many : (n : Names) (row : List Interval) (c : Config) (u : ProgramUnit) (f : StandardFunction) (first : Option Known) (k : Known) (os : List Operand) → first ≡ Some k → 3 ≤ length os → option_and_then (applied_to n row c u f os) first ≡ None
applied_many n row c u f first k os is many = ap (option_and_then (applied_to n row c u f os)) is ∙ by_arguments (found_arguments n row c u f k os) refl
  where
    by_arguments : (p : Option (List Known)) → found_arguments n row c u f k os ≡ p → option_and_then (found_applied f k) p ≡ None
    by_arguments None e = refl
    by_arguments (Some ks) e = too_many f k ks (let long = arguments_length n row c u f k os ks e in omega arith)

-- INPUTS OF OWN FUNCTIONS

same_some : {X : Type 0} (x y : X) → Some x ≡ Some y → x ≡ y
same_some x y e = cc

abbrev pub scalars : List (Text × Form) → List (Option Scalar)
scalars forms = map (λ i. scalar_of (Some i.1)) forms

pub scalars_length : (forms : List (Text × Form)) → length (scalars forms) ≡ length forms
scalars_length [] = refl
scalars_length (e ∷ es) = ap suc (scalars_length es)

module _ (n : Names) (row : List Interval) where
  fit : List (Text × Form) → List Operand → Bool
  fit forms os = fit_inputs n row n.config n.unit forms os

  pub other_length : (forms : List (Text × Form)) (os : List Operand) → (length (scalars forms) ≡ length os → ⊥) → fit_inputs n row n.config n.unit forms os ≡ false
  other_length [] [] h = absurd (h refl)
  other_length [] (o ∷ os) h = refl
  other_length (e ∷ es) [] h = refl
  other_length (e ∷ es) (o ∷ os) h = ap (λ b. fits_input n row (denoted n o.reference) (Some e.1) && b) (other_length es os (λ s. h (ap suc s))) ∙ both (fits_input n row (denoted n o.reference) (Some e.1))
    where
      both : (b : Bool) → (b && false) ≡ false
      both true = refl
      both false = refl

  -- the input of a number, and what is left after it
  pub record Next (forms : List (Text × Form)) (os : List Operand) (i : ℕ) (o : Operand) : Type 0 where
    pub form : Form
    pub is : get_or (scalars forms) i None ≡ scalar_of (Some form)
    pub step : fit_inputs n row n.config n.unit (drop i forms) (drop i os) ≡ (fits_input n row (denoted n o.reference) (Some form) && fit_inputs n row n.config n.unit (drop (suc i) forms) (drop (suc i) os))

  pub next : (forms : List (Text × Form)) (os : List Operand) (i : ℕ) (o : Operand) → length (scalars forms) ≡ length os → i < length os → slice_get os i ≡ Some o → Next forms os i o
  next [] [] i o same low is = absurd (omega arith)
  next [] (x ∷ os) i o same low is = absurd (omega arith)
  next (e ∷ es) [] i o same low is = absurd (omega arith)
  next (e ∷ es) (x ∷ os) zero o same low is = record { form = e.1; is = refl; step = ap (λ (y : Operand). fits_input n row (denoted n y.reference) (Some e.1) && fit_inputs n row n.config n.unit es os) (same_some x o is) }
  next (e ∷ es) (x ∷ os) (suc i) o same low is = let r = next es os i o (omega arith) (omega arith) is in record { form = r.form; is = r.is; step = r.step }

  ended : (forms : List (Text × Form)) (os : List Operand) (i : ℕ) → length (scalars forms) ≡ length os → i ≡ length os → fit_inputs n row n.config n.unit (drop i forms) (drop i os) ≡ true
  ended [] [] zero same e = refl
  ended [] [] (suc i) same e = absurd (omega arith)
  ended [] (x ∷ os) i same e = absurd (omega arith)
  ended (f ∷ es) [] i same e = absurd (omega arith)
  ended (f ∷ es) (x ∷ os) zero same e = absurd (omega arith)
  ended (f ∷ es) (x ∷ os) (suc i) same e = ended es os i (omega arith) (omega arith)

  -- what is left says what all say
  abbrev pub IsLeft : List (Option Scalar) → List Operand → ℕ → Type 0
  IsLeft inputs os i = (length inputs ≡ length os) × ((forms : List (Text × Form)) → inputs ≡ scalars forms → fit_inputs n row n.config n.unit forms os ≡ fit_inputs n row n.config n.unit (drop i forms) (drop i os))

  one : (forms : List (Text × Form)) (inputs : List (Option Scalar)) (os : List Operand) (i : ℕ) (o : Operand) (b : Bool) → inputs ≡ scalars forms → length inputs ≡ length os → i < length os → slice_get os i ≡ Some o
      → ((form : Option Form) → get_or inputs i None ≡ scalar_of form → b ≡ fits_input n row (denoted n o.reference) form)
      → fit_inputs n row n.config n.unit (drop i forms) (drop i os) ≡ (b && fit_inputs n row n.config n.unit (drop (suc i) forms) (drop (suc i) os))
  one forms inputs os i o b same long low at fits =
      let r = next forms os i o (ap length (sym same) ∙ long) low at in
      r.step ∙ ap (λ x. x && fit_inputs n row n.config n.unit (drop (suc i) forms) (drop (suc i) os)) (sym (fits (Some r.form) (ap (λ l. get_or l i None) same ∙ r.is)))

  pub misfit : (inputs : List (Option Scalar)) (os : List Operand) (i : ℕ) (o : Operand) (b : Bool) → IsLeft inputs os i → i < length os → slice_get os i ≡ Some o → ((form : Option Form) → get_or inputs i None ≡ scalar_of form → b ≡ fits_input n row (denoted n o.reference) form) → b ≡ false
      → (forms : List (Text × Form)) → inputs ≡ scalars forms → false ≡ fit_inputs n row n.config n.unit forms os
  misfit inputs os i o b left low at fits is forms same =
      sym (left.1 forms same ∙ one forms inputs os i o b same left.0 low at fits ∙ ap (λ x. x && fit_inputs n row n.config n.unit (drop (suc i) forms) (drop (suc i) os)) is)

  pub fits_on : (inputs : List (Option Scalar)) (os : List Operand) (i : ℕ) (o : Operand) (b : Bool) → IsLeft inputs os i → i < length os → slice_get os i ≡ Some o → ((form : Option Form) → get_or inputs i None ≡ scalar_of form → b ≡ fits_input n row (denoted n o.reference) form) → b ≡ true
      → IsLeft inputs os (i + 1)
  fits_on inputs os i o b left low at fits is = (
    left.0,
    λ forms same.
        left.1 forms same ∙ one forms inputs os i o b same left.0 low at fits ∙ ap (λ x. x && fit_inputs n row n.config n.unit (drop (suc i) forms) (drop (suc i) os)) is
        ∙ ap (λ k. fit_inputs n row n.config n.unit (drop k forms) (drop k os)) (sym (add-one i)),
  )

  pub all_are : (inputs : List (Option Scalar)) (os : List Operand) (i : ℕ) → IsLeft inputs os i → i ≡ length os → (forms : List (Text × Form)) → inputs ≡ scalars forms → true ≡ fit_inputs n row n.config n.unit forms os
  all_are inputs os i left e forms same = sym (left.1 forms same ∙ ended forms os i (ap length (sym same) ∙ left.0) e)

  -- OWN FUNCTIONS

  whole : {X : Type 0} (xs : List X) (k : ℕ) → k ≡ length xs → take k xs ≡ xs
  whole [] zero e = refl
  whole [] (suc k) e = refl
  whole (x ∷ xs) zero e = absurd (omega arith)
  whole (x ∷ xs) (suc k) e = ap (λ ys. x ∷ ys) (whole xs k (omega arith))

  -- the first input and the others
  pub all_then : (inputs : List (Option Scalar)) (os : List Operand) (k : Known) (b r : Bool) → 1 ≤ length inputs → ((form : Option Form) → get_or inputs 0 None ≡ scalar_of form → b ≡ fits_form form k) → b ≡ true
      → ((forms : List (Text × Form)) → take (length inputs - 1) (drop 1 inputs) ≡ scalars forms → r ≡ fit_inputs n row n.config n.unit forms os) → (forms : List (Text × Form)) → inputs ≡ scalars forms → r ≡ all_fit n row forms os k
  all_then inputs os k b r some first is others [] same = absurd (let e = ap length same in omega arith)
  all_then inputs os k b r some first is others (e ∷ es) same =
      let rest : take (length inputs - 1) (drop 1 inputs) ≡ scalars es = ap (λ ts. take (length ts - 1) (drop 1 ts)) same ∙ whole (scalars es) (length (scalars (e ∷ es)) - 1) (omega arith) in
      others es rest ∙ ap (λ t. t && fit_inputs n row n.config n.unit es os) (sym is ∙ first (Some e.1) (ap (λ ts. get_or ts 0 None) same))

  pub all_else : (inputs : List (Option Scalar)) (os : List Operand) (k : Known) (b : Bool) → ((form : Option Form) → get_or inputs 0 None ≡ scalar_of form → b ≡ fits_form form k) → b ≡ false → 1 ≤ length inputs
      → (forms : List (Text × Form)) → inputs ≡ scalars forms → b ≡ all_fit n row forms os k
  all_else inputs os k b first is some [] same = absurd (let e = ap length same in omega arith)
  all_else inputs os k b first is some (e ∷ es) same = is ∙ ap (λ t. t && fit_inputs n row n.config n.unit es os) (sym is ∙ first (Some e.1) (ap (λ ts. get_or ts 0 None) same))

  pub own_none : (own : Option ProgramUnit) (os : List Operand) (first : Option Known) → own ≡ None → None ≡ own_found n row own os first
  own_none own os first e = sym (ap (λ o. own_found n row o os first) e)

  no_first : (own : Option ProgramUnit) (os : List Operand) → own_found n row own os None ≡ None
  no_first None os = refl
  no_first (Some u) os = refl

  pub own_first_none : (own : Option ProgramUnit) (os : List Operand) (first : Option Known) → first ≡ None → None ≡ own_found n row own os first
  own_first_none own os first e = sym (ap (own_found n row own os) e ∙ no_first own os)

  -- two tests, one after the other
  both_tests : (a b : Bool) (o : Option Known) → provided a (provided b o) ≡ provided (a && b) o
  both_tests true b o = refl
  both_tests false b o = refl

  pub own_is : (own : Option ProgramUnit) (inputs : List (Option Scalar)) (os : List Operand) (first : Option Known) (k : Known) (b : Bool) → AreInputsOf own inputs → first ≡ Some k
      → ((forms : List (Text × Form)) → inputs ≡ scalars forms → b ≡ all_fit n row forms os k) → own_found n row own os first ≡ provided b (result_by own)
  own_is own inputs os first k b are is fits =
      ap (λ o. own_found n row o os first) are.is ∙ ap (own_found n row (Some are.unit) os) is
      ∙ both_tests (fits_first (named_forms are.unit.inputs) k) (fit_inputs n row n.config n.unit (rest_of (named_forms are.unit.inputs)) os) (found_result are.unit.kind)
      ∙ ap (λ t. provided t (found_result are.unit.kind)) (sym (fits (named_forms are.unit.inputs) are.each))
      ∙ sym (ap (λ o. provided b (result_by o)) are.is)
