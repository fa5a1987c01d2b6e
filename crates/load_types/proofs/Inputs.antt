-- What operands break as the inputs of an own function.
use Rattle.std.proofs.Common.{◌≡◌, ℕ, zero, suc, ◌+◌, ◌-◌, ◌≤◌, List, [], ◌∷◌, ◌++◌, map, length, take, drop, get_or, Option, Some, None, slice_get, refl, sym, ap, ◌∙◌, append-nil, append_assoc, add-one, arith}
use Rattle.std.specs.Prelude.{nat_eq}
use Rattle.il_syntax.specs.declared.tree.Config.{Config}
use Rattle.il_syntax.specs.declared.tree.Unit.{Unit as ProgramUnit}
use Rattle.il_syntax.specs.declared.tree.Form.{Form}
use Rattle.il_syntax.specs.declared.tree.Form.TheVariants.{Scalar as OfScalar, Array as OfArray, Block as OfBlock}
use Rattle.il_syntax.specs.declared.tree.Elementary.{Elementary}
use Rattle.il_syntax.specs.declared.tree.Scalar.{Scalar}
use Rattle.il_syntax.specs.declared.tree.Operand.{Operand}
use Rattle.il_statics.specs.Names.{Spelling}
use Rattle.il_statics.specs.Declarations.{unless}
use Rattle.il_statics.specs.Types.{scalar_type, maybe_wanted_numbers, agreement_numbers, input_numbers, own_function_numbers}
use Rattle.il_statics.specs.Lowest.{lowest, lower_of}
use Rattle.il_statics.proofs.Lowest.{lowest_append}
use Rattle.load_scope.specs.Units.{scalar_of}
use Rattle.load_types.specs.Types.{elementary_of}

abbrev pub scalars_of : List (Spelling × Form) → List (Option Scalar)
scalars_of inputs = map (λ i. scalar_of (Some i.1)) inputs

-- the type of a form
form_is : (form : Form) → elementary_of (scalar_of (Some form)) ≡ scalar_type form
form_is (OfScalar scalar) = refl
form_is (OfArray bounds element) = refl
form_is (OfBlock name) = refl

same_some : {A : Type 0} (a b : A) → Some a ≡ Some b → a ≡ b
same_some a b e = cc

module _ (config : Config) (unit : ProgramUnit) where
  -- one input and operand more
  inputs_next : (inputs : List (Spelling × Form)) (operands : List Operand) (i : ℕ) (t : Option Scalar) (o : Operand) → slice_get (scalars_of inputs) i ≡ Some t → slice_get operands i ≡ Some o
      → input_numbers config unit inputs (take (suc i) operands) ≡ input_numbers config unit inputs (take i operands) ++ maybe_wanted_numbers config unit o.reference (elementary_of t)
  inputs_next [] operands i t o e f = absurd (let bad : ◌≡◌ {A = Option (Option Scalar)} None (Some t) = e in cc)
  inputs_next (x ∷ inputs) [] i t o e f = absurd (let bad : None ≡ Some o = f in cc)
  inputs_next (x ∷ inputs) (y ∷ operands) zero t o e f =
      ap (λ l. maybe_wanted_numbers config unit y.reference (scalar_type x.1) ++ l) (none_left inputs)
      ∙ append-nil (maybe_wanted_numbers config unit y.reference (scalar_type x.1)) ∙ ap (λ p. maybe_wanted_numbers config unit p.reference (scalar_type x.1)) (same_some y o f) ∙ ap (λ s. maybe_wanted_numbers config unit o.reference s) (sym (form_is x.1) ∙ ap elementary_of (same_some (scalar_of (Some x.1)) t e))
    where
      none_left : (inputs : List (Spelling × Form)) → input_numbers config unit inputs [] ≡ []
      none_left [] = refl
      none_left (i ∷ inputs) = refl
  inputs_next (x ∷ inputs) (y ∷ operands) (suc i) t o e f =
      ap (λ l. maybe_wanted_numbers config unit y.reference (scalar_type x.1) ++ l) (inputs_next inputs operands i t o e f)
      ∙ sym (append_assoc (maybe_wanted_numbers config unit y.reference (scalar_type x.1)) (input_numbers config unit inputs (take i operands)) (maybe_wanted_numbers config unit o.reference (elementary_of t)))

  -- an operand that no input takes
  inputs_past : (inputs : List (Spelling × Form)) (operands : List Operand) (i : ℕ) → length (scalars_of inputs) ≤ i → input_numbers config unit inputs (take (suc i) operands) ≡ input_numbers config unit inputs (take i operands)
  inputs_past [] operands i low = refl
  inputs_past (x ∷ inputs) operands zero low = absurd (omega arith)
  inputs_past (x ∷ inputs) [] (suc i) low = refl
  inputs_past (x ∷ inputs) (y ∷ operands) (suc i) low = ap (λ l. maybe_wanted_numbers config unit y.reference (scalar_type x.1) ++ l) (inputs_past inputs operands i (omega arith))

  pub none_yet : (inputs : List (Spelling × Form)) (operands : List Operand) → input_numbers config unit inputs (take 0 operands) ≡ []
  none_yet [] operands = refl
  none_yet (x ∷ inputs) operands = refl

  pub one_more : (scalars : List (Option Scalar)) (operands : List Operand) (i : ℕ) (t : Option Scalar) (wanted : Option Elementary) (o : Operand) (number one r : Option ℕ) → slice_get scalars i ≡ Some t → slice_get operands i ≡ Some o
      → wanted ≡ elementary_of t → one ≡ lowest (maybe_wanted_numbers config unit o.reference wanted) → r ≡ lower_of number one
      → ((inputs : List (Spelling × Form)) → scalars ≡ scalars_of inputs → number ≡ lowest (input_numbers config unit inputs (take i operands)))
      → (inputs : List (Spelling × Form)) → scalars ≡ scalars_of inputs → r ≡ lowest (input_numbers config unit inputs (take (i + 1) operands))
  one_more scalars operands i t wanted o number one r ti oi wants here is before inputs same =
      is ∙ ap (λ n. lower_of n one) (before inputs same) ∙ ap (lower_of (lowest (input_numbers config unit inputs (take i operands)))) (here ∙ ap (λ w. lowest (maybe_wanted_numbers config unit o.reference w)) wants)
      ∙ sym (lowest_append (input_numbers config unit inputs (take i operands)) (maybe_wanted_numbers config unit o.reference (elementary_of t)))
      ∙ ap lowest (sym (inputs_next inputs operands i t o (ap (λ l. slice_get l i) (sym same) ∙ ti) oi))
      ∙ ap (λ k. lowest (input_numbers config unit inputs (take k operands))) (sym (add-one i))

  pub one_past : (scalars : List (Option Scalar)) (operands : List Operand) (i : ℕ) (number : Option ℕ) → length scalars ≤ i
      → ((inputs : List (Spelling × Form)) → scalars ≡ scalars_of inputs → number ≡ lowest (input_numbers config unit inputs (take i operands)))
      → (inputs : List (Spelling × Form)) → scalars ≡ scalars_of inputs → number ≡ lowest (input_numbers config unit inputs (take (i + 1) operands))
  one_past scalars operands i number past before inputs same =
      let long = ap length same in
      before inputs same ∙ ap lowest (sym (inputs_past inputs operands i (omega arith))) ∙ ap (λ k. lowest (input_numbers config unit inputs (take k operands))) (sym (add-one i))

  -- the count and the first input
  pub own_more : (scalars : List (Option Scalar)) (operands : List Operand) (before wanted : Option Elementary) (a u both n r : Option ℕ) → 1 ≤ length scalars
      → wanted ≡ elementary_of (get_or scalars 0 None) → a ≡ lowest (agreement_numbers wanted before) → u ≡ lowest (unless (nat_eq (length operands) (length (take (length scalars - 1) (drop 1 scalars)))) 37) → both ≡ lower_of a u
      → ((inputs : List (Spelling × Form)) → take (length scalars - 1) (drop 1 scalars) ≡ scalars_of inputs → n ≡ lowest (input_numbers config unit inputs operands)) → r ≡ lower_of both n
      → (inputs : List (Spelling × Form)) → scalars ≡ scalars_of inputs → r ≡ lowest (own_function_numbers config unit inputs operands before)
  own_more scalars operands before wanted a u both n r some wants first counted joined others is [] same = absurd (let e = ap length same in omega arith)
  own_more scalars operands before wanted a u both n r some wants first counted joined others is (x ∷ inputs) same =
      let rest : take (length scalars - 1) (drop 1 scalars) ≡ scalars_of inputs = ap (λ ts. take (length ts - 1) (drop 1 ts)) same ∙ whole (scalars_of inputs) (length (scalars_of (x ∷ inputs)) - 1) (omega arith) in
      let count : length (take (length scalars - 1) (drop 1 scalars)) ≡ length inputs = ap length rest ∙ as_long inputs in
      let first_is : a ≡ lowest (agreement_numbers (scalar_type x.1) before) = first ∙ ap (λ w. lowest (agreement_numbers w before)) (wants ∙ ap (λ ts. elementary_of (get_or ts 0 None)) same ∙ form_is x.1) in
      let counted_is : u ≡ lowest (unless (nat_eq (length operands) (length inputs)) 37) = counted ∙ ap (λ k. lowest (unless (nat_eq (length operands) k) 37)) count in
      is ∙ ap (λ b. lower_of b n) (joined ∙ ap (λ o. lower_of o u) first_is ∙ ap (lower_of (lowest (agreement_numbers (scalar_type x.1) before))) counted_is ∙ sym (lowest_append (agreement_numbers (scalar_type x.1) before) (unless (nat_eq (length operands) (length inputs)) 37)))
      ∙ ap (lower_of (lowest (agreement_numbers (scalar_type x.1) before ++ unless (nat_eq (length operands) (length inputs)) 37))) (others inputs rest)
      ∙ sym (lowest_append (agreement_numbers (scalar_type x.1) before ++ unless (nat_eq (length operands) (length inputs)) 37) (input_numbers config unit inputs operands))
    where
      whole : (ts : List (Option Scalar)) (k : ℕ) → k ≡ length ts → take k ts ≡ ts
      whole [] zero e = refl
      whole [] (suc k) e = refl
      whole (t ∷ ts) zero e = absurd (omega arith)
      whole (t ∷ ts) (suc k) e = ap (λ l. t ∷ l) (whole ts k (omega arith))

      as_long : (inputs : List (Spelling × Form)) → length (scalars_of inputs) ≡ length inputs
      as_long [] = refl
      as_long (i ∷ inputs) = ap suc (as_long inputs)
