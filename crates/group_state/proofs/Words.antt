-- The words of values, and the lines of variables.
use Rattle.std.proofs.Common.{◌≡◌, inl, inr, ℕ, suc, ◌^◌, ◌<◌, Bool, true, false, List, [], ◌∷◌, ◌++◌, refl, sym, ap, ◌∙◌, subst, append_assoc, arith, Some, None, Option, ℤ, pos, negsuc, ◌-ℤ◌, decimal, to_z, of_z}
use Rattle.std.specs.Prelude.{codes, FitsSigned}
use Rattle.std.specs.Int.{w64}
use Rattle.std.specs.Fmt.{signed_decimal}
use Rattle.std.proofs.lemmas.Int.{ints, to_z_pos, to_z-of_z}
use Rattle.std.proofs.lemmas.Bool.Decides.{Decides-int_eq}
use Rattle.std.proofs.lemmas.Fmt.{signed_decimal_injective, decimal_injective}
use lib.Signed.{mag}
use Rattle.il_syntax.specs.declared.tree.Scalar.{Scalar}
use Rattle.il_syntax.specs.declared.tree.Subrange.{Subrange}
use Rattle.il_syntax.specs.ElementaryTypes.{LiesIn}
use Rattle.il_statics.specs.Declarations.{declared_limits, is_within}
use Rattle.il_semantics_laws.proofs.Going.{within_yes}
use Rattle.il_semantics.specs.Values.{IsValueIn}
use Rattle.il_semantics.specs.declared.value.Value.{Value}
use Rattle.il_semantics.specs.declared.value.Value.TheVariants.{Boolean, Integer}
use Rattle.group_spec.specs.Snapshot.{task_name}
use Rattle.trace_text.specs.Reading.{Without, IsOneLine}
use Rattle.trace_text.proofs.Bytes.{same_first, same_rest}
use Rattle.trace_text.specs.Parts.{AreDigits}
use Rattle.trace_text.proofs.Numbers.{digits_of_decimal}
use Rattle.group_state.specs.declared.fault.StateFault.TheVariants.{BadLine}
use Rattle.group_state.specs.Text.{variable_line, same_truth, same_value, end_line}
use Rattle.group_state.specs.Lines.{IsNext}
use Rattle.group_state.specs.Parts.{owner_prefix, path_by}
use Rattle.group_state.specs.Variables.{IsOfVariable, IsAbsent, SpellsValue, TakesEnd, RefusesEnd}
use Rattle.group_state.proofs.NextLines.{next_once, next_or_none}

-- VALUES

pub same_truth_is : (a b : Bool) → same_truth a b ≡ true → a ≡ b
same_truth_is true true e = refl
same_truth_is true false e = absurd (cc)
same_truth_is false true e = absurd (cc)
same_truth_is false false e = refl

pub same_truth_itself : (a : Bool) → same_truth a a ≡ true
same_truth_itself true = refl
same_truth_itself false = refl

-- the test of two values says whether they are the same
pub same_value_is : (v w : Value) → same_value v w ≡ true → v ≡ w
same_value_is (Boolean a) (Boolean b) e = ap Boolean (same_truth_is a b e)
same_value_is (Boolean a) (Integer z) e = absurd (cc)
same_value_is (Integer y) (Boolean b) e = absurd (cc)
same_value_is (Integer y) (Integer z) e = ap Integer ((Decides-int_eq y z).0 e)

pub same_value_itself : (v : Value) → same_value v v ≡ true
same_value_itself (Boolean a) = same_truth_itself a
same_value_itself (Integer y) = (Decides-int_eq y y).1 refl

some_value : (v w : Value) → ◌≡◌ {A = Option Value} (Some v) (Some w) → v ≡ w
some_value v w e = cc

pub true_false : (b : Bool) → b ≡ true → b ≡ false → ⊥
true_false b t f = absurd (let no : true ≡ false = sym t ∙ f in cc)

-- a value that the test tells from another isn't that
pub not_same : (v w : Value) → same_value v w ≡ false → ◌≡◌ {A = Option Value} (Some v) (Some w) → ⊥
not_same v w e same = true_false (same_value v w) (subst (λ (x : Value). same_value v x ≡ true) (some_value v w same) (same_value_itself v)) e

pub are_same : (v w : Value) → same_value v w ≡ true → ◌≡◌ {A = Option Value} (Some v) (Some w)
are_same v w e = ap Some (same_value_is v w e)

-- PREFIXES

pub cancel : (xs a b : List ℕ) → xs ++ a ≡ xs ++ b → a ≡ b
cancel [] a b e = e
cancel (x ∷ xs) a b e = cancel xs a b (same_rest x x (xs ++ a) (xs ++ b) e)

-- the prefix of an owner and then a path is how the variable goes
pub owner_path : (o : Option ℕ) (path rest : List ℕ) → owner_prefix o ++ (path ++ rest) ≡ path_by o path ++ rest
owner_path None path rest = refl
owner_path (Some t) path rest =
    let name : List ℕ = owner_prefix (Some t) in
    sym (append_assoc name path rest) ∙ ap (λ (l : List ℕ). l ++ rest) (name_path t path)
  where
    name_path : (t : ℕ) (path : List ℕ) → (task_name t ++ codes ".") ++ path ≡ task_name t ++ (codes "." ++ path)
    name_path t path = append_assoc (task_name t) (codes ".") path

-- the line of a variable, part by part
pub of_parts : (o : Option ℕ) (path line a b c word : List ℕ) → line ≡ codes "VAR " ++ a → a ≡ owner_prefix o ++ b → b ≡ path ++ c → c ≡ codes " " ++ word → Without 32 word → IsOfVariable (path_by o path) line word
unfolding variable_line
of_parts o path line a b c word e f g h without =
    let tail : b ≡ path ++ (32 ∷ word) = g ∙ ap (λ (l : List ℕ). path ++ l) h in
    let all : a ≡ path_by o path ++ (32 ∷ word) = f ∙ (ap (λ (l : List ℕ). owner_prefix o ++ l) tail ∙ owner_path o path (32 ∷ word)) in
    record { spelled = e ∙ ap (λ (l : List ℕ). codes "VAR " ++ l) all; one_word = without }

-- and back
module _ (o : Option ℕ) (path line word : List ℕ) (of : IsOfVariable (path_by o path) line word) where
  pub begins_var : line ≡ codes "VAR " ++ (owner_prefix o ++ (path ++ (32 ∷ word)))
  unfolding variable_line
  begins_var = of.spelled ∙ ap (λ (l : List ℕ). codes "VAR " ++ l) (sym (owner_path o path (32 ∷ word)))

  pub behind_var : (a : List ℕ) → line ≡ codes "VAR " ++ a → a ≡ owner_prefix o ++ (path ++ (32 ∷ word))
  behind_var a e = cancel (codes "VAR ") a (owner_prefix o ++ (path ++ (32 ∷ word))) (sym e ∙ begins_var)

  pub behind_owner : (a b : List ℕ) → line ≡ codes "VAR " ++ a → a ≡ owner_prefix o ++ b → b ≡ path ++ (32 ∷ word)
  behind_owner a b e f = cancel (owner_prefix o) b (path ++ (32 ∷ word)) (sym f ∙ behind_var a e)

  pub behind_path : (a b c : List ℕ) → line ≡ codes "VAR " ++ a → a ≡ owner_prefix o ++ b → b ≡ path ++ c → c ≡ 32 ∷ word
  behind_path a b c e f g = cancel path c (32 ∷ word) (sym g ∙ behind_owner a b e f)

-- a line has one word of a variable
pub word_once : (path line word other : List ℕ) → IsOfVariable path line word → IsOfVariable path line other → word ≡ other
unfolding variable_line
word_once path line word other a b = same_rest 32 32 word other (cancel path (32 ∷ word) (32 ∷ other) (cancel (codes "VAR ") (path ++ (32 ∷ word)) (path ++ (32 ∷ other)) (sym a.spelled ∙ b.spelled)))

-- ABSENCE

pub absent_end : (path text : List ℕ) → IsOneLine text → IsAbsent path text
absent_end path text one line rest word next of = next_or_none text line rest next one

pub absent_line : (path text line rest : List ℕ) → IsNext text line rest → ((word : List ℕ) → IsOfVariable path line word → ⊥) → IsAbsent path text
absent_line path text line rest next none other behind word is of =
    none word (subst (λ (l : List ℕ). IsOfVariable path l word) (sym (next_once text line rest other behind next is).0) of)

-- NUMBERS WITH A SIGN

fits_pos : (n : ℕ) → FitsSigned w64 (pos n) → n < 2 ^ 63
fits_pos n h = omega (arith, ints, h)

fits_neg : (n : ℕ) → FitsSigned w64 (negsuc n) → n < 2 ^ 63
fits_neg n h = omega (arith, ints, h)

pub mag_fits : (z : ℤ) → FitsSigned w64 z → mag z < 2 ^ 63
mag_fits (pos n) h = fits_pos n h
mag_fits (negsuc n) h = fits_neg n h

-- no decimal begins with a sign
signless : (ds rest : List ℕ) → AreDigits ds → ds ≡ 45 ∷ rest → ⊥
signless [] rest h e = absurd (cc)
signless (d ∷ ds) rest h e = let first = same_first d 45 ds rest e in omega (arith, first, h.0)

-- a word with a sign is that of a number below 0
pub below_zero : (word digits : List ℕ) → word ≡ codes "-" ++ digits → ((n : ℕ) → n < 2 ^ 63 → digits ≡ decimal (suc n) → ⊥) → (z : ℤ) → FitsSigned w64 z → word ≡ signed_decimal z → ⊥
below_zero word digits e none (pos n) fits is = let small = fits_pos n fits in signless (decimal n) digits (digits_of_decimal n (omega (arith, small))) (sym is ∙ e)
below_zero word digits e none (negsuc n) fits is = none n (fits_neg n fits) (same_rest 45 45 digits (decimal (suc n)) (sym e ∙ is))

-- a number outside the limits is no value
pub not_within :
    (scalar : Scalar) (limits : Subrange) (number : ℤ) (word : List ℕ) → declared_limits scalar ≡ Some limits → FitsSigned w64 number → word ≡ signed_decimal number → is_within limits number ≡ false
    → (value : Value) → SpellsValue scalar value word → ⊥
not_within scalar limits number word is fits e out (Boolean b) s = subst (λ o. IsValueIn o (Boolean b)) is s.declared
not_within scalar limits number word is fits e out (Integer z) s =
    let same : number ≡ z = signed_decimal_injective number z (mag_fits number fits) (mag_fits z s.narrow) (sym e ∙ s.spelled) in
    let inside : LiesIn (Some limits) z = subst (λ o. IsValueIn o (Integer z)) is s.declared in
    true_false (is_within limits number) (subst (λ (y : ℤ). is_within limits y ≡ true) (sym same) (within_yes limits z inside.0 inside.1)) out

-- LEFT OVER

-- THE END

-- the last line, and what follows it
pub end_taken : (text line rest : List ℕ) → IsNext text line rest → line ≡ end_line → TakesEnd text rest
end_taken text line rest next is = next.whole ∙ ap (λ (l : List ℕ). l ++ (10 ∷ rest)) is

-- another line
pub end_refused :
    (text line rest : List ℕ) → IsNext text line rest → (line ≡ end_line → ⊥) → ((behind : List ℕ) → line ≡ codes "VAR " ++ behind → ⊥) → RefusesEnd text BadLine
end_refused text line rest next no_end no_variable = inr (inl (refl, record { line = line; rest = rest; next = next; no_end = no_end; no_variable = no_variable }))

-- 0 is no number after a sign
pub not_zero : (number : ℕ) (digits : List ℕ) → number ≡ 0 → digits ≡ decimal number → (n : ℕ) → n < 2 ^ 63 → digits ≡ decimal (suc n) → ⊥
not_zero number digits is e n small f =
    let same : 0 ≡ suc n = decimal_injective 0 (suc n) (omega arith) (omega (arith, small)) (ap decimal (sym is) ∙ (sym e ∙ f)) in
    omega (arith, same)

-- a number below 0, by one less than its size
pub minus : (m : ℕ) → m < 2 ^ 63 → to_z w64 (of_z w64 (negsuc 0 -ℤ to_z w64 m)) ≡ negsuc m
minus m h =
    let cast : to_z w64 m ≡ pos m = to_z_pos w64 m (omega (arith, h)) in
    let value : negsuc 0 -ℤ to_z w64 m ≡ negsuc m = ap (λ z. negsuc 0 -ℤ z) cast ∙ omega (arith, ints) in
    let fits : FitsSigned w64 (negsuc m) = record { sfits = omega (arith, h) } in
    ap (λ z. to_z w64 (of_z w64 z)) value ∙ to_z-of_z w64 (negsuc m) fits
