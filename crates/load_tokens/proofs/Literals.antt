-- Typed literals, by their words.
use Rattle.std.proofs.Common.{◌≡◌, ℕ, ℤ, pos, ◌+◌, ◌<◌, ◌≤◌, Bool, true, false, List, arith, ap, sym, subst, ◌∙◌, Some, None}
use Rattle.std.specs.Prelude.{option_map, nat_abs, slice_range, IsTrue}
use Rattle.std.proofs.lemmas.Int.{ints}
use mir.Val.{to_z, of_z}
use mir.Syntax.{w64}
use Rattle.il_syntax.specs.declared.tree.Elementary.{Elementary}
use Rattle.il_syntax.specs.declared.tree.Elementary.TheVariants.{Bool as Boolean, Sint, Int, Dint, Usint, Uint, Udint, Time as Duration}
use Rattle.il_syntax.specs.declared.tree.Literal.{Literal}
use Rattle.il_syntax.specs.declared.tree.Literal.TheVariants.{Truth, Bare, Whole, Time}
use Rattle.il_syntax.specs.declared.token.Kind.TheVariants.{Typed}
use Rattle.il_syntax.specs.ElementaryTypes.{IsValueOf}
use Rattle.il_syntax.specs.Text.{is_word_byte, is_literal_byte, run_end, after_minus, number_value, duration_value, entry_of, whole_type_words, duration_words, upper_case, IsTyped, IsLexeme}
use Rattle.load_tokens.proofs.Lexemes.{no_type}

-- a value of a type is no number that is too large
pub value_small : (e : Elementary) (v : ℤ) → IsValueOf e v → 4294967295 < nat_abs v → ⊥
value_small Boolean v h large = h
value_small Sint v h large = omega (arith, ints)
value_small Int v h large = omega (arith, ints)
value_small Dint v h large = omega (arith, ints)
value_small Usint v h large = omega (arith, ints)
value_small Uint v h large = omega (arith, ints)
value_small Udint v h large = omega (arith, ints)
value_small Duration v h large = omega (arith, ints)

-- a value of TIME fits its bits
pub kept : (v : ℤ) → IsValueOf Duration v → to_z w64 (of_z w64 v) ≡ v
kept v h = omega (arith, ints)

-- a number as code has it
narrow : (v : ℤ) → nat_abs v ≤ 4294967295 → to_z w64 (of_z w64 v) ≡ v
narrow v h = omega (arith, ints)

-- a number that code finds to be no value of a type is none
pub fitting : (e : Elementary) (bytes : List ℕ) (v w : ℤ) → number_value bytes ≡ Some v → nat_abs v ≤ 4294967295
    → (r : Bool) → (IsValueOf e (to_z w64 (of_z w64 v)) → IsTrue r) → r ≡ false → number_value bytes ≡ Some w → IsValueOf e w → ⊥
fitting e bytes v w found small r test fails is good =
    let same : Some w ≡ Some v = sym is ∙ found in
    let wv : w ≡ v = cc in
    let yes : r ≡ true = test (subst (IsValueOf e) (wv ∙ sym (narrow v small)) good) in
    cc

-- a word of an integer type whose number is no value of it writes nothing
pub no_whole_literal : (word bytes : List ℕ) (e : Elementary) → entry_of whole_type_words word ≡ Some e → ((v : ℤ) → number_value bytes ≡ Some v → IsValueOf e v → ⊥)
    → (l : Literal) → IsTyped word bytes l → ⊥
no_whole_literal word bytes e is none (Whole f v) h =
    let same : Some f ≡ Some e = sym h.0 ∙ is in
    let fe : f ≡ e = cc in
    none v h.1 (subst (λ x. IsValueOf x v) fe h.2)
no_whole_literal word bytes e is none (Time v) h = let bad : Some e ≡ None = sym is ∙ no_type word h.0 in cc
no_whole_literal word bytes e is none (Truth v) h = h
no_whole_literal word bytes e is none (Bare v) h = h

-- a word of a duration whose bytes are none writes nothing
pub no_duration : (word bytes : List ℕ) → entry_of duration_words word ≡ Some Duration
    → ((v : ℤ) → option_map pos (duration_value bytes) ≡ Some v → IsValueOf Duration v → ⊥) → (l : Literal) → IsTyped word bytes l → ⊥
no_duration word bytes begins none (Whole f v) h = let bad : Some f ≡ None = sym h.0 ∙ no_type word begins in cc
no_duration word bytes begins none (Time v) h = none v h.1 h.2
no_duration word bytes begins none (Truth v) h = h
no_duration word bytes begins none (Bare v) h = h

-- where no typed literal can be read, none is
pub no_typed_lexeme : (text : List ℕ) (i k j : ℕ) → k ≡ run_end is_word_byte text i → j ≡ run_end is_literal_byte text (after_minus text (k + 1))
    → ((l : Literal) → IsTyped (upper_case (slice_range text i k)) (slice_range text (k + 1) j) l → ⊥) → (l : Literal) (m : ℕ) → IsLexeme text (Typed l) i m → ⊥
no_typed_lexeme text i k j run end none l m h =
    let same : h.0 ≡ k = h.2 ∙ sym run in
    let ends : m ≡ j = h.4 ∙ ap (λ x. run_end is_literal_byte text (after_minus text (x + 1))) same ∙ sym end in
    let word : upper_case (slice_range text i h.0) ≡ upper_case (slice_range text i k) = ap (λ x. upper_case (slice_range text i x)) same in
    let bytes : slice_range text (h.0 + 1) m ≡ slice_range text (k + 1) j = ap (λ x. slice_range text (x + 1) m) same ∙ ap (slice_range text (k + 1)) ends in
    none l (subst (λ b. IsTyped (upper_case (slice_range text i k)) b l) bytes (subst (λ w. IsTyped w (slice_range text (h.0 + 1) m) l) word h.5))
