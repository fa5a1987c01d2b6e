-- The outputs of standard blocks have ranges that operations take.
use Rattle.std.proofs.Common.{◌≡◌, List, [], ◌∷◌, Bool, true, false, Some, None, subst, option_map}
use Rattle.std.specs.Prelude.{find, bytes_eq, if◌then◌else◌}
use Rattle.std.proofs.lemmas.Int.{ints}
use Rattle.std.proofs.Common.{arith}
use Rattle.il_syntax.specs.declared.tree.Form.{Form}
use Rattle.il_syntax.specs.declared.tree.Form.TheVariants.{Scalar as ScalarForm}
use Rattle.il_syntax.specs.declared.tree.Scalar.{Scalar}
use Rattle.il_syntax.specs.declared.tree.Elementary.{Elementary}
use Rattle.il_syntax.specs.declared.tree.Elementary.TheVariants.{Bool as Boolean, Sint, Int, Dint, Usint, Uint, Udint, Time}
use Rattle.il_syntax.specs.ElementaryTypes.{plain}
use Rattle.il_statics.specs.declared.names.StandardBlock.{StandardBlock}
use Rattle.il_statics.specs.Names.{Spelling, entry_of, standard_words, with_forms, standard_outputs}
use Rattle.il_semantics.specs.Annotation.{declared_known}
use Rattle.ranges_laws.specs.Facts.{IsFineKnown}
use Rattle.ranges_laws.proofs.Tests.{type_operand}

-- forms of scalars with such ranges
abbrev pub AreFineForms : List (Spelling × Form) → Type 0
AreFineForms [] = Unit {0}
AreFineForms (e ∷ es) = ((s : Scalar) → e.1 ≡ ScalarForm s → IsFineKnown (declared_known s)) × AreFineForms es

-- the entry of a name among them
pub fine_entry_of : (es : List (Spelling × Form)) (word : Spelling) (s : Scalar) → AreFineForms es → entry_of es word ≡ Some (ScalarForm s) → IsFineKnown (declared_known s)
fine_entry_of [] word s f e = absurd (let bad : None ≡ Some (ScalarForm s) = e in cc)
fine_entry_of (x ∷ es) word s f e = by_test (fine_entry_of es word s f.1) (bytes_eq x.0 word) e
  where
    by_test : (entry_of es word ≡ Some (ScalarForm s) → IsFineKnown (declared_known s)) → (b : Bool) → option_map (λ (y : Spelling × Form). y.1) (if b then Some x else find (λ y. bytes_eq y.0 word) es) ≡ Some (ScalarForm s) → IsFineKnown (declared_known s)
    by_test more true e = f.0 s (let same : Some x.1 ≡ Some (ScalarForm s) = e in cc)
    by_test more false e = more e

-- a type without a subrange
pub plain_fine : (e : Elementary) → IsFineKnown (declared_known (plain e))
plain_fine Boolean = tt
plain_fine Sint = type_operand Sint _ (omega (arith, ints)) (omega (arith, ints), omega (arith, ints))
plain_fine Int = type_operand Int _ (omega (arith, ints)) (omega (arith, ints), omega (arith, ints))
plain_fine Dint = type_operand Dint _ (omega (arith, ints)) (omega (arith, ints), omega (arith, ints))
plain_fine Usint = type_operand Usint _ (omega (arith, ints)) (omega (arith, ints), omega (arith, ints))
plain_fine Uint = type_operand Uint _ (omega (arith, ints)) (omega (arith, ints), omega (arith, ints))
plain_fine Udint = type_operand Udint _ (omega (arith, ints)) (omega (arith, ints), omega (arith, ints))
plain_fine Time = type_operand Time _ (omega (arith, ints)) (omega (arith, ints), omega (arith, ints))

-- words of standard blocks
words_fine : (ws : List (Spelling × Elementary)) → AreFineForms (with_forms ws)
words_fine [] = tt
words_fine (w ∷ ws) = ((λ s e. let same : plain w.1 ≡ s = cc in subst (λ t. IsFineKnown (declared_known t)) same (plain_fine w.1)), words_fine ws)

pub standard_outputs_fine : (b : StandardBlock) → AreFineForms (standard_outputs b)
standard_outputs_fine b = words_fine (standard_words b).outputs
