-- No two units have one name.
use Rattle.std.proofs.Common.{◌≡◌, ℕ, zero, suc, ◌<◌, inl, inr, List, [], ◌∷◌, ◌++◌, slice_get, Some, None, refl, sym, ap, ◌∙◌, arith}
use Rattle.std.proofs.lemmas.Bool.{cases_lt}
use Rattle.il_syntax.specs.declared.tree.Config.{Config}
use Rattle.il_syntax.specs.declared.tree.Unit.{Unit as ProgramUnit}
use Rattle.il_statics.specs.Names.{Spelling}
use Rattle.il_statics.specs.Declarations.{IsAgain, second_unit}
use Rattle.il_statics.specs.Faults.{HasNoFault, BreaksDeclarations, duplicate}
use Rattle.load_declarations.proofs.Members.{in_rest}
use Rattle.load_order.proofs.Tabled.{some_same}

split : {A : Type 0} (xs : List A) (j : ℕ) (b : A) → slice_get xs j ≡ Some b → (before : List A) × (after : List A) × (xs ≡ before ++ b ∷ after)
split [] j b e = let bad : None ≡ Some b = e in cc
split (x ∷ xs) zero b e = ([], xs, ap (λ y. y ∷ xs) (some_same x b e))
split (x ∷ xs) (suc j) b e = let r = split xs j b e in (x ∷ r.0, r.1, ap (λ ys. x ∷ ys) r.2)

again : {A : Type 0} (name : A → Spelling) (xs : List A) (i j : ℕ) (a b : A) → i < j → slice_get xs i ≡ Some a → slice_get xs j ≡ Some b → name a ≡ name b → IsAgain name xs b
again name [] i j a b low e f same = let bad : None ≡ Some a = e in cc
again name (x ∷ xs) i zero a b low e f same = absurd (omega (arith, low))
again name (x ∷ xs) zero (suc j) a b low e f same = let r = split xs j b f in (x ∷ r.0, r.1, ap (λ ys. x ∷ ys) r.2, (0, omega arith, ap name (some_same x a e) ∙ same))
again name (x ∷ xs) (suc i) (suc j) a b low e f same = let r = again name xs i j a b (omega (arith, low)) e f same in (x ∷ r.0, r.1, ap (λ ys. x ∷ ys) r.2, in_rest _ _ _ r.3)

-- units of one name are one (20)
abbrev pub AreDistinct : Config → Type 0
AreDistinct c = (i j : ℕ) (a b : ProgramUnit) → slice_get c.units i ≡ Some a → slice_get c.units j ≡ Some b → a.name.name ≡ b.name.name → i ≡ j

pub distinct : (c : Config) → HasNoFault (BreaksDeclarations c) → AreDistinct c
distinct c declared i j a b e f same = elim (cases_lt i j) [
  | inl l ↦ absurd (twice i j a b l e f same)
  | inr h ↦ elim (cases_lt j i) [ inl l ↦ absurd (twice j i b a l f e (sym same)) | inr g ↦ omega (arith, g, h) ]
]
  where
    twice : (i j : ℕ) (a b : ProgramUnit) → i < j → slice_get c.units i ≡ Some a → slice_get c.units j ≡ Some b → a.name.name ≡ b.name.name → ⊥
    twice i j a b l e f same = declared 20 b.place (duplicate refl (second_unit b (again (λ (u : ProgramUnit). u.name.name) c.units i j a b l e f same) refl))
