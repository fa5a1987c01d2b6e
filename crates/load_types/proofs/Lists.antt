-- The lowest number of the parts of a list.
use Rattle.std.proofs.Common.{◌≡◌, ℕ, zero, suc, ◌+◌, ◌<◌, List, [], ◌∷◌, ◌++◌, length, take, get_or, Option, Some, None, slice_get, refl, sym, ap, ◌∙◌, append-nil, append_assoc, add-one}
use Rattle.std.specs.Prelude.{flat_map}
use Rattle.std.proofs.lemmas.Option.{slice_get_read}
use Rattle.il_statics.specs.Lowest.{lowest, lower_of}
use Rattle.il_statics.proofs.Lowest.{lowest_append}

flat_next : {A : Type 0} (f : A → List ℕ) (xs : List A) (i : ℕ) (x : A) → slice_get xs i ≡ Some x → flat_map f (take (suc i) xs) ≡ flat_map f (take i xs) ++ f x
flat_next f [] i x e = absurd (let bad : None ≡ Some x = e in cc)
flat_next {A = A} f (y ∷ xs) zero x e = append-nil (f y) ∙ ap f (same y x e)
  where
    same : (a b : A) → Some a ≡ Some b → a ≡ b
    same a b e = cc
flat_next f (y ∷ xs) (suc i) x e = ap (λ l. f y ++ l) (flat_next f xs i x e) ∙ sym (append_assoc (f y) (flat_map f (take i xs)) (f x))

pub lowest_next : {A : Type 0} (f : A → List ℕ) (xs : List A) (i : ℕ) (x : A) (number one r : Option ℕ) → i < length xs → x ≡ get_or xs i x → number ≡ lowest (flat_map f (take i xs)) → one ≡ lowest (f x) → r ≡ lower_of number one → r ≡ lowest (flat_map f (take (i + 1) xs))
lowest_next f xs i x number one r low there before here is =
    is ∙ ap (λ o. lower_of o one) before ∙ ap (lower_of (lowest (flat_map f (take i xs)))) here ∙ sym (lowest_append (flat_map f (take i xs)) (f x))
    ∙ ap lowest (sym (flat_next f xs i x (slice_get_read xs (length xs) i x refl low there))) ∙ ap (λ k. lowest (flat_map f (take k xs))) (sym (add-one i))
