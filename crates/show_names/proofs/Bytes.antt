-- Texts that are equal, by their bytes.
use Rattle.std.proofs.Common.{◌≡◌, ℕ, Bool, true, false, List, refl, sym, ap, ◌∙◌}
use Rattle.std.specs.Prelude.{bytes_eq}
use Rattle.std.proofs.lemmas.Slice.Eq.{bytes_eq-Decides}

pub same_bytes : (a b : List ℕ) → bytes_eq a b ≡ true → a ≡ b
same_bytes a b h = (bytes_eq-Decides a b).0 h

pub bytes_same : (a : List ℕ) → bytes_eq a a ≡ true
bytes_same a = (bytes_eq-Decides a a).1 refl

pub bytes_swap : (a b : List ℕ) → bytes_eq a b ≡ bytes_eq b a
bytes_swap a b = go (bytes_eq a b) (bytes_eq b a) refl refl
  where
    go : (r t : Bool) → bytes_eq a b ≡ r → bytes_eq b a ≡ t → r ≡ t
    go true true e f = refl
    go true false e f = sym (sym f ∙ ap (bytes_eq b) (same_bytes a b e) ∙ bytes_same b)
    go false true e f = sym e ∙ ap (bytes_eq a) (same_bytes b a f) ∙ bytes_same a
    go false false e f = refl
