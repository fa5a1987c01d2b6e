-- Pieces of text, one after the other.
use Rattle.std.proofs.Common.{◌≡◌, ℕ, List, ◌++◌, ap, ◌∙◌, subst}
use Rattle.std.specs.Prelude.{Result, Ok, Err, OnOk, IfOk, Option, Some, None, IfSome}
use Rattle.std.proofs.lemmas.List.{append_assoc}

-- two pieces
pub join : (old a m n b : List ℕ) → m ≡ old ++ a → n ≡ m ++ b → n ≡ old ++ (a ++ b)
join old a m n b first second = second ∙ ap (λ l. l ++ b) first ∙ append_assoc old a b

-- three at once, and one more
pub join_three : (old a b c m n r : List ℕ) → m ≡ old ++ (a ++ (b ++ c)) → n ≡ m ++ r → n ≡ old ++ (a ++ (b ++ (c ++ r)))
join_three old a b c m n r three last = join old (a ++ (b ++ c)) m n r three last ∙ ap (λ l. old ++ l) (append_assoc a (b ++ c) r ∙ ap (λ l. a ++ l) (append_assoc b c r))

-- what follows where there is a value
pub on_ok : {X E : Type 0} (r : Result X E) (P Q : Type 0) → (P → Q) → OnOk r P → OnOk r Q
on_ok (Ok x) P Q f p = f p
on_ok (Err e) P Q f p = tt

pub if_ok : {X E : Type 0} (r : Result X E) (P Q : X → Type 0) → ((x : X) → P x → Q x) → IfOk r P → IfOk r Q
if_ok (Ok x) P Q f p = f x p
if_ok (Err e) P Q f p = tt

pub of_some : {X : Type 0} (o : Option X) (P : X → Type 0) (x : X) → o ≡ Some x → IfSome o P → P x
of_some {X = X} None P x e p = let bad : None ≡ Some x = e in cc
of_some {X = X} (Some y) P x e p = let same : Some y ≡ Some x = e in taken y x (some_same y x same) p
  where
    some_same : (a b : X) → Some a ≡ Some b → a ≡ b
    some_same a b h = cc

    taken : (a b : X) → a ≡ b → P a → P b
    taken a b h q = subst P h q
