-- Rules that are put together from rules that spell one thing spell one thing.
use Rattle.std.proofs.Common.{◌≡◌, List, [], ◌∷◌, refl, sym, ◌∙◌, subst}
use Rattle.il_syntax.specs.declared.token.Token.{Token}
use Rattle.il_syntax.specs.declared.token.Sign.TheVariants.{Comma}
use Rattle.il_syntax.specs.declared.token.Kind.TheVariants as kind
use Rattle.il_syntax.specs.declared.tree.Place.{Place}
use Rattle.il_syntax.proofs.Places.{place_is}
use Rattle.il_syntax.specs.Grammar.{Front, Gap, skip_line_ends, ◌⟨◌⟩◌, AfterLines, No, One, At, Repeats, TheSign, Listed}
use Rattle.il_syntax_laws.specs.One.{IsDeterministic, IsSure, AreApart}

-- one thing after another
pub chain : {A B : Type 0} {P : A → Front} {Q : B → Front} (gap : Gap) → IsDeterministic P → IsDeterministic Q
    → IsDeterministic (λ (x : A × B). P x.0 ⟨ gap ⟩ Q x.1)
chain {P = P} {Q = Q} gap one two = record {
  only = λ x y ts r s p q.
      let first = one.only x.0 y.0 ts p.0 q.0 p.1 q.1 in
      let second = two.only x.1 y.1 (gap q.0) r s (subst (λ m. Q x.1 (gap m) r) first.1 p.2) q.2 in
      (λ i. (first.0 i, second.0 i), second.1);
}

-- a thing after a part without a value
pub behind : {B : Type 0} {F : Front} {Q : B → Front} (gap : Gap) → IsSure F → IsDeterministic Q → IsDeterministic (λ (x : B). F ⟨ gap ⟩ Q x)
behind {Q = Q} gap one two = record {
  only = λ x y ts r s p q. two.only x y (gap q.0) r s (subst (λ m. Q x (gap m) r) (one.only ts p.0 q.0 p.1 q.1) p.2) q.2;
}

-- a thing before a part without a value
pub before : {A : Type 0} {P : A → Front} {F : Front} (gap : Gap) → IsDeterministic P → IsSure F → IsDeterministic (λ (x : A). P x ⟨ gap ⟩ F)
before {F = F} gap one two = record {
  only = λ x y ts r s p q.
      let first = one.only x y ts p.0 q.0 p.1 q.1 in
      (first.0, two.only (gap q.0) r s (subst (λ m. F (gap m) r) first.1 p.2) q.2);
}

-- two parts without values
pub both : {F G : Front} (gap : Gap) → IsSure F → IsSure G → IsSure (F ⟨ gap ⟩ G)
both {G = G} gap one two = record {
  only = λ ts r s p q. two.only (gap q.0) r s (subst (λ m. G (gap m) r) (one.only ts p.0 q.0 p.1 q.1) p.2) q.2;
}

-- the same thing seen through its parts
pub through : {A B : Type 0} {P : B → Front} (f : A → B) → ((a b : A) → f a ≡ f b → a ≡ b) → IsDeterministic P → IsDeterministic (λ (a : A). P (f a))
through f injective one = record {
  only = λ a b ts r s p q. let same = one.only (f a) (f b) ts r s p q in (injective a b same.0, same.1);
}

-- after any number of line ends
pub after_lines : {A : Type 0} {P : A → Front} → IsDeterministic P → IsDeterministic (λ a. AfterLines (P a))
after_lines one = record { only = λ a b ts r s p q. one.only a b (skip_line_ends ts) r s p q }

-- nothing where something isn't
pub no_one : (P : Front) → IsSure (No P)
no_one P = record { only = λ ts r s p q. sym p.0 ∙ q.0 }

-- a thing at its place
pub at_place : {A : Type 0} {P : A → Front} → IsDeterministic P → IsDeterministic (λ (x : Place × A). At x.0 (P x.1))
at_place {A = A} {P = P} one = record { only = go }
  where
    go : (x y : Place × A) (ts r s : List Token) → At x.0 (P x.1) ts r → At y.0 (P y.1) ts s → (x ≡ y) × (r ≡ s)
    go x y [] r s p q = absurd p
    go x y (t ∷ ts) r s p q =
        let same = one.only x.1 y.1 (t ∷ ts) r s p.2 q.2 in
        let here = place_is x.0 y.0 (sym p.0 ∙ q.0) (sym p.1 ∙ q.1) in
        (λ i. (here i, same.0 i), same.1)

-- a part without a value, at its place
pub place_of : {F : Front} → IsSure F → IsDeterministic (λ (place : Place). At place F)
place_of {F = F} one = record { only = go }
  where
    go : (x y : Place) (ts r s : List Token) → At x F ts r → At y F ts s → (x ≡ y) × (r ≡ s)
    go x y [] r s p q = absurd p
    go x y (t ∷ ts) r s p q = (place_is x y (sym p.0 ∙ q.0) (sym p.1 ∙ q.1), one.only (t ∷ ts) r s p.2 q.2)

-- a thing that one token gives
pub token : {A : Type 0} {P : A → Token → Type 0} → ((a b : A) (t : Token) → P a t → P b t → a ≡ b) → IsDeterministic (λ a. One (P a))
token {A = A} {P = P} one = record { only = go }
  where
    go : (x y : A) (ts r s : List Token) → One (P x) ts r → One (P y) ts s → (x ≡ y) × (r ≡ s)
    go x y [] r s p q = absurd p
    go x y (t ∷ ts) r s p q = (one x y t p.0 q.0, sym p.1 ∙ q.1)

-- one token
pub one_token : (P : Token → Type 0) → IsSure (One P)
one_token P = record { only = go }
  where
    go : (ts r s : List Token) → One P ts r → One P ts s → r ≡ s
    go [] r s p q = absurd p
    go (t ∷ ts) r s p q = sym p.1 ∙ q.1

-- things one after another, and an end that is none of them
pub repeats : {A B : Type 0} {P : A → Front} {E : B → Front} → IsDeterministic P → IsDeterministic E → AreApart P E
    → IsDeterministic (λ (x : List A × B). Repeats P x.0 (E x.1))
repeats {A = A} {B = B} {P = P} {E = E} one end apart = record { only = λ x y ts r s p q. go x.0 y.0 x.1 y.1 ts r s p q }
  where
    go : (xs ys : List A) (x y : B) (ts r s : List Token) → Repeats P xs (E x) ts r → Repeats P ys (E y) ts s → (◌≡◌ {A = List A × B} (xs, x) (ys, y)) × (r ≡ s)
    go [] [] x y ts r s p q = let same = end.only x y ts r s p q in (λ i. ([], same.0 i), same.1)
    go [] (b ∷ others) x y ts r s p q = absurd (apart.never b x ts q.0 r q.1 p)
    go (a ∷ more) [] x y ts r s p q = absurd (apart.never a y ts p.0 s p.1 q)
    go (a ∷ more) (b ∷ others) x y ts r s p q =
        let first = one.only a b ts p.0 q.0 p.1 q.1 in
        let rest = go more others x y (skip_line_ends q.0) r s (subst (λ m. Repeats P more (E x) (skip_line_ends m) r) first.1 p.2) q.2 in
        (λ i. (first.0 i ∷ (rest.0 i).0, (rest.0 i).1), rest.1)

-- a part without a value, as one whose value is nothing
pub valueless : {F : Front} → IsSure F → IsDeterministic (λ (u : Unit {0}). F)
valueless one = record { only = λ a b ts r s p q. (refl, one.only ts r s p q) }

-- things one after another, up to an end without a value
pub repeats_until : {A : Type 0} {P : A → Front} {F : Front} → IsDeterministic P → IsSure F → AreApart P (λ (u : Unit {0}). F)
    → IsDeterministic (λ (xs : List A). Repeats P xs F)
repeats_until one end apart = through (λ xs. (xs, tt)) (λ xs ys e i. (e i).0) (repeats one (valueless end) apart)

-- things with commas between them, up to an end that is no comma
pub listed : {A : Type 0} {P : A → Front} {F : Front} (gap : Gap) → IsDeterministic P → IsSure F → AreApart (λ (u : Unit {0}). F) (λ (u : Unit {0}). TheSign Comma)
    → IsDeterministic (λ (xs : List A). Listed gap P xs F)
listed {A = A} {P = P} {F = F} gap one end apart = record { only = go }
  where
    split : (x y : A) (G H : Front) (ts r s : List Token) → (P x ⟨ gap ⟩ G) ts r → (P y ⟨ gap ⟩ H) ts s → (m : List Token) × (x ≡ y) × G m r × H m s
    split x y G H ts r s p q =
        let same = one.only x y ts p.0 q.0 p.1 q.1 in
        (gap q.0, same.0, subst (λ m. G (gap m) r) same.1 p.2, q.2)

    go : (xs ys : List A) (ts r s : List Token) → Listed gap P xs F ts r → Listed gap P ys F ts s → (xs ≡ ys) × (r ≡ s)
    go [] ys ts r s p q = absurd p
    go (x ∷ []) [] ts r s p q = absurd q
    go (x ∷ a ∷ more) [] ts r s p q = absurd q
    go (x ∷ []) (y ∷ []) ts r s p q = let m = split x y F F ts r s p q in (λ i. m.1 i ∷ [], end.only m.0 r s m.2 m.3)
    go (x ∷ []) (y ∷ b ∷ others) ts r s p q =
        let m = split x y F (TheSign Comma ⟨ gap ⟩ Listed gap P (b ∷ others) F) ts r s p q in absurd (apart.never tt tt m.0 r m.3.0 m.2 m.3.1)
    go (x ∷ a ∷ more) (y ∷ []) ts r s p q =
        let m = split x y (TheSign Comma ⟨ gap ⟩ Listed gap P (a ∷ more) F) F ts r s p q in absurd (apart.never tt tt m.0 s m.2.0 m.3 m.2.1)
    go (x ∷ a ∷ more) (y ∷ b ∷ others) ts r s p q =
        let m = split x y (TheSign Comma ⟨ gap ⟩ Listed gap P (a ∷ more) F) (TheSign Comma ⟨ gap ⟩ Listed gap P (b ∷ others) F) ts r s p q in
        let comma = (one_token (λ t. t.kind ≡ kind.Sign Comma)).only m.0 m.2.0 m.3.0 m.2.1 m.3.1 in
        let rest = go (a ∷ more) (b ∷ others) (gap m.3.0) r s (subst (λ k. Listed gap P (a ∷ more) F (gap k) r) comma m.2.2) m.3.2 in
        (λ i. m.1 i ∷ rest.0 i, rest.1)

-- beside what is spelled nothing else is
pub nothing_else : {A : Type 0} {P : A → Front} → IsDeterministic P → (a : A) (ts r : List Token) → P a ts r
    → (b : A) (s : List Token) → P b ts s → (b ≡ a) × (s ≡ r)
nothing_else one a ts r p b s q = one.only b a ts s r q p

-- the same of a rule without a value
pub no_other_rest : {F : Front} → IsSure F → (ts r : List Token) → F ts r → (s : List Token) → F ts s → s ≡ r
no_other_rest one ts r p s q = one.only ts s r q p
