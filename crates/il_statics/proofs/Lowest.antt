-- The lowest number of a list is in it, and of two lists it is the lower.
use Rattle.std.proofs.Common.{◌≡◌, ℕ, ◌<◌, ◌≤◌, inl, inr, Bool, true, false, if◌then◌else◌, List, [], ◌∷◌, ◌++◌, Option, Some, None, refl, sym, ap, ◌∙◌, subst, arith}
use Rattle.std.specs.Prelude.{Contains, nat_lt}
use Rattle.std.proofs.lemmas.Bool.Decides.{nat_tests}
use Rattle.std.proofs.lemmas.List.Elements.{Contains-append_left, Contains-append_right, Contains-append_cases}
use Rattle.il_syntax.specs.declared.tree.Place.{Place}
use Rattle.il_statics.specs.Faults.{IsNoLater, same_place}
use Rattle.il_statics.proofs.Passes.{only_one}
use Rattle.il_statics.specs.Least.{NumberedFault, IsLeast}
use Rattle.il_statics.proofs.Least.{least_none}
use Rattle.il_statics.specs.Lowest.{lower_of, lowest, numbered_at}

by_test : (a b : ℕ) (t : Bool) → nat_lt b a ≡ t → (P : Option ℕ → Type 0) → (b < a → P (Some b)) → (a ≤ b → P (Some a)) → P (if t then Some b else Some a)
by_test a b true e P low high = low (grind (arith, nat_tests))
by_test a b false e P low high = high (grind (arith, nat_tests))

-- by which of two is lower
by_lower : (a b : ℕ) (P : Option ℕ → Type 0) → (b < a → P (Some b)) → (a ≤ b → P (Some a)) → P (lower_of (Some a) (Some b))
by_lower a b P low high = by_test a b (nat_lt b a) refl P low high

first_is : (a b : ℕ) → a ≤ b → lower_of (Some a) (Some b) ≡ Some a
first_is a b le = by_lower a b (λ o. o ≡ Some a) (λ less. absurd (omega arith)) (λ h. refl)

second_is : (a b : ℕ) → b < a → lower_of (Some a) (Some b) ≡ Some b
second_is a b less = by_lower a b (λ o. o ≡ Some b) (λ h. refl) (λ le. absurd (omega arith))

lower_assoc : (a b c : Option ℕ) → lower_of a (lower_of b c) ≡ lower_of (lower_of a b) c
lower_assoc None b c = refl
lower_assoc (Some a) None c = refl
lower_assoc (Some a) (Some b) None = by_lower a b (λ o. o ≡ lower_of o None) (λ h. refl) (λ h. refl)
lower_assoc (Some a) (Some b) (Some c) =
    by_lower b c (λ o. lower_of (Some a) o ≡ lower_of (lower_of (Some a) (Some b)) (Some c))
    (λ c_low. by_lower a b (λ o. lower_of (Some a) (Some c) ≡ lower_of o (Some c)) (λ b_low. second_is a c (omega arith) ∙ sym (second_is b c c_low)) (λ a_low. refl))
    (λ b_least. by_lower a b (λ o. o ≡ lower_of o (Some c)) (λ b_low. sym (first_is b c b_least)) (λ a_low. sym (first_is a c (omega arith))))

-- two lists, one after the other
pub lowest_append : (xs ys : List ℕ) → lowest (xs ++ ys) ≡ lower_of (lowest xs) (lowest ys)
lowest_append [] ys = refl
lowest_append (x ∷ xs) ys = ap (lower_of (Some x)) (lowest_append xs ys) ∙ lower_assoc (Some x) (lowest xs) (lowest ys)

-- what the lowest number is
pub record IsLowest (lowest : Option ℕ) (numbers : List ℕ) : Type 0 where
  pub none : lowest ≡ None → (number : ℕ) → Contains numbers number → ⊥
  pub holds : (n : ℕ) → lowest ≡ Some n → Contains numbers n
  pub first : (n : ℕ) → lowest ≡ Some n → (number : ℕ) → Contains numbers number → n ≤ number

none_in : (n : ℕ) → Contains [] n → ⊥
none_in n (k, low, e) = omega arith

stands : (k : ℕ) (ns : List ℕ) → Contains ns k → ((n : ℕ) → Contains ns n → k ≤ n) → IsLowest (Some k) ns
stands k ns here all = record {
  none = λ e n c. let bad : Some k ≡ None = e in cc;
  holds = λ n e. let same : k ≡ n = cc in subst (λ m. Contains ns m) same here;
  first = λ n e m c. let same : k ≡ n = cc in subst (λ x. x ≤ m) same (all m c);
}

pub is_lowest : (ns : List ℕ) → IsLowest (lowest ns) ns
is_lowest [] = record {
  none = λ e n c. none_in n c;
  holds = λ n e. let bad : None ≡ Some n = e in cc;
  first = λ n e. let bad : None ≡ Some n = e in cc;
}
is_lowest (x ∷ ns) = by_rest (lowest ns) (is_lowest ns)
  where
    here : Contains (x ∷ ns) x
    here = Contains-append_left (x ∷ []) ns x (0, omega arith, refl)

    by_rest : (r : Option ℕ) → IsLowest r ns → IsLowest (lower_of (Some x) r) (x ∷ ns)
    by_rest None l = stands x (x ∷ ns) here (λ n c. elim (Contains-append_cases (x ∷ []) ns n c) [ inl a ↦ (let same = only_one x n a in omega arith) | inr b ↦ absurd (l.none refl n b) ])
    by_rest (Some y) l = by_lower x y (λ o. IsLowest o (x ∷ ns))
        (λ less. stands y (x ∷ ns) (Contains-append_right (x ∷ []) ns y (l.holds y refl)) (λ n c. elim (Contains-append_cases (x ∷ []) ns n c) [ inl a ↦ (let same = only_one x n a in omega arith) | inr b ↦ l.first y refl n b ]))
        (λ le. stands x (x ∷ ns) here (λ n c. elim (Contains-append_cases (x ∷ []) ns n c) [ inl a ↦ (let same = only_one x n a in omega arith) | inr b ↦ (let low = l.first y refl n b in omega arith) ]))

-- the lowest number at one place as a fault
pub least_lowest : (ns : List ℕ) (place : Place) (r : Option NumberedFault) → r ≡ numbered_at (lowest ns) place → IsLeast r (λ n p. Contains ns n × (p ≡ place))
least_lowest ns place r is = by_lowest (lowest ns) (is_lowest ns) is
  where
    by_lowest : (o : Option ℕ) → IsLowest o ns → r ≡ numbered_at o place → IsLeast r (λ n p. Contains ns n × (p ≡ place))
    by_lowest None l is = least_none _ r is (λ n p h. l.none refl n h.0)
    by_lowest (Some k) l is = record {
      none = λ e n p h. let bad : Some (record { number = k; place = place }) ≡ None = sym is ∙ e in cc;
      holds = λ f e. let same : record { number = k; place = place } ≡ f = cc in subst (λ g. Contains ns g.number × (g.place ≡ place)) same (l.holds k refl, refl);
      first = λ f e n p h. let same : record { number = k; place = place } ≡ f = cc in
          subst (λ g. IsNoLater g.number g.place n p) same (same_place (ap (λ q. q.offset) (sym h.1)) (l.first k refl n h.0));
    }
