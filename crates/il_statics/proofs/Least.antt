-- The first of faults: of one rule, of two kinds, of items one after another.
use Rattle.std.proofs.Common.{◌≡◌, ℕ, ◌+◌, ◌<◌, ◌⊎◌, inl, inr, Bool, true, false, if◌then◌else◌, List, Option, Some, None, slice_get, refl, sym, ap, ◌∙◌, subst, arith}
use Rattle.std.specs.Prelude.{nat_lt, nat_eq}
use Rattle.std.proofs.lemmas.Bool.Decides.{nat_tests}
use Rattle.il_syntax.specs.declared.tree.Place.{Place}
use Rattle.il_statics.specs.Faults.{IsNoLater, earlier, same_place}
use Rattle.il_statics.specs.Least.{NumberedFault, fault_of, is_before, earlier_of, IsLeast, When, Either, Below}

-- a fault is no later than itself
pub no_later-refl : (n : ℕ) (p : Place) → IsNoLater n p n p
no_later-refl n p = same_place refl (omega arith)

-- no later than what is no later
pub no_later-trans : (n : ℕ) (p : Place) (m : ℕ) (q : Place) (k : ℕ) (r : Place) → IsNoLater n p m q → IsNoLater m q k r → IsNoLater n p k r
no_later-trans n p m q k r (earlier a) (earlier b) = earlier (omega arith)
no_later-trans n p m q k r (earlier a) (same_place b c) = earlier (omega arith)
no_later-trans n p m q k r (same_place a d) (earlier b) = earlier (omega arith)
no_later-trans n p m q k r (same_place a d) (same_place b c) = same_place (a ∙ b) (omega arith)

-- the fault of one rule
pub least_if : (b : Bool) (number : ℕ) (place : Place) (r : Option NumberedFault) (B : Type 0) → r ≡ fault_of b number place → (b ≡ true → B) → (B → b ≡ true) → IsLeast r (When B number place)
least_if true number place r B is to from = record {
  none = λ e n p h. let bad : Some (record { number = number; place = place }) ≡ None = sym is ∙ e in cc;
  holds = λ f e. let same : record { number = number; place = place } ≡ f = cc in (to refl, ap (λ x. x.number) (sym same), ap (λ x. x.place) (sym same));
  first = λ f e n p h. let same : record { number = number; place = place } ≡ f = cc in subst (λ x. IsNoLater x.number x.place n p) same (rw (h.1, h.2) (no_later-refl number place));
}
least_if false number place r B is to from = record {
  none = λ e n p h. let bad : false ≡ true = from h.0 in cc;
  holds = λ f e. let bad : None ≡ Some f = sym is ∙ e in cc;
  first = λ f e n p h. let bad : None ≡ Some f = sym is ∙ e in cc;
}

-- what the test of two faults says
not_before : (a b : NumberedFault) → is_before b a ≡ false → IsNoLater a.number a.place b.number b.place
not_before a b e = by_offset (nat_eq b.place.offset a.place.offset) refl e
  where
    by_offset : (t : Bool) → nat_eq b.place.offset a.place.offset ≡ t → (if t then nat_lt b.number a.number else nat_lt b.place.offset a.place.offset) ≡ false → IsNoLater a.number a.place b.number b.place
    by_offset true same later = same_place (grind (arith, nat_tests)) (grind (arith, nat_tests))
    by_offset false differs later = earlier (grind (arith, nat_tests))

-- the other fault comes first
before : (a b : NumberedFault) → is_before b a ≡ true → IsNoLater b.number b.place a.number a.place
before a b e = by_offset (nat_eq b.place.offset a.place.offset) refl e
  where
    by_offset : (t : Bool) → nat_eq b.place.offset a.place.offset ≡ t → (if t then nat_lt b.number a.number else nat_lt b.place.offset a.place.offset) ≡ true → IsNoLater b.number b.place a.number a.place
    by_offset true same sooner = same_place (grind (arith, nat_tests)) (grind (arith, nat_tests))
    by_offset false differs sooner = earlier (grind (arith, nat_tests))

-- one fault that means all
stands : (x : NumberedFault) (r : Option NumberedFault) (P : ℕ → Place → Type 0) → r ≡ Some x → P x.number x.place → ((n : ℕ) (p : Place) → P n p → IsNoLater x.number x.place n p) → IsLeast r P
stands x r P is here all = record {
  none = λ e n p h. let bad : Some x ≡ None = sym is ∙ e in cc;
  holds = λ f e. let same : x ≡ f = cc in subst (λ g. P g.number g.place) same here;
  first = λ f e n p h. let same : x ≡ f = cc in subst (λ g. IsNoLater g.number g.place n p) same (all n p h);
}

-- the first of two kinds
pub least_both : (P Q : ℕ → Place → Type 0) (a b r : Option NumberedFault) → r ≡ earlier_of a b → IsLeast a P → IsLeast b Q → IsLeast r (Either P Q)
least_both P Q None None r is p q = record {
  none = λ e n o h. elim h [ inl x ↦ p.none refl n o x | inr y ↦ q.none refl n o y ];
  holds = λ f e. let bad : None ≡ Some f = sym is ∙ e in cc;
  first = λ f e n o h. let bad : None ≡ Some f = sym is ∙ e in cc;
}
least_both P Q None (Some y) r is p q = stands y r _ is (inr (q.holds y refl)) (λ n o h. elim h [ inl x ↦ absurd (p.none refl n o x) | inr z ↦ q.first y refl n o z ])
least_both P Q (Some x) None r is p q = stands x r _ is (inl (p.holds x refl)) (λ n o h. elim h [ inl z ↦ p.first x refl n o z | inr y ↦ absurd (q.none refl n o y) ])
least_both P Q (Some x) (Some y) r is p q = by_test (is_before y x) refl is
  where
    by_test : (t : Bool) → is_before y x ≡ t → r ≡ (if t then Some y else Some x) → IsLeast r (Either P Q)
    by_test true sooner e = stands y r _ e (inr (q.holds y refl)) (λ n o h. elim h [ inl z ↦ no_later-trans _ _ _ _ _ _ (before x y sooner) (p.first x refl n o z) | inr z ↦ q.first y refl n o z ])
    by_test false later e = stands x r _ e (inl (p.holds x refl)) (λ n o h. elim h [ inl z ↦ p.first x refl n o z | inr z ↦ no_later-trans _ _ _ _ _ _ (not_before x y later) (q.first y refl n o z) ])

-- a fault of a second kind has one of the first kind that is no later
abbrev pub Covered : (ℕ → Place → Type 0) → ℕ → Place → Type 0
Covered P n p = (m : ℕ) × (q : Place) × P m q × IsNoLater m q n p

-- the first of one kind is the first of a wider one, each of which comes no earlier than one of the first kind
pub least_wider : (P Q : ℕ → Place → Type 0) (r : Option NumberedFault) → IsLeast r P → ((n : ℕ) (p : Place) → P n p → Q n p) → ((n : ℕ) (p : Place) → Q n p → Covered P n p) → IsLeast r Q
least_wider P Q r l up down = record {
  none = λ e n p h. let c = down n p h in l.none e c.0 c.1 c.2;
  holds = λ f e. up f.number f.place (l.holds f e);
  first = λ f e n p h. let c = down n p h in no_later-trans _ _ _ _ _ _ (l.first f e c.0 c.1 c.2) c.3;
}

-- the same where both kinds are one
pub least_same : (P Q : ℕ → Place → Type 0) (r : Option NumberedFault) → IsLeast r P → ((n : ℕ) (p : Place) → P n p → Q n p) → ((n : ℕ) (p : Place) → Q n p → P n p) → IsLeast r Q
least_same P Q r l up down = record {
  none = λ e n p h. l.none e n p (down n p h);
  holds = λ f e. up f.number f.place (l.holds f e);
  first = λ f e n p h. l.first f e n p (down n p h);
}

-- no fault, where there is none
pub least_none : (P : ℕ → Place → Type 0) (r : Option NumberedFault) → r ≡ None → ((n : ℕ) (p : Place) → P n p → ⊥) → IsLeast r P
least_none P r is never = record {
  none = λ e. never;
  holds = λ f e. let bad : None ≡ Some f = sym is ∙ e in cc;
  first = λ f e n p h. absurd (never n p h);
}

-- one item more
pub least_next : {A : Type 0} (H : ℕ → A → ℕ → Place → Type 0) (items : List A) (i : ℕ) (x : A) (found one r : Option NumberedFault) → slice_get items i ≡ Some x → r ≡ earlier_of found one → IsLeast found (Below H items i) → IsLeast one (H i x) → IsLeast r (Below H items (i + 1))
least_next {A = A} H items i x found one r there is before here =
    least_same (Either (Below H items i) (H i x)) (Below H items (i + 1)) r (least_both (Below H items i) (H i x) found one r is before here) up down
  where
    up : (n : ℕ) (p : Place) → Either (Below H items i) (H i x) n p → Below H items (i + 1) n p
    up n p (inl (at, y, low, get, h)) = (at, y, omega arith, get, h)
    up n p (inr h) = (i, x, omega arith, there, h)

    here_or : (at : ℕ) (y : A) (n : ℕ) (p : Place) → at ≡ i → slice_get items at ≡ Some y → H at y n p → H i x n p
    here_or at y n p e get h =
        let same : y ≡ x = some_same y x (sym get ∙ ap (slice_get items) e ∙ there) in
        subst (λ z. H i z n p) same (subst (λ k. H k y n p) e h)
      where
        some_same : (a b : A) → Some a ≡ Some b → a ≡ b
        some_same a b e = cc

    down : (n : ℕ) (p : Place) → Below H items (i + 1) n p → Either (Below H items i) (H i x) n p
    down n p (at, y, low, get, h) = elim (lt_or_eq at i low) [ inl l ↦ inl (at, y, l, get, h) | inr e ↦ inr (here_or at y n p e get h) ]
      where
        lt_or_eq : (a b : ℕ) → a < b + 1 → (a < b) ⊎ (a ≡ b)
        lt_or_eq a b l = grind arith
