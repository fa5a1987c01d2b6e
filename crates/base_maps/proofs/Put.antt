-- Entries of short names, of which some are apart.
use Rattle.std.proofs.Common.{◌≡◌, ℕ, Bool, true, false, List, [], ◌∷◌, ◌++◌, refl, sym, ap, ap₂, ◌∙◌, cond, Option, Some, None, nat_eq, is_some, arith}
use Rattle.std.proofs.lemmas.Bool.Decides.{nat_tests}
use Rattle.std.specs.Ordering.{nat_cmp, is_eq}
use Rattle.std.specs.Map.{lookup}
use Rattle.std.specs.BTreeMap.{BTreeMap, Updates}
use Rattle.base_maps.specs.declared.places.Short.{Short}
use Rattle.base_maps.specs.Places.{find, numbered, HasPut}
use Rattle.base_maps.proofs.ByText.{agree, same_number}

-- the first of two, where there is one
abbrev pub or_else : {X : Type 0} → Option X → Option X → Option X
or_else None o = o
or_else (Some x) o = Some x

pub none_there : {X : Type 0} (o : Option X) → is_some o ≡ false → o ≡ None
none_there None h = refl
none_there (Some x) h = cc

same : (n k : ℕ) → nat_eq n k ≡ is_eq (nat_cmp n k)
same n k = agree _ _ (λ h. grind (arith, nat_tests)) (λ h. grind (arith, nat_tests))

module _ {X : Type 0} where
  -- the entry of a name that isn't crowded
  abbrev pub at : ℕ → List (Short × X) → Option X
  at n es = lookup (λ k. nat_eq n k.number) es

  -- a name has its entry here or there
  pub in_either : (n : ℕ) (es : List (Short × X)) (cs : List (ℕ × X)) → find n (numbered (λ s. s.number) es ++ cs) ≡ or_else (at n es) (find n cs)
  in_either n [] cs = refl
  in_either n (e ∷ es) cs = ap (λ b. cond b (Some e.1) (find n (numbered (λ s. s.number) es ++ cs))) (sym (same n e.0.number)) ∙ by (nat_eq n e.0.number) (in_either n es cs)
    where
      by : (b : Bool) → find n (numbered (λ s. s.number) es ++ cs) ≡ or_else (at n es) (find n cs)
          → cond b (Some e.1) (find n (numbered (λ s. s.number) es ++ cs)) ≡ or_else (cond b (Some e.1) (at n es)) (find n cs)
      by true rest = refl
      by false rest = rest

  -- the same, where one is known
  pub found : (n : ℕ) (es : List (Short × X)) (cs : List (ℕ × X)) {o : Option X} → o ≡ at n es → or_else o (find n cs) ≡ find n (numbered (λ s. s.number) es ++ cs)
  found n es cs is = ap (λ o. or_else o (find n cs)) is ∙ sym (in_either n es cs)

  -- a write here
  pub put_here : (es ds : List (Short × X)) (cs : List (ℕ × X)) (k : ℕ) (v : X) → ((q : Short) → at q.number ds ≡ cond (nat_eq k q.number) (Some v) (at q.number es))
      → HasPut (numbered (λ s. s.number) es ++ cs) (numbered (λ s. s.number) ds ++ cs) k v
  put_here es ds cs k v h q =
      in_either q ds cs ∙ ap (λ o. or_else o (find q cs)) (h (record { number = q })) ∙ by (nat_eq k q)
      ∙ ap₂ (λ b o. cond b (Some v) o) (same k q) (sym (in_either q es cs))
    where
      by : (b : Bool) → or_else (cond b (Some v) (at q es)) (find q cs) ≡ cond b (Some v) (or_else (at q es) (find q cs))
      by true = refl
      by false = refl

  -- a write there, of a name that isn't here
  pub put_there : (es : List (Short × X)) (c d : BTreeMap ℕ X) (k : ℕ) (v : X) → at k es ≡ None → Updates nat_cmp c d k (Some v)
      → HasPut (numbered (λ s. s.number) es ++ c.entries) (numbered (λ s. s.number) es ++ d.entries) k v
  put_there es c d k v none h q =
      in_either q es d.entries ∙ ap (or_else (at q es)) (h.0 q) ∙ by (is_eq (nat_cmp k q)) refl ∙ ap (λ o. cond (is_eq (nat_cmp k q)) (Some v) o) (sym (in_either q es c.entries))
    where
      by : (b : Bool) → is_eq (nat_cmp k q) ≡ b → or_else (at q es) (cond b (Some v) (find q c.entries)) ≡ cond b (Some v) (or_else (at q es) (find q c.entries))
      by true e = ap (λ o. or_else o (Some v)) (ap (λ n. at n es) (sym (same_number k q e)) ∙ none)
      by false e = refl
