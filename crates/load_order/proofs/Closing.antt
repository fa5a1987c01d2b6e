-- A relation through more and more units is transitive through these.
use Rattle.std.proofs.Common.{◌≡◌, ℕ, zero, suc, ◌<◌, ◌≤◌, ◌⊎◌, inl, inr, Bool, true, false, ◌&&◌, ◌||◌, if◌then◌else◌, List, Option, Some, None, slice_get, refl, sym, ap, ◌∙◌, subst, arith}
use Rattle.std.proofs.lemmas.Bool.{cases_lt}
use Rattle.load_order.specs.Related.{is_entry, is_set, holds_in, holds, row_or_none, either_row, joined_row, joined, leads_anywhere, closed}
use Rattle.load_order.proofs.Tabled.{or_left, or_right, from_or, and_both, tabulated, below_some}
use Rattle.load_types.proofs.Sharing.{both_true as from_and}

module _ (n : ℕ) (relation : List (List Bool)) where
  -- a relation through units with a number below a bound
  abbrev pub Leads : ℕ → ℕ → ℕ → Type 0
  Leads k u v = holds (closed n relation k) u v ≡ true

  -- one unit more
  next_is : (k u v : ℕ) → u < n → v < n → holds (closed n relation (suc k)) u v ≡ holds (closed n relation k) u v || (holds (closed n relation k) u k && holds (closed n relation k) k v)
  next_is k u v lu lv = by_next (leads_anywhere n (closed n relation k) k) refl
    where
      or_none : (b : Bool) → b ≡ b || false
      or_none true = refl
      or_none false = refl

      of_row : (o : Option (List Bool)) → is_set (row_or_none o) v ≡ holds_in o v || false
      of_row None = refl
      of_row (Some row) = or_none (is_set row v)

      by_test : (b : Bool) → is_set (if b then either_row n (closed n relation k) k u else row_or_none (slice_get (closed n relation k) u)) v ≡ holds (closed n relation k) u v || (b && holds (closed n relation k) k v)
      by_test true = ap is_entry (tabulated (λ to. holds (closed n relation k) u to || holds (closed n relation k) k to) n v lv)
      by_test false = of_row (slice_get (closed n relation k) u)

      off : leads_anywhere n (closed n relation k) k ≡ false → (b : Bool) → holds (closed n relation k) k v ≡ b → b ≡ false
      off is true leads = sym (below_some (λ to. holds (closed n relation k) k to) n v lv leads) ∙ is
      off is false leads = refl

      without : (a d b : Bool) → b ≡ false → a ≡ a || (d && b)
      without true d b e = refl
      without false true b e = sym e
      without false false b e = refl

      by_next : (b : Bool) → leads_anywhere n (closed n relation k) k ≡ b → holds (if b then joined n (closed n relation k) k else closed n relation k) u v ≡ holds (closed n relation k) u v || (holds (closed n relation k) u k && holds (closed n relation k) k v)
      by_next true is = ap (λ o. holds_in o v) (tabulated (λ from. joined_row n (closed n relation k) k from) n u lu) ∙ by_test (holds (closed n relation k) u k)
      by_next false is = without (holds (closed n relation k) u v) (holds (closed n relation k) u k) (holds (closed n relation k) k v) (off is (holds (closed n relation k) k v) refl)

  pub keeps : (k u v : ℕ) → u < n → v < n → Leads k u v → Leads (suc k) u v
  keeps k u v lu lv a = next_is k u v lu lv ∙ or_left (holds (closed n relation k) u v) (holds (closed n relation k) u k && holds (closed n relation k) k v) a

  through : (k u v : ℕ) → u < n → v < n → Leads k u k → Leads k k v → Leads (suc k) u v
  through k u v lu lv a b =
      next_is k u v lu lv
      ∙ or_right (holds (closed n relation k) u v) (holds (closed n relation k) u k && holds (closed n relation k) k v) (and_both (holds (closed n relation k) u k) (holds (closed n relation k) k v) a b)

  pub parts : (k u v : ℕ) → u < n → v < n → Leads (suc k) u v → Leads k u v ⊎ (Leads k u k × Leads k k v)
  parts k u v lu lv a =
      elim (from_or (holds (closed n relation k) u v) (holds (closed n relation k) u k && holds (closed n relation k) k v) (sym (next_is k u v lu lv) ∙ a)) [
        | inl x ↦ inl x
        | inr y ↦ inr (from_and (holds (closed n relation k) u k) (holds (closed n relation k) k v) y)
      ]

  -- what holds at first
  pub at_first : (k u v : ℕ) → u < n → v < n → Leads zero u v → Leads k u v
  at_first zero u v lu lv a = a
  at_first (suc k) u v lu lv a = keeps k u v lu lv (at_first k u v lu lv a)

  pub transitive : (k : ℕ) → k ≤ n → (u w v : ℕ) → u < n → w < k → v < n → Leads k u w → Leads k w v → Leads k u v
  transitive zero le u w v lu lw lv a b = absurd (omega (arith, lw))
  transitive (suc k) le u w v lu lw lv a b = by_place (transitive k (omega (arith, le))) (cases_lt w k)
    where
      low : k < n
      low = omega (arith, le)

      below : ((u w v : ℕ) → u < n → w < k → v < n → Leads k u w → Leads k w v → Leads k u v) → w < k → Leads k u w ⊎ (Leads k u k × Leads k k w) → Leads k w v ⊎ (Leads k w k × Leads k k v) → Leads (suc k) u v
      below before l (inl p) (inl q) = keeps k u v lu lv (before u w v lu l lv p q)
      below before l (inl p) (inr q) = through k u v lu lv (before u w k lu l low p q.0) q.1
      below before l (inr p) (inl q) = through k u v lu lv p.0 (before k w v low l lv p.1 q)
      below before l (inr p) (inr q) = through k u v lu lv p.0 q.1

      to_last : Leads k u k ⊎ (Leads k u k × Leads k k k) → Leads k u k
      to_last (inl p) = p
      to_last (inr p) = p.0

      from_last : Leads k k v ⊎ (Leads k k k × Leads k k v) → Leads k k v
      from_last (inl q) = q
      from_last (inr q) = q.1

      by_place : ((u w v : ℕ) → u < n → w < k → v < n → Leads k u w → Leads k w v → Leads k u v) → (w < k) ⊎ (k ≤ w) → Leads (suc k) u v
      by_place before (inl l) = below before l (parts k u w lu (omega (arith, l, low)) a) (parts k w v (omega (arith, l, low)) lv b)
      by_place before (inr h) =
          let e : w ≡ k = omega (arith, h, lw) in
          through k u v lu lv (to_last (parts k u k lu low (subst (λ x. Leads (suc k) u x) e a))) (from_last (parts k k v low lv (subst (λ x. Leads (suc k) x v) e b)))
