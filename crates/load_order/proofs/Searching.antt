-- A long chain leads from a unit exactly where the search finds one.
use Rattle.std.proofs.Common.{◌≡◌, ℕ, zero, suc, ◌<◌, ◌≤◌, Bool, true, false, ◌&&◌, List, [], ◌∷◌, ◌++◌, length, refl, ap, arith}
use Rattle.std.specs.Prelude.{not}
use Rattle.load_order.specs.Related.{holds}
use Rattle.load_order.specs.Used.{is_among}
use Rattle.load_order.specs.Chained.{leads_on, is_long}
use Rattle.load_order.proofs.Tabled.{and_both, some_below, below_some}
use Rattle.load_order.proofs.Ways.{AreFresh, of_not, not_of, IsWay}
use Rattle.load_types.proofs.Sharing.{both_true as from_and}

module _ (n : ℕ) (uses : List (List Bool)) where
  -- a chain of so many uses, by numbers
  abbrev pub Way : ℕ → List ℕ → ℕ → Type 0
  Way d before u = (ks : List ℕ) × IsWay n uses u ks × (length ks ≡ d) × AreFresh (before ++ u ∷ []) ks

  leads_to : (left : ℕ) (before : List ℕ) (u : ℕ) → leads_on n uses left before u ≡ true → Way left before u
  leads_to zero before u e = ([], tt, refl, tt)
  leads_to (suc left) before u e =
      let r = some_below (λ to. holds uses u to && not (is_among (before ++ u ∷ []) to) && leads_on n uses left (before ++ u ∷ []) to) n e in
      let both = from_and (holds uses u r.0 && not (is_among (before ++ u ∷ []) r.0)) (leads_on n uses left (before ++ u ∷ []) r.0) r.2 in
      let on = from_and (holds uses u r.0) (not (is_among (before ++ u ∷ []) r.0)) both.0 in
      let rest = leads_to left (before ++ u ∷ []) r.0 both.1 in
      (r.0 ∷ rest.0, (on.0, r.1, rest.1), ap suc rest.2, (of_not (is_among (before ++ u ∷ []) r.0) on.1, rest.3))

  leads_from : (left : ℕ) (before : List ℕ) (u : ℕ) (ks : List ℕ) → IsWay n uses u ks → AreFresh (before ++ u ∷ []) ks → left ≤ length ks → leads_on n uses left before u ≡ true
  leads_from zero before u ks way fresh long = refl
  leads_from (suc left) before u [] way fresh long = absurd (omega (arith, long))
  leads_from (suc left) before u (k ∷ ks) way fresh long =
      below_some (λ to. holds uses u to && not (is_among (before ++ u ∷ []) to) && leads_on n uses left (before ++ u ∷ []) to) n k way.1
      (and_both (holds uses u k && not (is_among (before ++ u ∷ []) k)) (leads_on n uses left (before ++ u ∷ []) k)
      (and_both (holds uses u k) (not (is_among (before ++ u ∷ []) k)) way.0 (not_of (is_among (before ++ u ∷ []) k) fresh.0))
      (leads_from left (before ++ u ∷ []) k ks way.2 fresh.1 (omega (arith, long))))

  pub chain_to : (u : ℕ) → is_long n uses u ≡ true → Way 16 [] u
  unfolding is_long
  chain_to u e = leads_to 16 [] u e

  pub chain_from : (u : ℕ) (ks : List ℕ) → IsWay n uses u ks → AreFresh (u ∷ []) ks → 16 ≤ length ks → is_long n uses u ≡ true
  unfolding is_long
  chain_from u ks way fresh long = leads_from 16 [] u ks way fresh long
