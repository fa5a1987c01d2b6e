-- A unit reaches another where the relation through all units holds.
use Rattle.std.proofs.Common.{◌≡◌, ℕ, zero, suc, ◌≤◌, inl, inr, Bool, true, false, List, [], ◌∷◌, ◌++◌, length, get_or, slice_get, Some, refl, sym, ap, ◌∙◌, subst, arith}
use Rattle.std.specs.Prelude.{◌↔◌}
use Rattle.std.proofs.lemmas.Option.{slice_get-get_or, slice_get_within}
use Rattle.il_syntax.specs.declared.tree.Config.{Config}
use Rattle.il_syntax.specs.declared.tree.Unit.{Unit as ProgramUnit}
use Rattle.il_statics.specs.Faults.{HasNoFault, BreaksDeclarations}
use Rattle.il_statics.specs.Order.{Uses, UsesThrough, Reaches}
use Rattle.load_order.specs.Instances.{UsesBy, LeadsThrough, Needs, needed}
use Rattle.load_order.specs.Related.{holds, closed}
use Rattle.load_order.specs.Used.{uses}
use Rattle.load_order.specs.Breaks.{reached}
use Rattle.load_order.proofs.Distinct.{AreDistinct, distinct}
use Rattle.load_order.proofs.Using.{used_to, used_from, held_to, held_from}
use Rattle.load_order.proofs.Closing.{Leads, parts, at_first, transitive}

-- WAYS

module _ (R : ProgramUnit → ProgramUnit → Type 0) where
  -- one way after another
  joined_ways : (u w v : ProgramUnit) (first second : List ProgramUnit) → LeadsThrough R u first w → LeadsThrough R w second v → LeadsThrough R u (first ++ w ∷ second) v
  joined_ways u w v [] second a b = (a, b)
  joined_ways u w v (x ∷ first) second a b = (a.0, joined_ways x w v first second a.1 b)

  abbrev pub Leading : ProgramUnit → ProgramUnit → Type 0
  Leading u v = (between : List ProgramUnit) × LeadsThrough R u between v

  leading_on : (u w v : ProgramUnit) → Leading u w → Leading w v → Leading u v
  leading_on u w v a b = (a.0 ++ w ∷ b.0, joined_ways u w v a.0 b.0 a.1 b.1)

  -- a relation of numbers, and one of units
  pub record IsOf (c : Config) (relation : List (List Bool)) : Type 0 where
    pub to : (u v : ℕ) (U V : ProgramUnit) → slice_get c.units u ≡ Some U → slice_get c.units v ≡ Some V → holds relation u v ≡ true → R U V
    pub from : (u : ℕ) (U V : ProgramUnit) → slice_get c.units u ≡ Some U → R U V → (v : ℕ) × (slice_get c.units v ≡ Some V) × (holds relation u v ≡ true)

  module _ (c : Config) (relation : List (List Bool)) (is_of : IsOf c relation) where
    way_to : (k : ℕ) → k ≤ length c.units → (u v : ℕ) (U V : ProgramUnit) → slice_get c.units u ≡ Some U → slice_get c.units v ≡ Some V → Leads (length c.units) relation k u v → Leading U V
    way_to zero le u v U V here there a = ([], is_of.to u v U V here there a)
    way_to (suc k) le u v U V here there a =
        elim (parts (length c.units) relation k u v (slice_get_within c.units u U here) (slice_get_within c.units v V there) a) [
          | inl p ↦ way_to k (omega (arith, le)) u v U V here there p
          | inr p ↦ (let mid : slice_get c.units k ≡ Some (get_or c.units k U) = slice_get-get_or c.units k U (omega (arith, le)) in leading_on U (get_or c.units k U) V (way_to k (omega (arith, le)) u k U (get_or c.units k U) here mid p.0) (way_to k (omega (arith, le)) k v (get_or c.units k U) V mid there p.1))
        ]

    pub leads_to : (u v : ℕ) (U V : ProgramUnit) → slice_get c.units u ≡ Some U → slice_get c.units v ≡ Some V → holds (closed (length c.units) relation (length c.units)) u v ≡ true → Leading U V
    leads_to u v U V here there a = way_to (length c.units) (omega arith) u v U V here there a

    module _ (apart : AreDistinct c) where
      pub leads_from : (between : List ProgramUnit) (u v : ℕ) (U V : ProgramUnit) → slice_get c.units u ≡ Some U → slice_get c.units v ≡ Some V → LeadsThrough R U between V → Leads (length c.units) relation (length c.units) u v
      leads_from [] u v U V here there used =
          let r = is_of.from u U V here used in
          let same : r.0 ≡ v = apart r.0 v V V r.1 there refl in
          at_first (length c.units) relation (length c.units) u v (slice_get_within c.units u U here) (slice_get_within c.units v V there) (subst (λ k. holds relation u k ≡ true) same r.2)
      leads_from (w ∷ between) u v U V here there used =
          let r = is_of.from u U w here used.0 in
          let rest = leads_from between r.0 v w V r.1 there used.1 in
          transitive (length c.units) relation (length c.units) (omega arith) u r.0 v (slice_get_within c.units u U here) (slice_get_within c.units r.0 w r.1) (slice_get_within c.units v V there)
          (at_first (length c.units) relation (length c.units) u r.0 (slice_get_within c.units u U here) (slice_get_within c.units r.0 w r.1) r.2) rest

module _ (c : Config) where
  -- THE RULES

  of_rules : IsOf (Uses c) c (uses c true)
  of_rules = record { to = held_to c; from = held_from c }

  rules_to : (between : List ProgramUnit) (u v : ProgramUnit) → LeadsThrough (Uses c) u between v → UsesThrough c u between v
  rules_to [] u v used = used
  rules_to (w ∷ between) u v used = (used.0, rules_to between w v used.1)

  rules_from : (between : List ProgramUnit) (u v : ProgramUnit) → UsesThrough c u between v → LeadsThrough (Uses c) u between v
  rules_from [] u v used = used
  rules_from (w ∷ between) u v used = (used.0, rules_from between w v used.1)

  -- what is reached is a unit
  pub reached_at : (u v : ProgramUnit) (i : ℕ) → slice_get c.units i ≡ Some u → (between : List ProgramUnit) → UsesThrough c u between v → (k : ℕ) × (slice_get c.units k ≡ Some v)
  reached_at u v i here [] used = let r = held_from c i u v here used in (r.0, r.1)
  reached_at u v i here (w ∷ between) used = let r = held_from c i u w here used.0 in reached_at w v r.0 r.1 between used.1

  pub reach_to : (u v : ℕ) (U V : ProgramUnit) → slice_get c.units u ≡ Some U → slice_get c.units v ≡ Some V → holds (reached c) u v ≡ true → Reaches c U V
  reach_to u v U V here there a = let way = leads_to (Uses c) c (uses c true) of_rules u v U V here there a in (way.0, rules_to way.0 U V way.1)

  pub reach_from : AreDistinct c → (u v : ℕ) (U V : ProgramUnit) → slice_get c.units u ≡ Some U → slice_get c.units v ≡ Some V → Reaches c U V → holds (reached c) u v ≡ true
  reach_from apart u v U V here there way = leads_from (Uses c) c (uses c true) of_rules apart way.0 u v U V here there (rules_from way.0 U V way.1)

  -- BY NAMES

  of_names : IsOf (UsesBy c false) c (uses c false)
  of_names = record { to = used_to c false; from = used_from c false }

  pub need_to : (u v : ℕ) (U V : ProgramUnit) → slice_get c.units u ≡ Some U → slice_get c.units v ≡ Some V → holds (needed c) u v ≡ true → Needs c U V
  need_to u v U V here there a = leads_to (UsesBy c false) c (uses c false) of_names u v U V here there a

  pub need_from : AreDistinct c → (u v : ℕ) (U V : ProgramUnit) → slice_get c.units u ≡ Some U → slice_get c.units v ≡ Some V → Needs c U V → holds (needed c) u v ≡ true
  need_from apart u v U V here there way = leads_from (UsesBy c false) c (uses c false) of_names apart way.0 u v U V here there way.1

-- the answer of the relation
pub need_is : (c : Config) → HasNoFault (BreaksDeclarations c) → (relation : List (List Bool)) (u v : ℕ) (r : Bool) → relation ≡ needed c → r ≡ holds relation u v
    → (U V : ProgramUnit) → slice_get c.units u ≡ Some U → slice_get c.units v ≡ Some V → (r ≡ true) ↔ Needs c U V
need_is c declared relation u v r is answered U V here there =
    let same : r ≡ holds (needed c) u v = answered ∙ ap (λ x. holds x u v) is in
    ((λ e. need_to c u v U V here there (sym same ∙ e)), (λ way. same ∙ need_from c (distinct c declared) u v U V here there way))
