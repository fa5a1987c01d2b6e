-- Chains of units, and the ways along their numbers.
use Rattle.std.proofs.Common.{◌≡◌, ◌≢◌, ℕ, zero, suc, ◌+◌, ◌<◌, inl, inr, Bool, true, false, List, [], ◌∷◌, ◌++◌, length, get_or, slice_get, Some, refl, sym, ap, ◌∙◌, subst, append_assoc, append-nil, arith}
use Rattle.std.specs.Prelude.{nat_eq}
use Rattle.std.proofs.Math.Seq.{get_or-append_seam}
use Rattle.std.proofs.lemmas.Bool.Decides.{nat_tests}
use Rattle.std.proofs.lemmas.Option.{slice_get-get_or, slice_get_within}
use Rattle.std.proofs.lemmas.List.{length-append, get_or_append_left}
use Rattle.std.proofs.lemmas.List.Quantifiers.{all_pairs_push}
use Rattle.il_syntax.specs.declared.tree.Config.{Config}
use Rattle.il_syntax.specs.declared.tree.Unit.{Unit as ProgramUnit}
use Rattle.il_statics.specs.Order.{IsChain, NamesNoneTwice}
use Rattle.load_order.specs.Used.{uses, is_among}
use Rattle.load_order.specs.Chained.{is_long}
use Rattle.load_order.proofs.Tabled.{from_or, or_left, or_right}
use Rattle.load_order.proofs.Distinct.{AreDistinct}
use Rattle.load_order.proofs.Using.{held_to, held_from}
use Rattle.load_order.proofs.Ways.{IsWay, AreFresh}
use Rattle.load_order.proofs.Searching.{chain_to, chain_from}

nat_same : (a b : ℕ) → nat_eq a b ≡ true → a ≡ b
nat_same a b e = grind (arith, nat_tests)

same_nat : (a b : ℕ) → a ≡ b → nat_eq a b ≡ true
same_nat a b e = grind (arith, nat_tests)

module _ (c : Config) where
  abbrev pub IsNumberWay : ℕ → List ℕ → Type 0
  IsNumberWay u ks = IsWay (length c.units) (uses c true) u ks

  -- units, by their numbers
  abbrev pub AreAt : List ℕ → List ProgramUnit → Type 0
  AreAt [] [] = Unit {0}
  AreAt [] (U ∷ units) = ⊥
  AreAt (k ∷ ks) [] = ⊥
  AreAt (k ∷ ks) (U ∷ units) = (slice_get c.units k ≡ Some U) × AreAt ks units

  as_many : (ks : List ℕ) (units : List ProgramUnit) → AreAt ks units → length ks ≡ length units
  as_many [] [] are = refl
  as_many [] (U ∷ units) are = absurd are
  as_many (k ∷ ks) [] are = absurd are
  as_many (k ∷ ks) (U ∷ units) are = ap suc (as_many ks units are.1)

  at_push : (ks : List ℕ) (units : List ProgramUnit) (k : ℕ) (U : ProgramUnit) → AreAt ks units → slice_get c.units k ≡ Some U → AreAt (ks ++ k ∷ []) (units ++ U ∷ [])
  at_push [] [] k U are there = (there, tt)
  at_push [] (V ∷ units) k U are there = absurd are
  at_push (j ∷ ks) [] k U are there = absurd are
  at_push (j ∷ ks) (V ∷ units) k U are there = (are.0, at_push ks units k U are.1 there)

  units_of : (ks : List ℕ) (u : ℕ) (U : ProgramUnit) → slice_get c.units u ≡ Some U → IsNumberWay u ks → (chain : List ProgramUnit) × IsChain c U chain × AreAt ks chain
  units_of [] u U here way = ([], tt, tt)
  units_of (k ∷ ks) u U here way =
      let there : slice_get c.units k ≡ Some (get_or c.units k U) = slice_get-get_or c.units k U way.1 in
      let rest = units_of ks k (get_or c.units k U) there way.2 in
      (get_or c.units k U ∷ rest.0, (held_to c u k U (get_or c.units k U) here there way.0, rest.1), (there, rest.2))

  numbers_of : (chain : List ProgramUnit) (u : ℕ) (U : ProgramUnit) → slice_get c.units u ≡ Some U → IsChain c U chain → (ks : List ℕ) × IsNumberWay u ks × AreAt ks chain
  numbers_of [] u U here is = ([], tt, tt)
  numbers_of (next ∷ chain) u U here is =
      let r = held_from c u U next here is.0 in
      let rest = numbers_of chain r.0 next r.1 is.1 in
      (r.0 ∷ rest.0, (r.2, slice_get_within c.units r.0 next r.1, rest.1), (r.1, rest.2))

  -- a unit whose number is in a list is named there
  named : (before : List ℕ) (units : List ProgramUnit) (k : ℕ) (K : ProgramUnit) → AreAt before units → slice_get c.units k ≡ Some K → is_among before k ≡ true → (i : ℕ) × (i < length units) × ((d : ProgramUnit) → (get_or units i d).name.name ≡ K.name.name)
  named [] units k K are there among = let bad : false ≡ true = among in cc
  named (b ∷ before) [] k K are there among = absurd are
  named (b ∷ before) (B ∷ units) k K are there among = elim (from_or (nat_eq b k) (is_among before k) among) [
    | inl a ↦ (0, omega arith, λ d. itself (nat_same b k a))
    | inr a ↦ (let r = named before units k K are.1 there a in (suc r.0, (let low = r.1 in omega (arith, low)), r.2))
  ]
    where
      some_same : (A B : ProgramUnit) → Some A ≡ Some B → A ≡ B
      some_same A B e = cc

      itself : b ≡ k → B.name.name ≡ K.name.name
      itself same = ap (λ (x : ProgramUnit). x.name.name) (some_same B K (sym are.0 ∙ ap (slice_get c.units) same ∙ there))

  module _ (apart : AreDistinct c) where
    -- and one whose number is not there isn't
    differ : (before : List ℕ) (units : List ProgramUnit) (k : ℕ) (K : ProgramUnit) → AreAt before units → slice_get c.units k ≡ Some K → is_among before k ≡ false → (i : ℕ) (d : ProgramUnit) → i < length units → (get_or units i d).name.name ≢ K.name.name
    differ [] [] k K are there off i d low same = absurd (omega (arith, low))
    differ [] (B ∷ units) k K are there off i d low same = absurd are
    differ (b ∷ before) [] k K are there off i d low same = absurd are
    differ (b ∷ before) (B ∷ units) k K are there off zero d low same =
        let bad : true ≡ false = sym (or_left (nat_eq b k) (is_among before k) (same_nat b k (apart b k B K are.0 there same))) ∙ off in cc
    differ (b ∷ before) (B ∷ units) k K are there off (suc i) d low same = differ before units k K are.1 there (by_test (is_among before k) refl) i d (omega (arith, low)) same
      where
        by_test : (t : Bool) → is_among before k ≡ t → is_among before k ≡ false
        by_test true is = let bad : true ≡ false = sym (or_right (nat_eq b k) (is_among before k) is) ∙ off in cc
        by_test false is = is

    once_to : (ks : List ℕ) (chain : List ProgramUnit) (before : List ℕ) (units : List ProgramUnit) → AreAt before units → AreAt ks chain → NamesNoneTwice units → AreFresh before ks → NamesNoneTwice (units ++ chain)
    once_to [] [] before units are at once fresh = subst NamesNoneTwice (sym (append-nil units)) once
    once_to [] (K ∷ chain) before units are at once fresh = absurd at
    once_to (k ∷ ks) [] before units are at once fresh = absurd at
    once_to (k ∷ ks) (K ∷ chain) before units are at once fresh =
        subst NamesNoneTwice (append_assoc units (K ∷ []) chain)
        (once_to ks chain (before ++ k ∷ []) (units ++ K ∷ []) (at_push before units k K are at.0) at.1
        (all_pairs_push (λ (a b : ProgramUnit). a.name.name ≢ b.name.name) units K once (differ before units k K are at.0 fresh.0)) fresh.1)

    once_from : (ks : List ℕ) (chain : List ProgramUnit) (before : List ℕ) (units : List ProgramUnit) → AreAt before units → AreAt ks chain → NamesNoneTwice (units ++ chain) → AreFresh before ks
    once_from [] chain before units are at once = tt
    once_from (k ∷ ks) [] before units are at once = absurd at
    once_from (k ∷ ks) (K ∷ chain) before units are at once = (by_test (is_among before k) refl, once_from ks chain (before ++ k ∷ []) (units ++ K ∷ []) (at_push before units k K are at.0) at.1 (subst NamesNoneTwice (sym (append_assoc units (K ∷ []) chain)) once))
      where
        twice : (i : ℕ) × (i < length units) × ((d : ProgramUnit) → (get_or units i d).name.name ≡ K.name.name) → ⊥
        twice (i, low, same) =
            let long = length-append units (K ∷ chain) in
            let first : get_or (units ++ K ∷ chain) i K ≡ get_or units i K = get_or_append_left units (K ∷ chain) K i low in
            let second : get_or (units ++ K ∷ chain) (length units) K ≡ K = get_or-append_seam units K chain K in
            once i (length units) K low (within long) (ap (λ (x : ProgramUnit). x.name.name) first ∙ same K ∙ sym (ap (λ (x : ProgramUnit). x.name.name) second))
          where
            within : length (units ++ K ∷ chain) ≡ length units + length (K ∷ chain) → length units < length (units ++ K ∷ chain)
            within e = omega (arith, e)

        by_test : (t : Bool) → is_among before k ≡ t → is_among before k ≡ false
        by_test true is = absurd (twice (named before units k K are at.0 is))
        by_test false is = is

    -- a unit has a long chain where the code finds one
    pub record IsLong (U : ProgramUnit) : Type 0 where
      pub chain : List ProgramUnit
      pub is_chain : IsChain c U chain
      pub once : NamesNoneTwice (U ∷ chain)
      pub long : 16 < length (U ∷ chain)

    alone : (U : ProgramUnit) → NamesNoneTwice (U ∷ [])
    alone U = λ i j d low high. absurd (omega (arith, low, high))

    pub long_to : (u : ℕ) (U : ProgramUnit) → slice_get c.units u ≡ Some U → is_long (length c.units) (uses c true) u ≡ true → IsLong U
    long_to u U here e =
        let way = chain_to (length c.units) (uses c true) u e in
        let r = units_of way.0 u U here way.1 in
        let long = as_many way.0 r.0 r.2 in
        let sixteen = way.2 in
        record { chain = r.0; is_chain = r.1; once = once_to way.0 r.0 (u ∷ []) (U ∷ []) (here, tt) r.2 (alone U) way.3; long = omega (arith, long, sixteen) }

    pub long_from : (u : ℕ) (U : ProgramUnit) (chain : List ProgramUnit) → slice_get c.units u ≡ Some U → IsChain c U chain → NamesNoneTwice (U ∷ chain) → 16 < length (U ∷ chain) → is_long (length c.units) (uses c true) u ≡ true
    long_from u U chain here is once long =
        let r = numbers_of chain u U here is in
        let same = as_many r.0 chain r.2 in
        chain_from (length c.units) (uses c true) u r.0 r.1 (once_from r.0 chain (u ∷ []) (U ∷ []) (here, tt) r.2 once) (omega (arith, same, long))
