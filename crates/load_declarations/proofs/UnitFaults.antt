-- The first faults of units, one unit after another.
use Rattle.std.proofs.Common.{◌≡◌, ℕ, zero, suc, ◌+◌, ◌<◌, ◌≤◌, inl, inr, List, [], ◌∷◌, ◌++◌, take, length, get_or, Option, Some, None, refl, sym, ap, subst, arith}
use Rattle.std.specs.Prelude.{Contains}
use Rattle.std.proofs.lemmas.List.Elements.{Contains-append_right}
use Rattle.il_syntax.specs.declared.tree.Place.{Place}
use Rattle.il_statics.specs.Least.{NumberedFault, IsLeast}
use Rattle.load_scope.proofs.Filled.{take_next, take_all}
use Rattle.load_declarations.specs.declared.per_unit.UnitFault.{UnitFault}
use Rattle.load_declarations.specs.UnitFaults.{AreFirst, listed}

module _ {A : Type 0} (rule : A → ℕ → Place → Type 0) where
  -- one unit
  first_one : (unit : A) (found : Option NumberedFault) → IsLeast found (rule unit) → AreFirst rule (unit ∷ []) (listed found)
  first_one unit None least = inl (least.none refl, refl)
  first_one unit (Some f) least = inr (record { number = f.number; place = f.place }, [], refl, record { broken = least.holds f refl; first = least.first f refl }, refl)

  -- one unit after others
  first_last : (units : List A) (unit : A) (faults : List UnitFault) (found : Option NumberedFault) → AreFirst rule units faults → IsLeast found (rule unit) → AreFirst rule (units ++ unit ∷ []) (faults ++ listed found)
  first_last [] unit faults found none least = subst (λ fs. AreFirst rule (unit ∷ []) (fs ++ listed found)) (sym none) (first_one unit found least)
  first_last (u ∷ units) unit faults found (inl (well, rest)) least = inl (well, first_last units unit faults found rest least)
  first_last (u ∷ units) unit faults found (inr (f, others, are, is, rest)) least =
      inr (f, others ++ listed found, ap (λ fs. fs ++ listed found) are, is, first_last units unit others found rest least)

  -- what a loop keeps: the units up to a place, and one more
  pub first_next : (rows units : List A) (at : ℕ) (unit : A) (faults new : List UnitFault) (found : Option NumberedFault) → rows ≡ units → at < length rows → unit ≡ get_or rows at unit → IsLeast found (rule unit) → new ≡ faults ++ listed found
      → AreFirst rule (take at units) faults → AreFirst rule (take (at + 1) units) new
  first_next rows units at unit faults new found same low there least is before =
      subst (λ fs. AreFirst rule (take (at + 1) units) fs) (sym is)
      (subst (λ us. AreFirst rule us (faults ++ listed found)) (sym (take_next units at unit (subst (λ l. at < length l) same low) (subst (λ l. unit ≡ get_or l at unit) same there)))
      (first_last (take at units) unit faults found before least))

  -- each of them is a fault of a unit
  pub first_broken : (units : List A) (faults : List UnitFault) → AreFirst rule units faults → (f : UnitFault) → Contains faults f → (unit : A) × Contains units unit × rule unit f.number f.place
  first_broken [] faults none f among = by_none (subst (λ fs. Contains fs f) none among)
    where
      by_none : Contains [] f → (unit : A) × Contains [] unit × rule unit f.number f.place
      by_none (k, low, e) = absurd (omega arith)
  first_broken (u ∷ units) faults (inl (well, rest)) f among = let r = first_broken units faults rest f among in (r.0, Contains-append_right (u ∷ []) units r.0 r.1, r.2)
  first_broken (u ∷ units) faults (inr (first, others, are, is, rest)) f among = by_place (first_broken units others rest f) (subst (λ fs. Contains fs f) are among)
    where
      by_place : (Contains others f → (unit : A) × Contains units unit × rule unit f.number f.place) → Contains (first ∷ others) f → (unit : A) × Contains (u ∷ units) unit × rule unit f.number f.place
      by_place further (zero, low, e) = (u, (0, omega arith, refl), subst (λ g. rule u g.number g.place) e is.broken)
      by_place further (suc k, low, e) = let r = further (k, omega (arith, low), e) in (r.0, Contains-append_right (u ∷ []) units r.0 r.1, r.2)

  -- and at its end all of them
  pub first_all : (rows units : List A) (at : ℕ) (faults : List UnitFault) → rows ≡ units → length rows ≤ at → AreFirst rule (take at units) faults → AreFirst rule units faults
  first_all rows units at faults same high before =
      let end : length units ≤ at = subst (λ l. length l ≤ at) same high in
      subst (λ us. AreFirst rule us faults) (take_all units at (omega (arith, end))) before
