-- What is reported of units, one more at a time.
use Rattle.std.proofs.Common.{◌≡◌, ℕ, zero, suc, ◌+◌, List, [], ◌∷◌, ◌++◌, take, Some, None, refl, sym, ap, ◌∙◌, subst, slice_get, arith}
use Rattle.std.proofs.lemmas.List.{append-nil, append_assoc}
use Rattle.il_syntax.specs.declared.tree.Config.{Config}
use Rattle.il_syntax.specs.declared.tree.Place.{Place}
use Rattle.il_syntax.specs.declared.tree.Unit.{Unit as ProgramUnit}
use Rattle.ranges_pass.specs.declared.fault.RangeFault.{RangeFault}
use Rattle.reasons_ranges.specs.RangeReasons.{IsUnitTold, AreUnitsTold}

units_more : (c : Config) (f : RangeFault) (p : Place) (units : List ProgramUnit) (u : ProgramUnit) (text one : List ℕ) → AreUnitsTold c f p units text → IsUnitTold c u f p one → AreUnitsTold c f p (units ++ u ∷ []) (text ++ one)
units_more c f p [] u text one before here = (one, [], here, refl, ap (λ l. l ++ one) before ∙ sym (append-nil one))
units_more c f p (x ∷ units) u text one (first, rest, shown, more, is) here = (first, rest ++ one, shown, units_more c f p units u rest one more here, ap (λ l. l ++ one) is ∙ append_assoc first rest one)

take_next : {X : Type 0} (xs : List X) (i : ℕ) (x : X) → slice_get xs i ≡ Some x → take (i + 1) xs ≡ take i xs ++ x ∷ []
take_next [] i x at = let no : None ≡ Some x = at in cc
take_next (y ∷ xs) zero x at = let same : y ≡ x = cc in ap (λ z. z ∷ []) same
take_next (y ∷ xs) (suc i) x at = let next : suc i + 1 ≡ suc (i + 1) = omega arith in ap (λ n. take n (y ∷ xs)) next ∙ ap (λ l. y ∷ l) (take_next xs i x at)

-- one unit more
pub units_next : (c : Config) (f : RangeFault) (p : Place) (units : List ProgramUnit) (i : ℕ) (u : ProgramUnit) (text new one : List ℕ) → slice_get units i ≡ Some u → AreUnitsTold c f p (take i units) text → IsUnitTold c u f p one → new ≡ text ++ one → AreUnitsTold c f p (take (i + 1) units) new
units_next c f p units i u text new one at before here is = subst (λ us. AreUnitsTold c f p us new) (sym (take_next units i u at)) (subst (AreUnitsTold c f p (take i units ++ u ∷ [])) (sym is) (units_more c f p (take i units) u text one before here))
