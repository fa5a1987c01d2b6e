-- The texts of units, one more at a time.
use Rattle.std.proofs.Common.{◌≡◌, ℕ, zero, suc, ◌+◌, List, [], ◌∷◌, ◌++◌, take, Option, Some, None, Result, Ok, Err, refl, sym, ap, ◌∙◌, subst, slice_get, arith}
use Rattle.std.specs.Prelude.{is_ok, if◌then◌else◌, OnOk}
use Rattle.std.proofs.lemmas.List.{append-nil, append_assoc}
use Rattle.base_json.specs.declared.form.Form.{Form}
use Rattle.il_syntax.specs.declared.tree.Config.{Config}
use Rattle.il_syntax.specs.declared.tree.Unit.{Unit as ProgramUnit}
use Rattle.show_names.specs.RangeTexts.{IsUnitShown, AreUnitsShown}

units_more : (form : Form) (source : Option (List ℕ)) (c : Config) (units : List ProgramUnit) (u : ProgramUnit) (text one : List ℕ) → AreUnitsShown form source c units text → IsUnitShown form source c u one → AreUnitsShown form source c (units ++ u ∷ []) (text ++ one)
units_more form source c [] u text one before here = (one, [], here, refl, ap (λ l. l ++ one) before ∙ sym (append-nil one))
units_more form source c (x ∷ units) u text one (first, rest, shown, more, is) here = (first, rest ++ one, shown, units_more form source c units u rest one more here, ap (λ l. l ++ one) is ∙ append_assoc first rest one)

take_next : {X : Type 0} (xs : List X) (i : ℕ) (x : X) → slice_get xs i ≡ Some x → take (i + 1) xs ≡ take i xs ++ x ∷ []
take_next [] i x at = let no : None ≡ Some x = at in cc
take_next (y ∷ xs) zero x at = let same : y ≡ x = cc in ap (λ z. z ∷ []) same
take_next (y ∷ xs) (suc i) x at = let next : suc i + 1 ≡ suc (i + 1) = omega arith in ap (λ n. take n (y ∷ xs)) next ∙ ap (λ l. y ∷ l) (take_next xs i x at)

-- one unit more
pub units_next : (form : Form) (source : Option (List ℕ)) (c : Config) (units : List ProgramUnit) (i : ℕ) (u : ProgramUnit) (text new one : List ℕ) → slice_get units i ≡ Some u → AreUnitsShown form source c (take i units) text → IsUnitShown form source c u one → new ≡ text ++ one → AreUnitsShown form source c (take (i + 1) units) new
units_next form source c units i u text new one at before here is = subst (λ us. AreUnitsShown form source c us new) (sym (take_next units i u at)) (subst (AreUnitsShown form source c (take i units ++ u ∷ [])) (sym is) (units_more form source c (take i units) u text one before here))

-- the parts of a unit's text, one after the other
pub parts_joined : (old heading steps refused : List ℕ) → ((old ++ heading) ++ steps) ++ refused ≡ old ++ (heading ++ (steps ++ refused))
parts_joined old heading steps refused = append_assoc (old ++ heading) steps refused ∙ append_assoc old heading (steps ++ refused)

-- two texts that are put, the second by a push
pub put_last : {A E : Type 0} (r : Result A E) (old mid new front last : List ℕ) → mid ≡ old ++ front → new ≡ (if is_ok r then mid ++ last else mid) → OnOk r (new ≡ old ++ (front ++ last))
put_last (Ok a) old mid new front last is e = e ∙ ap (λ l. l ++ last) is ∙ append_assoc old front last
put_last (Err why) old mid new front last is e = tt
