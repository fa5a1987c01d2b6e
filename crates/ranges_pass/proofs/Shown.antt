-- What the pass has found at each place of a unit, and what a witness writes of it.
use Rattle.std.proofs.Common.{◌≡◌, ℕ, zero, suc, ◌+◌, ◌<◌, ◌≤◌, ◌⊎◌, inl, inr, List, [], ◌∷◌, ◌++◌, length, Option, Some, None, option_map, refl, sym, ap, ◌∙◌, subst, slice_get, add-one, arith}
use Rattle.std.proofs.lemmas.Bool.{cases_lt}
use Rattle.std.proofs.lemmas.List.{append-nil, append_assoc}
use Rattle.ranges_interval.specs.declared.Interval.{Interval}
use Rattle.il_syntax.specs.declared.tree.Config.{Config}
use Rattle.il_syntax.specs.declared.tree.Unit.{Unit as ProgramUnit}
use Rattle.il_syntax.specs.declared.tree.Step.{Step}
use Rattle.base_maps.specs.NameMap.{NameMap, get}
use Rattle.il_semantics.specs.Annotation.{Knowledge, Annotation, IsVariableWithin, IsResultWithin, IsDeferredWithin, declared_range, IsEntry, IsAnnotatedBelow}
use Rattle.il_statics.specs.Least.{NumberedFault}
use Rattle.ranges_laws.specs.Pass.{Moves, Arrived, advance, passed}
use Rattle.ranges_laws.specs.declared.facts.Facts.{Facts}
use Rattle.ranges_laws.specs.Facts.{Names, facts_join, shown, IsFine}
use Rattle.ranges_laws.specs.Steps.{moves}
use Rattle.ranges_laws.specs.Prepared.{IsPrepared, entry, went_over}
use Rattle.ranges_laws.proofs.Least.{Over, settled, annotation, annotation_is, annotates, lies_below, came, same_some}
use Rattle.ranges_laws.proofs.Joins.{Under}
use Rattle.ranges_laws.proofs.Rows.{row_is, variable_itself}
use Rattle.ranges_laws.proofs.Units.{PassesAt, unit_pass}
use Rattle.ranges_transfer.specs.Tables.{flat}
use Rattle.ranges_transfer.specs.Seen.{arrived_at, shown_to, IsPassedShowing}
use Rattle.load_scope.specs.Units.{InUnit}
use Rattle.ranges_pass.specs.Units.{names_of}
use Rattle.ranges_pass.specs.Judged.{Setting, IsRefusalOf}
use Rattle.ranges_pass.specs.Shown.{IsKnownAt, AreKnown, steps_text, IsShown, step_text, place_text}
use Rattle.ranges_pass.proofs.Verdict.{prepared, from_entry, judged, lacks_at}

-- WHAT HAS ARRIVED IS THE LEAST

module _ (c : Config) (u : ProgramUnit) (names : Names) (declared : List Interval) (ready : IsPrepared c u names declared) where
  entry_fine : IsFine names (entry declared)
  entry_fine = record { row = ready.row; result = tt; deferred = tt }

  entry_known : IsEntry c u (shown names (entry declared))
  entry_known = record { variables = λ q. subst (IsVariableWithin (declared_range c u q)) (sym (row_is names declared q ∙ ready.each q)) (variable_itself (declared_range c u q)); result = refl; deferred = refl }

  entry_over : (a : Annotation) → (first : Knowledge) × (slice_get a 0 ≡ Some (Some first)) × IsEntry c u first → Over (Under names) a 0 (entry declared)
  entry_over a (first, stands, e) = record {
    wide = first;
    stands = stands;
    under = record {
      variables = λ q. subst (λ o. IsVariableWithin o (get first.variables q)) (sym (row_is names declared q ∙ ready.each q)) (e.variables q);
      result = subst (IsResultWithin None) (sym e.result) tt;
      deferred = subst (IsDeferredWithin []) (sym e.deferred) tt;
    };
  }

  -- what arrived, as an annotation
  said : Arrived Facts → Annotation
  said arrived = annotation facts_join (moves names c u) (shown names) (Under names) (IsFine names) (PassesAt c u) (length u.body.steps) (length u.body.steps + 1) (unit_pass c u names declared ready) arrived

  said_is : (arrived : Arrived Facts) (p : ℕ) → p ≤ length u.body.steps → slice_get (said arrived) p ≡ Some (option_map (shown names) (arrived p))
  unfolding said
  said_is arrived p low = annotation_is facts_join (moves names c u) (shown names) (Under names) (IsFine names) (PassesAt c u) (length u.body.steps) (length u.body.steps + 1) (unit_pass c u names declared ready) arrived p (omega arith)

  holds_below : (n : ℕ) (arrived : Arrived Facts) → n ≤ length u.body.steps → went_over c u names declared n ≡ Some arrived → IsAnnotatedBelow c u n (said arrived)
  unfolding said
  holds_below n arrived low e =
      let s = settled facts_join (moves names c u) (shown names) (Under names) (IsFine names) (PassesAt c u) (length u.body.steps) (length u.body.steps + 1) (unit_pass c u names declared ready) (entry declared) entry_fine n arrived low e in
      record {
        entry = (shown names (entry declared), said_is arrived 0 (omega arith) ∙ ap (λ o. Some (option_map (shown names) o)) s.first, entry_known);
        each = λ p l h is. annotates facts_join (moves names c u) (shown names) (Under names) (IsFine names) (PassesAt c u) (length u.body.steps) (length u.body.steps + 1) (unit_pass c u names declared ready) (entry declared) n arrived low s p l h is;
      }

  pub known_at : (n : ℕ) (arrived : Arrived Facts) → n ≤ length u.body.steps → went_over c u names declared n ≡ Some arrived → IsKnownAt c u n (option_map (shown names) (arrived n))
  known_at n arrived low e = by_known (arrived n) refl
    where
      by_known : (o : Option Facts) → arrived n ≡ o → IsKnownAt c u n (option_map (shown names) o)
      by_known None is = (said arrived, holds_below n arrived low e, said_is arrived n low ∙ ap (λ o. Some (option_map (shown names) o)) is)
      by_known (Some k) is = record {
        annotation = said arrived;
        holds = holds_below n arrived low e;
        stands = said_is arrived n low ∙ ap (λ o. Some (option_map (shown names) o)) is;
        below = λ a h.
            let o =
            lies_below facts_join (moves names c u) (shown names) (Under names) (IsFine names) (PassesAt c u) (length u.body.steps) (length u.body.steps + 1) (unit_pass c u names declared ready) a (entry declared) entry_fine (entry_over a h.entry) n arrived low e
            (λ p l b is. h.each p l b is) n k is
            in
            (o.wide, o.stands, o.under);
      }

-- the pass over fewer places
passed_before : {K : Type 0} (join : K → K → Option K) (moves : ℕ → K → Option (Moves K)) (first : K) (n p : ℕ) (arrived : Arrived K) → p ≤ n → passed join moves first n ≡ Some arrived → (a : Arrived K) × (passed join moves first p ≡ Some a)
passed_before join moves first zero p arrived le e = let same : 0 ≡ p = omega arith in (arrived, subst (λ k. passed join moves first k ≡ Some arrived) same e)
passed_before join moves first (suc n) p arrived le e = elim (cases_lt p (suc n)) [
  | inl low ↦ let c = came (advance join moves n) (passed join moves first n) arrived e in passed_before join moves first n p c.from (omega arith) c.was
  | inr high ↦ let same : suc n ≡ p = omega arith in (arrived, subst (λ k. passed join moves first k ≡ Some arrived) same e)
]

-- A LIST OF WHAT IS KNOWN

known_to : (ℕ → Option Knowledge) → ℕ → List (Option Knowledge)
known_to f zero = []
known_to f (suc n) = known_to f n ++ f n ∷ []

length_more : {X : Type 0} (xs : List X) (x : X) → length (xs ++ x ∷ []) ≡ length xs + 1
length_more [] x = refl
length_more (y ∷ xs) x = let h = length_more xs x in omega arith

known_length : (f : ℕ → Option Knowledge) (n : ℕ) → length (known_to f n) ≡ n
unfolding known_to
known_length f zero = refl
known_length f (suc n) = length_more (known_to f n) (f n) ∙ ap (λ k. k + 1) (known_length f n) ∙ add-one n

get_last : {X : Type 0} (xs : List X) (x y : X) (p : ℕ) → slice_get (xs ++ x ∷ []) p ≡ Some y → (slice_get xs p ≡ Some y) ⊎ ((p ≡ length xs) × (x ≡ y))
get_last [] x y zero e = inr (refl, same_some x y e)
get_last [] x y (suc p) e = absurd (let bad : None ≡ Some y = e in cc)
get_last (z ∷ xs) x y zero e = inl e
get_last (z ∷ xs) x y (suc p) e = elim (get_last xs x y p e) [
  | inl h ↦ inl h
  | inr h ↦ inr (ap suc h.0, h.1)
]

known_get : (f : ℕ → Option Knowledge) (n p : ℕ) (k : Option Knowledge) → slice_get (known_to f n) p ≡ Some k → (p < n) × (k ≡ f p)
unfolding known_to
known_get f zero p k e = absurd (let bad : ◌≡◌ {A = Option (Option Knowledge)} None (Some k) = e in cc)
known_get f (suc n) p k e = elim (get_last (known_to f n) (f n) k p e) [
  | inl h ↦ let r = known_get f n p k h in (omega (arith, r.0), r.1)
  | inr h ↦ let at : p ≡ n = h.0 ∙ known_length f n in (omega arith, sym h.1 ∙ ap f (sym at))
]

-- WHAT IS WRITTEN

module _ (shows : Step → Option Knowledge → List ℕ) where
  nothing : (steps : List Step) → steps_text shows steps [] ≡ []
  nothing [] = refl
  nothing (s ∷ steps) = refl

  steps_more : (steps : List Step) (known : List (Option Knowledge)) (k : Option Knowledge) → steps_text shows steps (known ++ k ∷ []) ≡ steps_text shows steps known ++ step_text shows k (slice_get steps (length known))
  steps_more [] known k = refl
  steps_more (s ∷ steps) [] k = ap (λ l. shows s k ++ l) (nothing steps) ∙ append-nil (shows s k)
  steps_more (s ∷ steps) (j ∷ known) k = ap (λ l. shows s j ++ l) (steps_more steps known k) ∙ sym (append_assoc (shows s j) (steps_text shows steps known) (step_text shows k (slice_get steps (length known))))

  texts_are : (n : Names) (steps : List Step) (found : ℕ → Option Facts) (m : ℕ) → shown_to (place_text shows n steps) found m ≡ steps_text shows steps (known_to (λ p. option_map (shown n) (found p)) m)
  unfolding known_to
  texts_are n steps found zero = sym (nothing steps)
  texts_are n steps found (suc m) =
      let f : ℕ → Option Knowledge = λ p. option_map (shown n) (found p) in
      ap (λ l. l ++ place_text shows n steps m (found m)) (texts_are n steps found m) ∙ ap (λ k. steps_text shows steps (known_to f m) ++ step_text shows (f m) (slice_get steps k)) (sym (known_length f m)) ∙ sym (steps_more steps (known_to f m) (f m))

-- WHAT THE PASS OVER A UNIT SHOWED

module _ (n : Names) (declared : List Interval) (s : Setting n declared) (first : Facts) (first_is : first ≡ entry declared) (count : ℕ) (count_is : count ≡ length n.unit.body.steps) where
  found_at : ℕ → Option Facts
  found_at = arrived_at facts_join (moves n n.config n.unit) first

  known_of : ℕ → Option Knowledge
  known_of p = option_map (shown n) (found_at p)

  known_is : (p : ℕ) (arrived : Arrived Facts) → passed facts_join (moves n n.config n.unit) first p ≡ Some arrived → known_of p ≡ option_map (shown n) (arrived p)
  unfolding known_of found_at
  known_is p arrived e = ap (λ o. option_map (shown n) (flat (option_map (λ (x : Arrived Facts). x p) o))) e

  known_each : (m : ℕ) → m ≤ count + 1 → ((p : ℕ) → p < m → (arrived : Arrived Facts) × (passed facts_join (moves n n.config n.unit) first p ≡ Some arrived)) → AreKnown n.config n.unit (known_to known_of m)
  known_each m low each p k e =
      let g = known_get known_of m p k e in
      let a = each p g.0 in
      let inside : p ≤ length n.unit.body.steps = omega (arith, g.0, count_is) in
      subst (IsKnownAt n.config n.unit p) (sym (g.1 ∙ known_is p a.0 a.1)) (known_at n.config n.unit n declared (prepared n declared s) p a.0 inside (from_entry n declared s first first_is count count_is p a.0 a.1))

  texts_of : (shows : Step → Option Knowledge → List ℕ) (steps : List Step) → steps ≡ n.unit.body.steps → (old new : List ℕ) (m : ℕ) → new ≡ old ++ shown_to (place_text shows n steps) (arrived_at facts_join (moves n n.config n.unit) first) m
      → new ≡ old ++ steps_text shows n.unit.body.steps (known_to known_of m)
  unfolding known_of found_at
  texts_of shows steps same old new m is = is ∙ ap (λ l. old ++ l) (texts_are shows n steps found_at m) ∙ ap (λ ss. old ++ steps_text shows ss (known_to known_of m)) same

  pub shows_unit : (shows : Step → Option Knowledge → List ℕ) (steps : List Step) → steps ≡ n.unit.body.steps → (old new : List ℕ) (o : Option NumberedFault)
      → IsPassedShowing facts_join (moves n n.config n.unit) (λ place f r. IsRefusalOf n place f r) first count (place_text shows n steps) old new o → IsShown n.config n.unit shows old new o
  shows_unit shows steps same old new None (over, is) = (
    known_to known_of count,
    (
      known_each count (omega arith) (λ p low. passed_before facts_join (moves n n.config n.unit) first count p over.0 (omega arith) over.1),
      known_length known_of count ∙ count_is,
      judged n declared s first first_is count count_is None over,
    ),
    texts_of shows steps same old new count is,
  )
  shows_unit shows steps same old new (Some r) (at, is) =
      let lacks = lacks_at n declared s first first_is count count_is r at in
      let below : at.place + 1 ≤ count + 1 = omega (arith, at.inside) in (
        known_to known_of (at.place + 1),
        (
          known_each (at.place + 1) below (λ p low. passed_before facts_join (moves n n.config n.unit) first at.place p at.arrived (omega arith) at.before),
          (lacks.0, known_length known_of (at.place + 1) ∙ ap (λ k. k + 1) (sym lacks.1)),
        ),
        texts_of shows steps same old new (at.place + 1) is,
      )

-- the same, by the unit and the configuration that were given
pub shown_in : (c : Config) (u : ProgramUnit) (v : InUnit) (n : Names) (numbers : NameMap ℕ) (declared : List Interval) (shows : Step → Option Knowledge → List ℕ) (old new : List ℕ) (o : Option NumberedFault)
    → v.config ≡ c → v.unit ≡ u → n ≡ names_of v numbers declared → IsShown n.config n.unit shows old new o → IsShown c u shows old new o
shown_in c u v n numbers declared shows old new o same also is j =
    subst (λ x. IsShown c x shows old new o) also (subst (λ d. IsShown d v.unit shows old new o) same (subst (λ (m : Names). IsShown m.config m.unit shows old new o) is j))
