-- What an observer writes, place by place.
use Rattle.std.proofs.Common.{◌≡◌, ℕ, ◌+◌, ◌<◌, List, ◌++◌, get_or, Option, Some, None, option_map, true, false, sym, ap, ◌∙◌, subst, add-one, arith}
use Rattle.std.specs.Prelude.{is_some}
use Rattle.std.proofs.lemmas.List.{append_assoc}
use Rattle.ranges_laws.specs.Pass.{Moves, Arrived}
use Rattle.ranges_transfer.specs.Tables.{flat, held, IsAt, IsStepped}
use Rattle.ranges_transfer.specs.Seen.{arrived_at, shown_to, IsPassedShowing}
use Rattle.ranges_transfer.proofs.Tables.{held_is}

-- what waits at a place is what has arrived there
waits : {K : Type 0} (join : K → K → Option K) (moves : ℕ → K → Option (Moves K)) (entry : K) (count place : ℕ) (table : List (Option K)) → IsAt join moves entry count place table → place < count → held table place ≡ arrived_at join moves entry place
waits {K = K} join moves entry count place table at low =
    at.stands.same place (omega arith) (omega (arith, at.long)) ∙ sym (ap (λ o. flat (option_map (λ (arrived : Arrived K). arrived place) o)) at.passed_is)

-- one place more
pub shown_more : {K : Type 0} (join : K → K → Option K) (moves : ℕ → K → Option (Moves K)) (entry : K) (count place : ℕ) (table : List (Option K)) (shows now : ℕ → Option K → List ℕ) (item : Option K) (old text new : List ℕ)
    → IsAt join moves entry count place table → place < count → item ≡ get_or table place item → now ≡ shows → text ≡ old ++ shown_to shows (arrived_at join moves entry) place → new ≡ text ++ now place item
    → new ≡ old ++ shown_to shows (arrived_at join moves entry) (place + 1)
shown_more {K = K} join moves entry count place table shows now item old text new at low is same before e =
    let there : item ≡ arrived_at join moves entry place = sym (held_is table place item (omega (arith, at.long)) is) ∙ waits join moves entry count place table at low in
    e ∙ ap (λ (f : ℕ → Option K → List ℕ). text ++ f place item) same ∙ ap (λ o. text ++ shows place o) there ∙ ap (λ l. l ++ shows place (arrived_at join moves entry place)) before
    ∙ append_assoc old (shown_to shows (arrived_at join moves entry) place) (shows place (arrived_at join moves entry place)) ∙ ap (λ n. old ++ shown_to shows (arrived_at join moves entry) n) (sym (add-one place))

-- a pass that stops at a place, and one that is over
pub stopped_showing : {K R : Type 0} (join : K → K → Option K) (moves : ℕ → K → Option (Moves K)) (refuses : ℕ → K → R → Type 0) (entry : K) (count place : ℕ) (table new : List (Option K)) (shows : ℕ → Option K → List ℕ) (old text : List ℕ) (o : Option R)
    → place < count → IsAt join moves entry count place table → IsStepped join moves refuses place table new o → is_some o ≡ true → text ≡ old ++ shown_to shows (arrived_at join moves entry) (place + 1)
    → IsPassedShowing join moves refuses entry count shows old text o
stopped_showing join moves refuses entry count place table new shows old text None low at s e is = let bad : false ≡ true = e in cc
stopped_showing join moves refuses entry count place table new shows old text (Some r) low at s e is = (
  record {
    place = place;
    arrived = at.arrived;
    facts = s.facts;
    inside = low;
    before = at.passed_is;
    none = s.none at.arrived at.stands;
    arrived_is = sym (at.stands.same place (omega arith) (omega (arith, at.long))) ∙ s.holds;
    reason = s.reason;
  },
  is,
)

pub over_showing : {K : Type 0} (join : K → K → Option K) (moves : ℕ → K → Option (Moves K)) (entry : K) (count place : ℕ) (table : List (Option K)) (shows : ℕ → Option K → List ℕ) (old text : List ℕ)
    → IsAt join moves entry count place table → place ≡ count → text ≡ old ++ shown_to shows (arrived_at join moves entry) place → text ≡ old ++ shown_to shows (arrived_at join moves entry) count
over_showing join moves entry count place table shows old text at e is = subst (λ n. text ≡ old ++ shown_to shows (arrived_at join moves entry) n) e is
