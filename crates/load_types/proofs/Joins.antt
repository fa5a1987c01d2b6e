-- What arrives at a place is what all control paths to it give.
use Rattle.std.proofs.Common.{◌≡◌, ◌≢◌, ℕ, zero, suc, ◌+◌, ◌<◌, ◌≤◌, ◌⊎◌, inl, inr, Bool, true, false, if◌then◌else◌, List, [], ◌∷◌, ◌++◌, length, Option, Some, None, refl, sym, ap, ◌∙◌, subst, slice_get, arith}
use Rattle.std.specs.Prelude.{IsTrue, nat_lt, slice_set}
use Rattle.std.proofs.lemmas.Bool.{eqb-true, ltb-true, lt-ltb}
use Rattle.std.proofs.lemmas.Bool.Decides.{eqb_tells}
use Rattle.il_syntax.specs.declared.tree.Config.{Config}
use Rattle.il_syntax.specs.declared.tree.Unit.{Unit as ProgramUnit}
use Rattle.il_syntax.specs.declared.tree.Body.{Body}
use Rattle.il_syntax.specs.declared.tree.Step.{Step}
use Rattle.il_syntax.specs.declared.tree.Named.{Named}
use Rattle.il_syntax.specs.declared.tree.Condition.{Condition}
use Rattle.il_syntax.specs.declared.tree.Elementary.{Elementary}
use Rattle.il_syntax.specs.declared.tree.Instruction.{Instruction}
use Rattle.il_syntax.specs.declared.tree.Instruction.TheVariants.{Jump}
use Rattle.il_syntax.specs.ElementaryTypes.{is_same_type}
use Rattle.il_statics.specs.Types.{type_behind, goes_on, label_place, StandsAt, Follows, onward, jumped, Leads, IsReached, IsResultAt}
use Rattle.il_statics.proofs.Alike.{same_type, type_same}
use Rattle.il_statics.proofs.Passes.{one_result, leads_on, last_step, join_of_paths, paths_of_join, GivesBehind}
use Rattle.load_types.specs.declared.arrival.Arrival.{Arrival}
use Rattle.load_types.specs.declared.arrival.Arrival.TheVariants.{Unreached, Reached}
use Rattle.load_types.specs.Arrivals.{join, met, or_unreached, held, arrive, arrive_any, ahead, target_of, next_of, hand_on, result_at}

-- TYPES

same_some : {A : Type 0} (x y : A) → Some x ≡ Some y → x ≡ y
same_some x y e = cc

-- none is no type
none_some : (g : Elementary) (r : Option Elementary) → r ≡ None → r ≡ Some g → ⊥
none_some g r a b = let bad : None ≡ Some g = sym a ∙ b in cc

-- LISTS

-- what is where something was written
set_same : (xs : List Arrival) (i : ℕ) (r : Option Elementary) (x : Arrival) → slice_get (slice_set xs i (met (or_unreached (slice_get xs i)) r)) i ≡ Some x → (y : Arrival) × (slice_get xs i ≡ Some y) × (met y r ≡ x)
set_same xs i r x e = by_old xs i (slice_get xs i) refl e
  where
    by_old : (xs : List Arrival) (i : ℕ) (o : Option Arrival) → slice_get xs i ≡ o → slice_get (slice_set xs i (met (or_unreached o) r)) i ≡ Some x → (y : Arrival) × (slice_get xs i ≡ Some y) × (met y r ≡ x)
    by_old [] i o is e = absurd (let bad : None ≡ Some x = e in cc)
    by_old (y ∷ xs) zero o is e = (y, refl, ap (λ p. met (or_unreached p) r) is ∙ same_some (met (or_unreached o) r) x e)
    by_old (y ∷ xs) (suc i) o is e = by_old xs i o is e

set_other : (xs : List Arrival) (i j : ℕ) (a : Arrival) → j ≢ i → slice_get (slice_set xs i a) j ≡ slice_get xs j
set_other [] i j a h = refl
set_other (x ∷ xs) zero zero a h = absurd (h refl)
set_other (x ∷ xs) zero (suc j) a h = refl
set_other (x ∷ xs) (suc i) zero a h = refl
set_other (x ∷ xs) (suc i) (suc j) a h = set_other xs i j a (λ e. h (ap suc e))

pub set_length : (xs : List Arrival) (i : ℕ) (a : Arrival) → length (slice_set xs i a) ≡ length xs
set_length [] i a = refl
set_length (x ∷ xs) zero a = refl
set_length (x ∷ xs) (suc i) a = ap suc (set_length xs i a)

-- EDGES

-- those from places below a place
abbrev pub Below : Body → ℕ → ℕ → ℕ → Type 0
Below body n from to = (from < n) × Follows body from to

-- and one more
abbrev With : (ℕ → ℕ → Type 0) → ℕ → ℕ → ℕ → ℕ → Type 0
With Edge at target from to = Edge from to ⊎ ((from ≡ at) × (to ≡ target))

-- and one more, if there is one
abbrev WithAny : (ℕ → ℕ → Type 0) → ℕ → Option ℕ → ℕ → ℕ → Type 0
WithAny Edge at target from to = Edge from to ⊎ ((from ≡ at) × (target ≡ Some to))

follows_up : (body : Body) (from to : ℕ) → Follows body from to → from < to
follows_up body from to (onward s stands on next) = omega arith
follows_up body from to (jumped s label jumps known up) = up

ahead_is : (at to : ℕ) → at < to → ahead at (Some to) ≡ Some to
ahead_is at to up = ap (λ b. if b then Some to else None) (lt-ltb at to up)

-- what follows a place, as the pass finds it
follows_cases : (body : Body) (at to : ℕ) (step : Step) → StandsAt body at step → Follows body at to → (next_of at (goes_on step.instruction) ≡ Some to) ⊎ (target_of body at step.instruction ≡ Some to)
follows_cases body at to step stands (onward s there on next) =
    let same : s ≡ step = same_some s step (sym there ∙ stands) in
    inl (subst (λ x. next_of at (goes_on x.instruction) ≡ Some to) same (on_is (goes_on s.instruction) on ∙ ap Some (sym next)))
  where
    on_is : (b : Bool) → IsTrue b → next_of at b ≡ Some (at + 1)
    on_is true t = refl
    on_is false t = absurd (let bad : false ≡ true = t in cc)
follows_cases body at to step stands (jumped s label jumps known up) =
    let same : s ≡ step = same_some s step (sym jumps.stands ∙ stands) in
    inr (subst (λ x. target_of body at x.instruction ≡ Some to) same (ap (target_of body at) jumps.jumps ∙ ap (ahead at) known ∙ ahead_is at to up))

next_follows : (body : Body) (at to : ℕ) (step : Step) → StandsAt body at step → next_of at (goes_on step.instruction) ≡ Some to → Follows body at to
next_follows body at to step stands e = by_on (goes_on step.instruction) refl e
  where
    by_on : (b : Bool) → goes_on step.instruction ≡ b → next_of at b ≡ Some to → Follows body at to
    by_on true on e = onward step stands on (sym (same_some (at + 1) to e))
    by_on false on e = absurd (let bad : None ≡ Some to = e in cc)

target_follows : (body : Body) (at to : ℕ) (step : Step) → StandsAt body at step → target_of body at step.instruction ≡ Some to → Follows body at to
target_follows body at to step stands e = by_kind step.instruction refl e
  where
    by_place : (condition : Condition) (label : Named) → step.instruction ≡ Jump condition label → (o : Option ℕ) → label_place body label.name ≡ o → ahead at o ≡ Some to → Follows body at to
    by_place condition label is None known e = absurd (let bad : None ≡ Some to = e in cc)
    by_place condition label is (Some p) known e = by_less (nat_lt at p) refl e
      where
        by_less : (b : Bool) → nat_lt at p ≡ b → (if b then Some p else None) ≡ Some to → Follows body at to
        by_less true less e =
            let same : p ≡ to = same_some p to e in
            jumped step label (record { stands = stands; condition = condition; jumps = is }) (known ∙ ap Some same) (subst (λ k. at < k) same (ltb-true at p less))
        by_less false less e = absurd (let bad : None ≡ Some to = e in cc)

    by_kind : (i : Instruction) → step.instruction ≡ i → target_of body at i ≡ Some to → Follows body at to
    by_kind (Jump condition label) is e = by_place condition label is (label_place body label.name) refl e
    by_kind _ is e = absurd (let bad : None ≡ Some to = e in cc)

module _ (config : Config) (unit : ProgramUnit) where
  -- a place is reached, and gives this type after it
  pub record Hands (at : ℕ) (after : Option Elementary) : Type 0 where
    pub reached : IsReached unit.body at
    pub before : Option Elementary
    pub is : IsResultAt config unit at before
    pub gives : type_behind config unit at before ≡ after

  -- each reached place that leads to a place gives this type after it
  abbrev pub AllBring : (ℕ → ℕ → Type 0) → ℕ → Elementary → Type 0
  AllBring Edge to given = (from : ℕ) → Edge from to → IsReached unit.body from → GivesBehind config unit from given

  pub record SomeBrings (Edge : ℕ → ℕ → Type 0) (to : ℕ) : Type 0 where
    pub from : ℕ
    pub edge : Edge from to
    pub reached : IsReached unit.body from

  abbrev pub AreBrought : (ℕ → ℕ → Type 0) → ℕ → Option Elementary → Type 0
  AreBrought Edge to (Some given) = AllBring Edge to given
  AreBrought Edge to None = (given : Elementary) → ¬ AllBring Edge to given

  -- what comes to a place by these edges
  abbrev pub IsBrought : (ℕ → ℕ → Type 0) → ℕ → Arrival → Type 0
  IsBrought Edge to Unreached = (from : ℕ) → Edge from to → ¬ IsReached unit.body from
  IsBrought Edge to (Reached result) = SomeBrings Edge to × AreBrought Edge to result

  -- what is at a place
  abbrev pub IsArrived : ℕ → Arrival → Type 0
  IsArrived at Unreached = ¬ IsReached unit.body at
  IsArrived at (Reached result) = IsReached unit.body at × IsResultAt config unit at result

  same_gives : (m : ℕ) (g h : Elementary) → GivesBehind config unit m g → GivesBehind config unit m h → g ≡ h
  same_gives m g h a b =
      let same : a.result ≡ b.result = one_result config unit m b.result b.is a.result a.is in
      same_some g h (sym a.gives ∙ ap (type_behind config unit m) same ∙ b.gives)

  hands_give : (m : ℕ) (r : Option Elementary) (g : Elementary) → Hands m r → GivesBehind config unit m g → r ≡ Some g
  hands_give m r g h b =
      let same : h.before ≡ b.result = one_result config unit m b.result b.is h.before h.is in
      sym h.gives ∙ ap (type_behind config unit m) same ∙ b.gives

  gives_hands : (m : ℕ) (g : Elementary) → Hands m (Some g) → GivesBehind config unit m g
  gives_hands m g h = record { result = h.before; is = h.is; gives = h.gives }

  -- by edges that are the same from reached places
  brought_same : (Edge Other : ℕ → ℕ → Type 0) (to : ℕ) → ((from : ℕ) → Edge from to → Other from to) → ((from : ℕ) → Other from to → IsReached unit.body from → Edge from to) → (x : Arrival) → IsBrought Edge to x → IsBrought Other to x
  brought_same Edge Other to up down Unreached b = λ from e reached. b from (down from e reached) reached
  brought_same Edge Other to up down (Reached (Some g)) b = (record { from = b.0.from; edge = up b.0.from b.0.edge; reached = b.0.reached }, λ from e reached. b.1 from (down from e reached) reached)
  brought_same Edge Other to up down (Reached None) b = (record { from = b.0.from; edge = up b.0.from b.0.edge; reached = b.0.reached }, λ g all. b.1 g (λ from e. all from (up from e)))

  module _ (Edge : ℕ → ℕ → Type 0) (at to : ℕ) where
    from_here : (r : Option Elementary) → Hands at r → SomeBrings (With Edge at to) to
    from_here r h = record { from = at; edge = inr (refl, refl); reached = h.reached }

    -- what this place gives, all give
    given_here : (r : Option Elementary) (g : Elementary) → Hands at r → AllBring (With Edge at to) to g → r ≡ Some g
    given_here r g h all = hands_give at r g h (all at (inr (refl, refl)) h.reached)

    all_with : (g : Elementary) → Hands at (Some g) → AllBring Edge to g → AllBring (With Edge at to) to g
    all_with g h all from e reached = elim e [ inl x ↦ all from x reached | inr y ↦ subst (λ k. GivesBehind config unit k g) (sym y.0) (gives_hands at g h) ]

    first : (r : Option Elementary) → ((from : ℕ) → Edge from to → ¬ IsReached unit.body from) → Hands at r → AreBrought (With Edge at to) to r
    first (Some g) nothing h = all_with g h (λ from e reached. absurd (nothing from e reached))
    first None nothing h = λ g all. none_some g None refl (given_here None g h all)

    joined : (t r : Option Elementary) → SomeBrings Edge to → AreBrought Edge to t → Hands at r → AreBrought (With Edge at to) to (join t r)
    joined (Some a) (Some b) s all h = by_same (is_same_type a b) refl
      where
        by_same : (c : Bool) → is_same_type a b ≡ c → AreBrought (With Edge at to) to (if c then Some a else None)
        by_same true same = all_with a (subst (λ x. Hands at (Some x)) (sym (same_type a b same)) h) all
        by_same false differs = λ g both.
            let of_a : a ≡ g = same_gives s.from a g (all s.from s.edge s.reached) (both s.from (inl s.edge) s.reached) in
            let of_b : b ≡ g = same_some b g (given_here (Some b) g h both) in
            let bad : false ≡ true = sym differs ∙ type_same a b (of_a ∙ sym of_b) in cc
    joined (Some a) None s all h = λ g both. none_some g None refl (given_here None g h both)
    joined None r s none h = λ g both. none g (λ from e reached. both from (inl e) reached)

    -- one place more leads there
    brought_here : (x : Arrival) (r : Option Elementary) → IsBrought Edge to x → Hands at r → IsBrought (With Edge at to) to (met x r)
    brought_here Unreached r b h = (from_here r h, first r b h)
    brought_here (Reached t) r b h = (from_here r h, joined t r b.0 b.1 h)

  -- TABLES

  -- a table has what comes by these edges
  abbrev pub IsTable : (ℕ → ℕ → Type 0) → ℕ → List Arrival → Type 0
  IsTable Edge low table = (place : ℕ) (x : Arrival) → low ≤ place → 0 < place → slice_get table place ≡ Some x → IsBrought Edge place x

  arrive_is : (Edge : ℕ → ℕ → Type 0) (low : ℕ) (table : List Arrival) (at to : ℕ) (r : Option Elementary) → IsTable Edge low table → Hands at r → IsTable (With Edge at to) low (arrive table to r)
  arrive_is Edge low table at to r is h place x le up e = elim (eqb_tells place to) [
    | inl y ↦
        let old = set_same table to r x (ap (slice_get (arrive table to r)) (sym y.1) ∙ e) in
        let was : IsBrought Edge place old.0 = is place old.0 le up (ap (slice_get table) y.1 ∙ old.1) in
        subst (λ k. IsBrought (With Edge at to) k x) (sym y.1) (subst (IsBrought (With Edge at to) to) old.2 (brought_here Edge at to old.0 r (subst (λ k. IsBrought Edge k old.0) y.1 was) h))
    | inr n ↦
        brought_same Edge (With Edge at to) place (λ from d. inl d) (λ from d reached. elim d [ inl p ↦ p | inr q ↦ absurd (n.1 q.1) ]) x
        (is place x le up (sym (set_other table to place (met (held table to) r) n.1) ∙ e))
  ]

  table_same : (Edge Other : ℕ → ℕ → Type 0) (low : ℕ) (table : List Arrival) → ((from to : ℕ) → Edge from to → Other from to) → ((from to : ℕ) → Other from to → IsReached unit.body from → Edge from to) → IsTable Edge low table → IsTable Other low table
  table_same Edge Other low table up down is place x le pos e = brought_same Edge Other place (λ from. up from place) (λ from. down from place) x (is place x le pos e)

  any_is : (Edge : ℕ → ℕ → Type 0) (low : ℕ) (table : List Arrival) (at : ℕ) (o : Option ℕ) (r : Option Elementary) → IsTable Edge low table → Hands at r → IsTable (WithAny Edge at o) low (arrive_any table o r)
  any_is Edge low table at None r is h = table_same Edge (WithAny Edge at None) low table (λ from to e. inl e) (λ from to e reached. elim e [ inl x ↦ x | inr y ↦ absurd (none_place to y.1) ]) is
    where
      none_place : (to : ℕ) → None ≡ Some to → ⊥
      none_place to e = cc
  any_is Edge low table at (Some to) r is h =
      table_same (With Edge at to) (WithAny Edge at (Some to)) low (arrive table to r)
      (λ from p e. elim e [ inl x ↦ inl x | inr y ↦ inr (y.0, ap Some (sym y.1)) ])
      (λ from p e reached. elim e [ inl x ↦ inl x | inr y ↦ inr (y.0, sym (same_some to p y.1)) ])
      (arrive_is Edge low table at to r is h)

  -- the pass goes over a place that something reaches
  pub handed : (at : ℕ) (step : Step) (table : List Arrival) (after : Option Elementary) → StandsAt unit.body at step → IsTable (Below unit.body at) at table → Hands at after → IsTable (Below unit.body (at + 1)) (at + 1) (hand_on unit.body at step.instruction after table)
  handed at step table after stands is h place x le up e =
      table_same (WithAny (WithAny (Below unit.body at) at (next_of at (goes_on step.instruction))) at (target_of unit.body at step.instruction)) (Below unit.body (at + 1)) at (hand_on unit.body at step.instruction after table)
      wider narrower
      (any_is (WithAny (Below unit.body at) at (next_of at (goes_on step.instruction))) at (arrive_any table (next_of at (goes_on step.instruction)) after) at (target_of unit.body at step.instruction) after
      (any_is (Below unit.body at) at table at (next_of at (goes_on step.instruction)) after is h) h)
      place x (omega arith) up e
    where
      wider : (from to : ℕ) → WithAny (WithAny (Below unit.body at) at (next_of at (goes_on step.instruction))) at (target_of unit.body at step.instruction) from to → Below unit.body (at + 1) from to
      wider from to (inl (inl b)) = (omega (arith, b.0), b.1)
      wider from to (inl (inr n)) = (omega (arith, n.0), subst (λ k. Follows unit.body k to) (sym n.0) (next_follows unit.body at to step stands n.1))
      wider from to (inr n) = (omega (arith, n.0), subst (λ k. Follows unit.body k to) (sym n.0) (target_follows unit.body at to step stands n.1))

      narrower : (from to : ℕ) → Below unit.body (at + 1) from to → IsReached unit.body from → WithAny (WithAny (Below unit.body at) at (next_of at (goes_on step.instruction))) at (target_of unit.body at step.instruction) from to
      narrower from to b reached = elim (eqb_tells from at) [
        | inl y ↦ elim (follows_cases unit.body at to step stands (subst (λ k. Follows unit.body k to) y.1 b.1)) [ inl n ↦ inl (inr (y.1, n)) | inr t ↦ inr (y.1, t) ]
        | inr n ↦ let less : from < at = omega (arith, b.0, n.1) in inl (inl (less, b.1))
      ]

  -- the pass goes over a place that nothing reaches
  pub passed_by : (at : ℕ) (table : List Arrival) → IsTable (Below unit.body at) at table → (IsReached unit.body at → ⊥) → IsTable (Below unit.body (at + 1)) (at + 1) table
  passed_by at table is none place x le up e =
      table_same (Below unit.body at) (Below unit.body (at + 1)) at table (λ from to b. (omega (arith, b.0), b.1))
      (λ from to b reached. elim (eqb_tells from at) [ inl y ↦ absurd (none (subst (IsReached unit.body) y.1 reached)) | inr n ↦ (omega (arith, b.0, n.1), b.1) ]) is place x (omega arith) up e

  -- THE RESULT AT A PLACE

  -- each place below has a result
  abbrev pub HaveResults : ℕ → Type 0
  HaveResults n = (at : ℕ) → at < n → (result : Option Elementary) × IsResultAt config unit at result

  -- what has come to a place when the pass comes to it is what all control paths give
  pub arrived : (n : ℕ) → 0 < n → HaveResults n → (x : Arrival) → IsBrought (Below unit.body n) n x → IsArrived n x
  arrived n up results Unreached b = λ reached. by_path reached.0 reached.1
    where
      by_path : (path : List ℕ) → Leads unit.body 0 path n → ⊥
      by_path [] l = omega (arith, up)
      by_path (next ∷ path) l =
          let s = last_step unit.body 0 next path n l in
          b s.mid (follows_up unit.body s.mid n s.follows, s.follows) (s.before, s.leads)
  arrived n up results (Reached t) b = (reached, by_result t b.1)
    where
      reached : IsReached unit.body n
      reached = (b.0.reached.0 ++ n ∷ [], leads_on unit.body 0 b.0.reached.0 b.0.from n b.0.reached.1 b.0.edge.1)

      by_result : (t : Option Elementary) → AreBrought (Below unit.body n) n t → IsResultAt config unit n t
      by_result (Some g) all = paths_of_join config unit n g up reached (λ mid r f. all mid (follows_up unit.body mid n f, f) r)
      by_result None none = λ g all. none g (λ from e r.
          let known = results from e.0 in
          record { result = known.0; is = known.1; gives = join_of_paths config unit from n g all r e.1 known.0 known.1 })

  -- the result at a place by what has arrived there
  pub result_is_at : (at : ℕ) (x : Arrival) → IsArrived at x → IsResultAt config unit at (result_at x)
  result_is_at at Unreached none = λ g all. none all.reached
  result_is_at at (Reached t) h = h.1
