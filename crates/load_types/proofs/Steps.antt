-- One place more: what the pass keeps, and the faults that it found.
use Rattle.std.proofs.Common.{◌≡◌, ℕ, zero, suc, ◌+◌, ◌<◌, inl, inr, List, [], ◌∷◌, length, Option, Some, None, refl, sym, ap, ◌∙◌, subst, slice_get, arith}
use Rattle.std.specs.Prelude.{Contains, option_map, option_and_then}
use Rattle.std.proofs.lemmas.Option.{slice_get_within}
use Rattle.std.proofs.lemmas.Bool.Decides.{eqb_tells}
use Rattle.il_syntax.specs.declared.tree.Config.{Config}
use Rattle.il_syntax.specs.declared.tree.Unit.{Unit as ProgramUnit}
use Rattle.il_syntax.specs.declared.tree.Step.{Step}
use Rattle.il_syntax.specs.declared.tree.Operator.{Operator}
use Rattle.il_syntax.specs.declared.tree.Elementary.{Elementary}
use Rattle.il_syntax.specs.declared.tree.Instruction.{Instruction}
use Rattle.il_statics.specs.Types.{Deferred, Opened, innermost, opener, type_after, type_behind, goes_on, StandsAt, IsResultAt, IsDeferredAt}
use Rattle.il_statics.proofs.Passes.{entry-none}
use Rattle.il_statics.specs.Least.{NumberedFault, IsLeast, Below as BelowOf, earlier_of}
use Rattle.il_statics.proofs.Least.{least_next, least_same}
use Rattle.load_types.specs.declared.arrival.Arrival.{Arrival}
use Rattle.load_types.specs.declared.arrival.Arrival.TheVariants.{Unreached, Reached}
use Rattle.load_types.specs.Arrivals.{held, or_unreached, met, arrive_any, next_of, target_of, result_at, last_of, waiting_after}
use Rattle.load_types.specs.Steps.{pass_on}
use Rattle.load_types.specs.Faults.{Breaks, place_numbers}
use Rattle.il_statics.specs.Lowest.{lowest, numbered_at}
use Rattle.load_types.proofs.Joins.{Below, IsBrought, IsTable, IsArrived, HaveResults, handed, passed_by, arrived, result_is_at, set_length}
use Rattle.load_types.proofs.Deferred.{open_at, open_more, open_first, AreOpen, waits, waits_on}
use Rattle.load_types.proofs.Numbers.{breaks, numbered}
use Rattle.il_statics.proofs.Lowest.{least_lowest}

any_length : (table : List Arrival) (o : Option ℕ) (r : Option Elementary) → length (arrive_any table o r) ≡ length table
any_length table None r = refl
any_length table (Some to) r = set_length table to (met (held table to) r)

pass_length : (config : Config) (unit : ProgramUnit) (at : ℕ) (i : Instruction) (x : Arrival) (d : Option Deferred) (table : List Arrival) → length (pass_on config unit at i x d table) ≡ length table
pass_length config unit at i Unreached d table = refl
pass_length config unit at i (Reached t) d table =
    let after = type_after config unit (option_map (λ d. d.0) d) i t in
    any_length (arrive_any table (next_of at (goes_on i)) after) (target_of unit.body at i) after ∙ any_length table (next_of at (goes_on i)) after

-- the operator that waits
operator_is : (config : Config) (unit : ProgramUnit) (o : Option Opened) (d : Option Deferred) → IsDeferredAt config unit o d → option_map (λ d. d.0) d ≡ option_map (λ o. o.1) o
operator_is config unit None d w = ap (option_map (λ d. d.0)) w
operator_is config unit (Some o) d w = ap (option_map (λ d. d.0)) w.2

behind_is : (config : Config) (unit : ProgramUnit) (at : ℕ) (step : Step) (d : Option Operator) (t : Option Elementary) → StandsAt unit.body at step → d ≡ option_map (λ o. o.1) (opener unit.body at) → type_behind config unit at t ≡ type_after config unit d step.instruction t
behind_is config unit at step d t stands e =
    ap (option_and_then (λ s. type_after config unit (option_map (λ o. o.1) (opener unit.body at)) s.instruction t)) stands ∙ ap (λ o. type_after config unit o step.instruction t) (sym e)

opener_is : (config : Config) (unit : ProgramUnit) (at : ℕ) (d : Option Deferred) → IsDeferredAt config unit (innermost (open_at unit.body at)) d → IsDeferredAt config unit (opener unit.body at) d
unfolding opener
opener_is config unit at d w = w

module _ (config : Config) (unit : ProgramUnit) where
  -- what the pass keeps before a place
  pub record IsAt (at : ℕ) (table : List Arrival) (waiting : List Deferred) : Type 0 where
    pub long : length table ≡ length unit.body.steps + 1
    pub entry : at ≡ 0 → held table 0 ≡ Reached None
    pub brought : IsTable config unit (Below unit.body at) at table
    pub results : HaveResults config unit at
    pub opened : AreOpen config unit (open_at unit.body at) waiting

  -- at the entry
  pub at_entry : (table : List Arrival) → length table ≡ length unit.body.steps + 1 → held table 0 ≡ Reached None → ((place : ℕ) → 0 < place → held table place ≡ Unreached) → IsAt 0 table []
  at_entry table long entry none = record {
    long = long;
    entry = λ e. entry;
    brought = λ place x le up e. subst (IsTableAt place) (sym (none place up) ∙ ap or_unreached e) (λ from b r. omega (arith, b.0));
    results = λ at low. absurd (omega arith);
    opened = subst (λ o. AreOpen config unit o []) (sym (open_first unit.body)) refl;
  }
    where
      IsTableAt : ℕ → Arrival → Type 0
      IsTableAt place x = IsBrought config unit (Below unit.body 0) place x

  -- what has arrived at the place
  pub arrives : (at : ℕ) (step : Step) (table : List Arrival) (waiting : List Deferred) → StandsAt unit.body at step → IsAt at table waiting → IsArrived config unit at (held table at)
  arrives at step table waiting stands s = elim (eqb_tells at 0) [
    | inl y ↦ subst (λ k. IsArrived config unit k (held table k)) (sym y.1) (subst (IsArrived config unit 0) (sym (s.entry y.1)) (([], refl), entry-none config unit))
    | inr n ↦
        let up : 0 < at = omega (arith, n.1) in
        let low : at < length table = omega (arith, s.long, slice_get_within unit.body.steps at step stands) in
        let there : slice_get table at ≡ Some (held table at) = present table at low in
        arrived config unit at up s.results (held table at) (s.brought at (held table at) (omega arith) up there)
  ]
    where
      present : (xs : List Arrival) (i : ℕ) → i < length xs → slice_get xs i ≡ Some (held xs i)
      present [] i low = absurd (omega arith)
      present (x ∷ xs) zero low = refl
      present (x ∷ xs) (suc i) low = present xs i (omega arith)

  deferred_at : (at : ℕ) (table : List Arrival) (waiting : List Deferred) → IsAt at table waiting → IsDeferredAt config unit (opener unit.body at) (last_of waiting)
  deferred_at at table waiting s = opener_is config unit at (last_of waiting) (waits config unit (open_at unit.body at) waiting s.opened)

  -- one place more
  pub goes_over : (at : ℕ) (step : Step) (table : List Arrival) (waiting : List Deferred) → StandsAt unit.body at step → IsAt at table waiting
      → IsAt (at + 1) (pass_on config unit at step.instruction (held table at) (last_of waiting) table) (waiting_after step.instruction (result_at (held table at)) waiting)
  goes_over at step table waiting stands s = record {
    long = pass_length config unit at step.instruction (held table at) (last_of waiting) table ∙ s.long;
    entry = λ e. absurd (omega arith);
    brought = by_arrival (held table at) here;
    results = λ k low. elim (eqb_tells k at) [
      | inl y ↦ (result_at (held table at), subst (λ j. IsResultAt config unit j (result_at (held table at))) (sym y.1) result)
      | inr n ↦ s.results k (omega (arith, n.1))
    ];
    opened = subst (λ o. AreOpen config unit o (waiting_after step.instruction (result_at (held table at)) waiting)) (sym (open_more unit.body at step stands)) (waits_on config unit (open_at unit.body at) waiting at step.instruction (result_at (held table at)) result s.opened);
  }
    where
      here : IsArrived config unit at (held table at)
      here = arrives at step table waiting stands s

      result : IsResultAt config unit at (result_at (held table at))
      result = result_is_at config unit at (held table at) here

      by_arrival : (x : Arrival) → IsArrived config unit at x → IsTable config unit (Below unit.body (at + 1)) (at + 1) (pass_on config unit at step.instruction x (last_of waiting) table)
      by_arrival Unreached none = passed_by config unit at table s.brought none
      by_arrival (Reached t) a =
          handed config unit at step table (type_after config unit (option_map (λ d. d.0) (last_of waiting)) step.instruction t) stands s.brought
          (record {
            reached = a.0;
            before = t;
            is = a.1;
            gives = behind_is config unit at step (option_map (λ d. d.0) (last_of waiting)) t stands (operator_is config unit (opener unit.body at) (last_of waiting) (deferred_at at table waiting s));
          })

  -- with its faults
  pub faults_on : (at : ℕ) (step : Step) (table : List Arrival) (waiting : List Deferred) (found one r : Option NumberedFault) → StandsAt unit.body at step → IsAt at table waiting
      → one ≡ numbered_at (lowest (place_numbers config unit at step.instruction (held table at) (last_of waiting))) step.place → r ≡ earlier_of found one
      → IsLeast found (BelowOf (Breaks config unit) unit.body.steps at) → IsLeast r (BelowOf (Breaks config unit) unit.body.steps (at + 1))
  faults_on at step table waiting found one r stands s is later before =
      let here = arrives at step table waiting stands s in
      let w = deferred_at at table waiting s in
      let numbers = place_numbers config unit at step.instruction (held table at) (last_of waiting) in
      least_next (Breaks config unit) unit.body.steps at step found one r stands later before
      (least_same (λ n p. Contains numbers n × (p ≡ step.place)) (Breaks config unit at step) one (least_lowest numbers step.place one is)
      (λ n p h. (breaks config unit at step (held table at) (last_of waiting) n here w h.0, h.1))
      (λ n p h. (numbered config unit at step (held table at) (last_of waiting) n here w h.0, h.1)))
