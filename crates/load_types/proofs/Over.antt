-- The pass over a unit, as its loop goes.
use Rattle.std.proofs.Common.{◌≡◌, ℕ, suc, ◌+◌, ◌<◌, ◌≤◌, Bool, true, false, if◌then◌else◌, List, [], ◌∷◌, map, length, get_or, Option, Some, None, slice_get, refl, sym, ap, ◌∙◌, subst, arith}
use Rattle.std.specs.Prelude.{nat_lt}
use Rattle.std.proofs.lemmas.Option.{slice_get_read}
use Rattle.il_statics.proofs.Labels.{label_within}
use Rattle.il_syntax.specs.declared.tree.Config.{Config}
use Rattle.il_syntax.specs.declared.tree.Unit.{Unit as ProgramUnit}
use Rattle.il_syntax.specs.declared.tree.Body.{Body}
use Rattle.il_syntax.specs.declared.tree.Step.{Step}
use Rattle.il_syntax.specs.declared.tree.Instruction.{Instruction}
use Rattle.il_syntax.specs.declared.tree.Instruction.TheVariants.{Jump}
use Rattle.il_statics.specs.Names.{Spelling, is_one_of}
use Rattle.il_statics.specs.Types.{Deferred, label_from, label_place}
use Rattle.il_statics.specs.Least.{NumberedFault, IsLeast, Below, earlier_of}
use Rattle.il_statics.proofs.Least.{least_none, least_next}
use Rattle.load_types.specs.declared.arrival.Arrival.{Arrival}
use Rattle.load_types.specs.Arrivals.{held, or_unreached, ahead, target_of, result_at, last_of, waiting_after}
use Rattle.load_types.specs.Steps.{pass_on}
use Rattle.load_types.specs.Faults.{Breaks, UnitBreaks, AllUnitsBreak, place_numbers}
use Rattle.il_statics.specs.Lowest.{lowest, numbered_at}
use Rattle.load_types.proofs.Steps.{IsAt, at_entry, goes_over, faults_on}
use Rattle.load_types.specs.Places.{IsFresh}

-- LABELS

place_low : (body : Body) (name : Spelling) (to : ℕ) → label_place body name ≡ Some to → to ≤ length body.steps
unfolding label_place
place_low body name to e = let h = label_within 0 body.steps (map (λ l. l.name) body.last_labels) name to e in omega arith

ahead_from : (at : ℕ) (o : Option ℕ) (to : ℕ) → ahead at o ≡ Some to → o ≡ Some to
ahead_from at None to e = e
ahead_from at (Some p) to e = by_test (nat_lt at p) e
  where
    by_test : (b : Bool) → (if b then Some p else None) ≡ Some to → Some p ≡ Some to
    by_test true e = e
    by_test false e = absurd (let bad : None ≡ Some to = e in cc)

pub target_low : (body : Body) (at : ℕ) (i : Instruction) (to : ℕ) → target_of body at i ≡ Some to → to ≤ length body.steps
target_low body at (Jump condition label) to e = place_low body label.name to (ahead_from at (label_place body label.name) to e)
target_low body at _ to e = absurd (let bad : None ≡ Some to = e in cc)

-- THE LOOP

module _ (config : Config) (unit : ProgramUnit) (body : Body) (is : unit.body ≡ body) (steps : List Step) (listed : steps ≡ body.steps) where
  pub begins : (table : List Arrival) (waiting : List Deferred) → IsFresh (length steps) table → waiting ≡ [] → IsAt config unit 0 table waiting × IsLeast None (Below (Breaks config unit) unit.body.steps 0)
  begins table waiting f empty = (
    subst (IsAt config unit 0 table) (sym empty) (at_entry config unit table (f.long ∙ ap (λ k. k + 1) (ap length listed ∙ ap (λ b. length b.steps) (sym is))) f.entry f.others),
    least_none _ None refl (λ n p h. omega (arith, h.2)),
  )

  in_table : (at : ℕ) (table : List Arrival) (waiting : List Deferred) → IsAt config unit at table waiting → length table ≡ length body.steps + 1
  in_table at table waiting s = s.long ∙ ap (λ b. length b.steps + 1) is

  pub target_in : (at : ℕ) (table : List Arrival) (waiting : List Deferred) → IsAt config unit at table waiting → (i : Instruction) (to : ℕ) → target_of unit.body at i ≡ Some to → to < length table
  target_in at table waiting s i to e = omega (arith, s.long, target_low unit.body at i to e)

  pub place_in : (at : ℕ) (table : List Arrival) (waiting : List Deferred) → IsAt config unit at table waiting → at < length steps → at + 1 < length table
  place_in at table waiting s low = let e = ap length listed in omega (arith, in_table at table waiting s)

  pub continues : (at : ℕ) (step : Step) (table : List Arrival) (waiting : List Deferred) (arrival : Arrival) (deferred : Option Deferred) (number : Option ℕ) (found one r : Option NumberedFault) (new : List Arrival) (rest : List Deferred)
      → at < length steps → step ≡ get_or steps at step → arrival ≡ get_or table at arrival → deferred ≡ last_of waiting
      → number ≡ lowest (place_numbers config unit at step.instruction arrival deferred) → one ≡ numbered_at number step.place → r ≡ earlier_of found one
      → new ≡ pass_on config unit at step.instruction arrival deferred table → rest ≡ waiting_after step.instruction (result_at arrival) waiting
      → IsAt config unit at table waiting × IsLeast found (Below (Breaks config unit) unit.body.steps at)
      → IsAt config unit (at + 1) new rest × IsLeast r (Below (Breaks config unit) unit.body.steps (at + 1))
  continues at step table waiting arrival deferred number found one r new rest low stands there waits numbered found_one later passed aside s =
      let at_step : slice_get unit.body.steps at ≡ Some step = ap (λ b. slice_get b.steps at) is ∙ ap (λ l. slice_get l at) (sym listed) ∙ slice_get_read steps (length steps) at step refl low stands in
      let e = ap length listed in let inside : at < length table = omega (arith, in_table at table waiting s.0) in
      let held_is : held table at ≡ arrival = ap or_unreached (slice_get_read table (length table) at arrival refl inside there) in (
        subst (λ t. IsAt config unit (at + 1) t rest) (sym passed)
            (subst (λ w. IsAt config unit (at + 1) (pass_on config unit at step.instruction arrival deferred table) w) (sym aside)
            (subst (λ x. IsAt config unit (at + 1) (pass_on config unit at step.instruction x deferred table) (waiting_after step.instruction (result_at x) waiting)) held_is
            (subst (λ d. IsAt config unit (at + 1) (pass_on config unit at step.instruction (held table at) d table) (waiting_after step.instruction (result_at (held table at)) waiting)) (sym waits)
            (goes_over config unit at step table waiting at_step s.0)))),
        faults_on config unit at step table waiting found one r at_step s.0
            (found_one ∙ ap (λ o. numbered_at o step.place) (numbered ∙ ap (λ x. lowest (place_numbers config unit at step.instruction x deferred)) (sym held_is) ∙ ap (λ d. lowest (place_numbers config unit at step.instruction (held table at) d)) waits))
            later s.1,
      )

  pub ends : (found : Option NumberedFault) (at : ℕ) → at ≡ length steps → IsLeast found (Below (Breaks config unit) unit.body.steps at) → IsLeast found (UnitBreaks config unit)
  ends found at same l = subst (λ k. IsLeast found (Below (Breaks config unit) unit.body.steps k)) (same ∙ ap length listed ∙ ap (λ b. length b.steps) (sym is)) l

-- THE UNITS

-- one unit more
pub unit_more : (config names own : Config) (unit : ProgramUnit) (at : ℕ) (found one r : Option NumberedFault) → names ≡ config → own ≡ names → slice_get names.units at ≡ Some unit → IsLeast found (Below (λ at unit. UnitBreaks config unit) config.units at) → IsLeast one (UnitBreaks own unit) → r ≡ earlier_of found one
    → IsLeast r (Below (λ at unit. UnitBreaks config unit) config.units (at + 1))
unit_more config names own unit at found one r all this stands before here is =
    least_next (λ at unit. UnitBreaks config unit) config.units at unit found one r (ap (λ c. slice_get c.units at) (sym all) ∙ stands) is before (subst (λ c. IsLeast one (UnitBreaks c unit)) (this ∙ all) here)

pub units_end : (config : Config) (units : List ProgramUnit) (found : Option NumberedFault) (at : ℕ) → units ≡ config.units → at ≡ length units → IsLeast found (Below (λ at unit. UnitBreaks config unit) config.units at) → IsLeast found (AllUnitsBreak config)
units_end config units found at same e l = subst (λ k. IsLeast found (Below (λ at unit. UnitBreaks config unit) config.units k)) (e ∙ ap length same) l
