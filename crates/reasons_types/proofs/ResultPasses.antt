-- The pass over a unit up to an instruction, as its loop goes, and the units before that of an instruction.
use Rattle.std.proofs.Common.{◌≡◌, ℕ, zero, suc, ◌+◌, ◌<◌, inl, inr, List, [], ◌∷◌, length, get_or, Option, Some, slice_get, refl, sym, ap, ◌∙◌, subst, arith}
use Rattle.std.specs.Prelude.{Contains}
use Rattle.std.proofs.lemmas.Option.{slice_get_read, slice_get_within, get_or_from_slice_get}
use Rattle.std.proofs.lemmas.Bool.Decides.{eqb_tells}
use Rattle.il_syntax.specs.declared.tree.Config.{Config}
use Rattle.il_syntax.specs.declared.tree.Unit.{Unit as ProgramUnit}
use Rattle.il_syntax.specs.declared.tree.Body.{Body}
use Rattle.il_syntax.specs.declared.tree.Step.{Step}
use Rattle.il_statics.specs.Types.{Deferred, opener, IsResultAt, IsDeferredAt}
use Rattle.load_types.specs.declared.arrival.Arrival.{Arrival}
use Rattle.load_types.specs.Arrivals.{held, or_unreached, result_at, last_of, waiting_after}
use Rattle.load_types.specs.Places.{IsFresh}
use Rattle.load_types.specs.Steps.{pass_on}
use Rattle.load_types.proofs.Joins.{result_is_at}
use Rattle.load_types.proofs.Over as pass
use Rattle.load_types.proofs.Deferred.{open_at, waits}
use Rattle.load_types.proofs.Steps.{IsAt, arrives, goes_over}
use Rattle.reasons_types.specs.ResultReasons.{IsStepBehind, IsResultOf, IsResultTold, at_step}

-- something is at each place of a list
stands_there : {X : Type 0} (xs : List X) (i : ℕ) → i < length xs → (x : X) × (slice_get xs i ≡ Some x)
stands_there [] i low = absurd (omega arith)
stands_there (x ∷ xs) zero low = (x, refl)
stands_there (x ∷ xs) (suc i) low = stands_there xs i (omega arith)

module _ (config : Config) (unit : ProgramUnit) (body : Body) (is : unit.body ≡ body) (steps : List Step) (listed : steps ≡ body.steps) where
  in_unit : (at : ℕ) (step : Step) → at < length steps → step ≡ get_or steps at step → slice_get unit.body.steps at ≡ Some step
  in_unit at step low stands = ap (λ b. slice_get b.steps at) is ∙ ap (λ l. slice_get l at) (sym listed) ∙ slice_get_read steps (length steps) at step refl low stands

  held_is : (at : ℕ) (table : List Arrival) (waiting : List Deferred) (arrival : Arrival) → at < length steps → arrival ≡ get_or table at arrival → IsAt config unit at table waiting → held table at ≡ arrival
  held_is at table waiting arrival low there s =
      let next = pass.place_in config unit body is steps listed at table waiting s low in
      let inside : at < length table = omega arith in
      ap or_unreached (slice_get_read table (length table) at arrival refl inside there)

  pub begins : (table : List Arrival) (waiting : List Deferred) → IsFresh (length steps) table → waiting ≡ [] → IsAt config unit 0 table waiting
  begins table waiting f empty = (pass.begins config unit body is steps listed table waiting f empty).0

  -- one place more
  pub continues : (at : ℕ) (step : Step) (table : List Arrival) (waiting : List Deferred) (arrival : Arrival) (deferred : Option Deferred) (new : List Arrival) (rest : List Deferred)
      → at < length steps → step ≡ get_or steps at step → arrival ≡ get_or table at arrival → deferred ≡ last_of waiting
      → new ≡ pass_on config unit at step.instruction arrival deferred table → rest ≡ waiting_after step.instruction (result_at arrival) waiting
      → IsAt config unit at table waiting → IsAt config unit (at + 1) new rest
  continues at step table waiting arrival deferred new rest low stands there waits passed aside s =
      subst (λ t. IsAt config unit (at + 1) t rest) (sym passed)
      (subst (λ w. IsAt config unit (at + 1) (pass_on config unit at step.instruction arrival deferred table) w) (sym aside)
      (subst (λ x. IsAt config unit (at + 1) (pass_on config unit at step.instruction x deferred table) (waiting_after step.instruction (result_at x) waiting)) (held_is at table waiting arrival low there s)
      (subst (λ d. IsAt config unit (at + 1) (pass_on config unit at step.instruction (held table at) d table) (waiting_after step.instruction (result_at (held table at)) waiting)) (sym waits)
      (goes_over config unit at step table waiting (in_unit at step low stands) s))))

  -- the type that all paths give
  pub result_there : (at : ℕ) (table : List Arrival) (waiting : List Deferred) (arrival : Arrival) → at < length steps → arrival ≡ get_or table at arrival → IsAt config unit at table waiting → IsResultAt config unit at (result_at arrival)
  result_there at table waiting arrival low there s =
      let step = stands_there steps at low in
      let stands : slice_get unit.body.steps at ≡ Some step.0 = ap (λ b. slice_get b.steps at) is ∙ ap (λ l. slice_get l at) (sym listed) ∙ step.1 in
      subst (λ x. IsResultAt config unit at (result_at x)) (held_is at table waiting arrival low there s) (result_is_at config unit at (held table at) (arrives config unit at step.0 table waiting stands s))

  -- what waits for a `)` there
  pub waits_there : (at : ℕ) (table : List Arrival) (waiting : List Deferred) → IsAt config unit at table waiting → IsDeferredAt config unit (opener unit.body at) (last_of waiting)
  unfolding opener
  waits_there at table waiting s = waits config unit (open_at unit.body at) waiting s.opened

-- INSTRUCTIONS BEHIND SO MANY BYTES

-- none of the first instructions is there
abbrev pub NoneBelow : List Step → ℕ → ℕ → Type 0
NoneBelow steps offset n = (at : ℕ) (step : Step) → at < n → slice_get steps at ≡ Some step → step.place.offset ≡ offset → ⊥

pub one_more_none : (steps : List Step) (offset at : ℕ) (step : Step) → at < length steps → step ≡ get_or steps at step → (step.place.offset ≡ offset → ⊥) → NoneBelow steps offset at → NoneBelow steps offset (at + 1)
one_more_none steps offset at step low stands not_here before k s below there same = elim (eqb_tells k at) [
  | inl y ↦
      let found : Some step ≡ Some s = sym (slice_get_read steps (length steps) at step refl low stands) ∙ ap (slice_get steps) (sym y.1) ∙ there in
      let one : step ≡ s = cc in
      not_here (ap (λ (x : Step). x.place.offset) one ∙ same)
  | inr n ↦ before k s (omega (arith, n.1)) there same
]

-- none of the instructions of the first units is there
abbrev pub NoneInUnits : List ProgramUnit → ℕ → ℕ → Type 0
NoneInUnits units offset n = (k : ℕ) (unit : ProgramUnit) → k < n → slice_get units k ≡ Some unit → (at : ℕ) (step : Step) → slice_get unit.body.steps at ≡ Some step → step.place.offset ≡ offset → ⊥

pub unit_none : (units : List ProgramUnit) (offset i : ℕ) (unit : ProgramUnit) → slice_get units i ≡ Some unit → ((at : ℕ) (step : Step) → slice_get unit.body.steps at ≡ Some step → step.place.offset ≡ offset → ⊥) → NoneInUnits units offset i → NoneInUnits units offset (i + 1)
unit_none units offset i unit stands nowhere before k u below there = elim (eqb_tells k i) [
  | inl y ↦
      let found : Some unit ≡ Some u = sym stands ∙ ap (slice_get units) (sym y.1) ∙ there in
      let one : unit ≡ u = cc in
      subst (λ (x : ProgramUnit). (at : ℕ) (step : Step) → slice_get x.body.steps at ≡ Some step → step.place.offset ≡ offset → ⊥) one nowhere
  | inr n ↦ before k u (omega (arith, n.1)) there
]

-- where none is in any unit, none is in the configuration
pub none_there : (c : Config) (offset n : ℕ) → length c.units < n + 1 → NoneInUnits c.units offset n → (unit : ProgramUnit) (at : ℕ) (step : Step) → IsStepBehind c offset unit at step → ⊥
none_there c offset n all none unit at step behind =
    let k = behind.0.written.0 in
    let low = behind.0.written.1 in
    none k unit (omega (arith, low)) (slice_get_read c.units (length c.units) k unit refl low (sym behind.0.written.2)) at step behind.0.stands behind.1

pub unit_in : (c : Config) (k : ℕ) (unit : ProgramUnit) → slice_get c.units k ≡ Some unit → Contains c.units unit
unit_in c k unit there = (k, slice_get_within c.units k unit there, get_or_from_slice_get c.units k unit unit there)

-- what is reported where one is
pub told_there : (c own : Config) (unit scoped : ProgramUnit) (k place offset : ℕ) (steps : List Step) (step any : Step) (lines : List ℕ)
    → slice_get c.units k ≡ Some unit → own ≡ c → scoped ≡ unit → steps ≡ unit.body.steps → slice_get steps place ≡ Some step → step.place.offset ≡ offset
    → IsResultOf own scoped place (get_or steps place any).instruction lines → IsResultTold c offset lines
told_there c own unit scoped k place offset steps step any lines stands same one listed there behind told =
    at_step unit place step (record { written = unit_in c k unit stands; stands = ap (λ l. slice_get l place) (sym listed) ∙ there }, behind)
    (subst (λ (x : Step). IsResultOf c unit place x.instruction lines) (get_or_from_slice_get steps place step any there)
    (subst (λ u. IsResultOf c u place (get_or steps place any).instruction lines) one
    (subst (λ k. IsResultOf k scoped place (get_or steps place any).instruction lines) same told)))
