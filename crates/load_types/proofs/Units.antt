-- The faults of units are those of the rules.
use Rattle.std.proofs.Common.{◌≡◌, ℕ, ◌≤◌, inl, inr, List, Option, Some, refl, sym, ap, ◌∙◌, subst, slice_get, arith}
use Rattle.std.specs.Prelude.{Contains}
use Rattle.std.proofs.lemmas.Option.{slice_get_within, get_or_from_slice_get, slice_get-get_or}
use Rattle.il_syntax.specs.declared.tree.Config.{Config}
use Rattle.il_syntax.specs.declared.tree.Unit.{Unit as ProgramUnit}
use Rattle.il_syntax.specs.declared.tree.Place.{Place}
use Rattle.il_syntax.specs.declared.tree.Step.{Step}
use Rattle.il_statics.specs.Types.{unknown_label, backward, unreached, StandsAt, HasTwoWriters, two_writers}
use Rattle.il_syntax.specs.declared.fault.Refusal.{Refusal}
use Rattle.il_syntax.specs.declared.fault.Refusal.TheVariants.{Fault}
use Rattle.il_statics.specs.Faults.{IsNoLater, earlier, same_place, IsRefusedBy, Typing, BreaksTypes, of_instruction, unknown_label as of_unknown_label, backward_jump, two_writers as of_two_writers, unreached as of_unreached, Broken}
use Rattle.il_statics.specs.Least.{NumberedFault, IsLeast, earlier_of}
use Rattle.il_statics.proofs.Least.{least_same, least_both}
use Rattle.load_types.specs.Faults.{BreaksAt, by_types, by_unknown_label, by_backward_jump, by_unreached, UnitBreaks, AllUnitsBreak, HasWriters, IsStoreOfTwo, HasStoreOfTwo, AnyBreaks}

among : {A : Type 0} (xs : List A) (i : ℕ) (x : A) → slice_get xs i ≡ Some x → Contains xs x
among xs i x e = (i, slice_get_within xs i x e, get_or_from_slice_get xs i x x e)

unit_at : (config : Config) (unit : ProgramUnit) (at : ℕ) (step : Step) (n : ℕ) (p : Place) → Contains config.units unit → StandsAt unit.body at step → BreaksAt config unit at step n → p ≡ step.place → AnyBreaks config n p
unit_at config unit at step n p (i, low, e) stands b is =
    inl (i, unit, low, slice_get-get_or config.units i unit low ∙ ap Some e, (at, step, slice_get_within unit.body.steps at step stands, stands, (b, is)))

up : (config : Config) (n : ℕ) (p : Place) → AnyBreaks config n p → BreaksTypes config n p
up config n p (inl (i, unit, low, there, (at, step, within, stands, (b, is)))) = by_kind b
  where
    written : Contains config.units unit
    written = among config.units i unit there

    by_kind : BreaksAt config unit at step n → BreaksTypes config n p
    by_kind (by_types before deferred result waits c) =
        of_instruction (record { unit = unit; at = at; step = step; before = before; deferred = deferred; is_step = record { written = written; stands = stands }; result = result; waits = waits; broken = c; is_place = is })
    by_kind (by_unknown_label condition label jumps none e) =
        of_unknown_label e (unknown_label unit at step label (record { written = written; jumps = record { stands = stands; condition = condition; jumps = jumps } }) none is)
    by_kind (by_backward_jump condition label to jumps known back e) =
        backward_jump e (backward unit at to step label (record { written = written; jumps = record { stands = stands; condition = condition; jumps = jumps } }) known back is)
    by_kind (by_unreached none e) = of_unreached e (unreached unit at step (record { written = written; stands = stands }) none is)
up config n p (inr w) = of_two_writers w.0 w.1

down : (config : Config) (n : ℕ) (p : Place) → BreaksTypes config n p → AnyBreaks config n p
down config n p (of_instruction t) = unit_at config t.unit t.at t.step n p t.is_step.written t.is_step.stands (by_types t.before t.deferred t.result t.waits t.broken) t.is_place
down config n p (of_unknown_label e (unknown_label unit at step label j none is)) =
    unit_at config unit at step n p j.written j.jumps.stands (by_unknown_label j.jumps.condition label j.jumps.jumps none e) is
down config n p (backward_jump e (backward unit at to step label j known back is)) =
    unit_at config unit at step n p j.written j.jumps.stands (by_backward_jump j.jumps.condition label to j.jumps.jumps known back e) is
down config n p (of_two_writers e w) = inr (e, w)
down config n p (of_unreached e (unreached unit at step s none is)) = unit_at config unit at step n p s.written s.stands (by_unreached none e) is

-- what a unit breaks is a rule of types
pub broken_by : (config : Config) (unit : ProgramUnit) (n : ℕ) (p : Place) → Contains config.units unit → UnitBreaks config unit n p → BreaksTypes config n p
broken_by config unit n p (i, low, e) breaks = up config n p (inl (i, unit, low, slice_get-get_or config.units i unit low ∙ ap Some e, breaks))

-- the first fault of all units, or of 38, is the first that breaks a rule of types
pub least_types : (config : Config) (found : Option NumberedFault) → IsLeast found (AnyBreaks config) → IsLeast found (λ n p. BreaksTypes config n p)
least_types config found l = least_same (AnyBreaks config) (λ n p. BreaksTypes config n p) found l (up config) (down config)

-- 38 at the earliest store into a global that two tasks write is 38 at the first store into it
pub least_writers : (config : Config) (found : Option NumberedFault) → IsLeast found (HasStoreOfTwo config) → IsLeast found (HasWriters config)
least_writers config found l = record {
  none = λ e n p h. l.none e n p (h.0, wider p h.1);
  holds = λ f e. by_store f e (l.holds f e);
  first = λ f e n p h. l.first f e n p (h.0, wider p h.1);
}
  where
    wider : (p : Place) → HasTwoWriters config p → IsStoreOfTwo config p
    wider p (two_writers name first second unit written stores first_store one other differ) =
        record { name = name; first = first; second = second; unit = unit; written = written; stores = stores; one = one; other = other; differ = differ }

    no_later : (n m : ℕ) (p q : Place) → IsNoLater n p m q → p.offset ≤ q.offset
    no_later n m p q (earlier less) = omega arith
    no_later n m p q (same_place same le) = omega arith

    by_store : (f : NumberedFault) → found ≡ Some f → HasStoreOfTwo config f.number f.place → HasWriters config f.number f.place
    by_store f e (is, s) = (
      is,
      two_writers s.name s.first s.second s.unit s.written s.stores
          (λ unit other written stores. no_later f.number 38 f.place other (l.first f e 38 other (refl, record { name = s.name; first = s.first; second = s.second; unit = unit; written = written; stores = stores; one = s.one; other = s.other; differ = s.differ })))
          s.one s.other s.differ,
    )

-- the earlier of both
pub least_all : (config : Config) (units writers found : Option NumberedFault) → IsLeast units (AllUnitsBreak config) → IsLeast writers (HasStoreOfTwo config) → found ≡ earlier_of units writers → IsLeast found (λ n p. BreaksTypes config n p)
least_all config units writers found u w is = least_types config found (least_both (AllUnitsBreak config) (HasWriters config) units writers found is u (least_writers config writers w))

-- the refusal names it
pub refused_by : (config : Config) (found : Option NumberedFault) (f : NumberedFault) (r : Refusal) → IsLeast found (λ n p. BreaksTypes config n p) → found ≡ Some f → r ≡ Fault f.number f.place → IsRefusedBy (Broken Typing config) r
refused_by config found f r l is refuses = subst (IsRefusedBy (Broken Typing config)) (sym refuses) (record { broken = l.holds f is; first = l.first f is })
