-- Worlds between scans.
use Rattle.std.proofs.Common.{◌≡◌, ◌≤◌, ℕ, zero, suc, ◌+◌, false, true, length, replicate, slice_get, refl, sym, ap, ◌∙◌, subst, Some, None, Option, unwrap_or, List, [], arith}
use Rattle.std.proofs.lemmas.List.{length-replicate}
use Rattle.il_syntax.specs.declared.tree.Config.{Config}
use Rattle.il_semantics.specs.State.{State}
use Rattle.group_spec.specs.declared.image.Fields.{Fields}
use Rattle.group_spec.specs.declared.image.CarFields.{CarFields}
use Rattle.group_spec.specs.declared.image.CarOutputs.{CarOutputs}
use Rattle.group_spec.specs.declared.image.Motor.TheVariants.{Up, Down, Still}
use Rattle.group_spec.specs.Image.{Obeys, CarObeys, running_from, opening_outputs}
use Rattle.group_spec.specs.World.{World, TaskState, scan_at, task_at}
use Rattle.group_laws.specs.Holding.{SeatHolds, WorldHolds, RestsWell, at_rest}
use Rattle.group_laws.specs.Runs.{ReachedRests, RestsAtRest}
use Rattle.group_laws.proofs.Running.{reached_world_holds}

-- A WORLD WHOSE SCANS ARE CLOSED

-- a seat with no open scan holds, however many steps were made
seat_rests : (c : Config) (t n : ℕ) (o : Option TaskState) (s : Option State) → s ≡ None → SeatHolds c t n o s → SeatHolds c t 0 o s
seat_rests c t n None None closed h = h
seat_rests c t n None (Some s) closed h = h
seat_rests c t n (Some task) None closed h = record { unit = h.unit; is = h.is; variables = h.variables; scanning = h.scanning }
seat_rests c t n (Some task) (Some s) closed h = cc

pub closed_rests : (c : Config) (steps : ℕ → ℕ) (w : World) → WorldHolds c steps w → ((t : ℕ) → scan_at w t ≡ None) → RestsWell c w
closed_rests c steps w h closed =
    record {
      holds =
          record {
            ranges = h.ranges;
            tickets = h.tickets;
            obeys = h.obeys;
            tasks = h.tasks;
            scans = h.scans;
            each = λ t. seat_rests c t (steps t) (task_at w.group t) (scan_at w t) (closed t) (h.each t);
            within = λ t. omega arith;
            desk = h.desk;
            hand = h.hand;
          };
      closed = closed;
    }

pub reached_rests : ReachedRests
reached_rests c opens sound w reached closed = let holds = reached_world_holds c opens sound w reached in closed_rests c holds.0 w holds.1 closed

-- OUTPUTS AT REST

none_running : (count a : ℕ) → running_from a (replicate count opening_outputs) ≡ []
none_running zero a = refl
none_running (suc count) a = none_running count (a + 1)

each_at_rest : (count i : ℕ) (o : CarOutputs) → slice_get (replicate count opening_outputs) i ≡ Some o → opening_outputs ≡ o
each_at_rest zero i o h = cc
each_at_rest (suc count) zero o h = ap (λ x. unwrap_or x opening_outputs) h
each_at_rest (suc count) (suc i) o h = each_at_rest count i o h

car_at_rest : (f : CarFields) → CarObeys f opening_outputs
car_at_rest f = record { running = λ r. cc; up = λ e. cc; down = λ e. cc; opening = λ o. cc }

pub obeys_at_rest : (fields : Fields) → Obeys (record { fields = fields; outputs = replicate (length fields.cars) opening_outputs })
obeys_at_rest fields =
    record {
      cars = length-replicate (length fields.cars) opening_outputs;
      each = λ car f o at_fields at_outputs. subst (CarObeys f) (each_at_rest (length fields.cars) car o at_outputs) (car_at_rest f);
      limit = subst (λ (l : List ℕ). length l ≤ fields.run_limit) (sym (none_running (length fields.cars) 1)) (omega arith);
      fire = λ on car o at_outputs up. let same = each_at_rest (length fields.cars) car o at_outputs in cc;
    }

pub rests_at_rest : RestsAtRest
rests_at_rest c w rests =
    let h = rests.holds in
    record {
      holds =
          record {
            ranges = record { fields = h.ranges.fields; outputs = length-replicate (length w.group.image.fields.cars) opening_outputs ∙ h.ranges.fields.cars; slots = h.ranges.slots; each_slot = h.ranges.each_slot; globals = h.ranges.globals };
            tickets = h.tickets;
            obeys = obeys_at_rest w.group.image.fields;
            tasks = h.tasks;
            scans = h.scans;
            each = h.each;
            within = h.within;
            desk = h.desk;
            hand = h.hand;
          };
      closed = rests.closed;
    }
