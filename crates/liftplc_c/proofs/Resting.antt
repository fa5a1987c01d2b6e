-- What a press leaves.
use Rattle.std.proofs.Common.{◌≡◌, Bool, true, false, ◌==◌, Ok, Err, inl, inr, refl, ap, ◌∙◌, subst}
use Rattle.std.specs.Prelude.{◌≢◌, ◌⊎◌, slice_get, is_some, ◌&&◌}
use Rattle.il_syntax.specs.declared.tree.Config.{Config}
use Rattle.scan_task.specs.Scanning.{Program}
use Rattle.group_spec.specs.declared.calls.Call.{Call}
use Rattle.group_spec.specs.declared.event.Event.TheVariants.{Press}
use Rattle.group_spec.specs.declared.event.Reply.{Reply as Answer}
use Rattle.group_spec.specs.declared.event.Reply.TheVariants as answer
use Rattle.group_spec.specs.declared.report.Report.{Report}
use Rattle.group_spec.specs.Hands.{has_call}
use Rattle.group_spec.specs.Image.{sizes_of, is_floor}
use Rattle.group_spec.specs.Replies.{Reply, New, reply_with}
use Rattle.group_spec.specs.World.{World, Next, flat, happens, presses, presses_floors, presses_new}
use Rattle.group_world.specs.Worlds.{WorldOf}
use Rattle.liftplc_c.specs.Handles.{Rests}
use Rattle.liftplc_c.specs.Presses.{press_status, Presses}

-- two worlds of one program
pub same_world : (w v : WorldOf) → v.program ≡ w.program → v.world ≡ w.world → v ≡ w
same_world w v program world =
    ap (λ (p : Program). let x : WorldOf = record { program = p; world = v.world } in x) program ∙ ap (λ (x : World). let y : WorldOf = record { program = w.program; world = x } in y) world

-- A PRESS

-- it opens no scan, and what is not new changes nothing
abbrev Stays : World → Next → Type 0
Stays w (Err halt) = Unit {0}
Stays w (Ok n) = (n.0.scans ≡ w.scans) × ((n.1 ≡ New) ⊎ (n.0 ≡ w))

new_stays : (w : World) (call : Call) (b : Bool) → Stays w (presses_new w call b)
new_stays w call true = (refl, inr refl)
new_stays w call false = (refl, inl refl)

floors_stay : (w : World) (call : Call) (b : Bool) → Stays w (presses_floors w call b)
floors_stay w call true = (refl, inr refl)
floors_stay w call false = new_stays w call (has_call w.desk call)

presses_stay : (w : World) (call : Call) (b : Bool) → Stays w (presses w call b)
presses_stay w call false = (refl, inr refl)
presses_stay w call true = floors_stay w call (call.from == call.to)

press_stays : (c : Config) (w : World) (call : Call) → Stays w (happens c w (Press call))
unfolding happens
press_stays c w call = presses_stay w call (is_floor (sizes_of c) call.from && is_floor (sizes_of c) call.to)

pub press_rests : (c : Config) (w v : World) (call : Call) (r : Reply) → happens c w (Press call) ≡ Ok (v, r) → Rests w → Rests v
press_rests c w v call r is rests j =
    let same = subst (Stays w) is (press_stays c w call) in
    ap (λ ss. is_some (flat (slice_get ss j))) same.0 ∙ rests j

not_new : (a : Answer) (report : Report) → reply_with a report ≡ New → press_status a ≡ 0
not_new answer.New report e = refl
not_new answer.Already report e = cc
not_new (answer.Refused fault) report e = cc
not_new answer.Started report e = cc
not_new answer.More report e = cc
not_new answer.End report e = cc
not_new answer.Committed report e = cc
not_new answer.Refreshed report e = cc
not_new (answer.Gathered mask) report e = cc
not_new answer.Held report e = cc

-- a press whose status isn't 0 changes nothing
pub press_keeps : (call : Call) (w v : WorldOf) (a : Answer) → Presses call w v a → press_status a ≢ 0 → v ≡ w
press_keeps call w v a pressed other =
    let stays = subst (Stays w.world) pressed.pressed (press_stays w.program.config w.world call) in
    same_world w v pressed.same
    (elim stays.1 [
      | inl new ↦ absurd (other (not_new a pressed.report new))
      | inr same ↦ same
    ])
