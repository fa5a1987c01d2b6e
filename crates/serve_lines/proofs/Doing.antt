-- Presses.
use Rattle.std.proofs.Common.{◌≡◌, Bool, true, false, ◌==◌, Ok, Err, refl, ap, ◌∙◌, subst}
use Rattle.std.specs.Prelude.{slice_get, is_some, ◌&&◌}
use Rattle.il_syntax.specs.declared.tree.Config.{Config}
use Rattle.group_spec.specs.declared.calls.Call.{Call}
use Rattle.group_spec.specs.declared.event.Event.TheVariants.{Press}
use Rattle.group_spec.specs.Hands.{has_call}
use Rattle.group_spec.specs.Image.{sizes_of, is_floor}
use Rattle.group_spec.specs.Replies.{Reply}
use Rattle.group_spec.specs.World.{World, Next, flat, happens, presses, presses_floors, presses_new}
use Rattle.group_journal.specs.Closed.{IsClosed}

abbrev SameScans : World → Next → Type 0
SameScans w (Err halt) = Unit {0}
SameScans w (Ok n) = n.0.scans ≡ w.scans

new_same : (w : World) (call : Call) (b : Bool) → SameScans w (presses_new w call b)
new_same w call true = refl
new_same w call false = refl

floors_same : (w : World) (call : Call) (b : Bool) → SameScans w (presses_floors w call b)
floors_same w call true = refl
floors_same w call false = new_same w call (has_call w.desk call)

presses_same : (w : World) (call : Call) (b : Bool) → SameScans w (presses w call b)
presses_same w call false = refl
presses_same w call true = floors_same w call (call.from == call.to)

press_same : (c : Config) (w : World) (call : Call) → SameScans w (happens c w (Press call))
unfolding happens
press_same c w call = presses_same w call (is_floor (sizes_of c) call.from && is_floor (sizes_of c) call.to)

-- a press opens no scan
pub press_closes : (c : Config) (w v : World) (call : Call) (r : Reply) → happens c w (Press call) ≡ Ok (v, r) → IsClosed w → IsClosed v
press_closes c w v call r is closed j =
    let same : v.scans ≡ w.scans = subst (SameScans w) is (press_same c w call) in
    ap (λ ss. is_some (flat (slice_get ss j))) same ∙ closed j
