-- A floor from which no call is on the desk.
use Rattle.std.proofs.Common.{◌≡◌, ◌≤◌, ℕ, Bool, true, false, ◌||◌, not, List, [], ◌∷◌, Ok, refl, ap, ◌∙◌, if◌then◌else◌}
use Rattle.il_syntax.specs.declared.tree.Config.{Config}
use Rattle.group_spec.specs.declared.calls.Call.{Call}
use Rattle.group_spec.specs.declared.event.Event.TheVariants.{Gather}
use Rattle.group_spec.specs.Hands.{has_from, is_from, calls_from, calls_not_from, mask_of, with_calls}
use Rattle.group_spec.specs.Image.{sizes_of}
use Rattle.group_spec.specs.Replies.{Reply, Gathered, Held}
use Rattle.group_spec.specs.World.{World, happens, gathers, gathers_from}
use Rattle.group_journal.specs.Rounds.{Happen}
use Rattle.group_journal.proofs.Handing.{floor_so}
use Rattle.group_journal.proofs.Taking.{happen_one, gather_taken}

neither : (a b : Bool) → (a || b) ≡ false → (a ≡ false) × (b ≡ false)
neither false b lacks = (refl, lacks)
neither true b lacks = cc

none_from : (floor : ℕ) (set : List Call) → has_from set floor ≡ false → calls_from floor set ≡ []
none_from floor [] lacks = refl
none_from floor (call ∷ set) lacks =
    let each = neither (is_from floor call) (has_from set floor) lacks in
    ap (λ (b : Bool). if b then call ∷ calls_from floor set else calls_from floor set) each.0 ∙ none_from floor set each.1

all_stay : (floor : ℕ) (set : List Call) → has_from set floor ≡ false → calls_not_from floor set ≡ set
all_stay floor [] lacks = refl
all_stay floor (call ∷ set) lacks =
    let each = neither (is_from floor call) (has_from set floor) lacks in
    ap (λ (b : Bool). if not b then call ∷ calls_not_from floor set else calls_not_from floor set) each.0 ∙ ap (λ l. call ∷ l) (all_stay floor set each.1)

from_none : (w : World) (floor : ℕ) (b : Bool) → has_from w.desk floor ≡ false → (r : Reply) × (gathers_from w floor b ≡ Ok (w, r))
from_none w floor true lacks = (Held, refl)
from_none w floor false lacks = (
  Gathered 0,
  ap (λ (moved : List Call). Ok (record { group = w.group; scans = w.scans; desk = calls_not_from floor w.desk; hand = with_calls w.hand moved }, Gathered (mask_of moved))) (none_from floor w.desk lacks)
      ∙ ap (λ (d : List Call). Ok (record { group = w.group; scans = w.scans; desk = d; hand = w.hand }, Gathered 0)) (all_stay floor w.desk lacks),
)

gathers_none : (c : Config) (w : World) (floor : ℕ) → 1 ≤ floor → floor ≤ (sizes_of c).floors → has_from w.desk floor ≡ false → (r : Reply) × (happens c w (Gather floor) ≡ Ok (w, r))
unfolding happens
gathers_none c w floor low high lacks =
    let h = from_none w floor (has_from w.hand floor) lacks in
    (h.0, ap (gathers w floor) (floor_so (sizes_of c) floor low high) ∙ h.1)

-- gathering from it changes nothing
pub gather_none : (c : Config) (w : World) (floor : ℕ) → 1 ≤ floor → floor ≤ (sizes_of c).floors → has_from w.desk floor ≡ false → Happen c w (Gather floor ∷ []) w
gather_none c w floor low high lacks =
    let h = gathers_none c w floor low high lacks in
    happen_one c w w (Gather floor) h.0 h.1 (gather_taken c w w floor h.0 low high h.1)
