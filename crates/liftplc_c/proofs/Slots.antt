-- The call slots of a world.
use Rattle.std.proofs.Common.{◌≡◌, ◌<◌, ◌≤◌, ◌+◌, ℕ, zero, suc, List, [], ◌∷◌, map, take, length, Some, None, sym, ap, ◌∙◌, arith}
use Rattle.std.specs.Prelude.{slice_get, slice_set}
use Rattle.scan_task.specs.Scanning.{IsRunnable}
use Rattle.scan_task.proofs.Scans.{sound_of}
use Rattle.scan_task.proofs.Sizes.{sizes_fit}
use Rattle.group_spec.specs.declared.calls.Slot.{Slot}
use Rattle.group_spec.specs.Calls.{slot_at}
use Rattle.group_spec.specs.Image.{sizes_of}
use Rattle.group_laws.specs.Runs.{IsReached}
use Rattle.group_laws.proofs.Histories.{reached_well}
use Rattle.group_world.specs.Worlds.{WorldOf}

-- there are as many as the configuration says, and no more than 64
pub slots_many : (w : WorldOf) → IsRunnable w.program.config → IsReached w.program.config w.world → length w.world.group.calls.slots ≡ (sizes_of w.program.config).slots
slots_many w runs reached = (reached_well w.program.config (sound_of w.program.config runs) w.world reached).ranges.slots

pub slots_few : (w : WorldOf) → IsRunnable w.program.config → (sizes_of w.program.config).slots ≤ 64
slots_few w runs = (sizes_fit w.program.config runs).2.1

-- numbers begin at 1
pub slot_behind : (slots : List Slot) (i : ℕ) → slot_at slots (i + 1) ≡ slice_get slots i
slot_behind slots i = let next : i + 1 ≡ suc i = omega arith in ap (slot_at slots) next

-- one more is written
pub written_next : {X Y : Type 0} (f : X → Y) (room : List Y) (slots : List X) (i : ℕ) (slot : X) → slice_get slots i ≡ Some slot → i < length room → take i room ≡ map f (take i slots) → take (i + 1) (slice_set room i (f slot)) ≡ map f (take (i + 1) slots)
written_next f [] slots i slot at low before = absurd (omega (arith, low))
written_next f (r ∷ room) [] i slot at low before = let no : None ≡ Some slot = at in cc
written_next f (r ∷ room) (s ∷ slots) zero slot at low before = let same : s ≡ slot = cc in ap (λ x. f x ∷ []) (sym same)
written_next f (r ∷ room) (s ∷ slots) (suc i) slot at low before =
    let next : suc i + 1 ≡ suc (i + 1) = omega arith in
    let rest : take i room ≡ map f (take i slots) = cc in
    let head : r ≡ f s = cc in
    ap (λ n. take n (r ∷ slice_set room i (f slot))) next ∙ ap (λ l. r ∷ l) (written_next f room slots i slot at (omega (arith, low)) rest) ∙ ap (λ x. x ∷ map f (take (i + 1) slots)) head
    ∙ ap (λ n. map f (take n (s ∷ slots))) (sym next)
