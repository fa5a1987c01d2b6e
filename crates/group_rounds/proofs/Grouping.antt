-- GROUP in a world that a run has reached.
use Rattle.std.proofs.Common.{◌≡◌, ℕ, ◌≤◌, Option, Some, None, ap, arith}
use Rattle.std.specs.Prelude.{is_some}
use Rattle.il_syntax.specs.declared.tree.Config.{Config}
use Rattle.group_laws.proofs.Accepted.{opens_well, scans_well}
use Rattle.group_laws.proofs.Running.{reached_world_holds}
use Rattle.group_laws.specs.Accepted.{IsSound}
use Rattle.group_laws.specs.Holding.{SeatHolds, WorldHolds}
use Rattle.group_laws.specs.Runs.{IsReached}
use Rattle.group_spec.specs.Image.{sizes_of}
use Rattle.group_spec.specs.Snapshot.{has_task}
use Rattle.group_spec.specs.World.{World, TaskState, task_at, scan_at}

-- a task is in the world where the configuration has it
seat_there : (c : Config) (t n : ℕ) (task : Option TaskState) (scan : _) → t ≤ (sizes_of c).cars → SeatHolds c t n task scan → has_task c t ≡ is_some task
seat_there c t n None None within holds = ap is_some (holds within)
seat_there c t n None (Some s) within holds = absurd holds
seat_there c t n (Some task) scan within holds = ap is_some holds.is.program

pub group_there : (c : Config) → IsSound c → (w : World) → IsReached c w → has_task c 0 ≡ is_some (task_at w.group 0)
group_there c sound w reached =
    let holds : (steps : ℕ → ℕ) × WorldHolds c steps w = reached_world_holds c (opens_well c sound) (scans_well c sound) w reached in
    seat_there c 0 (holds.0 0) (task_at w.group 0) (scan_at w 0) (omega arith) (holds.1.each 0)
