-- Scans that were run, by the rows that they leave (own rules).
use Rattle.std.specs.Prelude.{◌≡◌, ℕ, ◌<◌, ◌≤◌, List, [], length}
use Rattle.il_syntax.specs.declared.tree.Config.{Config}
use Rattle.il_semantics.specs.State.{State}
use Rattle.il_semantics.specs.Scan.{Reaches}
use Rattle.load_slots.specs.declared.flat.Cell.{Cell}
use Rattle.load_slots.specs.Layout.{Rows}
use Rattle.scan_loop.specs.Going.{Stored}
use Rattle.group_spec.specs.Snapshot.{Beginning, scan_begins}
use Rattle.scan_task.specs.Scanning.{IsRunnable, IsScanOf, kept_of, state_of, value_at}
use Rattle.scan_task.specs.Standing.{Standing, Finished}

-- where a task's scan is
abbrev pub stands : Config → ℕ → Stored → State
stands c task s = state_of (kept_of c task s)

-- the same, beside its task
abbrev pub standing : Config → ℕ → Stored → Standing
standing c task s = record { config = c; task = task; state = stands c task s }

-- a store of a task is where a scan begins with some variables, in some snapshot
pub record Begins (c : Config) (task : ℕ) (s : Stored) : Type 0 where
  pub scan : IsScanOf c task s
  pub beginning : Beginning
  pub begins : stands c task s ≡ scan_begins c task beginning

-- a scan that was run to its end: its configuration, its task, the store at its start and at its end
pub record Ran : Type 0 where
  pub config : Config
  pub task : ℕ
  pub first : Stored
  pub last : Stored

-- the scan as the definitions see it
abbrev pub finished : Ran → Finished
finished r = record { config = r.config; task = r.task; first = stands r.config r.task r.first; last = stands r.config r.task r.last }

-- the scan of its task and configuration that begins there, to its end
pub record IsRan (r : Ran) : Type 0 where
  pub runnable : IsRunnable r.config
  pub begins : Begins r.config r.task r.first
  pub scan : IsScanOf r.config r.task r.last
  pub ended : (kept_of r.config r.task r.last).frames ≡ []
  pub count : ℕ
  pub some : 1 ≤ count
  pub reaches : Reaches r.config count (stands r.config r.task r.first) (stands r.config r.task r.last)

-- rows hold the same value at each slot
abbrev pub HaveSameValues : List Cell → Rows → Rows → Type 0
HaveSameValues cells a b = (k : ℕ) → k < length cells → value_at cells a k ≡ value_at cells b k
