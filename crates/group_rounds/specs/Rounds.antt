-- A round under fields that come from outside (own rules).
use Rattle.std.specs.Prelude.{◌≡◌, ℕ, zero, suc, ◌+◌, List, [], ◌∷◌, ◌++◌, map, Ok}
use Rattle.il_syntax.specs.declared.tree.Config.{Config}
use Rattle.group_spec.specs.declared.event.Event.TheVariants as event
use Rattle.group_spec.specs.declared.image.Fields.{Fields}
use Rattle.group_spec.specs.declared.report.Report.{Report}
use Rattle.group_spec.specs.Replies.{Refreshed}
use Rattle.group_spec.specs.World.{World, happens}
use Rattle.group_journal.specs.Rounds.{Happen, floors_rising, tasks_in_order}
use Rattle.group_rounds.specs.Shown.{ScansReporting}
use Rattle.group_rounds.specs.declared.notice.Notice.{Notice}
use Rattle.group_rounds.specs.Notices.{refresh_notices, commit_notices}

-- a whole scan of each of some tasks, one after the other, and what they have to tell
abbrev pub ScansNoticed : Config → List ℕ → World → World → List Notice → Type 0
ScansNoticed c [] w v notices = (w ≡ v) × (notices ≡ [])
ScansNoticed c (t ∷ tasks) w v notices = (m : World) × (report : Report) × (rest : List Notice) × ScansReporting c t w m report × ScansNoticed c tasks m v rest × (notices ≡ commit_notices t report ++ rest)

-- A round: each floor is gathered, rising, the image is refreshed with the fields, and each task makes a whole scan, CAR1 to CARn and then GROUP.
-- The notices are those of the refresh, and then those of the scans, in the order in which they came.
pub record IsRoundOf (c : Config) (fields : Fields) (w v : World) (notices : List Notice) : Type 0 where
  pub gathered : World
  pub desk : Happen c w (map event.Gather (floors_rising c)) gathered
  pub refreshed : World
  pub report : Report
  pub refresh : happens c gathered (event.Refresh fields) ≡ Ok (refreshed, Refreshed report)
  pub scanned : List Notice
  pub scans : ScansNoticed c (tasks_in_order c) refreshed v scanned
  pub is : notices ≡ refresh_notices report ++ scanned

-- the most notices of scans of some tasks: 64 of GROUP, three of a car
abbrev pub most_of_scans : List ℕ → ℕ
most_of_scans [] = 0
most_of_scans (zero ∷ tasks) = 64 + most_of_scans tasks
most_of_scans (suc k ∷ tasks) = 3 + most_of_scans tasks
