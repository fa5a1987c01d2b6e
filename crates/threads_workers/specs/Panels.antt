-- The presses of a run, and what a panel makes of those that are its own (own rules).
use Rattle.std.specs.Prelude.{◌≡◌, ◌≢◌, ℕ, ◌+◌, ◌≤◌, Bool, ◌&&◌, ◌==◌, List, [], ◌++◌, map, filter, sum_by}
use Rattle.atomic_table.specs.Seated.{TableId}
use Rattle.threads_desk.specs.Account.{times}
use Rattle.threads_desk.specs.Passes.{Panel, IsFloorOf}
use Rattle.cli_host.specs.declared.press.Press.{Press}
use Rattle.group_rounds.specs.Driven.{call_of}
use Rattle.group_spec.specs.declared.calls.Call.{Call}

-- from one of the four panels of a floor, to another floor
abbrev pub IsPressAt : ℕ → Press → Type 0
IsPressAt floors press = IsFloorOf floors press.from × IsFloorOf floors press.to × (press.from ≢ press.to) × (1 ≤ press.panel) × (press.panel ≤ 4)

-- whether a press is for a panel
abbrev pub is_at : ℕ → ℕ → Press → Bool
is_at floor panel press = (press.from == floor) && (press.panel == panel)

-- the calls that are pressed at a panel, in their order
abbrev pub calls_at : ℕ → ℕ → List Press → List Call
calls_at floor panel presses = map call_of (filter (is_at floor panel) presses)

-- The panel's pass once it has made those of the presses that are its own: each was answered New or Already.
pub record HasPressed (before after : Panel) (presses : List Press) : Type 0 where
  pub table : after.table ≡ before.table
  pub floor : after.floor ≡ before.floor
  pub panel : after.panel ≡ before.panel
  pub pressed : after.pressed ≡ before.pressed ++ calls_at before.floor before.panel presses
  pub news : (c : Call) → times c after.news + times c before.pressed ≤ times c before.news + times c after.pressed

-- a panel's pass of this desk, which pressed nothing
abbrev pub IsIdle : TableId → Panel → Type 0
IsIdle table p = (p.table ≡ table) × (p.news ≡ []) × (p.pressed ≡ [])

-- how often a call is pressed at the panel of a pass
abbrev pub at_panel : Call → List Press → Panel → ℕ
at_panel c presses p = times c (calls_at p.floor p.panel presses)

-- how often a call was pressed
abbrev pub pressed : List Press → Call → ℕ
pressed presses c = times c (map call_of presses)

-- Each press was made, by these panels: it was answered New or Already.
pub record ArePressed (presses : List Press) (panels : List Panel) : Type 0 where
  pub all : (c : Call) → sum_by (λ p. times c p.pressed) panels ≡ pressed presses c
  pub news : (c : Call) → sum_by (λ p. times c p.news) panels ≤ sum_by (λ p. times c p.pressed) panels
