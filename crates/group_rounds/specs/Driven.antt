-- What drives a simulation: the presses of each round, and what the building sets of the plant (own rules).
use Rattle.std.specs.Prelude.{ℕ, zero, suc, ◌≤◌, List, [], ◌∷◌, map, filter, ◌==◌}
use Rattle.il_syntax.specs.declared.tree.Config.{Config}
use Rattle.il_syntax.specs.declared.tree.Unit.{Unit as ProgramUnit}
use Rattle.cli_host.specs.declared.press.Press.{Press}
use Rattle.cli_host.specs.declared.press.Set.{Set}
use Rattle.cli_host.specs.declared.press.Set.TheVariants.{Fire, RunLimit}
use Rattle.cli_host.specs.declared.press.Setting.{Setting}
use Rattle.group_plant.specs.declared.switches.Switches.{Switches}
use Rattle.group_plant.specs.Switches.{opening_switches}
use Rattle.group_laws.specs.Tasks.{IsTaskOf}
use Rattle.group_spec.specs.declared.calls.Call.{Call}
use Rattle.group_spec.specs.declared.image.Sizes.{Sizes}
use Rattle.group_spec.specs.declared.journal.Entry.{Entry}
use Rattle.group_spec.specs.Calls.{IsCall}
use Rattle.group_spec.specs.Image.{sizes_of}
use Rattle.group_spec.specs.Plant.{PlantState}
use Rattle.group_spec.specs.World.{World}
use Rattle.group_journal.specs.Journal.{IsJournalOf}
use Rattle.group_journal.specs.Rounds.{Rounds, cleared}
use Rattle.group_journal.specs.Safe.{KeepsCarsSafe}

-- the call of a press
abbrev pub call_of : Press → Call
call_of press = record { from = press.from; to = press.to }

-- the calls that are pressed in a round, in the order of the presses
abbrev pub calls_in : List Press → ℕ → List Call
calls_in presses round = map call_of (filter (λ (p : Press). p.round == round) presses)

-- each press is a call of the group
abbrev pub ArePressed : Sizes → List Press → Type 0
ArePressed sizes [] = Unit {0}
ArePressed sizes (press ∷ presses) = IsCall sizes (call_of press) × ArePressed sizes presses

-- the settings of a round, in their order
abbrev pub settings_in : List Setting → ℕ → List Setting
settings_in settings round = filter (λ (s : Setting). s.round == round) settings

-- FIRE and RUNLIMIT, with one of them set anew
abbrev pub set_of : Switches → Set → Switches
set_of before (Fire fire) = record before { fire = fire }
set_of before (RunLimit run_limit) = record before { run_limit = run_limit }

-- and with each of these set, one after the other
abbrev pub set_all : Switches → List Setting → Switches
set_all before [] = before
set_all before (s ∷ settings) = set_all (set_of before s.set) settings

-- How FIRE and RUNLIMIT are set in a round of a group of so many cars: at first there is no FIRE and all cars may run; what a round sets stays
-- until it is set anew.
abbrev pub switches_in : ℕ → List Setting → ℕ → Switches
switches_in cars settings zero = opening_switches cars
switches_in cars settings (suc n) = set_all (switches_in cars settings n) (settings_in settings (suc n))

-- a RUNLIMIT is at most the number of cars
abbrev pub IsSettable : ℕ → Set → Type 0
IsSettable cars (Fire fire) = Unit {0}
IsSettable cars (RunLimit run_limit) = run_limit ≤ cars

abbrev pub AreSettings : ℕ → List Setting → Type 0
AreSettings cars [] = Unit {0}
AreSettings cars (s ∷ settings) = IsSettable cars s.set × AreSettings cars settings

-- each number is that of a task of the group
abbrev pub AreTasks : Config → List ℕ → Type 0
AreTasks c [] = Unit {0}
AreTasks c (t ∷ tasks) = ((u : ProgramUnit) × IsTaskOf c t u) × AreTasks c tasks

-- The entries are the journal of so many rounds of the group with these presses and settings: a run from its opening. In each of the rounds no
-- car changes its place unless its door is shut, and each stays in its shaft.
pub record IsSimulated (c : Config) (presses : List Press) (settings : List Setting) (rounds : ℕ) (entries : List Entry) : Type 0 where
  pub plant : PlantState
  pub world : World
  pub driven : Rounds c (calls_in presses) (switches_in (sizes_of c).cars settings) rounds plant world entries
  pub journal : IsJournalOf c entries (cleared world)
  pub safe : KeepsCarsSafe c (calls_in presses) (switches_in (sizes_of c).cars settings) rounds plant world entries driven
