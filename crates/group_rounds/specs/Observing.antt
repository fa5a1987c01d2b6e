-- What an observer has written, before and after (own rules).
use Rattle.std.specs.Prelude.{◌≡◌, ℕ, List, ◌++◌}
use Rattle.il_syntax.specs.declared.tree.Config.{Config}
use Rattle.group_spec.specs.declared.calls.Call.{Call}
use Rattle.group_spec.specs.declared.journal.Entry.{Entry}
use Rattle.group_spec.specs.Plant.{PlantState}
use Rattle.group_spec.specs.World.{World}
use Rattle.group_plant.specs.declared.switches.Switches.{Switches}
use Rattle.cli_host.specs.declared.press.Press.{Press}
use Rattle.cli_host.specs.declared.press.Setting.{Setting}
use Rattle.group_world.specs.Worlds.{WorldOf}
use Rattle.group_rounds.specs.declared.observer.Observer.{Ghosts as Observer}
use Rattle.group_rounds.specs.Shown.{Commit, IsShown, ScansCommit, RoundShown, behind_all, commits_text}

-- a scan of each of some tasks in a round is written of
abbrev pub ScansObserved : {O : Type 0} → Observer O → ℕ → Config → List ℕ → World → World → O → O → Type 0
ScansObserved observer n c tasks w v o p =
    (commits : List Commit) × ScansCommit c tasks w v commits × (observer.text p ≡ observer.text o ++ commits_text (observer.shows o) n commits) × (observer.shows p ≡ behind_all commits (observer.shows o))

-- a round is written of, whose entries come after these
abbrev pub RoundObserved : {O : Type 0} → Observer O → ℕ → List Call → Switches → PlantState → PlantState → WorldOf → WorldOf → List Entry → List Entry → O → O → Type 0
RoundObserved observer n calls switches plant next before after entries all o p =
    (last : List Entry) × (all ≡ entries ++ last) × (text : List ℕ) × (observer.text p ≡ observer.text o ++ text) × (commits : List Commit) × (observer.shows p ≡ behind_all commits (observer.shows o)) × RoundShown (observer.shows o) n before.program.config calls switches plant next before.world after.world last commits text

-- a simulation is written of
abbrev pub IsObserved : {O : Type 0} → Observer O → Config → List Press → List Setting → ℕ → List Entry → O → O → Type 0
IsObserved observer c presses settings rounds entries o p =
    (text : List ℕ) × (observer.text p ≡ observer.text o ++ text) × IsShown (observer.shows o) c presses settings rounds entries text
