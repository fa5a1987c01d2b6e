-- What rounds on the plant owe to those in the cars (own rules).
use Rattle.std.specs.Prelude.{◌≡◌, ℕ, zero, suc, List, slice_get, Some}
use Rattle.il_syntax.specs.declared.tree.Config.{Config}
use Rattle.group_spec.specs.declared.calls.Call.{Call}
use Rattle.group_spec.specs.declared.image.CarOutputs.{CarOutputs}
use Rattle.group_spec.specs.declared.journal.Entry.{Entry}
use Rattle.group_spec.specs.Image.{sizes_of}
use Rattle.group_spec.specs.Plant.{PlacedCar, PlantState, IsPlantOf, IsInShaft, StaysSafe, ObeysWithOwnFields, fields_of_plant}
use Rattle.group_spec.specs.World.{World}
use Rattle.group_laws.specs.Accepted.{IsSound}
use Rattle.group_laws.specs.Runs.{IsReached}
use Rattle.group_plant.specs.declared.switches.Switches.{Switches}
use Rattle.group_journal.specs.Rounds.{IsRound, Rounds}

-- each car stands in its shaft (own rule)
abbrev pub AreInShafts : PlantState → Type 0
AreInShafts plant = (k : ℕ) (car : PlacedCar) → slice_get plant.cars k ≡ Some car → IsInShaft plant.floors car

-- A step of the plant under these outputs is safe: they obey the interlock with what the plant reported before, but for FIRE; no car
-- whose door isn't shut changes its place; each car is in its shaft, and what the plant reports is in range (own rules).
pub record IsSafeRound (c : Config) (before next : PlantState) (outputs : List CarOutputs) : Type 0 where
  pub obeys : ObeysWithOwnFields before outputs
  pub step : StaysSafe (sizes_of c) before next
  pub shafts : AreInShafts next

-- In each of the rounds the plant's step is safe, under the outputs that the image has at that step; each car opens in its shaft.
abbrev pub KeepsCarsSafe : (c : Config) (calls : ℕ → List Call) (switches : ℕ → Switches) (n : ℕ) (plant : PlantState) (w : World) (entries : List Entry) → Rounds c calls switches n plant w entries → Type 0
KeepsCarsSafe c calls switches zero plant w entries rounds = AreInShafts plant
KeepsCarsSafe c calls switches (suc n) plant w entries (before, u, earlier, last, rounds, round, is) =
    KeepsCarsSafe c calls switches n before u earlier rounds × IsSafeRound c before plant round.gathered.group.image.outputs

-- LAWS

-- A plant beside a world of its group, between rounds: the image has what the plant reports, and each car stands in its shaft.
pub record IsDriven (c : Config) (plant : PlantState) (w : World) : Type 0 where
  pub reached : IsReached c w
  pub sized : IsPlantOf (sizes_of c) plant
  pub shown : w.group.image.fields ≡ fields_of_plant plant
  pub shafts : AreInShafts plant

-- a round of an accepted configuration goes a safe step, and leads from such a plant and world to such a plant and world (own rule)
abbrev pub DrivenIsSafe : Type 0
DrivenIsSafe =
    (c : Config) → IsSound c → (calls : List Call) (switches : Switches) (before next : PlantState) (w v : World) (entries : List Entry) → IsDriven c before w → (round : IsRound c calls switches before next w v entries)
    → IsSafeRound c before next round.gathered.group.image.outputs × IsDriven c next v

-- so rounds of an accepted configuration keep the cars safe (own rule)
abbrev pub RoundsKeepCarsSafe : Type 0
RoundsKeepCarsSafe =
    (c : Config) → IsSound c → (calls : ℕ → List Call) (switches : ℕ → Switches) (n : ℕ) (plant : PlantState) (w : World) (entries : List Entry) (rounds : Rounds c calls switches n plant w entries) → KeepsCarsSafe c calls switches n plant w entries rounds
