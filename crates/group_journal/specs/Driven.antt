-- Journals of a group whose refreshes come from the plant (own rules).
use Rattle.std.specs.Prelude.{◌≡◌, ℕ, ◌+◌, List, [], ◌∷◌, ◌==◌, if◌then◌else◌}
use Rattle.il_syntax.specs.declared.tree.Config.{Config}
use Rattle.group_spec.specs.declared.journal.Entry.{Entry}
use Rattle.group_spec.specs.declared.journal.Entry.TheVariants as entry
use Rattle.group_spec.specs.Image.{sizes_of}
use Rattle.group_spec.specs.Plant.{PlantState, opening_plant, plant_after, fields_of_plant}
use Rattle.group_spec.specs.Replies.{Reply}
use Rattle.group_spec.specs.World.{World, opening}
use Rattle.group_laws.specs.Accepted.{IsSound}
use Rattle.group_plant.specs.declared.switches.Switches.{Switches}
use Rattle.group_plant.specs.Switches.{under}
use Rattle.group_journal.specs.Journal.{Enters, actor_of, refresher}
use Rattle.group_journal.specs.Safe.{AreInShafts, IsSafeRound}

-- Where an entry takes the plant, as it is set and from this world: a refresh is one step of the plant under the outputs that the image then
-- has, and its fields are what the plant then reports; a scan leaves the plant as it is.
abbrev pub Moves : Switches → World → Entry → PlantState → PlantState → Type 0
Moves switches w (entry.Start t) before next = next ≡ before
Moves switches w (entry.Commit t) before next = next ≡ before
Moves switches w (entry.Refresh fields entered) before next = (next ≡ plant_after (under switches before) w.group.image.outputs) × (fields ≡ fields_of_plant next)

-- the same, where a refresh is a safe step
abbrev pub MovesSafely : Config → Switches → World → Entry → PlantState → PlantState → Type 0
MovesSafely c switches w (entry.Start t) before next = next ≡ before
MovesSafely c switches w (entry.Commit t) before next = next ≡ before
MovesSafely c switches w (entry.Refresh fields entered) before next = Moves switches w (entry.Refresh fields entered) before next × IsSafeRound c before next w.group.image.outputs

-- The entries lead from a plant and a world to others, each by such a step. What is set goes by the number of the refresh; so many are made
-- before.
abbrev pub Leads : (Switches → World → Entry → PlantState → PlantState → Type 0) → Config → (ℕ → Switches) → ℕ → PlantState → World → List Entry → PlantState → World → Type 0
Leads step c switches made before w [] plant v = (before ≡ plant) × (w ≡ v)
Leads step c switches made before w (e ∷ entries) plant v =
    (m : World) × (answer : Reply) × (next : PlantState) × Enters c w e m answer × step (switches (made + 1)) w e before next × Leads step c switches (made + (if actor_of e == refresher then 1 else 0)) next m entries plant v

-- the plant as the group opens
abbrev pub first_plant : Config → PlantState
first_plant c = opening_plant (sizes_of c).cars (sizes_of c).floors

-- the entries are a journal of the group from its opening to this world, each refresh of which comes from the plant, which ends as this one
abbrev pub IsDrivenJournal : Config → (ℕ → Switches) → List Entry → PlantState → World → Type 0
IsDrivenJournal c switches entries plant w = Leads Moves c switches 0 (first_plant c) (opening c) entries plant w

-- And it is safe for those in the cars: no refresh moves a car whose door isn't shut, and each car is in its shaft, as it opens and after
-- each refresh.
pub record IsSafeJournal (c : Config) (switches : ℕ → Switches) (entries : List Entry) (plant : PlantState) (w : World) : Type 0 where
  pub opens : AreInShafts (first_plant c)
  pub leads : Leads (MovesSafely c) c switches 0 (first_plant c) (opening c) entries plant w

-- of an accepted configuration, a journal that comes from the plant is safe (own rule)
abbrev pub DrivenJournalIsSafe : Type 0
DrivenJournalIsSafe = (c : Config) → IsSound c → (switches : ℕ → Switches) (entries : List Entry) (plant : PlantState) (w : World) → IsDrivenJournal c switches entries plant w → IsSafeJournal c switches entries plant w
