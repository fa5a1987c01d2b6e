-- What the building sets of a plant (own rules).
use Rattle.std.specs.Prelude.{ℕ, false}
use Rattle.group_plant.specs.declared.switches.Switches.{Switches}
use Rattle.group_spec.specs.Plant.{PlantState}

-- as the plant of so many cars opens: no FIRE, and all of them may run
abbrev pub opening_switches : ℕ → Switches
opening_switches cars = record { fire = false; run_limit = cars }

-- the plant with FIRE and RUNLIMIT as they are set
abbrev pub under : Switches → PlantState → PlantState
under s plant = record plant { run_limit = s.run_limit; fire = s.fire }
