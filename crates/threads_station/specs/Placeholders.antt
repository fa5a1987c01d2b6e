-- A program, switches and a table for a station that none were picked for.
use Rattle.std.specs.Prelude.{[], None, pos, false}
use Rattle.atomic_table.specs.Seated.{TableId}
use Rattle.il_syntax.specs.declared.tree.Place.{Place}
use Rattle.il_syntax.specs.declared.tree.Size.{Size}
use Rattle.scan_task.specs.Scanning.{Program}
use Rattle.group_plant.specs.declared.switches.Switches.{Switches}

abbrev pub nowhere : Place
nowhere = record { offset = 0; line = 0 }

abbrev pub nothing : Size
nothing = record { place = nowhere; value = pos 0 }

-- a program of no units and no tasks
abbrev pub no_program : Program
no_program = record {
  config = record { units = []; cars = nothing; floors = nothing; slots = nothing; globals_place = None; globals = []; tasks = []; programs = []; end_resource = nowhere };
  costs = [];
}

-- no FIRE, and no car that may run
abbrev pub no_switches : Switches
no_switches = record { fire = false; run_limit = 0 }

-- a table without a word
abbrev pub no_table : TableId
no_table = record { words = 0; slots = 0; views_name = 0; atom = 0; block = 0; offset = 0; slot_names = [] }
