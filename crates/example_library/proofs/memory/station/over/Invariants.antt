use Rattle.std.specs.Prelude.{slice_index_or}
use Rattle.group_plant.specs.Switches.{opening_switches}
use Rattle.group_spec.specs.Image.{sizes_of}
use Rattle.example_library.proofs.memory.station.over.Given as goal

abbrev pub ghosts-in_station : goal.ghosts-in_station
ghosts-in_station g a = record { program = a.verified; switches = λ i. opening_switches (sizes_of a.verified.config).cars; names = λ i. slice_index_or a.blanks.ledgers i 0; tally = a.blanks.tally }
