use Rattle.std.specs.Prelude.{slice_index_or}
use Rattle.group_plant.specs.Switches.{opening_switches}
use Rattle.group_spec.specs.Image.{sizes_of}
use Rattle.test_library.proofs.stations.play_on.Given as goal

abbrev pub ghosts-play_in : goal.ghosts-play_in
ghosts-play_in g a = record { program = a.verified; switches = λ i. opening_switches (sizes_of a.verified.config).cars; names = λ i. slice_index_or a.blanks.ledgers i 0; tally = a.blanks.tally }
