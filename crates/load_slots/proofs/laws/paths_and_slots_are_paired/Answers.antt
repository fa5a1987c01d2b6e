use Rattle.load_slots.proofs.Paired.{paired}
use Rattle.load_slots.proofs.Tasks.{cells_once}
use Rattle.load_slots.specs.Program.{program_cells}
use Rattle.load_slots.proofs.laws.paths_and_slots_are_paired.Goals as goal

pub returns : goal.returns
returns c = λ config p is. paired (program_cells config p) (cells_once config p is)
