use Rattle.load_slots.proofs.Tasks.{program_is_code, names_are, bases_are, program_is_placed, cells_once}
use Rattle.load_slots.proofs.Openings.{own_opening}
use Rattle.load_slots.proofs.laws.flat_code_means_the_tree.Goals as goal

pub returns : goal.returns
returns c = λ config p is fits. record { code = program_is_code config p is; names = names_are config p is; bases = bases_are config p is; is_placed = program_is_placed config p is fits; once = cells_once config p is; opening = own_opening config p is }
