use Rattle.show_values.proofs.Wishing as law
use Rattle.show_values.proofs.asked.assign_is_wished.Goals as goal

pub returns : goal.returns
returns c = law.assign_is_wished
