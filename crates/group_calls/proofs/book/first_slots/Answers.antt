use Rattle.group_calls.proofs.Sets.{first_bits}
use Rattle.group_calls.proofs.book.first_slots.Goals as goal

pub returns : goal.returns
returns c k = first_bits c.args.count k c.requires.1
