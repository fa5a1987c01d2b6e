use Rattle.std.proofs.Common.{map}
use Rattle.group_spec.specs.Calls.{ticket_of}
use Rattle.group_world.proofs.shared.Shared.commit_group_now.Goals as goal

pub tell_assigned-requires-clause-slots : goal.tell_assigned-requires-clause-slots
tell_assigned-requires-clause-slots c = c.requires.ranges.slots

pub leave_group-requires-clause-fits : goal.leave_group-requires-clause-fits
leave_group-requires-clause-fits c = record { memories = c.requires.fits.memories; globals = c.requires.fits.globals }

pub returns : goal.returns
returns c = c.leave_group.ensures c.args.self.now.calls (map ticket_of c.args.self.now.calls.slots) c.tell_assigned.ensures
