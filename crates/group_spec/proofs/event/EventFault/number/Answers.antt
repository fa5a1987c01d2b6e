use Rattle.std.proofs.Common.{rules}
use Rattle.group_spec.proofs.event.EventFault.number.Goals as goal

pub returns-in-FieldOutOfRange : goal.returns-in-FieldOutOfRange
returns-in-FieldOutOfRange c = search rules

pub returns-in-NoOpenScan : goal.returns-in-NoOpenScan
returns-in-NoOpenScan c = search rules

pub returns-in-AlreadyOpen : goal.returns-in-AlreadyOpen
returns-in-AlreadyOpen c = search rules

pub returns-in-NotAtEnd : goal.returns-in-NotAtEnd
returns-in-NotAtEnd c = search rules

pub returns-in-NoSuchActor : goal.returns-in-NoSuchActor
returns-in-NoSuchActor c = search rules

pub returns-in-SameFloor : goal.returns-in-SameFloor
returns-in-SameFloor c = search rules
