use Rattle.load_code.proofs.Lined.{belongs}
use Rattle.load_code.proofs.Shared.{globals_are}
use Rattle.load_code.proofs.maker.parts_by.Goals as goal

pub returns-clause-belongs : goal.returns-clause-belongs
returns-clause-belongs c = belongs c.args.names.now c.in_ok-units.units c.in_ok-tasks.tasks c.requires.written c.requires.declared c.requires.typed c.requires.ordered c.in_ok-units.ensures c.in_ok-tasks.ensures.tasks

pub returns-clause-globals : goal.returns-clause-globals
returns-clause-globals c = globals_are c.args.names.now c.requires.written c.requires.declared c.in_ok-tasks.globals c.in_ok-tasks.ensures.globals
