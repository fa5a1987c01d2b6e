use Rattle.std.proofs.Common.{Some, None}
use Rattle.scan_task.proofs.Bases.{base_cut}
use Rattle.scan_task.proofs.sharing.base_name.Goals as goal

pub returns-in-Some : goal.returns-in-Some
returns-in-Some c = base_cut c.args.path.now (Some (c.in-Some.name, c.in-Some.field-0-1)) c.in-Some.ensures.cases

pub returns-in-None : goal.returns-in-None
returns-in-None c = base_cut c.args.path.now None c.in-None.ensures.cases
