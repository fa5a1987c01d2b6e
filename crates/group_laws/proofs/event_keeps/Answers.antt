use Rattle.group_laws.proofs.Events.{event_leads}
use Rattle.group_laws.proofs.event_keeps.Goals as goal

pub returns : goal.returns
returns c = event_leads
