use Rattle.group_laws.proofs.Fields.{fields_changed}
use Rattle.group_laws.proofs.refresh_changes_fields.Goals as goal

pub returns : goal.returns
returns c = fields_changed
