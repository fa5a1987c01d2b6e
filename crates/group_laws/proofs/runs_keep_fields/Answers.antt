use Rattle.group_laws.proofs.Fields.{fields_kept}
use Rattle.group_laws.proofs.runs_keep_fields.Goals as goal

pub returns : goal.returns
returns c = fields_kept
