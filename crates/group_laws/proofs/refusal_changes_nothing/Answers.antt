use Rattle.group_laws.proofs.Coming.{refused_unchanged}
use Rattle.group_laws.proofs.refusal_changes_nothing.Goals as goal

pub returns : goal.returns
returns c = refused_unchanged
