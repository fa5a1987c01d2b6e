use Rattle.std.specs.Prelude.{codes}
use Rattle.std.proofs.lemmas.Str.Pattern.{starts_text}
use Rattle.reasons_names.proofs.names_unknown.is_from_time.Goals as goal

pub returns : goal.returns
returns c = starts_text c.starts_with.result (codes "TIME_TO_") c.args.name.now c.starts_with.ensures.cases
