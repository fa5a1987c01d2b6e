use Rattle.std.specs.Prelude.{codes}
use Rattle.std.proofs.lemmas.Str.Pattern.{ends_text}
use Rattle.reasons_names.proofs.names_unknown.is_to_time.Goals as goal

pub returns : goal.returns
returns c = ends_text c.ends_with.result (codes "_TO_TIME") c.args.name.now c.ends_with.ensures.cases
