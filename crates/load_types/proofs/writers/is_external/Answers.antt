use Rattle.std.proofs.Common.{◌∙◌}
use Rattle.il_statics.specs.Names.{variable_named}
use Rattle.load_types.proofs.Sharing.{external_meant, external_found, external_none}
use Rattle.load_types.proofs.writers.is_external.Goals as goal

pub returns-in-Some : goal.returns-in-Some
returns-in-Some c =
    let config = c.args.scope.now.config in
    let unit = c.args.scope.now.unit in
    external_found config (variable_named config unit c.args.name.now) c.in-Some.variable c.is_external_origin.result c.in-Some.ensures c.is_external_origin.ensures ∙ external_meant config unit c.args.name.now

pub returns-in-None : goal.returns-in-None
returns-in-None c =
    let config = c.args.scope.now.config in
    let unit = c.args.scope.now.unit in
    external_none config (variable_named config unit c.args.name.now) c.in-None.ensures ∙ external_meant config unit c.args.name.now
