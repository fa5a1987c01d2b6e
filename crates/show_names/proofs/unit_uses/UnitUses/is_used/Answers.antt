use Rattle.std.proofs.Common.{ap, ◌∙◌}
use Rattle.show_names.specs.Xref.{is_there}
use Rattle.show_names.proofs.Told.{is_there-use_lines, not_empty}
use Rattle.show_names.proofs.unit_uses.UnitUses.is_used.Goals as goal

pub returns : goal.returns
returns c =
    not_empty c.is_empty.result c.lines.result.now c.is_empty.ensures ∙ ap is_there c.lines.ensures
    ∙ is_there-use_lines c.args.self.now.unit.now.body.steps c.args.name.now c.args.manner
