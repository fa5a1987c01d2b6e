use Rattle.std.proofs.Common.{◌∙◌, ap, le-leb}
use Rattle.std.specs.Prelude.{is_some}
use Rattle.il_syntax.specs.declared.tree.Config.{Config}
use Rattle.scan_task.specs.Listing.{program_line_of}
use Rattle.scan_task.proofs.Lines.{has_line, copied_there}
use Rattle.scan_task.proofs.verified.Verified.has_task.Goals as goal

pub returns : goal.returns
returns c =
    c.is_some.ensures ∙ copied_there c.find_line.result ∙ ap is_some c.find_line.ensures
    ∙ ap (λ ls. is_some (program_line_of ls c.args.number)) (c.as_slice.ensures ∙ ap (λ (k : Config). k.programs) c.config.ensures.same)
    ∙ has_line c.args.self.now.config c.config.ensures.runnable.declared c.args.number (le-leb _ _ c.requires)
