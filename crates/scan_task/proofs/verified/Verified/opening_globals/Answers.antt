use Rattle.std.proofs.Common.{◌∙◌, ap}
use Rattle.load_slots.specs.Program.{global_values}
use Rattle.load_slots.specs.Whole.{first_rows}
use Rattle.il_syntax.specs.declared.tree.Config.{Config}
use Rattle.scan_task.proofs.Shared.{globals_fit, globals_open_as}
use Rattle.scan_task.proofs.verified.Verified.opening_globals.Goals as goal

pub returns-clause-fits : goal.returns-clause-fits
returns-clause-fits c =
    globals_fit c.args.self.now.config c.code.ensures.runnable c.initial.result.now
    (c.initial.ensures ∙ c.globals.ensures.is.first ∙ ap (λ (k : Config). first_rows (global_values k)) c.code.ensures.same)

pub returns-clause-opening : goal.returns-clause-opening
returns-clause-opening c =
    globals_open_as c.args.self.now.config c.code.ensures.runnable c.initial.result.now
    (c.initial.ensures ∙ c.globals.ensures.is.first ∙ ap (λ (k : Config). first_rows (global_values k)) c.code.ensures.same)
