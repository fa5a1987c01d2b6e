use Rattle.std.proofs.Common.{◌∙◌, ap, subst}
use Rattle.il_statics.specs.Least.{IsLeast, When}
use Rattle.load_declarations.specs.Places.{Among}
use Rattle.load_declarations.specs.TaskRules.{BreaksLine}
use Rattle.load_declarations.proofs.tasks.program_lines_fault.Goals as goal

pub returns : goal.returns
returns c = subst (λ l. IsLeast c.lines_fault.result (Among (λ x. When (BreaksLine c.args.names.now x) 24 x.place) l)) (c.as_slice-2.ensures ∙ ap (λ k. k.programs) c.config-config.ensures) c.lines_fault.ensures
