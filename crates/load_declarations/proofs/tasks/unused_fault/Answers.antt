use Rattle.std.proofs.Common.{◌∙◌, ap, subst, map}
use Rattle.il_statics.specs.Least.{IsLeast, When}
use Rattle.load_declarations.specs.Places.{Among}
use Rattle.load_declarations.specs.TaskRules.{IsSet, IsUnusedOf}
use Rattle.load_declarations.proofs.tasks.unused_fault.Goals as goal

pub returns : goal.returns
returns c =
    let programs = map (λ l. l.program.name) c.args.names.now.programs in
    subst (λ l. IsLeast c.units_fault.result (Among (λ u. When (IsUnusedOf programs u) 24 u.place) l)) (c.as_slice-2.ensures ∙ ap (λ k. k.units) c.config-config.ensures)
    (c.units_fault.ensures programs (subst (λ l. IsSet (map (λ x. x.program.name) l) c.in_ok-lines.lines) (c.as_slice.ensures ∙ ap (λ k. k.programs) c.config-config.ensures) c.in_ok-lines.ensures))
