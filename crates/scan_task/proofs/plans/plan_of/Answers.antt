use Rattle.std.proofs.Common.{◌∙◌, refl, ap, sym, subst, arith, length, slice_get}
use Rattle.il_syntax.specs.declared.tree.Config.{Config}
use Rattle.il_statics.specs.Faults.{Broken, Declaring, HasNoFault}
use Rattle.group_spec.specs.declared.image.Sizes.{Sizes}
use Rattle.group_spec.specs.Image.{sizes_of}
use Rattle.scan_task.specs.Listing.{program_line_of}
use Rattle.scan_task.proofs.Lines.{no_line, task_there}
use Rattle.scan_task.proofs.plans.plan_of.Goals as goal

pub sizes_of-requires : goal.sizes_of-requires
sizes_of-requires c = subst (λ (k : Config). HasNoFault (Broken Declaring k)) (sym c.config.ensures.is) c.requires.runs.declared

pub plan_at-requires-clause-there : goal.plan_at-requires-clause-there
plan_at-requires-clause-there c =
    let config = c.args.code.now in
    let lines = c.as_slice.ensures ∙ ap (λ (k : Config). k.programs) c.config-2.ensures.is in
    let cars = ap (λ (z : Sizes). z.cars) (c.sizes_of.ensures ∙ ap sizes_of c.config.ensures.is) in
    task_there config c.requires.runs c.args.task c.in-Some.line (omega (arith, cars)) (let n = ap length lines in let low = c.in-Some.ensures.within in omega (arith, n, low))
    (ap (λ ls. slice_get ls c.in-Some.line) (sym lines) ∙ c.in-Some.ensures.some ∙ ap (λ ls. program_line_of ls c.args.task) lines)

pub returns-in_ok-plan_at-in-Some : goal.returns-in_ok-plan_at-in-Some
returns-in_ok-plan_at-in-Some c = λ u is. (c.in_ok-plan_at-in-Some.field-0, refl, c.in_ok-plan_at-in-Some.ensures u is.program)

pub returns-in-None : goal.returns-in-None
returns-in-None c = λ u is.
    let lines = c.as_slice.ensures ∙ ap (λ (k : Config). k.programs) c.config-2.ensures.is in
    absurd (no_line c.args.code.now c.requires.runs c.args.task (u, is) (ap (λ ls. program_line_of ls c.args.task) (sym lines) ∙ c.in-None.ensures.none))
