use Rattle.std.proofs.Common.{◌∙◌, refl, ap, sym, subst}
use Rattle.std.proofs.lemmas.Option.{same_Some}
use Rattle.il_syntax.specs.declared.tree.Config.{Config}
use Rattle.il_statics.specs.Faults.{Broken, Declaring, HasNoFault}
use Rattle.group_spec.specs.Image.{sizes_of}
use Rattle.scan_task.specs.Sharing.{external_cells, image_count}
use Rattle.scan_task.proofs.Lines.{line_of_task}
use Rattle.scan_task.proofs.Shared.{externals_are, externals_room}
use Rattle.scan_task.proofs.plans.externals.Goals as goal

pub sizes_of-requires : goal.sizes_of-requires
sizes_of-requires c = subst (λ (k : Config). HasNoFault (Broken Declaring k)) (sym c.config.ensures.is) c.requires.runs.declared

pub between-requires-clause-first : goal.between-requires-clause-first
between-requires-clause-first c =
    let config = c.args.code.now in
    let u = c.requires.there.0 in
    let t = c.task-layout.ensures.is u (line_of_task config c.requires.runs c.args.task c.args.line c.requires.there config.programs refl c.requires.line u c.requires.there.1.program) in
    (externals_room config c.requires.runs c.args.task u c.requires.there.1 c.cells.result.now c.own.result c.image_count-image.result (c.cells.ensures ∙ t.cells) (c.own.ensures ∙ t.own) (c.image_count-image.ensures ∙ ap (λ z. image_count z c.args.task) (c.sizes_of.ensures ∙ ap sizes_of c.config.ensures.is))).0

pub between-requires-clause-last : goal.between-requires-clause-last
between-requires-clause-last c =
    let config = c.args.code.now in
    let u = c.requires.there.0 in
    let t = c.task-layout.ensures.is u (line_of_task config c.requires.runs c.args.task c.args.line c.requires.there config.programs refl c.requires.line u c.requires.there.1.program) in
    (externals_room config c.requires.runs c.args.task u c.requires.there.1 c.cells.result.now c.own.result c.image_count-image.result (c.cells.ensures ∙ t.cells) (c.own.ensures ∙ t.own) (c.image_count-image.ensures ∙ ap (λ z. image_count z c.args.task) (c.sizes_of.ensures ∙ ap sizes_of c.config.ensures.is))).1

pub returns : goal.returns
returns c = λ v is.
    let config = c.args.code.now in
    let u = c.requires.there.0 in
    let t = c.task-layout.ensures.is u (line_of_task config c.requires.runs c.args.task c.args.line c.requires.there config.programs refl c.requires.line u c.requires.there.1.program) in
    c.between.ensures
    ∙ externals_are config c.requires.runs c.args.task u c.requires.there.1 c.cells.result.now c.own.result c.image_count-image.result (c.cells.ensures ∙ t.cells) (c.own.ensures ∙ t.own) (c.image_count-image.ensures ∙ ap (λ z. image_count z c.args.task) (c.sizes_of.ensures ∙ ap sizes_of c.config.ensures.is))
    ∙ ap (external_cells config) (same_Some u v (sym c.requires.there.1.program ∙ is))
