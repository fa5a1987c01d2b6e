use Rattle.std.proofs.Common.{◌≡◌, ◌∙◌, refl, ap, ap₂, sym, map, slice_get, List}
use Rattle.std.proofs.lemmas.Option.{same_Some}
use Rattle.il_syntax.specs.declared.tree.Config.{Config}
use Rattle.il_syntax.specs.declared.tree.Step.{Step}
use Rattle.il_syntax.specs.declared.tree.Unit.{Unit as ProgramUnit}
use Rattle.load_scope.proofs.Seen.{read_at}
use Rattle.load_slots.specs.declared.flat.Cell.{Cell}
use Rattle.load_slots.specs.Program.{global_cells}
use Rattle.scan_task.specs.Sharing.{slot_in, transfers, external_cells}
use Rattle.scan_task.proofs.Lines.{got_within, line_of_task}
use Rattle.scan_task.proofs.plans.plan_at.Goals as goal

pub of-scope-requires : goal.of-scope-requires
of-scope-requires c =
    let config = c.args.code.now in
    let u = c.requires.there.0 in
    let stands = c.program_number-unit.ensures.stands u c.requires.there.1.program in
    let units = c.as_slice.ensures ∙ ap (λ (k : Config). k.units) c.config.ensures.is in
    ap (λ (k : Config). slice_get k.units c.program_number-unit.result) c.names.ensures.is
    ∙ read_at c.as_slice.result.now config.units c.program_number-unit.result c.index-as_slice-unit.result units (got_within c.as_slice.result.now c.program_number-unit.result u (ap (λ l. slice_get l c.program_number-unit.result) units ∙ stands)) c.index-as_slice-unit.is

pub returns : goal.returns
returns c = λ u is.
    let config = c.args.code.now in
    let line = line_of_task config c.requires.runs c.args.task c.args.line c.requires.there config.programs refl c.requires.line u is in
    let t = c.task.ensures.is u line in
    let stands = c.program_number-unit.ensures.stands u is in
    let units = c.as_slice.ensures ∙ ap (λ (k : Config). k.units) c.config.ensures.is in
    let read = read_at c.as_slice.result.now config.units c.program_number-unit.result c.index-as_slice-unit.result units (got_within c.as_slice.result.now c.program_number-unit.result u (ap (λ l. slice_get l c.program_number-unit.result) units ∙ stands)) c.index-as_slice-unit.is in
    let unit : c.index-as_slice-unit.result ≡ u = same_Some c.index-as_slice-unit.result u (sym read ∙ stands) in
    let steps : c.of-scope.result.unit.body.steps ≡ u.body.steps = ap (λ (v : ProgramUnit). v.body.steps) (c.of-scope.ensures.unit ∙ unit) in
    let cells = c.externals-cells.ensures u is in
    record {
      within = c.requires.within;
      line = line;
      stands = stands;
      first = c.program_number-unit.ensures.first u is;
      listed = c.in_ok-listed.ensures ∙ ap₂ (λ (g xs : List Cell). map (slot_in g) xs) c.globals.ensures.is.cells cells;
      written = c.in_ok-written.ensures ∙ ap (λ (ss : List Step). transfers ss c.task.result.now.cells c.globals-2.result.now.cells c.externals-cells.result.now) steps
          ∙ ap₂ (λ (g xs : List Cell). transfers u.body.steps c.task.result.now.cells g xs) c.globals-2.ensures.is.cells cells
          ∙ ap (λ (g : List Cell). transfers u.body.steps g (global_cells config) (external_cells config u)) t.cells;
    }
