use Rattle.std.proofs.Common.{◌≡◌, ◌∙◌, Some, sym, ap, slice_get}
use Rattle.std.specs.Prelude.{option_map}
use Rattle.load_scope.proofs.Seen.{read_at, none_at}
use Rattle.load_slots.specs.declared.flat.Cell.{Cell}
use Rattle.load_slots.proofs.Paired.{path_placed}
use Rattle.load_code.specs.Tasks.{TaskLayout}
use Rattle.load_code.proofs.task.TaskCode.name_of.Goals as goal

pub returns-in-Some-clause-back : goal.returns-in-Some-clause-back
returns-in-Some-clause-back c = λ once.
    let same = c.as_slice.ensures ∙ ap (λ (t : TaskLayout). t.cells) c.self.view_is in
    let there : slice_get c.args.self.now.cells c.args.slot ≡ Some c.in-Some.cell.now = read_at c.as_slice.result.now c.args.self.now.cells c.args.slot c.in-Some.cell.now same c.in-Some.ensures.lookup.3.0 c.in-Some.ensures.lookup.1 in
    path_placed c.args.self.now.cells once c.args.slot c.as_str.result.now (ap (option_map (λ (x : Cell). x.path)) there ∙ ap Some (sym c.as_str.ensures))

pub returns-in-None-clause-path : goal.returns-in-None-clause-path
returns-in-None-clause-path c =
    let same = c.as_slice.ensures ∙ ap (λ (t : TaskLayout). t.cells) c.self.view_is in
    sym (ap (option_map (λ (x : Cell). x.path)) (ap (λ l. slice_get l c.args.slot) (sym same) ∙ none_at c.as_slice.result.now c.args.slot c.in-None.ensures.lookup.3))
