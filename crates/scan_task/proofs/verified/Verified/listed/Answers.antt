use Rattle.std.proofs.Common.{◌∙◌, ap, ap₂, sym, subst, map, List, ℕ}
use Rattle.il_semantics.specs.declared.value.Value.{Value}
use Rattle.load_slots.specs.declared.flat.Cell.{Cell}
use Rattle.load_slots.specs.Program.{global_cells}
use Rattle.scan_task.specs.Sharing.{globals_in}
use Rattle.scan_task.specs.Starting.{shared_value, AreListed}
use Rattle.scan_task.proofs.Shared.{lists}
use Rattle.scan_task.proofs.verified.Verified.listed.Goals as goal

pub returns : goal.returns
returns c =
    let config = c.args.self.now.config in
    let u = c.requires.there.0 in
    let is = c.requires.there.1 in
    let cells = c.cells.ensures ∙ c.globals.ensures.is.cells ∙ ap global_cells c.code.ensures.same in
    let slots = c.as_slice.ensures ∙ (c.plan.ensures u is.program).listed in
    subst (λ (vs : List Value). AreListed config c.args.number vs (globals_in config c.args.globals.now)) (sym (ap₂ (λ (xs : List Cell) (ss : List ℕ). map (shared_value xs c.args.globals.now) ss) cells slots))
    (lists config c.code.ensures.runnable c.args.number u is c.args.globals.now c.requires.fits c.requires.shared)
