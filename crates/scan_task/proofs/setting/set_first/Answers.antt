use Rattle.std.proofs.Common.{◌≤◌, refl, sym, ap, ◌∙◌, subst, arith}
use Rattle.std.specs.Prelude.{slice_index_or}
use Rattle.std.proofs.lemmas.Option.{same_Some}
use Rattle.scan_task.specs.Setting.{HasSlot}
use Rattle.scan_task.proofs.Changed.{no_slot, stands_here}
use Rattle.scan_task.proofs.setting.set_first.Goals.{After-is_of}
use Rattle.scan_task.proofs.setting.set_first.Goals as goal

pub returns-in_default : goal.returns-in_default
returns-in_default c = (λ k at. absurd (no_slot k (sym c.in_default.is ∙ c.slot_of.ensures.slot ∙ at)), refl)

pub returns-then-slot-count : goal.returns-then-slot-count
returns-then-slot-count c = (λ k at. subst (λ n. c.args.count ≤ n) (same_Some c.in-Some.slot k (sym c.in-Some.is ∙ c.slot_of.ensures.slot ∙ at)) c.if-slot-count.true, refl)

-- the slot that was found
abbrev found : (c : After-is_of) → HasSlot c.args.layout.now.cells c.args.count c.args.path.now
found c = record {
  slot = c.in-Some.slot;
  cell = c.index-cells-slot.result;
  at = sym c.slot_of.ensures.slot ∙ c.in-Some.is;
  low = c.if-slot-count.false;
  here = stands_here c.args.layout.now.cells c.in-Some.slot c.index-cells-slot.result (let most = c.requires.cells in let low = c.if-slot-count.false in omega (arith, low, most))
      (c.index-cells-slot.is ∙ ap (λ xs. slice_index_or xs c.in-Some.slot c.index-cells-slot.result) c.cells.ensures);
}

pub returns-then-not-is_of : goal.returns-then-not-is_of
returns-then-not-is_of c = (found (goal.at.returns-then-not-is_of c).After-is_of, sym c.is_of.ensures ∙ c.if-not-is_of.true, refl)

pub returns : goal.returns
returns c = (found (goal.at.returns c).After-is_of, sym c.is_of.ensures ∙ c.if-not-is_of.false, c.put.ensures)
