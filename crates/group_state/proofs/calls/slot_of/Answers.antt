use Rattle.std.proofs.Common.{sym, ◌∙◌, arith}
use Rattle.group_spec.specs.declared.calls.Slot.{Slot}
use Rattle.trace_text.proofs.Bytes.{if_none, none_by}
use Rattle.trace_text.proofs.Numbers.{part_once}
use Rattle.group_state.specs.Saying.{SaysSlot}
use Rattle.group_state.specs.Text.{slot_part}
use Rattle.group_state.proofs.Slots.{slot_ends, slot_parts}
use Rattle.group_state.proofs.calls.slot_of.Goals as goal

pub returns-in_err-own-clause-none : goal.returns-in_err-own-clause-none
returns-in_err-own-clause-none c =
    let none : (slot : Slot) → SaysSlot c.args.number slot c.args.line.now → ⊥ = λ slot says.
    c.in_err-own.ensures.none c.args.number (slot_part slot) (omega arith) (slot_ends slot) (slot_parts c.args.number c.args.line.now c.in_ok-parts.parts.now slot says c.in_ok-parts.ensures.found) in
    if_none _ _ none

pub returns-then-own-number-clause-none : goal.returns-then-own-number-clause-none
returns-then-own-number-clause-none c = λ slot says.
    let found = c.in_ok-own.ensures.found in
    let parts = slot_parts c.args.number c.args.line.now c.in_ok-parts.parts.now slot says c.in_ok-parts.ensures.found in
    let same = (part_once c.in_ok-own.own c.args.number c.in_ok-own.parts.now (slot_part slot) (omega (arith, found.0)) (omega arith) found.2 (slot_ends slot) (sym found.1 ∙ parts)).0 in
    absurd (omega (arith, same))

pub returns-clause-none : goal.returns-clause-none
returns-clause-none c =
    let found = c.in_ok-own.ensures.found in
    none_by c.held.result _ ((slot : Slot) → SaysSlot c.args.number slot c.args.line.now → ⊥)
    (λ none slot says.
    let parts = slot_parts c.args.number c.args.line.now c.in_ok-parts.parts.now slot says c.in_ok-parts.ensures.found in
    none slot says.0 (part_once c.in_ok-own.own c.args.number c.in_ok-own.parts.now (slot_part slot) (omega (arith, found.0)) (omega arith) found.2 (slot_ends slot) (sym found.1 ∙ parts)).1) c.held.ensures.none
