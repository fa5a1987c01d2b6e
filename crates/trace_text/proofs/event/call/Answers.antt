use Rattle.std.proofs.Common.{arith, ◌≡◌, ◌≤◌, ◌++◌, refl, sym, ◌∙◌}
use Rattle.group_spec.specs.declared.calls.Call.{Call}
use Rattle.trace_text.specs.Text.{part}
use Rattle.trace_text.proofs.Bytes.{if_none}
use Rattle.trace_text.proofs.Numbers.{part_once}
use Rattle.trace_text.proofs.event.call.Goals as goal

pub returns-in_err-only_number-clause-none : goal.returns-in_err-only_number-clause-none
returns-in_err-only_number-clause-none c =
    let none : (call : Call) → call.from ≤ 255 → call.to ≤ 255 → c.args.parts.now ≡ part call.from ++ part call.to → ⊥ = λ call h k e.
    let found = c.in_ok-from.ensures.found in
    c.in_err-only_number.ensures.none call.to k (part_once c.in_ok-from.from call.from c.in_ok-from.rest.now (part call.to) (omega arith) (omega arith) found.2 refl (sym found.1 ∙ e)).1 in
    if_none _ _ none
