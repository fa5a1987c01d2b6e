use Rattle.std.proofs.Common.{◌≡◌, ◌≤◌, ℕ, List, ◌++◌, refl, sym, ◌∙◌, arith}
use Rattle.group_spec.specs.declared.calls.Call.{Call}
use Rattle.group_spec.specs.Calls.{greatest_ticket}
use Rattle.trace_text.specs.Text.{part}
use Rattle.trace_text.specs.Parts.{Ends}
use Rattle.trace_text.proofs.Bytes.{if_none}
use Rattle.trace_text.proofs.Numbers.{part_once}
use Rattle.group_state.specs.Saying.{HasSmallFloors}
use Rattle.group_state.proofs.calls.ticket_and_call.Goals as goal

abbrev None : List ℕ → Type 0
None text = (ticket : ℕ) (call : Call) (rest : List ℕ) → ticket ≤ greatest_ticket → HasSmallFloors call → Ends 32 rest → text ≡ part ticket ++ (part call.from ++ (part call.to ++ rest)) → ⊥

pub returns-in_err-from-clause-none : goal.returns-in_err-from-clause-none
returns-in_err-from-clause-none c =
    let found = c.in_ok-ticket.ensures.found in
    let none : None c.args.text.now = λ ticket call rest h f ends e.
    let first = part_once c.in_ok-ticket.ticket ticket c.in_ok-ticket.rest.now (part call.from ++ (part call.to ++ rest)) (omega (arith, found.0)) (omega (arith, h)) found.2 refl (sym found.1 ∙ e) in
    c.in_err-from.ensures.none call.from (part call.to ++ rest) f.0 refl first.1 in
    if_none _ _ none

pub returns-in_err-to-clause-none : goal.returns-in_err-to-clause-none
returns-in_err-to-clause-none c =
    let found = c.in_ok-ticket.ensures.found in
    let more = c.in_ok-from.ensures.found in
    let none : None c.args.text.now = λ ticket call rest h f ends e.
    let first = part_once c.in_ok-ticket.ticket ticket c.in_ok-ticket.rest.now (part call.from ++ (part call.to ++ rest)) (omega (arith, found.0)) (omega (arith, h)) found.2 refl (sym found.1 ∙ e) in
    let second = part_once c.in_ok-from.from call.from c.in_ok-from.rest.now (part call.to ++ rest) (omega (arith, more.0)) (omega (arith, f.0)) more.2 refl (sym more.1 ∙ first.1) in
    c.in_err-to.ensures.none call.to rest f.1 ends second.1 in
    if_none _ _ none
