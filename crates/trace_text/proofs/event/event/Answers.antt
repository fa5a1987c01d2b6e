use Rattle.std.proofs.Common.{rules, arith, ◌≡◌, [], length}
use Rattle.std.proofs.lemmas.List.{nil_from_length}
use Rattle.trace_text.proofs.Bytes.{if_none}
use Rattle.trace_text.proofs.Lines.{NoEvent, no_event, no_event_empty, no_event_of}
use Rattle.trace_text.proofs.event.event.Goals as goal

pub returns-in_err-letter-clause-none : goal.returns-in_err-letter-clause-none
returns-in_err-letter-clause-none c =
    let empty : length c.args.line.now ≡ 0 = search rules in
    let none : NoEvent c.args.format c.args.count c.args.line.now = no_event_of _ _ _ [] (nil_from_length _ empty) (no_event_empty c.args.format c.args.count) in
    if_none _ _ none

pub returns-in_err-only_number-in-83-clause-none :
    goal.returns-in_err-only_number-in-83-clause-none
returns-in_err-only_number-in-83-clause-none c =
    let none : NoEvent c.args.format c.args.count c.args.line.now = no_event_of _ _ _ _ c.in_ok-letter.ensures.cases.0
    (no_event c.args.format c.args.count c.in_ok-letter.letter.now c.in_ok-letter.parts.now (λ is. c.in_err-only_number-in-83.ensures.none) (λ is. absurd (omega (arith, is, c.in-83.is))) (λ is. absurd (omega (arith, is, c.in-83.is))) (λ is. absurd (omega (arith, is, c.in-83.is))) (λ is. absurd (omega (arith, is, c.in-83.is)))) in
    if_none _ _ none

pub returns-in_err-only_number-in-67-clause-none :
    goal.returns-in_err-only_number-in-67-clause-none
returns-in_err-only_number-in-67-clause-none c =
    let none : NoEvent c.args.format c.args.count c.args.line.now = no_event_of _ _ _ _ c.in_ok-letter.ensures.cases.0
    (no_event c.args.format c.args.count c.in_ok-letter.letter.now c.in_ok-letter.parts.now (λ is. absurd (omega (arith, is, c.in-67.is))) (λ is. c.in_err-only_number-in-67.ensures.none) (λ is. absurd (omega (arith, is, c.in-67.is))) (λ is. absurd (omega (arith, is, c.in-67.is))) (λ is. absurd (omega (arith, is, c.in-67.is)))) in
    if_none _ _ none

pub returns-in_err-call-in-80-clause-none :
    goal.returns-in_err-call-in-80-clause-none
returns-in_err-call-in-80-clause-none c =
    let none : NoEvent c.args.format c.args.count c.args.line.now = no_event_of _ _ _ _ c.in_ok-letter.ensures.cases.0
    (no_event c.args.format c.args.count c.in_ok-letter.letter.now c.in_ok-letter.parts.now (λ is. absurd (omega (arith, is, c.in-80.is))) (λ is. absurd (omega (arith, is, c.in-80.is))) (λ is. c.in_err-call-in-80.ensures.none) (λ is. absurd (omega (arith, is, c.in-80.is))) (λ is. absurd (omega (arith, is, c.in-80.is)))) in
    if_none _ _ none

pub returns-in_err-only_number-in-71-clause-none :
    goal.returns-in_err-only_number-in-71-clause-none
returns-in_err-only_number-in-71-clause-none c =
    let none : NoEvent c.args.format c.args.count c.args.line.now = no_event_of _ _ _ _ c.in_ok-letter.ensures.cases.0
    (no_event c.args.format c.args.count c.in_ok-letter.letter.now c.in_ok-letter.parts.now (λ is. absurd (omega (arith, is, c.in-71.is))) (λ is. absurd (omega (arith, is, c.in-71.is))) (λ is. absurd (omega (arith, is, c.in-71.is))) (λ is. c.in_err-only_number-in-71.ensures.none) (λ is. absurd (omega (arith, is, c.in-71.is)))) in
    if_none _ _ none

pub returns-in_err-fields-in-82-clause-none :
    goal.returns-in_err-fields-in-82-clause-none
returns-in_err-fields-in-82-clause-none c =
    let none : NoEvent c.args.format c.args.count c.args.line.now = no_event_of _ _ _ _ c.in_ok-letter.ensures.cases.0
    (no_event c.args.format c.args.count c.in_ok-letter.letter.now c.in_ok-letter.parts.now (λ is. absurd (omega (arith, is, c.in-82.is))) (λ is. absurd (omega (arith, is, c.in-82.is))) (λ is. absurd (omega (arith, is, c.in-82.is))) (λ is. absurd (omega (arith, is, c.in-82.is))) (λ is. c.in_err-fields-in-82.ensures.none)) in
    if_none _ _ none

pub returns-in_default-clause-none : goal.returns-in_default-clause-none
returns-in_default-clause-none c =
    no_event_of _ _ _ _ c.in_ok-letter.ensures.cases.0 (no_event c.args.format c.args.count c.in_ok-letter.letter.now c.in_ok-letter.parts.now (λ is. absurd (omega (arith, is))) (λ is. absurd (omega (arith, is))) (λ is. absurd (omega (arith, is))) (λ is. absurd (omega (arith, is))) (λ is. absurd (omega (arith, is))))
