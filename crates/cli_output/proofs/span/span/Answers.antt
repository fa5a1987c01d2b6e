use Rattle.std.proofs.Common.{arith, Some, None, refl}
use Rattle.std.proofs.lemmas.Str.Pattern.{split_once_first}
use Rattle.cli_host.proofs.Parts.{part_before}
use Rattle.cli_output.proofs.Ends.{no_colon, no_first, no_last, no_order, span_is}
use Rattle.cli_output.proofs.span.span.Goals as goal

pub returns-in_err-first-clause-none : goal.returns-in_err-first-clause-none
returns-in_err-first-clause-none c = λ _. no_colon c.args.word.now (split_once_first 58 c.args.word.now None c.in_err-first.ensures.cases (omega arith))

pub returns-in_err-end_of-clause-none : goal.returns-in_err-end_of-clause-none
returns-in_err-end_of-clause-none c = λ _.
    let parts = split_once_first 58 c.args.word.now (Some (c.in_ok-first.first, c.in_ok-first.last)) c.in_ok-first.ensures.cases (omega arith) in
    no_first c.args.word.now c.in_ok-first.first.now c.in_ok-first.last.now (part_before c.args.word.now c.in_ok-first.first.now c.in_ok-first.last.now parts.0 parts.1 parts.2) (c.in_err-end_of.ensures.none refl)

pub returns-in_err-end_of-2-clause-none : goal.returns-in_err-end_of-2-clause-none
returns-in_err-end_of-2-clause-none c = λ _.
    let parts = split_once_first 58 c.args.word.now (Some (c.in_ok-first.first, c.in_ok-first.last)) c.in_ok-first.ensures.cases (omega arith) in
    no_last c.args.word.now c.in_ok-first.first.now c.in_ok-first.last.now (part_before c.args.word.now c.in_ok-first.first.now c.in_ok-first.last.now parts.0 parts.1 parts.2) (c.in_err-end_of-2.ensures.none refl)

pub returns-then-span-clause-none : goal.returns-then-span-clause-none
returns-then-span-clause-none c = λ _.
    let parts = split_once_first 58 c.args.word.now (Some (c.in_ok-first.first, c.in_ok-first.last)) c.in_ok-first.ensures.cases (omega arith) in
    let high = c.if-span.true in
    no_order c.args.word.now c.in_ok-first.first.now c.in_ok-first.last.now (part_before c.args.word.now c.in_ok-first.first.now c.in_ok-first.last.now parts.0 parts.1 parts.2) c.in_ok-end_of.field-0 c.in_ok-end_of-2.field-0
    c.in_ok-end_of.ensures.some c.in_ok-end_of-2.ensures.some (omega (arith, high))

pub returns-clause-some : goal.returns-clause-some
returns-clause-some c =
    let parts = split_once_first 58 c.args.word.now (Some (c.in_ok-first.first, c.in_ok-first.last)) c.in_ok-first.ensures.cases (omega arith) in
    let long = c.if-word-lt2.false in
    let low = c.if-span.false in
    span_is c.args.word.now c.in_ok-first.first.now c.in_ok-first.last.now (part_before c.args.word.now c.in_ok-first.first.now c.in_ok-first.last.now parts.0 parts.1 parts.2) c.in_ok-end_of.field-0 c.in_ok-end_of-2.field-0
    c.in_ok-end_of.ensures.some c.in_ok-end_of-2.ensures.some (omega (arith, long)) (omega (arith, low))
