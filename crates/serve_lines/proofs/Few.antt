-- How long answers are at most.
use Rattle.std.proofs.Common.{◌≡◌, ℕ, ◌+◌, ◌*◌, ◌<◌, ◌≤◌, ◌^◌, List, [], ◌∷◌, ◌++◌, flat_map, take, length, length-append, Some, Result, Ok, Err, OnOk, ap, ◌∙◌, arith, lit<}
use Rattle.std.specs.Prelude.{slice_get, decimal}
use Rattle.std.specs.Fmt.{signed_decimal}
use Rattle.std.proofs.lemmas.Fmt.{length-decimal-le}
use Rattle.group_spec.specs.declared.calls.Call.{Call}
use Rattle.group_spec.specs.declared.image.CarOutputs.{CarOutputs}
use Rattle.group_spec.specs.declared.image.Motor.{Motor}
use Rattle.group_spec.specs.declared.image.Motor.TheVariants.{Up, Down, Still}
use Rattle.group_spec.specs.declared.report.Rule.{Rule}
use Rattle.group_spec.specs.declared.report.Rule.TheVariants.{Reversal, Unlocked, AtEnd, NotLevel, Crowded, Fire}
use Rattle.group_spec.specs.Limits.{most_cars}
use Rattle.group_spec.specs.Settle.{rule_number}
use Rattle.group_spec.specs.Snapshot.{motor_number}
use Rattle.group_rounds.proofs.Driving.{take_next}
use Rattle.group_rounds.specs.declared.notice.Notice.{Notice}
use Rattle.group_rounds.specs.declared.notice.TheConstants.{MOST_NOTICES}
use Rattle.group_spec.specs.declared.event.EventFault.{EventFault}
use Rattle.group_spec.specs.declared.event.EventFault.TheVariants.{FieldOutOfRange, NoOpenScan, AlreadyOpen, NotAtEnd, NoSuchActor, SameFloor}
use Rattle.group_spec.specs.EventFaults.{event_fault_number}
use Rattle.group_spec.specs.Replies.{Reply, Started, More, End, Committed, Refreshed, New, Already, Gathered, Held, Refused}
use Rattle.serve_lines.specs.Answers.{entered_line, denied_line, told_line, served_line, notice_line, output_part, outputs_line, press_line, press_word, greatest_answer}

pub on_ok : {X E : Type 0} {P Q : Type 0} (r : Result X E) → (P → Q) → OnOk r P → OnOk r Q
on_ok (Ok x) f p = f p
on_ok (Err e) f p = tt

-- NUMBERS

small : (n : ℕ) → n < 2 ^ 8 → length (decimal n) ≤ 3
small n low = length-decimal-le 3 n (lit< tt) (omega (arith, low)) (omega (arith, low))

large : (n : ℕ) → n < 2 ^ 64 → length (decimal n) ≤ 20
large n low = length-decimal-le 20 n (lit< tt) (omega (arith, low)) low

-- NOTICES

pub entered_few : (ticket slot from to : ℕ) → ticket < 2 ^ 64 → slot < 2 ^ 8 → from < 2 ^ 8 → to < 2 ^ 8 → length (entered_line (record { slot = slot; ticket = ticket; call = record { from = from; to = to } })) ≤ 41
unfolding entered_line
entered_few ticket slot from to t s f o =
    let a = large ticket t in
    let b = small slot s in
    let d = small from f in
    let e = small to o in
    simp length-append (omega (arith, a, b, d, e))

pub told_few : (ticket car : ℕ) → ticket < 2 ^ 64 → car < 2 ^ 8 → length (told_line ticket car) ≤ 41
unfolding told_line
told_few ticket car t k =
    let a = large ticket t in
    let b = small car k in
    simp length-append (omega (arith, a, b))

pub served_few : (ticket car : ℕ) → ticket < 2 ^ 64 → car < 2 ^ 8 → length (served_line ticket car) ≤ 41
unfolding served_line
served_few ticket car t k =
    let a = large ticket t in
    let b = small car k in
    simp length-append (omega (arith, a, b))

rule_low : (rule : Rule) → rule_number rule < 2 ^ 8
rule_low Reversal = lit< tt
rule_low Unlocked = lit< tt
rule_low AtEnd = lit< tt
rule_low NotLevel = lit< tt
rule_low Crowded = lit< tt
rule_low Fire = lit< tt

pub denied_few : (car : ℕ) (rule : Rule) → car < 2 ^ 8 → length (denied_line (record { car = car; rule = rule })) ≤ 41
unfolding denied_line
denied_few car rule k =
    let a = small car k in
    let b = small (rule_number rule) (rule_low rule) in
    simp length-append (omega (arith, a, b))

flat_more : (xs : List Notice) (x : Notice) → length (flat_map notice_line (xs ++ x ∷ [])) ≡ length (flat_map notice_line xs) + length (notice_line x)
flat_more [] x = let all = length-append (notice_line x) [] in omega (arith, all)
flat_more (y ∷ xs) x =
    let all = length-append (notice_line y) (flat_map notice_line (xs ++ x ∷ [])) in
    let some = length-append (notice_line y) (flat_map notice_line xs) in
    let rest = flat_more xs x in
    omega (arith, all, some, rest)

-- a notice more
pub notices_more : (notices : List Notice) (i : ℕ) (n : Notice) → slice_get notices i ≡ Some n → length (notice_line n) ≤ 41 → length (flat_map notice_line (take i notices)) ≤ 41 * i → length (flat_map notice_line (take (i + 1) notices)) ≤ 41 * (i + 1)
notices_more notices i n at one before =
    let more = ap (λ l. length (flat_map notice_line l)) (take_next notices i n at) ∙ flat_more (take i notices) n in
    omega (arith, more, one, before)

-- OUTPUTS

motor_few : (motor : Motor) → length (signed_decimal (motor_number motor)) ≤ 2
motor_few Up = let one = length-decimal-le 1 1 (lit< tt) (lit< tt) (lit< tt) in omega (arith, one)
motor_few Down = let one = length-decimal-le 1 1 (lit< tt) (lit< tt) (lit< tt) in omega (arith, one)
motor_few Still = let one = length-decimal-le 1 0 (lit< tt) (lit< tt) (lit< tt) in omega (arith, one)

part_few : (o : CarOutputs) → length (output_part o) ≤ 5
unfolding output_part
part_few o =
    let a = motor_few o.motor in
    simp length-append (omega (arith, a))

parts_few : (outputs : List CarOutputs) → length (flat_map output_part outputs) ≤ 5 * length outputs
parts_few [] = omega arith
parts_few (o ∷ outputs) =
    let all = length-append (output_part o) (flat_map output_part outputs) in
    let first = part_few o in
    let rest = parts_few outputs in
    omega (arith, all, first, rest)

pub outputs_few : (outputs : List CarOutputs) → length (outputs_line outputs) ≤ 5 * length outputs + 8
outputs_few outputs =
    let parts = parts_few outputs in
    simp length-append (omega (arith, parts))

-- PRESSES

fault_few : (fault : EventFault) → length (decimal (event_fault_number fault)) ≤ 3
fault_few FieldOutOfRange = small 60 (lit< tt)
fault_few NoOpenScan = small 61 (lit< tt)
fault_few AlreadyOpen = small 62 (lit< tt)
fault_few NotAtEnd = small 63 (lit< tt)
fault_few NoSuchActor = small 64 (lit< tt)
fault_few SameFloor = small 65 (lit< tt)

word_few : (r : Reply) → length (press_word r) ≤ 11
word_few New = omega arith
word_few Already = omega arith
word_few (Refused fault) =
    let number = fault_few fault in
    simp length-append (omega (arith, number))
word_few Started = omega arith
word_few More = omega arith
word_few End = omega arith
word_few (Committed r) = omega arith
word_few (Refreshed r) = omega arith
word_few (Gathered mask) = omega arith
word_few Held = omega arith

pub press_few : (call : Call) (r : Reply) → call.from ≤ 255 → call.to ≤ 255 → length (press_line call r) ≤ 41
unfolding press_line
press_few call r f t =
    let a = small call.from (omega (arith, f)) in
    let b = small call.to (omega (arith, t)) in
    let d = word_few r in
    simp length-append (omega (arith, a, b, d))

-- ALL OF A ROUND

pub round_few : (text : List ℕ) (notices : List Notice) (outputs : List CarOutputs) → text ≡ flat_map notice_line notices ++ outputs_line outputs → length (flat_map notice_line notices) ≤ 41 * length notices → length notices ≤ MOST_NOTICES → length outputs ≤ most_cars → length text ≤ greatest_answer
round_few text notices outputs is few many cars =
    let all = ap length is ∙ length-append (flat_map notice_line notices) (outputs_line outputs) in
    let last = outputs_few outputs in
    omega (arith, all, few, many, cars, last)
