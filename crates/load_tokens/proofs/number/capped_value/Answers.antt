use Rattle.std.proofs.Common.{sym, ◌∙◌, ◌+◌, ◌*◌, ap, drop, min, arith, Some, get_or}
use Rattle.std.specs.Prelude.{option_map, filter, not, ◌==◌}
use Rattle.std.specs.Char.{is_digit, digit_value}
use Rattle.std.specs.Str.Parse.{digits_value}
use Rattle.std.proofs.lemmas.Grind.{common_steps}
use Rattle.std.proofs.lemmas.List.{take_all}
use Rattle.il_syntax.specs.Text.{is_grouped_after}
use Rattle.load_tokens.proofs.Grouped.{grouped_gap, grouped_bad_gap, grouped_pass, grouped_fail, grouped_end}
use Rattle.load_tokens.proofs.Capped.{value_gap, value_step}
use Rattle.load_tokens.proofs.Numbers.{no_digit, some_digit, digit_apart, ungrouped, grouped}
use Rattle.load_tokens.proofs.number.capped_value.Goals as goal
use Rattle.load_tokens.proofs.number.capped_value.Goals.{in-Some, in-None+else-digit-ne95+else-not-inside}

pub overflow_mul-value : goal.overflow_mul-value
overflow_mul-value c = grind (arith, common_steps)

pub overflow_add-value : goal.overflow_add-value
overflow_add-value c = grind (arith, common_steps)

pub returns-then-digit-ne95 : goal.returns-then-digit-ne95
returns-then-digit-ne95 c =
    let fails = no_digit (get_or c.args.digits.now c.loop-digit.digit-index 0) c.args.base (rw c.from.ensures at c.in-None.ensures.value) in
    let bad = sym c.loop-digit.invariant.grouped ∙ grouped_fail (λ b. is_digit b c.args.base) c.loop-digit.inside c.args.digits.now c.loop-digit.digit-index c.loop-digit-test.true c.if-digit-ne95.true fails in
    sym (ap (option_map (λ n. min n 4294967296)) (ungrouped c.args.base c.args.digits.now bad))

pub returns-then-not-inside : goal.returns-then-not-inside
returns-then-not-inside c =
    let gap = ap (λ b. is_grouped_after (λ b. is_digit b c.args.base) b (drop c.loop-digit.digit-index c.args.digits.now)) c.if-not-inside.true in
    let bad = sym c.loop-digit.invariant.grouped ∙ gap ∙ grouped_bad_gap (λ b. is_digit b c.args.base) c.args.digits.now c.loop-digit.digit-index c.loop-digit-test.true c.if-digit-ne95.false in
    sym (ap (option_map (λ n. min n 4294967296)) (ungrouped c.args.base c.args.digits.now bad))

pub loop-digit-preserved : goal.loop-digit-preserved
loop-digit-preserved c = elim c.match-to_digit.branch [
  | in-Some w ↦
      let small = rw c.from.ensures at w.in-Some.ensures.value.0 in
      let apart = digit_apart (get_or c.args.digits.now c.loop-digit.digit-index 0) c.args.base c.requires.high small in
      record {
        grouped =
            ap (λ b. is_grouped_after (λ b. is_digit b c.args.base) b (drop (c.loop-digit.digit-index + 1) c.args.digits.now)) w.inside-is
            ∙ sym (grouped_pass (λ b. is_digit b c.args.base) c.loop-digit.inside c.args.digits.now c.loop-digit.digit-index c.loop-digit-test.true apart (some_digit (get_or c.args.digits.now c.loop-digit.digit-index 0) c.args.base small))
            ∙ c.loop-digit.invariant.grouped;
        capped =
            w.value-is
            ∙ value_step c.args.base c.args.digits.now c.loop-digit.digit-index c.loop-digit.value w.in-Some.units w.min-value.result (omega (arith, c.requires.low)) c.loop-digit-test.true apart
            c.loop-digit.invariant.capped (w.in-Some.ensures.value.1 ∙ ap digit_value c.from.ensures)
            (w.min-value.ensures ∙ ap (λ n. min (c.loop-digit.value * n + w.from-in-Some-2.result) 4294967296) w.from-in-Some.ensures ∙ ap (λ n. min (c.loop-digit.value * c.args.base + n) 4294967296) w.from-in-Some-2.ensures);
      }
  | in-None+else-digit-ne95+else-not-inside w ↦ record {
    grouped =
        ap (λ b. is_grouped_after (λ b. is_digit b c.args.base) b (drop (c.loop-digit.digit-index + 1) c.args.digits.now)) w.inside-is
        ∙ sym (grouped_gap (λ b. is_digit b c.args.base) c.args.digits.now c.loop-digit.digit-index c.loop-digit-test.true w.if-digit-ne95.false)
        ∙ ap (λ b. is_grouped_after (λ b. is_digit b c.args.base) b (drop c.loop-digit.digit-index c.args.digits.now)) (sym w.if-not-inside.false)
        ∙ c.loop-digit.invariant.grouped;
    capped = w.value-is ∙ c.loop-digit.invariant.capped ∙ ap (λ n. min n 4294967296) (sym (value_gap c.args.base c.args.digits.now c.loop-digit.digit-index c.loop-digit-test.true w.if-digit-ne95.false));
  }
]

pub returns-then-inside : goal.returns-then-inside
returns-then-inside c =
    let good = sym c.loop-digit.invariant.grouped ∙ grouped_end (λ b. is_digit b c.args.base) c.loop-digit.inside c.args.digits.now c.loop-digit.digit-index c.loop-digit-test.false ∙ c.if-inside.true in
    let all = take_all c.loop-digit.digit-index c.args.digits.now c.loop-digit-test.false in
    ap Some (c.loop-digit.invariant.capped ∙ ap (λ ds. min (digits_value c.args.base (filter (λ b. not (b == 95)) ds)) 4294967296) all)
    ∙ sym (ap (option_map (λ n. min n 4294967296)) (grouped c.args.base c.args.digits.now good))

pub returns-else-inside : goal.returns-else-inside
returns-else-inside c =
    let bad = sym c.loop-digit.invariant.grouped ∙ grouped_end (λ b. is_digit b c.args.base) c.loop-digit.inside c.args.digits.now c.loop-digit.digit-index c.loop-digit-test.false ∙ c.if-inside.false in
    sym (ap (option_map (λ n. min n 4294967296)) (ungrouped c.args.base c.args.digits.now bad))
