use Rattle.std.proofs.Common.{sym, ◌∙◌, ◌+◌, ◌*◌, ◌-◌, ap, drop, take, length, arith}
use Rattle.std.specs.Prelude.{option_map}
use Rattle.std.specs.Str.Parse.{digits_value}
use Rattle.std.proofs.lemmas.List.{take_rest}
use Rattle.il_syntax.specs.Text.{parts_value, upper_case}
use Rattle.load_tokens.proofs.Durations.{front_digits}
use Rattle.load_tokens.proofs.Cases.{upper_stands, upper_missing}
use Rattle.load_tokens.proofs.duration.part_of.Goals as goal
use Rattle.load_tokens.proofs.duration.part_of.Goals.{else-digits-gt0-via-then-digits-gt0+else-is_in_upper_case, else-digits-gt0-via-else-digits-gt0}

pub capped_count-requires : goal.capped_count-requires
capped_count-requires c = λ k below. front_digits c.args.bytes.now c.digits_len-digits.result k c.digits_len-digits.ensures.longest c.digits_len-digits.ensures.within below

pub returns-then-is_in_upper_case : goal.returns-then-is_in_upper_case
returns-then-is_in_upper_case c =
    let behind = take (length c.args.bytes.now - c.digits_len-digits.result) (drop c.digits_len-digits.result c.args.bytes.now) in (
      digits_value 10 (take c.digits_len-digits.result c.args.bytes.now),
      ap (λ n. n * c.args.milliseconds) c.capped_count.ensures,
      λ units.
          upper_stands c.args.unit.now c.args.milliseconds units c.args.bytes.now behind c.digits_len-digits.result c.letters_len-letters.result
          c.digits_len-digits.ensures.longest (take_rest c.args.bytes.now c.digits_len-digits.result) c.letters_len-letters.ensures.longest c.if-digits-gt0.true c.letters_len-letters.ensures.within
          (sym c.is_in_upper_case.ensures ∙ c.if-is_in_upper_case.true)
          ∙ ap (λ r. option_map (λ n. digits_value 10 (take c.digits_len-digits.result c.args.bytes.now) * c.args.milliseconds + n) (parts_value units (upper_case r))) (sym (take_rest behind c.letters_len-letters.result)),
    )

pub returns-else-digits-gt0 : goal.returns-else-digits-gt0
returns-else-digits-gt0 c =
    let behind = take (length c.args.bytes.now - c.digits_len-digits.result) (drop c.digits_len-digits.result c.args.bytes.now) in (
      0,
      omega arith,
      λ units.
          upper_missing c.args.unit.now c.args.milliseconds units c.args.bytes.now behind c.digits_len-digits.result c.letters_len-letters.result
          c.digits_len-digits.ensures.longest (take_rest c.args.bytes.now c.digits_len-digits.result) c.letters_len-letters.ensures.longest
          (λ some. elim c.else-digits-gt0.branch [
            | else-digits-gt0-via-then-digits-gt0+else-is_in_upper_case w ↦ sym w.is_in_upper_case.ensures ∙ w.if-is_in_upper_case.false
            | else-digits-gt0-via-else-digits-gt0 w ↦ absurd (omega (arith, w.if-digits-gt0.false))
          ]),
    )
