use Rattle.std.proofs.Common.{sym, ◌∙◌, ◌+◌, ap}
use Rattle.std.specs.Char.{is_ascii_alphanumeric}
use Rattle.il_syntax.specs.Text.{is_grouped_after}
use Rattle.std.proofs.Common.{drop}
use Rattle.load_tokens.proofs.Grouped.{grouped_gap, grouped_bad_gap, grouped_pass, grouped_fail, grouped_end}
use Rattle.load_tokens.proofs.lexeme.is_grouped.Goals as goal
use Rattle.load_tokens.proofs.lexeme.is_grouped.Goals.{then-byte-eq95+else-not-inside, else-byte-eq95+else-not-is_ascii_alphanumeric}

pub returns-then-not-inside : goal.returns-then-not-inside
returns-then-not-inside c =
    sym (grouped_bad_gap is_ascii_alphanumeric c.args.bytes.now c.loop-byte.byte-index c.loop-byte-test.true c.if-byte-eq95.true)
    ∙ ap (λ b. is_grouped_after is_ascii_alphanumeric b (drop c.loop-byte.byte-index c.args.bytes.now)) (sym c.if-not-inside.true) ∙ c.loop-byte.invariant

pub returns-then-not-is_ascii_alphanumeric : goal.returns-then-not-is_ascii_alphanumeric
returns-then-not-is_ascii_alphanumeric c =
    sym (grouped_fail is_ascii_alphanumeric c.loop-byte.inside c.args.bytes.now c.loop-byte.byte-index c.loop-byte-test.true c.if-byte-eq95.false (sym c.is_ascii_alphanumeric.ensures.value ∙ c.if-not-is_ascii_alphanumeric.true))
    ∙ c.loop-byte.invariant

pub loop-byte-preserved : goal.loop-byte-preserved
loop-byte-preserved c = elim c.if-byte-eq95.branch [
  | then-byte-eq95+else-not-inside w ↦
      ap (λ b. is_grouped_after is_ascii_alphanumeric b (drop (c.loop-byte.byte-index + 1) c.args.bytes.now)) w.inside-is
      ∙ sym (grouped_gap is_ascii_alphanumeric c.args.bytes.now c.loop-byte.byte-index c.loop-byte-test.true w.if-byte-eq95.true)
      ∙ ap (λ b. is_grouped_after is_ascii_alphanumeric b (drop c.loop-byte.byte-index c.args.bytes.now)) (sym w.if-not-inside.false) ∙ c.loop-byte.invariant
  | else-byte-eq95+else-not-is_ascii_alphanumeric w ↦
      ap (λ b. is_grouped_after is_ascii_alphanumeric b (drop (c.loop-byte.byte-index + 1) c.args.bytes.now)) w.inside-is
      ∙ sym (grouped_pass is_ascii_alphanumeric c.loop-byte.inside c.args.bytes.now c.loop-byte.byte-index c.loop-byte-test.true w.if-byte-eq95.false (sym w.is_ascii_alphanumeric.ensures.value ∙ w.if-not-is_ascii_alphanumeric.false))
      ∙ c.loop-byte.invariant
]

pub returns : goal.returns
returns c = sym (grouped_end is_ascii_alphanumeric c.loop-byte.inside c.args.bytes.now c.loop-byte.byte-index c.loop-byte-test.false) ∙ c.loop-byte.invariant
