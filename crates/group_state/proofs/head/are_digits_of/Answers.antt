use Rattle.std.proofs.Common.{false, refl}
use Rattle.group_state.proofs.Words.{true_false}
use Rattle.group_state.proofs.Hex.{digits_here, digits_on}
use Rattle.group_state.proofs.head.are_digits_of.Goals as goal

pub returns-then-not-are_of_byte : goal.returns-then-not-are_of_byte
returns-then-not-are_of_byte c = (
  λ no. absurd (true_false false no refl),
  λ e. let here = digits_here c.args.digits.now c.args.bytes.now c.bytes.at c.bytes-test.true c.requires (c.bytes.invariant.back e) in absurd (true_false c.are_of_byte.result (c.are_of_byte.ensures.1 (here.0, here.1)) c.if-not-are_of_byte.true),
)

pub bytes-preserved : goal.bytes-preserved
bytes-preserved c =
    let same = c.are_of_byte.ensures.0 c.if-not-are_of_byte.false in
    record {
      on = λ e. c.bytes.invariant.on (digits_on c.args.digits.now c.args.bytes.now c.bytes.at c.bytes-test.true c.requires same.0 same.1 e);
      back = λ e. (digits_here c.args.digits.now c.args.bytes.now c.bytes.at c.bytes-test.true c.requires (c.bytes.invariant.back e)).2;
    }
