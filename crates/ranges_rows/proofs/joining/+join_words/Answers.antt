use Rattle.std.proofs.Common.{arith}
use Rattle.std.proofs.lemmas.List.{take-append-drop}
use Rattle.std.specs.Int.{int_min}
use Rattle.ranges_rows.proofs.Pairs.{paired_halves}
use Rattle.ranges_rows.proofs.joining.+join_words.Goals as goal

pub returns : goal.returns
returns t c =
    paired_halves int_min c.args.row.now c.args.other.now c.join_block-2.new.row c.join_words.new.row c.split_at_mut-front.result.0.now c.split_at_mut-front.result.1.now c.split_at.result.0.now c.split_at.result.1.now
    c.join_block-2.ensures c.join_words.ensures c.split_at_mut-front.ensures.value (grind (arith, take-append-drop)) (grind arith)
