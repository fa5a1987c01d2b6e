use Rattle.std.proofs.Common.{◌≡◌, take, length}
use Rattle.std.specs.Vec.{vec_len, vec_capacity}
use Rattle.il_syntax.specs.Text.{upper_case}
use Rattle.load_tree.proofs.in_upper_case.Given as goal

abbrev pub invariant-loop-byte : goal.invariant-loop-byte
invariant-loop-byte l = record {
  items : l.upper.items ≡ upper_case (take l.byte-index l.text);
  len : vec_len l.upper ≡ l.byte-index;
  room : vec_capacity l.upper ≡ length l.text;
}
