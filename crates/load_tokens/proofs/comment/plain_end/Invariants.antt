use Rattle.std.proofs.Common.{◌≤◌, ◌-◌, length}
use Rattle.load_tokens.specs.Lanes.{AllPassBetween, is_plain}
use Rattle.load_tokens.proofs.comment.plain_end.Given as goal

abbrev pub invariant-plain : goal.invariant-plain
invariant-plain l = record {
  from : l.from ≤ l.at;
  within : l.at ≤ length l.text;
  plain : AllPassBetween is_plain l.text l.from l.at;
}

abbrev pub decreases-plain : goal.decreases-plain
decreases-plain l = length l.text - l.at
