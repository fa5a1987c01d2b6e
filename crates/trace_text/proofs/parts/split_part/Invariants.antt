use Rattle.std.proofs.Common.{length, ◌-◌, ◌≤◌, take}
use Rattle.trace_text.specs.Reading.{Without}
use Rattle.trace_text.proofs.parts.split_part.Given as goal

-- no space comes before the place
abbrev pub invariant-bytes : goal.invariant-bytes
invariant-bytes l = record {
  within : l.end ≤ length l.text;
  before : Without 32 (take l.end l.text);
}

abbrev pub decreases-bytes : goal.decreases-bytes
decreases-bytes l = length l.text - l.end
