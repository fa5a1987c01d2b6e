use Rattle.std.proofs.Common.{◌≡◌, ◌≤◌, ◌-◌, length}
use Rattle.std.specs.Prelude.{bytes_eq}
use Rattle.il_syntax.specs.Text.{upper_case}
use Rattle.load_tokens.proofs.Cases.{left_eq}
use Rattle.load_tokens.proofs.bytes.is_in_upper_case.Given as goal

abbrev pub invariant-bytes : goal.invariant-bytes
invariant-bytes l = record {
  within : l.at ≤ length l.bytes;
  same : left_eq l.bytes l.upper l.at ≡ bytes_eq (upper_case l.bytes) l.upper;
}

abbrev pub decreases-bytes : goal.decreases-bytes
decreases-bytes l = length l.bytes - l.at
