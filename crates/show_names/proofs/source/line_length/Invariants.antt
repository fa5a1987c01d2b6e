use Rattle.std.proofs.Common.{◌≡◌, ◌≤◌, ◌+◌, ◌-◌, length, drop}
use Rattle.std.specs.List.{prefix_len}
use Rattle.show_names.specs.Sources.{is_within_line}
use Rattle.show_names.proofs.source.line_length.Given as goal

abbrev pub invariant-line : goal.invariant-line
invariant-line l = record {
  within : l.length ≤ length l.bytes;
  same : l.length + prefix_len is_within_line (drop l.length l.bytes) ≡ prefix_len is_within_line l.bytes;
}

abbrev pub decreases-line : goal.decreases-line
decreases-line l = length l.bytes - l.length
