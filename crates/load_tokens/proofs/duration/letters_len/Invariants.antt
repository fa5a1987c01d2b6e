use Rattle.std.proofs.Common.{◌≡◌, ◌≤◌, ◌+◌, ◌-◌, length, drop}
use Rattle.std.specs.List.{prefix_len}
use Rattle.std.specs.Char.{is_ascii_alphabetic}
use Rattle.load_tokens.proofs.duration.letters_len.Given as goal

abbrev pub invariant-letters : goal.invariant-letters
invariant-letters l = record {
  within : l.len ≤ length l.bytes;
  same : l.len + prefix_len is_ascii_alphabetic (drop l.len l.bytes) ≡ prefix_len is_ascii_alphabetic l.bytes;
}

abbrev pub decreases-letters : goal.decreases-letters
decreases-letters l = length l.bytes - l.len
