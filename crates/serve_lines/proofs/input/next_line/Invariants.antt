use Rattle.std.proofs.Common.{◌≤◌, ◌-◌, length, vec_capacity}
use Rattle.std.specs.Io.KnownBytes.{Consumes}
use Rattle.trace_text.specs.Reading.{IsOneLine}
use Rattle.serve_lines.proofs.input.next_line.Given as goal

-- the bytes so far are those of the line
abbrev pub invariant-bytes : goal.invariant-bytes
invariant-bytes g l = record {
  taken : Consumes (g.R.Read.remaining l.initial.reader) (g.R.Read.remaining l.reader) l.line.items;
  one : IsOneLine l.line.items;
  short : length l.line.items ≤ 128;
  room : 128 ≤ vec_capacity l.line;
}

abbrev pub decreases-bytes : goal.decreases-bytes
decreases-bytes g l = 128 - length l.line.items
