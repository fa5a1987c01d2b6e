use Rattle.std.proofs.Common.{[]}
use Rattle.std.specs.Io.KnownBytes.{Consumes}
use Rattle.serve_lines.proofs.input.next_byte.Given as goal

-- nothing was taken
abbrev pub invariant-tries : goal.invariant-tries
invariant-tries g l = Consumes (g.R.Read.remaining l.initial.reader) (g.R.Read.remaining l.reader) []
