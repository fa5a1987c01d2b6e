use Rattle.std.proofs.Common.{◌≡◌, ◌++◌, replicate, string_bytes}
use Rattle.show_scan.proofs.line.put_blanks.Given as goal

-- the blanks so far
abbrev pub invariant-blanks : goal.invariant-blanks
invariant-blanks l = string_bytes l.text ≡ string_bytes l.initial.text ++ replicate l.counter 32
