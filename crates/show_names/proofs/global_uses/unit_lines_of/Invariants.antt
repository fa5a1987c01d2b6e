use Rattle.std.proofs.Common.{◌≡◌, take}
use Rattle.show_names.proofs.global_uses.unit_lines_of.Given as goal

-- the lines so far
abbrev pub invariant-lines : goal.invariant-lines
invariant-lines l = l.lines ≡ take l.line-index l.used
