use Rattle.std.proofs.Common.{◌≡◌, ◌++◌, take}
use Rattle.show_names.specs.Xref.{line_tokens}
use Rattle.show_names.proofs.xref.add_each_line.Given as goal

abbrev pub invariant-lines : goal.invariant-lines
invariant-lines l = l.object ≡ l.initial.object ++ line_tokens (take l.line-index l.lines)
