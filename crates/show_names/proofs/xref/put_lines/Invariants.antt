use Rattle.std.proofs.Common.{◌≡◌, ◌++◌, take, string_bytes}
use Rattle.show_names.specs.Xref.{lines_text}
use Rattle.show_names.proofs.xref.put_lines.Given as goal

abbrev pub invariant-lines : goal.invariant-lines
invariant-lines l = string_bytes l.text ≡ string_bytes l.initial.text ++ lines_text (take l.line-index l.lines)
