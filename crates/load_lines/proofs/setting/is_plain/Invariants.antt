use Rattle.std.proofs.Common.{◌≡◌, drop}
use Rattle.std.specs.Char.{is_ascii_digit}
use Rattle.il_syntax.specs.Text.{is_grouped, is_grouped_after}
use Rattle.load_lines.proofs.setting.is_plain.Given as goal

abbrev pub invariant-loop-byte : goal.invariant-loop-byte
invariant-loop-byte l = is_grouped_after is_ascii_digit l.inside (drop l.byte-index l.bytes) ≡ is_grouped is_ascii_digit l.bytes
