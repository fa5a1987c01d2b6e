use Rattle.std.proofs.Common.{◌≡◌, drop, false}
use Rattle.std.specs.Char.{is_ascii_alphanumeric}
use Rattle.il_syntax.specs.Text.{is_grouped_after}
use Rattle.load_tokens.proofs.lexeme.is_grouped.Given as goal

abbrev pub invariant-loop-byte : goal.invariant-loop-byte
invariant-loop-byte l = is_grouped_after is_ascii_alphanumeric l.inside (drop l.byte-index l.bytes) ≡ is_grouped_after is_ascii_alphanumeric false l.bytes
