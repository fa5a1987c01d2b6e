-- How the text of a name is kept.
use Rattle.std.specs.Prelude.{ℕ, List}
use Rattle.std.specs.String.{string_bytes}
use Rattle.il_syntax.specs.declared.name.Kept.{Kept}
use Rattle.il_syntax.specs.declared.name.Kept.TheVariants.{Inside, Apart}

-- its bytes, wherever they are kept
abbrev pub kept_text : Kept → List ℕ
kept_text (Inside s) = s.bytes
kept_text (Apart s) = string_bytes s
