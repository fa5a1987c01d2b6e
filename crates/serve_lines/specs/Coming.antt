-- How lines come from a reader (own rules).
use Rattle.std.specs.Prelude.{◌≡◌, ◌≢◌, ℕ, List, [], ◌∷◌, ◌++◌, length, Option}
use Rattle.std.specs.Io.KnownBytes.{Consumes, IsAtEnd}
use Rattle.trace_text.specs.Reading.{IsOneLine}
use Rattle.serve_lines.specs.declared.input.Came.{Came}
use Rattle.serve_lines.specs.declared.input.Came.TheVariants.{Whole, Ended, TooLong, Failed}
use Rattle.serve_lines.specs.declared.input.NextByte.{NextByte}
use Rattle.serve_lines.specs.declared.input.NextByte.TheVariants as byte

-- in bytes, without the line feed
abbrev pub greatest_line : ℕ
greatest_line = 128

-- what a reader gave up to there: one byte, or none
abbrev pub ByteComes : NextByte → Option (List ℕ) → Option (List ℕ) → Type 0
ByteComes (byte.Of b) old new = Consumes old new (b ∷ [])
ByteComes byte.End old new = Consumes old new [] × IsAtEnd new
ByteComes byte.Failed old new = Consumes old new []

-- what a reader gave up to there: a line and its line feed; what follows the last line feed; a byte more than a line may have; or what it gave before it failed
abbrev pub LineComes : Came → Option (List ℕ) → Option (List ℕ) → List ℕ → Type 0
LineComes Whole old new line = IsOneLine line × Consumes old new (line ++ 10 ∷ [])
LineComes Ended old new line = IsOneLine line × Consumes old new line × IsAtEnd new
LineComes TooLong old new line = IsOneLine line × (length line ≡ greatest_line) × ((more : ℕ) × (more ≢ 10) × Consumes old new (line ++ more ∷ []))
LineComes Failed old new line = IsOneLine line × Consumes old new line
