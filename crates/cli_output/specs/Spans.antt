-- The rounds that `draw` shows (own rules).
use Rattle.std.specs.Prelude.{◌≡◌, ◌≤◌, ℕ, List, [], ◌∷◌, length, Option, Some, None, string_bytes}
use Rattle.show_picture.specs.declared.span.Span.{Span}
use Rattle.cli_host.specs.declared.status.Fault.{Fault}
use Rattle.cli_host.specs.declared.status.Fault.TheVariants as fault
use Rattle.cli_host.specs.Presses.{parts_of}
use Rattle.cli_host.specs.Requests.{IsNumberTo}

-- the last round that there can be
abbrev pub greatest_round : ℕ
greatest_round = 4294967295

-- an end of some rounds: a decimal from 1 to 65535, or where none is written this one
abbrev pub IsEnd : ℕ → List ℕ → ℕ → Type 0
IsEnd missing [] round = round ≡ missing
IsEnd missing (digit ∷ digits) round = IsNumberTo 65535 (digit ∷ digits) round

-- `A:B`, with A at most B, from A to B; `A:` from A on, and `:B` up to B, but not the colon alone
pub record IsSpan (word : List ℕ) (span : Span) : Type 0 where
  pub first : List ℕ
  pub last : List ℕ
  pub parts : parts_of word ≡ first ∷ last ∷ []
  pub some : 2 ≤ length word
  pub from : IsEnd 1 first span.first
  pub to : IsEnd greatest_round last span.last
  pub ordered : span.first ≤ span.last

-- the rounds of the word after `--rounds`; without a word all are
abbrev pub IsSpanWord : Option (List ℕ) → Span → Type 0
IsSpanWord None span = (span.first ≡ 1) × (span.last ≡ greatest_round)
IsSpanWord (Some word) span = IsSpan word span

-- this is the word, and it says no rounds; memory may be missing
abbrev pub IsNoSpan : Option (List ℕ) → Fault → Type 0
IsNoSpan word (fault.BadSpan named) = (word ≡ Some (string_bytes named)) × ((span : Span) → IsSpanWord word span → ⊥)
IsNoSpan word fault.NoMemory = Unit {0}
IsNoSpan word _ = ⊥
