-- What the PRESS words of a command line spell (own rules).
use Rattle.std.specs.Prelude.{◌≡◌, ◌≤◌, ◌<◌, ◌==◌, ℕ, List, [], ◌∷◌, length, slice_get, Some, string_bytes}
use Rattle.std.specs.List.{slice_split}
use Rattle.cli_host.specs.Requests.{IsNumberTo}
use Rattle.cli_host.specs.declared.press.Press.{Press}
use Rattle.cli_host.specs.declared.press.PressFault.{PressFault}
use Rattle.cli_host.specs.declared.press.PressFault.TheVariants.{Bad, TooMany, NoMemory}

-- the parts of a press: a round of so many, and two different floors of so many
pub record IsPressOf (rounds floors : ℕ) (first second third : List ℕ) (press : Press) : Type 0 where
  pub round : IsNumberTo rounds first press.round
  pub from : IsNumberTo floors second press.from
  pub to : IsNumberTo floors third press.to
  pub differ : press.from ≡ press.to → ⊥

-- the parts of a word between its colons
abbrev pub parts_of : List ℕ → List (List ℕ)
parts_of word = slice_split (λ b. b == 58) word

-- `ROUND:FROM:TO`, from the panel 1, or `ROUND:FROM:TO:PANEL`, a panel from 1 to 4
pub data IsPress (rounds floors : ℕ) (word : List ℕ) (press : Press) : Type 0 where
  plain : (first second third : List ℕ) → parts_of word ≡ first ∷ second ∷ third ∷ [] → IsPressOf rounds floors first second third press → press.panel ≡ 1 → IsPress rounds floors word press
  at_panel : (first second third fourth : List ℕ) → parts_of word ≡ first ∷ second ∷ third ∷ fourth ∷ [] → IsPressOf rounds floors first second third press → IsNumberTo 4 fourth press.panel → IsPress rounds floors word press

-- this is one of the words, and spells no press
pub record HasNoPress (rounds floors : ℕ) (words : List (List ℕ)) (word : List ℕ) : Type 0 where
  pub place : ℕ
  pub stands : slice_get words place ≡ Some word
  pub none : (press : Press) → IsPress rounds floors word press → ⊥

-- a press for each word
pub record AreOfWords (rounds floors : ℕ) (words : List (List ℕ)) (presses : List Press) : Type 0 where
  pub long : length presses ≡ length words
  pub each : (k : ℕ) (word : List ℕ) (press : Press) → slice_get words k ≡ Some word → slice_get presses k ≡ Some press → IsPress rounds floors word press

-- of at most 1000 words
pub record ArePresses (rounds floors : ℕ) (words : List (List ℕ)) (presses : List Press) : Type 0 where
  pub few : length words ≤ 1000
  pub of_words : AreOfWords rounds floors words presses

-- What is wrong with words that give no press each: the one that is named spells none. Memory may be missing.
abbrev pub IsUnpressedWord : ℕ → ℕ → List (List ℕ) → PressFault → Type 0
IsUnpressedWord rounds floors words (Bad word) = HasNoPress rounds floors words (string_bytes word)
IsUnpressedWord rounds floors words TooMany = ⊥
IsUnpressedWord rounds floors words NoMemory = Unit {0}

-- or there are more than 1000
abbrev pub IsUnpressed : ℕ → ℕ → List (List ℕ) → PressFault → Type 0
IsUnpressed rounds floors words (Bad word) = HasNoPress rounds floors words (string_bytes word)
IsUnpressed rounds floors words TooMany = 1000 < length words
IsUnpressed rounds floors words NoMemory = Unit {0}
