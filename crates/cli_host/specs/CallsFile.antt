-- What the file of `--calls` says (own rules).
use Rattle.std.specs.Prelude.{◌≡◌, ◌⊎◌, ◌≤◌, ◌<◌, ◌==◌, ◌||◌, ◌+◌, ◌-◌, ℕ, Bool, true, false, List, [], ◌∷◌, ◌++◌, if◌then◌else◌, length, take, slice_index, codes, flat_map, Option, None, Some}
use Rattle.std.specs.List.{filter, slice_split}
use Rattle.std.specs.Str.Parse.{digits_value}
use Rattle.cli_host.specs.Requests.{IsDigits, IsNumberTo}
use Rattle.cli_host.specs.Presses.{IsPressOf}
use Rattle.cli_host.specs.declared.press.Press.{Press}
use Rattle.cli_host.specs.declared.press.Set.{Set}
use Rattle.cli_host.specs.declared.press.Set.TheVariants.{Fire, RunLimit}
use Rattle.cli_host.specs.declared.press.Setting.{Setting}
use Rattle.cli_host.specs.declared.calls.CallsFault.{CallsFault}
use Rattle.cli_host.specs.declared.calls.CallsFault.TheVariants.{BadLine, TooMany, Memory}
use Rattle.cli_host.specs.declared.calls.Cut.{Cut}
use Rattle.cli_host.specs.declared.calls.Cut.TheVariants.{Feed, Blank}
use Rattle.cli_host.specs.declared.calls.Line.{Line}
use Rattle.cli_host.specs.declared.calls.Line.TheVariants as line

-- in bytes
abbrev pub greatest_file : ℕ
greatest_file = 4000000

abbrev pub most_lines : ℕ
most_lines = 100000

-- where a text is cut: at line feeds, or at spaces and tabs
abbrev pub is_cut : Cut → ℕ → Bool
is_cut Feed b = b == 10
is_cut Blank b = b == 32 || b == 9

-- without this byte at the end
abbrev pub without_last : ℕ → List ℕ → List ℕ
without_last byte text = if slice_index text (length text - 1) == byte then take (length text - 1) text else text

-- the lines of a text; the last line feed may be missing
abbrev pub lines_of : List ℕ → List (List ℕ)
lines_of text = slice_split (is_cut Feed) (without_last 10 text)

-- there is a byte
abbrev pub has_byte : List ℕ → Bool
has_byte [] = false
has_byte (b ∷ bytes) = true

-- the words of a line, between blanks; a carriage return may end it
abbrev pub words_in : List ℕ → List (List ℕ)
words_in text = filter has_byte (slice_split (is_cut Blank) (without_last 13 text))

-- a number from 0 to a greatest one, in digits
pub record IsNumberUpTo (greatest : ℕ) (text : List ℕ) (number : ℕ) : Type 0 where
  pub some : 0 < length text
  pub digits : IsDigits text
  pub value : digits_value 10 text ≡ number
  pub most : number ≤ greatest

-- the word of FIRE's state
abbrev pub fire_word : Bool → List ℕ
fire_word false = codes "off"
fire_word true = codes "on"

-- `FIRE on`, `FIRE off` or `LIMIT N`, of so many cars
abbrev pub IsSetting : ℕ → List ℕ → List ℕ → Set → Type 0
IsSetting cars name value (Fire on) = (name ≡ codes "FIRE") × (value ≡ fire_word on)
IsSetting cars name value (RunLimit n) = (name ≡ codes "LIMIT") × IsNumberUpTo cars value n

-- `ROUND FROM TO`, from the panel 1, or `ROUND FROM TO PANEL`, a panel from 1 to 4
pub data ArePressWords (rounds floors : ℕ) (words : List (List ℕ)) (press : Press) : Type 0 where
  plain : (first second third : List ℕ) → words ≡ first ∷ second ∷ third ∷ [] → IsPressOf rounds floors first second third press → press.panel ≡ 1 → ArePressWords rounds floors words press
  at_panel : (first second third fourth : List ℕ) → words ≡ first ∷ second ∷ third ∷ fourth ∷ [] → IsPressOf rounds floors first second third press → IsNumberTo 4 fourth press.panel → ArePressWords rounds floors words press

-- `ROUND FIRE on`, `ROUND FIRE off` or `ROUND LIMIT N`
pub record AreSettingWords (rounds cars : ℕ) (words : List (List ℕ)) (setting : Setting) : Type 0 where
  pub first : List ℕ
  pub name : List ℕ
  pub value : List ℕ
  pub are : words ≡ first ∷ name ∷ value ∷ []
  pub round : IsNumberTo rounds first setting.round
  pub set : IsSetting cars name value setting.set

-- no words, or a first one that begins with #
abbrev pub AreNothing : List (List ℕ) → Type 0
AreNothing [] = Unit {0}
AreNothing (word ∷ words) = slice_index word 0 ≡ 35

-- what the words of a line say
abbrev pub AreLineWords : ℕ → ℕ → ℕ → List (List ℕ) → Line → Type 0
AreLineWords rounds floors cars words line.Nothing = AreNothing words
AreLineWords rounds floors cars words (line.OfPress press) = ArePressWords rounds floors words press
AreLineWords rounds floors cars words (line.OfSetting setting) = AreSettingWords rounds cars words setting

abbrev pub IsLine : ℕ → ℕ → ℕ → List ℕ → Line → Type 0
IsLine rounds floors cars text read = AreLineWords rounds floors cars (words_in text) read

-- each line says this
abbrev pub AreLines : ℕ → ℕ → ℕ → List (List ℕ) → List Line → Type 0
AreLines rounds floors cars [] [] = Unit {0}
AreLines rounds floors cars [] (read ∷ more) = ⊥
AreLines rounds floors cars (text ∷ texts) [] = ⊥
AreLines rounds floors cars (text ∷ texts) (read ∷ more) = IsLine rounds floors cars text read × AreLines rounds floors cars texts more

-- the press of a line, and its setting
abbrev pub presses_of : Line → List Press
presses_of line.Nothing = []
presses_of (line.OfPress press) = press ∷ []
presses_of (line.OfSetting setting) = []

abbrev pub settings_of : Line → List Setting
settings_of line.Nothing = []
settings_of (line.OfPress press) = []
settings_of (line.OfSetting setting) = setting ∷ []

-- what lines say: these presses and settings, each in the order of its lines
pub record Say (rounds floors cars : ℕ) (lines : List (List ℕ)) (presses : List Press) (settings : List Setting) : Type 0 where
  pub read : List Line
  pub each : AreLines rounds floors cars lines read
  pub presses_are : presses ≡ flat_map presses_of read
  pub settings_are : settings ≡ flat_map settings_of read

-- the presses and settings of a text, for a run of so many rounds of a group of so many floors and cars
pub record AreCallsOf (rounds floors cars : ℕ) (text : List ℕ) (presses : List Press) (settings : List Setting) : Type 0 where
  pub short : length text ≤ greatest_file
  pub few : length (lines_of text) ≤ most_lines
  pub say : Say rounds floors cars (lines_of text) presses settings

-- lines up to one, each of which says something
pub record SayBefore (rounds floors cars : ℕ) (lines : List (List ℕ)) (number : ℕ) (behind : List (List ℕ)) : Type 0 where
  pub before : List (List ℕ)
  pub are : lines ≡ before ++ behind
  pub place : number ≡ length before + 1
  pub presses : List Press
  pub settings : List Setting
  pub say : Say rounds floors cars before presses settings

-- the first line that says nothing of the kind, among so many as there may be
pub record IsFirstBad (rounds floors cars : ℕ) (lines : List (List ℕ)) (number : ℕ) : Type 0 where
  pub bad : List ℕ
  pub rest : List (List ℕ)
  pub before : SayBefore rounds floors cars lines number (bad ∷ rest)
  pub none : (read : Line) → IsLine rounds floors cars bad read → ⊥
  pub few : number ≤ most_lines

-- one line too many, after as many as there may be
pub record IsFirstBeyond (rounds floors cars : ℕ) (lines : List (List ℕ)) (number : ℕ) : Type 0 where
  pub line : List ℕ
  pub rest : List (List ℕ)
  pub before : SayBefore rounds floors cars lines number (line ∷ rest)
  pub beyond : number ≡ most_lines + 1

-- how many line feeds there are
abbrev pub feeds : List ℕ → ℕ
feeds [] = 0
feeds (b ∷ bytes) = if b == 10 then 1 + feeds bytes else feeds bytes

-- Why a text has no presses and settings. The line of the first byte too many is reported first. Memory may be missing.
abbrev pub IsCallsFault : ℕ → ℕ → ℕ → List ℕ → CallsFault → Type 0
IsCallsFault rounds floors cars text (BadLine number) = (length text ≤ greatest_file) × IsFirstBad rounds floors cars (lines_of text) number
IsCallsFault rounds floors cars text (TooMany number) =
    ((greatest_file < length text) × (number ≡ feeds (take greatest_file text) + 1)) ⊎ ((length text ≤ greatest_file) × IsFirstBeyond rounds floors cars (lines_of text) number)
IsCallsFault rounds floors cars text Memory = Unit {0}

-- WHAT IS LEFT

-- the pieces of what is left of a text, if anything is
abbrev pub pieces_left : Cut → Option (List ℕ) → List (List ℕ)
pieces_left cut None = []
pieces_left cut (Some text) = slice_split (is_cut cut) text

-- the words of what is left of a line
abbrev pub words_left : Option (List ℕ) → List (List ℕ)
words_left left = filter has_byte (pieces_left Blank left)

-- why the lines of a text say nothing of the kind
abbrev pub AreFaultyLines : ℕ → ℕ → ℕ → List (List ℕ) → CallsFault → Type 0
AreFaultyLines rounds floors cars lines (BadLine number) = IsFirstBad rounds floors cars lines number
AreFaultyLines rounds floors cars lines (TooMany number) = IsFirstBeyond rounds floors cars lines number
AreFaultyLines rounds floors cars lines Memory = Unit {0}
