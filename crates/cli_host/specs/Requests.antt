-- What the words of a command line ask for (own rules).
use Rattle.std.specs.Prelude.{◌≡◌, ◌⊎◌, ◌≤◌, ◌<◌, ℕ, Bool, true, false, List, [], ◌∷◌, ◌++◌, ◌||◌, if◌then◌else◌, length, slice_index, EachIndex, bytes_eq, take, drop, flat_map, codes, map, slice_get, Option, Some, None, option_map, string_bytes}
use Rattle.std.specs.Int.{IsInRange}
use Rattle.std.specs.List.{list_any}
use Rattle.std.specs.Str.Parse.{digits_value}
use Rattle.cli_host.specs.declared.request.Flags.{Flags}
use Rattle.cli_host.specs.declared.request.Name.{Name}
use Rattle.cli_host.specs.declared.request.Name.TheVariants as name
use Rattle.cli_host.specs.declared.request.Following.{Following}
use Rattle.cli_host.specs.declared.request.Following.TheVariants as following
use Rattle.cli_host.specs.declared.request.Showing.TheVariants as showing
use Rattle.cli_host.specs.declared.request.Simulating.{Simulating}
use Rattle.cli_host.specs.declared.request.Simulating.TheVariants as simulating
use Rattle.cli_host.specs.declared.request.Words.{Words}
use Rattle.cli_host.specs.declared.request.Rounds.{Rounds}
use Rattle.cli_host.specs.declared.request.Traced.{Traced}
use Rattle.cli_host.specs.declared.request.Request.{Request}
use Rattle.cli_host.specs.declared.request.Request.TheVariants as request

-- ASCII digits alone
abbrev pub IsDigits : List ℕ → Type 0
IsDigits text = EachIndex text (λ k. IsInRange 48 57 (slice_index text k))

-- digits, in base 10 a number from 1 to a greatest one
pub record IsNumberTo (greatest : ℕ) (text : List ℕ) (number : ℕ) : Type 0 where
  pub some : 0 < length text
  pub digits : IsDigits text
  pub value : digits_value 10 text ≡ number
  pub least : 1 ≤ number
  pub most : number ≤ greatest

-- a number from 1 to 50000
abbrev pub IsRounds : List ℕ → ℕ → Type 0
IsRounds = IsNumberTo 50000

-- a word that begins with -
abbrev pub IsOption : List ℕ → Type 0
IsOption word = slice_index word 0 ≡ 45

-- the word of a command
abbrev pub word_of : Name → List ℕ
word_of name.Check = codes "check"
word_of (name.Show showing.Ranges) = codes "ranges"
word_of (name.Show showing.Xref) = codes "xref"
word_of (name.Rounds simulating.Sim) = codes "sim"
word_of (name.Rounds simulating.Run) = codes "run"
word_of (name.Rounds simulating.Denials) = codes "denials"
word_of (name.Rounds simulating.Watch) = codes "watch"
word_of (name.Trace following.Replay) = codes "replay"
word_of (name.Trace following.Draw) = codes "draw"
word_of (name.Trace following.Calls) = codes "calls"
word_of (name.Trace following.Denials) = codes "denials"
word_of (name.Trace following.Watch) = codes "watch"
word_of (name.Trace following.Scan) = codes "scan"

-- the command of a request
abbrev pub command_of : Request → Name
command_of (request.Check checked) = name.Check
command_of (request.Show command shown) = name.Show command
command_of (request.Rounds command rounds) = name.Rounds command
command_of (request.Trace command traced) = name.Trace command

-- the name of a request's file
abbrev pub name_of : Request → List ℕ
name_of (request.Check checked) = checked.file.now
name_of (request.Show command shown) = shown.file.now
name_of (request.Rounds command rounds) = rounds.file.now
name_of (request.Trace command traced) = traced.file.now

-- none of the words is such a word
abbrev pub AreNone : (List ℕ → Type 0) → List (List ℕ) → Type 0
AreNone Is words = (k : ℕ) (word : List ℕ) → slice_get words k ≡ Some word → Is word → ⊥

-- no word is an option
abbrev pub AreNoOptions : List (List ℕ) → Type 0
AreNoOptions words = AreNone IsOption words

-- no word is this option
abbrev pub LeaveOut : List ℕ → List (List ℕ) → Type 0
LeaveOut option words = AreNone (λ word. word ≡ option) words

-- the words of three parts, one after the other
abbrev pub words_of : Words → List (List ℕ)
words_of words = map string_bytes words.front.now ++ (map string_bytes words.middle.now ++ map string_bytes words.back.now)

-- a word that begins with a digit
abbrev pub BeginsWithDigit : List ℕ → Type 0
BeginsWithDigit word = IsInRange 48 57 (slice_index word 0)

-- words in two parts: before the first that begins with a digit, and from there on
pub record AreNamesFirst (words names presses : List (List ℕ)) : Type 0 where
  pub are : words ≡ names ++ presses
  pub unnumbered : (k : ℕ) (word : List ℕ) → slice_get names k ≡ Some word → BeginsWithDigit word → ⊥
  pub numbered : (word : List ℕ) → slice_get presses 0 ≡ Some word → BeginsWithDigit word

-- the first word begins with no digit
pub record BeginWithName (words : List (List ℕ)) : Type 0 where
  pub name : List ℕ
  pub stands : slice_get words 0 ≡ Some name
  pub unnumbered : BeginsWithDigit name → ⊥

-- words without an option and the value after it, which may be anywhere among them, and that value
abbrev pub IsApart : List ℕ → List (List ℕ) → List (List ℕ) → Option (List ℕ) → Type 0
IsApart option rest positional None = rest ≡ positional
IsApart option rest positional (Some value) =
    (before : List (List ℕ)) × (after : List (List ℕ)) × (rest ≡ before ++ option ∷ value ∷ after) × (positional ≡ before ++ after) × (IsOption value → ⊥)

-- words apart in any such way are these, with this value
abbrev pub IsOnlyApart : List ℕ → List (List ℕ) → List (List ℕ) → Option (List ℕ) → Type 0
IsOnlyApart option words found value =
    (positional : List (List ℕ)) (other : Option (List ℕ)) → IsApart option words positional other → LeaveOut option positional → (positional ≡ found) × (other ≡ value)

-- a value, and after it words without another option and its value
pub record IsBehind (option : List ℕ) (words : List (List ℕ)) (value : List ℕ) (others : List (List ℕ)) (other : Option (List ℕ)) : Type 0 where
  pub behind : List (List ℕ)
  pub are : words ≡ value ∷ behind
  pub plain : IsOption value → ⊥
  pub apart : IsApart option behind others other

-- words without an option and its value, and without another option and its value, which follows them
pub record IsFirstApart (first second : List ℕ) (words positional : List (List ℕ)) (value other : Option (List ℕ)) : Type 0 where
  pub before : List (List ℕ)
  pub rest : List (List ℕ)
  pub others : List (List ℕ)
  pub word : List ℕ
  pub are : words ≡ before ++ first ∷ rest
  pub behind : IsBehind second rest word others other
  pub is_value : value ≡ Some word
  pub positional_is : positional ≡ before ++ others

-- words without two options and the values after them, which may be anywhere among them in either order, and those values
pub data AreApart (one two : List ℕ) (words positional : List (List ℕ)) (first second : Option (List ℕ)) : Type 0 where
  without : words ≡ positional → first ≡ None → second ≡ None → AreApart one two words positional first second
  one_first : IsFirstApart one two words positional first second → AreApart one two words positional first second
  two_first : IsFirstApart two one words positional second first → AreApart one two words positional first second

-- words that are no options are apart in any such way as these
abbrev pub AreOnlyApart : List ℕ → List ℕ → List (List ℕ) → List (List ℕ) → Type 0
AreOnlyApart one two words found = (positional : List (List ℕ)) (first second : Option (List ℕ)) → AreApart one two words positional first second → AreNoOptions positional → positional ≡ found

abbrev pub IsOnlyBehind : List ℕ → List (List ℕ) → List (List ℕ) → Type 0
IsOnlyBehind option words found = (value : List ℕ) (others : List (List ℕ)) (other : Option (List ℕ)) → IsBehind option words value others other → AreNoOptions others → others ≡ found

-- FILE and ROUNDS, with any words after them, and `--fire ROUND` and `--calls CALLS` anywhere among them; no other word is an option
pub record GiveRounds (words : List (List ℕ)) (rounds : Rounds) : Type 0 where
  pub positional : List (List ℕ)
  pub text : List ℕ
  pub apart : AreApart (codes "--fire") (codes "--calls") words positional (option_map (λ value. value.now) rounds.fire) (option_map (λ value. value.now) rounds.calls)
  pub parts : positional ≡ rounds.file.now ∷ text ∷ words_of rounds.presses
  pub is_rounds : IsRounds text rounds.rounds
  pub plain : AreNoOptions positional

-- FILE alone, which is no option
pub record IsFile (words : List (List ℕ)) (file : List ℕ) : Type 0 where
  pub are : words ≡ file ∷ []
  pub plain : IsOption file → ⊥

-- FILE and an option, in one order or the other
abbrev pub IsFileBeside : List ℕ → List ℕ → List ℕ → List ℕ → Type 0
IsFileBeside option first second file = (IsOption file → ⊥) × (((first ≡ file) × (second ≡ option)) ⊎ ((first ≡ option) × (second ≡ file)))

-- FILE alone, or with an option beside it
abbrev pub IsFileWith : List ℕ → List (List ℕ) → List ℕ → Bool → Type 0
IsFileWith option words file false = IsFile words file
IsFileWith option words file true = (first : List ℕ) × (second : List ℕ) × (words ≡ first ∷ second ∷ []) × IsFileBeside option first second file

-- FILE and TRACE, and neither is an option
pub record AreFiles (words : List (List ℕ)) (file trace : List ℕ) : Type 0 where
  pub are : words ≡ file ∷ trace ∷ []
  pub plain_file : IsOption file → ⊥
  pub plain_trace : IsOption trace → ⊥

-- FILE and TRACE alone
pub record GiveTrace (words : List (List ℕ)) (traced : Traced) : Type 0 where
  pub files : AreFiles words traced.file.now traced.trace.now
  pub names : words_of traced.names ≡ []
  pub whole : traced.span ≡ None
  pub uncut : traced.cut ≡ false

-- FILE and TRACE, and `--rounds A:B` anywhere among them
pub record GiveDrawing (words : List (List ℕ)) (traced : Traced) : Type 0 where
  pub positional : List (List ℕ)
  pub apart : IsApart (codes "--rounds") words positional (option_map (λ value. value.now) traced.span)
  pub files : AreFiles positional traced.file.now traced.trace.now
  pub names : words_of traced.names ≡ []
  pub uncut : traced.cut ≡ false

-- words without a flag that may be anywhere among them, and whether it does
abbrev pub IsFlagApart : List ℕ → List (List ℕ) → List (List ℕ) → Bool → Type 0
IsFlagApart flag words positional false = words ≡ positional
IsFlagApart flag words positional true = (before : List (List ℕ)) × (after : List (List ℕ)) × (words ≡ before ++ flag ∷ after) × (positional ≡ before ++ after)

-- FILE and TRACE, which isn't digits alone, with names after them, and `--cut` anywhere among them; no other word is an option
pub record GiveFollowed (words : List (List ℕ)) (traced : Traced) : Type 0 where
  pub positional : List (List ℕ)
  pub apart : IsFlagApart (codes "--cut") words positional traced.cut
  pub parts : positional ≡ traced.file.now ∷ traced.trace.now ∷ words_of traced.names
  pub is_trace : IsDigits traced.trace.now → ⊥
  pub plain : AreNoOptions positional
  pub whole : traced.span ≡ None

-- FILE, TRACE and TASK, with `--round N` and `--until LINE` anywhere among them; no other word is an option
pub record GiveScan (words : List (List ℕ)) (traced : Traced) : Type 0 where
  pub positional : List (List ℕ)
  pub task : List ℕ
  pub apart : AreApart (codes "--round") (codes "--until") words positional (option_map (λ value. value.now) traced.round) (option_map (λ value. value.now) traced.until)
  pub parts : positional ≡ traced.file.now ∷ traced.trace.now ∷ task ∷ []
  pub named : words_of traced.names ≡ task ∷ []
  pub plain : AreNoOptions positional
  pub uncut : traced.cut ≡ false

-- `watch` needs a name after ROUNDS
abbrev pub NeedsName : Simulating → List (List ℕ) → Type 0
NeedsName simulating.Sim words = Unit {0}
NeedsName simulating.Run words = Unit {0}
NeedsName simulating.Denials words = Unit {0}
NeedsName simulating.Watch words = BeginWithName words

-- there are names, or none
abbrev pub AreNames : Bool → List (List ℕ) → Type 0
AreNames some [] = some ≡ false
AreNames some (name ∷ names) = some ≡ true

-- what a command takes over a trace: FILE and TRACE, and what else is its own; `watch` needs a name after them
abbrev pub TakesTrace : List (List ℕ) → Following → Traced → Type 0
TakesTrace words following.Replay traced = GiveTrace words traced
TakesTrace words following.Draw traced = GiveDrawing words traced
TakesTrace words following.Calls traced = GiveTrace words traced
TakesTrace words following.Denials traced = GiveFollowed words traced × AreNames false (words_of traced.names)
TakesTrace words following.Watch traced = GiveFollowed words traced × AreNames true (words_of traced.names)
TakesTrace words following.Scan traced = GiveScan words traced

-- what a request takes after its command: `FILE` and maybe `--warn` for check, `FILE` for what shows something of it, `FILE ROUNDS` and
-- more for a simulation, and `FILE TRACE` and more over a trace
abbrev pub Takes : List (List ℕ) → Request → Type 0
Takes words (request.Check checked) = IsFileWith (codes "--warn") words checked.file.now checked.warns
Takes words (request.Show command shown) = IsFile words shown.file.now
Takes words (request.Rounds command rounds) = GiveRounds words rounds × NeedsName command (words_of rounds.presses)
Takes words (request.Trace command traced) = TakesTrace words command traced

-- a command, and after it what it takes
pub record Asks (words : List (List ℕ)) (request : Request) : Type 0 where
  pub rest : List (List ℕ)
  pub are : words ≡ word_of (command_of request) ∷ rest
  pub takes : Takes rest request

-- WORDS AS THEY ARE READ

-- the flag of a command's own: `--limits` of `check`, `--text` of `ranges`, `--all` of `denials`, `--changes` of `watch`, `--together` of `run`, `--summary` of `calls`
abbrev pub flag_of : List ℕ → Option (List ℕ)
flag_of command =
    if bytes_eq command (codes "check") then Some (codes "--limits")
    else if bytes_eq command (codes "ranges") then Some (codes "--text")
    else if bytes_eq command (codes "denials") then Some (codes "--all")
    else if bytes_eq command (codes "watch") then Some (codes "--changes")
    else if bytes_eq command (codes "run") then Some (codes "--together")
    else if bytes_eq command (codes "calls") then Some (codes "--summary")
    else None

-- a second flag: `--paths` of `check`, `--left` of `run`, `--cut` of a command that is always over a trace
abbrev pub second_of : List ℕ → Option (List ℕ)
second_of command =
    if bytes_eq command (codes "check") then Some (codes "--paths")
    else if bytes_eq command (codes "run") then Some (codes "--left")
    else if bytes_eq command (codes "replay") || bytes_eq command (codes "draw") || bytes_eq command (codes "calls") || bytes_eq command (codes "scan") then Some (codes "--cut") else None

-- a third flag: `--all` of `check`
abbrev pub third_of : List ℕ → Option (List ℕ)
third_of command = if bytes_eq command (codes "check") then Some (codes "--all") else None

-- the flag of the command of words: this is the first word but `--explain`
abbrev pub own_flag : List (List ℕ) → Option (List ℕ)
own_flag [] = None
own_flag (word ∷ words) = if bytes_eq word (codes "--explain") then own_flag words else flag_of word

-- its second flag
abbrev pub own_second : List (List ℕ) → Option (List ℕ)
own_second [] = None
own_second (word ∷ words) = if bytes_eq word (codes "--explain") then own_second words else second_of word

-- its third flag
abbrev pub own_third : List (List ℕ) → Option (List ℕ)
own_third [] = None
own_third (word ∷ words) = if bytes_eq word (codes "--explain") then own_third words else third_of word

-- `--json` of a command that prints lines
abbrev pub json_of : List ℕ → Option (List ℕ)
json_of command =
    if bytes_eq command (codes "check") || bytes_eq command (codes "ranges") || bytes_eq command (codes "xref") || bytes_eq command (codes "calls") || bytes_eq command (codes "denials") then Some (codes "--json") else None

-- that of the command of words
abbrev pub own_json : List (List ℕ) → Option (List ℕ)
own_json [] = None
own_json (word ∷ words) = if bytes_eq word (codes "--explain") then own_json words else json_of word

-- whether `--explain` is among words
abbrev pub explains : List (List ℕ) → Bool
explains words = list_any (λ word. bytes_eq word (codes "--explain")) words

-- whether a word is the flag, where there is one
abbrev pub is_flag : Option (List ℕ) → List ℕ → Bool
is_flag None word = false
is_flag (Some flag) word = bytes_eq word flag

-- whether a flag is among words
abbrev pub names_flag : Option (List ℕ) → List (List ℕ) → Bool
names_flag flag words = list_any (is_flag flag) words

-- whether a flag is among words that has no JSON
abbrev pub excludes_json : List (List ℕ) → Bool
excludes_json words = names_flag (Some (codes "--summary")) words || names_flag (Some (codes "--paths")) words || names_flag (Some (codes "--text")) words

-- `--json` of words, where no such flag is among them
abbrev pub asked_json : List (List ℕ) → Option (List ℕ)
asked_json words = if excludes_json words then None else own_json words

-- which flags of their command are
abbrev pub flags_of : List (List ℕ) → Flags
flags_of words = record { own = names_flag (own_flag words) words; second = names_flag (own_second words) words; third = names_flag (own_third words) words; json = names_flag (asked_json words) words }

-- a word, or for the options of `scan` two
abbrev pub cut_scan_word : List ℕ → List (List ℕ)
cut_scan_word word =
    if bytes_eq (take 8 word) (codes "--round=") then codes "--round" ∷ drop 8 word ∷ []
    else if bytes_eq (take 8 word) (codes "--until=") then codes "--until" ∷ drop 8 word ∷ []
    else word ∷ []

-- a word, or for the options of `serve` and of `scan` two
abbrev pub cut_serve_word : List ℕ → List (List ℕ)
cut_serve_word word =
    if bytes_eq (take 8 word) (codes "--trace=") then codes "--trace" ∷ drop 8 word ∷ []
    else if bytes_eq (take 7 word) (codes "--from=") then codes "--from" ∷ drop 7 word ∷ []
    else cut_scan_word word

-- a word, or for `--fire=ROUND`, `--calls=CALLS`, `--rounds=A:B`, `--trace=TRACE`, `--from=OLD`, `--round=N` and `--until=LINE` two
abbrev pub cut_word : List ℕ → List (List ℕ)
cut_word word =
    if bytes_eq (take 7 word) (codes "--fire=") then codes "--fire" ∷ drop 7 word ∷ []
    else if bytes_eq (take 8 word) (codes "--calls=") then codes "--calls" ∷ drop 8 word ∷ []
    else if bytes_eq (take 9 word) (codes "--rounds=") then codes "--rounds" ∷ drop 9 word ∷ []
    else cut_serve_word word

-- whether a word is one of the flags that are not the command's first one
abbrev pub is_other_flag : Option (List ℕ) → Option (List ℕ) → Option (List ℕ) → List ℕ → Bool
is_other_flag second third json word = is_flag second word || is_flag third word || is_flag json word

-- the words in place of a word: none for `--explain`, and none for a flag of the command
abbrev pub plain_word : Option (List ℕ) → Option (List ℕ) → Option (List ℕ) → Option (List ℕ) → List ℕ → List (List ℕ)
plain_word own second third json word = if bytes_eq word (codes "--explain") || is_flag own word || is_other_flag second third json word then [] else cut_word word

-- the words as they are read
abbrev pub plain_words : List (List ℕ) → List (List ℕ)
plain_words words = flat_map (plain_word (own_flag words) (own_second words) (own_third words) (asked_json words)) words

-- a request with the flags of its command that are among the words
abbrev pub with_flags : Flags → Request → Request
with_flags flags (request.Check checked) = request.Check (record checked { limits = flags.own; paths = flags.second; all = flags.third; json = flags.json })
with_flags flags (request.Show command shown) = request.Show command (record shown { text = flags.own; json = flags.json })
with_flags flags (request.Rounds command rounds) = request.Rounds command (record rounds { flag = flags.own; left = flags.second; json = flags.json })
with_flags flags (request.Trace command traced) = request.Trace command (record traced { flag = flags.own; cut = flags.second || traced.cut; json = flags.json })
