-- What `scan` shows (own rules).
use Rattle.std.specs.Prelude.{◌≡◌, ◌≤◌, ◌<◌, ◌⊎◌, ◌==◌, ℕ, ◌+◌, true, List, [], ◌∷◌, length, Option, Some, None, option_map, string_bytes}
use Rattle.std.specs.List.{position_or_len, before_first, after_first}
use Rattle.scan_task.specs.Scanning.{Program}
use Rattle.il_statics.specs.Names.{unit_named}
use Rattle.cli_host.specs.declared.request.Traced.{Traced}
use Rattle.cli_host.specs.declared.status.Fault.{Fault}
use Rattle.cli_host.specs.declared.status.Fault.TheVariants as fault
use Rattle.cli_host.specs.declared.status.ScanFault.{ScanFault}
use Rattle.cli_host.specs.declared.status.ScanFault.TheVariants.{Task, Unit as NoUnit, Round, Line, Uncommitted, UncommittedInRound}
use Rattle.cli_host.specs.Requests.{IsNumberTo, words_of}
use Rattle.show_scan.specs.declared.chosen.Asked.{Asked}
use Rattle.show_scan.specs.declared.chosen.Lines.{Lines}
use Rattle.show_scan.specs.Chosen.{chosen}
use Rattle.show_scan.specs.Lines.{lines_of}
use Rattle.show_scan.specs.Shown.{IsScanShown, IsRefusedInFront}
use Rattle.group_spec.specs.declared.event.EventFault.{EventFault}
use Rattle.group_spec.specs.EventFaults.{event_fault_number}
use Rattle.group_spec.specs.declared.image.TheConstants.{MOST_CARS}
use Rattle.group_spec.specs.Snapshot.{has_task, task_name}
use Rattle.cli_output.specs.Traces.{IsRead}
use Rattle.show_values.specs.Names.{upper_case}

-- the first of the words
abbrev pub first_word : List (List ℕ) → List ℕ
first_word [] = []
first_word (word ∷ words) = word

-- TASK
abbrev pub task_word : Traced → List ℕ
task_word traced = first_word (words_of traced.names)

-- A word in two at the first of a byte: what comes before it and what is after it. Where there is none, the word alone.
pub data IsCut (byte : ℕ) (word front : List ℕ) (rest : Option (List ℕ)) : Type 0 where
  whole : position_or_len (λ b. b == byte) word ≡ length word → front ≡ word → rest ≡ None → IsCut byte word front rest
  cut : position_or_len (λ b. b == byte) word < length word → front ≡ before_first (λ b. b == byte) word → rest ≡ Some (after_first (λ b. b == byte) word) → IsCut byte word front rest

-- THE TASK, AND THE UNIT

-- a name is that of a task of the group
pub record IsTask (program : Program) (name : List ℕ) (task : ℕ) : Type 0 where
  pub few : task ≤ MOST_CARS
  pub named : name ≡ task_name task
  pub has : has_task program.config task ≡ true

-- a name of a task, and what is after its period: the name of a unit, which has these lines
abbrev pub IsPartBy : Program → List ℕ → Option (List ℕ) → ℕ → Option Lines → Type 0
IsPartBy program front None task unit = IsTask program front task × (unit ≡ None)
IsPartBy program front (Some name) task unit = IsTask program front task × ((lines : Lines) × (option_map lines_of (unit_named program.config name) ≡ Some lines) × (unit ≡ Some lines))

-- a word names a task of the group, and after a period maybe a unit of the text, in any letter case
pub record IsPart (program : Program) (word : List ℕ) (task : ℕ) (unit : Option Lines) : Type 0 where
  pub front : List ℕ
  pub rest : Option (List ℕ)
  pub cut : IsCut 46 (upper_case word) front rest
  pub is : IsPartBy program front rest task unit

-- before its period, a word names no task of the group
pub record NamesNoTask (program : Program) (word : List ℕ) : Type 0 where
  pub front : List ℕ
  pub rest : Option (List ℕ)
  pub cut : IsCut 46 (upper_case word) front rest
  pub none : (task : ℕ) → IsTask program front task → ⊥

-- after its period, a word names no unit of the text, and before it a task
pub record NamesNoUnit (program : Program) (word : List ℕ) : Type 0 where
  pub front : List ℕ
  pub name : List ℕ
  pub cut : IsCut 46 (upper_case word) front (Some name)
  pub task : ℕ
  pub is : IsTask program front task
  pub none : option_map lines_of (unit_named program.config name) ≡ None

-- what is wrong with a word that names none of both
abbrev pub IsPartFault : Program → List ℕ → ScanFault → List ℕ → Type 0
IsPartFault program word Task named = (named ≡ word) × NamesNoTask program word
IsPartFault program word NoUnit named = (named ≡ word) × NamesNoUnit program word
IsPartFault program word Round named = ⊥
IsPartFault program word Line named = ⊥
IsPartFault program word Uncommitted named = ⊥
IsPartFault program word UncommittedInRound named = ⊥

-- THE ROUND, AND THE LINES

-- a decimal from 1 to 65535
abbrev pub IsNumber : List ℕ → ℕ → Type 0
IsNumber word number = IsNumberTo 65535 word number

-- a word is no such decimal
abbrev pub IsNoNumber : List ℕ → Type 0
IsNoNumber word = (number : ℕ) → IsNumber word number → ⊥

-- the round of a word that may be there
abbrev pub IsRoundWord : Option (List ℕ) → Option ℕ → Type 0
IsRoundWord None None = Unit {0}
IsRoundWord None (Some number) = ⊥
IsRoundWord (Some word) None = ⊥
IsRoundWord (Some word) (Some number) = IsNumber word number

-- what is wrong with it
abbrev pub IsRoundFault : Option (List ℕ) → ScanFault → List ℕ → Type 0
IsRoundFault word why named = (why ≡ Round) × (word ≡ Some named) × IsNoNumber named

-- the last line, if one is written
abbrev pub IsLast : List ℕ → Option ℕ → Type 0
IsLast [] until = until ≡ None
IsLast (digit ∷ digits) until = (line : ℕ) × IsNumber (digit ∷ digits) line × (until ≡ Some line)

-- what is there is no line
abbrev pub IsNoLast : List ℕ → Type 0
IsNoLast [] = ⊥
IsNoLast (digit ∷ digits) = IsNoNumber (digit ∷ digits)

-- a line alone is the last one; before a colon it is the first one
abbrev pub AreLinesBy : List ℕ → Option (List ℕ) → Option ℕ → Option ℕ → Type 0
AreLinesBy front None from until = (from ≡ None) × ((line : ℕ) × IsNumber front line × (until ≡ Some line))
AreLinesBy front (Some rest) from until = ((line : ℕ) × IsNumber front line × (from ≡ Some line)) × IsLast rest until

-- `LINE`, `FROM:LINE` or `FROM:`
pub record AreLines (word : List ℕ) (from until : Option ℕ) : Type 0 where
  pub front : List ℕ
  pub rest : Option (List ℕ)
  pub cut : IsCut 58 word front rest
  pub are : AreLinesBy front rest from until

abbrev pub AreNoLinesBy : List ℕ → Option (List ℕ) → Type 0
AreNoLinesBy front None = IsNoNumber front
AreNoLinesBy front (Some rest) = IsNoNumber front ⊎ IsNoLast rest

-- none of these
pub record AreNoLines (word : List ℕ) : Type 0 where
  pub front : List ℕ
  pub rest : Option (List ℕ)
  pub cut : IsCut 58 word front rest
  pub none : AreNoLinesBy front rest

-- the lines of a word that may be there
abbrev pub AreLinesOf : Option (List ℕ) → Option ℕ → Option ℕ → Type 0
AreLinesOf None from until = (from ≡ None) × (until ≡ None)
AreLinesOf (Some word) from until = AreLines word from until

-- what is wrong with it
abbrev pub IsLinesFault : Option (List ℕ) → ScanFault → List ℕ → Type 0
IsLinesFault word why named = (why ≡ Line) × (word ≡ Some named) × AreNoLines named

-- WHAT THE WORDS ASK FOR

-- the words after `--round` and `--until`
abbrev pub round_word : Traced → Option (List ℕ)
round_word traced = option_map (λ word. word.now) traced.round

abbrev pub until_word : Traced → Option (List ℕ)
until_word traced = option_map (λ word. word.now) traced.until

-- the words ask for a scan of a task of the group, or for what a unit did in it, from a line on and up to a line
pub record IsAsked (traced : Traced) (program : Program) (asked : Asked) : Type 0 where
  pub part : IsPart program (task_word traced) asked.task asked.unit
  pub round : IsRoundWord (round_word traced) asked.round
  pub lines : AreLinesOf (until_word traced) asked.from asked.until

-- TASK is a task of the group, and a unit of the text where one is named
abbrev pub HasPart : Traced → Program → Type 0
HasPart traced program = (task : ℕ) × ((unit : Option Lines) × IsPart program (task_word traced) task unit)

-- the word after `--round` is a number, where one is there
abbrev pub HasRound : Traced → Type 0
HasRound traced = (round : Option ℕ) × IsRoundWord (round_word traced) round

-- The words ask for no scan, for what this one says: TASK is none, or else the word after `--round` is no number, or else that after `--until` is no lines.
abbrev pub IsUnaskedBy : Traced → Program → ScanFault → List ℕ → Type 0
IsUnaskedBy traced program why named =
    IsPartFault program (task_word traced) why named
    ⊎ ((HasPart traced program × IsRoundFault (round_word traced) why named) ⊎ (HasPart traced program × HasRound traced × IsLinesFault (until_word traced) why named))

-- a fault says so; memory may be missing
abbrev pub IsBadScan : (ScanFault → List ℕ → Type 0) → Fault → Type 0
IsBadScan Is (fault.BadScan why named) = Is why (string_bytes named)
IsBadScan Is fault.NoMemory = Unit {0}
IsBadScan Is _ = ⊥

abbrev pub IsUnasked : Traced → Program → Fault → Type 0
IsUnasked traced program why = IsBadScan (IsUnaskedBy traced program) why

-- A SCAN

-- of a scan that the trace does not commit, this word is named: that after `--round`, where one is there, and TASK otherwise
abbrev pub IsUncommittedBy : Traced → ScanFault → List ℕ → Type 0
IsUncommittedBy traced Task named = ⊥
IsUncommittedBy traced NoUnit named = ⊥
IsUncommittedBy traced Round named = ⊥
IsUncommittedBy traced Line named = ⊥
IsUncommittedBy traced Uncommitted named = (round_word traced ≡ None) × (named ≡ task_word traced)
IsUncommittedBy traced UncommittedInRound named = round_word traced ≡ Some named

-- the trace commits no such scan
pub record HasNoScan (traced : Traced) (program : Program) (source trace : List ℕ) (why : ScanFault) (named : List ℕ) : Type 0 where
  pub read : IsRead program source trace
  pub asked : Asked
  pub is : IsAsked traced program asked
  pub none : chosen asked read.events ≡ None
  pub word : IsUncommittedBy traced why named

-- an event of the trace is refused, with this number, at its line; it is the start of the scan that is asked for, or is in front of it
pub record IsEarlyRefused (program : Program) (asked : Asked) (source trace : List ℕ) (number line : ℕ) : Type 0 where
  pub read : IsRead program source trace
  pub index : ℕ
  pub why : EventFault
  pub refused : IsRefusedInFront program.config read.from asked read.events index why
  pub numbered : number ≡ event_fault_number why
  pub lined : line ≡ read.lines + 1 + index

-- the scan of the trace that the words ask for, from the world from which the trace begins, with lines of the program's text
pub record IsScanOf (traced : Traced) (program : Program) (source trace text : List ℕ) : Type 0 where
  pub read : IsRead program source trace
  pub asked : Asked
  pub is : IsAsked traced program asked
  pub shown : IsScanShown program.config read.from asked read.events source text
