-- What a request gives of a verified configuration (own rules).
use Rattle.std.specs.Prelude.{◌≡◌, ◌<◌, ◌⊎◌, ℕ, ◌+◌, ◌++◌, Bool, true, false, List, [], ◌∷◌, length, Option, Some, None, option_map, Ok, Err, IfOk, IsErrAnd, codes, decimal, string_bytes}
use Rattle.base_json.specs.declared.form.Form.{Form}
use Rattle.base_json.specs.Forms.{form_of}
use Rattle.il_syntax.specs.declared.tree.Config.{Config}
use Rattle.show_names.specs.RangeTexts.{AreRangesIn}
use Rattle.show_names.specs.Sources.{shown_source}
use Rattle.scan_task.specs.Scanning.{Program}
use Rattle.threads_desk.specs.Passes.{Left}
use Rattle.show_picture.specs.declared.span.Span.{Span}
use Rattle.cli_host.specs.declared.files.ReadFault.{ReadFault}
use Rattle.cli_host.specs.declared.files.Reading.{Reading}
use Rattle.cli_host.specs.declared.files.Reading.TheVariants.{Text, Failed}
use Rattle.cli_host.specs.declared.press.Press.{Press}
use Rattle.cli_host.specs.declared.press.Set.TheVariants.{Fire}
use Rattle.cli_host.specs.declared.press.Setting.{Setting}
use Rattle.cli_host.specs.declared.request.Checked.{Checked}
use Rattle.cli_host.specs.declared.request.Request.{Request}
use Rattle.cli_host.specs.declared.request.Rounds.{Rounds}
use Rattle.cli_host.specs.declared.request.Request.TheVariants as request
use Rattle.cli_host.specs.declared.request.Showing.{Showing}
use Rattle.cli_host.specs.declared.request.Shown.{Shown}
use Rattle.cli_host.specs.declared.request.Traced.{Traced}
use Rattle.cli_host.specs.declared.request.Showing.TheVariants as showing
use Rattle.cli_host.specs.declared.request.Simulating.{Simulating}
use Rattle.cli_host.specs.declared.request.Simulating.TheVariants as simulating
use Rattle.cli_host.specs.declared.status.Fault.{Fault}
use Rattle.cli_host.specs.declared.status.Fault.TheVariants as fault
use Rattle.cli_host.specs.declared.calls.CallsFault.TheVariants as calls_fault
use Rattle.cli_host.specs.CallsFile.{AreCallsOf, IsCallsFault}
use Rattle.cli_host.specs.Messages.{fault_of_reading}
use Rattle.cli_host.specs.Presses.{ArePresses, HasNoPress}
use Rattle.cli_host.specs.declared.request.Words.{Words}
use Rattle.cli_host.specs.Requests.{AreNamesFirst, IsNumberTo, words_of}
use Rattle.group_journal.specs.Rounds.{TakesAll, IsRefusedAt}
use Rattle.show_calls.specs.declared.log.Log.{Log}
use Rattle.show_calls.specs.Lines.{lines_in}
use Rattle.show_calls.specs.Summaries.{IsSummaryOf}
use Rattle.cli_output.specs.ImageText.{image_text}
use Rattle.cli_output.specs.Limits.{limits_rows}
use Rattle.cli_output.specs.Listing.{listing}
use Rattle.cli_output.specs.Scans.{IsAsked, IsEarlyRefused, IsScanOf, IsUnasked, IsUnaskedBy, HasNoScan}
use Rattle.cli_output.specs.Spans.{IsSpanWord, IsNoSpan}
use Rattle.cli_output.specs.Tellings.{telling_of}
use Rattle.cli_output.specs.Traces.{IsRead, IsLineRefused}
use Rattle.cli_output.specs.declared.telling.Telling.{Telling}
use Rattle.cli_output.specs.declared.telling.Telling.TheVariants.{Image, Picture, Calls, Denials, Values}
use Rattle.group_rounds.specs.Driven.{IsSimulated, switches_in}
use Rattle.group_rounds.specs.Shown.{IsShown}
use Rattle.cli_messages.specs.Outputs.{Outcome, bytes_of, warnings_of}
use Rattle.show_scan.specs.declared.chosen.Asked.{Asked}
use Rattle.group_spec.specs.declared.event.EventFault.{EventFault}
use Rattle.group_spec.specs.declared.image.Sizes.{Sizes}
use Rattle.group_spec.specs.declared.journal.Entry.{Entry}
use Rattle.group_spec.specs.declared.trace.TraceEvent.{TraceEvent}
use Rattle.group_spec.specs.EventFaults.{event_fault_number}
use Rattle.group_spec.specs.Image.{sizes_of}
use Rattle.group_spec.specs.World.{World, opening}
use Rattle.trace_text.specs.Written.{text_of_entries}
use Rattle.show_names.specs.Warnings.{warnings_text}
use Rattle.cli_output.specs.Busy.{busy_lines}
use Rattle.show_names.specs.Xref.{xref_in}
use Rattle.show_values.specs.declared.names.Watched.{Watched}
use Rattle.show_values.specs.Calls.{IsLogOf}
use Rattle.show_values.specs.Changes.{shown_text}
use Rattle.show_values.specs.Denials.{denied_in}
use Rattle.show_values.specs.Following.{IsDeniedIn, AreRowsAlong}
use Rattle.show_values.specs.Words.{meant}
use Rattle.show_values.specs.Values.{AreWatched, IsUnknown, header_text, watching}
use Rattle.threads_workers.specs.Ran.{IsRun}

-- CHECK

-- a program has this text printed; memory may be missing
abbrev pub IsPrinted : List ℕ → Outcome → Type 0
IsPrinted text (Ok output) = bytes_of output ≡ text
IsPrinted text (Err fault.NoMemory) = Unit {0}
IsPrinted text (Err _) = ⊥

-- what `check` shows of a program whose text has so many bytes, in a form: its listing, with ranges of lines where they are asked for, and after it
-- limits, where those are
abbrev pub check_shown : Form → Bool → Bool → Program → ℕ → List ℕ
check_shown form ranged false program bytes = listing form ranged program
check_shown form ranged true program bytes = listing form ranged program ++ limits_rows form program bytes

-- `check` of a verified program prints that.
abbrev pub IsCheckOutcome : Checked → Program → ℕ → Outcome → Type 0
IsCheckOutcome asked program bytes = IsPrinted (check_shown (form_of asked.json) asked.paths asked.limits program bytes)

-- what a request warns of: `check` of what has no effect and of much work, where that is asked for
abbrev pub asked_warnings : Bool → Program → Option (List ℕ)
asked_warnings true program = Some (warnings_text program.config ++ busy_lines program.config)
asked_warnings false program = None

-- an output has these warnings
abbrev pub HasWarnings : Option (List ℕ) → Outcome → Type 0
HasWarnings warnings outcome = IfOk outcome (λ output. warnings_of output ≡ warnings)

-- what a simulation in one thread has none of; what `run` has for the standard error is what it says of the calls that are left
abbrev pub AreRoundsWarned : Simulating → Outcome → Type 0
AreRoundsWarned simulating.Sim outcome = HasWarnings None outcome
AreRoundsWarned simulating.Run outcome = Unit {0}
AreRoundsWarned simulating.Denials outcome = HasWarnings None outcome
AreRoundsWarned simulating.Watch outcome = HasWarnings None outcome

-- an output has the warnings that its request asks for
abbrev pub AreWarned : Request → Program → Outcome → Type 0
AreWarned (request.Check checked) program outcome = HasWarnings (asked_warnings checked.warns program) outcome
AreWarned (request.Show command shown) program outcome = HasWarnings None outcome
AreWarned (request.Rounds command asked) program outcome = AreRoundsWarned command outcome
AreWarned (request.Trace command traced) program outcome = HasWarnings None outcome

-- WHAT A TEXT SHOWS

-- `ranges` prints in a form what the verifier has found for each instruction, with the instruction's text where `source` has that; memory may be missing.
abbrev pub IsRangesOutcome : Form → Option (List ℕ) → Config → Outcome → Type 0
IsRangesOutcome form source c (Ok output) = AreRangesIn form source c (bytes_of output)
IsRangesOutcome form source c (Err fault.NoMemory) = Unit {0}
IsRangesOutcome form source c (Err _) = ⊥

-- `ranges` prints that of the program of a text, `source`, with the texts of instructions where they are asked for; `xref` prints where names are
-- declared, read, written and called, in a form.
abbrev pub IsShowOutcome : Showing → Shown → List ℕ → Program → Outcome → Type 0
IsShowOutcome showing.Ranges asked source program = IsRangesOutcome (form_of asked.json) (shown_source asked.text source) program.config
IsShowOutcome showing.Xref asked source program = IsPrinted (xref_in (form_of asked.json) program.config)

-- WHAT DRIVES ROUNDS

-- the word after `--fire`, and that after `--calls`, if one is there
abbrev pub fire_word : Rounds → Option (List ℕ)
fire_word asked = option_map (λ word. word.now) asked.fire

abbrev pub calls_word : Rounds → Option (List ℕ)
calls_word asked = option_map (λ word. word.now) asked.calls

-- the round from which on FIRE holds, as the word after `--fire` spells it
abbrev pub IsFire : ℕ → Option (List ℕ) → Option ℕ → Type 0
IsFire rounds None None = Unit {0}
IsFire rounds None (Some first) = ⊥
IsFire rounds (Some word) None = ⊥
IsFire rounds (Some word) (Some first) = IsNumberTo rounds word first

-- what it sets
abbrev pub fire_settings : Option ℕ → List Setting
fire_settings None = []
fire_settings (Some first) = record { round = first; set = Fire true } ∷ []

-- the words after ROUNDS spell these presses, and the word after `--fire` this round
pub record AreSpelled (floors : ℕ) (asked : Rounds) (presses : List Press) (first : Option ℕ) : Type 0 where
  pub spelled : ArePresses asked.rounds floors (words_of asked.presses) presses
  pub from_round : IsFire asked.rounds (fire_word asked) first

-- what was read has these presses and settings
abbrev pub AreOfReading : Sizes → ℕ → Reading → List Press → List Setting → Type 0
AreOfReading sizes rounds (Text text) presses settings = AreCallsOf rounds sizes.floors sizes.cars text.items presses settings
AreOfReading sizes rounds (Failed why) presses settings = ⊥

-- the file after `--calls` has these presses and settings; without it there are none
abbrev pub AreOfFile : Sizes → ℕ → Option (List ℕ) → Reading → List Press → List Setting → Type 0
AreOfFile sizes rounds None calls presses settings = (presses ≡ []) × (settings ≡ [])
AreOfFile sizes rounds (Some name) calls presses settings = AreOfReading sizes rounds calls presses settings

-- The presses are those of the words and after them those of the file; the settings are that of `--fire` and after it those of the file.
pub record AreDriven (sizes : Sizes) (asked : Rounds) (calls : Reading) (presses : List Press) (settings : List Setting) : Type 0 where
  pub words : List Press
  pub first : Option ℕ
  pub of_words : AreSpelled sizes.floors asked words first
  pub later : List Press
  pub set : List Setting
  pub of_file : AreOfFile sizes asked.rounds (calls_word asked) calls later set
  pub presses_are : presses ≡ words ++ later
  pub settings_are : settings ≡ fire_settings first ++ set

-- the word after `--fire` is named, and is no round; memory may be missing
abbrev pub IsNoFire : ℕ → Option (List ℕ) → Fault → Type 0
IsNoFire rounds word (fault.BadFire named) = (word ≡ Some (string_bytes named)) × ((first : Option ℕ) → IsFire rounds word first → ⊥)
IsNoFire rounds word fault.NoMemory = Unit {0}
IsNoFire rounds word _ = ⊥

-- reading failed; or a line of what was read is wrong, 83, or there is too much of it, 84; memory may be missing
abbrev pub IsBadReading : Sizes → ℕ → Reading → Fault → Type 0
IsBadReading sizes rounds (Text text) (fault.Refused number line) =
    ((number ≡ 83) × IsCallsFault rounds sizes.floors sizes.cars text.items (calls_fault.BadLine line)) ⊎ ((number ≡ 84) × IsCallsFault rounds sizes.floors sizes.cars text.items (calls_fault.TooMany line))
IsBadReading sizes rounds (Failed why) (fault.CannotRead cause) = fault_of_reading why ≡ fault.CannotRead cause
IsBadReading sizes rounds calls fault.NoMemory = Unit {0}
IsBadReading sizes rounds calls _ = ⊥

-- so is the file after `--calls`
abbrev pub HasBadCalls : Sizes → ℕ → Option (List ℕ) → Reading → Fault → Type 0
HasBadCalls sizes rounds None calls why = why ≡ fault.NoMemory
HasBadCalls sizes rounds (Some name) calls why = IsBadReading sizes rounds calls why

-- the words are good
abbrev pub AreGood : ℕ → Rounds → Type 0
AreGood floors asked = (presses : List Press) × (first : Option ℕ) × AreSpelled floors asked presses first

-- One of the words is bad, the presses first, and is named, or the words are good and the file is bad; memory may be missing.
abbrev pub IsUndriven : Sizes → Rounds → Reading → Fault → Type 0
IsUndriven sizes asked calls (fault.BadPress word) = HasNoPress asked.rounds sizes.floors (words_of asked.presses) (string_bytes word)
IsUndriven sizes asked calls fault.TooManyPresses = 1000 < length (words_of asked.presses)
IsUndriven sizes asked calls (fault.BadFire word) = ((presses : List Press) × ArePresses asked.rounds sizes.floors (words_of asked.presses) presses) × IsNoFire asked.rounds (fire_word asked) (fault.BadFire word)
IsUndriven sizes asked calls (fault.Refused number line) = AreGood sizes.floors asked × HasBadCalls sizes asked.rounds (calls_word asked) calls (fault.Refused number line)
IsUndriven sizes asked calls (fault.CannotRead cause) = AreGood sizes.floors asked × HasBadCalls sizes asked.rounds (calls_word asked) calls (fault.CannotRead cause)
IsUndriven sizes asked calls fault.NoMemory = Unit {0}
IsUndriven sizes asked calls _ = ⊥

-- SIM

-- The trace is that of a journal of the program, a run from its opening: so many rounds, with the presses and the settings of the words and of
-- the file, each of them safe for those in the cars.
pub record IsTraceOf (program : Program) (asked : Rounds) (calls : Reading) (text : List ℕ) : Type 0 where
  pub presses : List Press
  pub settings : List Setting
  pub driven : AreDriven (sizes_of program.config) asked calls presses settings
  pub entries : List Entry
  pub simulated : IsSimulated program.config presses settings asked.rounds entries
  pub trace : text ≡ text_of_entries entries

-- `sim` prints its trace, where its further words are presses, the word after `--fire` is a round, and the file after `--calls` is good.
abbrev pub IsSimOutcome : Program → Rounds → Reading → Outcome → Type 0
IsSimOutcome program asked calls (Ok output) = IsTraceOf program asked calls (bytes_of output)
IsSimOutcome program asked calls (Err why) = IsUndriven (sizes_of program.config) asked calls why

-- RUN

-- `left in hand N, on desk M`
abbrev pub left_line : Left → List ℕ
left_line left = codes "left in hand " ++ (decimal (length left.hand) ++ (codes ", on desk " ++ (decimal (length left.desk) ++ codes "\n")))

-- what is reported of the calls that are left, where that is asked for
abbrev pub told_left : Bool → Left → Option (List ℕ)
told_left true left = Some (left_line left)
told_left false left = None

-- The trace is that of a journal of the program, a run from its opening in whatever order the threads came: each task was started and
-- committed in each of so many rounds, and the image was refreshed by the plant in each, under the settings of the words and of the file and safe
-- for those in the cars. Their calls are kept: none is lost and none is doubled, and what the trace doesn't enter is left in the collector's hand
-- or on the desk. How many are left there is reported, where that is asked for.
pub record IsTraceOfRun (program : Program) (asked : Rounds) (calls : Reading) (text : List ℕ) (told : Option (List ℕ)) : Type 0 where
  pub presses : List Press
  pub settings : List Setting
  pub driven : AreDriven (sizes_of program.config) asked calls presses settings
  pub entries : List Entry
  pub left : Left
  pub ran : IsRun program.config (switches_in (sizes_of program.config).cars settings) asked.rounds presses entries left
  pub trace : text ≡ text_of_entries entries
  pub said : told ≡ told_left asked.left left

-- `run` prints its trace, where the words and the file are good.
abbrev pub IsRunOutcome : Program → Rounds → Reading → Outcome → Type 0
IsRunOutcome program asked calls (Ok output) = IsTraceOfRun program asked calls (bytes_of output) (warnings_of output)
IsRunOutcome program asked calls (Err why) = IsUndriven (sizes_of program.config) asked calls why

-- DENIALS

-- The rows are those of a simulation of the program from its opening, with the presses and the settings of the words and of the file, in the form that is
-- asked for; the stops at the ends of the shaft are among them where all are.
pub record IsDenialsOf (program : Program) (asked : Rounds) (calls : Reading) (text : List ℕ) : Type 0 where
  pub presses : List Press
  pub settings : List Setting
  pub driven : AreDriven (sizes_of program.config) asked calls presses settings
  pub entries : List Entry
  pub shown : IsShown (denied_in (form_of asked.json) asked.flag) program.config presses settings asked.rounds entries text

-- `denials` prints them, where the words and the file are good.
abbrev pub IsDenialsOutcome : Program → Rounds → Reading → Outcome → Type 0
IsDenialsOutcome program asked calls (Ok output) = IsDenialsOf program asked calls (bytes_of output)
IsDenialsOutcome program asked calls (Err why) = IsUndriven (sizes_of program.config) asked calls why

-- WATCH

-- The words after ROUNDS mean names, which have values as the program opens, and after them are presses. The lines are that of the names, and
-- those of a simulation; with `--changes` without the rows that repeat the values of the row before them.
pub record IsWatchOf (program : Program) (asked : Rounds) (calls : Reading) (text : List ℕ) : Type 0 where
  pub names : List (List ℕ)
  pub behind : Words
  pub split : AreNamesFirst (words_of asked.presses) names (words_of behind)
  pub watched : List Watched
  pub known : AreWatched (opening program.config) (meant program.config names) watched
  pub presses : List Press
  pub settings : List Setting
  pub driven : AreDriven (sizes_of program.config) (record asked { presses = behind }) calls presses settings
  pub entries : List Entry
  pub rows : List ℕ
  pub shown : IsShown (watching watched) program.config presses settings asked.rounds entries rows
  pub lines : text ≡ shown_text asked.flag (header_text (meant program.config names) ++ rows)

-- The words are names and then presses, they and the file are good, and one of the names that they mean has no value as the program opens; what is said of it.
pub record HasUnknown (program : Program) (asked : Rounds) (calls : Reading) (word says : List ℕ) : Type 0 where
  pub names : List (List ℕ)
  pub behind : Words
  pub split : AreNamesFirst (words_of asked.presses) names (words_of behind)
  pub presses : List Press
  pub settings : List Setting
  pub driven : AreDriven (sizes_of program.config) (record asked { presses = behind }) calls presses settings
  pub unknown : IsUnknown program.config (opening program.config) (meant program.config names) word says

-- or they or the file are bad
pub record IsUnwatched (program : Program) (asked : Rounds) (calls : Reading) (why : Fault) : Type 0 where
  pub names : List (List ℕ)
  pub behind : Words
  pub split : AreNamesFirst (words_of asked.presses) names (words_of behind)
  pub undriven : IsUndriven (sizes_of program.config) (record asked { presses = behind }) calls why

-- `watch` prints them, or says what is wrong with the words.
abbrev pub IsWatchOutcome : Program → Rounds → Reading → Outcome → Type 0
IsWatchOutcome program asked calls (Ok output) = IsWatchOf program asked calls (bytes_of output)
IsWatchOutcome program asked calls (Err (fault.BadName word says)) = HasUnknown program asked calls (string_bytes word) (string_bytes says)
IsWatchOutcome program asked calls (Err why) = IsUnwatched program asked calls why

-- TRACES

-- what is printed of what is known of calls: a row of each in a form, or a summary
abbrev pub IsCallsText : Form → Bool → Log → List ℕ → Type 0
IsCallsText form false log text = text ≡ lines_in form log.journeys
IsCallsText form true log text = IsSummaryOf log.pressed log.journeys text

-- the text of the calls of a trace's events, from a world on
pub record IsTextOfCalls (c : Config) (form : Form) (summary : Bool) (from : World) (events : List TraceEvent) (after : World) (text : List ℕ) : Type 0 where
  pub log : Log
  pub known : IsLogOf c from events after log
  pub is : IsCallsText form summary log text

-- the text of the values of names after each round of a trace's events, from a world on, with `--changes` without the rows that repeat
pub record IsTextOfValues (c : Config) (names : List (List ℕ)) (changes : Bool) (from : World) (events : List TraceEvent) (after : World) (text : List ℕ) : Type 0 where
  pub watched : List Watched
  pub known : AreWatched from names watched
  pub rows : List ℕ
  pub are : AreRowsAlong watched c from events after rows
  pub lines : text ≡ shown_text changes (header_text names ++ rows)

-- what is reported of a trace's events, which lead from a world to the one after them: the image, some picture, the calls or a summary of them, what the
-- interlock denied, or values after each round
abbrev pub Says : Telling → Program → World → List TraceEvent → World → List ℕ → Type 0
Says Image program from events after text = text ≡ image_text program.config after
Says (Picture span) program from events after text = Unit {0}
Says (Calls form summary) program from events after text = IsTextOfCalls program.config form summary from events after text
Says (Denials form all) program from events after text = IsDeniedIn form all program.config from events after text
Says (Values names changes) program from events after text = IsTextOfValues program.config (meant program.config (words_of names)) changes from events after text

-- the word after `--rounds` says no rounds
abbrev pub IsBadSpan : Telling → Fault → Type 0
IsBadSpan (Picture span) why = IsNoSpan (option_map (λ word. word.now) span) why
IsBadSpan _ why = ⊥

-- one of the names that words mean has no value in the world from which a trace begins; what is said of it
abbrev pub IsBadName : Telling → Program → World → List ℕ → List ℕ → Type 0
IsBadName (Values names changes) program from word says = IsUnknown program.config from (meant program.config (words_of names)) word says
IsBadName _ program from word says = ⊥

-- it is reported so of a trace's events, from the world from which it begins
pub record IsSaidAfter (telling : Telling) (program : Program) (source trace text : List ℕ) : Type 0 where
  pub read : IsRead program source trace
  pub after : World
  pub taken : TakesAll program.config read.from read.events after
  pub is : Says telling program read.from read.events after text

-- names have values in the world from which a trace begins
abbrev pub HaveValues : World → List (List ℕ) → Type 0
HaveValues from names = (watched : List Watched) × AreWatched from names watched

-- the words beside TRACE are good: the word after `--rounds` says rounds, the names to watch have values in the world from which the trace begins
abbrev pub HasGoodWords : Telling → Program → World → Type 0
HasGoodWords Image program from = Unit {0}
HasGoodWords (Picture span) program from = (rounds : Span) × IsSpanWord (option_map (λ word. word.now) span) rounds
HasGoodWords (Calls form summary) program from = Unit {0}
HasGoodWords (Denials form all) program from = Unit {0}
HasGoodWords (Values names changes) program from = HaveValues from (meant program.config (words_of names))

-- the words beside a trace are good, and an event of it is refused, with this number, at its line
pub record IsEventRefused (telling : Telling) (program : Program) (source trace : List ℕ) (number line : ℕ) : Type 0 where
  pub read : IsRead program source trace
  pub good : HasGoodWords telling program read.from
  pub index : ℕ
  pub why : EventFault
  pub refused : IsRefusedAt program.config read.from read.events index why
  pub numbered : number ≡ event_fault_number why
  pub lined : line ≡ read.lines + 1 + index

-- a trace is refused: for a line of it, before the words beside it are judged, or after them for an event
abbrev pub IsTraceRefused : Telling → Program → List ℕ → List ℕ → ℕ → ℕ → Type 0
IsTraceRefused telling program source trace number line = IsLineRefused program source trace number line ⊎ IsEventRefused telling program source trace number line

-- A command over a trace reports what is along its events and after them, or what is wrong with it, with the rounds to draw or the names to watch.
-- `source` is the text of the program. Memory may be missing.
abbrev pub IsFollowed : Telling → Program → List ℕ → List ℕ → Outcome → Type 0
IsFollowed telling program source trace (Ok output) = IsSaidAfter telling program source trace (bytes_of output)
IsFollowed telling program source trace (Err (fault.Refused number line)) = IsTraceRefused telling program source trace number line
IsFollowed telling program source trace (Err (fault.BadSpan word)) = IsRead program source trace × IsBadSpan telling (fault.BadSpan word)
IsFollowed telling program source trace (Err (fault.BadName word says)) = (read : IsRead program source trace) × IsBadName telling program read.from (string_bytes word) (string_bytes says)
IsFollowed telling program source trace (Err fault.NoMemory) = Unit {0}
IsFollowed telling program source trace (Err _) = ⊥

-- what was read of a trace is followed, or reading failed
abbrev pub IsTraceOutcome : Telling → Program → List ℕ → Reading → Outcome → Type 0
IsTraceOutcome telling program source (Text text) outcome = IsFollowed telling program source text.items outcome
IsTraceOutcome telling program source (Failed why) outcome = outcome ≡ Err (fault_of_reading why)

-- SCANS

-- The words ask for a scan, and the trace is refused: for a line of it, or for an event up to the start of that scan.
abbrev pub IsScanRefused : Traced → Program → List ℕ → List ℕ → ℕ → ℕ → Type 0
IsScanRefused traced program source trace number line = (asked : Asked) × IsAsked traced program asked × (IsLineRefused program source trace number line ⊎ IsEarlyRefused program asked source trace number line)

-- `scan` shows a scan of the trace, or says what is wrong with it or with the words. Memory may be missing.
abbrev pub IsScanned : Traced → Program → List ℕ → List ℕ → Outcome → Type 0
IsScanned traced program source trace (Ok output) = IsScanOf traced program source trace (bytes_of output)
IsScanned traced program source trace (Err (fault.Refused number line)) = IsScanRefused traced program source trace number line
IsScanned traced program source trace (Err (fault.BadScan why word)) = IsUnaskedBy traced program why (string_bytes word) ⊎ HasNoScan traced program source trace why (string_bytes word)
IsScanned traced program source trace (Err fault.NoMemory) = Unit {0}
IsScanned traced program source trace (Err _) = ⊥

-- The words ask for a scan, and reading failed.
abbrev pub IsScanUnread : Traced → Program → ReadFault → Outcome → Type 0
IsScanUnread traced program why outcome = ((asked : Asked) × IsAsked traced program asked) × (outcome ≡ Err (fault_of_reading why))

-- what was read of a trace has it, or reading failed; the words are judged before
abbrev pub IsScanOutcome : Traced → Program → List ℕ → Reading → Outcome → Type 0
IsScanOutcome traced program source (Text text) outcome = IsScanned traced program source text.items outcome
IsScanOutcome traced program source (Failed why) outcome = IsScanUnread traced program why outcome ⊎ IsErrAnd outcome (IsUnasked traced program)

-- REQUESTS

-- what a simulation is asked for
abbrev pub IsRoundsOutcome : Simulating → Program → Rounds → Reading → Outcome → Type 0
IsRoundsOutcome simulating.Sim program asked calls outcome = IsSimOutcome program asked calls outcome
IsRoundsOutcome simulating.Run program asked calls outcome = IsRunOutcome program asked calls outcome
IsRoundsOutcome simulating.Denials program asked calls outcome = IsDenialsOutcome program asked calls outcome
IsRoundsOutcome simulating.Watch program asked calls outcome = IsWatchOutcome program asked calls outcome

-- what a command over a trace reports of the whole of it, or the scan that it shows of it
abbrev pub IsToldOutcome : Option Telling → Traced → Program → List ℕ → Reading → Outcome → Type 0
IsToldOutcome None traced program source trace outcome = IsScanOutcome traced program source trace outcome
IsToldOutcome (Some telling) traced program source trace outcome = IsTraceOutcome telling program source trace outcome

-- A verified program of a text gives what its command prints, with what was read of its other file: the trace, or the file after `--calls`. With `--json` each
-- row is an object.
abbrev pub IsProgramOutcome : Request → Program → List ℕ → Reading → Outcome → Type 0
IsProgramOutcome (request.Check checked) program source other outcome = IsCheckOutcome checked program (length source) outcome
IsProgramOutcome (request.Show command shown) program source other outcome = IsShowOutcome command shown source program outcome
IsProgramOutcome (request.Rounds command asked) program source other outcome = IsRoundsOutcome command program asked other outcome
IsProgramOutcome (request.Trace command traced) program source other outcome = IsToldOutcome (telling_of command traced) traced program source other outcome
