-- What comes of a run of the program (own rules).
use Rattle.std.specs.Prelude.{IsTrue, ◌≡◌, ◌⊎◌, ◌↔◌, ◌||◌, ◌&&◌, ◌++◌, length, ℕ, List, [], nat_lt, Bool, true, false, Option, None, Some, option_map, Ok, Err, if◌then◌else◌, codes, map, string_bytes}
use Rattle.std.specs.Io.KnownBytes.{Appends, Keeps}
use Rattle.il_syntax.specs.declared.tree.Place.{Place}
use Rattle.cli_host.specs.declared.files.ReadFault.{ReadFault}
use Rattle.cli_host.specs.declared.files.ReadFault.TheVariants as failure
use Rattle.cli_host.specs.declared.files.Reading.{Reading}
use Rattle.cli_host.specs.declared.files.Reading.TheVariants.{Text, Failed}
use Rattle.cli_host.specs.declared.request.Flags.{Flags}
use Rattle.cli_host.specs.declared.request.Plain.{Plain}
use Rattle.cli_host.specs.declared.request.Request.{Request}
use Rattle.cli_host.specs.declared.request.Request.TheVariants as request
use Rattle.cli_host.specs.declared.request.Rounds.{Rounds}
use Rattle.cli_host.specs.declared.request.Simulating.TheVariants as simulating
use Rattle.cli_host.specs.declared.sink.Sink.{Ghosts as Sink}
use Rattle.cli_host.specs.declared.status.Fault.{Fault}
use Rattle.cli_host.specs.declared.status.Fault.TheVariants as fault
use Rattle.cli_host.specs.declared.status.Status.{Status}
use Rattle.cli_host.specs.declared.status.Status.TheVariants as status
use Rattle.cli_host.specs.Messages.{fault_of_reading, message_of, status_of, text_of, cause_sentence, scan_sentence}
use Rattle.cli_host.specs.Requests.{Asks, BeginsWithDigit, name_of, with_flags}
use Rattle.cli_help.specs.Helps.{ask_for_help}
use Rattle.show_refusal.specs.Refusals.{IsRefusalLine}
use Rattle.cli_messages.specs.declared.output.Output.{Output}
use Rattle.cli_messages.specs.Outputs.{Outcome, Warns, bytes_of, warnings_of}
use Rattle.cli_host.specs.Writes.{AppendsFront, Writes}
use Rattle.cli_messages.specs.Notices.{word_notice, file_notice, plain_notice}
use Rattle.cli_messages.specs.Places.{IsShownBelow, IsTextShownBelow}
use Rattle.cli_shell.specs.Cuts.{completed}
use Rattle.cli_shell.specs.declared.commands.OtherFault.{OtherFault}
use Rattle.cli_shell.specs.Also.{AreAlsoTold}

-- the bytes of a file that are read: one more than a text may have
abbrev pub most_bytes : ℕ
most_bytes = 262145

-- the bytes of a trace that are read: one more than a trace may have
abbrev pub most_trace_bytes : ℕ
most_trace_bytes = 67108865

-- the bytes of the file of `--calls` that are read: one more than it may have
abbrev pub most_calls_bytes : ℕ
most_calls_bytes = 4000001

-- `RUN`

-- whether a request is `run`
abbrev pub runs : Request → Bool
runs (request.Check checked) = false
runs (request.Show command shown) = false
runs (request.Rounds simulating.Sim rounds) = false
runs (request.Rounds simulating.Run rounds) = true
runs (request.Rounds simulating.Denials rounds) = false
runs (request.Rounds simulating.Watch rounds) = false
runs (request.Trace command traced) = false

-- words ask for `run`
abbrev pub AskForRun : List (List ℕ) → Type 0
AskForRun words = (rounds : Rounds) × Asks words (request.Rounds simulating.Run rounds)

-- the request of words as they are read, which is `run`
pub record IsForRun (plain : Plain) (request : Request) : Type 0 where
  pub asked : Request
  pub asks : Asks (map string_bytes plain.words.items) asked
  pub flagged : request ≡ with_flags plain.flags asked
  pub is_run : runs request ≡ true

-- BELOW A FAULT

-- the name of a request's other file: a trace, or the file of `--calls`
abbrev pub other_of : Request → Option (List ℕ)
other_of (request.Check checked) = None
other_of (request.Show command shown) = None
other_of (request.Rounds command rounds) = option_map (λ calls. calls.now) rounds.calls
other_of (request.Trace command traced) = Some traced.trace.now

-- the other file and what was read of it; FILE and its text, where there is none
abbrev pub other_in : List ℕ → List ℕ → Reading → Option (List ℕ) → List ℕ × List ℕ
other_in file text read None = (file, text)
other_in file text read (Some other) = (other, text_of read)

-- a request's other file, and what was read of it
abbrev pub other_source : Request → List ℕ → Reading → List ℕ × List ℕ
other_source request text read = other_in (name_of request) text read (other_of request)

-- a file's name, or that of another where there is one
abbrev pub name_in : List ℕ → Option (List ℕ) → List ℕ
name_in file None = file
name_in file (Some other) = other

-- the name of a request's other file; that of FILE, where it has none
abbrev pub other_name : Request → List ℕ
other_name request = name_in (name_of request) (other_of request)

-- a word of `watch` that follows a press and begins with no digit, as a name does
abbrev pub IsLateName : Request → List ℕ → Type 0
IsLateName (request.Check checked) word = ⊥
IsLateName (request.Show command shown) word = ⊥
IsLateName (request.Rounds simulating.Sim rounds) word = ⊥
IsLateName (request.Rounds simulating.Run rounds) word = ⊥
IsLateName (request.Rounds simulating.Denials rounds) word = ⊥
IsLateName (request.Rounds simulating.Watch rounds) word = BeginsWithDigit word → ⊥
IsLateName (request.Trace command traced) word = ⊥

-- what is wrong with a word that is no press
abbrev pub press_sentence : Bool → List ℕ
press_sentence true = codes "the names of `watch` come before the presses"
press_sentence false = codes "no press: ROUND:FROM:TO or ROUND:FROM:TO:PANEL, a round of the run, two floors of the group, a panel from 1 to 4"

abbrev pub fire_sentence : List ℕ
fire_sentence = codes "no round of the run"

abbrev pub span_sentence : List ℕ
span_sentence = codes "no rounds: A:B, A: or :B, a first and a last round from 1 to 65535"

abbrev pub too_many_sentence : List ℕ
too_many_sentence = codes "there are more than 1000 presses"

-- whether a request asks for JSON
abbrev pub asks_json : Request → Bool
asks_json (request.Check checked) = checked.json
asks_json (request.Show command shown) = shown.json
asks_json (request.Rounds command rounds) = rounds.json
asks_json (request.Trace command traced) = traced.json

-- whether a fault is the refusal of FILE
abbrev pub is_of_text : Fault → Bool
is_of_text (fault.Misuse said) = false
is_of_text (fault.RefusedText number place) = true
is_of_text (fault.Refused number line) = false
is_of_text (fault.BadPress word) = false
is_of_text fault.TooManyPresses = false
is_of_text (fault.BadFire word) = false
is_of_text (fault.BadSpan word) = false
is_of_text (fault.BadScan why word) = false
is_of_text (fault.BadName name says) = false
is_of_text (fault.CannotRead cause) = false
is_of_text fault.CannotWrite = false
is_of_text fault.NoMemory = false

-- whether a request asks for the first fault of each unit
abbrev pub asks_all : Request → Bool
asks_all (request.Check checked) = checked.all
asks_all (request.Show command shown) = false
asks_all (request.Rounds command rounds) = false
asks_all (request.Trace command traced) = false

-- whether something is wanted below a fault: where faults are to be explained, and with `--json` and with `--all` below each refusal of FILE
abbrev pub wants : Bool → Request → Fault → Bool
wants wanted request f = wanted || ((asks_json request || asks_all request) && is_of_text f)

-- whether faults of FILE are explained: where faults are to be, and with `--json`
abbrev pub explains_text : Bool → Request → Bool
explains_text wanted request = wanted || asks_json request

-- below a refusal of FILE: JSON, where that is asked for
abbrev pub IsTextBelow : Bool → List ℕ → List ℕ → ℕ → Place → List ℕ → List ℕ → Type 0
IsTextBelow true name text number place reason below = IsRefusalLine name text number place reason below
IsTextBelow false name text number place reason below = IsTextShownBelow name text number place reason below

-- what is reported of a fault of FILE, where faults are explained
abbrev pub IsTextTold : (List ℕ → ℕ → Place → List ℕ → Type 0) → Bool → Request → List ℕ → ℕ → Place → List ℕ → Type 0
IsTextTold reasons false request text number place told = told ≡ []
IsTextTold reasons true request text number place told = (reason : List ℕ) × reasons text number place reason × IsTextBelow (asks_json request) (name_of request) text number place reason told

-- the first faults of the other units, where those are asked for, each with what is reported of it
abbrev pub AreOthersTold : (List ℕ → ℕ → Place → List OtherFault → Type 0) → (ℕ → Place → List ℕ → Type 0) → Bool → List ℕ → ℕ → Place → List ℕ → Type 0
AreOthersTold others IsTold false text number place told = told ≡ []
AreOthersTold others IsTold true text number place told = (faults : List OtherFault) × others text number place faults × AreAlsoTold IsTold faults told

-- below a refusal of FILE what is reported of it, and then the first faults of the other units
pub record IsRefusedBelow (reasons : List ℕ → ℕ → Place → List ℕ → Type 0) (others : List ℕ → ℕ → Place → List OtherFault → Type 0) (explained : Bool) (request : Request) (text : List ℕ) (number : ℕ) (place : Place) (below : List ℕ) : Type 0 where
  pub own : List ℕ
  pub also : List ℕ
  pub told : IsTextTold reasons explained request text number place own
  pub others_told : AreOthersTold others (IsTextTold reasons explained request text) (asks_all request) text number place also
  pub are : below ≡ own ++ also

-- What is below a fault: of a refusal its place, what the number means, its line as it was read, and of a text what is reported of it and of its other units; of the others the word or
-- the file and what is wrong with it.
abbrev pub IsFaultBelow : (List ℕ → ℕ → Place → List ℕ → Type 0) → (List ℕ → ℕ → Place → List OtherFault → Type 0) → Bool → Request → List ℕ → Reading → Fault → List ℕ → Type 0
IsFaultBelow reasons others wanted request text trace (fault.Misuse said) below = below ≡ []
IsFaultBelow reasons others wanted request text trace (fault.RefusedText number place) below = IsRefusedBelow reasons others (explains_text wanted request) request text number place below
IsFaultBelow reasons others wanted request text trace (fault.Refused number line) below = IsShownBelow (other_source request text trace).0 (other_source request text trace).1 number line below
IsFaultBelow reasons others wanted request text trace (fault.BadPress word) below = (late : Bool) × (IsTrue late ↔ IsLateName request (string_bytes word)) × (below ≡ word_notice (string_bytes word) (press_sentence late))
IsFaultBelow reasons others wanted request text trace fault.TooManyPresses below = below ≡ plain_notice too_many_sentence
IsFaultBelow reasons others wanted request text trace (fault.BadFire word) below = below ≡ word_notice (string_bytes word) fire_sentence
IsFaultBelow reasons others wanted request text trace (fault.BadSpan word) below = below ≡ word_notice (string_bytes word) span_sentence
IsFaultBelow reasons others wanted request text trace (fault.BadScan why word) below = below ≡ word_notice (string_bytes word) (scan_sentence why)
IsFaultBelow reasons others wanted request text trace (fault.BadName name says) below = below ≡ word_notice (string_bytes name) (string_bytes says)
IsFaultBelow reasons others wanted request text trace (fault.CannotRead cause) below = below ≡ file_notice (other_name request) (cause_sentence cause)
IsFaultBelow reasons others wanted request text trace fault.CannotWrite below = below ≡ []
IsFaultBelow reasons others wanted request text trace fault.NoMemory below = below ≡ []

-- A fault with what is below it: this, where it is wanted, and else nothing. Memory for it may be missing, and then that is reported alone.
pub data IsExplained (wanted : Bool) (Below : List ℕ → Type 0) (f told : Fault) (below : List ℕ) : Type 0 where
  unwanted : wanted ≡ false → told ≡ f → below ≡ [] → IsExplained wanted Below f told below
  explained : wanted ≡ true → told ≡ f → Below below → IsExplained wanted Below f told below
  no_memory : wanted ≡ true → told ≡ fault.NoMemory → below ≡ [] → IsExplained wanted Below f told below

-- an outcome with what is below it: nothing below an output
abbrev pub IsOutcomeExplained : (Fault → Bool) → (Fault → List ℕ → Type 0) → Outcome → Outcome → List ℕ → Type 0
IsOutcomeExplained wanted Below (Ok output) outcome below = (outcome ≡ Ok output) × (below ≡ [])
IsOutcomeExplained wanted Below (Err f) outcome below = (told : Fault) × (outcome ≡ Err told) × IsExplained (wanted f) (Below f) f told below

-- below a FILE that can't be read, its name and why
abbrev pub IsUnreadBelow : List ℕ → ReadFault → List ℕ → Type 0
IsUnreadBelow name (failure.CannotRead cause) below = below ≡ file_notice name (cause_sentence cause)
IsUnreadBelow name failure.NoMemory below = below ≡ []

-- OUTCOMES

-- Words that ask for no file give help, the version or what a number means, where they ask for that, or else what is wrong with them. Memory may
-- be missing.
abbrev pub IsWordsOutcome : List (List ℕ) → Outcome → Type 0
IsWordsOutcome words (Ok output) = (ask_for_help words ≡ true) × (warnings_of output ≡ None)
IsWordsOutcome words (Err (fault.Misuse text)) = Unit {0}
IsWordsOutcome words (Err fault.NoMemory) = Unit {0}
IsWordsOutcome words (Err _) = ⊥

-- What may be read of a trace: the text that its file gives, or of one that may be cut off what this is up to its last whole line. One over the limit stays
-- as it is, and is refused.
abbrev pub IsTraceText : (List ℕ → Type 0) → Bool → List ℕ → Type 0
IsTraceText reads cut text = (given : List ℕ) × reads given × (text ≡ (if cut && nat_lt (length given) most_trace_bytes then completed given else given))

-- why it may not be read; memory for the end of one that may be cut off may be missing
abbrev pub IsTraceFault : (ReadFault → Type 0) → Bool → ReadFault → Type 0
IsTraceFault fails cut why = fails why ⊎ ((cut ≡ true) × (why ≡ failure.NoMemory))

-- what may be read of the file of `--calls`, where one is named
abbrev pub IsCallsRead : (List ℕ → ℕ → List ℕ → Type 0) → (List ℕ → ℕ → ReadFault → Type 0) → Option (List ℕ) → Reading → Type 0
IsCallsRead reads fails None read = Unit {0}
IsCallsRead reads fails (Some name) (Text text) = reads name most_calls_bytes text.items
IsCallsRead reads fails (Some name) (Failed why) = fails name most_calls_bytes why

-- what may be read of a request's other file: a trace, or the file of `--calls`
abbrev pub IsOtherRead : (List ℕ → ℕ → List ℕ → Type 0) → (List ℕ → ℕ → ReadFault → Type 0) → Request → Reading → Type 0
IsOtherRead reads fails (request.Check checked) trace = Unit {0}
IsOtherRead reads fails (request.Show command shown) trace = Unit {0}
IsOtherRead reads fails (request.Rounds command rounds) trace = IsCallsRead reads fails (option_map (λ calls. calls.now) rounds.calls) trace
IsOtherRead reads fails (request.Trace command traced) (Text text) = IsTraceText (reads traced.trace.now most_trace_bytes) traced.cut text.items
IsOtherRead reads fails (request.Trace command traced) (Failed why) = IsTraceFault (fails traced.trace.now most_trace_bytes) traced.cut why

-- A request has the outcome that its command gives of the text of its file and of its other file, each read once; what is below its fault is
-- of these readings. The file may have no text.
pub data IsFileAnswer (reads : List ℕ → ℕ → List ℕ → Type 0) (fails : List ℕ → ℕ → ReadFault → Type 0) (gives : Request → List ℕ → Reading → Outcome → Type 0) (reasons : List ℕ → ℕ → Place → List ℕ → Type 0) (others : List ℕ → ℕ → Place → List OtherFault → Type 0) (wanted : Bool) (request : Request) (outcome : Outcome) (below : List ℕ) : Type 0 where
  unread : (why : ReadFault) → fails (name_of request) most_bytes why → IsOutcomeExplained (λ _. wanted) (λ _. IsUnreadBelow (name_of request) why) (Err (fault_of_reading why)) outcome below → IsFileAnswer reads fails gives reasons others wanted request outcome below
  read : (text : List ℕ) → reads (name_of request) most_bytes text → (trace : Reading) → IsOtherRead reads fails request trace → (given : Outcome) → gives request text trace given
      → IsOutcomeExplained (wants wanted request) (IsFaultBelow reasons others wanted request text trace) given outcome below → IsFileAnswer reads fails gives reasons others wanted request outcome below

-- Words have the answer of their request, where they ask for one.
pub data IsAnswer (reads : List ℕ → ℕ → List ℕ → Type 0) (fails : List ℕ → ℕ → ReadFault → Type 0) (gives : Request → List ℕ → Reading → Outcome → Type 0) (reasons : List ℕ → ℕ → Place → List ℕ → Type 0) (others : List ℕ → ℕ → Place → List OtherFault → Type 0) (wanted : Bool) (words : List (List ℕ)) (flags : Flags) (outcome : Outcome) (below : List ℕ) : Type 0 where
  unasked : ((request : Request) → Asks words request → ⊥) → IsWordsOutcome words outcome → below ≡ [] → IsAnswer reads fails gives reasons others wanted words flags outcome below
  asked : (request : Request) → Asks words request → IsFileAnswer reads fails gives reasons others wanted (with_flags flags request) outcome below → IsAnswer reads fails gives reasons others wanted words flags outcome below

-- Words as they are read have that answer, explained where `--explain` was among them, or always.
abbrev pub IsAnswerOf : (List ℕ → ℕ → List ℕ → Type 0) → (List ℕ → ℕ → ReadFault → Type 0) → (Request → List ℕ → Reading → Outcome → Type 0) → (List ℕ → ℕ → Place → List ℕ → Type 0) → (List ℕ → ℕ → Place → List OtherFault → Type 0) → Bool → Plain → Outcome → List ℕ → Type 0
IsAnswerOf reads fails gives reasons others always plain = IsAnswer reads fails gives reasons others (always || plain.explains) (map string_bytes plain.words.items) plain.flags

-- an output of these answers was written
abbrev pub HasWritten : (Outcome → List ℕ → Type 0) → (List ℕ → Type 0) → Type 0
HasWritten Of Writes = (output : Output) × (below : List ℕ) × Of (Ok output) below × Writes (bytes_of output)

-- the same, and its warnings
abbrev pub HasShown : (Outcome → List ℕ → Type 0) → (List ℕ → Type 0) → (Output → Type 0) → Type 0
HasShown Of Writes Warns = (output : Output) × (below : List ℕ) × Of (Ok output) below × Writes (bytes_of output) × Warns output

-- a fault of these answers ends with this status, and its message was written, with what is below it; or that of a standard output that
-- failed, with nothing below
abbrev pub HasTold : (Outcome → List ℕ → Type 0) → Bool → Status → (List ℕ → Type 0) → Type 0
HasTold Of has_failed status Writes =
    (f : Fault) × (below : List ℕ) × (Of (Err f) below ⊎ ((f ≡ fault.CannotWrite) × (has_failed ≡ true) × (below ≡ []))) × (status_of f ≡ status) × Writes (message_of f ++ below)

-- what a stream held and holds, where that is known, and whether it has failed
pub record Held : Type 0 where
  pub before : Option (List ℕ)
  pub after : Option (List ℕ)
  pub failed : Bool

abbrev pub stream : Option (List ℕ) → Option (List ℕ) → Bool → Held
stream before after failed = record { before = before; after = after; failed = failed }

-- that of a sink
abbrev pub written : {X : Type 0} → Sink X → X → X → Held
written sink old new = stream (sink.contents old) (sink.contents new) (sink.has_failed new)

-- Where it is done, the standard output has the output of one of these answers, and the standard error its warnings, if it may have some. Otherwise
-- the standard error has the one message of the answer's fault, or of a standard output that failed, and below it what is there. Unless the
-- standard output failed, nothing was then written to it; where it failed, it has a front of the output.
pub record HasPrinted (Of : Outcome → List ℕ → Type 0) (out err : Held) (ends : Status) : Type 0 where
  pub done : ends ≡ status.Done → HasShown Of (Appends out.before out.after) (λ output. Warns output err.before err.after err.failed)
  pub told : (ends ≡ status.Done) ⊎ HasTold Of out.failed ends (Writes err.before err.after err.failed)
  pub nothing : (ends ≡ status.Done) ⊎ (((ends ≡ status.CannotWrite) × (out.failed ≡ true)) ⊎ Keeps out.before out.after)
  pub front : ends ≡ status.CannotWrite → HasWritten Of (AppendsFront out.before out.after)
