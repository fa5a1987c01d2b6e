-- What parts of a request's outcome are; no public contract but these crate's own functions names them (own rules).
use Rattle.std.specs.Prelude.{◌≡◌, ◌⊎◌, ℕ, ◌+◌, ◌++◌, Bool, List, None, Ok, Err, string_bytes}
use Rattle.scan_task.specs.Scanning.{Program}
use Rattle.il_syntax.specs.declared.tree.Config.{Config}
use Rattle.cli_host.specs.declared.press.Press.{Press}
use Rattle.cli_host.specs.declared.press.Setting.{Setting}
use Rattle.group_rounds.specs.Shown.{IsShown}
use Rattle.group_spec.specs.declared.journal.Entry.{Entry}
use Rattle.show_values.specs.declared.names.Watched.{Watched}
use Rattle.show_values.specs.Changes.{shown_text}
use Rattle.show_values.specs.Values.{AreWatched, IsUnknown, header_text, watching}
use Rattle.cli_host.specs.declared.status.Fault.{Fault}
use Rattle.cli_host.specs.declared.status.Fault.TheVariants as fault
use Rattle.group_journal.specs.Rounds.{TakesAll, IsRefusedAt}
use Rattle.cli_output.specs.Outcomes.{Says, HasGoodWords, HaveValues, IsBadSpan, IsBadName, IsTextOfValues}
use Rattle.cli_host.specs.declared.request.Traced.{Traced}
use Rattle.show_scan.specs.declared.chosen.Asked.{Asked}
use Rattle.show_scan.specs.Chosen.{chosen}
use Rattle.show_scan.specs.Shown.{IsScanShown, IsRefusedInFront}
use Rattle.cli_output.specs.Scans.{IsUncommittedBy}
use Rattle.cli_output.specs.Traces.{IsLineRefused}
use Rattle.cli_output.specs.declared.telling.Telling.{Telling}
use Rattle.cli_messages.specs.Outputs.{Outcome, bytes_of}
use Rattle.group_spec.specs.declared.event.EventFault.{EventFault}
use Rattle.group_spec.specs.declared.trace.TraceEvent.{TraceEvent}
use Rattle.group_spec.specs.EventFaults.{event_fault_number}
use Rattle.group_spec.specs.World.{World, opening}
use Rattle.cli_host.specs.declared.calls.CallsFault.{CallsFault}
use Rattle.cli_host.specs.declared.calls.CallsFault.TheVariants as calls
use Rattle.cli_host.specs.CallsFile.{IsCallsFault}
use Rattle.group_spec.specs.declared.image.Sizes.{Sizes}

-- the fault of a file of presses and settings
abbrev pub fault_of_calls : CallsFault → Fault
fault_of_calls (calls.BadLine line) = fault.Refused 83 line
fault_of_calls (calls.TooMany line) = fault.Refused 84 line
fault_of_calls calls.Memory = fault.NoMemory

-- a text has no presses and settings
abbrev pub IsBadText : Sizes → ℕ → List ℕ → Fault → Type 0
IsBadText sizes rounds text (fault.Refused number line) =
    ((number ≡ 83) × IsCallsFault rounds sizes.floors sizes.cars text (calls.BadLine line)) ⊎ ((number ≡ 84) × IsCallsFault rounds sizes.floors sizes.cars text (calls.TooMany line))
IsBadText sizes rounds text fault.NoMemory = Unit {0}
IsBadText sizes rounds text _ = ⊥

-- a text is no whole trace of a program, whose text is `source`
abbrev pub IsTraceUnread : Program → List ℕ → List ℕ → Fault → Type 0
IsTraceUnread program source trace (fault.Refused number line) = IsLineRefused program source trace number line
IsTraceUnread program source trace fault.NoMemory = Unit {0}
IsTraceUnread program source trace _ = ⊥

-- events are followed from a world on; so many lines come before the first
abbrev pub AreFollowed : Telling → Program → World → List TraceEvent → ℕ → Outcome → Type 0
AreFollowed telling program from events lines (Ok output) = (after : World) × TakesAll program.config from events after × Says telling program from events after (bytes_of output)
AreFollowed telling program from events lines (Err (fault.Refused number line)) = HasGoodWords telling program from × (index : ℕ) × (why : EventFault) × IsRefusedAt program.config from events index why × (number ≡ event_fault_number why) × (line ≡ lines + 1 + index)
AreFollowed telling program from events lines (Err (fault.BadSpan word)) = IsBadSpan telling (fault.BadSpan word)
AreFollowed telling program from events lines (Err (fault.BadName word says)) = IsBadName telling program from (string_bytes word) (string_bytes says)
AreFollowed telling program from events lines (Err fault.NoMemory) = Unit {0}
AreFollowed telling program from events lines (Err _) = ⊥

-- a scan of events is shown, from a world on; so many lines come before the first
abbrev pub AreScanned : Traced → Program → Asked → List ℕ → World → List TraceEvent → ℕ → Outcome → Type 0
AreScanned traced program asked source from events lines (Ok output) = IsScanShown program.config from asked events source (bytes_of output)
AreScanned traced program asked source from events lines (Err (fault.Refused number line)) = (index : ℕ) × (why : EventFault) × IsRefusedInFront program.config from asked events index why × (number ≡ event_fault_number why) × (line ≡ lines + 1 + index)
AreScanned traced program asked source from events lines (Err (fault.BadScan why word)) = (chosen asked events ≡ None) × IsUncommittedBy traced why (string_bytes word)
AreScanned traced program asked source from events lines (Err fault.NoMemory) = Unit {0}
AreScanned traced program asked source from events lines (Err _) = ⊥

-- the values of names along events are reported from a world on, or one of the names has no value; so many lines come before the first event
abbrev pub AreValued : List (List ℕ) → Bool → Program → World → List TraceEvent → ℕ → Outcome → Type 0
AreValued names changes program from events lines (Ok output) = (after : World) × TakesAll program.config from events after × IsTextOfValues program.config names changes from events after (bytes_of output)
AreValued names changes program from events lines (Err (fault.Refused number line)) = HaveValues from names × (index : ℕ) × (why : EventFault) × IsRefusedAt program.config from events index why × (number ≡ event_fault_number why) × (line ≡ lines + 1 + index)
AreValued names changes program from events lines (Err (fault.BadName word says)) = IsUnknown program.config from names (string_bytes word) (string_bytes says)
AreValued names changes program from events lines (Err fault.NoMemory) = Unit {0}
AreValued names changes program from events lines (Err _) = ⊥

-- lines of values are printed, all of them or with `--changes` those that change
abbrev pub IsShownText : Bool → List ℕ → Outcome → Type 0
IsShownText changes text (Ok output) = bytes_of output ≡ shown_text changes text
IsShownText changes text (Err fault.NoMemory) = Unit {0}
IsShownText changes text (Err _) = ⊥

-- names are watched in so many rounds from the opening, with `--changes` or without, or one of them has no value
abbrev pub IsWatched : Config → List (List ℕ) → List Press → List Setting → ℕ → Bool → Outcome → Type 0
IsWatched c names presses settings rounds changes (Ok output) =
    (watched : List Watched) × AreWatched (opening c) names watched × (entries : List Entry) × (rows : List ℕ) × IsShown (watching watched) c presses settings rounds entries rows × (bytes_of output ≡ shown_text changes (header_text names ++ rows))
IsWatched c names presses settings rounds changes (Err (fault.BadName word says)) = IsUnknown c (opening c) names (string_bytes word) (string_bytes says)
IsWatched c names presses settings rounds changes (Err fault.NoMemory) = Unit {0}
IsWatched c names presses settings rounds changes (Err _) = ⊥
