-- What the program says of a fault, and how it then ends (own rules).
use Rattle.std.specs.Prelude.{ℕ, List, [], ◌++◌, codes, decimal, string_bytes}
use Rattle.std.specs.declared.io.ErrorKind.{ErrorKind}
use Rattle.std.specs.declared.io.ErrorKind.TheVariants.{OutOfMemory, NotFound, IsADirectory, PermissionDenied}
use Rattle.il_syntax.specs.declared.fault.Refusal.{Refusal}
use Rattle.il_syntax.specs.declared.fault.Refusal.TheVariants as refusal
use Rattle.cli_host.specs.declared.files.ReadFault.{ReadFault}
use Rattle.cli_host.specs.declared.files.ReadFault.TheVariants as read
use Rattle.cli_host.specs.declared.files.Cause.{Cause}
use Rattle.cli_host.specs.declared.files.Cause.TheVariants.{Missing, Folder, Denied, Other}
use Rattle.cli_host.specs.declared.files.Reading.{Reading}
use Rattle.cli_host.specs.declared.files.Reading.TheVariants.{Text, Failed}
use Rattle.cli_host.specs.declared.press.PressFault.{PressFault}
use Rattle.cli_host.specs.declared.press.PressFault.TheVariants as press
use Rattle.cli_host.specs.declared.status.Status.{Status}
use Rattle.cli_host.specs.declared.status.Status.TheVariants as status
use Rattle.cli_host.specs.declared.status.ScanFault.{ScanFault}
use Rattle.cli_host.specs.declared.status.ScanFault.TheVariants.{Task, Unit as NoUnit, Round, Line, Uncommitted, UncommittedInRound}
use Rattle.cli_host.specs.declared.status.LineFault.{LineFault}
use Rattle.cli_host.specs.declared.status.LineFault.TheVariants.{OutOfRange, Full, BadLine, Truncated, BadCall, TooManyCalls}
use Rattle.cli_host.specs.declared.status.Fault.{Fault}
use Rattle.cli_host.specs.declared.status.Fault.TheVariants.{Misuse, RefusedText, Refused, BadPress, TooManyPresses, BadFire, BadSpan, BadScan, BadName, CannotRead, CannotWrite, NoMemory}

-- the exit status
abbrev pub code_of : Status → ℕ
code_of status.Done = 0
code_of status.Refused = 2
code_of status.CannotRead = 3
code_of status.CannotWrite = 3
code_of status.NoMemory = 4

-- the number of a line's fault
abbrev pub line_fault_number : LineFault → ℕ
line_fault_number OutOfRange = 60
line_fault_number Full = 70
line_fault_number BadLine = 80
line_fault_number Truncated = 81
line_fault_number BadCall = 83
line_fault_number TooManyCalls = 84

-- the status of a fault
abbrev pub status_of : Fault → Status
status_of (Misuse text) = status.Refused
status_of (RefusedText number place) = status.Refused
status_of (Refused number line) = status.Refused
status_of (BadPress word) = status.Refused
status_of TooManyPresses = status.Refused
status_of (BadFire word) = status.Refused
status_of (BadSpan word) = status.Refused
status_of (BadScan why word) = status.Refused
status_of (BadName name says) = status.Refused
status_of (CannotRead cause) = status.CannotRead
status_of CannotWrite = status.CannotWrite
status_of NoMemory = status.NoMemory

-- a number and a line
abbrev pub refusal_line : ℕ → ℕ → List ℕ
refusal_line number line = codes "refused " ++ (decimal number ++ (codes " at line " ++ (decimal line ++ codes "\n")))

-- the one line that the standard error shows, or what the parser of the words says
abbrev pub message_of : Fault → List ℕ
message_of (Misuse text) = string_bytes text
message_of (RefusedText number place) = refusal_line number place.line
message_of (Refused number line) = refusal_line number line
message_of (BadPress word) = codes "bad press\n"
message_of TooManyPresses = codes "bad press\n"
message_of (BadFire word) = codes "bad fire\n"
message_of (BadSpan word) = codes "bad rounds\n"
message_of (BadScan why word) = codes "bad scan\n"
message_of (BadName name says) = codes "bad name\n"
message_of (CannotRead cause) = codes "cannot read\n"
message_of CannotWrite = codes "cannot write\n"
message_of NoMemory = codes "no memory\n"

-- the fault of a refusal of a text
abbrev pub fault_of : Refusal → Fault
fault_of (refusal.Fault number place) = RefusedText number place
fault_of refusal.Memory = NoMemory

-- why a file can't be read
abbrev pub cause_sentence : Cause → List ℕ
cause_sentence Missing = codes "no file has this name"
cause_sentence Folder = codes "this is a folder"
cause_sentence Denied = codes "the file may not be read"
cause_sentence Other = codes "the file can't be read"

-- why there is no scan
abbrev pub scan_sentence : ScanFault → List ℕ
scan_sentence Task = codes "the group has no such task"
scan_sentence NoUnit = codes "the text has no such unit"
scan_sentence Round = codes "no round: a number from 1 to 65535"
scan_sentence Line = codes "no lines: LINE, FROM:LINE or FROM:, numbers from 1 to 65535"
scan_sentence Uncommitted = codes "the trace commits no scan of this task"
scan_sentence UncommittedInRound = codes "the trace commits no scan of the task in this round"

-- the fault of an error of the system
abbrev pub fault_of_kind : ErrorKind → ReadFault
fault_of_kind OutOfMemory = read.NoMemory
fault_of_kind NotFound = read.CannotRead Missing
fault_of_kind IsADirectory = read.CannotRead Folder
fault_of_kind PermissionDenied = read.CannotRead Denied
fault_of_kind _ = read.CannotRead Other

-- the bytes that were read; none where that failed
abbrev pub text_of : Reading → List ℕ
text_of (Text text) = text.items
text_of (Failed why) = []

-- the fault of a file that can't be read
abbrev pub fault_of_reading : ReadFault → Fault
fault_of_reading (read.CannotRead cause) = CannotRead cause
fault_of_reading read.NoMemory = NoMemory

-- the fault of words that give no presses
abbrev pub fault_of_press : PressFault → Fault
fault_of_press (press.Bad word) = BadPress word
fault_of_press press.TooMany = TooManyPresses
fault_of_press press.NoMemory = NoMemory
