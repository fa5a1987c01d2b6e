-- What the program gives of its words (own rules).
use Rattle.std.specs.Prelude.{◌≡◌, ◌||◌, ℕ, Bool, false, List, [], Option, Some, None, if◌then◌else◌, map, string_bytes}
use Rattle.cli_host.specs.declared.files.ReadFault.{ReadFault}
use Rattle.cli_host.specs.declared.serving.Serving.{Serving}
use Rattle.cli_host.specs.declared.status.Fault.TheVariants.{NoMemory}
use Rattle.cli_host.specs.declared.status.Status.{Status}
use Rattle.cli_host.specs.declared.status.Status.TheVariants as with_status
use Rattle.cli_host.specs.Messages.{message_of}
use Rattle.cli_host.specs.declared.request.Flags.{Flags}
use Rattle.cli_host.specs.declared.request.Plain.{Plain}
use Rattle.cli_host.specs.Requests.{explains, flags_of, plain_words}
use Rattle.cli_host.specs.Servings.{Serves}
use Rattle.cli_shell.specs.Runs.{HasPrinted, Held, IsAnswer, stream}
use Rattle.cli_host.specs.declared.sink.Memory.{Memory}
use Rattle.cli_host.specs.Files.{unmade}
use Rattle.cli_host.specs.Writes.{Writes}
use Rattle.cli_command.specs.declared.memory_trace.MemoryTrace.{MemoryTrace}
use Rattle.cli_command.specs.declared.program.Outcome.{Outcome}
use Rattle.reasons_faults.specs.Reasons.{IsReason}
use Rattle.cli_command.specs.Others.{AreOthers}
use Rattle.cli_command.specs.Runs.{IsTextOutcome}
use Rattle.cli_command.specs.Servings.{Streams, streams, held_trace, IsUntouched, IsServeAnswer}

-- nothing is taken of the input, no trace is made, and nothing traced
pub record AreUntouched (s : Streams) : Type 0 where
  pub untaken : s.left ≡ s.input
  pub untraced : IsUntouched s.trace

-- memory for the words is missing: this is reported, and nothing else is written
pub record IsUnread (out err : Held) (ends : Status) : Type 0 where
  pub told : Writes err.before err.after err.failed (message_of NoMemory)
  pub nothing : out.after ≡ out.before
  pub status : ends ≡ with_status.NoMemory

-- what words as they are read have printed or reported, of whatever command but `serve`
abbrev pub HasAnswered : (List ℕ → ℕ → List ℕ → Type 0) → (List ℕ → ℕ → ReadFault → Type 0) → Bool → List (List ℕ) → Flags → Held → Held → Status → Type 0
HasAnswered reads fails wanted words flags = HasPrinted (IsAnswer reads fails IsTextOutcome IsReason AreOthers wanted words flags)

-- Words as they are read ask to serve, and the group was served; or they don't, and the input and the trace are untouched.
pub data IsPlainAnswer (reads : List ℕ → ℕ → List ℕ → Type 0) (fails : List ℕ → ℕ → ReadFault → Type 0) (wanted : Bool) (words : List (List ℕ)) (flags : Flags) (s : Streams) (ends : Status) : Type 0 where
  served : (serving : Serving) → Serves words serving → IsServeAnswer reads fails wanted serving s ends → IsPlainAnswer reads fails wanted words flags s ends
  printed : ((serving : Serving) → Serves words serving → ⊥) → HasAnswered reads fails wanted words flags s.out s.err ends → AreUntouched s → IsPlainAnswer reads fails wanted words flags s ends

-- the same by what was read of the words
abbrev pub IsAnswerToRead : (List ℕ → ℕ → List ℕ → Type 0) → (List ℕ → ℕ → ReadFault → Type 0) → Bool → Plain → Streams → Status → Type 0
IsAnswerToRead reads fails always words = IsPlainAnswer reads fails (always || words.explains) (map string_bytes words.words.items) words.flags

-- The words as they are read have that answer, explained where `--explain` is among them, or always. Memory for them may be missing.
pub data IsProgramAnswer (reads : List ℕ → ℕ → List ℕ → Type 0) (fails : List ℕ → ℕ → ReadFault → Type 0) (always : Bool) (words : List (List ℕ)) (s : Streams) (ends : Status) : Type 0 where
  unread : IsUnread s.out s.err ends → AreUntouched s → IsProgramAnswer reads fails always words s ends
  plain : IsPlainAnswer reads fails (always || explains words) (plain_words words) (flags_of words) s ends → IsProgramAnswer reads fails always words s ends

-- what the command `run` gives of its words
pub data IsRunAnswer (reads : List ℕ → ℕ → List ℕ → Type 0) (fails : List ℕ → ℕ → ReadFault → Type 0) (always : Bool) (words : List (List ℕ)) (out err : Held) (ends : Status) : Type 0 where
  unread_run : IsUnread out err ends → IsRunAnswer reads fails always words out err ends
  printed_run : HasAnswered reads fails (always || explains words) (plain_words words) (flags_of words) out err ends → IsRunAnswer reads fails always words out err ends

-- a sink in memory that was new
abbrev pub taken_by : Memory → Held
taken_by memory = stream (Some []) (Some memory.bytes.items) memory.failed

-- what a trace in memory that was not created before has, if it was created since
abbrev pub traced_by : MemoryTrace → Option (List ℕ)
traced_by trace = if trace.is_created then Some trace.bytes.items else None

-- what a run over sinks in memory has left is the answer of its words: of a standard input that has these bytes, and where no trace was created before
abbrev pub HasLeft : (List ℕ → ℕ → List ℕ → Type 0) → (List ℕ → ℕ → ReadFault → Type 0) → List (List ℕ) → List ℕ → Outcome → Type 0
HasLeft reads fails words input left = (rest : Option (List ℕ)) × IsProgramAnswer reads fails false words (streams (Some input) rest (taken_by left.out) (taken_by left.err) (held_trace None (traced_by left.trace) unmade (record { is = λ name sync. left.trace.is_created; ended = None; missed = None })) left.trace.failed) left.status
