-- What a request gives of a text (own rules).
use Rattle.std.specs.Prelude.{◌≡◌, ◌⊎◌, ℕ, List, None, Ok, Err}
use Rattle.base_json.specs.Forms.{form_of}
use Rattle.il_syntax.specs.declared.fault.Refusal.{Refusal}
use Rattle.il_syntax.specs.declared.tree.Config.{Config}
use Rattle.show_names.specs.RangeTexts.{AreRangesIn}
use Rattle.show_names.specs.Sources.{shown_source}
use Rattle.scan_task.specs.Scanning.{Program}
use Rattle.cli_host.specs.declared.files.Reading.{Reading}
use Rattle.cli_host.specs.declared.request.Request.{Request}
use Rattle.cli_host.specs.declared.request.Request.TheVariants as request
use Rattle.cli_host.specs.declared.request.Showing.TheVariants as showing
use Rattle.cli_host.specs.declared.request.Shown.{Shown}
use Rattle.cli_host.specs.declared.status.Fault.TheVariants as fault
use Rattle.cli_host.specs.Messages.{fault_of}
use Rattle.load_text.specs.Loading.{IsSpelled, IsUnbroken}
use Rattle.cli_messages.specs.Outputs.{Outcome, bytes_of, warnings_of}
use Rattle.cli_output.specs.Outcomes.{IsProgramOutcome, AreWarned}
use Rattle.cli_command.specs.Loaded.{IsLoaded}

-- `ranges` shows something of a refused text as well, where that spells a configuration whose declarations, types and order are unbroken,
-- in the form that is asked for, and with the texts of instructions where they are. Memory may be missing.
abbrev pub IsKnown : Shown → List ℕ → Refusal → Outcome → Type 0
IsKnown asked text why (Ok output) = (c : Config) × IsSpelled text c × IsUnbroken c × AreRangesIn (form_of asked.json) (shown_source asked.text text) c (bytes_of output) × (warnings_of output ≡ None)
IsKnown asked text why (Err f) = (f ≡ fault.NoMemory) ⊎ ((f ≡ fault_of why) × ((c : Config) → IsSpelled text c → IsUnbroken c → ⊥))

-- Of a refused text all other requests report the fault.
abbrev pub IsRefusedOutcome : Request → List ℕ → Refusal → Outcome → Type 0
IsRefusedOutcome (request.Show showing.Ranges shown) text why outcome = IsKnown shown text why outcome
IsRefusedOutcome (request.Show showing.Xref shown) text why outcome = outcome ≡ Err (fault_of why)
IsRefusedOutcome (request.Check checked) text why outcome = outcome ≡ Err (fault_of why)
IsRefusedOutcome (request.Rounds command asked) text why outcome = outcome ≡ Err (fault_of why)
IsRefusedOutcome (request.Trace command traced) text why outcome = outcome ≡ Err (fault_of why)

-- The text is refused with the fault that the verifier names, or the request is carried out over what it has verified. With `--json` each row that is printed is an object.
pub data IsTextOutcome (request : Request) (text : List ℕ) (trace : Reading) (outcome : Outcome) : Type 0 where
  refused : (why : Refusal) → IsLoaded text (Err why) → IsRefusedOutcome request text why outcome → IsTextOutcome request text trace outcome
  accepted : (program : Program) → IsLoaded text (Ok program) → IsProgramOutcome request program text trace outcome → AreWarned request program outcome → IsTextOutcome request text trace outcome
