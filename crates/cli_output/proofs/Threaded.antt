-- What `run` gives, by its parts.
use Rattle.std.proofs.Common.{◌≡◌, List, Ok, Err, sym, subst}
use Rattle.std.specs.Prelude.{IfOk, IfErr}
use Rattle.scan_task.specs.Scanning.{Program}
use Rattle.threads_desk.specs.Passes.{Left}
use Rattle.cli_host.specs.declared.files.Reading.{Reading}
use Rattle.cli_host.specs.declared.press.Press.{Press}
use Rattle.cli_host.specs.declared.press.Setting.{Setting}
use Rattle.cli_host.specs.declared.request.Rounds.{Rounds}
use Rattle.cli_host.specs.declared.status.Fault.TheVariants.{NoMemory}
use Rattle.cli_messages.specs.Outputs.{Outcome, bytes_of, warnings_of}
use Rattle.cli_output.specs.Outcomes.{AreDriven, IsRunOutcome, IsUndriven, told_left}
use Rattle.group_rounds.specs.Driven.{switches_in}
use Rattle.group_spec.specs.declared.journal.Entry.{Entry}
use Rattle.group_spec.specs.Image.{sizes_of}
use Rattle.trace_text.specs.Written.{text_of_entries}
use Rattle.threads_workers.specs.Ran.{IsRun}

pub run_is : (program : Program) (asked : Rounds) (calls : Reading) (presses : List Press) (settings : List Setting) → AreDriven (sizes_of program.config) asked calls presses settings
    → (entries : List Entry) (left : Left) → IsRun program.config (switches_in (sizes_of program.config).cars settings) asked.rounds presses entries left
    → (outcome : Outcome) → IfOk outcome (λ output. bytes_of output ≡ text_of_entries entries) → IfOk outcome (λ output. warnings_of output ≡ told_left asked.left left) → IfErr outcome (λ why. why ≡ NoMemory)
    → IsRunOutcome program asked calls outcome
run_is program asked calls presses settings driven entries left ran (Ok output) trace said memory = record { presses = presses; settings = settings; driven = driven; entries = entries; left = left; ran = ran; trace = trace; said = said }
run_is program asked calls presses settings driven entries left ran (Err why) trace said memory = subst (IsUndriven (sizes_of program.config) asked calls) (sym memory) tt
