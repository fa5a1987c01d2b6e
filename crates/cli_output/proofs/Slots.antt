-- How many slots a task uses.
use Rattle.std.proofs.Common.{◌≡◌, ℕ, [], Option, Some, None, false, length, refl, sym, ap, ◌∙◌}
use Rattle.std.specs.Prelude.{is_some, Result, Ok, Err, OnOk}
use Rattle.base_json.specs.declared.form.Form.{Form}
use Rattle.il_syntax.specs.declared.tree.Config.{Config}
use Rattle.il_syntax.specs.declared.tree.Unit.{Unit as ProgramUnit}
use Rattle.load_slots.specs.Layout.{Rows}
use Rattle.load_slots.specs.Program.{own_cells}
use Rattle.scan_task.specs.Scanning.{FitsOwn}
use Rattle.group_spec.specs.Snapshot.{has_task, program_of}
use Rattle.cli_output.specs.Limits.{slots_row, slots_of_unit, task_slots}

pub on_ok : {A E P Q : Type 0} (r : Result A E) → (P → Q) → OnOk r P → OnOk r Q
on_ok (Ok x) f is = f is
on_ok (Err e) f is = tt

-- a task that isn't there has no line
no_line : (form : Form) (c : Config) (o : Option ProgramUnit) (task : ℕ) → is_some o ≡ false → slots_of_unit form c o task ≡ []
unfolding slots_of_unit
no_line form c None task none = refl
no_line form c (Some u) task none = cc

pub no_slots : (form : Form) (c : Config) (task : ℕ) → has_task c task ≡ false → task_slots form c task ≡ []
no_slots form c task none = no_line form c (program_of c task) task none

-- another has one of its opening rows
line_of : (form : Form) (c : Config) (u : ProgramUnit) (task n : ℕ) → n ≡ length (own_cells c u) → slots_of_unit form c (Some u) task ≡ slots_row form task n
unfolding slots_of_unit
line_of form c u task n is = ap (slots_row form task) (sym is)

pub slots_of : (form : Form) (c : Config) (task : ℕ) (r : Rows) → FitsOwn c task r → task_slots form c task ≡ slots_row form task (length r.numbers)
slots_of form c task r fits = ap (λ (o : Option ProgramUnit). slots_of_unit form c o task) fits.1.program ∙ line_of form c fits.0 task (length r.numbers) fits.2.numbers
