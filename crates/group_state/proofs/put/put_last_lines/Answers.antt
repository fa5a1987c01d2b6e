use Rattle.std.proofs.Common.{◌≡◌, ◌++◌, ◌∷◌, [], suc, string_bytes}
use Rattle.group_spec.specs.Image.{sizes_of}
use Rattle.trace_text.specs.Text.{text_of_lines}
use Rattle.group_state.specs.Text.{tasks_lines, end_line}
use Rattle.group_state.specs.Writing.{PutsLines}
use Rattle.group_state.proofs.Puts.{both_lines}
use Rattle.group_state.proofs.Steps.{on_ok, pushed}
use Rattle.group_state.proofs.put.put_last_lines.Goals as goal

pub returns : goal.returns
returns c =
    let config = c.args.world.now.program.config in
    let tasks = tasks_lines config c.args.world.now.world.group 0 (suc (sizes_of config).cars) in
    on_ok c.push_str.result (string_bytes c.push_str.new.self ≡ string_bytes c.put_tasks.new.text ++ text_of_lines (end_line ∷ [])) (PutsLines c.args.text.now c.push_str.new.self (tasks ++ end_line ∷ []))
    (λ last. both_lines (string_bytes c.args.text.now) (string_bytes c.put_tasks.new.text) (string_bytes c.push_str.new.self) tasks (end_line ∷ []) c.in_ok-put_tasks.ensures last) (pushed c.push_str.result _ _ (string_bytes c.put_tasks.new.text) c.push_str.ensures.bytes)
