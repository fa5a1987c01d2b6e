use Rattle.std.proofs.Common.{◌≡◌, ◌++◌, ◌∙◌, ap, string_bytes, append_assoc}
use Rattle.std.specs.Prelude.{codes}
use Rattle.std.proofs.lemmas.Result.{on_ok_weaker}
use Rattle.show_names.specs.Warnings.{task_line}
use Rattle.show_names.proofs.warnings.put_task.Goals as goal

-- the two pieces are a line; the tactics give up at literals as long as these
pub returns : goal.returns
unfolding task_line
returns c =
    let behind = c.args.task.now.name.name ++ codes " have no effect, each task runs once a round\n" in
    let piece : string_bytes c.write.new.self ++ behind ≡ string_bytes c.args.text.now ++ task_line c.args.task.now = rw c.in_ok-write.ensures.bytes (simp append_assoc) in
    let ends : (string_bytes c.writeln.new.self ≡ string_bytes c.write.new.self ++ (c.as_str.result.now ++ codes " have no effect, each task runs once a round\n")) → (string_bytes c.writeln.new.self ≡ string_bytes c.args.text.now ++ task_line c.args.task.now) =
    λ e. e ∙ (ap (λ name. string_bytes c.write.new.self ++ (name ++ codes " have no effect, each task runs once a round\n")) c.as_str.ensures ∙ piece) in
    on_ok_weaker c.writeln.result ends c.writeln.ensures.bytes
