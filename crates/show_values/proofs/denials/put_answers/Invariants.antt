use Rattle.std.proofs.Common.{◌≡◌, ◌++◌, take, string_bytes}
use Rattle.show_values.specs.Denials.{answers_rows}
use Rattle.show_values.proofs.denials.put_answers.Given as goal

abbrev pub invariant-answers : goal.invariant-answers
invariant-answers l = string_bytes l.text ≡ string_bytes l.initial.text ++ answers_rows l.form l.round l.task (take l.answer-index l.answers)
