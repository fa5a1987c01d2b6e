use Rattle.std.proofs.Common.{◌≡◌, ◌++◌, flat_map, take, string_bytes}
use Rattle.serve_lines.specs.Answers.{output_part}
use Rattle.serve_lines.proofs.answer.put_each.Given as goal

abbrev pub invariant-cars : goal.invariant-cars
invariant-cars l = string_bytes l.text ≡ string_bytes l.initial.text ++ flat_map output_part (take l.car-index l.outputs)
