use Rattle.std.proofs.Common.{◌≡◌, ◌++◌, map, take}
use Rattle.reasons_names.specs.NamesNear.{candidate_shown, predeclared_name}
use Rattle.reasons_names.specs.declared.names_known.Word.{Word}
use Rattle.reasons_names.proofs.names_known.push_words.Given as goal

abbrev pub invariant-rows : goal.invariant-rows
invariant-rows l = map candidate_shown l.candidates.items ≡ map candidate_shown l.initial.candidates.items ++ map (λ (w : Word). predeclared_name w.text.now) (take l.row-index l.rows)
