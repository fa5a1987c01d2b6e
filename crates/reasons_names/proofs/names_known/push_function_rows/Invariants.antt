use Rattle.std.proofs.Common.{◌≡◌, ◌++◌, map, take}
use Rattle.reasons_names.specs.NamesNear.{candidate_shown, predeclared_name}
use Rattle.il_statics.specs.declared.standard.NamedFunction.{NamedFunction}
use Rattle.reasons_names.proofs.names_known.push_function_rows.Given as goal

abbrev pub invariant-rows : goal.invariant-rows
invariant-rows l = map candidate_shown l.candidates.items ≡ map candidate_shown l.initial.candidates.items ++ map (λ (f : NamedFunction). predeclared_name f.name.now) (take l.row-index l.rows)
