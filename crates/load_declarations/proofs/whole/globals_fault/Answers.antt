use Rattle.std.proofs.Common.{◌∙◌, ap, subst}
use Rattle.il_statics.specs.Least.{IsLeast}
use Rattle.il_statics.proofs.Least.{least_both}
use Rattle.base_maps.specs.NameMap.{empty}
use Rattle.il_statics.specs.Declarations.{ScalarsAndArrays, names_in}
use Rattle.load_declarations.specs.Places.{Among}
use Rattle.load_declarations.specs.Written.{Misdeclared}
use Rattle.load_declarations.specs.Taken.{TakenNames}
use Rattle.load_declarations.specs.Again.{NamedAgain}
use Rattle.load_declarations.proofs.whole.globals_fault.Goals as goal

pub returns : goal.returns
returns c =
    let listed = c.as_slice-globals.ensures ∙ ap (λ k. k.globals) c.config.ensures in
    least_both _ _ c.declarations_fault-typed.result c.earlier.result c.earlier-2.result c.earlier-2.ensures (subst (λ l. IsLeast c.declarations_fault-typed.result (Among (Misdeclared c.args.names.now ScalarsAndArrays) l)) listed c.declarations_fault-typed.ensures)
    (least_both _ _ c.taken_declared-taken.result c.in_ok-second.second c.earlier.result c.earlier.ensures (subst (λ l. IsLeast c.taken_declared-taken.result (Among (TakenNames c.args.names.now) l)) listed c.taken_declared-taken.ensures)
    (subst (λ l. IsLeast c.in_ok-second.second (NamedAgain empty (names_in l))) listed c.in_ok-second.ensures))
