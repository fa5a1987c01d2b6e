use Rattle.std.proofs.Common.{ap, ◌∙◌, ◌++◌}
use Rattle.il_statics.specs.Declarations.{unless, bounds_numbers, subrange_numbers, admits_arrays}
use Rattle.load_declarations.specs.Written.{shown}
use Rattle.load_declarations.specs.Places.{lowest_at}
use Rattle.load_declarations.proofs.Lowest.{at_two, at_unless}
use Rattle.load_declarations.proofs.types.array_fault.Goals as goal

pub returns : goal.returns
returns c =
    at_two (unless (admits_arrays (shown c.args.admitted)) 25 ++ bounds_numbers c.args.bounds) (subrange_numbers c.args.element.elementary c.args.element.subrange) c.args.place c.earlier.result c.subrange_fault.result c.earlier-2.result
    (at_two (unless (admits_arrays (shown c.args.admitted)) 25) (bounds_numbers c.args.bounds) c.args.place c.fault_if-misplaced.result c.bounds_fault.result c.earlier.result
    (c.fault_if-misplaced.ensures ∙ at_unless c.admits_arrays.result 25 c.args.place ∙ ap (λ b. lowest_at (unless b 25) c.args.place) c.admits_arrays.ensures) c.bounds_fault.ensures c.earlier.ensures)
    c.subrange_fault.ensures c.earlier-2.ensures
