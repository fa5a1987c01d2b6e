use Rattle.std.proofs.Common.{subst, sym}
use Rattle.il_statics.specs.Declarations.{subrange_numbers}
use Rattle.il_statics.specs.Least.{IsLeast}
use Rattle.load_declarations.specs.Units.{BreaksResult}
use Rattle.load_declarations.proofs.Lowest.{least_at}
use Rattle.load_declarations.proofs.units.result_fault.Goals as goal

pub returns-in-Function : goal.returns-in-Function
returns-in-Function c = subst (λ k. IsLeast c.subrange_fault.result (BreaksResult k)) (sym c.in-Function.is) (least_at (subrange_numbers c.in-Function.scalar.elementary c.in-Function.scalar.subrange) c.in-Function.place c.subrange_fault.result c.subrange_fault.ensures)
