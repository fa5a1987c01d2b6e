use Rattle.std.proofs.Common.{◌≡◌, [], drop}
use Rattle.load_slots.specs.Layout.{rows}
use Rattle.load_code.specs.Laying.{with_values}
use Rattle.load_code.proofs.rows.FirstRows.of.Given as goal

abbrev pub invariant-values : goal.invariant-values
invariant-values l = with_values l.first (drop l.opening-index l.openings) ≡ with_values (rows [] []) l.openings
