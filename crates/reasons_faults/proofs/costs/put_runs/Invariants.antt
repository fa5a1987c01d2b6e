use Rattle.std.proofs.Common.{◌≡◌, ◌++◌, drop, string_bytes}
use Rattle.reasons_faults.specs.CostReasons.{runs_lines}
use Rattle.reasons_faults.proofs.costs.put_runs.Given as goal

-- with what is left of the units
abbrev pub invariant-units : goal.invariant-units
invariant-units l =
    string_bytes l.text ++ runs_lines l.costs l.path.body.now l.path.ways.now l.path.places.now l.number (drop l.number l.units)
    ≡ string_bytes l.initial.text ++ runs_lines l.costs l.path.body.now l.path.ways.now l.path.places.now 0 l.units
