-- There is room for a report of each event.
use Rattle.std.proofs.Common.{◌≡◌, ◌≤◌, ◌+◌, ℕ, List, [], ◌∷◌, length, arith}
use Rattle.group_spec.specs.declared.event.Event.{Event}
use Rattle.group_spec.specs.declared.event.Event.TheVariants.{Start, Instruction, Commit, Refresh, Press, Gather}
use Rattle.group_world.specs.Running.{may_report, reporting}

one_at_most : (e : Event) → may_report e ≤ 1
one_at_most (Start t) = omega arith
one_at_most (Instruction t) = omega arith
one_at_most (Commit t) = omega arith
one_at_most (Refresh fields) = omega arith
one_at_most (Press call) = omega arith
one_at_most (Gather floor) = omega arith

pub few_reports : (events : List Event) → reporting events ≤ length events
few_reports [] = omega arith
few_reports (e ∷ events) = let one = one_at_most e in let rest = few_reports events in omega (arith, one, rest)
