use Rattle.std.proofs.Common.{◌≡◌, drop}
use Rattle.load_slots.specs.Layout.{rows}
use Rattle.scan_loop.specs.Going.{passed}
use Rattle.scan_loop.proofs.calling.pass.Given as goal

-- what is left leads where all inputs lead
abbrev pub invariant-loop-input : goal.invariant-loop-input
invariant-loop-input l = passed (drop l.input-index l.inputs) (rows l.numbers l.flags) l.base l.to ≡ passed l.inputs (rows l.initial.numbers l.initial.flags) l.base l.to
