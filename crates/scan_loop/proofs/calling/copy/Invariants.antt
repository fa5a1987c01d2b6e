use Rattle.std.proofs.Common.{◌≡◌, drop}
use Rattle.load_slots.specs.Layout.{rows}
use Rattle.scan_loop.specs.Going.{copied}
use Rattle.scan_loop.proofs.calling.copy.Given as goal

-- what is left leads where all outputs lead
abbrev pub invariant-loop-output : goal.invariant-loop-output
invariant-loop-output l = copied (drop l.output-index l.outputs) (rows l.numbers l.flags) l.base ≡ copied l.outputs (rows l.initial.numbers l.initial.flags) l.base
