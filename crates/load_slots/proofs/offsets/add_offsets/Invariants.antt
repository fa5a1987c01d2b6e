use Rattle.std.proofs.Common.{◌≡◌, drop}
use Rattle.load_slots.specs.Making.{with_offsets}
use Rattle.load_slots.proofs.offsets.add_offsets.Given as goal

-- the offsets so far, with those of what is left, are all
abbrev pub invariant-variables : goal.invariant-variables
invariant-variables l = with_offsets l.sizes l.offsets (drop l.variable-index l.list) ≡ with_offsets l.sizes l.initial.offsets l.list
