use Rattle.std.proofs.Common.{◌≡◌, drop}
use Rattle.load_slots.specs.Making.{list_size}
use Rattle.load_slots.proofs.sizes.list_size.Given as goal

-- the slots so far, with those of what is left, are all
abbrev pub invariant-variables : goal.invariant-variables
invariant-variables l = list_size l.known l.sizes l.total (drop l.variable-index l.list) ≡ list_size l.known l.sizes 0 l.list
