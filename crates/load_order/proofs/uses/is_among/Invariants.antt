use Rattle.std.proofs.Common.{◌≡◌, drop}
use Rattle.load_order.specs.Used.{is_among}
use Rattle.load_order.proofs.uses.is_among.Given as goal

abbrev pub invariant-loop-one : goal.invariant-loop-one
invariant-loop-one l = is_among l.numbers l.number ≡ is_among (drop l.one-index l.numbers) l.number
