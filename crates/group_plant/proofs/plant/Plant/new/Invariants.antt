use Rattle.std.proofs.Common.{◌≡◌, replicate, pos}
use Rattle.group_plant.proofs.plant.Plant.new.Given as goal

abbrev pub invariant-loop : goal.invariant-loop
invariant-loop l = l.placed ≡ replicate l.counter (record { place = pos 0; door = 0 })
