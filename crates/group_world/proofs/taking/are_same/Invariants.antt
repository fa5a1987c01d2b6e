use Rattle.std.proofs.Common.{◌≡◌, drop, length}
use Rattle.group_world.proofs.taking.are_same.Given as goal

-- where what is left is the same, all is
abbrev pub invariant-cars : goal.invariant-cars
invariant-cars l = record {
  many : length l.outputs ≡ length l.others;
  same : drop l.index l.outputs ≡ drop l.index l.others → l.outputs ≡ l.others;
}
