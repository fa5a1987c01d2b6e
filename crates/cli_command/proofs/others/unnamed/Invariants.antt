use Rattle.std.proofs.Common.{◌≡◌, ◌++◌, drop, flat_map}
use Rattle.cli_command.specs.Others.{unless_named}
use Rattle.cli_command.proofs.others.unnamed.Given as goal

-- the faults so far, and those of the ones that are left
abbrev pub invariant-faults : goal.invariant-faults
invariant-faults l = l.others.items ++ flat_map (unless_named l.number l.place) (drop l.fault-index l.faults) ≡ flat_map (unless_named l.number l.place) l.faults
