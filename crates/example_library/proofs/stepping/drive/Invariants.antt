use Rattle.std.proofs.Common.{◌≡◌}
use Rattle.example_library.specs.Stepping.{IsWellReached}
use Rattle.example_library.proofs.stepping.drive.Given as goal

-- the world so far is well, and of the same program
abbrev pub invariant-scans : goal.invariant-scans
invariant-scans l = IsWellReached l.world.program.config l.world.world × (l.world.program ≡ l.initial.world.program)
