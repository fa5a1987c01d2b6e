use Rattle.std.proofs.Common.{◌≡◌, ◌++◌, ◌-◌, string_bytes}
use Rattle.show_scan.specs.Shown.{lines_text}
use Rattle.show_scan.proofs.shown.put_lines.Given as goal

-- the lines so far, with those that are left
abbrev pub invariant-steps : goal.invariant-steps
invariant-steps l =
    (string_bytes l.text ++ lines_text l.initial.world.program.config l.source (1000000 - l.counter) l.asked l.world.world
    ≡ string_bytes l.initial.text ++ lines_text l.initial.world.program.config l.source 1000000 l.initial.asked l.initial.world.world)
    × (l.world.program ≡ l.initial.world.program)
