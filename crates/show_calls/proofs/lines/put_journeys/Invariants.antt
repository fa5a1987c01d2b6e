use Rattle.std.proofs.Common.{◌≡◌, ◌++◌, flat_map, take, string_bytes}
use Rattle.show_calls.specs.Lines.{journey_row}
use Rattle.show_calls.proofs.lines.put_journeys.Given as goal

-- the lines so far
abbrev pub invariant-journeys : goal.invariant-journeys
invariant-journeys l = string_bytes l.text ≡ string_bytes l.initial.text ++ flat_map (journey_row l.form) (take l.journey-index l.journeys)
