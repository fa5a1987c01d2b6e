use Rattle.std.proofs.Common.{◌≡◌, ◌++◌, string_bytes}
use Rattle.cli_output.specs.Limits.{car_slots}
use Rattle.cli_output.proofs.limits.put_slots.Given as goal

-- the cars so far
abbrev pub invariant-cars : goal.invariant-cars
invariant-cars l = string_bytes l.text ≡ string_bytes l.initial.text ++ car_slots l.form l.verified.config l.before
