use Rattle.std.proofs.Common.{◌≡◌, ◌++◌, take, string_bytes}
use Rattle.show_values.specs.Values.{values_text}
use Rattle.show_values.proofs.watch.put_values.Given as goal

-- the values so far
abbrev pub invariant-values : goal.invariant-values
invariant-values l = string_bytes l.text ≡ string_bytes l.initial.text ++ values_text (take l.it-index l.watched) l.asked l.world.world
