use Rattle.std.proofs.Common.{map, take}
use Rattle.std.specs.Prelude.{string_bytes}
use Rattle.show_values.specs.Values.{AreWatched}
use Rattle.show_values.proofs.watch.watched_of.Given as goal

-- the names so far are watched
abbrev pub invariant-names : goal.invariant-names
invariant-names l = AreWatched l.world.world (map string_bytes (take l.name-index l.names)) l.watched
