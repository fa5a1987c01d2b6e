use Rattle.std.proofs.Common.{refl}
use Rattle.group_world.proofs.stores.begin.Goals as goal

pub start_in_place-requires-clause-kept : goal.start_in_place-requires-clause-kept
start_in_place-requires-clause-kept c = λ x there. c.requires.variables x c.in-Some.store there c.in-Some.is

pub returns-in-Some-clause-store : goal.returns-in-Some-clause-store
returns-in-Some-clause-store c = λ x there. (c.start_in_place.new.store, refl, c.start_in_place.ensures.of, c.start_in_place.ensures.begins x there)
