use Rattle.std.proofs.Common.{◌≡◌, ◌++◌, map, drop}
use Rattle.load_work.specs.Rounds.{unit_work}
use Rattle.load_work.proofs.rounds.works_by.Given as goal

abbrev pub invariant-all : goal.invariant-all
invariant-all l = l.more ++ map (unit_work l.works) (drop l.one-index l.all) ≡ map (unit_work l.works) l.all
