use Rattle.std.proofs.Common.{◌≡◌}
use Rattle.load_work.specs.Rounds.{rounds}
use Rattle.load_work.proofs.rounds.rounds.Given as goal

abbrev pub invariant-rounds : goal.invariant-rounds
invariant-rounds l = l.works ≡ rounds l._round l.all
