use Rattle.threads_station.specs.Counted.{calls_in}
use Rattle.threads_station.proofs.tally.Tally.add.Given as goal

abbrev pub ghosts-meet_for : goal.ghosts-meet_for
ghosts-meet_for g a = record { calls = calls_in a.report.now }
