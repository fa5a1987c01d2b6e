use Rattle.std.specs.Prelude.{slice_index_or}
use Rattle.group_rounds.specs.Driven.{switches_in}
use Rattle.group_spec.specs.Image.{sizes_of}
use Rattle.threads_workers.proofs.run.run.Given as goal

abbrev pub ghosts-run_in : goal.ghosts-run_in
ghosts-run_in g a = record { program = a.verified; switches = switches_in (sizes_of a.verified.config).cars a.plan.settings.now; names = λ i. slice_index_or a.blanks.ledgers i 0; tally = a.blanks.tally }
