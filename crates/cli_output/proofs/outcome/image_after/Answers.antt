use Rattle.std.proofs.Common.{ap, ◌∙◌}
use Rattle.scan_task.specs.Scanning.{Program}
use Rattle.cli_output.specs.ImageText.{image_text}
use Rattle.cli_output.proofs.outcome.image_after.Goals as goal

pub returns-in_ok-image_text-in-Ok-clause-is : goal.returns-in_ok-image_text-in-Ok-clause-is
returns-in_ok-image_text-in-Ok-clause-is c =
    (c.replay.new.world.world, c.in-Ok.ensures.taken, c.in_ok-image_text-in-Ok.ensures ∙ ap (λ (p : Program). image_text p.config c.replay.new.world.world) c.replay.ensures.same)
