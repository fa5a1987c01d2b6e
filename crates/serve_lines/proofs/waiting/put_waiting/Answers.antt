use Rattle.std.proofs.Common.{subst}
use Rattle.scan_task.specs.Scanning.{Program, IsRunnable}
use Rattle.serve_lines.proofs.Refilling.{waiting_taken_in}
use Rattle.serve_lines.proofs.waiting.put_waiting.Goals as goal

pub returns-in_err-put_presses-clause-again : goal.returns-in_err-put_presses-clause-again
returns-in_err-put_presses-clause-again c =
    waiting_taken_in c.args.world.now.program.config (subst (λ (p : Program). IsRunnable p.config) c.verified.ensures c.config-config.ensures.runnable) c.args.world.now.world c.image-image.ensures.reached

pub returns-in_err-gathered-clause-again : goal.returns-in_err-gathered-clause-again
returns-in_err-gathered-clause-again c =
    waiting_taken_in c.args.world.now.program.config (subst (λ (p : Program). IsRunnable p.config) c.verified.ensures c.config-config.ensures.runnable) c.args.world.now.world c.image-image.ensures.reached

pub returns-in_err-put_presses-2-clause-again : goal.returns-in_err-put_presses-2-clause-again
returns-in_err-put_presses-2-clause-again c =
    waiting_taken_in c.args.world.now.program.config (subst (λ (p : Program). IsRunnable p.config) c.verified.ensures c.config-config.ensures.runnable) c.args.world.now.world c.image-image.ensures.reached

pub returns-clause-again : goal.returns-clause-again
returns-clause-again c =
    waiting_taken_in c.args.world.now.program.config (subst (λ (p : Program). IsRunnable p.config) c.verified.ensures c.config-config.ensures.runnable) c.args.world.now.world c.image-image.ensures.reached
