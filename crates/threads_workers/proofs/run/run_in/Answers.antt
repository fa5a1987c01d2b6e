use Rattle.std.proofs.Common.{◌≤◌, sym, ap, ◌∙◌, subst}
use Rattle.std.specs.Prelude.{All}
use Rattle.threads_workers.specs.Panels.{IsPressAt}
use Rattle.cli_host.specs.declared.press.Press.{Press}
use Rattle.group_spec.specs.declared.image.Sizes.{Sizes}
use Rattle.scan_task.proofs.Sizes.{sizes_fit}
use Rattle.threads_workers.proofs.run.run_in.Goals as goal

pub desk_of-requires : goal.desk_of-requires
desk_of-requires g c =
    record { floors = subst (λ (s : Sizes). (2 ≤ s.floors) × (s.floors ≤ 16)) (sym c.sizes-sizes.ensures) (sizes_fit c.args.verified.config c.config-config.ensures.runnable).1 }

pub run_at-requires-clause-presses : goal.run_at-requires-clause-presses
run_at-requires-clause-presses g c κs within =
    subst (λ n. All (λ (p : Press). IsPressAt n p) c.args.plan.presses.now) (sym (c.in-Ok-desk_of.ensures.size.0 ∙ ap (λ (s : Sizes). s.floors) c.sizes-sizes.ensures)) c.requires.presses
