use Rattle.std.proofs.Common.{rules, ◌<◌, ◌≤◌, ◌+◌, ◌∷◌, [], subst, sym, ◌∙◌, arith}
use Rattle.scan_task.specs.Scanning.{Program}
use Rattle.group_spec.specs.declared.event.Event.TheVariants.{Gather}
use Rattle.group_spec.specs.declared.image.Sizes.{Sizes}
use Rattle.group_spec.specs.Image.{sizes_of}
use Rattle.group_journal.specs.Rounds.{Happen}
use Rattle.group_rounds.proofs.Driving.{gather_more}
use Rattle.group_rounds.proofs.steps.gather_all.Goals as goal

pub gather_from-requires-clause-last : goal.gather_from-requires-clause-last
gather_from-requires-clause-last c =
    let low : c.floors.below < c.sizes-floors.result.floors = search rules in
    let last = subst (λ (s : Sizes). c.floors.below < s.floors) c.sizes-floors.ensures low in
    subst (λ (p : Program). c.floors.below + 1 ≤ (sizes_of p.config).floors) (sym c.floors.invariant.1) (omega (arith, last))

pub floors-preserved : goal.floors-preserved
floors-preserved c = (
  gather_more c.args.world.now.program.config c.args.world.now.world c.floors.world.world c.gather_from.new.world.world c.floors.below c.floors.invariant.0
      (subst (λ (p : Program). Happen p.config c.floors.world.world (Gather (c.floors.below + 1) ∷ []) c.gather_from.new.world.world) c.floors.invariant.1 c.gather_from.ensures.taken),
  c.gather_from.ensures.same ∙ c.floors.invariant.1,
)
