use Rattle.std.proofs.Common.{[], ◌∷◌, ap, sym, ◌∙◌, arith}
use Rattle.group_spec.specs.World.{happens}
use Rattle.group_spec.proofs.Laws.{instruction_leaves}
use Rattle.group_world.proofs.world.World.apply.Goals as goal

pub returns-in-Start-clause-model : goal.returns-in-Start-clause-model
returns-in-Start-clause-model c = rw c.in-Start.is (c.start.ensures.model c.args.report.now)

pub returns-in-Start-clause-reports : goal.returns-in-Start-clause-reports
returns-in-Start-clause-reports c = rw c.in-Start.is (omega (arith, c.start.ensures.plain))

pub returns-in-Instruction-clause-model : goal.returns-in-Instruction-clause-model
returns-in-Instruction-clause-model c = rw c.in-Instruction.is (c.instruction.ensures.model c.args.report.now)

pub returns-in-Instruction-clause-reports : goal.returns-in-Instruction-clause-reports
returns-in-Instruction-clause-reports c = rw c.in-Instruction.is (omega (arith, c.instruction.ensures.plain))

pub returns-in-Instruction-clause-scan_only : goal.returns-in-Instruction-clause-scan_only
returns-in-Instruction-clause-scan_only c = λ task is.
    instruction_leaves c.args.self.now.program.config c.args.self.now.world task _ _ (ap (λ e. happens c.args.self.now.program.config c.args.self.now.world e) (sym is ∙ c.in-Instruction.is) ∙ c.instruction.ensures.model c.args.report.now)

pub returns-in-Commit-clause-model : goal.returns-in-Commit-clause-model
returns-in-Commit-clause-model c = rw c.in-Commit.is c.commit.ensures.model

pub returns-in-Commit-clause-reports : goal.returns-in-Commit-clause-reports
returns-in-Commit-clause-reports c = rw c.in-Commit.is (omega (arith, c.commit.ensures.one))

pub returns-in-Refresh-clause-model : goal.returns-in-Refresh-clause-model
returns-in-Refresh-clause-model c = rw c.in-Refresh.is c.refresh_if_in_range.ensures.model

pub returns-in-Refresh-clause-reports : goal.returns-in-Refresh-clause-reports
returns-in-Refresh-clause-reports c = rw c.in-Refresh.is (omega (arith, c.refresh_if_in_range.ensures.one))

pub returns-in-Press-clause-model : goal.returns-in-Press-clause-model
returns-in-Press-clause-model c = rw c.in-Press.is (c.press.ensures.model c.args.report.now)

pub returns-in-Press-clause-reports : goal.returns-in-Press-clause-reports
returns-in-Press-clause-reports c = rw c.in-Press.is (omega (arith, c.press.ensures.plain))

pub returns-in-Gather-clause-model : goal.returns-in-Gather-clause-model
returns-in-Gather-clause-model c = rw c.in-Gather.is (c.gather.ensures.model c.args.report.now)

pub returns-in-Gather-clause-reports : goal.returns-in-Gather-clause-reports
returns-in-Gather-clause-reports c = rw c.in-Gather.is (omega (arith, c.gather.ensures.plain))

pub returns-in-Start-clause-well : goal.returns-in-Start-clause-well
returns-in-Start-clause-well c = c.holds.ensures.well (c.args.event.now ∷ [])

pub returns-in-Instruction-clause-well : goal.returns-in-Instruction-clause-well
returns-in-Instruction-clause-well c = c.holds.ensures.well (c.args.event.now ∷ [])

pub returns-in-Commit-clause-well : goal.returns-in-Commit-clause-well
returns-in-Commit-clause-well c = c.holds.ensures.well (c.args.event.now ∷ [])

pub returns-in-Refresh-clause-well : goal.returns-in-Refresh-clause-well
returns-in-Refresh-clause-well c = c.holds.ensures.well (c.args.event.now ∷ [])

pub returns-in-Press-clause-well : goal.returns-in-Press-clause-well
returns-in-Press-clause-well c = c.holds.ensures.well (c.args.event.now ∷ [])

pub returns-in-Gather-clause-well : goal.returns-in-Gather-clause-well
returns-in-Gather-clause-well c = c.holds.ensures.well (c.args.event.now ∷ [])
