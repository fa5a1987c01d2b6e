use Rattle.std.proofs.Common.{◌∙◌, ap, sym, subst, map}
use Rattle.scan_loop.specs.Windows.{AreAllQuick}
use Rattle.load_slots.specs.Program.{program_names}
use Rattle.load_slots.specs.Whole.{unit_code}
use Rattle.il_syntax.specs.declared.tree.Config.{Config}
use Rattle.scan_task.specs.Scanning.{Program}
use Rattle.scan_task.proofs.Lines.{same_runs}
use Rattle.scan_task.proofs.verified.Verified.running.Goals as goal

pub returns-clause-runs : goal.returns-clause-runs
returns-clause-runs c = λ u is.
    let t = c.task_code-task.ensures.code u is in
    same_runs _ _ _ _ _ _ (c.units.ensures ∙ ap (λ (k : Config). map (unit_code (program_names k) k) k.units) c.code.ensures.same) (c.bases.ensures ∙ t.bases) (c.clock.ensures ∙ t.clock)

pub returns-clause-quick : goal.returns-clause-quick
returns-clause-quick c =
    let units = c.units.ensures ∙ ap (λ (k : Config). map (unit_code (program_names k) k) k.units) c.code.ensures.same ∙ sym (ap (λ (p : Program). map (unit_code (program_names p.config) p.config) p.config.units) c.self.view_is) in
    rw c.as_slice.ensures (subst (AreAllQuick c.self.inside.tables.quick) (sym units) c.self.invariant.3)
