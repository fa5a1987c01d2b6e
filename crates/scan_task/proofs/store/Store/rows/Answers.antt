use Rattle.std.proofs.Common.{◌∙◌, ap, sym, subst}
use Rattle.scan_task.proofs.Standing.{now_is, own_task, scan_here}
use Rattle.scan_loop.specs.Going.{Stored}
use Rattle.scan_task.specs.Scanning.{IsScanOf}
use Rattle.scan_task.specs.Ran.{standing}
use Rattle.scan_task.proofs.store.Store.rows.Goals as goal

pub returns : goal.returns
returns c =
    let of = own_task c.self.inside.program.value.config c.self.inside.task c.self.inside.scan.value c.args.self.now c.self.view_is c.args.verified.now.config c.requires in (
      c.self.inside.scan.value,
      ap (λ (s : Stored). s.rows) (c.behind-self.view_is ∙ c.deref.ensures),
      subst (λ n. IsScanOf c.args.verified.now.config n c.self.inside.scan.value) (sym of.1) (scan_here c.self.inside.program.value.config c.self.inside.task c.self.inside.scan.value c.args.self.now c.self.view_is c.args.verified.now.config c.self.inside.task (own_task c.self.inside.program.value.config c.self.inside.task c.self.inside.scan.value c.args.self.now c.self.view_is c.args.verified.now.config c.requires) c.self.inside.scan.value c.self.invariant.1),
      ap (λ n. standing c.args.verified.now.config n c.self.inside.scan.value) of.1 ∙ now_is c.self.inside.program.value.config c.self.inside.task c.self.inside.scan.value c.args.self.now c.self.view_is c.args.verified.now.config c.self.inside.task (own_task c.self.inside.program.value.config c.self.inside.task c.self.inside.scan.value c.args.self.now c.self.view_is c.args.verified.now.config c.requires),
    )
