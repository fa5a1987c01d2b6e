use Rattle.std.proofs.Common.{rules, ◌≡◌, ◌↔◌, true, Some, ap, ◌∙◌, subst, refl}
use Rattle.load_slots.specs.Layout.{Rows}
use Rattle.group_spec.specs.Snapshot.{program_of}
use Rattle.scan_task.specs.Standing.{Standing, Finished, BeganAs}
use Rattle.scan_task.specs.Ran.{Ran, Begins, HaveSameValues, standing}
use Rattle.scan_task.proofs.Standing.{begun_of}
use Rattle.scan_task.proofs.Values.{began_by}
use Rattle.scan_task.proofs.scanned.Scanned.began_as.Goals as goal

pub returns : goal.returns
returns c =
    let config = c.args.verified.now.config in
    let task = c.args.store.now.task in
    let (s, rows, scan, stands) = c.rows.ensures in
    let r : Ran = record { config = c.self.inside.verified.now.config; task = c.self.inside.task; first = c.self.inside.began.value; last = c.self.inside.scan.value } in
    let begins : Begins config task s = begun_of config task s c.args.store.now stands scan c.requires.begins config refl in
    let program : r.config ≡ config = ap (λ (g : Finished). g.config) c.self.view_is ∙ c.requires.program in
    let own : c.self.inside.task ≡ c.task.result = search rules in
    let same : r.task ≡ task = own ∙ c.task.ensures in
    let is : program_of config c.self.inside.task ≡ Some scan.0 = ap (program_of config) same ∙ scan.1.program in
    let cells = c.cells.ensures ∙ (c.task_code.ensures.code scan.0 is).cells in
    let test = subst (λ (x : Rows). (c.same_values.result ≡ true) ↔ HaveSameValues c.cells.result.now c.self.inside.first x) rows c.same_values.ensures in
    subst (λ (x : Standing). (c.same_values.result ≡ true) ↔ BeganAs c.args.self.now x) stands
    (subst (λ (f : Finished). (c.same_values.result ≡ true) ↔ BeganAs f (standing config task s)) c.self.view_is
    (began_by r c.self.invariant.1 config task s begins program same scan.0 scan.1.program c.cells.result.now cells c.self.inside.first c.self.invariant.0 c.same_values.result test))
