use Rattle.std.proofs.Common.{◌≡◌, ◌∷◌, ◌++◌, ℕ, List, [], map, flat_map, refl, subst, sym, ap, ap₂, ◌∙◌, Ok, arith}
use Rattle.std.proofs.lemmas.List.{append_assoc}
use Rattle.scan_task.specs.Scanning.{Program, IsRunnable}
use Rattle.group_spec.specs.declared.event.Event.TheVariants.{Refresh}
use Rattle.group_spec.specs.declared.image.Fields.{Fields}
use Rattle.group_spec.specs.declared.image.Image.{Image}
use Rattle.group_spec.specs.declared.journal.Entry.TheVariants as entry
use Rattle.group_spec.specs.Image.{sizes_of, FieldsInRange}
use Rattle.group_spec.specs.Plant.{PlantState, fields_of_plant, plant_after}
use Rattle.group_spec.specs.Replies.{Refreshed}
use Rattle.group_spec.specs.World.{happens}
use Rattle.group_journal.specs.Rounds.{tasks_in_order, scan_entries, entered_calls_of}
use Rattle.group_journal.proofs.Desks.{refresh_keeps, each_keeps}
use Rattle.group_journal.proofs.Taking.{desk_closes, refresh_closes}
use Rattle.scan_task.proofs.Sizes.{sizes_fit}
use Rattle.group_rounds.specs.Driven.{AreTasks, call_of}
use Rattle.group_rounds.specs.Shown.{ScansCommit, behind_all, sight_text}
use Rattle.group_rounds.proofs.Driving.{tasks_are}
use Rattle.group_rounds.proofs.Showing.{sight_next}
use Rattle.group_rounds.proofs.sim.round.Goals as goal

pub refresh-requires : goal.refresh-requires
refresh-requires g c =
    let p = c.args.world.now.program in
    let sizes = sizes_of p.config in
    let fit = sizes_fit p.config (subst (λ (x : Program). IsRunnable x.config) c.verified.ensures c.config-config.ensures.runnable) in
    let two = fit.1.0 in
    record {
      inside =
          subst (λ (x : Program). FieldsInRange (sizes_of x.config) c.step-fields.result) (sym c.desk.ensures.same)
          (c.step-fields.ensures.inside sizes (c.set.ensures.sized sizes c.requires.plant c.requires.limit) (omega (arith, two)));
    }

pub scan_all-requires-clause-tasks : goal.scan_all-requires-clause-tasks
scan_all-requires-clause-tasks g c =
    let p = c.args.world.now.program in
    subst (λ (x : Program). AreTasks x.config c.args.tasks.now) (sym (c.refresh.ensures.same ∙ c.desk.ensures.same)) (rw c.requires.tasks (tasks_are p.config))

pub scan_all-requires-clause-closed : goal.scan_all-requires-clause-closed
scan_all-requires-clause-closed g c =
    let p = c.args.world.now.program in
    refresh_closes c.desk.new.world.program.config c.desk.new.world.world c.refresh.new.world.world c.step-fields.result c.refresh.new.report c.in_ok-refresh.ensures.taken
    (desk_closes p.config (map call_of c.args.due.presses.now) c.args.world.now.world c.desk.new.world.world c.desk.ensures.taken c.requires.closed)

pub returns-clause-round : goal.returns-clause-round
returns-clause-round g c =
    let p = c.args.world.now.program in
    let next = c.step-fields.new.self in
    let report = c.refresh.new.report in
    let refreshing : happens p.config c.desk.new.world.world (Refresh (fields_of_plant next)) ≡ Ok (c.refresh.new.world.world, Refreshed report) =
    subst (λ (f : Fields). happens p.config c.desk.new.world.world (Refresh f) ≡ Ok (c.refresh.new.world.world, Refreshed report)) c.step-fields.ensures.fields
    (subst (λ (x : Program). happens x.config c.desk.new.world.world (Refresh c.step-fields.result) ≡ Ok (c.refresh.new.world.world, Refreshed report)) c.desk.ensures.same c.in_ok-refresh.ensures.taken)
    in
    let n = c.args.number in
    let shows = g.O.Observer.shows c.args.observer.now in
    let world = c.scan_all.new.world.world in
    let text = g.O.Observer.text c.args.observer.now in
    let told = c.in_ok-scan_all.ensures.scans in
    let commits = told.0 in
    let after : g.O.Observer.shows c.scan_all.new.observer ≡ behind_all commits shows = told.3 ∙ ap (behind_all commits) c.in_ok-refreshed.ensures.same in
    let scans : ScansCommit p.config (tasks_in_order p.config) c.refresh.new.world.world world commits =
    subst (λ (ts : List ℕ). ScansCommit p.config ts c.refresh.new.world.world world commits) c.requires.tasks
    (subst (λ (x : Program). ScansCommit x.config c.args.tasks.now c.refresh.new.world.world world commits) (c.refresh.ensures.same ∙ c.desk.ensures.same) told.1)
    in
    let last = entry.Refresh (fields_of_plant next) (entered_calls_of report) ∷ flat_map scan_entries (tasks_in_order p.config) in
    let first = ap (λ (f : Fields). c.args.entries.now.items ++ entry.Refresh f (entered_calls_of report) ∷ []) c.step-fields.ensures.fields in (
      last,
      c.in_ok-scan_all.ensures.journal ∙ ap₂ (λ es ts. es ++ flat_map scan_entries ts) (c.in_ok-refresh.ensures.journal ∙ first) c.requires.tasks
          ∙ append_assoc c.args.entries.now.items (entry.Refresh (fields_of_plant next) (entered_calls_of report) ∷ []) (flat_map scan_entries (tasks_in_order p.config)),
      sight_text shows n [] report commits world,
      sight_next shows (g.O.Observer.shows c.refreshed.new.self) (g.O.Observer.shows c.scan_all.new.observer) n report commits world text (g.O.Observer.text c.refreshed.new.self) (g.O.Observer.text c.scan_all.new.observer)
          (g.O.Observer.text c.ended.new.self) c.in_ok-refreshed.ensures.text c.in_ok-refreshed.ensures.same told.2 told.3 c.in_ok-ended.ensures.text,
      commits,
      c.in_ok-ended.ensures.same ∙ after,
      (
        record {
          gathered = c.desk.new.world.world;
          desk = c.desk.ensures.taken;
          plant_step =
              c.step-fields.ensures.plant ∙ ap₂ (λ (a : PlantState) (i : Image). plant_after a i.outputs) c.set.ensures.plant c.image.ensures.image;
          refreshed = c.refresh.new.world.world;
          report = report;
          refresh = refreshing;
          scans = scans.0;
          journal = refl;
        },
        scans.1,
        refl,
      ),
    )

pub returns-clause-plant : goal.returns-clause-plant
returns-clause-plant g c = let sizes = sizes_of c.args.world.now.program.config in c.step-fields.ensures.sized sizes (c.set.ensures.sized sizes c.requires.plant c.requires.limit)

pub returns-clause-idle : goal.returns-clause-idle
returns-clause-idle g c = λ idle none.
    each_keeps c.refresh.new.world.program.config c.args.tasks.now c.refresh.new.world.world c.scan_all.new.world.world c.in_ok-scan_all.ensures.scans.1.0
    ∙ refresh_keeps c.desk.new.world.program.config c.desk.new.world.world c.refresh.new.world.world c.step-fields.result (Refreshed c.refresh.new.report) c.in_ok-refresh.ensures.taken ∙ c.desk.ensures.idle idle none
