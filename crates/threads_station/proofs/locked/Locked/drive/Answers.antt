use Rattle.std.proofs.Common.{◌≡◌, ◌≤◌, ◌+◌, refl, sym, ap, ap₂, ◌∙◌, subst, arith}
use Rattle.scan_task.specs.Scanning.{Program, IsRunnable}
use Rattle.scan_task.proofs.Sizes.{sizes_fit}
use Rattle.group_spec.specs.declared.image.Fields.{Fields}
use Rattle.group_spec.specs.declared.image.Image.{Image}
use Rattle.group_spec.specs.declared.journal.Entry.TheVariants as entry
use Rattle.group_spec.specs.Image.{sizes_of}
use Rattle.group_spec.specs.Plant.{PlantState, IsPlantOf, plant_after, fields_of_plant}
use Rattle.group_spec.specs.Replies.{Refreshed}
use Rattle.group_plant.specs.Switches.{under}
use Rattle.group_journal.specs.Journal.{entries_by, refresher, calls_entering}
use Rattle.group_journal.specs.Pages.{Page, Adds}
use Rattle.threads_station.specs.Counted.{IsNoneOrFull, calls_in}
use Rattle.threads_station.proofs.AtPlant.{at_driven, driven_fault, fault_up}
use Rattle.threads_station.proofs.Showing.{full_or_none}
use Rattle.threads_station.proofs.Totals.{counted_more, counted_driven, tally_more}
use Rattle.threads_station.proofs.locked.Locked.drive.Goals as goal

pub returns-in_err-refresh-clause-full : goal.returns-in_err-refresh-clause-full
returns-in_err-refresh-clause-full g c =
    let b = c.self.inside.book in
    let sizes = sizes_of b.config in
    let runs = subst (λ (p : Program). IsRunnable p.config) c.requires.program c.config-config.ensures.runnable in
    let two = (sizes_fit g.G.Naming.program.config runs).1.0 in
    let some : 1 ≤ sizes.floors = omega (arith, two, ap (λ k. (sizes_of k).floors) c.self.invariant.0) in
    let own : IsPlantOf sizes c.copied.result = subst (λ k. IsPlantOf (sizes_of k) c.copied.result) (sym c.self.invariant.0) (subst (IsPlantOf (sizes_of g.G.Naming.program.config)) (sym c.copied.ensures) c.self.invariant.2.sized) in
    let inside = c.plant_step-plant.ensures.inside sizes (c.with_switches-before.ensures.sized sizes own (subst (λ k. c.args.switches.run_limit ≤ (sizes_of k).cars) (sym c.self.invariant.0) c.requires.limit)) some in
    let told = fault_up c.from_residual.result c.in_err-refresh.field-0.0 c.from_residual.ensures.1 ∙ c.in_err-refresh.ensures.fault in
    subst IsNoneOrFull (sym (told ∙ driven_fault b c.plant_step-plant.result.1 inside)) (full_or_none b)

pub invariant_of-self-2 : goal.invariant_of-self-2
invariant_of-self-2 g c =
    let config = g.G.Naming.program.config in
    let b = c.self.inside.book in
    let before = c.self.inside.plant in
    let next = c.plant_step-plant.result.0 in
    let a = c.audit_refreshes.ensures in
    let adds = c.in_ok-refresh.ensures.done in
    let calls = calls_in c.refresh.new.report in
    let moved : next ≡ plant_after (under c.args.switches before) b.world.group.image.outputs =
    c.plant_step-plant.ensures.plant ∙ ap₂ (λ (p : PlantState) (i : Image). plant_after p i.outputs) (c.with_switches-before.ensures.plant ∙ ap (under c.args.switches) c.copied.ensures) c.image.ensures in
    let set = c.requires.switches ∙ ap (λ n. g.G.Naming.switches (n + 1)) (a.refreshes ∙ ap (λ (l : Page). entries_by refresher l.journal) (sym (c.self.view_is ∙ a.same.0))) in
    let sized = c.plant_step-plant.ensures.sized (sizes_of config) (c.with_switches-before.ensures.sized (sizes_of config) (subst (IsPlantOf (sizes_of config)) (sym c.copied.ensures) c.self.invariant.2.sized) c.requires.limit) in
    let counted = counted_more c.self.inside.counts b.journal c.refresh.new.self.journal (entry.Refresh c.plant_step-plant.result.1 calls) 9 c.self.invariant.1 adds.journal refl (omega arith) in
    let at = at_driven config g.G.Naming.switches c.args.switches c.self.inside.counts b c.refresh.new.self before next c.plant_step-plant.result.1 calls _ c.self.invariant.1 c.self.invariant.0 adds set (moved, c.plant_step-plant.ensures.fields) sized c.self.invariant.2
    c.count_refresh.new.self c.count_refresh.ensures.total in (
      adds.config ∙ c.self.invariant.0,
      rw c.count_driven.ensures.total (counted_driven c.count_refresh.new.self c.refresh.new.self.journal _ (rw c.count_refresh.ensures.total counted)),
      rw c.count_driven.ensures.total at,
      c.add.ensures.more.0 ∙ tally_more c.self.inside.entered b.journal c.refresh.new.self.journal (entry.Refresh c.plant_step-plant.result.1 calls) c.self.invariant.3 adds.journal,
    )

pub returns-clause-report : goal.returns-clause-report
returns-clause-report g c =
    let before = c.self.inside.plant in
    let next = c.plant_step-plant.result.0 in
    let a = c.audit_refreshes.ensures in
    let here = c.self.view_is ∙ a.same.0 in
    let report = c.refresh.new.report in
    let adds = subst (λ (f : Fields). Adds c.self.inside.book (entry.Refresh f (calls_in report)) (Refreshed report) c.refresh.new.self) c.plant_step-plant.ensures.fields c.in_ok-refresh.ensures.done in
    record {
      plant = before;
      sized = c.self.invariant.2.sized;
      next = next;
      refreshed = record {
        before = c.args.self.now;
        config = a.program;
        kept = a.kept;
        counted = sym a.refreshes;
        called = sym a.entered;
        entering = c.in_ok-refresh.ensures.exact ∙ ap (λ (l : Page). calls_entering l.world.group.calls c.args.hand.now) here;
        after = c.refresh.new.self;
        adds = subst (λ (l : Page). Adds l (entry.Refresh (fields_of_plant next) (calls_in report)) (Refreshed report) c.refresh.new.self) here adds;
      };
      step =
          c.plant_step-plant.ensures.plant ∙ ap₂ (λ (p : PlantState) (i : Image). plant_after p i.outputs) (c.with_switches-before.ensures.plant ∙ ap (under c.args.switches) c.copied.ensures) c.image.ensures
          ∙ ap (λ (l : Page). plant_after (under c.args.switches before) l.world.group.image.outputs) here;
    }
