use Rattle.std.proofs.Common.{rules, arith, ◌≡◌, ◌≤◌, ◌+◌, ◌++◌, true, false, List, [], map, refl, subst, sym, ap, ◌∙◌}
use Rattle.std.proofs.lemmas.List.{append_assoc}
use Rattle.std.specs.Prelude.{is_some}
use Rattle.scan_task.specs.Scanning.{Program, IsRunnable}
use Rattle.scan_task.proofs.Scans.{sound_of}
use Rattle.group_laws.proofs.Openings.{no_scan_open}
use Rattle.group_spec.specs.declared.calls.Call.{Call}
use Rattle.group_spec.specs.declared.image.Sizes.{Sizes}
use Rattle.group_spec.specs.Image.{sizes_of}
use Rattle.group_spec.specs.Plant.{IsPlantOf, opening_plant}
use Rattle.group_spec.specs.World.{World, scan_at}
use Rattle.group_spec.specs.Limits.{most_cars}
use Rattle.group_plant.specs.declared.switches.Switches.{Switches}
use Rattle.group_journal.proofs.Rounds.{rounds_are_journal}
use Rattle.group_journal.proofs.Safe.{rounds_keep_cars_safe}
use Rattle.scan_task.proofs.Sizes.{sizes_fit}
use Rattle.group_rounds.specs.Ahead.{press_round, of_round, IsAhead, IsStanding}
use Rattle.group_rounds.specs.Driven.{call_of, calls_in, switches_in, ArePressed}
use Rattle.group_rounds.specs.Shown.{Shows, RoundShown, RoundsShown, behind_all}
use Rattle.group_rounds.proofs.Driving.{opening_desk, none_left}
use Rattle.group_rounds.proofs.Fronts.{ahead_of_copy, ahead_on, due_pressed, limit_in}
use Rattle.group_rounds.proofs.Showing.{nil, behind_both, rounds_next}
use Rattle.group_rounds.proofs.sim.run_rounds.Goals as goal
use Rattle.group_rounds.proofs.sim.run_rounds.Goals.{then-idle, else-idle}

pub new-plant-requires-clause-cars : goal.new-plant-requires-clause-cars
new-plant-requires-clause-cars g c =
    subst (λ (s : Sizes). (1 ≤ s.cars) × (s.cars ≤ most_cars)) (sym c.sizes-cars.ensures) (sizes_fit c.args.world.now.program.config (subst (λ (p : Program). IsRunnable p.config) c.verified.ensures c.config-config.ensures.runnable)).0

pub new-plant-requires-clause-floors : goal.new-plant-requires-clause-floors
new-plant-requires-clause-floors g c =
    let fit = sizes_fit c.args.world.now.program.config (subst (λ (p : Program). IsRunnable p.config) c.verified.ensures c.config-config.ensures.runnable) in
    subst (λ (s : Sizes). (2 ≤ s.floors) × (s.floors ≤ 16)) (sym c.sizes-cars.ensures) (fit.1.0, fit.1.1)

pub rounds-init : goal.rounds-init
rounds-init g c =
    let config = c.args.world.now.program.config in
    record {
      rounds = (
        [],
        sym (nil (g.O.Observer.text c.args.observer.now)),
        [],
        refl,
        ((c.new-plant.ensures.plant ∙ ap (λ (s : Sizes). opening_plant s.cars s.floors) c.sizes-cars.ensures, c.requires.opening, c.requires.none), refl, refl),
      );
      plant = subst (λ (s : Sizes). IsPlantOf s c.new-plant.result) c.sizes-cars.ensures (c.new-plant.ensures.sized c.sizes-cars.result.slots);
      closed = λ j. ap (λ (w : World). is_some (scan_at w j)) c.requires.opening ∙ ap is_some (no_scan_open config j);
      ahead = ahead_of_copy press_round c.args.drive.presses.now c.in_ok-presses.presses.items c.deref-2.result.now c.deref.result.now c.presses_due.result c.in_ok-presses.ensures c.deref-2.ensures.value c.deref.ensures.value c.presses_due.ensures.later;
      standing =
          subst (λ (s : Sizes). IsStanding s.cars c.args.drive.settings.now 0 c.at_first-standing.result.switches c.at_first-standing.result.later.now) c.sizes-cars.ensures
          (c.at_first-standing.ensures c.args.drive.settings.now (rw c.deref-3.ensures.value c.in_ok-settings.ensures));
      idle = λ none. ap (λ (w : World). w.desk) c.requires.opening ∙ opening_desk config;
      same = refl;
    }

pub round-requires-clause-calls : goal.round-requires-clause-calls
round-requires-clause-calls g c =
    let n = c.rounds.number + 1 in
    let now = c.split_at.result.0.now in
    let due : now ≡ of_round press_round n c.args.drive.presses.now = c.split_at.ensures.front ∙ c.presses_due-in-rounds.ensures.due ∙ c.rounds.invariant.ahead.same n (omega arith) in
    subst (λ (p : Program). ArePressed (sizes_of p.config) now) (sym c.rounds.invariant.same) (due_pressed (sizes_of c.args.world.now.program.config) n c.args.drive.presses.now now due c.requires.calls)

pub round-requires-clause-limit : goal.round-requires-clause-limit
round-requires-clause-limit g c =
    let cars = (sizes_of c.args.world.now.program.config).cars in
    let n = c.rounds.number + 1 in
    let stands = c.set_in-standing.ensures cars c.rounds.number c.args.drive.settings.now refl c.rounds.invariant.standing in
    subst (λ (p : Program). c.set_in-standing.result.switches.run_limit ≤ (sizes_of p.config).cars) (sym c.rounds.invariant.same)
    (subst (λ (s : Switches). s.run_limit ≤ cars) (sym stands.is) (limit_in cars c.args.drive.settings.now c.requires.settings n))

pub rounds-preserved : goal.rounds-preserved
rounds-preserved g c =
    let p = c.args.world.now.program in
    let shows = g.O.Observer.shows c.args.observer.now in
    let cars = (sizes_of p.config).cars in
    let presses = c.args.drive.presses.now in
    let settings = c.args.drive.settings.now in
    let n = c.rounds.number + 1 in
    let now = c.split_at.result.0.now in
    let due : now ≡ of_round press_round n presses = c.split_at.ensures.front ∙ c.presses_due-in-rounds.ensures.due ∙ c.rounds.invariant.ahead.same n (omega arith) in
    let stands = c.set_in-standing.ensures cars c.rounds.number settings refl c.rounds.invariant.standing in
    let before = c.rounds.invariant.rounds in
    let round = c.in_ok-round.ensures.round in
    let after = behind_all before.2 shows in
    let shown : Shows → List Call → Switches → Type 0 =
    λ s calls switches. RoundShown s n c.rounds.world.program.config calls switches c.rounds.plant c.round.new.plant c.rounds.world.world c.round.new.world.world round.0 round.4 round.2
    in
    let seen = subst (λ (s : Shows). shown s (map call_of now) c.set_in-standing.result.switches) before.3 round.6 in
    let called = subst (λ (l : List Call). shown after l c.set_in-standing.result.switches) (ap (map call_of) due) seen in
    let set = subst (λ (s : Switches). shown after (calls_in presses n) s) stands.is called in
    record {
      rounds = (
        before.0 ++ round.2,
        round.3 ∙ ap (λ l. l ++ round.2) before.1 ∙ append_assoc (g.O.Observer.text c.args.observer.now) before.0 round.2,
        before.2 ++ round.4,
        round.5 ∙ ap (behind_all round.4) before.3 ∙ sym (behind_both before.2 round.4 shows),
        rounds_next shows p c.rounds.world.program c.rounds.invariant.same (calls_in presses) (switches_in cars settings) c.rounds.number c.rounds.plant c.round.new.plant c.rounds.world.world c.round.new.world.world c.rounds.entries.items c.round.new.entries.items round.0
            before.2 round.4 before.0 round.2 before.4 round.1 set,
      );
      plant = subst (λ (x : Program). IsPlantOf (sizes_of x.config) c.round.new.plant) c.rounds.invariant.same c.in_ok-round.ensures.plant;
      closed = c.in_ok-round.ensures.closed;
      ahead =
          subst (IsAhead press_round (n + 1) presses) (sym c.split_at.ensures.back)
          (ahead_on press_round n (n + 1) presses c.rounds.ahead.now _ (omega arith) c.rounds.invariant.ahead c.presses_due-in-rounds.ensures.later);
      standing = stands;
      idle = λ on.
          elim c.if-idle.branch [
            | then-idle w ↦ c.in_ok-round.ensures.idle w.if-idle.true (none_left now w.is_empty-idle.result w.is_empty-idle.ensures (sym w.idle-is ∙ on))
            | else-idle w ↦ let no : false ≡ true = sym w.if-idle.false ∙ (sym w.idle-is ∙ on) in cc
          ];
      same = c.round.ensures.same ∙ c.rounds.invariant.same;
    }

pub returns-clause-rounds : goal.returns-clause-rounds
returns-clause-rounds g c =
    let config = c.args.world.now.program.config in
    let calls = calls_in c.args.drive.presses.now in
    let switches = switches_in (sizes_of config).cars c.args.drive.settings.now in
    let runs = subst (λ (p : Program). IsRunnable p.config) c.verified.ensures c.config-config.ensures.runnable in
    let all : c.rounds.number ≡ c.args.rounds = search rules in
    let seen = c.rounds.invariant.rounds in
    let shown = subst (λ n. RoundsShown (g.O.Observer.shows c.args.observer.now) config calls switches n c.rounds.plant c.rounds.world.world c.rounds.entries.items seen.2 seen.0) all seen.4 in (
      seen.0,
      seen.1,
      record {
        simulated = record {
          plant = c.rounds.plant;
          world = c.rounds.world.world;
          driven = shown.0;
          journal = rounds_are_journal config (sound_of config runs) calls switches c.args.rounds c.rounds.plant c.rounds.world.world c.rounds.entries.items shown.0;
          safe = rounds_keep_cars_safe config (sound_of config runs) calls switches c.args.rounds c.rounds.plant c.rounds.world.world c.rounds.entries.items shown.0;
        };
        is = shown.2;
      },
    )
