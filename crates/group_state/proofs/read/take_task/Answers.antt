use Rattle.std.proofs.Common.{◌≡◌, ℕ, ◌+◌, ◌<◌, List, Some, length, refl, subst, arith}
use Rattle.std.specs.Borrow.{Bor}
use Rattle.std.proofs.lemmas.Option.{same_Some}
use Rattle.std.proofs.Common.{sym, ◌∙◌}
use Rattle.il_syntax.specs.declared.tree.Unit.{Unit as ProgramUnit}
use Rattle.base_maps.specs.NameMap.{get, insert}
use Rattle.il_semantics.specs.declared.value.Value.{Value}
use Rattle.il_semantics.specs.Scan.{opening_variables}
use Rattle.group_spec.specs.Snapshot.{program_of}
use Rattle.group_spec.specs.World.{task_at, opening_task}
use Rattle.group_state.specs.Text.{task_path}
use Rattle.group_state.specs.Variables.{reached, left, at_rest, IsAbsent, TakesVariable, TakesVariables}
use Rattle.group_state.proofs.Steps.{task_fits}
use Rattle.group_state.proofs.Walks.{at_place, breaks_at, passes, passes_wrong, gives, gives_wrong, walked, task_taken, task_refused}
use Rattle.group_state.proofs.Readings.{own_first, some_is, task_set, opened_again}
use Rattle.group_state.proofs.Again.{variables_again, variable_shorter, some_taken, none_taken}
use Rattle.group_state.proofs.read.take_task.Goals as goal

pub cells-init : goal.cells-init
cells-init c =
    let config = c.args.verified.now.config in
    let t = c.args.task in
    let u = c.requires.there.0 in
    let program = c.requires.there.1.program in
    let cells = c.own_cells-cells.result.now in
    record {
      config = refl;
      split = c.split-next.ensures;
      room = c.requires.room;
      task = (
        opening_variables config u,
        opened_again config c.args.core.now.group t u program c.requires.opened,
        λ w is to h.
            subst (λ (y : ProgramUnit). TakesVariables (task_path t) (opening_variables config w) cells (reached (opening_variables config y) c.args.from.rest.now c.args.from.line) to) (same_Some u w (sym program ∙ is)) h,
      );
      wrong = λ w is wrong h. h;
    }

pub take_variable-requires-clause-owner : goal.take_variable-requires-clause-owner
take_variable-requires-clause-owner c = task_fits c.args.verified.now.config c.args.verified.now.config refl c.config-config.ensures.runnable c.args.task c.requires.there

pub set_variable-requires-clause-there : goal.set_variable-requires-clause-there
set_variable-requires-clause-there c =
    let now = c.cells.invariant.task in
    some_is (task_at c.cells.core.group c.args.task) (at_rest now.0)
    (task_set c.args.core.now.group c.cells.core.group c.args.task (opening_task c.args.verified.now.config (program_of c.args.verified.now.config c.args.task)) (at_rest now.0) c.requires.opened now.1)

pub returns-in-Err-clause-wrong : goal.returns-in-Err-clause-wrong
returns-in-Err-clause-wrong c =
    let config = c.args.verified.now.config in
    let t = c.args.task in
    let u = c.requires.there.0 in
    let program = c.requires.there.1.program in
    let x = c.index-cells-at.result in
    let cells = c.own_cells-cells.result.now in
    let own = c.own_cells-cells.ensures u program in
    let first =
    own_first config c.config-config.ensures.runnable cells c.opening_variables-first.result.now c.cells.at x c.cells-test.true c.index-cells-at.is c.first_value-initial.result c.first_value-initial.ensures t u program own
    c.opening_variables-first.ensures.fits (c.opening_variables-first.ensures.variables u program) in
    task_refused config t u (program_of config t) (left c.args.from.rest.now c.args.from.line) _ cells program own
    (c.cells.invariant.wrong u program _
    (breaks_at (task_path t) (opening_variables config u) cells c.cells.at (c.cells.at + 1) x (at_place cells c.cells.at x c.cells-test.true c.index-cells-at.is) refl (Some c.first_value-initial.result) first
    c.cells.rest.now c.cells.line _ (refl, c.in-Err.ensures.wrong)))

pub cells-preserved : goal.cells-preserved
cells-preserved c =
    let config = c.args.verified.now.config in
    let t = c.args.task in
    let x = c.index-cells-at.result in
    let k = c.cells.at in
    let cells = c.own_cells-cells.result.now in
    let v = c.first_value-initial.result in
    let text = c.cells.rest.now in
    let behind = c.in-Some.behind.now in
    let value = c.in-Some.value in
    let there = at_place cells k x c.cells-test.true c.index-cells-at.is in
    let first : (w : ProgramUnit) → program_of config t ≡ Some w → Some v ≡ get (opening_variables config w) x.path =
    λ w is.
    own_first config c.config-config.ensures.runnable cells c.opening_variables-first.result.now k x c.cells-test.true c.index-cells-at.is v c.first_value-initial.ensures t w is (c.own_cells-cells.ensures w is)
    c.opening_variables-first.ensures.fits (c.opening_variables-first.ensures.variables w is) in
    let takes : TakesVariable (task_path t x.path) x.scalar (Some v) text value behind =
    some_taken {X = Value × Bor (List ℕ)} (IsAbsent (task_path t x.path) text) (λ p. TakesVariable (task_path t x.path) x.scalar (Some v) text p.0 p.1.now) c.in-Ok.taken (value, c.in-Some.behind) c.in-Some.is
    c.in-Ok.ensures.found in
    let room : c.cells.line + length text < 18446744073709551616 = c.cells.invariant.room in
    let shorter : length behind < length text = variable_shorter (task_path t x.path) x.scalar (Some v) text behind value takes in
    let now = c.cells.invariant.task in
    let old = c.args.core.now.group in
    let held = task_set old c.cells.core.group t (opening_task config (program_of config t)) (at_rest now.0) c.requires.opened now.1 in
    let values = insert now.0 x.path value in
    record {
      config = c.set_variable.ensures.config ∙ c.cells.invariant.config;
      split = c.split-next-in-cells.ensures;
      room = omega (arith, room, shorter);
      task = (
        values,
        variables_again old c.cells.core.group c.set_variable.new.core.group t now.0 values now.1 (c.set_variable.ensures.group (at_rest now.0) held),
        λ w is to h. now.2 w is to (gives (task_path t) (opening_variables config w) cells k (k + 1) x there refl (Some v) (first w is) now.0 text behind c.cells.line value to takes h),
      );
      wrong = λ w is wrong h. c.cells.invariant.wrong w is wrong (gives_wrong (task_path t) (opening_variables config w) cells k (k + 1) x there refl (Some v) (first w is) text behind c.cells.line value wrong takes h);
    }

pub cells-preserved-in_default : goal.cells-preserved-in_default
cells-preserved-in_default c =
    let config = c.args.verified.now.config in
    let t = c.args.task in
    let x = c.index-cells-at.result in
    let k = c.cells.at in
    let cells = c.own_cells-cells.result.now in
    let v = c.first_value-initial.result in
    let text = c.cells.rest.now in
    let there = at_place cells k x c.cells-test.true c.index-cells-at.is in
    let absent : IsAbsent (task_path t x.path) text =
    none_taken {X = Value × Bor (List ℕ)} (IsAbsent (task_path t x.path) text) (λ p. TakesVariable (task_path t x.path) x.scalar (Some v) text p.0 p.1.now) c.in-Ok.taken c.in_default.is c.in-Ok.ensures.found in
    let now = c.cells.invariant.task in
    record {
      config = c.cells.invariant.config;
      split = c.cells.invariant.split;
      room = c.cells.invariant.room;
      task = (now.0, now.1, λ w is to h. now.2 w is to (passes (task_path t) (opening_variables config w) cells k (k + 1) x there refl (reached now.0 text c.cells.line) to absent h));
      wrong = λ w is wrong h. c.cells.invariant.wrong w is wrong (passes_wrong (task_path t) (opening_variables config w) cells k (k + 1) x there refl text c.cells.line wrong absent h);
    }

pub returns-clause-found : goal.returns-clause-found
returns-clause-found c =
    let config = c.args.verified.now.config in
    let t = c.args.task in
    let u = c.requires.there.0 in
    let program = c.requires.there.1.program in
    let cells = c.own_cells-cells.result.now in
    let now = c.cells.invariant.task in
    record {
      task = Some (at_rest now.0);
      takes =
          task_taken config t u (program_of config t) (left c.args.from.rest.now c.args.from.line) (left c.cells.rest.now c.cells.line) now.0 cells program (c.own_cells-cells.ensures u program)
          (now.2 u program (reached now.0 c.cells.rest.now c.cells.line) (walked (task_path t) (opening_variables config u) cells c.cells.at (reached now.0 c.cells.rest.now c.cells.line) c.cells-test.false));
      others = now.1;
    }
