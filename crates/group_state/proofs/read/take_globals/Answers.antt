use Rattle.std.proofs.Common.{ℕ, ◌+◌, ◌<◌, ◌∙◌, List, Some, length, drop, refl, subst, ap, arith}
use Rattle.std.specs.Borrow.{Bor}
use Rattle.base_maps.specs.NameMap.{insert}
use Rattle.il_semantics.specs.declared.value.Value.{Value}
use Rattle.il_semantics.specs.Scan.{opening_globals}
use Rattle.il_semantics.specs.State.{Values}
use Rattle.load_slots.specs.declared.flat.Cell.{Cell}
use Rattle.group_spec.specs.World.{Group}
use Rattle.group_state.specs.Text.{global_path}
use Rattle.group_state.specs.Variables.{IsAbsent, TakesVariable, TakesVariables, RefusesVariables, reached}
use Rattle.group_state.proofs.Walks.{at_place, breaks_at, passes, passes_wrong, gives, gives_wrong}
use Rattle.group_state.proofs.Readings.{global_first}
use Rattle.group_state.proofs.Again.{globals_again, variable_shorter, some_taken, none_taken}
use Rattle.group_state.proofs.read.take_globals.Goals as goal

pub returns-in-Err-clause-wrong : goal.returns-in-Err-clause-wrong
returns-in-Err-clause-wrong c =
    let config = c.args.verified.now.config in
    let x = c.index-cells-at.result in
    let cells = c.globals-cells.result.now in
    let first =
    global_first config c.config-config.ensures.runnable cells c.opening_globals-first.result.now c.cells.at x c.cells-test.true c.index-cells-at.is c.first_value-initial.result c.first_value-initial.ensures c.globals-cells.ensures
    c.opening_globals-first.ensures.fits c.opening_globals-first.ensures.opening in
    subst (λ (xs : List Cell). RefusesVariables global_path (opening_globals config) xs c.args.from.rest.now c.args.from.line (record { fault = c.in-Err.fault; line = c.cells.line })) c.globals-cells.ensures
    (c.cells.invariant.wrong _
    (breaks_at global_path (opening_globals config) cells c.cells.at (c.cells.at + 1) x (at_place cells c.cells.at x c.cells-test.true c.index-cells-at.is) refl (Some c.first_value-initial.result) first c.cells.rest.now
    c.cells.line _ (refl, c.in-Err.ensures.wrong)))

pub cells-preserved : goal.cells-preserved
cells-preserved c =
    let config = c.args.verified.now.config in
    let x = c.index-cells-at.result in
    let k = c.cells.at in
    let cells = c.globals-cells.result.now in
    let v = c.first_value-initial.result in
    let text = c.cells.rest.now in
    let behind = c.in-Some.behind.now in
    let value = c.in-Some.value in
    let there = at_place cells k x c.cells-test.true c.index-cells-at.is in
    let first =
    global_first config c.config-config.ensures.runnable cells c.opening_globals-first.result.now k x c.cells-test.true c.index-cells-at.is v c.first_value-initial.ensures c.globals-cells.ensures
    c.opening_globals-first.ensures.fits c.opening_globals-first.ensures.opening in
    let takes : TakesVariable x.path x.scalar (Some v) text value behind =
    some_taken {X = Value × Bor (List ℕ)} (IsAbsent x.path text) (λ p. TakesVariable x.path x.scalar (Some v) text p.0 p.1.now) c.in-Ok.taken (value, c.in-Some.behind) c.in-Some.is c.in-Ok.ensures.found in
    let room : c.cells.line + length text < 18446744073709551616 = c.cells.invariant.room in
    let shorter : length behind < length text = variable_shorter x.path x.scalar (Some v) text behind value takes in
    record {
      config = c.set_global.ensures.config ∙ c.cells.invariant.config;
      group = globals_again c.args.core.now.group c.cells.core.group c.set_global.new.core.group (insert c.cells.core.group.globals x.path value) c.cells.invariant.group c.set_global.ensures.group;
      split = c.split-next-in-cells.ensures;
      room = omega (arith, room, shorter);
      more = λ to h.
          c.cells.invariant.more to
          (gives global_path (opening_globals config) cells k (k + 1) x there refl (Some v) first c.cells.core.group.globals text behind c.cells.line value to takes
          (subst (λ (vs : Values). TakesVariables global_path (opening_globals config) (drop (k + 1) cells) (reached vs behind (c.cells.line + 1)) to) (ap (λ (g : Group). g.globals) c.set_global.ensures.group) h));
      wrong = λ wrong h. c.cells.invariant.wrong wrong (gives_wrong global_path (opening_globals config) cells k (k + 1) x there refl (Some v) first text behind c.cells.line value wrong takes h);
    }

pub cells-preserved-in_default : goal.cells-preserved-in_default
cells-preserved-in_default c =
    let config = c.args.verified.now.config in
    let x = c.index-cells-at.result in
    let k = c.cells.at in
    let cells = c.globals-cells.result.now in
    let v = c.first_value-initial.result in
    let text = c.cells.rest.now in
    let there = at_place cells k x c.cells-test.true c.index-cells-at.is in
    let absent : IsAbsent x.path text =
    none_taken {X = Value × Bor (List ℕ)} (IsAbsent x.path text) (λ p. TakesVariable x.path x.scalar (Some v) text p.0 p.1.now) c.in-Ok.taken c.in_default.is c.in-Ok.ensures.found in
    record {
      config = c.cells.invariant.config;
      group = c.cells.invariant.group;
      split = c.cells.invariant.split;
      room = c.cells.invariant.room;
      more = λ to h. c.cells.invariant.more to (passes global_path (opening_globals config) cells k (k + 1) x there refl (reached c.cells.core.group.globals text c.cells.line) to absent h);
      wrong = λ wrong h. c.cells.invariant.wrong wrong (passes_wrong global_path (opening_globals config) cells k (k + 1) x there refl text c.cells.line wrong absent h);
    }
