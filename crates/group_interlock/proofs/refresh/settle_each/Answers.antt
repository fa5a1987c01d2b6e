use Rattle.std.proofs.Common.{◌≡◌, ◌∙◌, ◌++◌, ◌∷◌, [], ap, ap₂, sym, length, length-set, arith, get_or, take, drop, ◌+◌, ◌<◌, ◌≤◌, ℕ, List, false, refl}
use Rattle.std.specs.Prelude.{nat_le}
use Rattle.std.proofs.lemmas.List.{take_more_set, drop-set-lt, get_or-drop, drop-drop}
use Rattle.group_interlock.proofs.Stepping.{outputs_more, denials_more, room_stays, all_outputs, all_denials, running_room}
use Rattle.group_spec.specs.Image.{running_cars, runs}
use Rattle.group_spec.specs.Bits.{flag}
use Rattle.group_spec.specs.Settle.{Settled, able_from, below, settled_running, settled_from}
use Rattle.group_spec.proofs.Running.{byte_flag, running_more}
use Rattle.group_interlock.proofs.RunningOn.{beside_is, crowd_same, none_on, next_on}
use Rattle.group_spec.specs.declared.image.CarFields.{CarFields}
use Rattle.group_spec.specs.declared.image.CarOutputs.{CarOutputs}
use Rattle.group_spec.specs.declared.image.Fields.{Fields}
use Rattle.group_spec.specs.declared.image.Motor.TheVariants.{Up}
use Rattle.group_interlock.specs.Beside.{settled_beside}
use Rattle.group_interlock.proofs.refresh.settle_each.Goals as goal

-- what is past the end of a slice
abbrev no_car : CarFields
no_car = record { pos = 0; level = false; top = false; bottom = false; locked = false; opened = false }

abbrev no_outputs : CarOutputs
no_outputs = record { motor = Up; opens = false }

-- an item of a part after
same_item : (xs ys : List CarOutputs) (i : ℕ) → drop i xs ≡ drop i ys → get_or xs i no_outputs ≡ get_or ys i no_outputs
same_item xs ys i is =
    let at : i + 0 ≡ i = omega arith in
    ap (λ n. get_or xs n no_outputs) (sym at) ∙ sym (get_or-drop i xs 0 no_outputs) ∙ ap (λ l. get_or l 0 no_outputs) is ∙ get_or-drop i ys 0 no_outputs ∙ ap (λ n. get_or ys n no_outputs) at

-- the rest after one more
next_rest : (xs ys : List CarOutputs) (i : ℕ) → drop i xs ≡ drop i ys → drop (i + 1) xs ≡ drop (i + 1) ys
next_rest xs ys i is = sym (drop-drop 1 i xs) ∙ ap (drop 1) is ∙ drop-drop 1 i ys

-- how many run, with one more
counted : (after new : List CarOutputs) (told : CarOutputs) (running own : ℕ) → running ≡ length (running_cars after) → own ≡ flag (runs told.motor) → new ≡ after ++ told ∷ [] → running + own ≡ length (running_cars new)
counted after new told running own before is grown = ap₂ (λ a b. a + b) before is ∙ sym (running_more after told) ∙ ap (λ xs. length (running_cars xs)) (sym grown)

pub loop-index-init : goal.loop-index-init
loop-index-init c =
    let group : Fields = c.args.fields.now in
    let cars : List CarFields = c.as_slice-cars.result.now in
    let before : List CarOutputs = c.args.outputs.now in
    let able : List ℕ = able_from group.fire 1 cars before in
    record {
      outputs = refl;
      denials = ap (λ xs. xs ++ (settled_from group able 1 cars before).denials) c.clear.ensures;
      rest = refl;
      long = refl;
      ran = none_on group.fire group.run_limit cars before;
      count = refl;
      room = omega (arith, ap length c.clear.ensures);
    }

pub loop-index-preserved : goal.loop-index-preserved
loop-index-preserved c =
    let group : Fields = c.args.fields.now in
    let cars : List CarFields = c.as_slice-cars.result.now in
    let before : List CarOutputs = c.args.outputs.now in
    let now : List CarOutputs = c.loop-index.outputs in
    let able : List ℕ = able_from group.fire 1 cars before in
    let i : ℕ = c.loop-index.index in
    let f : CarFields = get_or cars i no_car in
    let o : CarOutputs = get_or before i no_outputs in
    let own : get_or now i no_outputs ≡ o = same_item now before i c.loop-index.invariant.rest in
    let one : c.settle_running-settled.result ≡ settled_running group able (i + 1) f o =
    c.settle_running-settled.ensures ∙ ap (settled_beside group c.loop-index.running f) (ap (λ xs. get_or xs i no_outputs) c.as_slice.ensures ∙ own)
    ∙ beside_is group able (i + 1) c.loop-index.running f o (ap (nat_le group.run_limit) c.loop-index.invariant.count ∙ crowd_same group.run_limit (length (below (i + 1) able)) (length (running_cars (take i now))) c.loop-index.invariant.ran) in
    let told : c.settled.inside.outputs ≡ (settled_running group able (i + 1) f o).outputs = ap (λ (s : Settled). s.outputs) c.settled.view_is ∙ ap (λ (s : Settled). s.outputs) one in
    let rules : c.as_slice-in-loop-index.result.now ≡ (settled_running group able (i + 1) f o).denials = c.as_slice-in-loop-index.ensures ∙ ap (λ (s : Settled). s.denials) c.settled.view_is ∙ ap (λ (s : Settled). s.denials) one in
    let as_many : length before ≡ length cars = c.requires ∙ ap length (sym c.as_slice-cars.ensures) in
    let all : length cars ≡ length c.args.fields.now.cars = ap length c.as_slice-cars.ensures in
    let below_all : i < length cars = omega (arith, c.loop-index-test.true, c.len-count.ensures.count, all) in
    let within : i < length now = omega (arith, below_all, as_many, c.loop-index.invariant.long) in
    let grown : take (i + 1) c.replace.new.outputs ≡ take i now ++ c.settled.inside.outputs ∷ [] = ap (take (i + 1)) c.replace.ensures ∙ take_more_set now i c.settled.inside.outputs within in
    record {
      outputs = outputs_more group able cars before i no_car no_outputs (take i now) (take (i + 1) c.replace.new.outputs) _ c.settled.inside.outputs below_all as_many told grown c.loop-index.invariant.outputs;
      denials = denials_more group able cars before i no_car no_outputs _ _ _ _ below_all as_many rules c.add_denials.ensures c.loop-index.invariant.denials;
      rest = ap (drop (i + 1)) c.replace.ensures ∙ drop-set-lt (i + 1) now i c.settled.inside.outputs (omega arith) ∙ next_rest now before i c.loop-index.invariant.rest;
      long = ap length c.replace.ensures ∙ length-set now i c.settled.inside.outputs ∙ c.loop-index.invariant.long;
      ran = next_on group cars before (take i now) (take (i + 1) c.replace.new.outputs) i no_car no_outputs c.settled.inside.outputs below_all as_many told grown c.loop-index.invariant.ran;
      count = counted (take i now) (take (i + 1) c.replace.new.outputs) c.settled.inside.outputs c.loop-index.running _ c.loop-index.invariant.count (c.from-running.ensures ∙ byte_flag _ ∙ ap flag c.runs.ensures) grown;
      room = room_stays group able (i + 1) f o _ _ _ i rules c.add_denials.ensures c.loop-index.invariant.room;
    }

pub overflow_add-running : goal.overflow_add-running
overflow_add-running c =
    let all : length c.as_slice-cars.result.now ≡ length c.args.fields.now.cars = ap length c.as_slice-cars.ensures in
    let within : c.loop-index.index ≤ length c.loop-index.outputs = omega (arith, c.loop-index-test.true, c.len-count.ensures.count, all, c.requires, c.loop-index.invariant.long) in
    omega (arith, running_room c.loop-index.outputs c.loop-index.index c.len-count.result c.loop-index.running c.from-running.result c.runs.result c.loop-index-test.true (omega (arith, c.len-count.ensures)) c.loop-index.invariant.count c.from-running.ensures within)

pub returns-clause-outputs : goal.returns-clause-outputs
returns-clause-outputs c =
    let cars : List CarFields = c.as_slice-cars.result.now in
    let all : length cars ≡ length c.args.fields.now.cars = ap length c.as_slice-cars.ensures in
    all_outputs c.args.fields.now cars c.args.outputs.now c.loop-index.outputs c.loop-index.index c.as_slice-cars.ensures (omega (arith, c.requires, all)) c.loop-index.invariant.long (omega (arith, c.loop-index-test.false, c.len-count.ensures.count, all)) c.loop-index.invariant.outputs

pub returns-clause-denials : goal.returns-clause-denials
returns-clause-denials c =
    let cars : List CarFields = c.as_slice-cars.result.now in
    let all : length cars ≡ length c.args.fields.now.cars = ap length c.as_slice-cars.ensures in
    all_denials c.args.fields.now cars c.args.outputs.now c.loop-index.denials c.loop-index.index c.as_slice-cars.ensures (omega (arith, c.loop-index-test.false, c.len-count.ensures.count, all)) c.loop-index.invariant.denials
