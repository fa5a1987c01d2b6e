use Rattle.std.proofs.Common.{ℕ, refl, List, [], ◌∷◌, ◌++◌, ap, sym, ◌∙◌, arith, append-nil, length, map, string_bytes}
use Rattle.std.proofs.lemmas.List.{append_assoc}
use Rattle.group_spec.specs.declared.calls.Call.{Call}
use Rattle.group_spec.specs.declared.trace.TraceEvent.TheVariants.{Gather}
use Rattle.group_spec.specs.Hands.{floors_after}
use Rattle.trace_text.specs.Writing.{events_text}
use Rattle.trace_text.proofs.Writes.{gathers_on, floors_other, one_less, nothing_left, floor_same}
use Rattle.serve_lines.proofs.waiting.put_floors.Goals as goal

pub calls-preserved-in_ok-put_gather : goal.calls-preserved-in_ok-put_gather
calls-preserved-in_ok-put_gather c =
    let floors = floors_other c.calls.last c.calls.rest c.take_first.new.self c.in-Some.call c.in-Some.ensures.first c.in-Some.ensures.rest c.if-call-last.true in
    let calls = one_less c.calls.rest c.take_first.new.self c.in-Some.call c.in-Some.ensures.first c.in-Some.ensures.rest in
    let so_far = c.calls.invariant.counted in
    let few = c.calls.invariant.few in
    record {
      text =
          ap (λ l. l ++ events_text (map Gather (floors_after c.in-Some.call.from c.take_first.new.self))) c.in_ok-put_gather.ensures
          ∙ append_assoc (string_bytes c.calls.text) (events_text (Gather c.in-Some.call.from ∷ [])) (events_text (map Gather (floors_after c.in-Some.call.from c.take_first.new.self)))
          ∙ ap (λ l. string_bytes c.calls.text ++ l) (sym (gathers_on c.calls.last c.calls.rest c.take_first.new.self c.in-Some.call c.in-Some.ensures.first c.in-Some.ensures.rest c.if-call-last.true)) ∙ c.calls.invariant.text;
      counted = omega arith;
      few = omega arith;
      bound = c.calls.invariant.bound;
    }

pub returns-clause-text : goal.returns-clause-text
returns-clause-text c =
    let none = nothing_left c.calls.rest (sym c.take_first.ensures.first ∙ c.in_default.is) in
    sym (append-nil (string_bytes c.calls.text)) ∙ ap (λ (calls : List Call). string_bytes c.calls.text ++ events_text (map Gather (floors_after c.calls.last calls))) (sym none) ∙ c.calls.invariant.text

pub returns-clause-count : goal.returns-clause-count
returns-clause-count c =
    let none = nothing_left c.calls.rest (sym c.take_first.ensures.first ∙ c.in_default.is) in
    let left = ap (λ (calls : List Call). length (floors_after c.calls.last calls)) none in
    let counted = c.calls.invariant.counted in
    omega (arith, left, counted)

pub returns-clause-fits : goal.returns-clause-fits
returns-clause-fits c = let few = c.calls.invariant.few in let bound = c.calls.invariant.bound in omega (arith, few, bound)

pub calls-preserved : goal.calls-preserved
calls-preserved c =
    let same = floor_same c.calls.last c.calls.rest c.in-Some.call (sym c.in-Some.ensures.first) c.if-call-last.false ∙ ap (floors_after c.in-Some.call.from) (sym c.in-Some.ensures.rest) in
    let floors = ap length same in
    let calls = one_less c.calls.rest c.take_first.new.self c.in-Some.call c.in-Some.ensures.first c.in-Some.ensures.rest in
    let so_far = c.calls.invariant.counted in
    let few = c.calls.invariant.few in
    record {
      text = ap (λ (fs : List ℕ). string_bytes c.calls.text ++ events_text (map Gather fs)) (sym same) ∙ c.calls.invariant.text;
      counted = omega (arith, floors, so_far);
      few = omega (arith, calls, few);
      bound = c.calls.invariant.bound;
    }

pub calls-init : goal.calls-init
calls-init c = record { text = refl; counted = omega arith; few = omega arith; bound = c.requires.few }
