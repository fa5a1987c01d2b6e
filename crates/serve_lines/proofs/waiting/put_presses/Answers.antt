use Rattle.std.proofs.Common.{List, [], ◌∷◌, ◌++◌, ap, sym, ◌∙◌, append-nil, map, string_bytes}
use Rattle.std.proofs.lemmas.List.{append_assoc}
use Rattle.group_spec.specs.declared.calls.Call.{Call}
use Rattle.group_spec.specs.declared.trace.TraceEvent.TheVariants.{Press}
use Rattle.trace_text.specs.Writing.{events_text}
use Rattle.trace_text.proofs.Writes.{presses_on, nothing_left}
use Rattle.serve_lines.proofs.waiting.put_presses.Goals as goal

pub calls-preserved : goal.calls-preserved
calls-preserved c =
    ap (λ l. l ++ events_text (map Press c.take_first.new.self)) c.in_ok-put_press.ensures
    ∙ append_assoc (string_bytes c.calls.text) (events_text (Press c.in-Some.call ∷ [])) (events_text (map Press c.take_first.new.self))
    ∙ ap (λ l. string_bytes c.calls.text ++ l) (sym (presses_on c.calls.rest c.take_first.new.self c.in-Some.call c.in-Some.ensures.first c.in-Some.ensures.rest))
    ∙ c.calls.invariant

pub returns : goal.returns
returns c =
    let none = nothing_left c.calls.rest (sym c.take_first.ensures.first ∙ c.in_default.is) in
    sym (append-nil (string_bytes c.calls.text)) ∙ ap (λ (calls : List Call). string_bytes c.calls.text ++ events_text (map Press calls)) (sym none) ∙ c.calls.invariant
