use Rattle.std.proofs.Common.{◌≡◌, ℕ, ◌++◌, ◌∷◌, [], List, Some, take, length, slice_get, refl, sym, ap, subst, ◌∙◌, arith}
use Rattle.std.proofs.lemmas.List.{take_all}
use Rattle.group_spec.specs.declared.trace.TraceEvent.{TraceEvent}
use Rattle.trace_text.proofs.Left.{take_next, within_list}
use Rattle.trace_text.proofs.trace.Trace.to_vec.Goals as goal

pub events-init : goal.events-init
events-init c = (ap (λ (v : List TraceEvent × ℕ). v.0) c.events-events.ensures, c.new-list.ensures.items ∙ sym (ap (λ (v : List TraceEvent × ℕ). take v.1 c.args.self.now) c.events-events.ensures))

pub events-smaller : goal.events-smaller
events-smaller c =
    omega (arith, ap (λ (es : List TraceEvent). length es) c.next.ensures.all, c.in-Some.ensures.moves, within_list c.events.events.0 c.events.events.1 c.in-Some.event c.in-Some.ensures.found)

pub events-preserved : goal.events-preserved
events-preserved c =
    let there : slice_get c.args.self.now c.events.events.1 ≡ Some c.in-Some.event = subst (λ (es : List TraceEvent). slice_get es c.events.events.1 ≡ Some c.in-Some.event) c.events.invariant.0 c.in-Some.ensures.found in (
      c.next.ensures.all ∙ c.events.invariant.0,
      c.in_ok-push.ensures.items ∙ ap (λ (es : List TraceEvent). es ++ c.in-Some.event ∷ []) c.events.invariant.1 ∙ sym (take_next c.args.self.now c.events.events.1 c.in-Some.event there)
          ∙ ap (λ (n : ℕ). take n c.args.self.now) (sym c.in-Some.ensures.moves),
    )

pub returns : goal.returns
returns c =
    c.events.invariant.1 ∙ ap (λ (n : ℕ). take n c.args.self.now) (c.in_default.ensures.found ∙ ap (λ (es : List TraceEvent). length es) c.events.invariant.0) ∙ take_all (length c.args.self.now) c.args.self.now (omega arith)
