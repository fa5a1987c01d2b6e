use Rattle.std.proofs.Common.{List, ℕ, ◌++◌, refl, ap, ◌∙◌, subst, append_assoc}
use Rattle.std.specs.Prelude.{codes}
use Rattle.show_calls.specs.Summaries.{AreOrdered, counts_text, figures_text}
use Rattle.show_calls.proofs.summary.summary_text.Goals as goal

pub returns : goal.returns
returns c =
    let waiting : List ℕ = codes "waiting time" ++ figures_text c.put_times.new.times in
    let journey : List ℕ = codes "journey time" ++ figures_text c.put_times-2.new.times in
    let counts : List ℕ = counts_text c.args.pressed c.args.journeys.now in
    record {
      waiting = waiting;
      waiting_is = record { ordered = c.put_times.new.times; are = subst (λ l. AreOrdered l c.put_times.new.times) (c.deref_mut.ensures.value ∙ c.in_ok-waiting.ensures) c.in_ok-put_times.ensures.order; is = refl };
      journey = journey;
      journey_is = record { ordered = c.put_times-2.new.times; are = subst (λ l. AreOrdered l c.put_times-2.new.times) (c.deref_mut-2.ensures.value ∙ c.in_ok-taken.ensures) c.in_ok-put_times-2.ensures.order; is = refl };
      is =
          c.in_ok-put_times-2.ensures.text ∙ ap (λ l. l ++ journey) (c.in_ok-put_times.ensures.text ∙ ap (λ l. l ++ waiting) (c.in_ok-put_counts.ensures ∙ ap (λ l. l ++ counts) c.new-text.ensures.bytes))
          ∙ append_assoc counts waiting journey;
    }
