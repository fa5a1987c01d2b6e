use Rattle.std.proofs.Common.{refl, sym, ◌∙◌, ◌≡◌, arith}
use Rattle.std.proofs.lemmas.List.{append-nil}
use Rattle.ranges_transfer.proofs.Tables.{at_fine, at_ahead, fresh_is, stepped_on, stepped_off, gone_over}
use Rattle.ranges_transfer.proofs.Seen.{shown_more, stopped_showing, over_showing}
use Rattle.ranges_transfer.proofs.pass.pass.Goals as goal

pub loop-place-init : goal.loop-place-init
loop-place-init g c = record {
  at = fresh_is g.F.Flow.join (g.F.Flow.moves c.args.flow.now) c.args.entry c.args.count c.in_ok-waiting.waiting.items c.in_ok-waiting.ensures;
  text = sym (append-nil (g.O.Observer.text c.args.observer.now));
  shows = refl;
}

pub returns-then-is_some-clause-passed : goal.returns-then-is_some-clause-passed
returns-then-is_some-clause-passed g c =
    stepped_off g.F.Flow.join (g.F.Flow.moves c.args.flow.now) (g.F.Flow.refuses c.args.flow.now) c.args.entry c.args.count c.loop-place.place c.loop-place.waiting.items c.step.new.waiting.items c.in_ok-refused.refused c.loop-place-test.true c.loop-place.invariant.at c.in_ok-refused.ensures (sym c.is_some.ensures ∙ c.if-is_some.true)

pub returns-then-is_some-clause-shown : goal.returns-then-is_some-clause-shown
returns-then-is_some-clause-shown g c =
    stopped_showing g.F.Flow.join (g.F.Flow.moves c.args.flow.now) (g.F.Flow.refuses c.args.flow.now) c.args.entry c.args.count c.loop-place.place c.loop-place.waiting.items c.step.new.waiting.items (g.O.Observer.shows c.args.observer.now) (g.O.Observer.text c.args.observer.now) (g.O.Observer.text c.see.new.self) c.in_ok-refused.refused c.loop-place-test.true c.loop-place.invariant.at c.in_ok-refused.ensures (sym c.is_some.ensures ∙ c.if-is_some.true)
    (shown_more g.F.Flow.join (g.F.Flow.moves c.args.flow.now) c.args.entry c.args.count c.loop-place.place c.loop-place.waiting.items (g.O.Observer.shows c.args.observer.now) (g.O.Observer.shows c.loop-place.observer) c.index.result.now (g.O.Observer.text c.args.observer.now) (g.O.Observer.text c.loop-place.observer) (g.O.Observer.text c.see.new.self) c.loop-place.invariant.at c.loop-place-test.true c.index.ensures c.loop-place.invariant.shows c.loop-place.invariant.text c.in_ok-see.ensures.text)

pub loop-place-preserved : goal.loop-place-preserved
loop-place-preserved g c = record {
  at = stepped_on g.F.Flow.join (g.F.Flow.moves c.args.flow.now) (g.F.Flow.refuses c.args.flow.now) c.args.entry c.args.count c.loop-place.place c.loop-place.waiting.items c.step.new.waiting.items c.in_ok-refused.refused c.loop-place.invariant.at c.in_ok-refused.ensures (sym c.is_some.ensures ∙ c.if-is_some.false);
  text = shown_more g.F.Flow.join (g.F.Flow.moves c.args.flow.now) c.args.entry c.args.count c.loop-place.place c.loop-place.waiting.items (g.O.Observer.shows c.args.observer.now) (g.O.Observer.shows c.loop-place.observer) c.index.result.now (g.O.Observer.text c.args.observer.now) (g.O.Observer.text c.loop-place.observer) (g.O.Observer.text c.see.new.self) c.loop-place.invariant.at c.loop-place-test.true c.index.ensures c.loop-place.invariant.shows c.loop-place.invariant.text c.in_ok-see.ensures.text;
  shows = c.in_ok-see.ensures.same ∙ c.loop-place.invariant.shows;
}

pub returns-clause-passed : goal.returns-clause-passed
returns-clause-passed g c = gone_over g.F.Flow.join (g.F.Flow.moves c.args.flow.now) c.args.entry c.args.count c.loop-place.place c.loop-place.waiting.items c.loop-place.invariant.at (omega (arith, c.loop-place-test.false, c.loop-place.auto.place-end))

pub returns-clause-shown : goal.returns-clause-shown
returns-clause-shown g c =
    let all : c.loop-place.place ≡ c.args.count = omega (arith, c.loop-place-test.false, c.loop-place.auto.place-end) in (
      gone_over g.F.Flow.join (g.F.Flow.moves c.args.flow.now) c.args.entry c.args.count c.loop-place.place c.loop-place.waiting.items c.loop-place.invariant.at all,
      over_showing g.F.Flow.join (g.F.Flow.moves c.args.flow.now) c.args.entry c.args.count c.loop-place.place c.loop-place.waiting.items (g.O.Observer.shows c.args.observer.now) (g.O.Observer.text c.args.observer.now) (g.O.Observer.text c.loop-place.observer) c.loop-place.invariant.at all c.loop-place.invariant.text,
    )

pub step-requires-clause-fine : goal.step-requires-clause-fine
step-requires-clause-fine g c =
    at_fine g.F.Flow.join (g.F.Flow.moves c.args.flow.now) (g.F.Flow.takes c.args.flow.now) c.args.entry c.args.count c.loop-place.place c.loop-place.waiting.items c.requires.fine c.loop-place.invariant.at c.loop-place-test.true

pub step-requires-clause-ahead : goal.step-requires-clause-ahead
step-requires-clause-ahead g c =
    at_ahead g.F.Flow.join (g.F.Flow.moves c.args.flow.now) c.args.entry c.args.count c.loop-place.place c.loop-place.waiting.items c.requires.ahead c.loop-place.invariant.at c.loop-place-test.true
