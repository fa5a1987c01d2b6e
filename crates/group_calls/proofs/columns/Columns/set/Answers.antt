use Rattle.std.proofs.Common.{rules, ◌∙◌, sym, arith, subst, ◌<◌}
use Rattle.group_calls.proofs.Four.{replaced, same_long}
use Rattle.group_calls.proofs.columns.Columns.set.Goals as goal

pub returns : goal.returns
returns c = λ slots is.
    replaced c.self.inside.count c.from-count.result c.args.index c.self.inside.numbers c.write_four.new.row c.self.inside.flags c.write_four-2.new.row c.self.inside.tickets c.args.place
    c.from_of.result c.to_of.result c.car_of.result c.waits.result c.ticket_of.result slots c.from-count.ensures c.self.invariant (omega arith)
    (subst (λ n. c.args.index < n) (same_long c.requires.0 slots (sym c.requires.1 ∙ is)) c.requires.2) (c.self.view_is ∙ is)
    c.from_of.ensures c.to_of.ensures c.car_of.ensures c.waits.ensures c.ticket_of.ensures (search rules) (search rules)
