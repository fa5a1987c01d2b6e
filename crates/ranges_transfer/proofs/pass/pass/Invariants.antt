use Rattle.std.proofs.Common.{◌≡◌, ◌++◌}
use Rattle.ranges_transfer.specs.Tables.{IsAt}
use Rattle.ranges_transfer.specs.Seen.{arrived_at, shown_to}
use Rattle.ranges_transfer.proofs.pass.pass.Given as goal

-- the table, and what was written so far
abbrev pub invariant-loop-place : goal.invariant-loop-place
invariant-loop-place g l = record {
  at : IsAt g.F.Flow.join (g.F.Flow.moves l.flow) l.fn.entry l.count l.place l.waiting.items;
  text : g.O.Observer.text l.observer ≡ g.O.Observer.text l.initial.observer ++ shown_to (g.O.Observer.shows l.initial.observer) (arrived_at g.F.Flow.join (g.F.Flow.moves l.flow) l.fn.entry) l.place;
  shows : g.O.Observer.shows l.observer ≡ g.O.Observer.shows l.initial.observer;
}
