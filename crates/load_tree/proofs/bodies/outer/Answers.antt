use Rattle.std.proofs.Common.{refl, sym, ap, ◌∙◌}
use Rattle.load_lines.specs.Lead.{lead_at}
use Rattle.load_lines.proofs.ByError.{up_by}
use Rattle.load_lines.proofs.Breaks.{memory_breaks}
use Rattle.load_tree.specs.Bodies.{SpellsNextBy}
use Rattle.load_tree.proofs.Entries.{outer_refused}
use Rattle.load_tree.proofs.Ahead.{up_so}
use Rattle.load_tree.proofs.Begun.{outer_breaks, plainly}
use Rattle.load_tree.proofs.Late.{late_memory}
use Rattle.load_tree.proofs.LateBodies.{outer_late}
use Rattle.load_tree.proofs.bodies.outer.Goals as goal

pub returns-in-Some-clause-reads : goal.returns-in-Some-clause-reads
returns-in-Some-clause-reads c =
    let taken = rw c.in-Some.is at c.eat_end.ensures.takes in
    record { found = (c.in_ok-labels.ensures.labels.ends taken.0 _ _ _ taken.1, refl) }

pub returns-in_err-place-clause-refused : goal.returns-in_err-place-clause-refused
returns-in_err-place-clause-refused c =
    let none = rw c.in_default.is at c.eat_end.ensures.takes in
    up_by (SpellsNextBy c.args.last 0 c.args.load c.args.full) _ c.from_residual-in_err-place.ensures.1
    (outer_refused c.args.source.now c.args.last c.args.load c.args.full c.in_ok-labels.alone _ _ c.in_ok-labels.labels _ c.in_ok-labels.ensures.labels none.1 (rw none.0 at c.in_err-place.ensures.refused))

pub returns-clause-reads : goal.returns-clause-reads
returns-clause-reads c =
    let none = rw c.in_default.is at c.eat_end.ensures.takes in
    let read = (rw none.0 at c.in_ok-place.ensures.reads).found in
    record { found = (c.in_ok-labels.ensures.labels.names _ _ _ read.0, (read.1, read.2, read.3)) }

pub placed-requires-clause-lead : goal.placed-requires-clause-lead
placed-requires-clause-lead c =
    let none = rw c.in_default.is at c.eat_end.ensures.takes in
    c.lead-lead.ensures ∙ ap (lead_at c.args.source.now) (sym none.0)

pub returns-in_err-labels-clause-begins : goal.returns-in_err-labels-clause-begins
returns-in_err-labels-clause-begins c = up_so _ _ c.from_residual.ensures.1 (plainly (memory_breaks c.in_err-labels.ensures.memory))

pub returns-in_err-place-clause-begins : goal.returns-in_err-place-clause-begins
returns-in_err-place-clause-begins c =
    let none = rw c.in_default.is at c.eat_end.ensures.takes in
    up_so _ _ c.from_residual-in_err-place.ensures.1 (outer_breaks c.args.last c.args.load c.args.full c.in_ok-labels.ensures.labels (rw none.0 at (c.in_err-place.ensures.begins c.args.last)))

pub returns-in_err-labels-clause-late : goal.returns-in_err-labels-clause-late
returns-in_err-labels-clause-late c = up_so _ _ c.from_residual.ensures.1 (late_memory c.in_err-labels.ensures.memory)

pub returns-in_err-place-clause-late : goal.returns-in_err-place-clause-late
returns-in_err-place-clause-late c =
    let none = rw c.in_default.is at c.eat_end.ensures.takes in
    up_so _ _ c.from_residual-in_err-place.ensures.1 (outer_late c.args.last c.args.load c.args.full c.in_ok-labels.ensures.labels (rw none.0 at c.in_err-place.ensures.late))
