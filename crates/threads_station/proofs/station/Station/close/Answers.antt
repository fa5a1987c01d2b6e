use Rattle.std.proofs.Common.{◌≡◌, ◌∷◌, [], List, length, sym, ap, subst, ◌∙◌, refl, append_assoc, append-nil, arith}
use Rattle.std.specs.Prelude.{All}
use Rattle.std.specs.Vec.Iter.{into_iter_items}
use Rattle.std.proofs.lemmas.List.Elements.{All-push}
use Rattle.group_spec.specs.Plant.{PlantState}
use Rattle.group_journal.specs.Driven.{IsDrivenJournal}
use Rattle.group_journal.specs.Journal.{entries_by}
use Rattle.group_journal.specs.Pages.{Page}
use Rattle.threads_station.specs.Passes.{TaskCount}
use Rattle.threads_station.proofs.station.Station.close.Goals as goal

nothing_left : {X : Type 0} (l : List X) → length l ≡ 0 → l ≡ []
nothing_left [] h = refl
nothing_left (x ∷ xs) h = absurd (omega arith)

pub loop-task-preserved : goal.loop-task-preserved
loop-task-preserved g c =
    let at = c.loop-task in
    let same = c.take_in.ensures.same in
    let x = c.in-Some.task in
    let steps : into_iter_items at.task-iterator ≡ x ∷ into_iter_items c.next.new.self = c.in-Some.ensures.steps.0 in
    record {
      same = same ∙ at.invariant.same;
      counts = All-push (λ (p : TaskCount). p.count ≡ entries_by p.task c.take_in.new.self.journal) at.yielded x (rw same at.invariant.counts) (rw same c.take_in.ensures.count);
      rest = append_assoc at.yielded (x ∷ []) _ ∙ rw (← steps) at.invariant.rest;
      left =
          (let was = at.invariant.left in
          let gone = c.in-Some.ensures.steps.1 in
          let short = ap length steps in
          omega arith);
    }

pub returns-clause-tasks : goal.returns-clause-tasks
returns-clause-tasks g c =
    let at = c.loop-task in
    let none = c.in-None.ensures.steps in
    let empty : into_iter_items at.task-iterator ≡ [] = nothing_left _ (sym at.invariant.left ∙ none.0) in
    let all = sym (append-nil at.yielded) ∙ rw empty at at.invariant.rest ∙ c.into_iter-task-iterator.ensures.into_iter_gives.0 in
    rw c.into_book.ensures.book (subst (All (λ (p : TaskCount). p.count ≡ entries_by p.task at.locked.journal)) all at.invariant.counts)

pub returns-clause-driven : goal.returns-clause-driven
returns-clause-driven g c = λ all.
    let same = sym (c.into_book.ensures.book ∙ c.loop-task.invariant.same ∙ c.audit_refreshes.ensures.same.0) in
    subst (λ (l : Page). (plant : PlantState) × IsDrivenJournal g.G.Naming.program.config g.G.Naming.switches l.journal plant l.world) same (c.audit_refreshes.ensures.driven all)
