use Rattle.std.proofs.Common.{ap, sym, ◌∙◌}
use Rattle.ranges_laws.specs.Pass.{merged}
use Rattle.ranges_transfer.proofs.Tables.{merges_of}
use Rattle.ranges_transfer.proofs.pass.arrive.Goals as goal
use Rattle.ranges_transfer.proofs.pass.arrive.Goals.{in-Some, in-None}

pub returns : goal.returns
returns g c = elim c.match-take.branch [
  | in-Some w ↦
      merges_of g.F.Flow.join c.args.waiting.now.items c.args.to c.args.facts c.index_mut.result.now c.take.new.self c.match-take.joined c.is_some-found.result c.requires c.index_mut.ensures.value
      (w.joined-is ∙ w.join-joined.ensures ∙ ap (λ o. merged g.F.Flow.join o c.args.facts) (sym w.in-Some.is ∙ c.take.ensures.value)) c.is_some-found.ensures
  | in-None w ↦
      merges_of g.F.Flow.join c.args.waiting.now.items c.args.to c.args.facts c.index_mut.result.now c.take.new.self c.match-take.joined c.is_some-found.result c.requires c.index_mut.ensures.value
      (w.joined-is ∙ ap (λ o. merged g.F.Flow.join o c.args.facts) (sym w.in-None.is ∙ c.take.ensures.value)) c.is_some-found.ensures
]
