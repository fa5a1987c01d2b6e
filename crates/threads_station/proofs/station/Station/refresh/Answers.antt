use Rattle.std.proofs.Common.{ap}
use Rattle.threads_desk.specs.Passes.{Holding}
use Rattle.group_spec.specs.Image.{sizes_of}
use Rattle.threads_station.specs.Counted.{calls_in}
use Rattle.threads_station.proofs.Hands.{all_calls, part_kept, left_kept}
use Rattle.threads_station.proofs.station.Station.refresh.Goals as goal

pub refresh-answer-requires-clause-calls : goal.refresh-answer-requires-clause-calls
refresh-answer-requires-clause-calls g c =
    rw c.hand-hand.ensures.hand (all_calls (sizes_of g.G.Naming.program.config) c.args.collector.floors c.requires c.args.collector.hand c.hand-hand.ensures.calls)

pub keep-requires : goal.keep-requires
keep-requires g c = part_kept _ _ _ c.refresh-answer.result (calls_in c.refresh-answer.new.report) c.refresh-answer.new.hand c.hand-hand.result c.args.collector.hand c.hand-hand.ensures.hand c.refresh-answer.ensures.hand c.refresh-answer.ensures.refused

pub returns-clause-left : goal.returns-clause-left
returns-clause-left g c =
    left_kept c.refresh-answer.result (calls_in c.refresh-answer.new.report) c.refresh-answer.new.hand _ c.hand-hand.result c.args.collector.hand c.hand-hand.ensures.hand (ap (λ (h : Holding). h.hand) c.keep.ensures) c.hand-hand.ensures.order c.refresh-answer.ensures.hand
