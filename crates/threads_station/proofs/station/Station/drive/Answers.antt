use Rattle.std.proofs.Common.{ap}
use Rattle.threads_desk.specs.Passes.{Holding}
use Rattle.group_spec.specs.Image.{sizes_of}
use Rattle.threads_station.specs.Counted.{calls_in}
use Rattle.threads_station.proofs.Hands.{all_calls, part_kept, left_kept}
use Rattle.threads_station.proofs.station.Station.drive.Goals as goal

pub drive-answer-requires-clause-calls : goal.drive-answer-requires-clause-calls
drive-answer-requires-clause-calls g c =
    rw c.hand-called.ensures.hand (all_calls (sizes_of g.G.Naming.program.config) c.args.collector.floors c.requires.floors c.args.collector.hand c.hand-called.ensures.calls)

pub keep-requires : goal.keep-requires
keep-requires g c = part_kept _ _ _ c.drive-answer.result (calls_in c.drive-answer.new.report) c.drive-answer.new.hand c.hand-called.result c.args.collector.hand c.hand-called.ensures.hand c.drive-answer.ensures.hand c.drive-answer.ensures.refused

pub returns-clause-left : goal.returns-clause-left
returns-clause-left g c =
    left_kept c.drive-answer.result (calls_in c.drive-answer.new.report) c.drive-answer.new.hand _ c.hand-called.result c.args.collector.hand c.hand-called.ensures.hand (ap (λ (h : Holding). h.hand) c.keep.ensures) c.hand-called.ensures.order c.drive-answer.ensures.hand
