use Rattle.std.proofs.Common.{◌∙◌, arith}
use Rattle.trace_text.specs.Written.{traced}
use Rattle.trace_text.specs.Writing.{events_text}
use Rattle.trace_text.proofs.Writes.{puts_err, running_more, running_front, entries_left, lines_on}
use Rattle.trace_text.proofs.write.write_entries.Goals as goal

pub returns-in_err-lines-clause-puts : goal.returns-in_err-lines-clause-puts
returns-in_err-lines-clause-puts g c =
    let failed = c.in_err-lines.ensures.puts in
    let left = entries_left c.args.entries.now c.entries.entry-index c.entry-item.result c.entries-test.true c.entry-item.is in
    puts_err c.from_residual.result _ _ _ _ c.args.waiting.now c.write_entry.new.waiting (events_text (traced c.args.entries.now)) c.from_residual.ensures.0
    (running_front _ _ _ c.args.waiting.now c.entries.waiting _ _ _ (events_text (traced c.args.entries.now)) c.entries.invariant.running left failed.0) failed.1

pub entries-preserved : goal.entries-preserved
entries-preserved g c =
    let put = c.in_ok-lines.ensures.puts in
    let left = entries_left c.args.entries.now c.entries.entry-index c.entry-item.result c.entries-test.true c.entry-item.is in
    let lines = lines_on c.args.entries.now c.entries.entry-index c.entry-item.result c.entries-test.true c.entry-item.is in
    let one = c.in_ok-lines.ensures.count in
    let so_far = c.entries.invariant.counted in
    let few = c.entries.invariant.few in
    let same = c.from-count.ensures in
    record {
      running = running_more _ _ _ c.args.waiting.now c.entries.waiting c.write_entry.new.waiting _ _ _ (events_text (traced c.args.entries.now)) c.entries.invariant.running left put.0;
      going = put.1 ∙ c.entries.invariant.going;
      counted = omega arith;
      few = omega arith;
    }
