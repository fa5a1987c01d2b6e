use Rattle.scan_task.proofs.Sizes.{sizes_fit}
use Rattle.group_spec.specs.Image.{sizes_of}
use Rattle.test_library.proofs.Calls.{both_are_calls}
use Rattle.test_library.proofs.book_rows.refreshed.Goals as goal

pub refresh-answer-requires-clause-calls : goal.refresh-answer-requires-clause-calls
refresh-answer-requires-clause-calls c =
    let config = c.args.verified.now.config in
    rw c.both_calls-hand.ensures (both_are_calls (sizes_of config) (sizes_fit config c.config-config.ensures.runnable).1.0)
