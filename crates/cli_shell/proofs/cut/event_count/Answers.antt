use Rattle.std.proofs.Common.{rules, drop, ◌∙◌}
use Rattle.std.specs.List.{slice_split}
use borrow.Author.Tests.{tests}
use Rattle.std.proofs.lemmas.Iterator.Adapters.{YieldsList-from_skip}
use Rattle.std.proofs.lemmas.Iterator.Consumers.{YieldsList-at, YieldsList-from_filter, count_from_yields_List}
use Rattle.std.proofs.lemmas.Iterator.Splits.{YieldsList-from_slice_split}
use Rattle.std.proofs.lemmas.List.Sums.{length-filter}
use Rattle.cli_shell.specs.Cuts.{is_event, is_feed}
use Rattle.cli_shell.proofs.cut.event_count.Goals as goal

pub returns : goal.returns
returns c =
    count_from_yields_List c.filter.result c.count.result c.count.ensures.ran
    (YieldsList-from_filter _ is_event
    (YieldsList-at c.filter.ensures.source (YieldsList-from_skip 1
    (YieldsList-at c.skip.ensures.source (YieldsList-from_slice_split _ is_feed c.args.lines.now c.split.ensures.rest c.split.ensures.done c.split.ensures.closure (λ x b q k. search (rules, tests)))) c.skip.ensures.count))
    c.filter.ensures.closure (λ x b q k. search (rules, tests)))
    ∙ length-filter is_event (drop 1 (slice_split is_feed c.args.lines.now))
