use Rattle.std.proofs.Common.{rules, ◌<◌}
use Rattle.cli_messages.proofs.Splitting.{found_behind, only_behind, none_behind}
use Rattle.cli_messages.proofs.lines.line_at.Goals as goal

pub returns-in_err-rest-clause-none : goal.returns-in_err-rest-clause-none
returns-in_err-rest-clause-none c = λ _ line at.
    let low : c.lines.counter < c.args.before = search rules in
    none_behind c.args.before c.lines.counter low c.lines.rest.now line c.in_err-rest.ensures.none (c.lines.invariant.only line at)

pub lines-preserved : goal.lines-preserved
lines-preserved c =
    let low : c.lines.counter < c.args.before = search rules in
    let first = c.in_ok-rest.ensures.found in
    record {
      found = λ line at. c.lines.invariant.found line (found_behind c.args.before c.lines.counter low c.lines.rest.now first.0 c.in_ok-rest.rest.now first.1 first.2 line at);
      only = λ line at. only_behind c.args.before c.lines.counter low c.lines.rest.now first.0 c.in_ok-rest.rest.now first.1 first.2 line (c.lines.invariant.only line at);
    }
