use Rattle.std.proofs.Common.{◌++◌, map, ap, ◌∙◌}
use Rattle.base_shown.specs.Shown.{shown}
use Rattle.cli_messages.proofs.Splitting.{first_bytes}
use Rattle.cli_messages.proofs.place.put_quoted.Goals as goal

pub returns : goal.returns
returns c = c.in_ok-put_shown.ensures ∙ ap (λ l. c.args.to.now.items ++ map shown l) (first_bytes 200 c.args.line.now c.min.result c.min.ensures)
