use Rattle.std.proofs.Common.{rules, ◌≡◌, length, true}
use Rattle.std.specs.Prelude.{nat_lt}
use Rattle.cli_host.specs.Requests.{IsOption}
use Rattle.cli_host.proofs.Apart.{some_one}
use Rattle.cli_host.proofs.request.has_option.Goals as goal

pub returns-clause-yes : goal.returns-clause-yes
returns-clause-yes c = λ e. let less : nat_lt c.first_option.result (length c.args.words.now) ≡ true = e in some_one IsOption c.args.words.now c.first_option.result (search (rules, less)) c.first_option.ensures.at
