use Rattle.std.proofs.Common.{decimal}
use Rattle.cli_host.proofs.Fronts.{front_of, fails_behind, on_err}
use Rattle.cli_host.proofs.status.put_numbered.Goals as goal

pub returns-in_err-put_all-clause-front : goal.returns-in_err-put_all-clause-front
returns-in_err-put_all-clause-front g c = on_err c.from_residual.result (front_of _ _ c.args.text.now (decimal c.args.number) c.in_err-put_all.ensures.front)

pub returns-clause-front : goal.returns-clause-front
returns-clause-front g c = fails_behind c.put_number.result _ _ _ c.args.text.now (decimal c.args.number) c.in_ok-put_all.ensures.ok c.put_number.ensures.front
