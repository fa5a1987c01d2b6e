use Rattle.std.proofs.Common.{◌≡◌, Some, rules}
use Rattle.reasons_faults.specs.ChainReasons.{use_line}
use Rattle.reasons_faults.proofs.ChainUses.{used_in}
use Rattle.reasons_faults.proofs.chain_uses.use_of.Goals as goal

pub returns-clause-line : goal.returns-clause-line
returns-clause-line c =
    let e : use_line c.args.names.now c.args.user.now c.args.to ≡ Some c.in_ok-line.line = search rules in
    used_in c.args.names.now c.args.to c.args.user.now c.in_ok-unit.unit.now c.in_ok-unit.ensures c.in_ok-line.line e
