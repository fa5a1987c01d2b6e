use Rattle.cli_output.proofs.Scanned.{unasked_is}
use Rattle.cli_output.proofs.scan.scan_outcome.Goals as goal

pub returns-in-Err-clause-is : goal.returns-in-Err-clause-is
returns-in-Err-clause-is c = unasked_is c.args.traced c.args.verified c.args.source.now c.args.trace.now c.in-Err.fault c.in-Err.ensures.err
