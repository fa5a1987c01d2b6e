use Rattle.std.proofs.Common.{◌+◌, arith}
use Rattle.load_tokens.specs.Lanes.{is_plain}
use Rattle.load_tokens.proofs.Runs.{pass_on}
use Rattle.load_tokens.proofs.comment.plain_end.Goals as goal

pub plain-preserved : goal.plain-preserved
plain-preserved c = record {
  from = omega arith;
  within = omega (arith, c.plain_run-run.ensures.0);
  plain = pass_on is_plain c.args.text.now c.args.from c.plain.at (c.plain.at + c.plain_run-run.result) c.plain.invariant.plain c.plain_run-run.ensures.1;
}
