use Rattle.std.proofs.Common.{length, subst}
use Rattle.ranges_pass.specs.Judged.{AreJudged}
use Rattle.ranges_pass.proofs.Verdict.{all_annotated, refused}
use Rattle.ranges_pass.proofs.ranges.annotated.Goals as goal

pub returns-in-Some-clause-refused : goal.returns-in-Some-clause-refused
returns-in-Some-clause-refused c =
    refused c.args.names.now c.in-Some.found c.refusal.result (subst (AreJudged c.args.names.now (length c.args.names.now.units)) c.in-Some.is c.in_ok-found.ensures) c.refusal.ensures

pub returns-in-None-clause-annotated : goal.returns-in-None-clause-annotated
returns-in-None-clause-annotated c = all_annotated c.args.names.now (subst (AreJudged c.args.names.now (length c.args.names.now.units)) c.in-None.is c.in_ok-found.ensures)
