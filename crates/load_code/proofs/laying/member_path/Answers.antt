use Rattle.std.proofs.Common.{◌∙◌}
use Rattle.load_code.proofs.Laid.{dotted}
use Rattle.load_code.proofs.laying.member_path.Goals as goal

pub returns : goal.returns
returns c = c.in_ok-path.ensures.ok ∙ dotted c.args.path.now c.args.name.now
