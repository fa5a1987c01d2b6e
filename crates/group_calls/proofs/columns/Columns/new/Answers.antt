use Rattle.group_calls.proofs.Four.{all_free}
use Rattle.group_calls.proofs.columns.Columns.new.Goals as goal

pub returns : goal.returns
returns c = all_free c.args.count c.requires
