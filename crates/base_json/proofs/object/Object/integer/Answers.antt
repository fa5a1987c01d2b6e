use Rattle.std.proofs.Common.{rules}
use Rattle.base_json.proofs.Wide.{is_signed_number}
use Rattle.base_json.proofs.object.Object.integer.Goals as goal

pub number-requires : goal.number-requires
number-requires c = search (rules, is_signed_number)
