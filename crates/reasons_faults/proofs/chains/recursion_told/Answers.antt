use Rattle.std.proofs.Common.{ap, string_bytes}
use Rattle.reasons_names.proofs.Pieces.{of_some}
use Rattle.reasons_faults.proofs.ChainUses.{around_told}
use Rattle.reasons_faults.proofs.chains.recursion_told.Goals as goal

pub returns-in-Some-2 : goal.returns-in-Some-2
returns-in-Some-2 c =
    around_told c.args.names.now c.args.unit.now c.as_slice.result.now c.args.at (string_bytes c.in-Some-2.text) c.into_bytes.result.items c.requires
    (of_some c.in_ok-text.field-0 _ c.in-Some-2.text c.in-Some-2.is c.in_ok-text.ensures) (ap (λ v. v.items) c.into_bytes.ensures.value)
