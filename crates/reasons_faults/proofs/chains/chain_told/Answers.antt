use Rattle.std.proofs.Common.{ap, string_bytes, rules, ◌≡◌, true}
use Rattle.reasons_faults.specs.ChainReasons.{is_apart}
use Rattle.reasons_names.proofs.Pieces.{of_some}
use Rattle.reasons_faults.proofs.ChainUses.{along_told}
use Rattle.reasons_faults.proofs.chains.chain_told.Goals as goal

pub returns-in-Some-2 : goal.returns-in-Some-2
returns-in-Some-2 c =
    let apart : is_apart c.args.names.now c.args.unit.now.name.name c.in-Some.between.now c.in-Some.last.now ≡ true = search rules in
    along_told c.args.names.now c.args.unit.now c.in-Some.between.now c.in-Some.last.now (string_bytes c.in-Some-2.text) c.into_bytes.result.items c.if-between-lt15.false apart
    (of_some c.in_ok-text.field-0 _ c.in-Some-2.text c.in-Some-2.is c.in_ok-text.ensures) (ap (λ v. v.items) c.into_bytes.ensures.value)
