use Rattle.reasons_names.proofs.Pieces.{if_ok}
use Rattle.reasons_faults.proofs.NothingSpelled.{no_tokens, token_told}
use Rattle.reasons_faults.proofs.token_told.Goals as goal

pub returns-in-Ok : goal.returns-in-Ok
returns-in-Ok c =
    if_ok c.told.result _ _
    (λ lines told. token_told c.args.text.now c.args.number c.args.place lines.items c.in-Ok.tokens.items c.deref.result.now c.deref.ensures.value c.in-Ok.ensures.found c.requires.number c.requires.spelled told)
    c.told.ensures

pub returns-in-Err-Fault : goal.returns-in-Err-Fault
returns-in-Err-Fault c =
    no_tokens c.args.text.now c.args.number c.args.place c.new.result.items (rw c.in-Err-Fault.field-0-is at c.in-Err-Fault.ensures.refused) c.requires.other c.requires.number c.requires.spelled c.new.ensures.items
