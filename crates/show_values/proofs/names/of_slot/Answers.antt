use Rattle.std.proofs.Common.{arith, Some, refl}
use Rattle.std.proofs.lemmas.Str.Pattern.{split_once_first}
use Rattle.show_values.proofs.Reading.{no_slot}
use Rattle.show_values.proofs.names.of_slot.Goals as goal

pub returns-in_err-slot-clause-none : goal.returns-in_err-slot-clause-none
returns-in_err-slot-clause-none c = λ _.
    let parts = split_once_first 91 c.args.name.now (Some (c.in_ok-front.front, c.in_ok-front.rest)) c.in_ok-front.ensures.cases (omega arith) in
    no_slot c.args.name.now c.in_ok-front.rest.now parts.2 (c.in_err-slot.ensures.none refl)
