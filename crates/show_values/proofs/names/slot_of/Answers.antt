use Rattle.std.proofs.Common.{arith, Some, refl}
use Rattle.std.proofs.lemmas.Str.Pattern.{strip_suffix_char}
use Rattle.show_values.proofs.Reading.{no_index}
use Rattle.show_values.proofs.names.slot_of.Goals as goal

pub returns-in_err-slot-clause-none : goal.returns-in_err-slot-clause-none
returns-in_err-slot-clause-none c = λ _.
    no_index c.args.rest.now c.in_ok-digits.digits.now (strip_suffix_char 93 c.args.rest.now (Some c.in_ok-digits.digits) c.in_ok-digits.ensures.cases (omega arith)) (c.in_err-slot.ensures.none refl)
