use Rattle.std.proofs.Common.{◌≡◌, drop, take, false, min}
use Rattle.std.specs.Prelude.{filter, not, ◌==◌}
use Rattle.std.specs.Char.{is_digit}
use Rattle.std.specs.Str.Parse.{digits_value}
use Rattle.il_syntax.specs.Text.{is_grouped_after}
use Rattle.load_tokens.proofs.number.capped_value.Given as goal

abbrev pub invariant-loop-digit : goal.invariant-loop-digit
invariant-loop-digit l = record {
  grouped : is_grouped_after (λ b. is_digit b l.base) l.inside (drop l.digit-index l.digits) ≡ is_grouped_after (λ b. is_digit b l.base) false l.digits;
  capped : l.value ≡ min (digits_value l.base (filter (λ b. not (b == 95)) (take l.digit-index l.digits))) 4294967296;
}
