use Rattle.std.proofs.Common.{◌≡◌, ◌≤◌, length}
use Rattle.trace_text.specs.Parts.{AreDigits, number_from, HasNoLeadingZero}
use Rattle.group_state.proofs.numbers.number_of.Given as goal

abbrev pub invariant-digits : goal.invariant-digits
invariant-digits l = record {
  leads : HasNoLeadingZero l.bytes;
  whole : number_from l.value l.rest ≡ number_from 0 l.bytes;
  on : AreDigits l.bytes → AreDigits l.rest;
  back : AreDigits l.rest → AreDigits l.bytes;
  most : l.value ≤ l.greatest;
}

abbrev pub decreases-digits : goal.decreases-digits
decreases-digits l = length l.rest
