use Rattle.std.proofs.Common.{ℕ, List, sym, subst, refl}
use Rattle.group_state.specs.declared.fault.StateFault.TheVariants.{OtherConfiguration}
use Rattle.group_state.specs.Saying.{IsDigest, SaysConfiguration, IsOtherDigest}
use Rattle.group_state.proofs.NextLines.{has_other_form, breaks_rule}
use Rattle.group_state.proofs.Words.{true_false}
use Rattle.group_state.proofs.Hex.{said_digits, says_digits, spelled}
use Rattle.group_state.proofs.head.take_configuration.Goals as goal

pub returns-in_default-clause-wrong : goal.returns-in_default-clause-wrong
returns-in_default-clause-wrong c =
    has_other_form (List ℕ) SaysConfiguration (IsOtherDigest c.args.digest.now) c.args.text.now c.in_ok-line.line.now c.in_ok-line.rest.now c.in_ok-line.ensures.found
    (λ digits says. c.in_default.ensures.none digits (says_digits digits c.in_ok-line.line.now says))

pub returns-then-not-is_digest-clause-wrong : goal.returns-then-not-is_digest-clause-wrong
returns-then-not-is_digest-clause-wrong c =
    has_other_form (List ℕ) SaysConfiguration (IsOtherDigest c.args.digest.now) c.args.text.now c.in_ok-line.line.now c.in_ok-line.rest.now c.in_ok-line.ensures.found
    (λ digits says. true_false c.is_digest.result (c.is_digest.ensures.1 (subst IsDigest (sym (said_digits digits c.in_ok-line.line.now c.in-Some.digits.now says c.in-Some.ensures.found)) says.0)) c.if-not-is_digest.true)

pub returns-then-not-are_digits_of-clause-wrong : goal.returns-then-not-are_digits_of-clause-wrong
returns-then-not-are_digits_of-clause-wrong c =
    breaks_rule (List ℕ) SaysConfiguration (IsOtherDigest c.args.digest.now) c.args.text.now OtherConfiguration c.in-Some.digits.now c.in_ok-line.line.now c.in_ok-line.rest.now c.in_ok-line.ensures.found
    (c.is_digest.ensures.0 c.if-not-is_digest.false, spelled c.in-Some.digits.now c.in_ok-line.line.now c.in-Some.ensures.found)
    (refl, λ e. true_false c.are_digits_of.result (c.are_digits_of.ensures.1 e) c.if-not-are_digits_of.true)

pub returns-clause-found : goal.returns-clause-found
returns-clause-found c =
    let same = c.are_digits_of.ensures.0 c.if-not-are_digits_of.false in
    record {
      line = c.in_ok-line.line.now;
      next = c.in_ok-line.ensures.found;
      says = subst (λ (ds : List ℕ). SaysConfiguration ds c.in_ok-line.line.now) same (c.is_digest.ensures.0 c.if-not-is_digest.false, spelled c.in-Some.digits.now c.in_ok-line.line.now c.in-Some.ensures.found);
      holds = refl;
    }
