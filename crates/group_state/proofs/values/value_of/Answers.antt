use Rattle.std.proofs.Common.{sym, ap, ◌∙◌, w64}
use Rattle.std.proofs.lemmas.Int.{to_z-of_z}
use Rattle.il_statics.specs.Declarations.{is_within}
use Rattle.group_state.proofs.Words.{not_within}
use Rattle.group_state.proofs.values.value_of.Goals as goal

pub returns-then-not-is_within-clause-none : goal.returns-then-not-is_within-clause-none
returns-then-not-is_within-clause-none c =
    let number = c.in_ok-number.number in
    let found = c.in_ok-number.ensures.found in
    let plain = ap (is_within c.in-Some.limits) (sym (to_z-of_z w64 number found.0)) in
    not_within c.args.scalar c.in-Some.limits number c.args.word.now (sym c.declared_limits.ensures ∙ c.in-Some.is) found.0 found.1 (plain ∙ (sym c.is_within.ensures ∙ c.if-not-is_within.true))
