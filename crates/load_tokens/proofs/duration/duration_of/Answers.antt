use Rattle.il_syntax.specs.Text.{upper_case}
use Rattle.load_tokens.proofs.Cases.{still_empty}
use Rattle.load_tokens.specs.LexicalErrors.{form_or_size}
use Rattle.std.proofs.Common.{sym, ◌∙◌, ◌≡◌, ap, pos, Some, None}
use Rattle.std.specs.Prelude.{option_map}
use Rattle.load_tokens.proofs.Durations.{whole, no_whole, no_bytes, some_bytes, exact, too_long}
use Rattle.load_tokens.proofs.duration.duration_of.Goals as goal

pub returns-then-is_empty-clause-refused : goal.returns-then-is_empty-clause-refused
returns-then-is_empty-clause-refused c = λ v h _.
    let e : None ≡ Some v = sym (ap (option_map pos) (no_bytes c.args.bytes.now (sym c.is_empty.ensures ∙ c.if-is_empty.true))) ∙ h in
    cc

pub returns-then-not-is_empty-clause-refused : goal.returns-then-not-is_empty-clause-refused
returns-then-not-is_empty-clause-refused c = λ v h _.
    let none = some_bytes c.args.bytes.now (sym c.is_empty.ensures ∙ c.if-is_empty.false) ∙ no_whole (upper_case c.args.bytes.now) (upper_case c.part_of-days.result.rest.now) (upper_case c.part_of-hours.result.rest.now) (upper_case c.part_of-minutes.result.rest.now) (upper_case c.part_of-seconds.result.rest.now) (upper_case c.part_of-rest.result.rest.now) c.part_of-days.ensures.0 c.part_of-hours.ensures.0 c.part_of-minutes.ensures.0 c.part_of-seconds.ensures.0 c.part_of-rest.ensures.0 c.part_of-days.ensures.2 c.part_of-hours.ensures.2 c.part_of-minutes.ensures.2 c.part_of-seconds.ensures.2 c.part_of-rest.ensures.2 (still_empty c.part_of-rest.result.rest.now _ (sym c.is_empty-2.ensures ∙ c.if-not-is_empty.true)) in
    let e : None ≡ Some v = sym (ap (option_map pos) none) ∙ h in
    cc

pub returns-then-whole-le-LONGEST_DURATION-clause-found : goal.returns-then-whole-le-LONGEST_DURATION-clause-found
returns-then-whole-le-LONGEST_DURATION-clause-found c =
    ap (option_map pos) (some_bytes c.args.bytes.now (sym c.is_empty.ensures ∙ c.if-is_empty.false) ∙ whole (upper_case c.args.bytes.now) (upper_case c.part_of-days.result.rest.now) (upper_case c.part_of-hours.result.rest.now) (upper_case c.part_of-minutes.result.rest.now) (upper_case c.part_of-seconds.result.rest.now) (upper_case c.part_of-rest.result.rest.now) c.part_of-days.ensures.0 c.part_of-hours.ensures.0 c.part_of-minutes.ensures.0 c.part_of-seconds.ensures.0 c.part_of-rest.ensures.0 c.part_of-days.ensures.2 c.part_of-hours.ensures.2 c.part_of-minutes.ensures.2 c.part_of-seconds.ensures.2 c.part_of-rest.ensures.2 (still_empty c.part_of-rest.result.rest.now _ (sym c.is_empty-2.ensures ∙ c.if-not-is_empty.false)))
    ∙ ap Some (exact c.part_of-days.ensures.0 c.part_of-hours.ensures.0 c.part_of-minutes.ensures.0 c.part_of-seconds.ensures.0 c.part_of-rest.ensures.0 c.part_of-days.result.milliseconds c.part_of-hours.result.milliseconds c.part_of-minutes.result.milliseconds c.part_of-seconds.result.milliseconds c.part_of-rest.result.milliseconds c.part_of-days.ensures.1 c.part_of-hours.ensures.1 c.part_of-minutes.ensures.1 c.part_of-seconds.ensures.1 c.part_of-rest.ensures.1 c.if-whole-le-LONGEST_DURATION.true)

pub returns-else-whole-le-LONGEST_DURATION-clause-refused : goal.returns-else-whole-le-LONGEST_DURATION-clause-refused
returns-else-whole-le-LONGEST_DURATION-clause-refused c = λ v h within.
    let some = some_bytes c.args.bytes.now (sym c.is_empty.ensures ∙ c.if-is_empty.false) ∙ whole (upper_case c.args.bytes.now) (upper_case c.part_of-days.result.rest.now) (upper_case c.part_of-hours.result.rest.now) (upper_case c.part_of-minutes.result.rest.now) (upper_case c.part_of-seconds.result.rest.now) (upper_case c.part_of-rest.result.rest.now) c.part_of-days.ensures.0 c.part_of-hours.ensures.0 c.part_of-minutes.ensures.0 c.part_of-seconds.ensures.0 c.part_of-rest.ensures.0 c.part_of-days.ensures.2 c.part_of-hours.ensures.2 c.part_of-minutes.ensures.2 c.part_of-seconds.ensures.2 c.part_of-rest.ensures.2 (still_empty c.part_of-rest.result.rest.now _ (sym c.is_empty-2.ensures ∙ c.if-not-is_empty.false)) in
    let e = sym (ap (option_map pos) some) ∙ h in
    too_long c.part_of-days.ensures.0 c.part_of-hours.ensures.0 c.part_of-minutes.ensures.0 c.part_of-seconds.ensures.0 c.part_of-rest.ensures.0 c.part_of-days.result.milliseconds c.part_of-hours.result.milliseconds c.part_of-minutes.result.milliseconds c.part_of-seconds.result.milliseconds c.part_of-rest.result.milliseconds c.part_of-days.ensures.1 c.part_of-hours.ensures.1 c.part_of-minutes.ensures.1 c.part_of-seconds.ensures.1 c.part_of-rest.ensures.1 c.if-whole-le-LONGEST_DURATION.false v e within.1

pub returns-then-is_empty-clause-error : goal.returns-then-is_empty-clause-error
returns-then-is_empty-clause-error c = sym (ap form_or_size (no_bytes c.args.bytes.now (sym c.is_empty.ensures ∙ c.if-is_empty.true)))

pub returns-then-not-is_empty-clause-error : goal.returns-then-not-is_empty-clause-error
returns-then-not-is_empty-clause-error c =
    sym (ap form_or_size (some_bytes c.args.bytes.now (sym c.is_empty.ensures ∙ c.if-is_empty.false) ∙ no_whole (upper_case c.args.bytes.now) (upper_case c.part_of-days.result.rest.now) (upper_case c.part_of-hours.result.rest.now) (upper_case c.part_of-minutes.result.rest.now) (upper_case c.part_of-seconds.result.rest.now) (upper_case c.part_of-rest.result.rest.now) c.part_of-days.ensures.0 c.part_of-hours.ensures.0 c.part_of-minutes.ensures.0 c.part_of-seconds.ensures.0 c.part_of-rest.ensures.0 c.part_of-days.ensures.2 c.part_of-hours.ensures.2 c.part_of-minutes.ensures.2 c.part_of-seconds.ensures.2 c.part_of-rest.ensures.2 (still_empty c.part_of-rest.result.rest.now _ (sym c.is_empty-2.ensures ∙ c.if-not-is_empty.true))))

pub returns-else-whole-le-LONGEST_DURATION-clause-error : goal.returns-else-whole-le-LONGEST_DURATION-clause-error
returns-else-whole-le-LONGEST_DURATION-clause-error c =
    sym (ap form_or_size (some_bytes c.args.bytes.now (sym c.is_empty.ensures ∙ c.if-is_empty.false) ∙ whole (upper_case c.args.bytes.now) (upper_case c.part_of-days.result.rest.now) (upper_case c.part_of-hours.result.rest.now) (upper_case c.part_of-minutes.result.rest.now) (upper_case c.part_of-seconds.result.rest.now) (upper_case c.part_of-rest.result.rest.now) c.part_of-days.ensures.0 c.part_of-hours.ensures.0 c.part_of-minutes.ensures.0 c.part_of-seconds.ensures.0 c.part_of-rest.ensures.0 c.part_of-days.ensures.2 c.part_of-hours.ensures.2 c.part_of-minutes.ensures.2 c.part_of-seconds.ensures.2 c.part_of-rest.ensures.2 (still_empty c.part_of-rest.result.rest.now _ (sym c.is_empty-2.ensures ∙ c.if-not-is_empty.false))))
