use Rattle.std.proofs.Common.{rules, refl, ap, ◌∙◌, ◌<◌, [], length}
use Rattle.std.specs.Prelude.{slice_index_or}
use Rattle.group_spec.specs.declared.report.EnteredCall.{EnteredCall}
use Rattle.group_spec.specs.Hands.{with_call}
use Rattle.group_journal.proofs.Calls.{next_call, word_at}
use Rattle.group_journal.proofs.entered.calls_of.Goals as goal

abbrev none : EnteredCall
none = record { slot = 0; ticket = 0; call = record { from = 0; to = 0 } }

pub insert-requires-clause-from : goal.insert-requires-clause-from
insert-requires-clause-from c =
    let below : c.entered.one-index < length c.args.entered.now = search rules in
    (word_at c.args.entered.now c.entered.one-index (slice_index_or c.args.entered.now c.entered.one-index none) none below refl c.requires.words).0

pub insert-requires-clause-to : goal.insert-requires-clause-to
insert-requires-clause-to c =
    let below : c.entered.one-index < length c.args.entered.now = search rules in
    (word_at c.args.entered.now c.entered.one-index (slice_index_or c.args.entered.now c.entered.one-index none) none below refl c.requires.words).1

pub entered-preserved : goal.entered-preserved
entered-preserved c =
    let below : c.entered.one-index < length c.args.entered.now = search rules in
    let call = (slice_index_or c.args.entered.now c.entered.one-index none).call in
    c.insert.ensures ∙ ap (λ l. with_call l call) c.entered.invariant ∙ next_call c.args.entered.now c.entered.one-index (slice_index_or c.args.entered.now c.entered.one-index none) none below refl [] c.requires.order
