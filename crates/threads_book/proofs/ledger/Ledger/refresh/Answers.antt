use Rattle.std.proofs.Common.{◌≡◌, ◌≤◌, true, false, ◌++◌, refl, sym, ap, ap₂, ◌∙◌, length}
use Rattle.std.specs.Prelude.{vec_capacity}
use Rattle.group_spec.specs.Image.{fields_in_range}
use Rattle.group_journal.proofs.Entering.{enters_first}
use Rattle.group_journal.specs.Entered.{calls}
use Rattle.group_journal.proofs.Rounds.{reports_entered}
use Rattle.threads_book.proofs.Stepping.{room}
use Rattle.threads_book.proofs.Refreshing.{refresh_fields, refresh_calls, entered_words, entered_order, refresh_adds, refresh_ledger}
use Rattle.threads_book.proofs.ledger.Ledger.refresh.Goals as goal

pub refresh-requires-clause-fields : goal.refresh-requires-clause-fields
refresh-requires-clause-fields c =
    let l = c.args.self.now in
    refresh_fields l c.requires.kept c.args.verified.now.config c.requires.program c.args.fields (ap (λ s. fields_in_range s c.args.fields) (sym c.sizes.ensures) ∙ sym c.in_range.ensures ∙ c.if-not-in_range.false)

pub refresh-requires-clause-calls : goal.refresh-requires-clause-calls
refresh-requires-clause-calls c =
    let l = c.args.self.now in
    let inside = ap (λ s. fields_in_range s c.args.fields) (sym c.sizes.ensures) ∙ sym c.in_range.ensures ∙ c.if-not-in_range.false in
    refresh_calls l c.requires.kept c.args.verified.now.config c.requires.program c.args.fields inside c.args.hand.now c.requires.calls

pub calls_of-entered-requires-clause-words : goal.calls_of-entered-requires-clause-words
calls_of-entered-requires-clause-words c =
    let l = c.args.self.now in
    let inside = ap (λ s. fields_in_range s c.args.fields) (sym c.sizes.ensures) ∙ sym c.in_range.ensures ∙ c.if-not-in_range.false in
    rw c.as_slice.ensures (entered_words l c.requires.kept c.args.verified.now.config c.requires.program c.args.fields inside c.args.hand.now c.requires.calls c.in_order.ensures (record { program = l.program; core = c.refresh.new.self; stores = l.stores; capacity = l.capacity; journal = l.journal }) c.refresh.new.report c.refresh.ensures.group)

pub calls_of-entered-requires-clause-order : goal.calls_of-entered-requires-clause-order
calls_of-entered-requires-clause-order c =
    let l = c.args.self.now in
    let inside = ap (λ s. fields_in_range s c.args.fields) (sym c.sizes.ensures) ∙ sym c.in_range.ensures ∙ c.if-not-in_range.false in
    rw c.as_slice.ensures (entered_order l c.requires.kept c.args.verified.now.config c.requires.program c.args.fields inside c.args.hand.now c.requires.calls c.in_order.ensures (record { program = l.program; core = c.refresh.new.self; stores = l.stores; capacity = l.capacity; journal = l.journal }) c.refresh.new.report c.refresh.ensures.group)

pub returns-clause-done : goal.returns-clause-done
returns-clause-done c =
    let l = c.args.self.now in
    let inside = ap (λ s. fields_in_range s c.args.fields) (sym c.sizes.ensures) ∙ sym c.in_range.ensures ∙ c.if-not-in_range.false in
    let other : length l.journal.items ≡ l.capacity → ⊥ = λ e. (let bad : true ≡ false = sym (c.is_full.ensures.1 e) ∙ c.if-is_full.false in cc) in
    let reserved : l.capacity ≤ vec_capacity c.push_reserved.new.self = rw c.push_reserved.ensures.capacity c.requires.kept.reserved in
    refresh_adds l c.requires.kept c.args.verified.now.config c.requires.program c.args.fields inside c.args.hand.now c.requires.calls c.in_order.ensures (record { program = l.program; core = c.refresh.new.self; stores = l.stores; capacity = l.capacity; journal = c.push_reserved.new.self }) c.refresh.new.report c.refresh.ensures.group
    refl c.refresh.ensures.config refl (room l c.requires.kept other) reserved c.calls_of-entered.result (c.calls_of-entered.ensures ∙ ap calls c.as_slice.ensures) c.push_reserved.ensures.items refl

pub returns-clause-kept : goal.returns-clause-kept
returns-clause-kept c =
    let l = c.args.self.now in
    let inside = ap (λ s. fields_in_range s c.args.fields) (sym c.sizes.ensures) ∙ sym c.in_range.ensures ∙ c.if-not-in_range.false in
    let other : length l.journal.items ≡ l.capacity → ⊥ = λ e. (let bad : true ≡ false = sym (c.is_full.ensures.1 e) ∙ c.if-is_full.false in cc) in
    let reserved : l.capacity ≤ vec_capacity c.push_reserved.new.self = rw c.push_reserved.ensures.capacity c.requires.kept.reserved in
    refresh_ledger l c.requires.kept c.args.verified.now.config c.requires.program c.args.fields inside c.args.hand.now c.requires.calls c.in_order.ensures (record { program = l.program; core = c.refresh.new.self; stores = l.stores; capacity = l.capacity; journal = c.push_reserved.new.self }) c.refresh.new.report c.refresh.ensures.group
    refl c.refresh.ensures.config refl (room l c.requires.kept other) reserved c.calls_of-entered.result (c.calls_of-entered.ensures ∙ ap calls c.as_slice.ensures) c.push_reserved.ensures.items refl

pub returns-clause-exact : goal.returns-clause-exact
returns-clause-exact c = reports_entered c.args.self.now.core.group c.args.fields c.args.hand.now c.refresh.new.self.group c.refresh.new.report c.refresh.ensures.group

pub returns-clause-hand : goal.returns-clause-hand
returns-clause-hand c =
    let g = c.args.self.now.core.group in
    enters_first g.calls c.args.hand.now
    ∙ ap₂ (λ a b. a ++ b) (sym (reports_entered g c.args.fields c.args.hand.now c.refresh.new.self.group c.refresh.new.report c.refresh.ensures.group)) (sym c.refresh.ensures.hand)
