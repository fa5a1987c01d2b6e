use Rattle.std.proofs.Common.{◌≡◌, ◌<◌, ◌≤◌, true, false, rules, refl, sym, ap, ◌∙◌, length}
use Rattle.std.specs.Prelude.{slice_get, slice_set, is_some, vec_capacity}
use Rattle.std.specs.Vec.{with_item}
use Rattle.scan_task.proofs.Standing.{at_start}
use Rattle.group_spec.specs.World.{flat, beginning_of}
use Rattle.group_world.proofs.Views.{here}
use Rattle.threads_book.specs.Ledgers.{page_of}
use Rattle.threads_book.proofs.Standing.{open_now, store_low}
use Rattle.threads_book.proofs.Faults.{start_open, start_idle, full_so, full_not}
use Rattle.threads_book.proofs.Stepping.{room}
use Rattle.threads_book.proofs.Starting.{has_seat, here_now, has_store, own_of, core_config, snapped, start_adds, start_ledger}
use Rattle.threads_book.proofs.ledger.Ledger.start.Goals as goal

pub returns-then-is_open-clause-fault : goal.returns-then-is_open-clause-fault
returns-then-is_open-clause-fault c = sym (start_open (page_of c.args.self.now) c.args.task (open_now c.args.self.now c.requires.kept c.args.task ∙ sym c.is_open.ensures ∙ c.if-is_open.true))

pub returns-then-is_full-clause-fault : goal.returns-then-is_full-clause-fault
returns-then-is_full-clause-fault c =
    let l = c.args.self.now in
    sym (start_idle (page_of l) c.args.task (open_now l c.requires.kept c.args.task ∙ sym c.is_open.ensures ∙ c.if-is_open.false) ∙ full_so (page_of l) (c.is_full.ensures.0 c.if-is_full.true))

pub index_mut-requires : goal.index_mut-requires
index_mut-requires c =
    let l = c.args.self.now in
    let below = store_low l c.requires.kept c.args.task (has_seat l c.requires.kept c.args.verified.now.config c.requires.program c.args.task c.requires.there) in
    search (rules, below, c.from.ensures)

pub begin-requires-clause-program : goal.begin-requires-clause-program
begin-requires-clause-program c = let l = c.args.self.now in core_config l c.requires.kept c.args.verified.now.config c.requires.program c.args.task c.requires.there

pub begin-requires-clause-there : goal.begin-requires-clause-there
begin-requires-clause-there c = let l = c.args.self.now in has_seat l c.requires.kept c.args.verified.now.config c.requires.program c.args.task c.requires.there

pub begin-requires-clause-own : goal.begin-requires-clause-own
begin-requires-clause-own c =
    let l = c.args.self.now in
    let there = has_store l c.requires.kept c.args.verified.now.config c.requires.program c.args.task c.requires.there in
    sym (ap is_some (here _ _ _ _ c.from.ensures c.index_mut.ensures.value there)) ∙ there

pub begin-requires-clause-own_of : goal.begin-requires-clause-own_of
begin-requires-clause-own_of c =
    let l = c.args.self.now in
    let there = has_store l c.requires.kept c.args.verified.now.config c.requires.program c.args.task c.requires.there in
    own_of l c.requires.kept c.args.verified.now.config c.requires.program c.args.task c.requires.there _ (here _ _ _ _ c.from.ensures c.index_mut.ensures.value there)

pub of-requires : goal.of-requires
of-requires c =
    let l = c.args.self.now in
    let x = here_now l c.requires.kept c.args.verified.now.config c.requires.program c.args.task c.requires.there in
    at_start c.args.verified.now.config c.args.task (beginning_of l.core.group x.task) c.begin.new.store c.begin.ensures.of (c.begin.ensures.store x.task x.there)

pub returns-clause-fault : goal.returns-clause-fault
returns-clause-fault c =
    let l = c.args.self.now in
    let other : length l.journal.items ≡ l.capacity → ⊥ = λ e. (let bad : true ≡ false = sym (c.is_full.ensures.1 e) ∙ c.if-is_full.false in cc) in
    sym (start_idle (page_of l) c.args.task (open_now l c.requires.kept c.args.task ∙ sym c.is_open.ensures ∙ c.if-is_open.false) ∙ full_not (page_of l) other)

pub returns-clause-done : goal.returns-clause-done
returns-clause-done c =
    let l = c.args.self.now in
    let other : length l.journal.items ≡ l.capacity → ⊥ = λ e. (let bad : true ≡ false = sym (c.is_full.ensures.1 e) ∙ c.if-is_full.false in cc) in
    let reserved : l.capacity ≤ vec_capacity c.push_reserved.new.self = rw c.push_reserved.ensures.capacity c.requires.kept.reserved in
    start_adds l c.requires.kept c.args.verified.now.config c.requires.program c.args.task c.requires.there (sym c.is_open.ensures ∙ c.if-is_open.false) (record { program = l.program; core = c.begin.new.core; stores = with_item l.stores c.from.result c.begin.new.own; capacity = l.capacity; journal = c.push_reserved.new.self }) refl c.begin.ensures.config refl (room l c.requires.kept other) reserved
    c.push_reserved.ensures.items c.begin.ensures.group c.begin.new.own (λ s at. let o = c.begin.ensures.own s at in record { store = o.0; is = o.1; of = o.2; begins = o.3 })
    (ap (λ i. slice_set l.stores.items i c.begin.new.own) c.from.ensures)

pub returns-clause-begins : goal.returns-clause-begins
returns-clause-begins c =
    let l = c.args.self.now in
    let x = here_now l c.requires.kept c.args.verified.now.config c.requires.program c.args.task c.requires.there in
    rw c.of.ensures (c.begin.ensures.of, snapped l c.requires.kept c.args.verified.now.config c.requires.program c.args.task c.requires.there c.begin.new.store (c.begin.ensures.store x.task x.there))

pub returns-clause-kept : goal.returns-clause-kept
returns-clause-kept c =
    let l = c.args.self.now in
    let other : length l.journal.items ≡ l.capacity → ⊥ = λ e. (let bad : true ≡ false = sym (c.is_full.ensures.1 e) ∙ c.if-is_full.false in cc) in
    let reserved : l.capacity ≤ vec_capacity c.push_reserved.new.self = rw c.push_reserved.ensures.capacity c.requires.kept.reserved in
    start_ledger l c.requires.kept c.args.verified.now.config c.requires.program c.args.task c.requires.there (sym c.is_open.ensures ∙ c.if-is_open.false) (record { program = l.program; core = c.begin.new.core; stores = with_item l.stores c.from.result c.begin.new.own; capacity = l.capacity; journal = c.push_reserved.new.self }) refl c.begin.ensures.config refl (room l c.requires.kept other) reserved
    c.push_reserved.ensures.items c.begin.ensures.group c.begin.new.own (λ s at. let o = c.begin.ensures.own s at in record { store = o.0; is = o.1; of = o.2; begins = o.3 })
    (ap (λ i. slice_set l.stores.items i c.begin.new.own) c.from.ensures)
