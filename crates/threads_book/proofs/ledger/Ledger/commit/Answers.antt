use Rattle.std.proofs.Common.{◌≡◌, ◌≤◌, true, false, refl, sym, ◌∙◌, length}
use Rattle.std.specs.Prelude.{vec_capacity}
use Rattle.threads_book.specs.Ledgers.{page_of}
use Rattle.threads_book.proofs.Faults.{full_so, full_not, not_so}
use Rattle.threads_book.proofs.Stepping.{room}
use Rattle.threads_book.proofs.Committing.{commit_program, commit_open, commit_of, commit_adds, commit_ledger}
use Rattle.threads_book.proofs.ledger.Ledger.commit.Goals as goal

pub commit-requires-clause-program : goal.commit-requires-clause-program
commit-requires-clause-program c = commit_program c.args.self.now c.requires.kept c.args.verified.now.config c.requires.program c.args.task c.args.scanned (c.has_open.ensures.0 c.if-not-has_open.false)

pub commit-requires-clause-open : goal.commit-requires-clause-open
commit-requires-clause-open c = commit_open c.args.self.now c.requires.kept c.args.verified.now.config c.requires.program c.args.task c.args.scanned (c.has_open.ensures.0 c.if-not-has_open.false)

pub commit-requires-clause-of : goal.commit-requires-clause-of
commit-requires-clause-of c = commit_of c.args.self.now c.requires.kept c.args.verified.now.config c.requires.program c.args.task c.args.scanned (c.has_open.ensures.0 c.if-not-has_open.false) c.into_store-store.result c.into_store-store.ensures

pub returns-clause-done : goal.returns-clause-done
returns-clause-done c =
    let l = c.args.self.now in
    let other : length l.journal.items ≡ l.capacity → ⊥ = λ e. (let bad : true ≡ false = sym (c.is_full.ensures.1 e) ∙ c.if-is_full.false in cc) in
    let reserved : l.capacity ≤ vec_capacity c.push_reserved.new.self = rw c.push_reserved.ensures.capacity c.requires.kept.reserved in (
      commit_adds c.args.self.now c.requires.kept c.args.verified.now.config c.requires.program c.args.task c.args.scanned (c.has_open.ensures.0 c.if-not-has_open.false) c.is_scan.ensures
          (record { program = l.program; core = c.commit.new.self; stores = l.stores; capacity = l.capacity; journal = c.push_reserved.new.self }) refl c.commit.ensures.config refl (room l c.requires.kept other)
          reserved c.push_reserved.ensures.items refl c.into_store-store.result c.into_store-store.ensures c.commit.new.report c.commit.ensures.group,
      c.into_store-store.ensures,
    )

pub returns-clause-kept : goal.returns-clause-kept
returns-clause-kept c =
    let l = c.args.self.now in
    let other : length l.journal.items ≡ l.capacity → ⊥ = λ e. (let bad : true ≡ false = sym (c.is_full.ensures.1 e) ∙ c.if-is_full.false in cc) in
    let reserved : l.capacity ≤ vec_capacity c.push_reserved.new.self = rw c.push_reserved.ensures.capacity c.requires.kept.reserved in
    commit_ledger c.args.self.now c.requires.kept c.args.verified.now.config c.requires.program c.args.task c.args.scanned (c.has_open.ensures.0 c.if-not-has_open.false) c.is_scan.ensures
    (record { program = l.program; core = c.commit.new.self; stores = l.stores; capacity = l.capacity; journal = c.push_reserved.new.self }) refl c.commit.ensures.config refl (room l c.requires.kept other)
    reserved c.push_reserved.ensures.items refl c.into_store-store.result c.into_store-store.ensures c.commit.new.report c.commit.ensures.group

pub returns-clause-mine : goal.returns-clause-mine
returns-clause-mine c = c.has_open.ensures.0 c.if-not-has_open.false

pub returns-then-not-has_open-clause-open : goal.returns-then-not-has_open-clause-open
returns-then-not-has_open-clause-open c = λ here. not_so c.has_open.result (c.has_open.ensures.1 here) c.if-not-has_open.true

pub returns-then-not-has_open-clause-other : goal.returns-then-not-has_open-clause-other
returns-then-not-has_open-clause-other c = λ _. refl

pub returns-then-is_full-clause-open : goal.returns-then-is_full-clause-open
returns-then-is_full-clause-open c = λ _. sym (full_so (page_of c.args.self.now) (c.is_full.ensures.0 c.if-is_full.true))

pub returns-then-is_full-clause-other : goal.returns-then-is_full-clause-other
returns-then-is_full-clause-other c = λ no. absurd (no (c.has_open.ensures.0 c.if-not-has_open.false))

pub returns-clause-open : goal.returns-clause-open
returns-clause-open c = λ _. sym (full_not (page_of c.args.self.now) (λ e. not_so c.is_full.result (c.is_full.ensures.1 e) c.if-is_full.false))

pub returns-clause-other : goal.returns-clause-other
returns-clause-other c = λ no. absurd (no (c.has_open.ensures.0 c.if-not-has_open.false))
