use Rattle.std.proofs.Common.{◌≡◌, false, true, sym, ap, ◌∙◌}
use Rattle.std.specs.Prelude.{is_some}
use Rattle.group_spec.specs.World.{scan_at}
use Rattle.group_world.proofs.Views.{here}
use Rattle.threads_book.specs.Ledgers.{world_of}
use Rattle.threads_book.proofs.Standing.{open_now, task_open, store_there}
use Rattle.threads_book.proofs.Opened.{begun_open, config_open, here_so, so_here}
use Rattle.threads_book.proofs.ledger.Ledger.has_open.Goals as goal

pub returns-then-not-is_open : goal.returns-then-not-is_open
returns-then-not-is_open c =
    let closed : is_some (scan_at (world_of c.args.self.now) c.args.task) ≡ false = open_now c.args.self.now c.requires.kept c.args.task ∙ sym c.is_open.ensures ∙ c.if-not-is_open.true in
    (λ bad. (let no : false ≡ true = bad in cc), λ here. sym closed ∙ ap is_some here.same_values)

pub began_as-requires-clause-begins : goal.began_as-requires-clause-begins
began_as-requires-clause-begins c =
    let l = c.args.self.now in
    let so = sym c.is_open.ensures ∙ c.if-not-is_open.false in
    let lent = here _ _ _ _ c.from.ensures c.index.ensures (store_there l c.requires.kept c.args.task (task_open l c.requires.kept c.args.task so)) in
    begun_open l c.requires.kept c.args.task so c.in-Some.store (lent ∙ c.in-Some.is)

pub began_as-requires-clause-of : goal.began_as-requires-clause-of
began_as-requires-clause-of c =
    let l = c.args.self.now in
    let so = sym c.is_open.ensures ∙ c.if-not-is_open.false in
    let lent = here _ _ _ _ c.from.ensures c.index.ensures (store_there l c.requires.kept c.args.task (task_open l c.requires.kept c.args.task so)) in
    config_open l c.requires.kept c.args.task so c.in-Some.store (lent ∙ c.in-Some.is) ∙ sym c.requires.program

pub unreachable-requires : goal.unreachable-requires
unreachable-requires c =
    let l = c.args.self.now in
    let so = sym c.is_open.ensures ∙ c.if-not-is_open.false in
    let there = store_there l c.requires.kept c.args.task (task_open l c.requires.kept c.args.task so) in
    let lent = here _ _ _ _ c.from.ensures c.index.ensures there in
    let bad : false ≡ true = sym (ap is_some (lent ∙ c.in-None.is)) ∙ there in
    cc

pub returns : goal.returns
returns c =
    let l = c.args.self.now in
    let so = sym c.is_open.ensures ∙ c.if-not-is_open.false in
    let lent = here _ _ _ _ c.from.ensures c.index.ensures (store_there l c.requires.kept c.args.task (task_open l c.requires.kept c.args.task so)) in (
      λ yes. here_so l c.requires.kept c.args.task so c.in-Some.store (lent ∙ c.in-Some.is) c.args.scanned.now (c.began_as.ensures.0 yes),
      λ here. c.began_as.ensures.1 (so_here l c.requires.kept c.args.task so c.in-Some.store (lent ∙ c.in-Some.is) c.args.scanned.now here),
    )
