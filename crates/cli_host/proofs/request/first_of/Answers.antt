use Rattle.std.proofs.Common.{rules, arith, ap, map, ◌+◌, ◌≡◌}
use Rattle.std.specs.Prelude.{string_bytes}
use Rattle.cli_host.proofs.Apart.{stands, within, one_none}
use Rattle.cli_host.proofs.request.first_of.Goals as goal

pub words-preserved : goal.words-preserved
words-preserved c = (
  ap (λ n. n + 1) c.words.invariant.0,
  one_none (λ w. w ≡ c.args.option.now) (map string_bytes c.args.words.now) c.words.word-index c.deref.result.now
      (stands c.args.words.now c.words.word-index c.word-item.result c.deref.result.now c.words-test.true c.word-item.is c.deref.ensures)
      (search (rules, c.if-is_same.ensures)) c.words.invariant.1,
)

pub returns-clause-at : goal.returns-clause-at
returns-clause-at c = λ word at. let low = within c.args.words.now c.words.place word at in absurd (omega (arith, low, c.words.invariant.0, c.words-test.false))
