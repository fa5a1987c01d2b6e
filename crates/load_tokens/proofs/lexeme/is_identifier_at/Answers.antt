use Rattle.std.proofs.Common.{sym, arith}
use Rattle.load_tokens.proofs.Runs.{seen_identifier}
use Rattle.load_tokens.proofs.lexeme.is_identifier_at.Goals as goal

pub returns-then-end-seen : goal.returns-then-end-seen
returns-then-end-seen c = sym (seen_identifier c.args.text.now c.args.at c.args.end c.requires.inside.0 c.requires.inside.1 (λ k from to. c.requires.pass k from (omega arith)))
