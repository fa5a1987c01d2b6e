use Rattle.std.proofs.Common.{◌+◌, arith, inl, refl}
use Rattle.cli_messages.proofs.LastLines.{nowhere, behind_last, rest_of}
use Rattle.cli_messages.proofs.lines.last_line.Goals as goal

pub returns-in-Some : goal.returns-in-Some
returns-in-Some c = behind_last c.args.text.now _ c.in-Some.at (rest_of c.args.text.now (c.in-Some.at + 1)) c.in-Some.ensures.0.high c.in-Some.ensures.1 c.in-Some.ensures.0.after

pub returns-in-None : goal.returns-in-None
returns-in-None c = (nowhere 10 c.args.text.now (λ k low. c.in-None.ensures k (omega arith) low), inl refl)
