use Rattle.std.proofs.Common.{rules}
use Rattle.std.proofs.lemmas.Fmt.{length-decimal-le}
use Rattle.trace_text.proofs.put.put_digits.Goals as goal

pub write_digits-start-requires : goal.write_digits-start-requires
write_digits-start-requires c = search (rules, length-decimal-le 10)
