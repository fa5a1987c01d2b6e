use Rattle.std.proofs.Common.{sym, ◌∙◌, arith}
use Rattle.threads_desk.specs.declared.rule.Size.{Size}
use Rattle.threads_desk.proofs.Seats.{opens}
use Rattle.threads_desk.proofs.desk.Desk.new.Goals as goal

pub of_words-requires : goal.of_words-requires
of_words-requires c =
    let size : Size = record { floors = c.from.result; panels = c.from-2.result } in
    opens size c.from-3.result (c.from-3.ensures ∙ sym c.from.ensures) (omega (arith, c.from-3.ensures, c.requires.floors.1))
