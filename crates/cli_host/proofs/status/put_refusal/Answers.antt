use Rattle.std.proofs.Common.{◌≡◌, ◌++◌, ◌∙◌, ℕ, List, ap, append_assoc, decimal, subst}
use Rattle.std.specs.Prelude.{codes, OnErr}
use Rattle.std.proofs.KnownBytes.{Appends-trans}
use Rattle.cli_host.specs.Writes.{AppendsFront}
use Rattle.cli_host.specs.declared.status.Fault.TheVariants.{Refused}
use Rattle.cli_host.specs.Messages.{message_of}
use Rattle.cli_host.proofs.Fronts.{front_of, front_behind, fails_behind, on_err}
use Rattle.cli_host.proofs.status.put_refusal.Goals as goal

-- the number, as it is written
numbered : ℕ → List ℕ
numbered n = codes "refused " ++ decimal n

-- the line, as it is written
at_line : ℕ → List ℕ
at_line n = codes " at line " ++ decimal n

-- the message in its three pieces
in_three : (n m line : ℕ) → n ≡ m → (numbered n ++ at_line line) ++ codes "\n" ≡ message_of (Refused m line)
unfolding numbered at_line
in_three n m line e = ap (λ (k : ℕ). (numbered k ++ at_line line) ++ codes "\n") e ∙ simp append_assoc

pub returns-in_err-put_numbered-clause-front : goal.returns-in_err-put_numbered-clause-front
unfolding numbered at_line
returns-in_err-put_numbered-clause-front g c =
    on_err c.from_residual.result
    (subst (AppendsFront (g.S.Sink.contents c.args.sink.now) (g.S.Sink.contents c.put_numbered.new.sink)) (in_three c.from.result c.args.number c.args.line c.from.ensures)
    (front_of _ _ (numbered c.from.result ++ at_line c.args.line) (codes "\n") (front_of _ _ (numbered c.from.result) (at_line c.args.line) c.in_err-put_numbered.ensures.front)))

pub returns-in_err-put_numbered-2-clause-front : goal.returns-in_err-put_numbered-2-clause-front
unfolding numbered at_line
returns-in_err-put_numbered-2-clause-front g c =
    on_err c.from_residual-in_err-put_numbered-2.result
    (subst (AppendsFront (g.S.Sink.contents c.args.sink.now) (g.S.Sink.contents c.put_numbered-2.new.sink)) (in_three c.from.result c.args.number c.args.line c.from.ensures)
    (front_of _ _ (numbered c.from.result ++ at_line c.args.line) (codes "\n")
    (front_behind _ _ _ (numbered c.from.result) (at_line c.args.line) c.in_ok-put_numbered.ensures.ok c.in_err-put_numbered-2.ensures.front)))

pub returns-clause-front : goal.returns-clause-front
unfolding numbered at_line
returns-clause-front g c =
    let before = Appends-trans _ _ _ (numbered c.from.result) (at_line c.args.line) c.in_ok-put_numbered.ensures.ok c.in_ok-put_numbered-2.ensures.ok in
    subst (λ (l : List ℕ). OnErr c.put_all.result (AppendsFront (g.S.Sink.contents c.args.sink.now) (g.S.Sink.contents c.put_all.new.sink) l)) (in_three c.from.result c.args.number c.args.line c.from.ensures)
    (fails_behind c.put_all.result _ _ _ (numbered c.from.result ++ at_line c.args.line) (codes "\n") before c.put_all.ensures.front)
