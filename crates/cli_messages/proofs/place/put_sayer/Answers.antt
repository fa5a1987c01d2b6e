use Rattle.std.proofs.Common.{◌++◌, ap, ◌∙◌}
use Rattle.std.specs.Prelude.{codes, decimal}
use Rattle.std.proofs.lemmas.List.{append_assoc}
use Rattle.cli_messages.proofs.place.put_sayer.Goals as goal

pub returns : goal.returns
returns c =
    let first = codes "`liftplc explain " in
    let last = codes "` says more\n" in
    c.in_ok-extend_from_slice-3.ensures.items ∙ ap (λ l. l ++ last) (c.in_ok-extend_from_slice-2.ensures.items ∙ ap (λ l. c.extend_from_slice.new.self.items ++ l) (c.as_bytes.ensures.value ∙ c.format.ensures.text) ∙ ap (λ l. l ++ decimal c.args.number) c.in_ok-extend_from_slice.ensures.items)
    ∙ append_assoc (c.args.to.now.items ++ first) (decimal c.args.number) last ∙ append_assoc c.args.to.now.items first (decimal c.args.number ++ last)
