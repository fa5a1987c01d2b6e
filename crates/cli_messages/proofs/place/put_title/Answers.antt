use Rattle.std.proofs.Common.{◌++◌, ◌∷◌, [], refl, ap, ◌∙◌}
use Rattle.std.proofs.lemmas.List.{append_assoc}
use Rattle.cli_messages.proofs.LastLines.{title_is}
use Rattle.cli_messages.proofs.place.put_title.Goals as goal

pub returns : goal.returns
returns c =
    let title = c.as_bytes.result.now in (
      title,
      title_is c.args.number c.title.result title _ c.title.ensures refl (c.as_bytes.ensures.value ∙ ap (λ s. s.now) c.unwrap_or.ensures),
      c.in_ok-extend_from_slice-2.ensures.items ∙ ap (λ l. l ++ 10 ∷ []) c.in_ok-extend_from_slice.ensures.items ∙ append_assoc c.args.to.now.items title (10 ∷ []),
    )
