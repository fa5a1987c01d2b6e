use Rattle.std.proofs.Common.{◌++◌, ◌∷◌, [], refl, ap, ◌∙◌}
use Rattle.cli_messages.specs.Places.{place_text, quoted}
use Rattle.cli_messages.proofs.Splitting.{source_is}
use Rattle.cli_messages.proofs.place.below.Goals as goal

pub returns : goal.returns
returns c =
    let place = place_text c.args.name.now c.args.line in
    let source = c.unwrap_or-source.result.now in
    let title = c.in_ok-put_title.ensures.0 in
    let more = c.in_ok-put_more.ensures.0 in
    record {
      source = source;
      is_source = source_is c.args.text.now c.args.line c.saturating_sub.result c.line_at.result c.unwrap_or-source.result _ c.saturating_sub.ensures refl c.unwrap_or-source.ensures c.line_at.ensures.found c.line_at.ensures.none;
      title = title;
      is_title = c.in_ok-put_title.ensures.1;
      more = more;
      is_more = c.in_ok-put_more.ensures.1;
      is =
          c.in_ok-put_more.ensures.2
          ∙ ap (λ l. l ++ more)
          (c.in_ok-put_source.ensures
          ∙ ap (λ l. l ++ (quoted source ++ 10 ∷ []))
          (c.in_ok-put_title.ensures.2
          ∙ ap (λ l. l ++ (title ++ 10 ∷ [])) (c.in_ok-put_place.ensures ∙ ap (λ l. l ++ place) c.new-below.ensures.items)));
    }
