use Rattle.std.proofs.Common.{◌+◌, ◌++◌, ◌∷◌, [], length, ap, ◌∙◌}
use Rattle.cli_messages.specs.Places.{column_text, around, mark}
use Rattle.cli_messages.proofs.place.text_below.Goals as goal

pub returns : goal.returns
returns c =
    let front = c.line_around-line.result.front.now in
    let back = c.line_around-line.result.back.now in
    let place = column_text c.args.name.now c.args.place.line (length front + 1) in
    let title = c.in_ok-put_title.ensures.0 in
    let more = c.in_ok-put_more.ensures.0 in
    record {
      front = front;
      back = back;
      is_line = c.line_around-line.ensures;
      title = title;
      is_title = c.in_ok-put_title.ensures.1;
      more = more;
      is_more = c.in_ok-put_more.ensures.1;
      is =
          c.in_ok-put_more.ensures.2
          ∙ ap (λ l. l ++ more)
          (c.in_ok-extend_from_slice.ensures.items
          ∙ ap (λ l. l ++ c.args.reason.now)
          (c.in_ok-put_mark.ensures
          ∙ ap (λ l. l ++ (mark front back ++ 10 ∷ []))
          (c.in_ok-put_line.ensures
          ∙ ap (λ l. l ++ (around front back ++ 10 ∷ []))
          (c.in_ok-put_title.ensures.2
          ∙ ap (λ l. l ++ (title ++ 10 ∷ [])) (c.in_ok-put_column.ensures ∙ ap (λ l. l ++ place) c.new-below.ensures.items)))));
    }
