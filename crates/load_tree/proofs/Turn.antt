-- What a fault names.
use Rattle.std.proofs.Common.{◌≡◌, ◌<◌, ℕ, length, List, [], ◌∷◌, refl, sym, subst, Option, Some, None}
use Rattle.std.specs.Option.{unwrap_or}
use Rattle.il_syntax.specs.declared.token.Token.{Token}
use Rattle.il_syntax.specs.declared.tree.Place.{Place}
use Rattle.il_syntax.specs.Text.{line_at}
use Rattle.load_lines.specs.Reads.{fault_at}
use Rattle.load_lines.specs.declared.stop.SyntaxError.{SyntaxError}
use Rattle.load_lines.specs.declared.stop.Stop.TheVariants as stop
use Rattle.load_tree.specs.Refused.{IsPlaceAt}

-- a fault at these tokens is of this error, at the place of the first of them, or at the end of the text
pub fault_parts : (a b : SyntaxError) (place : Option Place) (at : List Token) → stop.Fault a place ≡ fault_at b at → (text : List ℕ) (end : Place) → (length text < 4294967295 → end.offset ≡ length text) → (length text < 4294967295 → end.line ≡ line_at text (length text)) → (a ≡ b) × IsPlaceAt text (unwrap_or place end) at
unfolding fault_at
fault_parts a b place [] h text end offset line =
    let none : place ≡ None = cc in
    (cc, λ short. subst (λ (p : Option Place). ((unwrap_or p end).offset ≡ length text) × ((unwrap_or p end).line ≡ line_at text (length text))) (sym none) (offset short, line short))
fault_parts a b place (t ∷ ts) h text end offset line =
    let here : Place = record { offset = t.start; line = t.line } in
    let same : place ≡ Some here = cc in
    (cc, rw same (refl, refl))
