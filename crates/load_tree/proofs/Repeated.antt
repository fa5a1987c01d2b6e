-- Repeated things, and what follows them.
use Rattle.std.proofs.Common.{ℕ, List, [], ◌∷◌, refl, sym, subst}
use Rattle.il_syntax.specs.declared.token.Token.{Token}
use Rattle.il_syntax.specs.Grammar.{Front, skip_line_ends, ◌⨾◌, ◌⋯◌, AfterLines, No, Repeats}
use Rattle.il_syntax_laws.proofs.Alike.{loose_gap}
use Rattle.load_lines.proofs.Chain.{past}
use Rattle.load_lines.specs.Reads.{Refuses}
use Rattle.load_lines.specs.declared.stop.Stop.{Stop}

-- after line ends
pub after_refused : {A : Type 0} {P : List ℕ → A → Front} {text : List ℕ} {ts : List Token} {e : Stop} → Refuses P text (skip_line_ends ts) e → Refuses (λ text x. AfterLines (P text x)) text ts e
after_refused bad = past loose_gap (λ other us back a gone x r w. gone x r w) bad

module _ {A : Type 0} (P : A → Front) where
  -- their end, apart from what follows it
  pub end_apart : (F Q : Front) (xs : List A) (ts r : List Token) → Repeats P xs (F ⋯ Q) ts r → (Repeats P xs F ⋯ Q) ts r
  end_apart F Q [] ts r w = w
  end_apart F Q (x ∷ xs) ts r w = let v = end_apart F Q xs (skip_line_ends w.0) r w.2 in (v.0, (w.0, w.1, v.1), v.2)

  pub end_joined : (F Q : Front) (xs : List A) (ts r : List Token) → (Repeats P xs F ⋯ Q) ts r → Repeats P xs (F ⋯ Q) ts r
  end_joined F Q [] ts r w = w
  end_joined F Q (x ∷ xs) ts r w = (w.1.0, w.1.1, end_joined F Q xs (skip_line_ends w.1.0) r (w.0, w.1.2, w.2))

  -- all of them, apart from what follows them and is none
  pub stop_apart : (W E : Front) → ((ts r s : List Token) → E ts r → W ts s → ⊥) → (xs : List A) (ts r : List Token) → Repeats P xs E ts r → (Repeats P xs (No W) ⨾ E) ts r
  stop_apart W E apart [] ts r w = (ts, (refl, λ s v. apart ts r s w v), w)
  stop_apart W E apart (x ∷ xs) ts r w = let v = stop_apart W E apart xs (skip_line_ends w.0) r w.2 in (v.0, (w.0, w.1, v.1), v.2)

  pub stop_joined : (W E : Front) (xs : List A) (ts r : List Token) → (Repeats P xs (No W) ⨾ E) ts r → Repeats P xs E ts r
  stop_joined W E [] ts r w = subst (λ (m : List Token). E m r) (sym w.1.0) w.2
  stop_joined W E (x ∷ xs) ts r w = (w.1.0, w.1.1, stop_joined W E xs (skip_line_ends w.1.0) r (w.0, w.1.2, w.2))
