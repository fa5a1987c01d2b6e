-- The next line of a text.
use Rattle.std.proofs.Common.{◌≡◌, inl, inr, ℕ, List, [], ◌∷◌, ◌++◌, refl, sym, ◌∙◌}
use Rattle.trace_text.specs.Reading.{IsOneLine}
use Rattle.trace_text.proofs.Bytes.{split_once, same_first, same_rest}
use Rattle.group_state.specs.declared.fault.StateFault.{StateFault}
use Rattle.group_state.specs.declared.fault.StateFault.TheVariants.{BadLine, Truncated}
use Rattle.group_state.specs.Lines.{IsNext, Refuses}

-- a line feed is in no line
pub no_feed : (p m r : List ℕ) → IsOneLine p → p ≡ m ++ (10 ∷ r) → ⊥
no_feed [] [] r h e = absurd (cc)
no_feed [] (y ∷ m) r h e = absurd (cc)
no_feed (x ∷ p) [] r h e = h.0 (same_first x 10 p r e)
no_feed (x ∷ p) (y ∷ m) r h e = no_feed p m r h.1 (same_rest x y p (m ++ (10 ∷ r)) e)

-- a text has one next line
pub next_once : (text line rest other behind : List ℕ) → IsNext text line rest → IsNext text other behind → (line ≡ other) × (rest ≡ behind)
next_once text line rest other behind a b =
    let both = split_once 10 line other (10 ∷ rest) (10 ∷ behind) a.one b.one refl refl (sym a.whole ∙ b.whole) in
    (both.0, same_rest 10 10 rest behind both.1)

-- or it has none
pub next_or_none : (text line rest : List ℕ) → IsNext text line rest → IsOneLine text → ⊥
next_or_none text line rest next one = no_feed text line rest one next.whole

module _ (X : Type 0) (Says : X → List ℕ → Type 0) (Breaks : X → StateFault → Type 0) (text : List ℕ) where
  -- why a line isn't taken
  pub has_other_form : (line rest : List ℕ) → IsNext text line rest → ((said : X) → Says said line → ⊥) → Refuses X Says Breaks text BadLine
  has_other_form line rest next none = inl (refl, record { line = line; rest = rest; next = next; none = none })

  pub ends_in_it : (fault : StateFault) → (fault ≡ Truncated) × IsOneLine text → Refuses X Says Breaks text fault
  ends_in_it fault h = inr (inl h)

  pub breaks_rule : (fault : StateFault) (said : X) (line rest : List ℕ) → IsNext text line rest → Says said line → Breaks said fault → Refuses X Says Breaks text fault
  breaks_rule fault said line rest next says breaks = inr (inr (record { said = said; line = line; rest = rest; next = next; says = says; breaks = breaks }))
