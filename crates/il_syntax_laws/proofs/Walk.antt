-- A walk over the tokens of a text, along a rule of its grammar: the places that the rule gives rise, each has its line, and
-- the tokens after it are those of the text from some place on.
use Rattle.std.proofs.Common.{◌≡◌, ℕ, ◌≤◌, List, [], ◌∷◌, ◌++◌, refl, sym, ◌∙◌, ap, subst, arith, append_assoc, append-nil, Bool, true, false, ◌⊎◌, inl, inr}
use Rattle.std.specs.Prelude.{flat_map}
use Rattle.il_syntax.specs.declared.token.Token.{Token}
use Rattle.il_syntax.specs.declared.token.Sign.{Sign}
use Rattle.il_syntax.specs.declared.token.Sign.TheVariants.{Comma}
use Rattle.il_syntax.specs.declared.tree.Place.{Place}
use Rattle.il_syntax.specs.Text.{AreBlanks, IsLexeme, AreTokens, line_at}
use Rattle.il_syntax.specs.Grammar.{Front, Gap, tight, loose, is_line_end, skip_line_ends, ◌⟨◌⟩◌, AfterLines, Nothing, No, TheEnd, One, At, Repeats, TheSign, TheLineEnd, Listed}
use Rattle.load_tokens.proofs.Blanks.{blank_within}
use Rattle.load_tokens.proofs.Lexemes.{lexeme_within}

-- places from one byte up to another: they rise, and each has its line
abbrev pub Rise : List ℕ → ℕ → List Place → ℕ → Type 0
Rise text from [] to = from ≤ to
Rise text from (p ∷ ps) to = (from ≤ p.offset) × (p.line ≡ line_at text p.offset) × Rise text p.offset ps to

-- places from an earlier byte
lower : (text : List ℕ) (a b : ℕ) (ps : List Place) (to : ℕ) → a ≤ b → Rise text b ps to → Rise text a ps to
lower text a b [] to le h = omega arith
lower text a b (p ∷ ps) to le h = (omega (arith, h.0), h.1, h.2)

-- places up to a later byte
raise : (text : List ℕ) (at : ℕ) (ps : List Place) (a b : ℕ) → Rise text at ps a → a ≤ b → Rise text at ps b
raise text at [] a b h le = omega arith
raise text at (p ∷ ps) a b h le = (h.0, h.1, raise text p.offset ps a b h.2 le)

-- places after others
both_rise : (text : List ℕ) (at middle to : ℕ) (ps qs : List Place) → Rise text at ps middle → Rise text middle qs to → Rise text at (ps ++ qs) to
both_rise text at middle to [] qs h k = lower text at middle qs to h k
both_rise text at middle to (p ∷ ps) qs h k = (h.0, h.1, both_rise text p.offset middle to ps qs h.2 k)

-- What a rule gives of the tokens of a text: these places, this fact, and again tokens of the text.
pub record Shows (text : List ℕ) (P : Front) (ps : List Place) (X : Type 0) : Type 0 where
  pub walk : (at : ℕ) (ts r : List Token) → AreTokens text at ts → P ts r → (to : ℕ) × AreTokens text to r × Rise text at ps to × X

-- A gap passes over tokens of a text.
pub record Skips (text : List ℕ) (gap : Gap) : Type 0 where
  pub skip : (at : ℕ) (ts : List Token) → AreTokens text at ts → (to : ℕ) × AreTokens text to (gap ts) × (at ≤ to)

-- blanks go up
blanks_up : (text : List ℕ) (ends : List ℕ) (i j : ℕ) → AreBlanks text ends i j → i ≤ j
blanks_up text [] i j h = omega (arith, h)
blanks_up text (k ∷ ends) i j h = omega (arith, (blank_within text i k h.0).0, blanks_up text ends k j h.1)

-- a token goes up
token_up : (text : List ℕ) (at : ℕ) (t : Token) (ts : List Token) → AreTokens text at (t ∷ ts) → (at ≤ t.start) × (at ≤ t.end)
token_up text at t ts h =
    let gap = blanks_up text h.0.gap.0 at t.start h.0.gap.1 in
    let within = lexeme_within text t.kind t.start t.end h.0.lexeme in
    (gap, omega (arith, gap, within.0))

-- line ends
skip_lines : (text : List ℕ) (at : ℕ) (ts : List Token) → AreTokens text at ts → (to : ℕ) × AreTokens text to (skip_line_ends ts) × (at ≤ to)
skip_lines text at [] h = (at, h, omega arith)
skip_lines text at (t ∷ ts) h = go (is_line_end t.kind) refl (skip_lines text t.end ts h.1)
  where
    go : (b : Bool) → is_line_end t.kind ≡ b → (to : ℕ) × AreTokens text to (skip_line_ends ts) × (t.end ≤ to) → (to : ℕ) × AreTokens text to (skip_line_ends (t ∷ ts)) × (at ≤ to)
    go true e rest = let up = token_up text at t ts h in rw e (rest.0, rest.1, omega (arith, rest.2, up.1))
    go false e rest = rw e (at, h, omega arith)

-- a fact for each of a list
abbrev pub Each : {A : Type 0} → (A → Type 0) → List A → Type 0
Each X [] = Unit {0}
Each X (x ∷ xs) = X x × Each X xs

module _ {text : List ℕ} where
  -- nothing is passed over
  pub tightly : Skips text tight
  tightly = record { skip = λ at ts h. (at, h, omega arith) }

  -- line ends are passed over
  pub loosely : Skips text loose
  loosely = record { skip = λ at ts h. skip_lines text at ts h }

  -- a further fact
  pub gives : {P : Front} {ps : List Place} {X Y : Type 0} → (X → Y) → Shows text P ps X → Shows text P ps Y
  gives f one = record { walk = λ at ts r h p. let w = one.walk at ts r h p in (w.0, w.1, w.2, f w.3) }

  -- the same places
  pub placed : {P : Front} {ps qs : List Place} {X : Type 0} → ps ≡ qs → Shows text P ps X → Shows text P qs X
  placed {P = P} {X = X} e one = subst (λ l. Shows text P l X) e one

  -- one thing after another
  pub chain : {P Q : Front} {gap : Gap} {ps qs : List Place} {X Y : Type 0} → Skips text gap → Shows text P ps X → Shows text Q qs Y → Shows text (P ⟨ gap ⟩ Q) (ps ++ qs) (X × Y)
  chain {ps = ps} {qs = qs} gap one two = record {
    walk = λ at ts r h p.
        let first = one.walk at ts p.0 h p.1 in
        let between = gap.skip first.0 p.0 first.1 in
        let second = two.walk between.0 _ r between.1 p.2 in
        (second.0, second.1, both_rise text at between.0 second.0 ps qs (raise text at ps first.0 between.0 first.2 between.2) second.2, (first.3, second.3));
  }

  -- a thing after a part without places
  pub behind : {P Q : Front} {gap : Gap} {qs : List Place} {X Y : Type 0} → Skips text gap → Shows text P [] X → Shows text Q qs Y → Shows text (P ⟨ gap ⟩ Q) qs Y
  behind gap one two = gives (λ x. x.1) (chain gap one two)

  -- a thing before a part without places
  pub before : {P Q : Front} {gap : Gap} {ps : List Place} {X Y : Type 0} → Skips text gap → Shows text P ps X → Shows text Q [] Y → Shows text (P ⟨ gap ⟩ Q) ps X
  before {ps = ps} gap one two = gives (λ x. x.0) (placed (append-nil ps) (chain gap one two))

  -- after any number of line ends
  pub after_lines : {P : Front} {ps : List Place} {X : Type 0} → Shows text P ps X → Shows text (AfterLines P) ps X
  after_lines {ps = ps} one = record {
    walk = λ at ts r h p.
        let between = skip_lines text at ts h in
        let w = one.walk between.0 (skip_line_ends ts) r between.1 p in
        (w.0, w.1, lower text at between.0 ps w.0 between.2 w.2, w.3);
  }

  -- nothing
  pub nothing : Shows text Nothing [] (Unit {0})
  nothing = record { walk = λ at ts r h p. (at, subst (AreTokens text at) p h, omega arith, tt) }

  -- nothing where something is missing
  pub missing : (P : Front) → Shows text (No P) [] (Unit {0})
  missing P = record { walk = λ at ts r h p. (at, subst (AreTokens text at) p.0 h, omega arith, tt) }

  -- the end of the text
  pub the_end : Shows text TheEnd [] (Unit {0})
  the_end = record { walk = λ at ts r h p. (at, subst (AreTokens text at) (p.0 ∙ sym p.1) h, omega arith, tt) }

  -- one thing or another
  pub either : {P Q : Front} {ps : List Place} {X : Type 0} → Shows text P ps X → Shows text Q ps X → Shows text (λ ts r. P ts r ⊎ Q ts r) ps X
  either one two = record { walk = λ at ts r h p. elim p [ inl q ↦ one.walk at ts r h q | inr q ↦ two.walk at ts r h q ] }

  -- one token, and what it is
  pub one : {test : Token → Type 0} {X : Type 0} → ((t : Token) → test t → IsLexeme text t.kind t.start t.end → X) → Shows text (One test) [] X
  one {test = test} {X = X} f = record { walk = go }
    where
      go : (at : ℕ) (ts r : List Token) → AreTokens text at ts → One test ts r → (to : ℕ) × AreTokens text to r × (at ≤ to) × X
      go at [] r h p = absurd p
      go at (t ∷ ts) r h p = let up = token_up text at t ts h in (t.end, subst (AreTokens text t.end) p.1 h.1, up.1, f t p.0 h.0.lexeme)

  -- a sign
  pub the_sign : (s : Sign) → Shows text (TheSign s) [] (Unit {0})
  the_sign s = one (λ t p l. tt)

  -- a line end
  pub the_line_end : Shows text TheLineEnd [] (Unit {0})
  the_line_end = one (λ t p l. tt)

  -- a thing at its place
  pub at_place : {P : Front} {ps : List Place} {X : Type 0} (place : Place) → Shows text P ps X → Shows text (At place P) (place ∷ ps) X
  at_place {P = P} {ps = ps} {X = X} place inner = record { walk = go }
    where
      go : (at : ℕ) (ts r : List Token) → AreTokens text at ts → At place P ts r → (to : ℕ) × AreTokens text to r × Rise text at (place ∷ ps) to × X
      go at [] r h p = absurd p
      go at (t ∷ ts) r h p =
          let w = inner.walk t.start (t ∷ ts) r (record { gap = ([], refl); lexeme = h.0.lexeme; line = h.0.line }, h.1) p.2 in
          let up = token_up text at t ts h in
          (w.0, w.1, (subst (λ o. at ≤ o) p.0 up.0, sym p.1 ∙ h.0.line ∙ ap (line_at text) p.0, subst (λ o. Rise text o ps w.0) p.0 w.2), w.3)

  -- things one after another, and an end
  pub repeats : {A : Type 0} {P : A → Front} {places : A → List Place} {X : A → Type 0} {F : Front} {qs : List Place} {Y : Type 0} → ((a : A) → Shows text (P a) (places a) (X a)) → Shows text F qs Y → (xs : List A)
      → Shows text (Repeats P xs F) (flat_map places xs ++ qs) (Each X xs × Y)
  repeats each end [] = gives (λ y. (tt, y)) end
  repeats {places = places} {qs = qs} each end (x ∷ xs) =
      gives (λ y. ((y.0, y.1.0), y.1.1)) (placed (sym (append_assoc (places x) (flat_map places xs) qs)) (chain loosely (each x) (repeats each end xs)))

  -- things one after another, up to an end without places
  pub repeats_until : {A : Type 0} {P : A → Front} {places : A → List Place} {X : A → Type 0} {F : Front} {Y : Type 0} → ((a : A) → Shows text (P a) (places a) (X a)) → Shows text F [] Y → (xs : List A)
      → Shows text (Repeats P xs F) (flat_map places xs) (Each X xs)
  repeats_until {places = places} each end xs = gives (λ y. y.0) (placed (append-nil (flat_map places xs)) (repeats each end xs))

  -- things with commas between them, and an end without places
  pub listed : {A : Type 0} {P : A → Front} {places : A → List Place} {X : A → Type 0} {F : Front} {Y : Type 0} {gap : Gap} → Skips text gap → ((a : A) → Shows text (P a) (places a) (X a)) → Shows text F [] Y → (xs : List A)
      → Shows text (Listed gap P xs F) (flat_map places xs) (Each X xs)
  listed gap each end [] = record { walk = λ at ts r h p. absurd p }
  listed gap each end (x ∷ []) = gives (λ y. (y.0, tt)) (chain gap (each x) end)
  listed gap each end (x ∷ y ∷ ys) = chain gap (each x) (behind gap (the_sign Comma) (listed gap each end (y ∷ ys)))
