-- Tokens that are the beginning of a rule, put together.
use Rattle.std.proofs.Common.{◌≡◌, ◌<◌, ◌≤◌, ℕ, zero, suc, Bool, true, false, not, List, [], ◌∷◌, ◌++◌, length, refl, sym, ◌∙◌, ap, subst, inl, inr, arith}
use Rattle.std.specs.Prelude.{◌⊎◌, IsTrue, bytes_eq, codes, if◌then◌else◌}
use Rattle.il_syntax.specs.declared.token.Token.{Token}
use Rattle.il_syntax.specs.declared.token.Kind.{Kind}
use Rattle.il_syntax.specs.declared.token.Kind.TheVariants as kind
use Rattle.il_syntax.specs.declared.token.Sign.{Sign}
use Rattle.il_syntax.specs.declared.token.Sign.TheVariants.{Comma, OpenParenthesis, OpenBracket, Dot}
use Rattle.il_syntax.specs.declared.tree.Place.{Place}
use Rattle.il_syntax.specs.Text.{upper_case, name_of}
use Rattle.il_syntax.specs.Grammar.{Front, Gap, tight, loose, is_line_end, skip_line_ends, ◌⟨◌⟩◌, ◌⨾◌, AfterLines, One, At, Repeats, Listed, TheSign}
use Rattle.il_syntax_laws.specs.Alike.{IsEndOf}
use Rattle.il_syntax_laws.specs.GoesOn.{Sample, IsOf, AreOf, IsCut, Test, always, stops, quiet, calm, settled, ended, IsSampled, BeginsBy, Begins}
use Rattle.il_syntax_laws.proofs.Alike.{end_length, end_self, end_same, end_of_end, loose_gap, gap_length}
use Rattle.il_syntax_laws.proofs.Open.{Opens, Takes, Fills, IsOpenGap, tight_open, loose_open, skip_still, cut_end, sign_fills}

-- an end is the whole, or shorter
pub whole_or : (at ts : List Token) → IsEndOf at ts → (at ≡ ts) ⊎ (length at < length ts)
whole_or at [] e = inl e
whole_or at (t ∷ ts) (inl e) = inl e
whole_or at (t ∷ ts) (inr p) = let less = end_length at ts p in inr (omega (arith, less))

-- tokens that are cut at the front are others
pub cut_here : (text other : List ℕ) (at ts us vs : List Token) → IsCut text other at ts us vs → at ≡ ts → us ≡ vs
cut_here text other at [] us vs c e = c.1
cut_here text other at (t ∷ ts) us vs (inl c) e = c.1
cut_here text other at (t ∷ ts) us vs (inr c) e = let less = end_length at ts (cut_end text other at ts c.0 vs c.3) in let same = ap length e in absurd (omega (arith, less, same))

-- tokens of samples, one after another
pub samples_apart : (other : List ℕ) (ss zs : List Sample) (vs rest : List Token) → AreOf other (ss ++ zs) vs rest → (mid : List Token) × AreOf other ss vs mid × AreOf other zs mid rest
samples_apart other [] zs vs rest a = (vs, refl, a)
samples_apart other (s ∷ ss) zs vs rest a = let b = samples_apart other ss zs a.1 rest a.4 in (b.0, (a.0, a.1, a.2, a.3, b.1), b.2)

-- what follows tokens of samples is an end of them
pub samples_end : (other : List ℕ) (ss : List Sample) (vs rest : List Token) → AreOf other ss vs rest → IsEndOf rest vs
samples_end other [] vs rest a = end_same vs rest a
samples_end other (s ∷ ss) vs rest a = subst (λ x. IsEndOf rest x) (sym a.2) (inr (samples_end other ss a.1 rest a.4))

-- whether the first sample is there, and no line end
abbrev pub is_solid : List Sample → Bool
is_solid [] = false
is_solid (s ∷ ss) = not (is_line_end s.kind)

-- what the tokens of samples pass, where the tokens after them pass a test
pub record Passes (first : Test) (samples : List Sample) (second : Test) : Type 0 where
  pub yes : (other : List ℕ) (vs rest : List Token) → AreOf other samples vs rest → second other rest → first other vs

-- what a gap leaves as it is
pub record Stays (gap : Gap) (samples : List Sample) (second : Test) : Type 0 where
  pub same : (other : List ℕ) (vs rest : List Token) → AreOf other samples vs rest → second other rest → gap vs ≡ vs

pub stays_tight : {samples : List Sample} {test : Test} → Stays tight samples test
stays_tight = record { same = λ other vs rest a t. refl }

-- where nothing is left there are no line ends either
pub stays_ended : Stays loose [] ended
stays_ended = record { same = λ other vs rest a t. ap skip_line_ends (a ∙ t) ∙ sym (a ∙ t) }

no_skip : (t : Token) (ts : List Token) → is_line_end t.kind ≡ false → skip_line_ends (t ∷ ts) ≡ t ∷ ts
no_skip t ts e = ap (λ (b : Bool). if b then skip_line_ends ts else t ∷ ts) e

negated : (b : Bool) → not b ≡ true → b ≡ false
negated true e = sym e
negated false e = refl

pub stays_loose : {samples : List Sample} {test : Test} → is_solid samples ≡ true → Stays loose samples test
stays_loose {samples = samples} {test = test} solid = go samples solid
  where
    go : (samples : List Sample) → is_solid samples ≡ true → Stays loose samples test
    go [] solid = absurd cc
    go (s ∷ ss) solid = record { same = λ other vs rest a t. subst (λ x. skip_line_ends x ≡ x) (sym a.2) (no_skip a.0 a.1 (ap is_line_end a.3.0 ∙ negated (is_line_end s.kind) solid)) }

-- whether a token of this sample begins nothing that a rule looks ahead for
abbrev pub calm_kind : Kind → List ℕ → Bool
calm_kind kind.Word bytes = not (bytes_eq (upper_case bytes) (codes "N"))
calm_kind (kind.Number value) bytes = true
calm_kind (kind.Typed value) bytes = true
calm_kind (kind.Sign OpenParenthesis) bytes = false
calm_kind (kind.Sign OpenBracket) bytes = false
calm_kind (kind.Sign Dot) bytes = false
calm_kind (kind.Sign s) bytes = true
calm_kind kind.LineEnd bytes = false

-- whether the first sample is one of these
abbrev pub is_calm : List Sample → Bool
is_calm [] = false
is_calm (s ∷ ss) = calm_kind s.kind s.bytes

-- or a line end
abbrev pub is_still : List Sample → Bool
is_still [] = false
is_still (s ∷ ss) = if is_line_end s.kind then true else calm_kind s.kind s.bytes

stops_at : (P : List ℕ → Token → Type 0) (other : List ℕ) (t : Token) (ts : List Token) → is_line_end t.kind ≡ false → (P other t → ⊥) → stops (λ text. One (P text)) other (t ∷ ts)
stops_at P other t ts solid none rest p = none (subst (λ x. One (P other) x rest) (no_skip t ts solid) p).0

calm_line : (k : Kind) (bytes : List ℕ) → calm_kind k bytes ≡ true → is_line_end k ≡ false
calm_line kind.Word bytes e = refl
calm_line (kind.Number value) bytes e = refl
calm_line (kind.Typed value) bytes e = refl
calm_line (kind.Sign s) bytes e = refl
calm_line kind.LineEnd bytes e = absurd cc

calm_sign : (k : Kind) (bytes : List ℕ) (s : Sign) → calm_kind (kind.Sign s) bytes ≡ false → calm_kind k bytes ≡ true → k ≡ kind.Sign s → ⊥
calm_sign k bytes s bad e same = let x = ap (λ y. calm_kind y bytes) same in let y : true ≡ false = sym e ∙ x ∙ bad in cc

calm_letter : (k : Kind) (bytes : List ℕ) → calm_kind k bytes ≡ true → k ≡ kind.Word → IsTrue (bytes_eq (upper_case bytes) (codes "N")) → ⊥
calm_letter k bytes e same n =
    let x : not (bytes_eq (upper_case bytes) (codes "N")) ≡ true = sym (ap (λ y. calm_kind y bytes) same) ∙ e in
    let y : false ≡ true = ap not (sym n) ∙ x in
    cc

quiet_at : (other : List ℕ) (s : Sample) (t : Token) (ts : List Token) → calm_kind s.kind s.bytes ≡ true → IsOf other s t → quiet other (t ∷ ts)
quiet_at other s t ts e is =
    let solid = ap is_line_end is.0 ∙ calm_line s.kind s.bytes e in
    record {
      parenthesis = stops_at (λ text (u : Token). u.kind ≡ kind.Sign OpenParenthesis) other t ts solid (λ p. calm_sign s.kind s.bytes OpenParenthesis refl e (sym is.0 ∙ p));
      bracket = stops_at (λ text (u : Token). u.kind ≡ kind.Sign OpenBracket) other t ts solid (λ p. calm_sign s.kind s.bytes OpenBracket refl e (sym is.0 ∙ p));
      dot = stops_at (λ text (u : Token). u.kind ≡ kind.Sign Dot) other t ts solid (λ p. calm_sign s.kind s.bytes Dot refl e (sym is.0 ∙ p));
      letter = λ at. stops_at (λ text (u : Token). (u.kind ≡ kind.Word) × IsTrue (bytes_eq (name_of text u) (codes "N")) × (u.start ≡ at)) other t ts solid
          (λ p. calm_letter s.kind s.bytes e (sym is.0 ∙ p.0) (subst (λ (b : List ℕ). IsTrue (bytes_eq (upper_case b) (codes "N"))) is.1 p.1));
    }

calm_at : (other : List ℕ) (s : Sample) (t : Token) (ts : List Token) → calm_kind s.kind s.bytes ≡ true → IsOf other s t → calm other (t ∷ ts)
calm_at other s t ts e is = record {
  bracket = λ rest p. calm_sign s.kind s.bytes OpenBracket refl e (sym is.0 ∙ p.0);
  dot = λ rest p. calm_sign s.kind s.bytes Dot refl e (sym is.0 ∙ p.0);
  letter = λ at rest p. calm_letter s.kind s.bytes e (sym is.0 ∙ p.0.0) (subst (λ (b : List ℕ). IsTrue (bytes_eq (upper_case b) (codes "N"))) is.1 p.0.1);
}

line_word : (k : Kind) → is_line_end k ≡ true → k ≡ kind.Word → ⊥
line_word k e same = let x : true ≡ false = sym e ∙ ap is_line_end same in cc

line_sign : (k : Kind) (s : Sign) → is_line_end k ≡ true → k ≡ kind.Sign s → ⊥
line_sign k s e same = let x : true ≡ false = sym e ∙ ap is_line_end same in cc

line_calm : (other : List ℕ) (t : Token) (ts : List Token) → is_line_end t.kind ≡ true → calm other (t ∷ ts)
line_calm other t ts e = record {
  bracket = λ rest p. line_sign t.kind OpenBracket e p.0;
  dot = λ rest p. line_sign t.kind Dot e p.0;
  letter = λ at rest p. line_word t.kind e p.0.0;
}

-- what such samples pass, whatever follows
pub passes_quiet : {samples : List Sample} {test : Test} → is_calm samples ≡ true → Passes quiet samples test
passes_quiet {samples = samples} {test = test} e = go samples e
  where
    go : (samples : List Sample) → is_calm samples ≡ true → Passes quiet samples test
    go [] e = absurd cc
    go (s ∷ ss) e = record { yes = λ other vs rest a q. subst (λ x. quiet other x) (sym a.2) (quiet_at other s a.0 a.1 e a.3) }

pub passes_settled : {samples : List Sample} {test : Test} → is_calm samples ≡ true → Passes settled samples test
passes_settled {samples = samples} {test = test} e = go samples e
  where
    go : (samples : List Sample) → is_calm samples ≡ true → Passes settled samples test
    go [] e = absurd cc
    go (s ∷ ss) e = record {
      yes = λ other vs rest a q.
          subst (λ x. settled other x) (sym a.2) (calm_at other s a.0 a.1 e a.3, no_skip a.0 a.1 (ap is_line_end a.3.0 ∙ calm_line s.kind s.bytes e));
    }

pub passes_calm : {samples : List Sample} {test : Test} → is_still samples ≡ true → Passes calm samples test
passes_calm {samples = samples} {test = test} e = go samples e
  where
    step : (other : List ℕ) (s : Sample) (t : Token) (ts : List Token) (b : Bool) → is_line_end s.kind ≡ b → (if b then true else calm_kind s.kind s.bytes) ≡ true → IsOf other s t → calm other (t ∷ ts)
    step other s t ts true line e is = line_calm other t ts (ap is_line_end is.0 ∙ line)
    step other s t ts false line e is = calm_at other s t ts e is

    go : (samples : List Sample) → is_still samples ≡ true → Passes calm samples test
    go [] e = absurd cc
    go (s ∷ ss) e = record { yes = λ other vs rest a q. subst (λ x. calm other x) (sym a.2) (step other s a.0 a.1 (is_line_end s.kind) refl e a.3) }

pub passes_always : {samples : List Sample} {test : Test} → Passes always samples test
passes_always = record { yes = λ other vs rest a q. tt }

-- what a cut does to a gap
pub record IsCutGap (gap : Gap) : Type 0 where
  pub over : IsOpenGap gap
  pub still : (text other : List ℕ) (at ts us vs : List Token) → IsCut text other at ts us vs → IsEndOf at (gap ts) → gap vs ≡ vs → IsCut text other at (gap ts) (gap us) vs

pub tight_cut : IsCutGap tight
tight_cut = record { over = tight_open; still = λ text other at ts us vs c e s. c }

pub loose_cut : IsCutGap loose
loose_cut = record { over = loose_open; still = skip_still }

-- how far a rule has to look, so that it looks no less far than the gap after it
abbrev pub Reaches : Gap → Gap → Type 0
Reaches gap look = (m : List Token) → length (gap m) ≤ length (look m)

pub reach_tight : {gap : Gap} → IsCutGap gap → Reaches gap tight
reach_tight cut m = gap_length cut.over.is m

pub reach_loose : Reaches loose loose
reach_loose m = omega arith

-- a rule that has samples, after another
module _ {A B : Type 0} {P : List ℕ → A → Front} {Q : List ℕ → B → Front} {first second : Test} {ss zs : List Sample} (gap : Gap) where
  pub then_sampled : IsSampled first P ss → IsSampled second Q zs → Passes first zs second → Stays gap zs second → IsSampled second (λ text (x : A × B). P text x.0 ⟨ gap ⟩ Q text x.1) (ss ++ zs)
  then_sampled p q passes stays = record {
    stands = λ other vs rest a t.
        let mid = samples_apart other ss zs vs rest a in
        let x = p.stands other vs mid.0 mid.1 (passes.yes other mid.0 rest mid.2 t) in
        let y = q.stands other mid.0 rest mid.2 t in
        ((x.0, y.0), (mid.0, x.1, subst (λ k. Q other y.0 k rest) (sym (stays.same other mid.0 rest mid.2 t)) y.1));
  }

-- the same after a rule without a value
pub behind_sampled : {B : Type 0} {F : List ℕ → Front} {Q : List ℕ → B → Front} {first second : Test} {ss zs : List Sample} (gap : Gap)
    → IsSampled first (λ text (u : Unit {0}). F text) ss → IsSampled second Q zs → Passes first zs second → Stays gap zs second → IsSampled second (λ text (y : B). F text ⟨ gap ⟩ Q text y) (ss ++ zs)
behind_sampled {Q = Q} {ss = ss} {zs = zs} gap p q passes stays = record {
  stands = λ other vs rest a t.
      let mid = samples_apart other ss zs vs rest a in
      let x = p.stands other vs mid.0 mid.1 (passes.yes other mid.0 rest mid.2 t) in
      let y = q.stands other mid.0 rest mid.2 t in
      (y.0, (mid.0, x.1, subst (λ k. Q other y.0 k rest) (sym (stays.same other mid.0 rest mid.2 t)) y.1));
}

-- the same samples for another value, or under a harder test
pub map_sampled : {A B : Type 0} {P : List ℕ → A → Front} {Q : List ℕ → B → Front} {test : Test} {ss : List Sample} (h : A → B)
    → ((x : A) (other : List ℕ) (us r : List Token) → P other x us r → Q other (h x) us r) → IsSampled test P ss → IsSampled test Q ss
map_sampled h f p = record { stands = λ other vs rest a t. let x = p.stands other vs rest a t in (h x.0, f x.0 other vs rest x.1) }

pub any_sampled : {A : Type 0} {P : List ℕ → A → Front} {test : Test} {ss : List Sample} → IsSampled always P ss → IsSampled test P ss
any_sampled p = record { stands = λ other vs rest a t. p.stands other vs rest a tt }

-- a rule at the place of its first token
pub at_sampled : {A : Type 0} {P : List ℕ → A → Front} {test : Test} {ss : List Sample} → ((x : A) → Takes tight (λ text. P text x)) → IsSampled test P ss → IsSampled test (λ text (y : Place × A). At y.0 (P text y.1)) ss
at_sampled {A = A} {P = P} some p = record { stands = λ other vs rest a t. let x = p.stands other vs rest a t in go other vs rest x.0 x.1 }
  where
    go : (other : List ℕ) (us rest : List Token) (x : A) → P other x us rest → (y : Place × A) × At y.0 (P other y.1) us rest
    go other [] rest x p = let less = (some x).less other [] rest p in absurd (omega (arith, less))
    go other (u ∷ us) rest x p = ((record { offset = u.start; line = u.line }, x), (refl, refl, p))

-- nothing is read yet
pub begins_here_by : {A : Type 0} {P : List Token → List ℕ → A → Front} {test : Test} (ss : List Sample) → ((other : List ℕ) (vs rest : List Token) → AreOf other ss vs rest → test other rest → (x : A) × P vs other x vs rest)
    → (text : List ℕ) (ts : List Token) → BeginsBy test P text ts ts
begins_here_by {P = P} {test = test} ss stands text ts = record {
  inside = end_self ts;
  samples = ss;
  goes = λ other us vs rest c a t.
      let x = stands other vs rest a t in
      (x.0, subst (λ k. P vs other x.0 k rest) (sym (cut_here text other ts ts us vs c refl)) x.1);
}

pub begins_here : {A : Type 0} {P : List ℕ → A → Front} {test : Test} {ss : List Sample} → IsSampled test P ss → (text : List ℕ) (ts : List Token) → Begins test P text ts ts
begins_here {P = P} {ss = ss} p text ts = begins_here_by {P = λ vs. P} ss p.stands text ts

-- the first part breaks off
pub begins_first_by : {A B : Type 0} {P : List Token → List ℕ → A → Front} {Q : List ℕ → B → Front} {first second : Test} {zs : List Sample} {text : List ℕ} {ts at : List Token} (gap : Gap)
    → IsSampled second Q zs → Passes first zs second → Stays gap zs second → BeginsBy first P text ts at → BeginsBy second (λ vs text (x : A × B). P vs text x.0 ⟨ gap ⟩ Q text x.1) text ts at
begins_first_by {Q = Q} {zs = zs} gap q passes stays b = record {
  inside = b.inside;
  samples = b.samples ++ zs;
  goes = λ other us vs rest c a t.
      let mid = samples_apart other b.samples zs vs rest a in
      let x = b.goes other us vs mid.0 c mid.1 (passes.yes other mid.0 rest mid.2 t) in
      let y = q.stands other mid.0 rest mid.2 t in
      ((x.0, y.0), (mid.0, x.1, subst (λ k. Q other y.0 k rest) (sym (stays.same other mid.0 rest mid.2 t)) y.1));
}

pub begins_first : {A B : Type 0} {P : List ℕ → A → Front} {Q : List ℕ → B → Front} {first second : Test} {zs : List Sample} {text : List ℕ} {ts at : List Token} (gap : Gap)
    → IsSampled second Q zs → Passes first zs second → Stays gap zs second → Begins first P text ts at → Begins second (λ text (x : A × B). P text x.0 ⟨ gap ⟩ Q text x.1) text ts at
begins_first {P = P} gap q passes stays b = begins_first_by {P = λ vs. P} gap q passes stays b

-- a rule of which each value holds of cut tokens, and takes one
pub record IsFilling {A : Type 0} (look : Gap) (test : Test) (P : List ℕ → A → Front) : Type 0 where
  pub one : (x : A) → Fills look test (λ text. P text x)

-- a rule of which each value holds of cut tokens
pub record IsOpening {A : Type 0} (look : Gap) (test : Test) (P : List ℕ → A → Front) : Type 0 where
  pub one : (x : A) → Opens look test (λ text. P text x)

-- a part is there, and what has to follow breaks off
pub begins_later_open_by : {A B : Type 0} {P : List ℕ → A → Front} {Q : List Token → List ℕ → B → Front} {first second : Test} {zs : List Sample} {text : List ℕ} {ts m at : List Token} {x : A} {look gap : Gap}
    → IsCutGap gap → Reaches gap look → IsOpening look first P → P text x ts m → ((vs : List Token) → IsSampled second (Q vs) zs) → Passes first zs second → Stays gap zs second → BeginsBy second Q text (gap m) at
    → BeginsBy second (λ vs text (y : A × B). P text y.0 ⟨ gap ⟩ Q vs text y.1) text ts at
begins_later_open_by {A = A} {B = B} {P = P} {Q = Q} {first = first} {second = second} {zs = zs} {text = text} {ts = ts} {m = m} {at = at} {x = x} {gap = gap} cut far one here q passes stays b = go (whole_or at (gap m) b.inside)
  where
    go : ((at ≡ gap m) ⊎ (length at < length (gap m))) → BeginsBy second (λ vs text (y : A × B). P text y.0 ⟨ gap ⟩ Q vs text y.1) text ts at
    go (inl edge) =
        let inside = end_of_end at (gap m) m (cut.over.is.ends m) b.inside in
        record {
          inside = end_of_end at m ts ((one.one x).ends text ts m here) inside;
          samples = zs;
          goes = λ other us vs rest c a t.
              let p = (one.one x).keeps text other at ts us vs m here inside c (inr (passes.yes other vs rest a t)) in
              let y = (q vs).stands other vs rest a t in
              let same = cut_here text other at (gap m) (gap p.0) vs (cut.still text other at m p.0 vs p.2 b.inside (stays.same other vs rest a t)) edge in
              ((x, y.0), (p.0, p.1, subst (λ k. Q vs other y.0 k rest) (sym same) y.1));
        }
    go (inr less) =
        let inside = end_of_end at (gap m) m (cut.over.is.ends m) b.inside in
        let fits = far m in
        record {
          inside = end_of_end at m ts ((one.one x).ends text ts m here) inside;
          samples = b.samples;
          goes = λ other us vs rest c a t.
              let p = (one.one x).keeps text other at ts us vs m here inside c (inl (omega (arith, less, fits))) in
              let y = b.goes other (gap p.0) vs rest (cut.over.cut text other at m p.0 vs p.2 less) a t in
              ((x, y.0), (p.0, p.1, y.1));
        }

pub begins_later_open : {A B : Type 0} {P : List ℕ → A → Front} {Q : List ℕ → B → Front} {first second : Test} {zs : List Sample} {text : List ℕ} {ts m at : List Token} {x : A} {look gap : Gap}
    → IsCutGap gap → Reaches gap look → IsOpening look first P → P text x ts m → IsSampled second Q zs → Passes first zs second → Stays gap zs second → Begins second Q text (gap m) at
    → Begins second (λ text (y : A × B). P text y.0 ⟨ gap ⟩ Q text y.1) text ts at
begins_later_open {Q = Q} cut far one here q passes stays b = begins_later_open_by {Q = λ vs. Q} cut far one here (λ vs. q) passes stays b

pub begins_later_by : {A B : Type 0} {P : List ℕ → A → Front} {Q : List Token → List ℕ → B → Front} {first second : Test} {zs : List Sample} {text : List ℕ} {ts m at : List Token} {x : A} {look gap : Gap}
    → IsCutGap gap → Reaches gap look → IsFilling look first P → P text x ts m → ((vs : List Token) → IsSampled second (Q vs) zs) → Passes first zs second → Stays gap zs second → BeginsBy second Q text (gap m) at
    → BeginsBy second (λ vs text (y : A × B). P text y.0 ⟨ gap ⟩ Q vs text y.1) text ts at
begins_later_by cut far one here q passes stays b = begins_later_open_by cut far (record { one = λ x. (one.one x).opens }) here q passes stays b

pub begins_later : {A B : Type 0} {P : List ℕ → A → Front} {Q : List ℕ → B → Front} {first second : Test} {zs : List Sample} {text : List ℕ} {ts m at : List Token} {x : A} {look gap : Gap}
    → IsCutGap gap → Reaches gap look → IsFilling look first P → P text x ts m → IsSampled second Q zs → Passes first zs second → Stays gap zs second → Begins second Q text (gap m) at
    → Begins second (λ text (y : A × B). P text y.0 ⟨ gap ⟩ Q text y.1) text ts at
begins_later cut far one here q passes stays b = begins_later_open cut far (record { one = λ x. (one.one x).opens }) here q passes stays b

-- the same, where something of it is read
pub begins_inside : {B : Type 0} {F : List ℕ → Front} {Q : List ℕ → B → Front} {first second : Test} {text : List ℕ} {ts m at : List Token} {look gap : Gap}
    → IsCutGap gap → Reaches gap look → Opens look first F → F text ts m → length at < length (gap m) → Begins second Q text (gap m) at → Begins second (λ text (y : B). F text ⟨ gap ⟩ Q text y) text ts at
begins_inside {text = text} {ts = ts} {m = m} {at = at} {gap = gap} cut far one here less b =
    let inside = end_of_end at (gap m) m (cut.over.is.ends m) b.inside in
    let fits = far m in
    record {
      inside = end_of_end at m ts (one.ends text ts m here) inside;
      samples = b.samples;
      goes = λ other us vs rest c a t.
          let p = one.keeps text other at ts us vs m here inside c (inl (omega (arith, less, fits))) in
          let y = b.goes other (gap p.0) vs rest (cut.over.cut text other at m p.0 vs p.2 less) a t in
          (y.0, (p.0, p.1, y.1));
    }

-- the same for another value, or under a harder test
pub begins_as_by : {A B : Type 0} {P : List Token → List ℕ → A → Front} {Q : List Token → List ℕ → B → Front} {test : Test} {text : List ℕ} {ts at : List Token} (h : A → B)
    → ((x : A) (vs : List Token) (other : List ℕ) (us r : List Token) → P vs other x us r → Q vs other (h x) us r) → BeginsBy test P text ts at → BeginsBy test Q text ts at
begins_as_by h f b = record { inside = b.inside; samples = b.samples; goes = λ other us vs rest c a t. let x = b.goes other us vs rest c a t in (h x.0, f x.0 vs other us rest x.1) }

pub begins_as : {A B : Type 0} {P : List ℕ → A → Front} {Q : List ℕ → B → Front} {test : Test} {text : List ℕ} {ts at : List Token} (h : A → B)
    → ((x : A) (other : List ℕ) (us r : List Token) → P other x us r → Q other (h x) us r) → Begins test P text ts at → Begins test Q text ts at
begins_as {P = P} {Q = Q} h f b = begins_as_by {P = λ vs. P} {Q = λ vs. Q} h (λ x vs. f x) b

pub begins_under : {A : Type 0} {P : List ℕ → A → Front} {weak strong : Test} {text : List ℕ} {ts at : List Token} → ((other : List ℕ) (vs : List Token) → strong other vs → weak other vs)
    → Begins weak P text ts at → Begins strong P text ts at
begins_under more b = record { inside = b.inside; samples = b.samples; goes = λ other us vs rest c a t. b.goes other us vs rest c a (more other rest t) }

-- a rule at the place of its first token
pub begins_at : {A : Type 0} {P : List ℕ → A → Front} {test : Test} {text : List ℕ} {ts at : List Token} → ((x : A) → Takes tight (λ text. P text x)) → Begins test P text ts at
    → Begins test (λ text (y : Place × A). At y.0 (P text y.1)) text ts at
begins_at {A = A} {P = P} some b = record { inside = b.inside; samples = b.samples; goes = λ other us vs rest c a t. let x = b.goes other us vs rest c a t in go other us rest x.0 x.1 }
  where
    go : (other : List ℕ) (us rest : List Token) (x : A) → P other x us rest → (y : Place × A) × At y.0 (P other y.1) us rest
    go other [] rest x p = let less = (some x).less other [] rest p in absurd (omega (arith, less))
    go other (u ∷ us) rest x p = ((record { offset = u.start; line = u.line }, x), (refl, refl, p))

-- the same after a part without a value
pub begins_behind_by : {B : Type 0} {F : List ℕ → Front} {Q : List Token → List ℕ → B → Front} {first second : Test} {zs : List Sample} {text : List ℕ} {ts m at : List Token} {look gap : Gap}
    → IsCutGap gap → Reaches gap look → Fills look first F → F text ts m → ((vs : List Token) → IsSampled second (Q vs) zs) → Passes first zs second → Stays gap zs second → BeginsBy second Q text (gap m) at
    → BeginsBy second (λ vs text (y : B). F text ⟨ gap ⟩ Q vs text y) text ts at
begins_behind_by {B = B} {F = F} {Q = Q} {gap = gap} cut far one here q passes stays b =
    begins_as_by {P = λ vs text (x : Unit {0} × B). F text ⟨ gap ⟩ Q vs text x.1} {Q = λ vs text (y : B). F text ⟨ gap ⟩ Q vs text y} (λ x. x.1) (λ x vs other us r w. w)
    (begins_later_by {P = λ text (u : Unit {0}). F text} {Q = Q} {x = tt} cut far (record { one = λ u. one }) here q passes stays b)

pub begins_behind : {B : Type 0} {F : List ℕ → Front} {Q : List ℕ → B → Front} {first second : Test} {zs : List Sample} {text : List ℕ} {ts m at : List Token} {look gap : Gap}
    → IsCutGap gap → Reaches gap look → Fills look first F → F text ts m → IsSampled second Q zs → Passes first zs second → Stays gap zs second → Begins second Q text (gap m) at
    → Begins second (λ text (y : B). F text ⟨ gap ⟩ Q text y) text ts at
begins_behind {Q = Q} cut far one here q passes stays b = begins_behind_by {Q = λ vs. Q} cut far one here (λ vs. q) passes stays b

-- one more at the end
pub one_more : {A : Type 0} (xs : List A) (x : A) (more : List A) → xs ++ (x ∷ more) ≡ (xs ++ x ∷ []) ++ more
one_more [] x more = refl
one_more (y ∷ xs) x more = ap (λ zs. y ∷ zs) (one_more xs x more)

-- What a loop has read is in cut tokens too, before what is left.
pub record HasGone {A : Type 0} (P : List ℕ → A → Front) (E : List ℕ → Front) (text : List ℕ) (start : List Token) (xs : List A) (ts : List Token) : Type 0 where
  pub inside : IsEndOf ts start
  pub on : (other : List ℕ) (at us vs : List Token) → IsEndOf at ts → IsCut text other at start us vs → ((length at < length ts) ⊎ (skip_line_ends vs ≡ vs))
      → (n : List Token) × IsCut text other at ts n vs × ((more : List A) (r : List Token) → Repeats (P other) more (E other) n r → Repeats (P other) (xs ++ more) (E other) us r)

module _ {A : Type 0} {P : List ℕ → A → Front} {E : List ℕ → Front} {text : List ℕ} where
  -- a loop begins
  pub gone_starts : (ts : List Token) → HasGone P E text ts [] ts
  gone_starts ts = record { inside = end_self ts; on = λ other at us vs e c d. (us, c, λ more r w. w) }

  -- and goes on
  pub gone_on : {start ts m : List Token} {xs : List A} {x : A} → IsFilling tight always P → HasGone P E text start xs ts → P text x ts m → HasGone P E text start (xs ++ x ∷ []) (skip_line_ends m)
  gone_on {start = start} {ts = ts} {m = m} {xs = xs} {x = x} fill so_far here =
      let to_m = end_of_end (skip_line_ends m) m ts ((fill.one x).opens.ends text ts m here) (loose_gap.ends m) in
      let short = (fill.one x).takes.less text ts m here in
      let less = gap_length loose_gap m in
      record {
        inside = end_of_end (skip_line_ends m) ts start so_far.inside to_m;
        on = λ other at us vs e c d.
            let l = end_length at (skip_line_ends m) e in
            let before = so_far.on other at us vs (end_of_end at (skip_line_ends m) ts to_m e) c (inl (omega (arith, l, less, short))) in
            let p = (fill.one x).opens.keeps text other at ts before.0 vs m here (end_of_end at (skip_line_ends m) m (loose_gap.ends m) e) before.1 (inr tt) in
            (skip_line_ends p.0, gapped other at p.0 vs p.2 e d, λ more r w. subst (λ (zs : List A). Repeats (P other) zs (E other) us r) (one_more xs x more) (before.2 (x ∷ more) r (p.0, p.1, w)));
      }
    where
      gapped : (other : List ℕ) (at n vs : List Token) → IsCut text other at m n vs → IsEndOf at (skip_line_ends m) → ((length at < length (skip_line_ends m)) ⊎ (skip_line_ends vs ≡ vs))
          → IsCut text other at (skip_line_ends m) (skip_line_ends n) vs
      gapped other at n vs c e (inl l) = loose_open.cut text other at m n vs c l
      gapped other at n vs c e (inr s) = skip_still text other at m n vs c e s

  -- one of them breaks off
  pub gone_item : {first : Test} {es : List Sample} {start ts at : List Token} {xs : List A} → IsSampled always (λ text (u : Unit {0}). E text) es → Passes first es always → Stays loose es always → HasGone P E text start xs ts
      → Begins first P text ts at → Begins always (λ text ys. Repeats (P text) ys (E text)) text start at
  gone_item {first = first} {es = es} {start = start} {ts = ts} {at = at} {xs = xs} e passes stays so_far b = go (whole_or at ts b.inside)
    where
      go : ((at ≡ ts) ⊎ (length at < length ts)) → Begins always (λ text ys. Repeats (P text) ys (E text)) text start at
      go (inl edge) = record {
        inside = end_of_end at ts start so_far.inside b.inside;
        samples = es;
        goes = λ other us vs rest c a t.
            let n = so_far.on other at us vs b.inside c (inr (stays.same other vs rest a t)) in
            let x = e.stands other vs rest a t in
            (xs ++ [], n.2 [] rest (subst (λ k. E other k rest) (sym (cut_here text other at ts n.0 vs n.1 edge)) x.1));
      }
      go (inr less) =
          let f = begins_first {P = P} {Q = λ text (u : Unit {0}). E text} loose e passes stays b in
          record {
            inside = end_of_end at ts start so_far.inside b.inside;
            samples = f.samples;
            goes = λ other us vs rest c a t.
                let n = so_far.on other at us vs b.inside c (inl less) in
                let x = f.goes other n.0 vs rest n.1 a t in
                (xs ++ x.0.0 ∷ [], n.2 (x.0.0 ∷ []) rest x.1);
          }

-- what is cut there is one
pub cut_one : (text other : List ℕ) (at ts us ws vs : List Token) → IsCut text other at ts us vs → IsCut text other at ts ws vs → us ≡ ws
cut_one text other at [] us ws vs a b = a.1 ∙ sym b.1
cut_one text other at (t ∷ ts) us ws vs (inl a) (inl b) = a.1 ∙ sym b.1
cut_one text other at (t ∷ ts) us ws vs (inl a) (inr b) = let less = end_length at ts (cut_end text other at ts b.0 vs b.3) in let same = ap length a.0 in absurd (omega (arith, less, same))
cut_one text other at (t ∷ ts) us ws vs (inr a) (inl b) = let less = end_length at ts (cut_end text other at ts a.0 vs a.3) in let same = ap length b.0 in absurd (omega (arith, less, same))
cut_one text other at (t ∷ ts) us ws vs (inr a) (inr b) = a.1 ∙ ap (λ zs. t ∷ zs) (cut_one text other at ts a.0 b.0 vs a.3 b.3) ∙ sym b.1

-- What a loop over a list has read is in cut tokens too, before the things that are left.
pub record WantsGone {A : Type 0} (gap : Gap) (P : List ℕ → A → Front) (E : List ℕ → Front) (text : List ℕ) (start ts : List Token) : Type 0 where
  pub inside : IsEndOf ts start
  pub on : (other : List ℕ) (at us vs : List Token) → IsEndOf at ts → IsCut text other at start us vs → ((length at < length ts) ⊎ (gap vs ≡ vs))
      → (n : List Token) × IsCut text other at ts n vs
      × ((y : A) (more : List A) (r : List Token) → Listed gap (P other) (y ∷ more) (E other) n r → (ys : List A) × Listed gap (P other) ys (E other) us r)

module _ {A : Type 0} {gap : Gap} {P : List ℕ → A → Front} {E : List ℕ → Front} {text : List ℕ} where
  -- a loop begins
  pub wanted_starts : (ts : List Token) → WantsGone gap P E text ts ts
  wanted_starts ts = record { inside = end_self ts; on = λ other at us vs e c d. (us, c, λ y more r w. (y ∷ more, w)) }

  -- one more, and a comma after it
  pub wanted_on : {look : Gap} {first : Test} {start ts m k : List Token} {x : A} → IsCutGap gap → Reaches gap look → IsFilling look first P → WantsGone gap P E text start ts → P text x ts m → TheSign Comma (gap m) k
      → WantsGone gap P E text start (gap k)
  wanted_on {look = look} {start = start} {ts = ts} {m = m} {k = k} {x = x} cut far fill so_far here comma =
      let is = cut.over.is in
      let e1 = end_of_end (gap m) m ts ((fill.one x).opens.ends text ts m here) (is.ends m) in
      let to_k = (sign_fills Comma).opens.ends text (gap m) k comma in
      let e2 = end_of_end (gap k) k (gap m) to_k (is.ends k) in
      let l1 = (fill.one x).takes.less text ts m here in
      let l2 = gap_length is m in
      let l3 = (sign_fills Comma).takes.less text (gap m) k comma in
      let l4 = gap_length is k in
      let fits = far m in
      record {
        inside = end_of_end (gap k) ts start so_far.inside (end_of_end (gap k) (gap m) ts e1 e2);
        on = λ other at us vs e c d.
            let l = end_length at (gap k) e in
            let at_m = end_of_end at (gap k) (gap m) e2 e in
            let before = so_far.on other at us vs (end_of_end at (gap m) ts e1 at_m) c (inl (omega (arith, l, l1, l2, l3, l4))) in
            let p = (fill.one x).opens.keeps text other at ts before.0 vs m here (end_of_end at (gap m) m (is.ends m) at_m) before.1 (inl (omega (arith, l, l2, l3, l4, fits))) in
            let q = (sign_fills Comma).opens.keeps text other at (gap m) (gap p.0) vs k comma (end_of_end at (gap k) k (is.ends k) e) (cut.over.cut text other at m p.0 vs p.2 (omega (arith, l, l3, l4))) (inr tt) in
            (gap q.0, gapped other at q.0 vs q.2 e d, λ y more r w. before.2 x (y ∷ more) r (p.0, p.1, (q.0, q.1, w)));
      }
    where
      gapped : (other : List ℕ) (at n vs : List Token) → IsCut text other at k n vs → IsEndOf at (gap k) → ((length at < length (gap k)) ⊎ (gap vs ≡ vs)) → IsCut text other at (gap k) (gap n) vs
      gapped other at n vs c e (inl l) = cut.over.cut text other at k n vs c l
      gapped other at n vs c e (inr s) = cut.still text other at k n vs c e s

  -- one of them breaks off
  pub wanted_item : {first second : Test} {ps es : List Sample} {start ts at : List Token} → IsSampled first P ps → IsSampled second (λ text (u : Unit {0}). E text) es → Passes first es second → Stays gap es second
      → Stays gap (ps ++ es) second → WantsGone gap P E text start ts → Begins first P text ts at → Begins second (λ text ys. Listed gap (P text) ys (E text)) text start at
  wanted_item {first = first} {second = second} {ps = ps} {es = es} {start = start} {ts = ts} {at = at} p e passes stays whole so_far b = go (whole_or at ts b.inside)
    where
      go : ((at ≡ ts) ⊎ (length at < length ts)) → Begins second (λ text ys. Listed gap (P text) ys (E text)) text start at
      go (inl edge) =
          let f = then_sampled {P = P} {Q = λ text (u : Unit {0}). E text} gap p e passes stays in
          record {
            inside = end_of_end at ts start so_far.inside b.inside;
            samples = ps ++ es;
            goes = λ other us vs rest c a t.
                let n = so_far.on other at us vs b.inside c (inr (whole.same other vs rest a t)) in
                let x = f.stands other vs rest a t in
                n.2 x.0.0 [] rest (subst (λ k. (P other x.0.0 ⟨ gap ⟩ E other) k rest) (sym (cut_here text other at ts n.0 vs n.1 edge)) x.1);
          }
      go (inr less) =
          let f = begins_first {P = P} {Q = λ text (u : Unit {0}). E text} gap e passes stays b in
          record {
            inside = end_of_end at ts start so_far.inside b.inside;
            samples = f.samples;
            goes = λ other us vs rest c a t.
                let n = so_far.on other at us vs b.inside c (inl less) in
                let x = f.goes other n.0 vs rest n.1 a t in
                n.2 x.0.0 [] rest x.1;
          }

  -- the last one, and no end after it
  pub wanted_end : {look : Gap} {first second : Test} {es : List Sample} {start ts m : List Token} {x : A} → IsCutGap gap → Reaches gap look → IsFilling look first P → IsSampled second (λ text (u : Unit {0}). E text) es
      → Passes first es second → Stays gap es second → WantsGone gap P E text start ts → P text x ts m → Begins second (λ text ys. Listed gap (P text) ys (E text)) text start (gap m)
  wanted_end {start = start} {ts = ts} {m = m} {x = x} cut far fill e passes stays so_far here =
      let b = begins_later {P = P} {Q = λ text (u : Unit {0}). E text} cut far fill here e passes stays (begins_here e text (gap m)) in
      let l1 = (fill.one x).takes.less text ts m here in
      let l2 = gap_length cut.over.is m in
      record {
        inside = end_of_end (gap m) ts start so_far.inside b.inside;
        samples = b.samples;
        goes = λ other us vs rest c a t.
            let n = so_far.on other (gap m) us vs b.inside c (inl (omega (arith, l1, l2))) in
            let y = b.goes other n.0 vs rest n.1 a t in
            n.2 y.0.0 [] rest y.1;
      }

-- a rule after any number of line ends breaks off
pub begins_lines_by : {A : Type 0} {P : List Token → List ℕ → A → Front} {test : Test} {zs : List Sample} {text : List ℕ} {ts at : List Token} → ((vs : List Token) → IsSampled test (P vs) zs) → is_solid zs ≡ true → BeginsBy test P text (skip_line_ends ts) at
    → BeginsBy test (λ vs text x. AfterLines (P vs text x)) text ts at
begins_lines_by {A = A} {P = P} {test = test} {zs = zs} {text = text} {ts = ts} {at = at} q solid b = go (whole_or at (skip_line_ends ts) b.inside)
  where
    go : ((at ≡ skip_line_ends ts) ⊎ (length at < length (skip_line_ends ts))) → BeginsBy test (λ vs text x. AfterLines (P vs text x)) text ts at
    go (inl edge) = record {
      inside = end_of_end at (skip_line_ends ts) ts (loose_gap.ends ts) b.inside;
      samples = zs;
      goes = λ other us vs rest c a t.
          let y = (q vs).stands other vs rest a t in
          let same = cut_here text other at (skip_line_ends ts) (skip_line_ends us) vs (skip_still text other at ts us vs c b.inside ((stays_loose {test = test} solid).same other vs rest a t)) edge in
          (y.0, subst (λ k. P vs other y.0 k rest) (sym same) y.1);
    }
    go (inr less) = record {
      inside = end_of_end at (skip_line_ends ts) ts (loose_gap.ends ts) b.inside;
      samples = b.samples;
      goes = λ other us vs rest c a t. b.goes other (skip_line_ends us) vs rest (loose_open.cut text other at ts us vs c less) a t;
    }

pub begins_lines : {A : Type 0} {P : List ℕ → A → Front} {test : Test} {zs : List Sample} {text : List ℕ} {ts at : List Token} → IsSampled test P zs → is_solid zs ≡ true → Begins test P text (skip_line_ends ts) at
    → Begins test (λ text x. AfterLines (P text x)) text ts at
begins_lines {P = P} q solid b = begins_lines_by {P = λ vs. P} (λ vs. q) solid b

-- one number is less than another, or not
pub less_or : (a b : ℕ) → (a < b) ⊎ (b ≤ a)
less_or a zero = inr (omega arith)
less_or zero (suc b) = inl (omega arith)
less_or (suc a) (suc b) = step (less_or a b)
  where
    step : (a < b) ⊎ (b ≤ a) → (suc a < suc b) ⊎ (suc b ≤ suc a)
    step (inl l) = inl (omega (arith, l))
    step (inr l) = inr (omega (arith, l))

-- a rule that follows line ends more as well
pub record IsLax {A : Type 0} (P : List ℕ → A → Front) : Type 0 where
  pub more : (text : List ℕ) (x : A) (t : Token) (ts rest : List Token) → is_line_end t.kind ≡ true → P text x ts rest → P text x (t ∷ ts) rest

-- a part of one, which takes them, or nothing
pub record IsLaxPart {A : Type 0} (P : List ℕ → A → Front) : Type 0 where
  pub more : (text : List ℕ) (x : A) (t : Token) (ts rest : List Token) → is_line_end t.kind ≡ true → P text x ts rest → P text x (t ∷ ts) rest ⊎ ((ts ≡ rest) × P text x (t ∷ ts) (t ∷ ts))

pub lax_chain : {A B : Type 0} {P : List ℕ → A → Front} {Q : List ℕ → B → Front} → IsLaxPart P → IsLax Q → IsLax (λ text (y : A × B). P text y.0 ⨾ Q text y.1)
lax_chain {A = A} {B = B} {P = P} {Q = Q} p q = record { more = λ text y t ts rest line w. go text y t ts rest w line (p.more text y.0 t ts w.0 line w.1) }
  where
    go : (text : List ℕ) (y : A × B) (t : Token) (ts rest : List Token) → (w : (P text y.0 ⨾ Q text y.1) ts rest) → is_line_end t.kind ≡ true → P text y.0 (t ∷ ts) w.0 ⊎ ((ts ≡ w.0) × P text y.0 (t ∷ ts) (t ∷ ts))
        → (P text y.0 ⨾ Q text y.1) (t ∷ ts) rest
    go text y t ts rest w line (inl k) = (w.0, k, w.2)
    go text y t ts rest w line (inr k) = (t ∷ ts, k.1, q.more text y.1 t ts rest line (subst (λ x. Q text y.1 x rest) (sym k.0) w.2))

-- what is cut among line ends
front_lax : {B : Type 0} {Q : List ℕ → B → Front} → IsLax Q → (text other : List ℕ) (y : B) (at m n vs rest : List Token) → IsCut text other at m n vs → length (skip_line_ends m) ≤ length at → Q other y vs rest → Q other y n rest
front_lax {Q = Q} lax text other y at [] n vs rest c l w = subst (λ x. Q other y x rest) (sym c.1) w
front_lax {Q = Q} lax text other y at (t ∷ m) n vs rest (inl c) l w = subst (λ x. Q other y x rest) (sym c.1) w
front_lax {Q = Q} lax text other y at (t ∷ m) n vs rest (inr c) l w =
    subst (λ x. Q other y x rest) (sym c.1) (go (is_line_end t.kind) refl l (λ k. front_lax lax text other y at m c.0 vs rest c.3 k w))
  where
    go : (b : Bool) → is_line_end t.kind ≡ b → length (if b then skip_line_ends m else t ∷ m) ≤ length at → (length (skip_line_ends m) ≤ length at → Q other y c.0 rest) → Q other y (t ∷ c.0) rest
    go true line l f = lax.more other y t c.0 rest line (f l)
    go false line l f = let less = end_length at m (cut_end text other at m c.0 vs c.3) in absurd (omega (arith, less, l))

-- a part that looks after line ends is there, and what follows directly breaks off
pub begins_later_lax_by : {A B : Type 0} {P : List ℕ → A → Front} {Q : List Token → List ℕ → B → Front} {first second : Test} {zs : List Sample} {text : List ℕ} {ts m at : List Token} {x : A}
    → IsOpening loose first P → P text x ts m → ((vs : List Token) → IsSampled second (Q vs) zs) → ((vs : List Token) → IsLax (Q vs)) → Passes first zs second → BeginsBy second Q text m at → BeginsBy second (λ vs text (y : A × B). P text y.0 ⨾ Q vs text y.1) text ts at
begins_later_lax_by {A = A} {B = B} {P = P} {Q = Q} {first = first} {second = second} {zs = zs} {text = text} {ts = ts} {m = m} {at = at} {x = x} one here q lax passes b = go (less_or (length at) (length (skip_line_ends m)))
  where
    go : ((length at < length (skip_line_ends m)) ⊎ (length (skip_line_ends m) ≤ length at)) → BeginsBy second (λ vs text (y : A × B). P text y.0 ⨾ Q vs text y.1) text ts at
    go (inl less) = record {
      inside = end_of_end at m ts ((one.one x).ends text ts m here) b.inside;
      samples = b.samples;
      goes = λ other us vs rest c a t.
          let p = (one.one x).keeps text other at ts us vs m here b.inside c (inl less) in
          let y = b.goes other p.0 vs rest p.2 a t in
          ((x, y.0), (p.0, p.1, y.1));
    }
    go (inr far) = record {
      inside = end_of_end at m ts ((one.one x).ends text ts m here) b.inside;
      samples = zs;
      goes = λ other us vs rest c a t.
          let p = (one.one x).keeps text other at ts us vs m here b.inside c (inr (passes.yes other vs rest a t)) in
          let y = (q vs).stands other vs rest a t in
          ((x, y.0), (p.0, p.1, front_lax (lax vs) text other y.0 at m p.0 vs rest p.2 far y.1));
    }

pub begins_later_lax : {A B : Type 0} {P : List ℕ → A → Front} {Q : List ℕ → B → Front} {first second : Test} {zs : List Sample} {text : List ℕ} {ts m at : List Token} {x : A}
    → IsOpening loose first P → P text x ts m → IsSampled second Q zs → IsLax Q → Passes first zs second → Begins second Q text m at → Begins second (λ text (y : A × B). P text y.0 ⨾ Q text y.1) text ts at
begins_later_lax {Q = Q} one here q lax passes b = begins_later_lax_by {Q = λ vs. Q} one here (λ vs. q) (λ vs. lax) passes b

-- nothing is read yet but line ends
pub begins_ahead : {A : Type 0} {P : List ℕ → A → Front} {test : Test} {zs : List Sample} → IsSampled test P zs → IsLax P → (text : List ℕ) (ts : List Token) → Begins test P text ts (skip_line_ends ts)
begins_ahead {zs = zs} p lax text ts = record {
  inside = loose_gap.ends ts;
  samples = zs;
  goes = λ other us vs rest c a t.
      let x = p.stands other vs rest a t in
      (x.0, front_lax lax text other x.0 (skip_line_ends ts) ts us vs rest c (omega arith) x.1);
}
