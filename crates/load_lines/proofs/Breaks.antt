-- Readers that break off, put together.
use Rattle.std.proofs.Common.{◌≡◌, ℕ, true, List, ◌++◌, sym, subst}
use Rattle.std.specs.Prelude.{Result, Ok, Err, IfErr, IsErrAnd}
use Rattle.il_syntax.specs.declared.token.Token.{Token}
use Rattle.il_syntax.specs.declared.tree.Place.{Place}
use Rattle.il_syntax.specs.Grammar.{Front, Gap, tight, loose, skip_line_ends, ◌⨾◌, ◌⋯◌, At}
use Rattle.il_syntax_laws.specs.GoesOn.{Sample, Test, always, quiet, calm, IsSampled, Begins}
use Rattle.il_syntax_laws.proofs.Open.{Fills}
use Rattle.il_syntax_laws.proofs.GoesOn.{is_solid, is_calm, is_still, stays_tight, stays_loose, passes_quiet, passes_calm, passes_always, tight_cut, loose_cut, reach_tight, reach_loose, then_sampled, behind_sampled, IsFilling, begins_here, begins_first, begins_later, begins_behind, begins_as, begins_under, begins_at}
use Rattle.load_lines.specs.Reads.{IsFault, Reads, Stands, BreaksOff, NamesFirst}
use Rattle.load_lines.specs.declared.stop.Stop.{Stop}
use Rattle.load_lines.specs.declared.stop.Stop.TheVariants as stop

-- want of memory says nothing
pub memory_breaks : {A : Type 0} {test : Test} {P : List ℕ → A → Front} {text : List ℕ} {ts : List Token} {e : Stop} → e ≡ stop.Memory → BreaksOff test P text ts e
memory_breaks same = record { fault = λ f. absurd (subst IsFault same f) }

-- where one rule breaks off, another does
pub as_breaks : {A B : Type 0} {P : List ℕ → A → Front} {Q : List ℕ → B → Front} {first second : Test} {text : List ℕ} {ts us : List Token} {e : Stop}
    → ((at : List Token) → Begins first P text ts at → Begins second Q text us at) → BreaksOff first P text ts e → BreaksOff second Q text us e
as_breaks f bad = record { fault = λ is. let b = bad.fault is in (b.0, b.1, f b.0 b.2) }

-- the first token is named
pub at_first : {A : Type 0} {P : List ℕ → A → Front} {test : Test} {ss : List Sample} {text : List ℕ} {ts : List Token} {e : Stop} → IsSampled test P ss → NamesFirst ts e → BreaksOff test P text ts e
at_first {text = text} {ts = ts} p bad = record { fault = λ is. (ts, bad is, begins_here p text ts) }

-- an error goes up as it is
pub up_breaks : {X A : Type 0} {test : Test} {P : List ℕ → A → Front} {text : List ℕ} {ts : List Token} {e : Stop} (r : Result X Stop) → IsErrAnd r (λ y. y ≡ e) → BreaksOff test P text ts e
    → IfErr r (λ y. BreaksOff test P text ts y)
up_breaks {test = test} {P = P} {text = text} {ts = ts} (Err y) same bad = subst (λ (z : Stop). BreaksOff test P text ts z) (sym same) bad
up_breaks (Ok x) same bad = tt

-- another value
pub map_breaks : {A B : Type 0} {P : List ℕ → A → Front} {Q : List ℕ → B → Front} {test : Test} {text : List ℕ} {ts : List Token} {e : Stop} (h : A → B)
    → ((x : A) (other : List ℕ) (us r : List Token) → P other x us r → Q other (h x) us r) → BreaksOff test P text ts e → BreaksOff test Q text ts e
map_breaks h f bad = as_breaks (λ at b. begins_as h f b) bad

-- a harder test
pub any_breaks : {A : Type 0} {P : List ℕ → A → Front} {test : Test} {text : List ℕ} {ts : List Token} {e : Stop} → BreaksOff always P text ts e → BreaksOff test P text ts e
any_breaks bad = as_breaks (λ at b. begins_under (λ other vs t. tt) b) bad

-- a rule at the place of its first token
pub placed_breaks : {A : Type 0} {P : List ℕ → A → Front} {test : Test} {look : Gap} {asked : Test} {text : List ℕ} {ts : List Token} {e : Stop} → IsFilling look asked P → BreaksOff test P text ts e
    → BreaksOff test (λ text (y : Place × A). At y.0 (P text y.1)) text ts e
placed_breaks fill bad = as_breaks (λ at b. begins_at (λ x. (fill.one x).takes) b) bad

module _ {A B : Type 0} {P : List ℕ → A → Front} {Q : List ℕ → B → Front} {zs : List Sample} {second : Test} where
  -- samples of a rule, and of one after it
  pub s_loose : {ss : List Sample} → IsSampled always P ss → IsSampled second Q zs → is_solid zs ≡ true → IsSampled second (λ text (x : A × B). P text x.0 ⋯ Q text x.1) (ss ++ zs)
  s_loose p q solid = then_sampled loose p q passes_always (stays_loose solid)

  pub s_tight : {ss : List Sample} → IsSampled always P ss → IsSampled second Q zs → IsSampled second (λ text (x : A × B). P text x.0 ⨾ Q text x.1) (ss ++ zs)
  s_tight p q = then_sampled tight p q passes_always stays_tight

  pub s_type : {ss : List Sample} → IsSampled quiet P ss → IsSampled second Q zs → is_calm zs ≡ true → is_solid zs ≡ true → IsSampled second (λ text (x : A × B). P text x.0 ⋯ Q text x.1) (ss ++ zs)
  s_type p q still solid = then_sampled loose p q (passes_quiet still) (stays_loose solid)

  pub s_operand : {ss : List Sample} → IsSampled calm P ss → IsSampled second Q zs → is_still zs ≡ true → IsSampled second (λ text (x : A × B). P text x.0 ⨾ Q text x.1) (ss ++ zs)
  s_operand p q still = then_sampled tight p q (passes_calm still) stays_tight

  -- a rule breaks off, and one follows
  module _ {text : List ℕ} {ts : List Token} {e : Stop} where
    pub first_loose : IsSampled second Q zs → is_solid zs ≡ true → BreaksOff always P text ts e → BreaksOff second (λ text (x : A × B). P text x.0 ⋯ Q text x.1) text ts e
    first_loose q solid bad = as_breaks (λ at b. begins_first loose q passes_always (stays_loose solid) b) bad

    pub first_tight : IsSampled second Q zs → BreaksOff always P text ts e → BreaksOff second (λ text (x : A × B). P text x.0 ⨾ Q text x.1) text ts e
    first_tight q bad = as_breaks (λ at b. begins_first tight q passes_always stays_tight b) bad

    pub first_type : IsSampled second Q zs → is_calm zs ≡ true → is_solid zs ≡ true → BreaksOff quiet P text ts e → BreaksOff second (λ text (x : A × B). P text x.0 ⋯ Q text x.1) text ts e
    first_type q still solid bad = as_breaks (λ at b. begins_first loose q (passes_quiet still) (stays_loose solid) b) bad

    pub first_operand : IsSampled second Q zs → is_still zs ≡ true → BreaksOff calm P text ts e → BreaksOff second (λ text (x : A × B). P text x.0 ⨾ Q text x.1) text ts e
    first_operand q still bad = as_breaks (λ at b. begins_first tight q (passes_calm still) stays_tight b) bad

    -- a rule is there, and what follows breaks off
    module _ {m : List Token} {x : A} where
      pub later_loose : IsFilling tight always P → Reads (P text) ts x m → IsSampled second Q zs → is_solid zs ≡ true → BreaksOff second Q text (skip_line_ends m) e
          → BreaksOff second (λ text (x : A × B). P text x.0 ⋯ Q text x.1) text ts e
      later_loose fill here q solid bad = as_breaks (λ at b. begins_later loose_cut (reach_tight loose_cut) fill here.found q passes_always (stays_loose solid) b) bad

      pub later_tight : IsFilling tight always P → Reads (P text) ts x m → IsSampled second Q zs → BreaksOff second Q text m e → BreaksOff second (λ text (x : A × B). P text x.0 ⨾ Q text x.1) text ts e
      later_tight fill here q bad = as_breaks (λ at b. begins_later tight_cut (reach_tight tight_cut) fill here.found q passes_always stays_tight b) bad

      pub later_type : IsFilling loose quiet P → Reads (P text) ts x m → IsSampled second Q zs → is_calm zs ≡ true → is_solid zs ≡ true → BreaksOff second Q text (skip_line_ends m) e
          → BreaksOff second (λ text (x : A × B). P text x.0 ⋯ Q text x.1) text ts e
      later_type fill here q still solid bad = as_breaks (λ at b. begins_later loose_cut reach_loose fill here.found q (passes_quiet still) (stays_loose solid) b) bad

      pub later_operand : IsFilling tight calm P → Reads (P text) ts x m → IsSampled second Q zs → is_still zs ≡ true → BreaksOff second Q text m e → BreaksOff second (λ text (x : A × B). P text x.0 ⨾ Q text x.1) text ts e
      later_operand fill here q still bad = as_breaks (λ at b. begins_later tight_cut (reach_tight tight_cut) fill here.found q (passes_calm still) stays_tight b) bad

-- the same of a part without a value
module _ {B : Type 0} {F : List ℕ → Front} {Q : List ℕ → B → Front} {zs : List Sample} {second : Test} where
  pub s_part : {ss : List Sample} → IsSampled always (λ text (u : Unit {0}). F text) ss → IsSampled second Q zs → is_solid zs ≡ true → IsSampled second (λ text (y : B). F text ⋯ Q text y) (ss ++ zs)
  s_part p q solid = behind_sampled loose p q passes_always (stays_loose solid)

  pub s_part_tight : {ss : List Sample} → IsSampled always (λ text (u : Unit {0}). F text) ss → IsSampled second Q zs → IsSampled second (λ text (y : B). F text ⨾ Q text y) (ss ++ zs)
  s_part_tight p q = behind_sampled tight p q passes_always stays_tight

  module _ {text : List ℕ} {ts m : List Token} {e : Stop} where
    pub part_loose : Fills tight always F → Stands (F text) ts m → IsSampled second Q zs → is_solid zs ≡ true → BreaksOff second Q text (skip_line_ends m) e → BreaksOff second (λ text (y : B). F text ⋯ Q text y) text ts e
    part_loose fill here q solid bad = as_breaks (λ at b. begins_behind loose_cut (reach_tight loose_cut) fill here.found q passes_always (stays_loose solid) b) bad

    pub part_tight : Fills tight always F → Stands (F text) ts m → IsSampled second Q zs → BreaksOff second Q text m e → BreaksOff second (λ text (y : B). F text ⨾ Q text y) text ts e
    part_tight fill here q bad = as_breaks (λ at b. begins_behind tight_cut (reach_tight tight_cut) fill here.found q passes_always stays_tight b) bad
