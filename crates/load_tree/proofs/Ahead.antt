-- Readers after parts that look ahead, and loops whose end is told by more than a token.
use Rattle.std.proofs.Common.{◌≡◌, ℕ, arith, Bool, true, false, List, [], ◌∷◌, ◌++◌, refl, sym, ◌∙◌, subst, ap, inl, inr}
use Rattle.std.specs.Prelude.{Result, Ok, Err, IfErr, IsErrAnd, if◌then◌else◌}
use Rattle.il_syntax.specs.declared.token.Token.{Token}
use Rattle.il_syntax.specs.declared.token.Kind.{Kind}
use Rattle.il_syntax.specs.declared.token.Kind.TheVariants as kind
use Rattle.il_syntax.specs.declared.keyword.Keyword.{Keyword}
use Rattle.il_syntax.specs.declared.tree.Body.{Body}
use Rattle.il_syntax.specs.Grammar.{Front, tight, loose, is_line_end, skip_line_ends, ◌⨾◌, Repeats, TheLineEnd}
use Rattle.il_syntax_laws.specs.Alike.{IsEndOf, AreAlike, IsLocal}
use Rattle.il_syntax_laws.proofs.Alike.{end_self, end_length, end_of_end, alike_self, loose_gap, gap_length}
use Rattle.il_syntax_laws.proofs.Local.{line_end_local}
use Rattle.il_syntax_laws.proofs.Bodies.{skip_one}
use Rattle.il_syntax_laws.specs.GoesOn.{always}
use Rattle.il_syntax_laws.proofs.GoesOn.{IsFilling, gone_on}
use Rattle.load_lines.specs.Reads.{Reads, Refuses, Stands, Misses, turn, RefusesBy, error_of}
use Rattle.load_lines.specs.declared.stop.Stop.{Stop}
use Rattle.load_lines.proofs.Chain.{Lacks, HasRead, regroup, later_goes, valued}
use Rattle.load_tree.specs.Ahead.{RefusesAhead, RefusesAheadBy}
use Rattle.load_tree.specs.Bodies.{SpellsStepsBy, SpellsBodyBy}

-- after line ends an end is an end
pub skip_end : (m ts : List Token) → IsEndOf m ts → IsEndOf (skip_line_ends m) (skip_line_ends ts)
skip_end m [] e = subst (λ (x : List Token). IsEndOf (skip_line_ends x) []) (sym e) refl
skip_end m (t ∷ ts) (inl e) = subst (λ (x : List Token). IsEndOf (skip_line_ends x) (skip_line_ends (t ∷ ts))) (sym e) (end_self (skip_line_ends (t ∷ ts)))
skip_end m (t ∷ ts) (inr p) = go (is_line_end t.kind) (skip_end m ts p)
  where
    go : (b : Bool) → IsEndOf (skip_line_ends m) (skip_line_ends ts) → IsEndOf (skip_line_ends m) (if b then skip_line_ends ts else t ∷ ts)
    go true f = f
    go false f = inr (end_of_end (skip_line_ends m) (skip_line_ends ts) ts (loose_gap.ends ts) f)

-- what is promised of what is ahead is promised
pub forget : {A : Type 0} {P : List ℕ → A → Front} {text : List ℕ} {ts : List Token} {e : Stop} → RefusesAhead P text ts e → Refuses P text ts e
forget bad = record { fault = λ is. let b = bad.fault is in (b.0, b.1, b.2, b.3, b.5) }

-- an error goes up as it is
pub up_ahead : {X A : Type 0} {P : List ℕ → A → Front} {text : List ℕ} {ts : List Token} {e : Stop} (r : Result X Stop) → IsErrAnd r (λ y. y ≡ e) → RefusesAhead P text ts e → IfErr r (λ y. RefusesAhead P text ts y)
up_ahead {P = P} {text = text} {ts = ts} (Err y) same bad = subst (λ (z : Stop). RefusesAhead P text ts z) (sym same) bad
up_ahead (Ok x) same bad = tt

-- what is said of an error goes up with it
pub up_so : {X : Type 0} (P : Stop → Type 0) {e : Stop} (r : Result X Stop) → IsErrAnd r (λ y. y ≡ e) → P e → IfErr r P
up_so P (Err y) same bad = subst P (sym same) bad
up_so P (Ok x) same bad = tt

-- a part of the value
pub part_ahead : {A B : Type 0} {P : List ℕ → A → Front} {text : List ℕ} {ts : List Token} {e : Stop} (f : B → A) → RefusesAhead P text ts e → RefusesAhead (λ text b. P text (f b)) text ts e
part_ahead f bad = record {
  fault = λ is.
      let b = bad.fault is in
      (b.0, b.1, b.2, b.3, b.4, record { inside = b.5.inside; never = λ other us a x r w. b.5.never other us a (f x) r w });
}

-- the first part isn't there
pub first_ahead : {A B : Type 0} {P : List ℕ → A → Front} {text : List ℕ} {ts : List Token} {e : Stop} (f : B → A) (Q : List ℕ → B → Front) → RefusesAhead P text ts e
    → RefusesAhead (λ text b. P text (f b) ⨾ Q text b) text ts e
first_ahead f Q bad = record {
  fault = λ is.
      let b = bad.fault is in
      (b.0, b.1, b.2, b.3, b.4, record { inside = b.5.inside; never = λ other us a x r w. b.5.never other us a (f x) w.0 w.1 });
}

-- the first part is there, and what has to follow directly doesn't
pub later_ahead : {A B : Type 0} {P : List ℕ → A → Front} {text : List ℕ} {ts m : List Token} {x : A} {e : Stop} (f : B → A) (Q : List ℕ → B → Front) → IsLocal loose P → Reads (P text) ts x m
    → RefusesAhead Q text m e → RefusesAhead (λ text b. P text (f b) ⨾ Q text b) text ts e
later_ahead {P = P} {text = text} {ts = ts} {m = m} {x = x} f Q one here bad = record {
  fault = λ is.
      let b = bad.fault is in
      let within = (one.carries x).ends text ts m here.found in
      let l = end_length (turn b.0 text b.1) (skip_line_ends m) b.4 in (
        b.0,
        b.1,
        b.2,
        end_of_end b.1 m ts within b.3,
        end_of_end (turn b.0 text b.1) (skip_line_ends m) (skip_line_ends ts) (skip_end m ts within) b.4,
        record {
          inside = end_of_end (turn b.0 text b.1) m ts within b.5.inside;
          never = λ other us a y r w.
              let c = (one.carries x).over text other (turn b.0 text b.1) ts us m a here.found l in
              b.5.never other c.0 c.2 y r (subst (λ (j : List Token). Q other y j r) ((one.one other).only (f y) x us w.0 c.0 w.1 c.1).1 w.2);
        },
      );
}

-- What a rule lacks after line ends, another lacks before them.
pub past_lines : {A B : Type 0} {P : List ℕ → A → Front} {Q : List ℕ → B → Front} {text : List ℕ} {ts : List Token} {e : Stop}
    → ((other : List ℕ) (us back : List Token) → AreAlike text other back (skip_line_ends ts) (skip_line_ends us) → Lacks (P other) (skip_line_ends us) → Lacks (Q other) us)
    → Refuses P text (skip_line_ends ts) e → RefusesAhead Q text ts e
past_lines {text = text} {ts = ts} f bad = record {
  fault = λ is.
      let b = bad.fault is in
      let back = turn b.0 text b.1 in (
        b.0,
        b.1,
        b.2,
        end_of_end b.1 (skip_line_ends ts) ts (loose_gap.ends ts) b.3,
        b.4.inside,
        record {
          inside = end_of_end back (skip_line_ends ts) ts (loose_gap.ends ts) b.4.inside;
          never = λ other us a.
              let c = loose_gap.alike text other back ts us a (end_length back (skip_line_ends ts) b.4.inside) in
              f other us back c (λ x r w. b.4.never other (skip_line_ends us) c x r w);
        },
      );
}

-- the same of a rule that looks after line ends
pub ahead_of : {A B : Type 0} {P : List ℕ → A → Front} {Q : List ℕ → B → Front} {text : List ℕ} {ts : List Token} {e : Stop}
    → ((other : List ℕ) (us back : List Token) → AreAlike text other back (skip_line_ends ts) (skip_line_ends us) → Lacks (P other) us → Lacks (Q other) us)
    → RefusesAhead P text ts e → RefusesAhead Q text ts e
ahead_of {text = text} {ts = ts} f bad = record {
  fault = λ is.
      let b = bad.fault is in
      let back = turn b.0 text b.1 in (
        b.0,
        b.1,
        b.2,
        b.3,
        b.4,
        record {
          inside = b.5.inside;
          never = λ other us a. f other us back (loose_gap.alike text other back ts us a (end_length back (skip_line_ends ts) b.4)) (λ x r w. b.5.never other us a x r w);
        },
      );
}

-- where the line doesn't end, no line ends are at the front
by_kind : (t : Token) (us : List Token) (k : Kind) → t.kind ≡ k → ((r : List Token) → TheLineEnd (t ∷ us) r → ⊥) → is_line_end k ≡ false
by_kind t us kind.LineEnd e out = absurd (out us (e, refl))
by_kind t us kind.Word e out = refl
by_kind t us (kind.Number v) e out = refl
by_kind t us (kind.Typed v) e out = refl
by_kind t us (kind.Sign s) e out = refl

unended : (us : List Token) → ((r : List Token) → TheLineEnd us r → ⊥) → skip_line_ends us ≡ us
unended [] out = refl
unended (t ∷ us) out = ap (λ (b : Bool). if b then skip_line_ends us else t ∷ us) (by_kind t us t.kind refl out)

-- the line doesn't end there, where a body has to begin
pub no_line_end : (last : Keyword) (text : List ℕ) (ts : List Token) (e : Stop) → Misses (λ text. TheLineEnd) text ts e → RefusesAheadBy (SpellsBodyBy last) text ts e
no_line_end last text ts e bad = record {
  fault = λ is.
      let b = bad.fault is in
      let back = turn b.0 text b.1 in
      let out : (r : List Token) → TheLineEnd ts r → ⊥ = λ r w. b.4.never text ts (alike_self text back ts b.4.inside) tt r w in (
        b.0,
        b.1,
        b.2,
        b.3,
        subst (λ (x : List Token). IsEndOf back x) (sym (unended ts out)) b.4.inside,
        record { inside = b.4.inside; never = λ other us a x r w. b.4.never other us a tt w.0 w.1 },
      );
}

-- the line ends there, and no steps follow
pub no_steps : (last : Keyword) (text : List ℕ) (ts m : List Token) (e : Stop) → Stands TheLineEnd ts m → RefusesBy (SpellsStepsBy last) text (skip_line_ends m) e → RefusesAheadBy (SpellsBodyBy last) text ts e
no_steps last text ts m e here bad =
    let same = skip_one ts m here.found in
    record {
      fault = λ is.
          let c = bad.fault is in
          let back = turn c.0 text c.1 in (
            c.0,
            c.1,
            c.2,
            end_of_end c.1 (skip_line_ends ts) ts (loose_gap.ends ts) (subst (λ (x : List Token). IsEndOf c.1 x) (sym same) c.3),
            subst (λ (x : List Token). IsEndOf back x) (sym same) c.4.inside,
            later_goes back (λ (b : Body). tt) loose_gap (λ text (b : Body). SpellsStepsBy last (error_of e) text b) (gap_length loose_gap) (valued line_end_local) here.found c.4,
          );
    }

-- a loop goes on, whose things are none of its end
pub goes_on_apart : {A : Type 0} (P : List ℕ → A → Front) (E : List ℕ → Front) (text : List ℕ) → IsFilling tight always P → IsLocal loose P → (start : List Token) (xs : List A) (ts : List Token) (x : A) (m : List Token)
    → ((other : List ℕ) (us r q : List Token) → P other x us q → E other us r → ⊥) → HasRead P E text start xs ts → Reads (P text) ts x m → HasRead P E text start (xs ++ x ∷ []) (skip_line_ends m)
goes_on_apart {A = A} P E text fill one start xs ts x m apart so_far here =
    let within = end_of_end (skip_line_ends m) m ts ((one.carries x).ends text ts m here.found) (loose_gap.ends m) in
    record {
      gone = gone_on fill so_far.gone here.found;
      inside = end_of_end (skip_line_ends m) ts start so_far.inside within;
      whole = λ more r w. subst (λ (zs : List A). Repeats (P text) zs (E text) start r) (regroup xs x more) (so_far.whole (x ∷ more) r (m, here.found, w));
      left = λ other back us a l.
          let short = end_length (skip_line_ends m) ts within in
          let so = so_far.left other back us a (omega (arith, l, short)) in
          let c = (one.carries x).over text other back ts so.0 m so.1 here.found l in (
            skip_line_ends c.0,
            loose_gap.alike text other back m c.0 c.2 l,
            λ ys r w.
                let k = so.2 ys r w in
                let n = next other so.0 (λ q p. apart other so.0 q c.0 c.1 p) k.0 r k.2 in
                let same = (one.one other).only n.0 x so.0 n.3 c.0 n.4 c.1 in
                (n.1, k.1 ∙ ap (λ zs. xs ++ zs) (n.2 ∙ ap (λ z. z ∷ n.1) same.0) ∙ regroup xs x n.1, subst (λ (j : List Token). Repeats (P other) n.1 (E other) (skip_line_ends j) r) same.1 n.5),
          );
    }
  where
    next : (other : List ℕ) (vs : List Token) → ((r : List Token) → E other vs r → ⊥) → (ys : List A) (r : List Token) → Repeats (P other) ys (E other) vs r
        → (y : A) × (more : List A) × (ys ≡ y ∷ more) × (m : List Token) × P other y vs m × Repeats (P other) more (E other) (skip_line_ends m) r
    next other vs on [] r w = absurd (on r w)
    next other vs on (y ∷ more) r w = (y, more, refl, w.0, w.1, w.2)
