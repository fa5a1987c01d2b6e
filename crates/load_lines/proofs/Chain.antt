-- Readers one after another, and repeated.
use Rattle.std.proofs.Common.{◌≡◌, ℕ, ◌≤◌, length, length-append, arith, Bool, true, false, Option, Some, None, List, [], ◌∷◌, ◌++◌, append-nil, refl, sym, ◌∙◌, subst, ap}
use Rattle.std.specs.Prelude.{Result, Ok, Err, IfErr, IsErrAnd}
use Rattle.il_syntax.specs.declared.token.Token.{Token}
use Rattle.il_syntax.specs.declared.token.Sign.TheVariants.{Comma}
use Rattle.il_syntax.specs.Grammar.{Front, Gap, tight, loose, skip_line_ends, ◌⟨◌⟩◌, ◌⋯◌, Repeats, Listed, TheSign, At}
use Rattle.il_syntax.specs.declared.tree.Place.{Place}
use Rattle.il_syntax_laws.proofs.Leads.{at_holds, sign_sure}
use Rattle.il_syntax_laws.proofs.Combinators.{valueless}
use Rattle.il_syntax_laws.specs.Alike.{IsEndOf, AreAlike, IsGap, IsLocal, IsLocalPart, IsTold}
use Rattle.il_syntax_laws.proofs.Alike.{end_self, end_length, end_of_end, loose_gap, gap_length}
use Rattle.il_syntax_laws.proofs.Local.{sign_local, sign_told}
use Rattle.il_syntax_laws.specs.GoesOn.{Test, always}
use Rattle.il_syntax_laws.proofs.GoesOn.{HasGone, gone_starts, gone_on, WantsGone, wanted_starts, wanted_on, IsFilling, IsCutGap, Reaches}
use Rattle.load_lines.specs.Reads.{IsFault, Reads, GoesOnNoMore, Refuses, turn, Stands, Misses, Eats, Comes, fault_at}
use Rattle.load_lines.specs.declared.stop.SyntaxError.{SyntaxError}
use Rattle.load_lines.specs.declared.stop.SyntaxError.TheVariants.{Unexpected}
use Rattle.load_lines.specs.declared.stop.Stop.{Stop}
use Rattle.load_lines.specs.declared.stop.Stop.TheVariants as stop

-- want of memory says nothing
pub memory : {A : Type 0} (P : List ℕ → A → Front) (text : List ℕ) (ts : List Token) (e : Stop) → e ≡ stop.Memory → Refuses P text ts e
memory P text ts e same = record { fault = λ f. absurd (subst IsFault same f) }

-- A fault where one rule goes on no more is one where another doesn't.
pub lift : {A B : Type 0} {P : List ℕ → A → Front} {Q : List ℕ → B → Front} {text : List ℕ} {ts us : List Token} {e : Stop} → IsEndOf ts us
    → ((back : List Token) → GoesOnNoMore P text ts back → GoesOnNoMore Q text us back) → Refuses P text ts e → Refuses Q text us e
lift {text = text} {ts = ts} {us = us} end f bad = record { fault = λ is. let b = bad.fault is in (b.0, b.1, b.2, end_of_end b.1 ts us end b.3, f (turn b.0 text b.1) b.4) }

-- nothing of the rule is at the front of these tokens
abbrev pub Lacks : {A : Type 0} → (A → Front) → List Token → Type 0
Lacks {A = A} P ts = (x : A) (rest : List Token) → P x ts rest → ⊥

-- What a rule lacks after a gap, another lacks before it.
pub past : {A B : Type 0} {P : List ℕ → A → Front} {Q : List ℕ → B → Front} {text : List ℕ} {ts : List Token} {e : Stop} {gap : Gap} (is : IsGap gap)
    → ((other : List ℕ) (us back : List Token) → AreAlike text other back ts us → Lacks (P other) (gap us) → Lacks (Q other) us) → Refuses P text (gap ts) e → Refuses Q text ts e
past {P = P} {text = text} {ts = ts} {gap = gap} is f bad = lift (is.ends ts) (λ back gone. record {
  inside = end_of_end back (gap ts) ts (is.ends ts) gone.inside;
  never = λ other us a. f other us back a (λ x r w. gone.never other (gap us) (is.alike text other back ts us a (end_length back (gap ts) gone.inside)) x r w);
}) bad

-- What a rule lacks after a part that is there, another lacks before it.
pub past_part : {A B C : Type 0} {F : List ℕ → C → Front} {P : List ℕ → A → Front} {Q : List ℕ → B → Front} {text : List ℕ} {ts m : List Token} {c : C} {e : Stop} {gap : Gap} (is : IsGap gap) → IsLocal tight F → F text c ts m
    → ((other : List ℕ) (us back n : List Token) → AreAlike text other back ts us → F other c us n → Lacks (P other) (gap n) → Lacks (Q other) us) → Refuses P text (gap m) e → Refuses Q text ts e
past_part {P = P} {text = text} {ts = ts} {m = m} {c = c} {gap = gap} is one here f bad = lift (end_of_end (gap m) m ts ((one.carries c).ends text ts m here) (is.ends m)) (λ back gone.
    let l = end_length back (gap m) gone.inside in
    let k = gap_length is m in
    record {
      inside = end_of_end back (gap m) ts (end_of_end (gap m) m ts ((one.carries c).ends text ts m here) (is.ends m)) gone.inside;
      never = λ other us a.
          let d = (one.carries c).over text other back ts us m a here (omega (arith, l, k)) in
          f other us back d.0 a d.1 (λ x r w. gone.never other (gap d.0) (is.alike text other back m d.0 d.2 l) x r w);
    }) bad

-- a rule without a value, as one whose value is nothing
pub as_value : {F : List ℕ → Front} {text : List ℕ} {ts : List Token} {e : Stop} → Misses F text ts e → Refuses (λ text (u : Unit {0}). F text) text ts e
as_value bad = record { fault = bad.fault }

-- A fault at the first token, whatever other tokens begin so.
pub at_once : {A : Type 0} {P : List ℕ → A → Front} {text : List ℕ} {ts : List Token} {e : Stop} (error : SyntaxError) → turn error text ts ≡ ts
    → ((other : List ℕ) (us : List Token) → AreAlike text other ts ts us → (x : A) (r : List Token) → P other x us r → ⊥) → e ≡ fault_at error ts → Refuses P text ts e
at_once {P = P} {text = text} {ts = ts} error same none here = record {
  fault = λ is. (error, ts, here, end_self ts, subst (λ (back : List Token). GoesOnNoMore P text ts back) (sym same) (record { inside = end_self ts; never = none }));
}

-- A fault at the first token, by which it is told that no P is there.
pub unmet : {A : Type 0} {P : List ℕ → A → Front} {text : List ℕ} {ts : List Token} {e : Stop} (error : SyntaxError) → turn error text ts ≡ ts → ((x : A) → IsTold (λ text. P text x))
    → ((x : A) (r : List Token) → P text x ts r → ⊥) → e ≡ fault_at error ts → Refuses P text ts e
unmet {text = text} {ts = ts} error same told none here = at_once error same (λ other us a x r w. (told x).still text other ts ts us a (none x) r w) here

-- the same of a rule without a value
pub unmet_part : {F : List ℕ → Front} {text : List ℕ} {ts : List Token} {e : Stop} (error : SyntaxError) → turn error text ts ≡ ts → IsTold F → ((r : List Token) → F text ts r → ⊥) → e ≡ fault_at error ts → Misses F text ts e
unmet_part {F = F} {text = text} {ts = ts} error same told none here =
    let bad = at_once {P = λ text (u : Unit {0}). F text} error same (λ other us a u r w. told.still text other ts ts us a none r w) here in
    record { fault = bad.fault }

-- the first part isn't there
pub first : {A B : Type 0} {P : List ℕ → A → Front} {text : List ℕ} {ts : List Token} {e : Stop} (f : B → A) (gap : Gap) (Q : List ℕ → B → Front) → Refuses P text ts e
    → Refuses (λ text b. P text (f b) ⟨ gap ⟩ Q text b) text ts e
first f gap Q bad = lift (end_self _) (λ back gone. record { inside = gone.inside; never = λ other us a b r w. gone.never other us a (f b) w.0 w.1 }) bad

-- What follows a part goes on no more, and so the whole.
pub later_goes : {A B : Type 0} {P : List ℕ → A → Front} {text : List ℕ} {ts m : List Token} {x : A} {look gap : Gap} (back : List Token) (f : B → A) (is : IsGap gap) (Q : List ℕ → B → Front)
    → ((k : List Token) → length (gap k) ≤ length (look k)) → IsLocal look P → P text x ts m → GoesOnNoMore Q text (gap m) back → GoesOnNoMore (λ text b. P text (f b) ⟨ gap ⟩ Q text b) text ts back
later_goes {text = text} {ts = ts} {m = m} {x = x} {gap = gap} back f is Q fits one here gone = record {
  inside = end_of_end back (gap m) ts (end_of_end (gap m) m ts ((one.carries x).ends text ts m here) (is.ends m)) gone.inside;
  never = λ other us a b r w.
      let l = end_length back (gap m) gone.inside in
      let k = fits m in
      let c = (one.carries x).over text other back ts us m a here (omega (arith, l, k)) in
      gone.never other (gap c.0) (is.alike text other back m c.0 c.2 l) b r
      (subst (λ (j : List Token). Q other b (gap j) r) ((one.one other).only (f b) x us w.0 c.0 w.1 c.1).1 w.2);
}

-- the first part is there, and what has to follow doesn't
pub later : {A B : Type 0} {P : List ℕ → A → Front} {text : List ℕ} {ts m : List Token} {x : A} {e : Stop} {gap : Gap} (f : B → A) (is : IsGap gap) (Q : List ℕ → B → Front) → IsLocal tight P → Reads (P text) ts x m
    → Refuses Q text (gap m) e → Refuses (λ text b. P text (f b) ⟨ gap ⟩ Q text b) text ts e
later {text = text} {ts = ts} {m = m} {x = x} {gap = gap} f is Q one here bad = lift (end_of_end (gap m) m ts ((one.carries x).ends text ts m here.found) (is.ends m)) (λ back gone. later_goes back f is Q (gap_length is) one here.found gone) bad

-- the same, where the first part looks at the first token after line ends
pub later_lines : {A B : Type 0} {P : List ℕ → A → Front} {text : List ℕ} {ts m : List Token} {x : A} {e : Stop} (f : B → A) (Q : List ℕ → B → Front) → IsLocal loose P → Reads (P text) ts x m
    → Refuses Q text (skip_line_ends m) e → Refuses (λ text b. P text (f b) ⋯ Q text b) text ts e
later_lines {text = text} {ts = ts} {m = m} {x = x} f Q one here bad = lift (end_of_end (skip_line_ends m) m ts ((one.carries x).ends text ts m here.found) (loose_gap.ends m)) (λ back gone. later_goes back f loose_gap Q (λ k. omega arith) one here.found gone) bad

-- a part without a value isn't there
pub first_missing : {B : Type 0} {F : List ℕ → Front} {text : List ℕ} {ts : List Token} {e : Stop} (gap : Gap) (Q : List ℕ → B → Front) → Misses F text ts e
    → Refuses (λ text b. F text ⟨ gap ⟩ Q text b) text ts e
first_missing gap Q bad = lift (end_self _) (λ back gone. record { inside = gone.inside; never = λ other us a b r w. gone.never other us a tt w.0 w.1 }) (as_value bad)

-- a part without a value, as one whose value is nothing
pub valued : {look : Gap} {F : List ℕ → Front} → IsLocalPart look F → IsLocal look (λ text (u : Unit {0}). F text)
valued one = record { one = λ text. valueless (one.one text); carries = λ u. one.carries }

-- a part without a value is there, and what has to follow doesn't
pub behind : {B : Type 0} {F : List ℕ → Front} {text : List ℕ} {ts m : List Token} {e : Stop} {gap : Gap} (is : IsGap gap) (Q : List ℕ → B → Front) → IsLocalPart tight F → Stands (F text) ts m
    → Refuses Q text (gap m) e → Refuses (λ text b. F text ⟨ gap ⟩ Q text b) text ts e
behind {text = text} {ts = ts} {m = m} {gap = gap} is Q one here bad = lift (end_of_end (gap m) m ts (one.carries.ends text ts m here.found) (is.ends m)) (λ back gone. later_goes back (λ b. tt) is Q (gap_length is) (valued one) here.found gone) bad

-- the last part, without a value, isn't there
pub last_missing : {B : Type 0} {F : List ℕ → Front} {text : List ℕ} {ts : List Token} {e : Stop} → Misses F text ts e → Refuses (λ text (b : B). F text) text ts e
last_missing bad = lift (end_self _) (λ back gone. record { inside = gone.inside; never = λ other us a b r w. gone.never other us a tt r w }) (as_value bad)

-- an error goes up as it is
pub up : {X A : Type 0} {P : List ℕ → A → Front} {text : List ℕ} {ts : List Token} {e : Stop} (r : Result X Stop) → IsErrAnd r (λ y. y ≡ e) → Refuses P text ts e → IfErr r (λ y. Refuses P text ts y)
up {P = P} {text = text} {ts = ts} (Err y) same bad = subst (λ (z : Stop). Refuses P text ts z) (sym same) bad
up (Ok x) same bad = tt

-- the same of a rule without a value
pub up_part : {X : Type 0} {F : List ℕ → Front} {text : List ℕ} {ts : List Token} {e : Stop} (r : Result X Stop) → IsErrAnd r (λ y. y ≡ e) → Misses F text ts e → IfErr r (λ y. Misses F text ts y)
up_part {F = F} {text = text} {ts = ts} (Err y) same bad = subst (λ (z : Stop). Misses F text ts z) (sym same) bad
up_part (Ok x) same bad = tt

-- a part of the value
pub part : {A B : Type 0} {P : List ℕ → A → Front} {text : List ℕ} {ts : List Token} {e : Stop} (f : B → A) → Refuses P text ts e → Refuses (λ text b. P text (f b)) text ts e
part f bad = lift (end_self _) (λ back gone. record { inside = gone.inside; never = λ other us a b r w. gone.never other us a (f b) r w }) bad

-- one more at the end
pub regroup : {A : Type 0} (xs : List A) (x : A) (more : List A) → xs ++ (x ∷ more) ≡ (xs ++ x ∷ []) ++ more
regroup [] x more = refl
regroup (y ∷ xs) x more = ap (λ zs. y ∷ zs) (regroup xs x more)

-- What a loop has read: these, and what is at the front is them and then what is left, in alike tokens too.
pub record HasRead {A : Type 0} (P : List ℕ → A → Front) (E : List ℕ → Front) (text : List ℕ) (start : List Token) (xs : List A) (ts : List Token) : Type 0 where
  pub inside : IsEndOf ts start
  pub whole : (more : List A) (r : List Token) → Repeats (P text) more (E text) ts r → Repeats (P text) (xs ++ more) (E text) start r
  pub left : (other : List ℕ) (back us : List Token) → AreAlike text other back start us → length back ≤ length ts
      → (vs : List Token) × AreAlike text other back ts vs
      × ((ys : List A) (r : List Token) → Repeats (P other) ys (E other) us r → (more : List A) × (ys ≡ xs ++ more) × Repeats (P other) more (E other) vs r)
  pub gone : HasGone P E text start xs ts

module _ {A : Type 0} (P : List ℕ → A → Front) (E : List ℕ → Front) (text : List ℕ) where
  -- a loop begins
  pub starts : (ts : List Token) → HasRead P E text ts [] ts
  starts ts = record { inside = end_self ts; whole = λ more r w. w; left = λ other back us a l. (us, a, λ ys r w. (ys, refl, w)); gone = gone_starts ts }

  -- where the end isn't, one more has to
  pub one_more : (ts : List Token) → ((r : List Token) → E text ts r → ⊥) → (ys : List A) (r : List Token) → Repeats (P text) ys (E text) ts r
      → (y : A) × (more : List A) × (ys ≡ y ∷ more) × (m : List Token) × P text y ts m × Repeats (P text) more (E text) (skip_line_ends m) r
  one_more ts on [] r w = absurd (on r w)
  one_more ts on (y ∷ more) r w = (y, more, refl, w.0, w.1, w.2)

module _ {A : Type 0} (P : List ℕ → A → Front) (E : List ℕ → Front) (text : List ℕ) where
  -- and goes on
  pub goes_on : IsFilling tight always P → IsLocal loose P → IsTold E → (start : List Token) (xs : List A) (ts : List Token) (x : A) (m : List Token)
      → ((r : List Token) → E text ts r → ⊥) → HasRead P E text start xs ts → Reads (P text) ts x m → HasRead P E text start (xs ++ x ∷ []) (skip_line_ends m)
  goes_on fill one told start xs ts x m on so_far here = record {
    gone = gone_on fill so_far.gone here.found;
    inside = end_of_end (skip_line_ends m) ts start so_far.inside (end_of_end (skip_line_ends m) m ts ((one.carries x).ends text ts m here.found) (loose_gap.ends m));
    whole = λ more r w. subst (λ (zs : List A). Repeats (P text) zs (E text) start r) (regroup xs x more) (so_far.whole (x ∷ more) r (m, here.found, w));
    left = λ other back us a l.
        let short = end_length (skip_line_ends m) ts (end_of_end (skip_line_ends m) m ts ((one.carries x).ends text ts m here.found) (loose_gap.ends m)) in
        let so = so_far.left other back us a (omega (arith, l, short)) in
        let c = (one.carries x).over text other back ts so.0 m so.1 here.found l in (
          skip_line_ends c.0,
          loose_gap.alike text other back m c.0 c.2 l,
          λ ys r w.
              let k = so.2 ys r w in
              let n = one_more P E other so.0 (λ q p. told.still text other back ts so.0 so.1 on q p) k.0 r k.2 in
              let same = (one.one other).only n.0 x so.0 n.3 c.0 n.4 c.1 in
              (n.1, k.1 ∙ ap (λ zs. xs ++ zs) (n.2 ∙ ap (λ z. z ∷ n.1) same.0) ∙ regroup xs x n.1, subst (λ (j : List Token). Repeats (P other) n.1 (E other) (skip_line_ends j) r) same.1 n.5),
        );
  }

  -- one that is not there
  pub item_refused : IsTold E → (start : List Token) (xs : List A) (ts : List Token) (e : Stop) → ((r : List Token) → E text ts r → ⊥) → HasRead P E text start xs ts → Refuses P text ts e
      → Refuses (λ text ys. Repeats (P text) ys (E text)) text start e
  item_refused told start xs ts e on so_far bad = lift so_far.inside (λ back gone. record {
    inside = end_of_end back ts start so_far.inside gone.inside;
    never = λ other us a ys r w.
        let so = so_far.left other back us a (end_length back ts gone.inside) in
        let k = so.2 ys r w in
        let n = one_more P E other so.0 (λ q p. told.still text other back ts so.0 so.1 on q p) k.0 r k.2 in
        gone.never other so.0 so.1 n.0 n.3 n.4;
  }) bad

  -- the end
  pub ended : (start : List Token) (xs : List A) (ts m : List Token) → HasRead P E text start xs ts → E text ts m → Reads (λ ys. Repeats (P text) ys (E text)) start xs m
  ended start xs ts m so_far w = record { found = subst (λ (ys : List A). Repeats (P text) ys (E text) start m) (append-nil xs) (so_far.whole [] m w) }

-- What a list goes on with after one of its things: the end, or a comma and others.
abbrev pub Tail : {A : Type 0} → Gap → (A → Front) → Front → List A → Front
Tail gap P E [] = E
Tail gap P E (y ∷ ys) = TheSign Comma ⟨ gap ⟩ Listed gap P (y ∷ ys) E

-- What a loop over a list has read, and one more has to follow it, in alike tokens too.
pub record Wants {A : Type 0} (gap : Gap) (P : List ℕ → A → Front) (E : List ℕ → Front) (text : List ℕ) (start : List Token) (xs : List A) (ts : List Token) : Type 0 where
  pub inside : IsEndOf ts start
  pub whole : (y : A) (more : List A) (r : List Token) → Listed gap (P text) (y ∷ more) (E text) ts r → Listed gap (P text) (xs ++ y ∷ more) (E text) start r
  pub left : (other : List ℕ) (back us : List Token) → AreAlike text other back start us → length back ≤ length ts
      → (vs : List Token) × AreAlike text other back ts vs
      × ((ys : List A) (r : List Token) → Listed gap (P other) ys (E other) us r → (y : A) × (more : List A) × (ys ≡ xs ++ y ∷ more) × Listed gap (P other) (y ∷ more) (E other) vs r)
  pub gone : WantsGone gap P E text start ts

module _ {A : Type 0} (gap : Gap) (P : A → Front) (E : Front) where
  -- a list has one thing at least
  not_empty : (ys : List A) (ts r : List Token) → Listed gap P ys E ts r → (y : A) × (more : List A) × (ys ≡ y ∷ more) × Listed gap P (y ∷ more) E ts r
  not_empty [] ts r w = absurd w
  not_empty (y ∷ more) ts r w = (y, more, refl, w)

  -- a list is its first thing and its tail
  split_first : (y : A) (more : List A) (ts r : List Token) → Listed gap P (y ∷ more) E ts r → (m : List Token) × P y ts m × Tail gap P E more (gap m) r
  split_first y [] ts r w = w
  split_first y (z ∷ zs) ts r w = w

  -- after a comma are others
  past_comma : ((r s : List Token) (ts : List Token) → E ts r → TheSign Comma ts s → ⊥) → (ts m : List Token) → TheSign Comma ts m → (more : List A) (r : List Token) → Tail gap P E more ts r
      → (y : A) × (ys : List A) × (more ≡ y ∷ ys) × (n : List Token) × TheSign Comma ts n × Listed gap P (y ∷ ys) E (gap n) r
  past_comma apart ts m comma [] r w = absurd (apart r m ts w comma)
  past_comma apart ts m comma (y ∷ ys) r w = (y, ys, refl, w.0, w.1, w.2)

  -- no comma is there
  no_comma : (ts : List Token) → ((s : List Token) → TheSign Comma ts s → ⊥) → (more : List A) (r : List Token) → Tail gap P E more ts r → E ts r
  no_comma ts none [] r w = w
  no_comma ts none (y ∷ ys) r w = absurd (none w.0 w.1)

module _ {A : Type 0} {gap : Gap} (is : IsGap gap) (P : List ℕ → A → Front) (E : List ℕ → Front) (text : List ℕ) where
  -- a loop begins
  pub list_starts : (ts : List Token) → Wants gap P E text ts [] ts
  list_starts ts = record {
    inside = end_self ts;
    whole = λ y more r w. w;
    left = λ other back us a l. (us, a, λ ys r w. not_empty gap (P other) (E other) ys us r w);
    gone = wanted_starts ts;
  }

  -- one more, and a comma after it
  pub list_goes_on : {look : Gap} {test : Test} → IsCutGap gap → Reaches gap look → IsFilling look test P → IsLocal tight P → ((other : List ℕ) (r s : List Token) (ts : List Token) → E other ts r → TheSign Comma ts s → ⊥)
      → (start : List Token) (xs : List A) (ts : List Token) (x : A) (m k : List Token)
      → Wants gap P E text start xs ts → Reads (P text) ts x m → TheSign Comma (gap m) k → Wants gap P E text start (xs ++ x ∷ []) (gap k)
  list_goes_on cut far fill one apart start xs ts x m k so_far here comma =
      let e1 = end_of_end (gap m) m ts ((one.carries x).ends text ts m here.found) (is.ends m) in
      let e2 = end_of_end k (gap m) ts e1 ((sign_local Comma).carries.ends text (gap m) k comma) in
      let e3 = end_of_end (gap k) k ts e2 (is.ends k) in
      record {
        gone = wanted_on cut far fill so_far.gone here.found comma;
        inside = end_of_end (gap k) ts start so_far.inside e3;
        whole = λ y more r w. subst (λ (zs : List A). Listed gap (P text) zs (E text) start r) (regroup xs x (y ∷ more)) (so_far.whole x (y ∷ more) r (m, here.found, (k, comma, w)));
        left = λ other back us a l.
            let l0 = end_length (gap k) ts e3 in
            let l1 = gap_length is m in
            let l2 = gap_length is k in
            let l3 = end_length k (gap m) ((sign_local Comma).carries.ends text (gap m) k comma) in
            let so = so_far.left other back us a (omega (arith, l, l0)) in
            let c = (one.carries x).over text other back ts so.0 m so.1 here.found (omega (arith, l, l1, l2, l3)) in
            let d = (sign_local Comma).carries.over text other back (gap m) (gap c.0) k (is.alike text other back m c.0 c.2 (omega (arith, l, l2, l3))) comma (omega (arith, l, l2)) in (
              gap d.0,
              is.alike text other back k d.0 d.2 l,
              λ ys r w.
                  let h = so.2 ys r w in
                  let s = split_first gap (P other) (E other) h.0 h.1 so.0 r h.3 in
                  let same = (one.one other).only h.0 x so.0 s.0 c.0 s.1 c.1 in
                  let t = past_comma gap (P other) (E other) (apart other) (gap c.0) d.0 d.1 h.1 r (subst (λ (j : List Token). Tail gap (P other) (E other) h.1 (gap j) r) same.1 s.2) in (
                    t.0,
                    t.1,
                    h.2 ∙ ap (λ z. xs ++ z ∷ h.1) same.0 ∙ ap (λ zs. xs ++ x ∷ zs) t.2 ∙ regroup xs x (t.0 ∷ t.1),
                    subst (λ (j : List Token). Listed gap (P other) (t.0 ∷ t.1) (E other) (gap j) r) ((sign_sure Comma).only (gap c.0) t.3 d.0 t.4 d.1) t.5,
                  ),
            );
      }

  -- one that isn't there
  pub list_item_refused : (start : List Token) (xs : List A) (ts : List Token) (e : Stop) → Wants gap P E text start xs ts → Refuses P text ts e → Refuses (λ text ys. Listed gap (P text) ys (E text)) text start e
  list_item_refused start xs ts e so_far bad = lift so_far.inside (λ back gone. record {
    inside = end_of_end back ts start so_far.inside gone.inside;
    never = λ other us a ys r w.
        let so = so_far.left other back us a (end_length back ts gone.inside) in
        let h = so.2 ys r w in
        let s = split_first gap (P other) (E other) h.0 h.1 so.0 r h.3 in
        gone.never other so.0 so.1 h.0 s.0 s.1;
  }) bad

  -- the last one, and no end after it
  pub list_end_refused : IsLocal tight P → (start : List Token) (xs : List A) (ts : List Token) (x : A) (m : List Token) (e : Stop)
      → Wants gap P E text start xs ts → Reads (P text) ts x m → ((s : List Token) → TheSign Comma (gap m) s → ⊥) → Misses E text (gap m) e → Refuses (λ text ys. Listed gap (P text) ys (E text)) text start e
  list_end_refused one start xs ts x m e so_far here none bad =
      let e1 = end_of_end (gap m) m ts ((one.carries x).ends text ts m here.found) (is.ends m) in
      lift (end_of_end (gap m) ts start so_far.inside e1) (λ back gone. record {
        inside = end_of_end back ts start so_far.inside (end_of_end back (gap m) ts e1 gone.inside);
        never = λ other us a ys r w.
            let l = end_length back (gap m) gone.inside in
            let l0 = end_length (gap m) ts e1 in
            let l1 = gap_length is m in
            let so = so_far.left other back us a (omega (arith, l, l0)) in
            let c = (one.carries x).over text other back ts so.0 m so.1 here.found (omega (arith, l, l1)) in
            let b = is.alike text other back m c.0 c.2 l in
            let h = so.2 ys r w in
            let s = split_first gap (P other) (E other) h.0 h.1 so.0 r h.3 in
            let same = (one.one other).only h.0 x so.0 s.0 c.0 s.1 c.1 in
            gone.never other (gap c.0) b tt r
            (no_comma gap (P other) (E other) (gap c.0) (λ q p. (sign_told Comma).still text other back (gap m) (gap c.0) b none q p) h.1 r
            (subst (λ (j : List Token). Tail gap (P other) (E other) h.1 (gap j) r) same.1 s.2));
      }) (as_value bad)

  -- the last one, and the end
  pub list_ended : (start : List Token) (xs : List A) (ts : List Token) (x : A) (m r : List Token)
      → Wants gap P E text start xs ts → Reads (P text) ts x m → Stands (E text) (gap m) r → Reads (λ ys. Listed gap (P text) ys (E text)) start (xs ++ x ∷ []) r
  list_ended start xs ts x m r so_far here end = record { found = so_far.whole x [] r (m, here.found, end.found) }

-- what was taken was there
pub was_there : (F : Front) (ts : List Token) (b : Bool) (rest : List Token) → Eats F ts b rest → b ≡ true → F ts rest
was_there F ts true rest h e = h
was_there F ts false rest h e = absurd cc

-- what wasn't taken wasn't there
pub was_missing : (F : Front) (ts : List Token) (b : Bool) (rest : List Token) → Eats F ts b rest → b ≡ false → (rest ≡ ts) × ((other : List Token) → F ts other → ⊥)
was_missing F ts true rest h e = absurd cc
was_missing F ts false rest h e = h

-- a thing at its place, which isn't there
pub at_refused : {A B : Type 0} {P : List ℕ → A → Front} {text : List ℕ} {ts : List Token} {e : Stop} (place : B → Place) (f : B → A) → Refuses P text ts e
    → Refuses (λ text b. At (place b) (P text (f b))) text ts e
at_refused {P = P} place f bad = lift (end_self _) (λ back gone. record {
  inside = gone.inside;
  never = λ other us a b r w. gone.never other us a (f b) r (at_holds [] (P other (f b)) (place b) us r w);
}) bad

-- a thing at its place is there, and what has to follow doesn't
pub at_later : {A B : Type 0} {P : List ℕ → A → Front} {text : List ℕ} {ts m : List Token} {x : A} {e : Stop} {gap : Gap} (place : B → Place) (f : B → A) (is : IsGap gap) (Q : List ℕ → B → Front) → IsLocal tight P
    → Reads (P text) ts x m → Refuses Q text (gap m) e → Refuses (λ text b. At (place b) (P text (f b)) ⟨ gap ⟩ Q text b) text ts e
at_later {P = P} {x = x} {gap = gap} place f is Q one here bad = past_part is one here.found (λ other us back n a there gone b r w.
    gone b r (subst (λ (j : List Token). Q other b (gap j) r) ((one.one other).only (f b) x us w.0 n (at_holds [] (P other (f b)) (place b) us w.0 w.1) there).1 w.2)) bad

-- nothing is at a place where the text ends
pub at_end : {B : Type 0} (P : List ℕ → B → Front) {text : List ℕ} {ts : List Token} {e : Stop} (place : B → Place) → ts ≡ [] → e ≡ fault_at Unexpected ts
    → Refuses (λ text b. At (place b) (P text b)) text ts e
at_end {B = B} P {text = text} {ts = ts} place none here = at_once Unexpected refl (λ other us a b r w. go ts us other a none b r w) here
  where
    go : (ts us : List Token) (other : List ℕ) → AreAlike text other ts ts us → ts ≡ [] → (b : B) (r : List Token) → At (place b) (P other b) us r → ⊥
    go [] us other a e b r w = subst (λ x. At (place b) (P other b) x r) a.1 w
    go (t ∷ ts) us other a e b r w = absurd cc

-- a part that may be missing, and isn't
pub some_refused : {A : Type 0} {P : List ℕ → Option A → Front} {text : List ℕ} {ts : List Token} {e : Stop} → IsTold (λ text. P text None) → ((r : List Token) → P text None ts r → ⊥)
    → Refuses (λ text x. P text (Some x)) text ts e → Refuses P text ts e
some_refused {A = A} {P = P} {text = text} {ts = ts} {e = e} told none bad = lift (end_self _) (λ back gone. record { inside = gone.inside; never = λ other us a x r w. go back gone other us a x r w }) bad
  where
    go : (back : List Token) → GoesOnNoMore (λ text x. P text (Some x)) text ts back → (other : List ℕ) (us : List Token) → AreAlike text other back ts us → (x : Option A) (r : List Token) → P other x us r → ⊥
    go back gone other us a None r w = told.still text other back ts us a none r w
    go back gone other us a (Some x) r w = gone.never other us a x r w

-- what comes next is there
pub it_comes : (F : Front) (ts : List Token) (b : Bool) → Comes F ts b → b ≡ true → (rest : List Token) × F (skip_line_ends ts) rest
it_comes F ts true h e = h
it_comes F ts false h e = absurd cc

-- the same things, no more than a limit
abbrev pub AtMost : {A : Type 0} → ℕ → (List ℕ → List A → Front) → (List ℕ → List A → Front)
AtMost n P text xs ts rest = P text xs ts rest × (length xs ≤ n)

pub within_read : {A : Type 0} (P : List ℕ → List A → Front) {text : List ℕ} {ts r : List Token} {xs : List A} (n : ℕ) → length xs ≤ n → Reads (P text) ts xs r → Reads (AtMost n P text) ts xs r
within_read P n few here = record { found = (here.found, few) }

-- one too many
pub too_many : {A : Type 0} (P : List ℕ → A → Front) (E : List ℕ → Front) (text : List ℕ) (n : ℕ) → IsTold E → (start : List Token) (xs : List A) (ts : List Token) (e : Stop) (error : SyntaxError) → turn error text ts ≡ ts
    → ((r : List Token) → E text ts r → ⊥) → length xs ≡ n → HasRead P E text start xs ts → e ≡ fault_at error ts → Refuses (AtMost n (λ text ys. Repeats (P text) ys (E text))) text start e
too_many {A = A} P E text n told start xs ts e error same on full so_far here = record {
  fault = λ is. (error, ts, here, so_far.inside, subst (λ (back : List Token). GoesOnNoMore (AtMost n (λ text ys. Repeats (P text) ys (E text))) text start back) (sym same) (record { inside = so_far.inside; never = go }));
}
  where
    go : (other : List ℕ) (us : List Token) → AreAlike text other ts start us → (ys : List A) (r : List Token) → AtMost n (λ text ys. Repeats (P text) ys (E text)) other ys us r → ⊥
    go other us a ys r w =
        let so = so_far.left other ts us a (omega arith) in
        let l = so.2 ys r w.0 in
        let m = one_more P E other so.0 (λ q p. told.still text other ts ts so.0 so.1 on q p) l.0 r l.2 in
        let size : length ys ≡ length (xs ++ m.0 ∷ m.1) = ap length (l.1 ∙ ap (λ zs. xs ++ zs) m.2) in
        absurd (omega (arith, size, full, length-append xs (m.0 ∷ m.1), w.1))
