-- Where the instructions of a body are.
use Rattle.std.specs.Prelude.{IsTrue, IsFalse}
use Rattle.std.specs.List.{All, slice_get}
use Rattle.std.proofs.Common.{◌≡◌, ℕ, zero, suc, ◌≤◌, Bool, true, false, List, [], ◌∷◌, ◌++◌, length, refl, sym, ap, subst, arith, Some}
use Rattle.std.proofs.lemmas.List.Elements.{All-nil, All-cons, All-head, All-tail, All-weaker}
use Rattle.il_syntax.specs.declared.token.Token.{Token}
use Rattle.il_syntax.specs.declared.tree.Place.{Place}
use Rattle.il_syntax.specs.declared.tree.Named.{Named}
use Rattle.il_syntax.specs.declared.tree.Step.{Step}
use Rattle.il_syntax.specs.declared.tree.Unit.{Unit as ProgramUnit}
use Rattle.il_syntax.specs.Grammar.{Front, skip_line_ends, At, Repeats, SpellsInstruction, SpellsLabelled, SpellsStep}
use Rattle.il_syntax_laws.specs.Alike.{IsEndOf}
use Rattle.il_syntax_laws.proofs.Alike.{end_self, end_of_end, loose_gap}
use Rattle.il_syntax_laws.proofs.Open.{label_fills, line_end_fills, step_fills}
use Rattle.load_tree.specs.Refused.{StandsAmong, IsLateSurplus}
use Rattle.load_tree.specs.GoesOn.{AreBehind}

-- what is among the tokens of an end does among all
pub among_end : (mid vs : List Token) (p : Place) → IsEndOf mid vs → StandsAmong mid p → StandsAmong vs p
among_end mid vs p e s = (s.0, s.1, end_of_end (s.0 ∷ s.1) mid vs e s.2, s.3)

pub at_among : (F : Front) (p : Place) (ts r : List Token) → At p F ts r → StandsAmong ts p
at_among F p [] r w = absurd w
at_among F p (t ∷ ts) r w = (t, ts, end_self (t ∷ ts), (sym w.0, sym w.1))

-- after labels too
pub labelled_among : (text : List ℕ) (F : Front) (p : Place) (ns : List Named) (ts r : List Token) → SpellsLabelled text ns (At p F) ts r → StandsAmong ts p
labelled_among text F p [] ts r w = at_among F p ts r w
labelled_among text F p (n ∷ []) ts r w =
    among_end (skip_line_ends w.0) ts p (end_of_end (skip_line_ends w.0) w.0 ts ((label_fills n).opens.ends text ts w.0 w.1) (loose_gap.ends w.0)) (at_among F p (skip_line_ends w.0) r w.2)
labelled_among text F p (n ∷ o ∷ ns) ts r w =
    let line = w.2 in
    let behind = end_of_end (skip_line_ends line.0) line.0 w.0 (line_end_fills.opens.ends text w.0 line.0 line.1) (loose_gap.ends line.0) in
    among_end (skip_line_ends line.0) ts p (end_of_end (skip_line_ends line.0) w.0 ts ((label_fills n).opens.ends text ts w.0 w.1) behind) (labelled_among text F p (o ∷ ns) (skip_line_ends line.0) r line.2)

-- the instructions that tokens spell are among them
pub steps_among : (text : List ℕ) (E : Front) (steps : List Step) (vs ts r : List Token) → IsEndOf ts vs → Repeats (SpellsStep text) steps E ts r → All (λ (s : Step). StandsAmong vs s.place) steps
steps_among text E [] vs ts r e w = All-nil (λ (s : Step). StandsAmong vs s.place)
steps_among text E (s ∷ steps) vs ts r e w =
    let behind = end_of_end (skip_line_ends w.0) w.0 ts ((step_fills s).opens.ends text ts w.0 w.1) (loose_gap.ends w.0) in
    All-cons (λ (s : Step). StandsAmong vs s.place) s steps (among_end ts vs s.place e (labelled_among text (SpellsInstruction text s.instruction) s.place s.labels ts w.0 w.1))
    (steps_among text E steps vs (skip_line_ends w.0) r (end_of_end (skip_line_ends w.0) ts vs e behind) w.2)

-- where all do, all but the first do
pub all_behind : (full : Bool) (vs : List Token) (steps : List Step) → All (λ (s : Step). StandsAmong vs s.place) steps → AreBehind full vs steps
all_behind full vs [] h = tt
all_behind full vs (s ∷ steps) h = (λ f. All-head (λ (s : Step). StandsAmong vs s.place) s steps h, All-tail (λ (s : Step). StandsAmong vs s.place) s steps h)

-- one that is at some number
pub all_at : (P : Step → Type 0) (steps : List Step) (n : ℕ) (s : Step) → All P steps → slice_get steps n ≡ Some s → P s
all_at P [] zero s h e = absurd cc
all_at P [] (suc n) s h e = absurd cc
all_at P (x ∷ steps) zero s h e = let same : x ≡ s = cc in subst P same (All-head P x steps h)
all_at P (x ∷ steps) (suc n) s h e = all_at P steps n s (All-tail P x steps h) e

-- what follows others at some number is one of those after, the first only where there are as many before
behind_at : (xs more : List Step) (n : ℕ) (s : Step) → length xs ≤ n → slice_get (xs ++ more) n ≡ Some s → (k : ℕ) × (slice_get more k ≡ Some s) × (k ≡ 0 → length xs ≡ n)
behind_at [] more n s l e = (n, e, λ none. sym none)
behind_at (x ∷ xs) more zero s l e = absurd (omega (arith, l))
behind_at (x ∷ xs) more (suc n) s l e = let k = behind_at xs more n s (omega (arith, l)) e in (k.0, k.1, λ none. ap suc (k.2 none))

-- Where a body has as many instructions as it may have, it is full.
is_full : (full : Bool) (count : ℕ) → (IsFalse full → count ≡ 4096 → ⊥) → count ≡ 4096 → IsTrue full
is_full true count not_yet same = refl
is_full false count not_yet same = absurd (not_yet refl same)

-- A 4097th instruction is among those that are not read.
pub late_surplus : (full : Bool) (vs : List Token) (xs more : List Step) → length xs ≤ 4096 → (IsFalse full → length xs ≡ 4096 → ⊥) → AreBehind full vs more → IsLateSurplus vs (xs ++ more)
late_surplus full vs xs more few not_yet behind = λ s e. let k = behind_at xs more 4096 s few e in go more behind k.0 s k.1 k.2
  where
    go : (more : List Step) → AreBehind full vs more → (k : ℕ) (s : Step) → slice_get more k ≡ Some s → (k ≡ 0 → length xs ≡ 4096) → StandsAmong vs s.place
    go [] b zero s e first = absurd cc
    go [] b (suc k) s e first = absurd cc
    go (x ∷ more) b zero s e first = let same : x ≡ s = cc in subst (λ (y : Step). StandsAmong vs y.place) same (b.0 (is_full full (length xs) not_yet (first refl)))
    go (x ∷ more) b (suc k) s e first = all_at (λ (y : Step). StandsAmong vs y.place) more k s b.1 e

-- Where there are few, there is none.
few_at : (steps : List Step) (n : ℕ) (s : Step) → length steps ≤ n → slice_get steps n ≡ Some s → ⊥
few_at [] zero s few e = cc
few_at [] (suc n) s few e = cc
few_at (x ∷ steps) zero s few e = omega (arith, few)
few_at (x ∷ steps) (suc n) s few e = few_at steps n s (omega (arith, few)) e

few_late : (vs : List Token) (steps : List Step) → length steps ≤ 4096 → IsLateSurplus vs steps
few_late vs steps few = λ s e. absurd (few_at steps 4096 s few e)

pub all_late : (vs : List Token) (us : List ProgramUnit) → All (λ (u : ProgramUnit). length u.body.steps ≤ 4096) us → All (λ (u : ProgramUnit). IsLateSurplus vs u.body.steps) us
all_late vs us few = All-weaker (λ (u : ProgramUnit). length u.body.steps ≤ 4096) (λ (u : ProgramUnit). IsLateSurplus vs u.body.steps) (λ u l. few_late vs u.body.steps l) us few
