-- What is too many follows the tokens before a fault, in every text that has these.
use Rattle.std.proofs.Common.{◌≡◌, ◌<◌, ℕ, Bool, true, false, List, length, refl, sym, ◌∙◌, subst, inl, inr, arith}
use Rattle.std.specs.Prelude.{◌⊎◌, IsTrue}
use Rattle.il_syntax.specs.declared.token.Token.{Token}
use Rattle.il_syntax.specs.declared.tree.Instruction.{Instruction}
use Rattle.il_syntax.specs.Grammar.{Front, Gap, loose, skip_line_ends, ◌⟨◌⟩◌, ◌⨾◌, SpellsInstruction}
use Rattle.il_syntax_laws.specs.One.{IsDeterministic}
use Rattle.il_syntax_laws.specs.Alike.{IsEndOf, IsGap}
use Rattle.il_syntax_laws.specs.GoesOn.{IsCut, Test}
use Rattle.il_syntax_laws.proofs.Alike.{end_self, end_length, end_of_end, alike_self}
use Rattle.il_syntax_laws.proofs.Open.{IsOpenGap, cut_end, instruction_fills}
use Rattle.il_syntax_laws.proofs.GoesOn.{whole_or, IsOpening}
use Rattle.load_lines.specs.declared.stop.SyntaxError.{SyntaxError}
use Rattle.load_lines.specs.declared.stop.SyntaxError.TheVariants.{Unexpected, TooDeep, TooMany}
use Rattle.load_lines.specs.declared.stop.Stop.{Stop}
use Rattle.load_lines.specs.declared.stop.Stop.TheVariants as stop
use Rattle.load_lines.specs.Reads.{IsFault, fault_at, Refuses, RefusesBy, GoesOnNoMore, turn, error_of, HasRoom, room_by, SpellsRoomyBy}
use Rattle.load_lines.proofs.ByError.{error_is}
use Rattle.load_tree.proofs.ByError.{any_room}
use Rattle.load_tree.proofs.Ahead.{skip_end}
use Rattle.load_tree.proofs.Cuts.{PastCut, cut_back, one_within}
use Rattle.load_tree.specs.Late.{WhereUnexpected, Leaves, LeavesLate, EndsNone}

-- WHAT ENDS NO INSTRUCTION

-- at the first token none ends
pub own_edge : {full : Bool} {text : List ℕ} {ts : List Token} {e : Stop} → e ≡ fault_at Unexpected ts → EndsNone full text ts e
own_edge {text = text} {ts = ts} here = record {
  fault = λ is. (Unexpected, ts, here, end_self ts, ((λ f. refl), λ i r w end. let less = (instruction_fills i).takes.less text ts r w in let l = end_length ts r end in absurd (omega (arith, less, l))));
}

-- where the body is full
pub own_full : {full : Bool} {text : List ℕ} {ts : List Token} {e : Stop} {A B : Type 0} → ((e ≡ fault_at TooMany ts) × A) ⊎ ((e ≡ fault_at Unexpected ts) × B) → EndsNone full text ts e
own_full {ts = ts} (inl here) = record { fault = λ is. (TooMany, ts, here.0, end_self ts, tt) }
own_full (inr here) = own_edge here.0

-- where none is read
pub own_inside : (room : Bool) {full : Bool} {text : List ℕ} {ts : List Token} {e : Stop} → full ≡ false → RefusesBy (SpellsRoomyBy room) text ts e → EndsNone full text ts e
own_inside room {full = full} {text = text} {ts = ts} {e = e} open_ bad = record { fault = λ is. let b = bad.fault is in (b.0, b.1, b.2, b.3, go b.0 b.1 b.2 b.4) }
  where
    go : (error : SyntaxError) (at : List Token) → e ≡ fault_at error at → GoesOnNoMore (SpellsRoomyBy room (error_of e)) text ts (turn error text at)
        → WhereUnexpected error ((IsTrue full → at ≡ ts) × ((i : Instruction) (r : List Token) → SpellsInstruction text i ts r → IsEndOf at r → ⊥))
    go Unexpected at here gone = (
      (λ is. let bad : true ≡ false = sym is ∙ open_ in absurd cc),
      λ i r w end. gone.never text ts (alike_self text at ts gone.inside) i r (subst (λ (x : SyntaxError). HasRoom (room_by x room) i) (sym (error_is Unexpected at e here)) (any_room i), w),
    )
    go TooDeep at here gone = tt
    go TooMany at here gone = tt

-- PARTS, ONE BEHIND ANOTHER

-- want of memory says nothing
pub late_memory : {A : Type 0} {C : List Token → A → Type 0} {P : List ℕ → A → Front} {text : List ℕ} {ts : List Token} {e : Stop} → e ≡ stop.Memory → LeavesLate C P text ts e
late_memory same = record { fault = λ f. absurd (subst IsFault same f) }

-- What is wholly after the cut is late.
pub record Spreads {B : Type 0} (gap : Gap) (C : List Token → B → Type 0) (Q : List ℕ → B → Front) : Type 0 where
  pub all : (other : List ℕ) (us vs rest : List Token) (x : B) → Q other x us rest → IsEndOf (gap us) vs → C vs x

-- what is said of an unexpected token alone, and follows
pub then_so : {P Q : Type 0} (error : SyntaxError) → (error ≡ Unexpected → P → Q) → WhereUnexpected error P → WhereUnexpected error Q
then_so Unexpected f w = f refl w
then_so TooDeep f w = tt
then_so TooMany f w = tt

-- what holds whatever the fault is
pub always_so : {P : Type 0} (error : SyntaxError) → P → WhereUnexpected error P
always_so Unexpected w = w
always_so TooDeep w = tt
always_so TooMany w = tt

module _ {A B : Type 0} {P : List ℕ → A → Front} {C : List Token → B → Type 0} {text : List ℕ} {ts : List Token} {e : Stop} {first : Test} {look : Gap} where
  -- a part isn't there
  pub leaves_first : (f : B → A) (gap behind : Gap) (Q : List ℕ → B → Front) → IsOpenGap look → ((k : List Token) → IsEndOf (behind (gap k)) (look k)) → IsOpening look first P → Spreads behind C Q → Refuses P text ts e
      → LeavesLate C (λ text b. P text (f b) ⟨ gap ⟩ Q text b) text ts e
  leaves_first f gap behind Q open_ far one spreads bad = record { fault = λ is. let b = bad.fault is in (b.0, b.1, b.2, b.3, go b.0 b.1 b.4) }
    where
      go : (error : SyntaxError) (at : List Token) → GoesOnNoMore P text ts (turn error text at) → WhereUnexpected error (Leaves C (λ text b. P text (f b) ⟨ gap ⟩ Q text b) text ts at)
      go TooDeep at gone = tt
      go TooMany at gone = tt
      go Unexpected at gone = λ other us vs rest c b w.
          let to = (one.one (f b)).ends other us w.0 w.1 in
          let cut = cut_back text other at ts us vs c in
          let compared = one_within (look w.0) vs us (end_of_end (look w.0) w.0 us to (open_.is.ends w.0)) (cut_end other text vs us ts at cut) in
          behind_it other us vs rest c b w compared
        where
          behind_it : (other : List ℕ) (us vs rest : List Token) → IsCut text other at ts us vs → (b : B) → (w : (P other (f b) ⟨ gap ⟩ Q other b) us rest) → IsEndOf (look w.0) vs ⊎ IsEndOf vs (look w.0) → C vs b
          behind_it other us vs rest c b w (inl end) = spreads.all other (gap w.0) vs rest b w.2 (end_of_end (behind (gap w.0)) (look w.0) vs end (far w.0))
          behind_it other us vs rest c b w (inr end) = shorter (whole_or vs (look w.0) end)
            where
              shorter : ((vs ≡ look w.0) ⊎ (length vs < length (look w.0))) → C vs b
              shorter (inl same) = spreads.all other (gap w.0) vs rest b w.2 (subst (λ x. IsEndOf (behind (gap w.0)) x) (sym same) (far w.0))
              shorter (inr less) =
                  let back = (one.one (f b)).keeps other text vs us ts at w.0 w.1 (end_of_end vs (look w.0) w.0 (open_.is.ends w.0) end) (cut_back text other at ts us vs c) (inl less) in
                  absurd (gone.never text ts (alike_self text at ts gone.inside) (f b) back.0 back.1)

  -- a part is there, and what has to follow breaks off
  pub leaves_later : {m : List Token} {x : A} (f : B → A) (gap behind : Gap) (Q : List ℕ → B → Front) → IsOpenGap look → IsOpenGap gap → IsGap behind → ((k : List Token) → IsEndOf (behind (gap k)) (look k)) → PastCut gap → IsOpening look first P
      → ((text : List ℕ) → IsDeterministic (P text)) → Spreads behind C Q → P text x ts m → LeavesLate C Q text (gap m) e → LeavesLate C (λ text b. P text (f b) ⟨ gap ⟩ Q text b) text ts e
  leaves_later {m = m} {x = x} f gap behind Q open_ open_gap is_gap far passes one sure spreads here bad = record {
    fault = λ is.
        let b = bad.fault is in
        let end = end_of_end b.1 (gap m) m (open_gap.is.ends m) b.3 in
        (b.0, b.1, b.2, end_of_end b.1 m ts ((one.one x).ends text ts m here) end, then_so b.0 (λ k leaves other us vs rest c y w. go b.1 b.3 end leaves other us vs rest c y w) b.4);
  }
    where
      go : (at : List Token) → IsEndOf at (gap m) → IsEndOf at m → Leaves C Q text (gap m) at → (other : List ℕ) (us vs rest : List Token) → IsCut text other at ts us vs → (y : B) → (P other (f y) ⟨ gap ⟩ Q other y) us rest → C vs y
      go at inside end leaves other us vs rest c y w =
          compared (one_within (look w.0) vs us (end_of_end (look w.0) w.0 us ((one.one (f y)).ends other us w.0 w.1) (open_.is.ends w.0)) (cut_end other text vs us ts at (cut_back text other at ts us vs c)))
        where
          on : IsCut text other at m w.0 vs → ((at ≡ gap m) ⊎ (length at < length (gap m))) → C vs y
          on k (inl edge) = spreads.all other (gap w.0) vs rest y w.2 (end_of_end (behind (gap w.0)) (gap w.0) vs (passes.past text other at m w.0 vs k edge) (is_gap.ends (gap w.0)))
          on k (inr less) = leaves other (gap w.0) vs rest (open_gap.cut text other at m w.0 vs k less) y w.2

          shorter : IsEndOf vs (look w.0) → ((vs ≡ look w.0) ⊎ (length vs < length (look w.0))) → C vs y
          shorter back (inl same) = spreads.all other (gap w.0) vs rest y w.2 (subst (λ k. IsEndOf (behind (gap w.0)) k) (sym same) (far w.0))
          shorter back (inr less) =
              let own = (one.one (f y)).keeps other text vs us ts at w.0 w.1 (end_of_end vs (look w.0) w.0 (open_.is.ends w.0) back) (cut_back text other at ts us vs c) (inl less) in
              let same = ((sure text).only (f y) x ts own.0 m own.1 here).1 in
              on (cut_back other text vs w.0 m at (subst (λ k. IsCut other text vs w.0 k at) same own.2)) (whole_or at (gap m) inside)

          compared : IsEndOf (look w.0) vs ⊎ IsEndOf vs (look w.0) → C vs y
          compared (inl near) = spreads.all other (gap w.0) vs rest y w.2 (end_of_end (behind (gap w.0)) (look w.0) vs near (far w.0))
          compared (inr back) = shorter back (whole_or vs (look w.0) back)

-- what is spelled so is spelled so
pub leaves_as : {A B : Type 0} {P : List ℕ → A → Front} {Q : List ℕ → B → Front} {C : List Token → A → Type 0} {D : List Token → B → Type 0} {text : List ℕ} {ts : List Token} {e : Stop} (h : B → A)
    → ((x : B) (other : List ℕ) (us r : List Token) → Q other x us r → P other (h x) us r) → ((vs : List Token) (x : B) → C vs (h x) → D vs x) → LeavesLate C P text ts e → LeavesLate D Q text ts e
leaves_as h f g bad = record {
  fault = λ is. let b = bad.fault is in (b.0, b.1, b.2, b.3, then_so b.0 (λ k leaves other us vs rest c x w. g vs x (leaves other us vs rest c (h x) (f x other us rest w))) b.4);
}

-- the first part breaks off
pub leaves_in : {A B : Type 0} {P : List ℕ → A → Front} {C : List Token → A → Type 0} {text : List ℕ} {ts : List Token} {e : Stop} (f : B → A) (gap : Gap) (Q : List ℕ → B → Front) → LeavesLate C P text ts e
    → LeavesLate (λ vs b. C vs (f b)) (λ text b. P text (f b) ⟨ gap ⟩ Q text b) text ts e
leaves_in f gap Q bad = record {
  fault = λ is. let b = bad.fault is in (b.0, b.1, b.2, b.3, then_so b.0 (λ k leaves other us vs rest c x w. leaves other us vs w.0 c (f x) w.1) b.4);
}

-- after a part that is an end, what spreads does
pub spreads_on : {A B : Type 0} {P : List ℕ → A → Front} {C : List Token → B → Type 0} {look : Gap} {first : Test} (f : B → A) (Q : List ℕ → B → Front) → IsOpening look first P → Spreads loose C Q
    → Spreads loose C (λ text b. P text (f b) ⨾ Q text b)
spreads_on f Q one q = record {
  all = λ other us vs rest x w end. q.all other w.0 vs rest x w.2 (end_of_end (skip_line_ends w.0) (skip_line_ends us) vs end (skip_end w.0 us ((one.one (f x)).ends other us w.0 w.1)));
}

-- a part of the value
pub leaves_part : {A B : Type 0} {P : List ℕ → A → Front} {C : List Token → A → Type 0} {text : List ℕ} {ts : List Token} {e : Stop} (f : B → A) → LeavesLate C P text ts e → LeavesLate (λ vs b. C vs (f b)) (λ text b. P text (f b)) text ts e
leaves_part f bad = record {
  fault = λ is. let b = bad.fault is in (b.0, b.1, b.2, b.3, then_so b.0 (λ k leaves other us vs rest c x w. leaves other us vs rest c (f x) w) b.4);
}

pub spreads_part : {A B : Type 0} {P : List ℕ → A → Front} {C : List Token → A → Type 0} {gap : Gap} (f : B → A) → Spreads gap C P → Spreads gap (λ vs b. C vs (f b)) (λ text b. P text (f b))
spreads_part f p = record { all = λ other us vs rest x w end. p.all other us vs rest (f x) w end }
