-- Bodies: what is too many follows the tokens before a fault.
use Rattle.std.proofs.Common.{◌≡◌, ◌<◌, ◌≤◌, ℕ, zero, suc, Bool, true, false, List, [], ◌∷◌, ◌++◌, length, refl, sym, ◌∙◌, ap, subst, inl, inr, arith}
use Rattle.std.specs.Prelude.{◌⊎◌, IsTrue, IsFalse}
use Rattle.std.specs.List.{All}
use Rattle.il_syntax.specs.declared.token.Token.{Token}
use Rattle.il_syntax.specs.declared.keyword.Keyword.{Keyword}
use Rattle.il_syntax.specs.declared.tree.Place.{Place}
use Rattle.il_syntax.specs.declared.tree.Named.{Named}
use Rattle.il_syntax.specs.declared.tree.Instruction.{Instruction}
use Rattle.il_syntax.specs.declared.tree.Step.{Step}
use Rattle.il_syntax.specs.declared.tree.Body.{Body}
use Rattle.il_syntax.specs.Grammar.{Front, tight, loose, skip_line_ends, ◌⋯◌, At, Repeats, TheLineEnd, SpellsInstruction, SpellsLabelled, SpellsStep, is_nested, may_stand}
use Rattle.il_syntax_laws.specs.Alike.{IsEndOf, IsLocal}
use Rattle.il_syntax_laws.specs.GoesOn.{IsCut, always}
use Rattle.il_syntax_laws.proofs.Alike.{end_self, end_length, end_of_end, alike_self, loose_gap, tight_gap, gap_length}
use Rattle.il_syntax_laws.proofs.Leads.{at_holds, line_end_sure}
use Rattle.il_syntax_laws.proofs.Combinators.{valueless}
use Rattle.il_syntax_laws.proofs.Bodies.{skip_one, step_no_end}
use Rattle.il_syntax_laws.proofs.Local.{step_local, loosely_local}
use Rattle.il_syntax_laws.proofs.Open.{tight_open, loose_open, cut_end, step_fills, line_end_fills}
use Rattle.il_syntax_laws.proofs.GoesOn.{whole_or, cut_here, IsFilling, IsOpening}
use Rattle.load_lines.specs.declared.stop.SyntaxError.{SyntaxError}
use Rattle.load_lines.specs.declared.stop.SyntaxError.TheVariants.{Unexpected}
use Rattle.load_lines.specs.declared.stop.Stop.{Stop}
use Rattle.load_lines.specs.Reads.{Stands, Misses}
use Rattle.load_lines.proofs.Chain.{as_value, regroup}
use Rattle.load_lines.proofs.Nesting.{IsOpen}
use Rattle.load_tree.specs.Refused.{StandsAmong, IsLateSurplus}
use Rattle.load_tree.specs.Bodies.{HasLabels, IsLast, SpellsBodyBy}
use Rattle.load_tree.specs.GoesOn.{Rest, SpellsFrom, AreBehind}
use Rattle.load_tree.specs.Late.{Leaves, LeavesLate, EndsNone, LeavesRest, LeavesSteps, LeavesWith}
use Rattle.load_tree.proofs.Behind.{labelled_among, steps_among, all_behind, all_at, late_surplus}
use Rattle.load_tree.proofs.Cuts.{one_within, cut_back, end_none, alike_whole, loose_past}
use Rattle.load_tree.proofs.Late.{then_so, Spreads, leaves_first, leaves_later, leaves_as}
use Rattle.load_tree.proofs.Entries.{TheEnds, step_filling, last_none, not_zero, both_left}

-- the instructions after one that doesn't end before the cut
tail_late : (text other : List ℕ) (at start us vs : List Token) (E : Front) (s : Step) (steps : List Step) (r : List Token) → IsCut text other at start us vs → ((n : List Token) → SpellsStep text s start n → IsEndOf at n → ⊥)
    → Repeats (SpellsStep other) (s ∷ steps) E us r → All (λ (s : Step). StandsAmong vs s.place) steps
tail_late text other at start us vs E s steps r c none w = go (one_within w.0 vs us ((step_fills s).opens.ends other us w.0 w.1) (cut_end other text vs us start at (cut_back text other at start us vs c)))
  where
    go : IsEndOf w.0 vs ⊎ IsEndOf vs w.0 → All (λ (s : Step). StandsAmong vs s.place) steps
    go (inl near) = steps_among other E steps vs (skip_line_ends w.0) r (end_of_end (skip_line_ends w.0) w.0 vs near (loose_gap.ends w.0)) w.2
    go (inr far) =
        let own = (step_fills s).opens.keeps other text vs us start at w.0 w.1 far (cut_back text other at start us vs c) (inr tt) in
        absurd (none own.0 own.1 (cut_end text other at own.0 w.0 vs (cut_back other text vs w.0 own.0 at own.2)))

-- after labels
pub outer_late : {text : List ℕ} {start m : List Token} {ns : List Named} {alone : Bool} {e : Stop} (last : Keyword) (load full : Bool) → HasLabels text start ns alone m → EndsNone full text m e → LeavesRest last 0 load full text start e
outer_late {text = text} {start = start} {m = m} {ns = ns} last load full labels bad = record {
  fault = λ is.
      let b = bad.fault is in
      (b.0, b.1, b.2, end_of_end b.1 m start labels.inside b.3, then_so b.0 (λ k own other us vs rest c x w. go b.1 own.0 own.1 other us vs rest c x.0 x.1 w.1) b.4);
}
  where
    none : (at : List Token) → ((i : Instruction) (r : List Token) → SpellsInstruction text i m r → IsEndOf at r → ⊥) → (s : Step) (n : List Token) → SpellsStep text s start n → IsEndOf at n → ⊥
    none at own s n w end =
        let read = labels.left text [] start (alike_self text [] start (end_none start)) (omega arith) (λ name. omega arith) in
        let at_m = read.2 s.place s.instruction s.labels n w in
        let here = subst (λ k. At s.place (SpellsInstruction text s.instruction) k n) (alike_whole text text m read.0 read.1) at_m.1 in
        own s.instruction n (at_holds text (SpellsInstruction text s.instruction) s.place m n here) end

    go : (at : List Token) → (IsTrue full → at ≡ m) → ((i : Instruction) (r : List Token) → SpellsInstruction text i m r → IsEndOf at r → ⊥) → (other : List ℕ) (us vs rest : List Token) → IsCut text other at start us vs
        → (steps : List Step) (y : List Named × Place) → Repeats (SpellsStep other) steps (TheEnds other last y) us rest → AreBehind full vs steps
    go at edge own other us vs rest c [] y w = tt
    go at edge own other us vs rest c (s ∷ steps) y w = (
      λ is. labels.past other us vs (subst (λ k. IsCut text other k start us vs) (edge is) c) s.place s.instruction s.labels w.0 w.1,
      tail_late text other at start us vs (TheEnds other last y) s steps rest c (none at own s) w,
    )

-- in parentheses are no labels
pub inner_late : {text : List ℕ} {ts : List Token} {e : Stop} (last : Keyword) (depth : ℕ) (load full : Bool) → (depth ≡ 0 → ⊥) → EndsNone full text ts e → LeavesRest last depth load full text ts e
inner_late last zero load full inside bad = absurd (inside refl)
inner_late {text = text} {ts = ts} last (suc depth) load full inside bad = record {
  fault = λ is.
      let b = bad.fault is in
      (b.0, b.1, b.2, b.3, then_so b.0 (λ k own other us vs rest c x w. go b.1 own.0 own.1 other us vs rest c x.0 x.1 w.0 w.1) b.4);
}
  where
    none : (at : List Token) → ((i : Instruction) (r : List Token) → SpellsInstruction text i ts r → IsEndOf at r → ⊥) → (ls : List Named) (p : Place) (i : Instruction)
        → IsTrue (may_stand (suc depth) load (record { labels = ls; place = p; instruction = i })) → (n : List Token) → SpellsLabelled text ls (At p (SpellsInstruction text i)) ts n → IsEndOf at n → ⊥
    none at own [] p i may n w end = own i n (at_holds text (SpellsInstruction text i) p ts n w) end
    none at own (l ∷ ls) p i may n w end = let bad : false ≡ true = sym (not_zero (length ls)) ∙ both_left _ _ (both_left _ _ may) in cc

    go : (at : List Token) → (IsTrue full → at ≡ ts) → ((i : Instruction) (r : List Token) → SpellsInstruction text i ts r → IsEndOf at r → ⊥) → (other : List ℕ) (us vs rest : List Token) → IsCut text other at ts us vs
        → (steps : List Step) (y : List Named × Place) → IsTrue (is_nested (suc depth) load steps) → Repeats (SpellsStep other) steps (TheEnds other last y) us rest → AreBehind full vs steps
    go at edge own other us vs rest c [] y nested w = tt
    go at edge own other us vs rest c (s ∷ steps) y nested w = (
      λ is. subst (λ k. StandsAmong k s.place) (cut_here text other at ts us vs c (edge is)) (labelled_among other (SpellsInstruction other s.instruction) s.place s.labels us w.0 w.1),
      tail_late text other at ts us vs (TheEnds other last y) s steps rest c (none at own s.labels s.place s.instruction (both_left _ _ nested)) w,
    )

-- WHAT A LOOP HAS READ

-- What is spelled in a text with the same tokens before a cut begins with what was read, and goes on before the cut or after it.
pub record HasCut {A : Type 0} (P : List ℕ → A → Front) (E : List ℕ → Front) (text : List ℕ) (start : List Token) (xs : List A) (ts : List Token) : Type 0 where
  pub inside : IsEndOf ts start
  pub split : (other : List ℕ) (at us vs : List Token) → IsEndOf at ts → IsCut text other at start us vs → (ys : List A) (r : List Token) → Repeats (P other) ys (E other) us r
      → (n : List Token) × (more : List A) × (IsCut text other at ts n vs ⊎ ((at ≡ ts) × IsEndOf n vs)) × (ys ≡ xs ++ more) × Repeats (P other) more (E other) n r

module _ {A : Type 0} {P : List ℕ → A → Front} {E : List ℕ → Front} {text : List ℕ} where
  pub cut_starts : (ts : List Token) → HasCut P E text ts [] ts
  cut_starts ts = record { inside = end_self ts; split = λ other at us vs e c ys r w. (us, ys, inl c, refl, w) }

  pub cut_on : {start ts m : List Token} {xs : List A} {x : A} → IsFilling tight always P → IsLocal loose P → ((other : List ℕ) (us r q : List Token) → P other x us q → E other us r → ⊥) → HasCut P E text start xs ts → P text x ts m
      → HasCut P E text start (xs ++ x ∷ []) (skip_line_ends m)
  cut_on {start = start} {ts = ts} {m = m} {xs = xs} {x = x} fill one apart so_far here =
      let to_m = end_of_end (skip_line_ends m) m ts ((fill.one x).opens.ends text ts m here) (loose_gap.ends m) in
      let short = (fill.one x).takes.less text ts m here in
      let less = gap_length loose_gap m in
      record {
        inside = end_of_end (skip_line_ends m) ts start so_far.inside to_m;
        split = λ other at us vs e c ys r w.
            let l = end_length at (skip_line_ends m) e in
            let so = so_far.split other at us vs (end_of_end at (skip_line_ends m) ts to_m e) c ys r w in
            go other at vs e (omega (arith, l, less, short)) ys r so.0 so.1 so.2 so.3 so.4;
      }
    where
      lines : (other : List ℕ) (at k vs : List Token) → IsCut text other at m k vs → ((at ≡ skip_line_ends m) ⊎ (length at < length (skip_line_ends m)))
          → IsCut text other at (skip_line_ends m) (skip_line_ends k) vs ⊎ ((at ≡ skip_line_ends m) × IsEndOf (skip_line_ends k) vs)
      lines other at k vs c (inl edge) = inr (edge, loose_past.past text other at m k vs c edge)
      lines other at k vs c (inr less) = inl (loose_open.cut text other at m k vs c less)

      next : (other : List ℕ) (at n vs k : List Token) → IsEndOf at (skip_line_ends m) → P other x n k → IsCut text other at m k vs → (ys more : List A) (r : List Token) → ys ≡ xs ++ more → Repeats (P other) more (E other) n r
          → (q : List Token) × (zs : List A) × (IsCut text other at (skip_line_ends m) q vs ⊎ ((at ≡ skip_line_ends m) × IsEndOf q vs)) × (ys ≡ (xs ++ x ∷ []) ++ zs) × Repeats (P other) zs (E other) q r
      next other at n vs k e there c ys [] r same w = absurd (apart other n r k there w)
      next other at n vs k e there c ys (y ∷ more) r same w =
          let it = (one.one other).only y x n w.0 k w.1 there in (
            skip_line_ends k,
            more,
            lines other at k vs c (whole_or at (skip_line_ends m) e),
            same ∙ ap (λ z. xs ++ z ∷ more) it.0 ∙ regroup xs x more,
            subst (λ j. Repeats (P other) more (E other) (skip_line_ends j) r) it.1 w.2,
          )

      go : (other : List ℕ) (at vs : List Token) → IsEndOf at (skip_line_ends m) → length at < length ts → (ys : List A) (r n : List Token) (more : List A) → (IsCut text other at ts n vs ⊎ ((at ≡ ts) × IsEndOf n vs)) → ys ≡ xs ++ more
          → Repeats (P other) more (E other) n r
          → (q : List Token) × (zs : List A) × (IsCut text other at (skip_line_ends m) q vs ⊎ ((at ≡ skip_line_ends m) × IsEndOf q vs)) × (ys ≡ (xs ++ x ∷ []) ++ zs) × Repeats (P other) zs (E other) q r
      go other at vs e less ys r n more (inr edge) same w = let l = ap length edge.0 in absurd (omega (arith, less, l))
      go other at vs e less ys r n more (inl c) same w =
          let k = (fill.one x).opens.keeps text other at ts n vs m here (end_of_end at (skip_line_ends m) m (loose_gap.ends m) e) c (inr tt) in
          next other at n vs k.0 e k.1 k.2 ys more r same w

-- an instruction more
pub step_cut : {text : List ℕ} {start ts : List Token} {xs : List Step} (x : Step) (m : List Token) (last : Keyword) → IsLast last → ((b : List Named × Place) → HasCut SpellsStep (λ text. TheEnds text last b) text start xs ts) → SpellsStep text x ts m
    → (b : List Named × Place) → HasCut SpellsStep (λ text. TheEnds text last b) text start (xs ++ x ∷ []) (skip_line_ends m)
step_cut x m last is so_far here b = cut_on step_filling (loosely_local step_local) (λ other us r q w v. (step_no_end other last (last_none last is)).never _ b us q r w v) (so_far b) here

-- after the instructions that a loop has read
pub steps_late : {text : List ℕ} {start ts : List Token} {xs : List Step} {most : ℕ} {e : Stop} (last : Keyword) (depth : ℕ) (load full : Bool) → length xs ≤ 4096 → (IsFalse full → length xs ≡ 4096 → ⊥) → IsOpen xs depth load most
    → ((b : List Named × Place) → HasCut SpellsStep (λ text. TheEnds text last b) text start xs ts) → LeavesRest last depth load full text ts e → LeavesSteps last text start e
steps_late {text = text} {start = start} {ts = ts} {xs = xs} last depth load full few not_full opens so_far bad = record {
  fault = λ is.
      let b = bad.fault is in (
        b.0,
        b.1,
        b.2,
        end_of_end b.1 ts start (so_far ([], record { offset = 0; line = 0 })).inside b.3,
        then_so b.0 (λ k leaves other us vs rest c x w.
            let so = (so_far x.1).split other b.1 us vs b.3 c x.0 rest w.1 in
            let nested = sym (opens.nested so.1) ∙ ap (λ ys. is_nested 0 false ys) (sym so.3) ∙ w.0 in
            let late = go other b.1 vs rest leaves so.0 so.1 x.1 so.2 nested so.4 in
            subst (λ ys. IsLateSurplus vs ys) (sym so.3) (late_surplus full vs xs so.1 few not_full late)) b.4,
      );
}
  where
    go : (other : List ℕ) (at vs rest : List Token) → Leaves (λ vs x. AreBehind full vs x.0) (λ text. SpellsFrom text last depth load) text ts at → (n : List Token) (more : List Step) (y : List Named × Place)
        → (IsCut text other at ts n vs ⊎ ((at ≡ ts) × IsEndOf n vs)) → IsTrue (is_nested depth load more) → Repeats (SpellsStep other) more (TheEnds other last y) n rest → AreBehind full vs more
    go other at vs rest leaves n more y (inl c) nested w = leaves other n vs rest c (more, y) (nested, w)
    go other at vs rest leaves n more y (inr edge) nested w = all_behind full vs more (steps_among other (TheEnds other last y) more vs n rest edge.1 w)

-- what is wholly after the cut
from_spreads : (last : Keyword) → Spreads tight (λ vs (x : Rest). IsLateSurplus vs x.0) (λ text. SpellsFrom text last 0 false)
from_spreads last = record {
  all = λ other us vs rest x w end. λ s here. all_at (λ (y : Step). StandsAmong vs y.place) x.0 4096 s (steps_among other (TheEnds other last x.1) x.0 vs us rest end w.1) here;
}

line_end_opening : IsOpening tight always (λ text (u : Unit {0}). TheLineEnd)
line_end_opening = record { one = λ u. line_end_fills.opens }

-- a body, as its parts
body_so : {text : List ℕ} {ts : List Token} {e : Stop} (last : Keyword) → LeavesLate (λ vs (x : Rest). IsLateSurplus vs x.0) (λ text x. TheLineEnd ⋯ SpellsFrom text last 0 false x) text ts e
    → LeavesWith (λ b. b) (SpellsBodyBy last Unexpected) text ts e
body_so last bad = leaves_as {Q = SpellsBodyBy last Unexpected} (λ (b : Body). (b.steps, (b.last_labels, b.end))) (λ x other us r w. (w.0, w.1, (w.2.1, w.2.0))) (λ vs x h. h) bad

-- where its first line end is missing
pub body_none : {text : List ℕ} {ts : List Token} {e : Stop} (last : Keyword) → Misses (λ text. TheLineEnd) text ts e → LeavesWith (λ b. b) (SpellsBodyBy last Unexpected) text ts e
body_none last bad = body_so last (leaves_first (λ x. tt) loose tight (λ text. SpellsFrom text last 0 false) tight_open (λ k. loose_gap.ends k) line_end_opening (from_spreads last) (as_value bad))

-- where its instructions break off
pub body_late : {text : List ℕ} {ts m : List Token} {e : Stop} (last : Keyword) → Stands TheLineEnd ts m → LeavesSteps last text (skip_line_ends m) e → LeavesWith (λ b. b) (SpellsBodyBy last Unexpected) text ts e
body_late last here bad =
    body_so last (leaves_later {P = λ text (u : Unit {0}). TheLineEnd} (λ x. tt) loose tight (λ text. SpellsFrom text last 0 false) tight_open loose_open tight_gap (λ k. loose_gap.ends k) loose_past line_end_opening
    (λ text. valueless line_end_sure) (from_spreads last) here.found bad)

-- a body that is wholly after the cut, or after line ends
pub body_spreads : (last : Keyword) → Spreads loose (λ vs (b : Body). IsLateSurplus vs b.steps) (SpellsBodyBy last Unexpected)
body_spreads last = record {
  all = λ other us vs rest b w end.
      let to = subst (λ k. IsEndOf k vs) (skip_one us w.0 w.1) end in
      λ s here. all_at (λ (y : Step). StandsAmong vs y.place) b.steps 4096 s (steps_among other (TheEnds other last (b.last_labels, b.end)) b.steps vs (skip_line_ends w.0) rest to w.2.0) here;
}
