-- Labels, as a loop reads them.
use Rattle.std.proofs.Common.{◌⊎◌, inl, inr, ◌≡◌, ℕ, ◌<◌, ◌≤◌, drop, true, false, List, [], ◌∷◌, ◌++◌, length, append-nil, refl, sym, ◌∙◌, ap, subst, arith}
use Rattle.il_syntax.specs.declared.token.Token.{Token}
use Rattle.il_syntax.specs.declared.keyword.Keyword.{Keyword}
use Rattle.il_syntax.specs.declared.tree.Place.{Place}
use Rattle.il_syntax.specs.declared.tree.Named.{Named}
use Rattle.il_syntax.specs.declared.tree.Instruction.{Instruction}
use Rattle.il_syntax.specs.Grammar.{Front, One, At, TheSign, skip_line_ends, Repeats, TheWord, TheLineEnd, AName, SpellsInstruction, SpellsLabel, SpellsLabelled, SpellsLabelLine}
use Rattle.il_syntax_laws.proofs.Leads.{at_holds, line_end_sure}
use Rattle.il_syntax_laws.proofs.Instructions.{instruction_no_label}
use Rattle.il_syntax_laws.proofs.Bodies.{skip_one, label_one}
use Rattle.il_syntax.specs.declared.token.Sign.TheVariants.{Colon}
use Rattle.il_syntax.specs.Text.{name_of}
use Rattle.il_syntax_laws.specs.Alike.{IsEndOf, AreAlike}
use Rattle.il_syntax_laws.specs.GoesOn.{IsCut}
use Rattle.il_syntax_laws.proofs.Alike.{end_self, end_length, end_of_end, loose_gap, gap_length}
use Rattle.il_syntax_laws.proofs.Open.{label_fills, line_end_fills, loose_open, skip_still}
use Rattle.il_syntax_laws.proofs.Local.{label_local, line_end_local, line_end_told}
use Rattle.load_lines.specs.Lead.{lead_at}
use Rattle.load_lines.specs.declared.lead.Lead.TheVariants as lead
use Rattle.load_lines.proofs.Instructions.{behind_one, next_gap}
use Rattle.load_lines.proofs.Leaves.{word_lead, sign_lead, sign_there, lead_alike}
use Rattle.load_lines.proofs.Settings.{label_lead, label_there}
use Rattle.load_lines.proofs.Chain.{regroup}
use Rattle.il_syntax_laws.proofs.GoesOn.{whole_or, cut_here}
use Rattle.load_tree.specs.Refused.{StandsAmong}
use Rattle.load_tree.specs.Bodies.{HasLabels}
use Rattle.load_tree.proofs.Behind.{among_end, at_among, labelled_among}
use Rattle.load_tree.proofs.Cuts.{loose_past}

-- one token fewer is left
pub fewer : (P : Token → Type 0) (ts r : List Token) → One P ts r → length r < length ts
fewer P [] r w = absurd w
fewer P (t ∷ ts) r w = let e = ap length w.1 in omega arith

module _ (text : List ℕ) where
  -- what follows labels
  abbrev pub ThePlaced : Place → Instruction → Front
  ThePlaced p i = At p (SpellsInstruction text i)

  abbrev pub TheLast : Keyword → Place → Front
  TheLast k p = At p (TheWord text k)

  -- a label leaves fewer tokens
  pub label_fewer : (n : Named) (ts r : List Token) → SpellsLabel text n ts r → length r < length ts
  label_fewer n ts r w = let a = fewer _ ts w.0 (at_holds text (AName text n.name) n.place ts w.0 w.1) in let b = fewer _ w.0 r w.2 in omega arith

  no_placed : (n : Named) (p : Place) (i : Instruction) (ts r m : List Token) → SpellsLabel text n ts m → ThePlaced p i ts r → ⊥
  no_placed n p i ts r m l w = instruction_no_label text i n ts r m (at_holds text (SpellsInstruction text i) p ts r w) l

  no_last : (n : Named) (k : Keyword) (p : Place) (ts r m : List Token) → SpellsLabel text n ts m → TheLast k p ts r → ⊥
  no_last n k p ts r m l w = let a = label_lead text n ts m l in let b = word_lead text k ts r (at_holds text (TheWord text k) p ts r w) in cc

  -- one label on its line, and what follows
  name_first : (n : Named) (ts m l : List Token) → SpellsLabel text n ts m → TheLineEnd m l → (p : Place) (i : Instruction) (more : List Named) (r : List Token)
      → SpellsLabelled text more (ThePlaced p i) (skip_line_ends l) r → SpellsLabelled text (n ∷ more) (ThePlaced p i) ts r
  name_first n ts m l label line p i [] r w = (m, label, subst (λ (k : List Token). ThePlaced p i k r) (sym (skip_one m l line)) w)
  name_first n ts m l label line p i (y ∷ ys) r w = (m, label, (l, line, w))

  first_of : (n : Named) (ts m l : List Token) → SpellsLabel text n ts m → TheLineEnd m l → (p : Place) (i : Instruction) (ys : List Named) (r : List Token)
      → SpellsLabelled text ys (ThePlaced p i) ts r → (more : List Named) × (ys ≡ n ∷ more) × SpellsLabelled text more (ThePlaced p i) (skip_line_ends l) r
  first_of n ts m l label line p i [] r w = absurd (no_placed n p i ts r m label w)
  first_of n ts m l label line p i (y ∷ []) r w =
      let same = (label_one text).only y n ts w.0 m w.1 label in
      ([], ap (λ z. z ∷ []) same.0, subst (λ (k : List Token). ThePlaced p i k r) (ap skip_line_ends same.1 ∙ skip_one m l line) w.2)
  first_of n ts m l label line p i (y ∷ z ∷ zs) r w =
      let same = (label_one text).only y n ts w.0 m w.1 label in
      let ended = line_end_sure.only m w.2.0 l (subst (λ (k : List Token). TheLineEnd k w.2.0) same.1 w.2.1) line in
      (z ∷ zs, ap (λ x. x ∷ z ∷ zs) same.0, subst (λ (k : List Token). SpellsLabelled text (z ∷ zs) (ThePlaced p i) (skip_line_ends k) r) ended w.2.2)

  last_of : (n : Named) (ts m l : List Token) → SpellsLabel text n ts m → TheLineEnd m l → (k : Keyword) (p : Place) (ys : List Named) (r : List Token)
      → Repeats (SpellsLabelLine text) ys (TheLast k p) ts r → (more : List Named) × (ys ≡ n ∷ more) × Repeats (SpellsLabelLine text) more (TheLast k p) (skip_line_ends l) r
  last_of n ts m l label line k p [] r w = absurd (no_last n k p ts r m label w)
  last_of n ts m l label line k p (y ∷ ys) r w =
      let same = (label_one text).only y n ts w.1.0 m w.1.1 label in
      let ended = line_end_sure.only m w.0 l (subst (λ (x : List Token). TheLineEnd x w.0) same.1 w.1.2) line in
      (ys, ap (λ x. x ∷ ys) same.0, subst (λ (x : List Token). Repeats (SpellsLabelLine text) ys (TheLast k p) (skip_line_ends x) r) ended w.2)

-- What labels were read, each on a line of its own.
pub record Behind (text : List ℕ) (start : List Token) (ns : List Named) (ts : List Token) : Type 0 where
  inside : IsEndOf ts start
  names : (p : Place) (i : Instruction) (more : List Named) (r : List Token) → SpellsLabelled text more (ThePlaced text p i) ts r → SpellsLabelled text (ns ++ more) (ThePlaced text p i) start r
  ends : (k : Keyword) (p : Place) (more : List Named) (r : List Token) → Repeats (SpellsLabelLine text) more (TheLast text k p) ts r → Repeats (SpellsLabelLine text) (ns ++ more) (TheLast text k p) start r
  left : (other : List ℕ) (back us : List Token) → AreAlike text other back start us → length back ≤ length ts
      → (vs : List Token) × AreAlike text other back ts vs
      × ((p : Place) (i : Instruction) (ys : List Named) (r : List Token) → SpellsLabelled other ys (ThePlaced other p i) us r → (more : List Named) × (ys ≡ ns ++ more) × SpellsLabelled other more (ThePlaced other p i) vs r)
      × ((k : Keyword) (p : Place) (ys : List Named) (r : List Token) → Repeats (SpellsLabelLine other) ys (TheLast other k p) us r → (more : List Named) × (ys ≡ ns ++ more) × Repeats (SpellsLabelLine other) more (TheLast other k p) vs r)
  gone : (other : List ℕ) (at us vs : List Token) → IsEndOf at ts → IsCut text other at start us vs → ((length at < length ts) ⊎ (skip_line_ends vs ≡ vs))
      → (n : List Token) × IsCut text other at ts n vs
      × ((p : Place) (i : Instruction) (more : List Named) (r : List Token) → SpellsLabelled other more (ThePlaced other p i) n r → SpellsLabelled other (ns ++ more) (ThePlaced other p i) us r)
  past : (other : List ℕ) (at us vs : List Token) → IsEndOf at ts → IsCut text other at start us vs → (p : Place) (i : Instruction) (ys : List Named) (r : List Token) → SpellsLabelled other ys (ThePlaced other p i) us r
      → (n : List Token) × (more : List Named) × (IsCut text other at ts n vs ⊎ IsEndOf n vs) × SpellsLabelled other more (ThePlaced other p i) n r

-- after a gap of line ends
gap_cut : (text other : List ℕ) (at m n vs : List Token) → IsCut text other at m n vs → IsEndOf at (skip_line_ends m) → ((length at < length (skip_line_ends m)) ⊎ (skip_line_ends vs ≡ vs))
    → IsCut text other at (skip_line_ends m) (skip_line_ends n) vs
gap_cut text other at m n vs c e (inl l) = loose_open.cut text other at m n vs c l
gap_cut text other at m n vs c e (inr s) = skip_still text other at m n vs c e s

module _ (text : List ℕ) where
  -- no label is read yet
  pub none_behind : (ts : List Token) → Behind text ts [] ts
  none_behind ts = record {
    inside = end_self ts;
    names = λ p i more r w. w;
    ends = λ k p more r w. w;
    left = λ other back us a l. (us, a, λ p i ys r w. (ys, refl, w), λ k p ys r w. (ys, refl, w));
    gone = λ other at us vs e c d. (us, c, λ p i more r w. w);
    past = λ other at us vs e c p i ys r w. (us, ys, inl c, w);
  }

  -- one more, on its line
  pub one_behind : (start : List Token) (ns : List Named) (ts m l : List Token) (n : Named) → SpellsLabel text n ts m → TheLineEnd m l → Behind text start ns ts → Behind text start (ns ++ n ∷ []) (skip_line_ends l)
  one_behind start ns ts m l n label line so_far =
      let e1 = (label_local.carries n).ends text ts m label in
      let e2 = line_end_local.carries.ends text m l line in
      let e3 = loose_gap.ends l in
      let within = end_of_end (skip_line_ends l) m ts e1 (end_of_end (skip_line_ends l) l m e2 e3) in
      record {
        inside = end_of_end (skip_line_ends l) ts start so_far.inside within;
        names = λ p i more r w. subst (λ (zs : List Named). SpellsLabelled text zs (ThePlaced text p i) start r) (regroup ns n more) (so_far.names p i (n ∷ more) r (name_first text n ts m l label line p i more r w));
        ends = λ k p more r w. subst (λ (zs : List Named). Repeats (SpellsLabelLine text) zs (TheLast text k p) start r) (regroup ns n more) (so_far.ends k p (n ∷ more) r (l, (m, label, line), w));
        gone = λ other at us vs e c d.
            let l0 = end_length at (skip_line_ends l) e in
            let l1 = gap_length loose_gap l in
            let l2 = line_end_fills.takes.less text m l line in
            let l3 = (label_fills n).takes.less text ts m label in
            let at_l = end_of_end at (skip_line_ends l) l e3 e in
            let at_m = end_of_end at l m e2 at_l in
            let so = so_far.gone other at us vs (end_of_end at m ts e1 at_m) c (inl (omega (arith, l0, l1, l2, l3))) in
            let p = (label_fills n).opens.keeps text other at ts so.0 vs m label at_m so.1 (inr tt) in
            let q = line_end_fills.opens.keeps text other at m p.0 vs l line at_l p.2 (inr tt) in (
              skip_line_ends q.0,
              gap_cut text other at l q.0 vs q.2 e d,
              λ place i more r w.
                  subst (λ (zs : List Named). SpellsLabelled other zs (ThePlaced other place i) us r) (regroup ns n more) (so.2 place i (n ∷ more) r (name_first other n so.0 p.0 q.0 p.1 q.1 place i more r w)),
            );
        past = λ other at us vs e c p i ys r w.
            let at_l = end_of_end at (skip_line_ends l) l e3 e in
            let at_m = end_of_end at l m e2 at_l in
            let so = so_far.past other at us vs (end_of_end at m ts e1 at_m) c p i ys r w in
            go other at vs e at_l at_m p i r so.0 so.1 so.3 so.2;
        left = λ other back us a z.
            let l1 = end_length (skip_line_ends l) l e3 in
            let l2 = end_length l m e2 in
            let l3 = end_length m ts e1 in
            let so = so_far.left other back us a (omega (arith, z, l1, l2, l3)) in
            let d = (label_local.carries n).over text other back ts so.0 m so.1 label (omega (arith, z, l1, l2)) in
            let f = line_end_local.carries.over text other back m d.0 l d.2 line (omega (arith, z, l1)) in (
              skip_line_ends f.0,
              loose_gap.alike text other back l f.0 f.2 z,
              λ p i ys r w.
                  let x = so.2 p i ys r w in
                  let b = first_of other n so.0 d.0 f.0 d.1 f.1 p i x.0 r x.2 in
                  (b.0, x.1 ∙ ap (λ zs. ns ++ zs) b.1 ∙ regroup ns n b.0, b.2),
              λ k p ys r w.
                  let x = so.3 k p ys r w in
                  let b = last_of other n so.0 d.0 f.0 d.1 f.1 k p x.0 r x.2 in
                  (b.0, x.1 ∙ ap (λ zs. ns ++ zs) b.1 ∙ regroup ns n b.0, b.2),
            );
      }
    where
      go : (other : List ℕ) (at vs : List Token) → IsEndOf at (skip_line_ends l) → IsEndOf at l → IsEndOf at m → (p : Place) (i : Instruction) (r k : List Token) (ys : List Named) → SpellsLabelled other ys (ThePlaced other p i) k r
          → IsCut text other at ts k vs ⊎ IsEndOf k vs → (n : List Token) × (more : List Named) × (IsCut text other at (skip_line_ends l) n vs ⊎ IsEndOf n vs) × SpellsLabelled other more (ThePlaced other p i) n r
      go other at vs e at_l at_m p i r k ys w (inr end) = (k, ys, inr end, w)
      go other at vs e at_l at_m p i r k ys w (inl c) =
          let d = (label_fills n).opens.keeps text other at ts k vs m label at_m c (inr tt) in
          let f = line_end_fills.opens.keeps text other at m d.0 vs l line at_l d.2 (inr tt) in
          let b = first_of other n k d.0 f.0 d.1 f.1 p i ys r w in
          (skip_line_ends f.0, b.0, behind_lines other at f.0 vs f.2 (whole_or at (skip_line_ends l) e), b.2)
        where
          behind_lines : (other : List ℕ) (at q vs : List Token) → IsCut text other at l q vs → ((at ≡ skip_line_ends l) ⊎ (length at < length (skip_line_ends l))) → IsCut text other at (skip_line_ends l) (skip_line_ends q) vs ⊎ IsEndOf (skip_line_ends q) vs
          behind_lines other at q vs c (inl edge) = inr (loose_past.past text other at l q vs c edge)
          behind_lines other at q vs c (inr less) = inl (loose_open.cut text other at l q vs c less)

  -- where no label is, none is in alike tokens, as the token after a name tells
  label_still : (other : List ℕ) (back ts vs : List Token) → AreAlike text other back ts vs → (lead_at text ts ≡ lead.Name → length back ≤ length (drop 1 ts))
      → ((n : Named) (r : List Token) → SpellsLabel text n ts r → ⊥) → (n : Named) (r : List Token) → SpellsLabel other n vs r → ⊥
  unfolding lead_at
  label_still other back [] vs a named out n r w =
      let l = lead_alike text other back [] vs a in
      let b = label_lead other n vs r w in
      none_there (sym b ∙ l)
    where
      none_there : lead.Name ≡ lead_at text [] → ⊥
      none_there e = cc
  label_still other back (t ∷ ts) vs a named out n r w =
      let name = sym (lead_alike text other back (t ∷ ts) vs a) ∙ label_lead other n vs r w in
      let b = next_gap.alike text other back (t ∷ ts) vs a (named name) in
      let colon : TheSign Colon (drop 1 vs) r = subst (λ (x : List Token). TheSign Colon x r) (behind_one _ vs w.0 (at_holds other (AName other n.name) n.place vs w.0 w.1)) w.2 in
      let there = sign_there text Colon ts (sym (lead_alike text other back ts (drop 1 vs) b) ∙ sign_lead other Colon (drop 1 vs) r colon) in
      let place : Place = record { offset = t.start; line = t.line } in
      let it : Named = record { place = place; name = name_of text t } in
      out it (drop 1 ts) (label_there text t (t ∷ ts) ts (drop 1 ts) it refl name refl refl refl there)

  -- no label more: the last is alone on its line
  pub alone_behind : (start : List Token) (ns : List Named) (ts : List Token) → ((n : Named) (r : List Token) → SpellsLabel text n ts r → ⊥) → Behind text start ns ts → HasLabels text start ns true ts
  alone_behind start ns ts out so_far = record {
    inside = so_far.inside;
    names = λ p i r w. subst (λ (zs : List Named). SpellsLabelled text zs (ThePlaced text p i) start r) (append-nil ns) (so_far.names p i [] r w);
    ends = λ is k p r w. subst (λ (zs : List Named). Repeats (SpellsLabelLine text) zs (TheLast text k p) start r) (append-nil ns) (so_far.ends k p [] r w);
    gone = λ other at us vs e c d.
        let so = so_far.gone other at us vs e c d in
        (so.0, so.1, λ p i r w. subst (λ (zs : List Named). SpellsLabelled other zs (ThePlaced other p i) us r) (append-nil ns) (so.2 p i [] r w));
    past = λ other us vs c p i ys r w.
        let so = so_far.past other ts us vs (end_self ts) c p i ys r w in
        among other vs p i r so.0 so.1 so.3 so.2;
    left = λ other back us a z named.
        let so = so_far.left other back us a z in
        let none = label_still other back ts so.0 so.1 named out in (
          so.0,
          so.1,
          λ p i ys r w. let x = so.2 p i ys r w in let b = placed other so.0 none p i x.0 r x.2 in (x.1 ∙ ap (λ zs. ns ++ zs) b.0 ∙ append-nil ns, b.1),
          λ k p ys r w. let x = so.3 k p ys r w in let b = last other so.0 none k p x.0 r x.2 in (x.1 ∙ ap (λ zs. ns ++ zs) b.0 ∙ append-nil ns, b.1, refl),
        );
  }
    where
      among : (other : List ℕ) (vs : List Token) (p : Place) (i : Instruction) (r k : List Token) (ys : List Named) → SpellsLabelled other ys (ThePlaced other p i) k r → IsCut text other ts ts k vs ⊎ IsEndOf k vs → StandsAmong vs p
      among other vs p i r k ys w (inl c) = subst (λ x. StandsAmong x p) (cut_here text other ts ts k vs c refl) (labelled_among other (SpellsInstruction other i) p ys k r w)
      among other vs p i r k ys w (inr end) = among_end k vs p end (labelled_among other (SpellsInstruction other i) p ys k r w)

      placed : (other : List ℕ) (vs : List Token) → ((n : Named) (r : List Token) → SpellsLabel other n vs r → ⊥) → (p : Place) (i : Instruction) (more : List Named) (r : List Token)
          → SpellsLabelled other more (ThePlaced other p i) vs r → (more ≡ []) × ThePlaced other p i vs r
      placed other vs none p i [] r w = (refl, w)
      placed other vs none p i (y ∷ []) r w = absurd (none y w.0 w.1)
      placed other vs none p i (y ∷ z ∷ zs) r w = absurd (none y w.0 w.1)

      last : (other : List ℕ) (vs : List Token) → ((n : Named) (r : List Token) → SpellsLabel other n vs r → ⊥) → (k : Keyword) (p : Place) (more : List Named) (r : List Token)
          → Repeats (SpellsLabelLine other) more (TheLast other k p) vs r → (more ≡ []) × TheLast other k p vs r
      last other vs none k p [] r w = (refl, w)
      last other vs none k p (y ∷ ys) r w = absurd (none y w.1.0 w.1.1)

  -- one more, after which its line goes on
  pub beside : (start : List Token) (ns : List Named) (ts m : List Token) (n : Named) → SpellsLabel text n ts m → ((l : List Token) → TheLineEnd m l → ⊥) → Behind text start ns ts
      → HasLabels text start (ns ++ n ∷ []) false (skip_line_ends m)
  beside start ns ts m n label out so_far =
      let e1 = (label_local.carries n).ends text ts m label in
      let e2 = loose_gap.ends m in
      record {
        inside = end_of_end (skip_line_ends m) ts start so_far.inside (end_of_end (skip_line_ends m) m ts e1 e2);
        names = λ p i r w. so_far.names p i (n ∷ []) r (m, label, w);
        ends = λ is. absurd cc;
        gone = λ other at us vs e c d.
            let l0 = end_length at (skip_line_ends m) e in
            let l1 = gap_length loose_gap m in
            let l3 = (label_fills n).takes.less text ts m label in
            let at_m = end_of_end at (skip_line_ends m) m e2 e in
            let so = so_far.gone other at us vs (end_of_end at m ts e1 at_m) c (inl (omega (arith, l0, l1, l3))) in
            let p = (label_fills n).opens.keeps text other at ts so.0 vs m label at_m so.1 (inr tt) in
            (skip_line_ends p.0, gap_cut text other at m p.0 vs p.2 e d, λ place i r w. so.2 place i (n ∷ []) r (p.0, p.1, w));
        past = λ other us vs c p i ys r w.
            let so = so_far.past other (skip_line_ends m) us vs (end_of_end (skip_line_ends m) m ts e1 e2) c p i ys r w in
            among other vs p i r so.0 so.1 so.3 so.2;
        left = λ other back us a z named.
            let l1 = end_length (skip_line_ends m) m e2 in
            let l2 = end_length m ts e1 in
            let so = so_far.left other back us a (omega (arith, z, l1, l2)) in
            let d = (label_local.carries n).over text other back ts so.0 m so.1 label (omega (arith, z, l1)) in
            let none : (l : List Token) → TheLineEnd d.0 l → ⊥ = λ l w. line_end_told.still text other back m d.0 d.2 out l w in (
              skip_line_ends d.0,
              loose_gap.alike text other back m d.0 d.2 z,
              λ p i ys r w. let x = so.2 p i ys r w in let b = placed other so.0 d.0 d.1 none p i x.0 r x.2 in (x.1 ∙ ap (λ zs. ns ++ zs) b.0, b.1),
              λ k p ys r w. let x = so.3 k p ys r w in absurd (last other so.0 d.0 d.1 none k p x.0 r x.2),
            );
      }
    where
      -- after the label, on its line or on others
      behind_label : (other : List ℕ) (k d : List Token) → SpellsLabel other n k d → (p : Place) (i : Instruction) (ys : List Named) (r : List Token) → SpellsLabelled other ys (ThePlaced other p i) k r → StandsAmong (skip_line_ends d) p
      behind_label other k d here p i [] r w = absurd (no_placed other n p i k r d here w)
      behind_label other k d here p i (y ∷ []) r w =
          let same = (label_one other).only y n k w.0 d w.1 here in
          at_among (SpellsInstruction other i) p (skip_line_ends d) r (subst (λ (j : List Token). ThePlaced other p i (skip_line_ends j) r) same.1 w.2)
      behind_label other k d here p i (y ∷ z ∷ zs) r w =
          let same = (label_one other).only y n k w.0 d w.1 here in
          subst (λ (j : List Token). StandsAmong (skip_line_ends j) p) same.1
          (subst (λ (j : List Token). StandsAmong j p) (sym (skip_one w.0 w.2.0 w.2.1)) (labelled_among other (SpellsInstruction other i) p (z ∷ zs) (skip_line_ends w.2.0) r w.2.2))

      among : (other : List ℕ) (vs : List Token) (p : Place) (i : Instruction) (r k : List Token) (ys : List Named) → SpellsLabelled other ys (ThePlaced other p i) k r → IsCut text other (skip_line_ends m) ts k vs ⊎ IsEndOf k vs → StandsAmong vs p
      among other vs p i r k ys w (inr end) = among_end k vs p end (labelled_among other (SpellsInstruction other i) p ys k r w)
      among other vs p i r k ys w (inl c) =
          let d = (label_fills n).opens.keeps text other (skip_line_ends m) ts k vs m label (loose_gap.ends m) c (inr tt) in
          among_end (skip_line_ends d.0) vs p (loose_past.past text other (skip_line_ends m) m d.0 vs d.2 refl) (behind_label other k d.0 d.1 p i ys r w)

      placed : (other : List ℕ) (vs k : List Token) → SpellsLabel other n vs k → ((l : List Token) → TheLineEnd k l → ⊥) → (p : Place) (i : Instruction) (more : List Named) (r : List Token)
          → SpellsLabelled other more (ThePlaced other p i) vs r → (more ≡ n ∷ []) × ThePlaced other p i (skip_line_ends k) r
      placed other vs k here none p i [] r w = absurd (no_placed other n p i vs r k here w)
      placed other vs k here none p i (y ∷ []) r w =
          let same = (label_one other).only y n vs w.0 k w.1 here in
          (ap (λ z. z ∷ []) same.0, subst (λ (j : List Token). ThePlaced other p i (skip_line_ends j) r) same.1 w.2)
      placed other vs k here none p i (y ∷ z ∷ zs) r w =
          let same = (label_one other).only y n vs w.0 k w.1 here in absurd (none w.2.0 (subst (λ (j : List Token). TheLineEnd j w.2.0) same.1 w.2.1))

      last : (other : List ℕ) (vs k : List Token) → SpellsLabel other n vs k → ((l : List Token) → TheLineEnd k l → ⊥) → (e : Keyword) (p : Place) (more : List Named) (r : List Token)
          → Repeats (SpellsLabelLine other) more (TheLast other e p) vs r → ⊥
      last other vs k here none e p [] r w = no_last other n e p vs r k here w
      last other vs k here none e p (y ∷ ys) r w = let same = (label_one other).only y n vs w.1.0 k w.1.1 here in none w.0 (subst (λ (x : List Token). TheLineEnd x w.0) same.1 w.1.2)
