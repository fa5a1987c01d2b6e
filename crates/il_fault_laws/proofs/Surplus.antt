-- A surplus is local: the token with which an instruction or a unit begins, after as many others, begins one in each text that is alike up to it, or is a
-- label there.
use Rattle.std.specs.Prelude.{◌⊎◌}
use Rattle.std.proofs.Common.{◌≡◌, ◌≤◌, ℕ, List, [], ◌∷◌, ◌++◌, length, refl, sym, ◌∙◌, ap, subst, inl, inr, arith}
use Rattle.il_syntax.specs.declared.token.Token.{Token}
use Rattle.il_syntax.specs.declared.keyword.Keyword.{Keyword}
use Rattle.il_syntax.specs.declared.keyword.Keyword.TheVariants as word
use Rattle.il_syntax.specs.declared.tree.Place.{Place}
use Rattle.il_syntax.specs.declared.tree.Named.{Named}
use Rattle.il_syntax.specs.declared.tree.Instruction.{Instruction}
use Rattle.il_syntax.specs.declared.tree.Step.{Step}
use Rattle.il_syntax.specs.declared.tree.UnitKind.{UnitKind}
use Rattle.il_syntax.specs.declared.tree.UnitKind.TheVariants as unit
use Rattle.il_syntax.specs.declared.tree.Unit.{Unit as ProgramUnit}
use Rattle.il_syntax.specs.Text.{AreTokens}
use Rattle.il_syntax.specs.Grammar.{Front, skip_line_ends, ◌⋯◌, Nothing, At, Repeats, TheLineEnd, TheWord, SpellsInstruction, SpellsLabel, SpellsLabelled, SpellsStep, SpellsLabelLine, SpellsUnit, end_word, unit_word}
use Rattle.il_syntax_laws.specs.Alike.{IsEndOf, AreAlike}
use Rattle.il_syntax_laws.proofs.Alike.{end_length, end_of_end, loose_gap, gap_length}
use Rattle.il_syntax_laws.proofs.Leads.{reserved, word_lead, at_holds}
use Rattle.il_syntax_laws.proofs.Instructions.{none, sort_at, instruction_no_label, instruction_no_word}
use Rattle.il_syntax_laws.proofs.Bodies.{skip_one, label_one, label_lead, step_no_end}
use Rattle.il_syntax_laws.proofs.Local.{word_same, label_local, line_end_local, step_local, unit_local, loosely_local}
use Rattle.load_lines.proofs.Leaves.{lead_alike, word_lead as word_begins}
use Rattle.load_lines.specs.Lead.{lead_at}
use Rattle.load_lines.specs.declared.lead.Lead.{Lead}
use Rattle.load_lines.specs.declared.lead.Lead.TheVariants as lead
use Rattle.load_tree.specs.Refused.{IsItsPlace, StandsAmong}
use Rattle.load_tree.proofs.OneUnit.{begins}
use Rattle.load_tree.proofs.Behind.{labelled_among}
use Rattle.il_fault_laws.proofs.Parts.{one_start}
use Rattle.il_fault_laws.proofs.Runs.{split_run, run_end, carry_run, same_run}
use Rattle.il_fault_laws.proofs.Headings.{Heading, heading_of, end_none, split_unit, heading_sure, heading_carries}

-- the first of these instructions is at a token
abbrev pub IsStep : Token → List Step → Type 0
IsStep t more = (s : Step) × (ms : List Step) × (more ≡ s ∷ ms) × IsItsPlace t s.place

-- a token is a label, after others on lines of their own
abbrev pub IsLabel : List ℕ → Token → List Token → Type 0
IsLabel other t us = (ls : List Named) × (tl : List Token) × Repeats (SpellsLabelLine other) ls Nothing us (t ∷ tl) × (n : Named) × (r : List Token) × SpellsLabel other n (t ∷ tl) r

-- what ends a body
abbrev pub TheEndOf : List ℕ → Keyword → List Named × Place → Front
TheEndOf other last y = Repeats (SpellsLabelLine other) y.0 (At y.1 (TheWord other last))

-- the first label, and what follows it
behind_label : (text : List ℕ) (n : Named) (ns : List Named) (F : Front) (ts r : List Token) → SpellsLabelled text (n ∷ ns) F ts r → (m : List Token) × SpellsLabel text n ts m × SpellsLabelled text ns F (skip_line_ends m) r
behind_label text n [] F ts r w = w
behind_label text n (o ∷ ns) F ts r w = (w.0, w.1, subst (λ (k : List Token). SpellsLabelled text (o ∷ ns) F k r) (sym (skip_one w.0 w.2.0 w.2.1)) w.2.2)

module _ (text other : List ℕ) (whole : List Token) (cut : AreTokens text 0 whole) (t : Token) (back : List Token) (there : IsEndOf (t ∷ back) whole) where
  -- what is at the token begins with it
  pub at_token : (F : Front) (p : Place) (ts r : List Token) → IsEndOf ts whole → IsItsPlace t p → At p F ts r → ts ≡ t ∷ back
  at_token F p [] r e same w = absurd w
  at_token F p (u ∷ ts) r e same w = one_start text whole u t ts back cut e there (w.0 ∙ same.0)

  -- tokens among which it is end with it
  pub among_token : (p : Place) (ts : List Token) → IsEndOf ts whole → IsItsPlace t p → StandsAmong ts p → IsEndOf (t ∷ back) ts
  among_token p ts e same w =
      let one = one_start text whole w.0 t w.1 back cut (end_of_end (w.0 ∷ w.1) ts whole e w.2) there (sym w.3.0 ∙ same.0) in
      subst (λ (k : List Token). IsEndOf k ts) one w.2

  labelled_token : (ns : List Named) (F : Front) (p : Place) (ts r : List Token) → IsEndOf ts whole → IsItsPlace t p → SpellsLabelled text ns (At p F) ts r → length (t ∷ back) ≤ length ts
  labelled_token ns F p ts r e same w = end_length (t ∷ back) ts (among_token p ts e same (labelled_among text F p ns ts r w))

  -- the first label of the one text is one of the other
  carry_label : (n : Named) (ns : List Named) (F : Front) (p : Place) (ts us m r : List Token) → IsEndOf ts whole → IsItsPlace t p → AreAlike text other (t ∷ back) ts us → SpellsLabel text n ts m → SpellsLabelled text ns (At p F) (skip_line_ends m) r
      → (k : List Token) × SpellsLabel other n us k × AreAlike text other (t ∷ back) (skip_line_ends m) (skip_line_ends k) × IsEndOf (skip_line_ends m) whole
  carry_label n ns F p ts us m r e same a label w =
      let inside = end_of_end (skip_line_ends m) m whole (end_of_end m ts whole e ((label_local.carries n).ends text ts m label)) (loose_gap.ends m) in
      let l = labelled_token ns F p (skip_line_ends m) r inside same w in
      let less = gap_length loose_gap m in
      let c = (label_local.carries n).over text other (t ∷ back) ts us m a label (omega (arith, l, less)) in
      (c.0, c.1, loose_gap.alike text other (t ∷ back) m c.0 c.2 l, inside)

  -- an instruction without labels is at the token
  placed_same : (ns : List Named) (p q : Place) (i j : Instruction) (ts us r s : List Token) → IsEndOf ts whole → IsItsPlace t p → AreAlike text other (t ∷ back) ts us → SpellsLabelled text ns (At p (SpellsInstruction text i)) ts r
      → At q (SpellsInstruction other j) us s → IsItsPlace t q
  placed_same [] p q i j ts us r s e same a w v =
      let here = at_token (SpellsInstruction text i) p ts r e same w in
      let b = subst (λ (k : List Token). AreAlike text other (t ∷ back) k us) here a in
      let at_t = subst (λ (k : List Token). At q (SpellsInstruction other j) k s) b.1 v in
      (sym at_t.0, sym at_t.1)
  placed_same (n ∷ ns) p q i j ts us r s e same a w v =
      let k = behind_label text n ns (At p (SpellsInstruction text i)) ts r w in
      let c = carry_label n ns (SpellsInstruction text i) p ts us k.0 r e same a k.1 k.2 in
      absurd (instruction_no_label other j n us s c.0 (at_holds other (SpellsInstruction other j) q us s v) c.1)

  -- an instruction with labels is at the token, or this is one of its labels
  labelled_same : (ns ms : List Named) (p q : Place) (i j : Instruction) (ts us r s : List Token) → IsEndOf ts whole → IsItsPlace t p → AreAlike text other (t ∷ back) ts us → SpellsLabelled text ns (At p (SpellsInstruction text i)) ts r
      → SpellsLabelled other ms (At q (SpellsInstruction other j)) us s → IsItsPlace t q ⊎ IsLabel other t us
  labelled_same ns [] p q i j ts us r s e same a w v = inl (placed_same ns p q i j ts us r s e same a w v)
  labelled_same [] (l ∷ ms) p q i j ts us r s e same a w v =
      let here = at_token (SpellsInstruction text i) p ts r e same w in
      let b = subst (λ (k : List Token). AreAlike text other (t ∷ back) k us) here a in
      let k = behind_label other l ms (At q (SpellsInstruction other j)) us s v in
      inr ([], b.0, b.1, l, k.0, subst (λ (x : List Token). SpellsLabel other l x k.0) b.1 k.1)
  labelled_same (n ∷ ns) (l ∷ []) p q i j ts us r s e same a w v =
      let k = behind_label text n ns (At p (SpellsInstruction text i)) ts r w in
      let c = carry_label n ns (SpellsInstruction text i) p ts us k.0 r e same a k.1 k.2 in
      let one = (label_one other).only l n us v.0 c.0 v.1 c.1 in
      inl (placed_same ns p q i j (skip_line_ends k.0) (skip_line_ends c.0) r s c.3 same c.2 k.2 (subst (λ (x : List Token). At q (SpellsInstruction other j) (skip_line_ends x) s) one.1 v.2))
  labelled_same (n ∷ ns) (l ∷ o ∷ ms) p q i j ts us r s e same a w v =
      let k = behind_label text n ns (At p (SpellsInstruction text i)) ts r w in
      let c = carry_label n ns (SpellsInstruction text i) p ts us k.0 r e same a k.1 k.2 in
      let one = (label_one other).only l n us v.0 c.0 v.1 c.1 in
      let skips : skip_line_ends c.0 ≡ skip_line_ends v.2.0 = ap skip_line_ends (sym one.1) ∙ skip_one v.0 v.2.0 v.2.1 in
      let b = subst (λ (x : List Token). AreAlike text other (t ∷ back) (skip_line_ends k.0) x) skips c.2 in
      more v.0 v.2.0 v.1 v.2.1 (labelled_same ns (o ∷ ms) p q i j (skip_line_ends k.0) (skip_line_ends v.2.0) r s c.3 same b k.2 v.2.2)
    where
      more : (m k : List Token) → SpellsLabel other l us m → TheLineEnd m k → IsItsPlace t q ⊎ IsLabel other t (skip_line_ends k) → IsItsPlace t q ⊎ IsLabel other t us
      more m k label line (inl x) = inl x
      more m k label line (inr x) = inr (l ∷ x.0, x.1, (k, (m, label, line), x.2), x.3, x.4, x.5)

  -- where the body ends in the other text, it is a label there
  ends_same : (last : Keyword) → sort_at (reserved last) ≡ none → (ns ms : List Named) (p q : Place) (i : Instruction) (ts us r s : List Token) → IsEndOf ts whole → IsItsPlace t p → AreAlike text other (t ∷ back) ts us
      → SpellsLabelled text ns (At p (SpellsInstruction text i)) ts r → TheEndOf other last (ms, q) us s → IsLabel other t us
  ends_same last ends [] [] p q i ts us r s e same a w v =
      let here = at_token (SpellsInstruction text i) p ts r e same w in
      let b = subst (λ (k : List Token). AreAlike text other (t ∷ back) k us) here a in
      let at_t = subst (λ (k : List Token). TheWord other last k s) b.1 (at_holds other (TheWord other last) q us s v) in
      let own = subst (λ (k : List Token). SpellsInstruction text i k r) here (at_holds text (SpellsInstruction text i) p ts r w) in
      absurd (instruction_no_word text i last (t ∷ back) r back ends own (word_same last other text t (sym b.2) at_t.0, refl))
  ends_same last ends [] (l ∷ ms) p q i ts us r s e same a w v =
      let here = at_token (SpellsInstruction text i) p ts r e same w in
      let b = subst (λ (k : List Token). AreAlike text other (t ∷ back) k us) here a in
      ([], b.0, b.1, l, v.1.0, subst (λ (x : List Token). SpellsLabel other l x v.1.0) b.1 v.1.1)
  ends_same last ends (n ∷ ns) [] p q i ts us r s e same a w v =
      let k = behind_label text n ns (At p (SpellsInstruction text i)) ts r w in
      let c = carry_label n ns (SpellsInstruction text i) p ts us k.0 r e same a k.1 k.2 in
      absurd (cc (label_lead other n us c.0 c.1, word_lead other last us s (at_holds other (TheWord other last) q us s v)))
  ends_same last ends (n ∷ ns) (l ∷ ms) p q i ts us r s e same a w v =
      let k = behind_label text n ns (At p (SpellsInstruction text i)) ts r w in
      let c = carry_label n ns (SpellsInstruction text i) p ts us k.0 r e same a k.1 k.2 in
      let one = (label_one other).only l n us v.1.0 c.0 v.1.1 c.1 in
      let skips : skip_line_ends c.0 ≡ skip_line_ends v.0 = ap skip_line_ends (sym one.1) ∙ skip_one v.1.0 v.0 v.1.2 in
      let b = subst (λ (x : List Token). AreAlike text other (t ∷ back) (skip_line_ends k.0) x) skips c.2 in
      let x = ends_same last ends ns ms p q i (skip_line_ends k.0) (skip_line_ends v.0) r s c.3 same b k.2 v.2 in
      (l ∷ x.0, x.1, (v.0, v.1, x.2), x.3, x.4, x.5)

-- What an alike text has in a unit: as many instructions, and then one at the token, or it is a label.
pub record HasIt (other : List ℕ) (t : Token) (us : List Token) (v : ProgramUnit) (front : List Step) (q : List Token) : Type 0 where
  pub bt : List Token
  pub heading : Heading other v.kind (heading_of v) us bt
  pub line : List Token
  pub line_end : TheLineEnd bt line
  pub here : List Token
  pub read : Repeats (SpellsStep other) front Nothing (skip_line_ends line) here
  pub more : List Step
  pub steps : v.body.steps ≡ front ++ more
  pub rest : Repeats (SpellsStep other) more (TheEndOf other (end_word v.kind) (v.body.last_labels, v.body.end)) here q
  pub outcome : IsStep t more ⊎ IsLabel other t here

module _ (text other : List ℕ) (whole : List Token) (cut : AreTokens text 0 whole) (t : Token) (back : List Token) (there : IsEndOf (t ∷ back) whole) where
  -- what follows as many instructions
  here_same : (last : Keyword) → sort_at (reserved last) ≡ none → (s : Step) (more : List Step) (y : List Named × Place) (ts us m r : List Token) → IsEndOf ts whole → IsItsPlace t s.place → AreAlike text other (t ∷ back) ts us
      → SpellsStep text s ts m → Repeats (SpellsStep other) more (TheEndOf other last y) us r → IsStep t more ⊎ IsLabel other t us
  here_same last ends s [] y ts us m r e same a w v = inr (ends_same text other whole cut t back there last ends s.labels y.0 s.place y.1 s.instruction ts us m r e same a w v)
  here_same last ends s (x ∷ more) y ts us m r e same a w v = go (labelled_same text other whole cut t back there s.labels x.labels s.place x.place s.instruction x.instruction ts us m v.0 e same a w v.1)
    where
      go : IsItsPlace t x.place ⊎ IsLabel other t us → IsStep t (x ∷ more) ⊎ IsLabel other t us
      go (inl p) = inl (x, more, refl, p)
      go (inr p) = inr p

  -- a unit
  pub unit_same : (u v : ProgramUnit) (front more : List Step) (s : Step) (ts us m q : List Token) → u.body.steps ≡ front ++ s ∷ more → IsItsPlace t s.place → IsEndOf ts whole → AreAlike text other (t ∷ back) ts us
      → SpellsUnit text u ts m → SpellsUnit other v us q → HasIt other t us v front q
  unit_same u v front more s ts us m q is same e a w v_here =
      let x = split_unit text u ts m w in
      let y = split_unit other v us q v_here in
      let bt = x.0 in
      let body = x.2 in
      let line = body.1.0 in
      let steps = subst (λ (k : List Step). Repeats (SpellsStep text) k (TheEndOf text (end_word u.kind) (u.body.last_labels, u.body.end)) (skip_line_ends line) m) is body.1.2 in
      let k = split_run (SpellsStep text) front (s ∷ more) (TheEndOf text (end_word u.kind) (u.body.last_labels, u.body.end)) (skip_line_ends line) m steps in
      let e_bt = end_of_end bt ts whole e ((heading_carries u.kind (heading_of u)).ends text ts bt x.1) in
      let e_line = end_of_end line bt whole e_bt (line_end_local.carries.ends text bt line body.1.1) in
      let e_skip = end_of_end (skip_line_ends line) line whole e_line (loose_gap.ends line) in
      let e_here = run_end (loosely_local step_local) text front (skip_line_ends line) k.0 k.1 in
      let e_in = end_of_end k.0 (skip_line_ends line) whole e_skip e_here in
      let l0 = labelled_token text other whole cut t back there s.labels (SpellsInstruction text s.instruction) s.place k.0 k.2.0 e_in same k.2.1 in
      let l1 = end_length k.0 (skip_line_ends line) e_here in
      let l2 = gap_length loose_gap line in
      let l3 : skip_line_ends bt ≡ skip_line_ends line = skip_one bt line body.1.1 in
      let l4 = ap length l3 in
      let h = (heading_carries u.kind (heading_of u)).over text other (t ∷ back) ts us bt a x.1 (omega (arith, l0, l1, l4)) in
      let sure = heading_sure other u.kind v.kind (heading_of u) (heading_of v) us h.0 y.0 h.1 y.1 in
      let alike_bt = subst (λ (j : List Token). AreAlike text other (t ∷ back) bt j) {x = h.0} sure.1 h.2 in
      let n = line_end_local.carries.over text other (t ∷ back) bt y.0 line alike_bt body.1.1 (omega (arith, l0, l1, l2)) in
      let same_line : n.0 ≡ y.2.1.0 = (line_end_local.one other).only y.0 n.0 y.2.1.0 n.1 y.2.1.1 in
      let alike_line = loose_gap.alike text other (t ∷ back) line n.0 n.2 (omega (arith, l0, l1)) in
      let alike_here = subst (λ (j : List Token). AreAlike text other (t ∷ back) (skip_line_ends line) (skip_line_ends j)) {x = n.0} same_line alike_line in
      let c = carry_run (loosely_local step_local) text other (t ∷ back) front (skip_line_ends line) (skip_line_ends y.2.1.0) k.0 alike_here k.1 l0 in
      let z = same_run (loosely_local step_local) other (TheEndOf other (end_word v.kind) (v.body.last_labels, v.body.end)) (λ b us r p f g. (step_no_end other (end_word v.kind) (end_none v.kind)).never b (v.body.last_labels, v.body.end) us r p f g)
      front v.body.steps (skip_line_ends y.2.1.0) c.0 q c.1 y.2.1.2 in
      record {
        bt = y.0;
        heading = y.1;
        line = y.2.1.0;
        line_end = y.2.1.1;
        here = c.0;
        read = c.1;
        more = z.0;
        steps = z.1;
        rest = z.2;
        outcome = here_same (end_word v.kind) (end_none v.kind) s z.0 (v.body.last_labels, v.body.end) k.0 c.0 k.2.0 q e_in same c.2 k.2.1 z.2;
      }

-- The units of an alike text begin with those before the token, and one more is there.
pub record HasUnits (text other : List ℕ) (t : Token) (back : List Token) (front : List ProgramUnit) (mid us : List Token) (all : List ProgramUnit) : Type 0 where
  pub from : List Token
  pub read : Repeats (SpellsUnit other) front Nothing us from
  pub alike : AreAlike text other (t ∷ back) mid from
  pub unit : ProgramUnit
  pub more : List ProgramUnit
  pub units : all ≡ front ++ unit ∷ more
  pub behind : List Token
  pub spelled : SpellsUnit other unit from behind

-- a unit begins with its word, and not with that of the configuration
pub no_configuration : (k : UnitKind) (l : Lead) → l ≡ lead.Reserved (unit_word k) → l ≡ lead.Reserved word.Configuration → ⊥
no_configuration (unit.Function result place) l p q = cc (p, q)
no_configuration unit.FunctionBlock l p q = cc (p, q)
no_configuration unit.Program l p q = cc (p, q)

pub begins_unit : (text : List ℕ) (x : ProgramUnit) (ts r : List Token) → SpellsUnit text x ts r → lead_at text ts ≡ lead.Reserved (unit_word x.kind)
begins_unit text x ts r w = let b = begins text x ts r w in word_begins text (unit_word x.kind) ts b.0 b.1

pub unit_apart : (other : List ℕ) (E : Front) (x : ProgramUnit) (us r s : List Token) → SpellsUnit other x us r → (TheWord other word.Configuration ⋯ E) us s → ⊥
unit_apart other E x us r s p q = no_configuration x.kind (lead_at other us) (begins_unit other x us r p) (word_begins other word.Configuration us q.0 q.1)

module _ (text other : List ℕ) (t : Token) (back : List Token) where
  pub units_same : (front : List ProgramUnit) (u : ProgramUnit) (ys : List ProgramUnit) (E : Front) (ts us mid m s : List Token) → AreAlike text other (t ∷ back) ts us → Repeats (SpellsUnit text) front Nothing ts mid → SpellsUnit text u mid m
      → length (t ∷ back) ≤ length mid → Repeats (SpellsUnit other) ys (TheWord other word.Configuration ⋯ E) us s → HasUnits text other t back front mid us ys
  units_same front u ys E ts us mid m s a w here l v =
      let c = carry_run unit_local text other (t ∷ back) front ts us mid a w l in
      let z = same_run unit_local other (TheWord other word.Configuration ⋯ E) (unit_apart other E) front ys us c.0 s c.1 v in
      go c.0 c.1 c.2 z.0 z.1 z.2
    where
      -- the word of a unit is carried
      carried : (n k : List Token) → AreAlike text other (t ∷ back) mid n → TheWord other word.Configuration n k → ⊥
      carried n k b w = no_configuration u.kind (lead_at other n) (lead_alike text other (t ∷ back) mid n b ∙ begins_unit text u mid m here) (word_begins other word.Configuration n k w)

      go : (n : List Token) → Repeats (SpellsUnit other) front Nothing us n → AreAlike text other (t ∷ back) mid n → (more : List ProgramUnit) → ys ≡ front ++ more → Repeats (SpellsUnit other) more (TheWord other word.Configuration ⋯ E) n s
          → HasUnits text other t back front mid us ys
      go n read b [] is rest = absurd (carried n rest.0 b rest.1)
      go n read b (y ∷ more) is rest = record { from = n; read = read; alike = b; unit = y; more = more; units = is; behind = rest.0; spelled = rest.1 }
