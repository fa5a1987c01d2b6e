-- What comes before a token, in a text that has the same tokens before it.
use Rattle.std.proofs.Common.{◌≡◌, ◌<◌, ℕ, List, [], ◌∷◌, ◌++◌, length, refl, ◌∙◌, ap, subst, inl, inr, arith}
use Rattle.il_syntax.specs.declared.token.Token.{Token}
use Rattle.il_syntax.specs.declared.keyword.Keyword.TheVariants as word
use Rattle.il_syntax.specs.declared.tree.Step.{Step}
use Rattle.il_syntax.specs.declared.tree.Unit.{Unit as ProgramUnit}
use Rattle.il_syntax.specs.declared.tree.Config.{Config}
use Rattle.il_syntax.specs.Text.{AreTokens}
use Rattle.il_syntax.specs.Grammar.{Front, tight, skip_line_ends, ◌⋯◌, Nothing, AfterLines, Repeats, TheLineEnd, TheWord, SpellsInstruction, SpellsStep, SpellsUnit, SpellsConfig, unit_word, end_word}
use Rattle.il_syntax_laws.specs.Alike.{IsEndOf}
use Rattle.il_syntax_laws.specs.GoesOn.{IsCut, always}
use Rattle.il_syntax_laws.proofs.Alike.{end_self, end_length, end_of_end, loose_gap, gap_length}
use Rattle.il_syntax_laws.proofs.Bodies.{skip_one, step_no_end}
use Rattle.il_syntax_laws.proofs.Local.{line_end_local, step_local, unit_local, loosely_local}
use Rattle.il_syntax_laws.proofs.Open.{loose_open, line_end_fills}
use Rattle.il_syntax_laws.proofs.GoesOn.{IsFilling}
use Rattle.load_lines.specs.Lead.{lead_at}
use Rattle.load_tree.specs.Refused.{IsItsPlace}
use Rattle.load_tree.proofs.Begun.{lead_cut}
use Rattle.load_tree.proofs.Behind.{labelled_among}
use Rattle.load_tree.proofs.Entries.{step_filling}
use Rattle.load_tree.proofs.Rests.{unit_filling}
use Rattle.load_lines.proofs.Leaves.{word_lead}
use Rattle.il_fault_laws.proofs.Runs.{split_run, same_run}
use Rattle.il_fault_laws.proofs.Headings.{Heading, heading_of, end_none, split_unit, heading_sure}
use Rattle.il_fault_laws.proofs.Surplus.{TheEndOf, at_token, among_token, no_configuration, begins_unit, unit_apart}
use Rattle.il_fault_laws.proofs.Completed.{heading_opens, fill_end, cut_run}
use Rattle.il_fault_laws.proofs.Found.{TheRest, IsFront, in_unit}

module _ {A : Type 0} {P : List ℕ → A → Front} (fill : IsFilling tight always P) where
  -- things take tokens
  run_less : (text : List ℕ) (front : List A) (ts mid : List Token) → Repeats (P text) front Nothing ts mid → 0 < length front → length mid < length ts
  run_less text [] ts mid w some = absurd (omega (arith, some))
  run_less text (x ∷ front) ts mid w some =
      let a = (fill.one x).takes.less text ts w.0 w.1 in
      let b = gap_length loose_gap w.0 in
      let c = end_length mid (skip_line_ends w.0) (fill_end fill text front (skip_line_ends w.0) mid w.2) in
      omega (arith, a, b, c)

  -- things are in a text that is cut after them, also right after
  cut_up_to : (text other : List ℕ) (front : List A) (ts us mid at vs : List Token) → IsCut text other at ts us vs → Repeats (P text) front Nothing ts mid → IsEndOf at mid → (n : List Token) × Repeats (P other) front Nothing us n
  cut_up_to text other [] ts us mid at vs c w e = (us, refl)
  cut_up_to text other (x ∷ []) ts us mid at vs c w e =
      let e1 = fill_end fill text [] (skip_line_ends w.0) mid w.2 in
      let in_m = end_of_end at (skip_line_ends w.0) w.0 (loose_gap.ends w.0) (end_of_end at mid (skip_line_ends w.0) e1 e) in
      let k = (fill.one x).opens.keeps text other at ts us vs w.0 w.1 in_m c (inr tt) in
      (skip_line_ends k.0, (k.0, k.1, refl))
  cut_up_to text other (x ∷ y ∷ front) ts us mid at vs c w e =
      let e1 = fill_end fill text (y ∷ front) (skip_line_ends w.0) mid w.2 in
      let in_m = end_of_end at (skip_line_ends w.0) w.0 (loose_gap.ends w.0) (end_of_end at mid (skip_line_ends w.0) e1 e) in
      let k = (fill.one x).opens.keeps text other at ts us vs w.0 w.1 in_m c (inr tt) in
      let less = run_less text (y ∷ front) (skip_line_ends w.0) mid w.2 (omega arith) in
      let short = end_length at mid e in
      let r = cut_up_to text other (y ∷ front) (skip_line_ends w.0) (skip_line_ends k.0) mid at vs (loose_open.cut text other at w.0 k.0 vs k.2 (omega (arith, less, short))) w.2 e in
      (r.0, (k.0, k.1, r.1))

-- the other text begins with the same units
abbrev pub HasFront : List ProgramUnit → Config → Type 0
HasFront front d = (more : List ProgramUnit) × (d.units ≡ front ++ more)

-- and one more, which begins with the same instructions
abbrev pub HasBoth : List ProgramUnit → List Step → Config → Type 0
HasBoth front steps d = (v : ProgramUnit) × (more : List ProgramUnit) × (ms : List Step) × (d.units ≡ front ++ v ∷ more) × (v.body.steps ≡ steps ++ ms)

module _ (text : List ℕ) (whole : List Token) (cut : AreTokens text 0 whole) (t : Token) (back : List Token) (there : IsEndOf (t ∷ back) whole) (c : Config) (w : AfterLines (SpellsConfig text c) whole [])
    (other : List ℕ) (ws vs : List Token) (is_cut : IsCut text other (t ∷ back) whole ws vs) (d : Config) (v : AfterLines (SpellsConfig other d) ws []) where
  -- before a unit
  pub same_front : (front : List ProgramUnit) (u : ProgramUnit) (behind : List ProgramUnit) → c.units ≡ front ++ u ∷ behind → 0 < length front → IsItsPlace t u.place → HasFront front d
  same_front front u behind is some at =
      let k = in_unit text whole cut t back there c w front u behind is in
      let inside = end_of_end k.0 (skip_line_ends whole) whole (loose_gap.ends whole) k.4 in
      let here = at_token text other whole cut t back there (TheWord text (unit_word u.kind)) u.place k.0 k.3.1.0 inside at k.3.1.1 in
      let less = run_less unit_filling text front (skip_line_ends whole) k.0 k.2 some in
      let l = ap length here in
      let c1 = loose_open.cut text other (t ∷ back) whole ws vs is_cut (omega (arith, less, l)) in
      let n = cut_up_to unit_filling text other front (skip_line_ends whole) (skip_line_ends ws) k.0 (t ∷ back) vs c1 k.2 (subst (λ (x : List Token). IsEndOf x k.0) here (end_self k.0)) in
      let z = same_run unit_local other (TheWord other word.Configuration ⋯ TheRest other d) (unit_apart other (TheRest other d)) front d.units (skip_line_ends ws) n.0 [] n.1 v in
      (z.0, z.1)

  -- before an instruction
  pub same_both : (front : List ProgramUnit) (u : ProgramUnit) (behind : List ProgramUnit) → c.units ≡ front ++ u ∷ behind → (steps more : List Step) (s : Step) → u.body.steps ≡ steps ++ s ∷ more → IsFront front steps → IsItsPlace t s.place
      → HasBoth front steps d
  same_both front u behind is steps more s split before at =
      let k = in_unit text whole cut t back there c w front u behind is in
      let in_mid = end_of_end k.0 (skip_line_ends whole) whole (loose_gap.ends whole) k.4 in
      let x = split_unit text u k.0 k.1 k.3 in
      let line = x.2.1.0 in
      let all = subst (λ (ys : List Step). Repeats (SpellsStep text) ys (TheEndOf text (end_word u.kind) (u.body.last_labels, u.body.end)) (skip_line_ends line) k.1) split x.2.1.2 in
      let r = split_run (SpellsStep text) steps (s ∷ more) (TheEndOf text (end_word u.kind) (u.body.last_labels, u.body.end)) (skip_line_ends line) k.1 all in
      let e_here = fill_end step_filling text steps (skip_line_ends line) r.0 r.1 in
      let e_line = end_of_end r.0 (skip_line_ends line) line (loose_gap.ends line) e_here in
      let e_bt = end_of_end r.0 line x.0 (line_end_fills.opens.ends text x.0 line x.2.1.1) e_line in
      let e_mid = end_of_end r.0 x.0 k.0 ((heading_opens u.kind (heading_of u)).ends text k.0 x.0 x.1) e_bt in
      let in_here = end_of_end r.0 k.0 whole in_mid e_mid in
      let at_here = among_token text other whole cut t back there s.place r.0 in_here at (labelled_among text (SpellsInstruction text s.instruction) s.place s.labels r.0 r.2.0 r.2.1) in
      let full = before.full in
      let less = run_less step_filling text steps (skip_line_ends line) r.0 r.1 (omega (arith, full)) in
      let l0 = end_length (t ∷ back) r.0 at_here in
      let l1 = gap_length loose_gap line in
      let l2 : skip_line_ends x.0 ≡ skip_line_ends line = skip_one x.0 line x.2.1.1 in
      let l3 = ap length l2 in
      let l4 = gap_length loose_gap x.0 in
      let l5 = end_length x.0 k.0 ((heading_opens u.kind (heading_of u)).ends text k.0 x.0 x.1) in
      let l6 = end_length k.0 (skip_line_ends whole) k.4 in
      let c1 = loose_open.cut text other (t ∷ back) whole ws vs is_cut (omega (arith, less, l0, l3, l4, l5, l6)) in
      let at_mid = end_of_end (t ∷ back) r.0 k.0 e_mid at_here in
      let n = cut_run unit_filling text other front (skip_line_ends whole) (skip_line_ends ws) k.0 (t ∷ back) vs c1 k.2 at_mid (omega (arith, less, l0, l3, l4, l5)) in
      let z = same_run unit_local other (TheWord other word.Configuration ⋯ TheRest other d) (unit_apart other (TheRest other d)) front d.units (skip_line_ends ws) n.0 [] n.1 v in
      let at_bt = end_of_end (t ∷ back) r.0 x.0 e_bt at_here in
      let h = (heading_opens u.kind (heading_of u)).keeps text other (t ∷ back) k.0 n.0 vs x.0 x.1 at_bt n.2 (inl (omega (arith, less, l0, l3))) in
      let m = line_end_fills.opens.keeps text other (t ∷ back) x.0 h.0 vs line x.2.1.1 (end_of_end (t ∷ back) r.0 line e_line at_here) h.2 (inr tt) in
      let c2 = loose_open.cut text other (t ∷ back) line m.0 vs m.2 (omega (arith, less, l0)) in
      let j = cut_up_to step_filling text other steps (skip_line_ends line) (skip_line_ends m.0) r.0 (t ∷ back) vs c2 r.1 at_here in
      go n.0 k.0 k.1 n.2 (omega (arith, less, l0, l3, l4, l5)) k.3 z.0 z.1 z.2 h.0 h.1 m.0 m.1 j.0 j.1
    where
      -- one unit more
      go : (from : List Token) (mid m : List Token) → IsCut text other (t ∷ back) mid from vs → length (t ∷ back) < length mid → SpellsUnit text u mid m → (ys : List ProgramUnit) → d.units ≡ front ++ ys → Repeats (SpellsUnit other) ys (TheWord other word.Configuration ⋯ TheRest other d) from []
          → (bt : List Token) → Heading other u.kind (heading_of u) from bt → (line : List Token) → TheLineEnd bt line → (here : List Token) → Repeats (SpellsStep other) steps Nothing (skip_line_ends line) here → HasBoth front steps d
      go from mid m k less spelled [] units rest bt heading line line_end here read =
          absurd (no_configuration u.kind (lead_at other from) (lead_cut text other (t ∷ back) mid from vs k less ∙ begins_unit text u mid m spelled) (word_lead other word.Configuration from rest.0 rest.1))
      go from mid m k less spelled (y ∷ ys) units rest bt heading line line_end here read =
          let x = split_unit other y from rest.0 rest.1 in
          let sure = heading_sure other u.kind y.kind (heading_of u) (heading_of y) from bt x.0 heading x.1 in
          let same_line : line ≡ x.2.1.0 = (line_end_local.one other).only x.0 line x.2.1.0 (subst (λ (j : List Token). TheLineEnd j line) sure.1 line_end) x.2.1.1 in
          let own = subst (λ (j : List Token). Repeats (SpellsStep other) steps Nothing (skip_line_ends j) here) same_line read in
          let z = same_run (loosely_local step_local) other (TheEndOf other (end_word y.kind) (y.body.last_labels, y.body.end)) (λ b us r p f g. (step_no_end other (end_word y.kind) (end_none y.kind)).never b (y.body.last_labels, y.body.end) us r p f g)
          steps y.body.steps (skip_line_ends x.2.1.0) here rest.0 own x.2.1.2 in
          (y, ys, z.0, units, z.1)
