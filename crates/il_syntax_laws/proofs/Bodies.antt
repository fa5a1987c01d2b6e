-- Labels, steps and bodies.
use Rattle.std.proofs.Common.{◌≡◌, ℕ, List, [], ◌∷◌, refl, ◌∙◌, ap, subst}
use Rattle.il_syntax.specs.declared.token.Token.{Token}
use Rattle.il_syntax.specs.declared.token.Sign.TheVariants.{Colon}
use Rattle.il_syntax.specs.declared.keyword.Keyword.{Keyword}
use Rattle.il_syntax.specs.declared.keyword.Keyword.TheVariants as word
use Rattle.il_syntax.specs.declared.tree.Place.{Place}
use Rattle.il_syntax.specs.declared.tree.Named.{Named}
use Rattle.il_syntax.specs.declared.tree.Instruction.{Instruction}
use Rattle.il_syntax.specs.declared.tree.Step.{Step}
use Rattle.il_syntax.specs.declared.tree.Body.{Body}
use Rattle.il_syntax.specs.declared.tree.UnitKind.{UnitKind}
use Rattle.il_syntax.specs.declared.tree.UnitKind.TheVariants as unit
use Rattle.il_syntax.specs.Grammar.{Front, tight, loose, ◌⋯◌, skip_line_ends, At, Repeats, TheLineEnd, TheWord, SpellsInstruction, SpellsLabel, SpellsLabelled, SpellsStep, SpellsLabelLine, SpellsBody, end_word}
use Rattle.il_syntax_laws.specs.One.{IsDeterministic, AreApart}
use Rattle.il_syntax_laws.proofs.Combinators.{behind, before, through, at_place, place_of, repeats}
use Rattle.il_syntax_laws.proofs.Leads.{reserved, name, lead, word_lead, the_name_lead, at_holds, word_sure, the_name_one, sign_sure, line_end_sure}
use Rattle.il_syntax_laws.proofs.Instructions.{none, sort_at, instruction_one, instruction_no_label, instruction_no_word}

-- a line end is skipped
pub skip_one : (ts m : List Token) → TheLineEnd ts m → skip_line_ends ts ≡ skip_line_ends m
skip_one [] m p = absurd p
skip_one (t ∷ ts) m p = rw p.0 (ap skip_line_ends p.1)

module _ (text : List ℕ) where
  -- a label is one
  pub label_one : IsDeterministic (SpellsLabel text)
  label_one = before tight (the_name_one text) (sign_sure Colon)

  -- a label on a line of its own is one
  pub label_line_one : IsDeterministic (SpellsLabelLine text)
  label_line_one = before tight label_one line_end_sure

  -- a label begins with a name
  pub label_lead : (n : Named) (ts r : List Token) → SpellsLabel text n ts r → lead text ts ≡ name
  label_lead n ts r p = the_name_lead text n ts p.0 p.1

  -- what has labels begins with the first
  pub first_label : (n : Named) (ns : List Named) (P : Front) (ts r : List Token) → SpellsLabelled text (n ∷ ns) P ts r → (m : List Token) × SpellsLabel text n ts m
  first_label n [] P ts r p = (p.0, p.1)
  first_label n (o ∷ ns) P ts r p = (p.0, p.1)

  -- labels, and a thing that begins with none
  pub labelled_one : {B : Type 0} {Q : B → Front} → IsDeterministic Q → AreApart Q (SpellsLabel text) → IsDeterministic (λ (x : List Named × B). SpellsLabelled text x.0 (Q x.1))
  labelled_one {B = B} {Q = Q} one apart = record { only = λ x y ts r s p q. go x.0 y.0 x.1 y.1 ts r s p q }
    where
      mixed : (n o : Named) (ns : List Named) (l : Named) (x y : B) (ts r s : List Token) → SpellsLabelled text (n ∷ []) (Q x) ts r → SpellsLabelled text (o ∷ l ∷ ns) (Q y) ts s → ⊥
      mixed n o ns l x y ts r s p q =
          let same = label_one.only n o ts p.0 q.0 p.1 q.1 in
          let skips = ap skip_line_ends same.1 ∙ skip_one q.0 q.2.0 q.2.1 in
          let next = first_label l ns (Q y) (skip_line_ends q.2.0) s q.2.2 in
          apart.never x l (skip_line_ends q.2.0) r next.0 (subst (λ m. Q x m r) skips p.2) next.1

      go : (ns os : List Named) (x y : B) (ts r s : List Token) → SpellsLabelled text ns (Q x) ts r → SpellsLabelled text os (Q y) ts s
          → (◌≡◌ {A = List Named × B} (ns, x) (os, y)) × (r ≡ s)
      go [] [] x y ts r s p q = let same = one.only x y ts r s p q in (λ i. ([], same.0 i), same.1)
      go [] (o ∷ os) x y ts r s p q = let next = first_label o os (Q y) ts s q in absurd (apart.never x o ts r next.0 p next.1)
      go (n ∷ ns) [] x y ts r s p q = let next = first_label n ns (Q x) ts r p in absurd (apart.never y n ts s next.0 q next.1)
      go (n ∷ []) (o ∷ []) x y ts r s p q =
          let same = label_one.only n o ts p.0 q.0 p.1 q.1 in
          let rest = one.only x y (skip_line_ends q.0) r s (subst (λ m. Q x (skip_line_ends m) r) same.1 p.2) q.2 in
          (λ i. (same.0 i ∷ [], rest.0 i), rest.1)
      go (n ∷ []) (o ∷ l ∷ os) x y ts r s p q = absurd (mixed n o os l x y ts r s p q)
      go (n ∷ l ∷ ns) (o ∷ []) x y ts r s p q = absurd (mixed o n ns l y x ts s r q p)
      go (n ∷ k ∷ ns) (o ∷ l ∷ os) x y ts r s p q =
          let same = label_one.only n o ts p.0 q.0 p.1 q.1 in
          let line = line_end_sure.only q.0 p.2.0 q.2.0 (subst (λ m. TheLineEnd m p.2.0) same.1 p.2.1) q.2.1 in
          let rest = go (k ∷ ns) (l ∷ os) x y (skip_line_ends q.2.0) r s (subst (λ m. SpellsLabelled text (k ∷ ns) (Q x) (skip_line_ends m) r) line p.2.2) q.2.2 in
          (λ i. (same.0 i ∷ (rest.0 i).0, (rest.0 i).1), rest.1)

  -- an instruction at its place is no label
  placed_no_label : AreApart (λ (x : Place × Instruction). At x.0 (SpellsInstruction text x.1)) (SpellsLabel text)
  placed_no_label = record { never = λ x n ts r s p q. instruction_no_label text x.1 n ts r s (at_holds text (SpellsInstruction text x.1) x.0 ts r p) q }

  -- an instruction with its labels is one
  pub step_one : IsDeterministic (SpellsStep text)
  step_one =
      through (λ s. (s.labels, (s.place, s.instruction))) (λ a b e i. record { labels = (e i).0; place = (e i).1.0; instruction = (e i).1.1 })
      (labelled_one (at_place (instruction_one text)) placed_no_label)

  -- the labels at the end of a body, and the word that ends it
  pub ends_one : (last : Keyword) → IsDeterministic (λ (x : List Named × Place). Repeats (SpellsLabelLine text) x.0 (At x.1 (TheWord text last)))
  ends_one last =
      repeats label_line_one (place_of (word_sure text last))
      (record { never = λ n e ts r s p q. cc (label_lead n ts p.0 p.1, word_lead text last ts s (at_holds text (TheWord text last) e ts s q)) })

  -- a step, and the end of a body
  pub step_no_end : (last : Keyword) → sort_at (reserved last) ≡ none
      → AreApart (SpellsStep text) (λ (x : List Named × Place). Repeats (SpellsLabelLine text) x.0 (At x.1 (TheWord text last)))
  step_no_end last other = record { never = λ a x ts r s p q. go a.labels x.0 a x.1 ts r s p q }
    where
      go : (ns ks : List Named) (a : Step) (e : Place) (ts r s : List Token) → SpellsLabelled text ns (At a.place (SpellsInstruction text a.instruction)) ts r
          → Repeats (SpellsLabelLine text) ks (At e (TheWord text last)) ts s → ⊥
      go [] [] a e ts r s p q =
          instruction_no_word text a.instruction last ts r s other (at_holds text (SpellsInstruction text a.instruction) a.place ts r p) (at_holds text (TheWord text last) e ts s q)
      go [] (k ∷ ks) a e ts r s p q =
          instruction_no_label text a.instruction k ts r q.1.0 (at_holds text (SpellsInstruction text a.instruction) a.place ts r p) q.1.1
      go (n ∷ ns) [] a e ts r s p q =
          let next = first_label n ns _ ts r p in cc (label_lead n ts next.0 next.1, word_lead text last ts s (at_holds text (TheWord text last) e ts s q))
      go (n ∷ []) (k ∷ ks) a e ts r s p q =
          let same = label_one.only n k ts p.0 q.1.0 p.1 q.1.1 in
          let skips = ap skip_line_ends same.1 ∙ skip_one q.1.0 q.0 q.1.2 in
          go [] ks a e (skip_line_ends q.0) r s (subst (λ m. At a.place (SpellsInstruction text a.instruction) m r) skips p.2) q.2
      go (n ∷ o ∷ ns) (k ∷ ks) a e ts r s p q =
          let same = label_one.only n k ts p.0 q.1.0 p.1 q.1.1 in
          let line = line_end_sure.only q.1.0 p.2.0 q.0 (subst (λ m. TheLineEnd m p.2.0) same.1 p.2.1) q.1.2 in
          go (o ∷ ns) ks a e (skip_line_ends q.0) r s (subst (λ m. SpellsLabelled text (o ∷ ns) (At a.place (SpellsInstruction text a.instruction)) (skip_line_ends m) r) line p.2.2) q.2

  -- a body up to a word that begins no instruction is one
  pub body_until_one : (last : Keyword) → sort_at (reserved last) ≡ none → IsDeterministic (SpellsBody text last)
  body_until_one last other = record { only = λ a b ts r s p q. inside.only a b ts r s p.1 q.1 }
    where
      inside : IsDeterministic (λ (b : Body). TheLineEnd ⋯ Repeats (SpellsStep text) b.steps (Repeats (SpellsLabelLine text) b.last_labels (At b.end (TheWord text last))))
      inside =
          through (λ b. (b.steps, (b.last_labels, b.end))) (λ a b e i. record { steps = (e i).0; last_labels = (e i).1.0; end = (e i).1.1 })
          (behind loose line_end_sure (repeats step_one (ends_one last) (step_no_end last other)))

  -- the body of a unit is one
  pub body_one : (kind : UnitKind) → IsDeterministic (SpellsBody text (end_word kind))
  body_one (unit.Function result place) = body_until_one word.EndFunction refl
  body_one unit.FunctionBlock = body_until_one word.EndFunctionBlock refl
  body_one unit.Program = body_until_one word.EndProgram refl
