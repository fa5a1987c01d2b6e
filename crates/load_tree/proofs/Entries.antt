-- What comes next in a body.
use Rattle.std.proofs.Common.{◌≡◌, ℕ, zero, suc, ◌+◌, ◌<◌, ◌≤◌, Bool, true, false, not, ◌&&◌, List, [], ◌∷◌, ◌++◌, drop, length, length-append, subst, append-nil, refl, sym, ◌∙◌, ap, inl, inr, Option, Some, None, arith}
use Rattle.std.proofs.lemmas.Bool.{cases_lt}
use Rattle.std.proofs.lemmas.Bool.Decides.{nat_tests}
use Rattle.std.specs.Prelude.{IsTrue, IsFalse, ◌==◌, max}
use Rattle.il_syntax.specs.declared.token.Token.{Token}
use Rattle.il_syntax.specs.declared.token.Sign.TheVariants.{CloseParenthesis, Ampersand}
use Rattle.il_syntax.specs.declared.keyword.Keyword.{Keyword}
use Rattle.il_syntax.specs.declared.keyword.Keyword.TheVariants as word
use Rattle.il_syntax.specs.declared.tree.Place.{Place}
use Rattle.il_syntax.specs.declared.tree.Named.{Named}
use Rattle.il_syntax.specs.declared.tree.Operator.{Operator}
use Rattle.il_syntax.specs.declared.tree.Operator.TheVariants as operator
use Rattle.il_syntax.specs.declared.tree.Logic.TheVariants.{Conjunction, Disjunction, Exclusive}
use Rattle.il_syntax.specs.declared.tree.Instruction.{Instruction}
use Rattle.il_syntax.specs.declared.tree.Instruction.TheVariants as instruction
use Rattle.il_syntax.specs.declared.tree.Step.{Step}
use Rattle.il_syntax.specs.declared.tree.Body.{Body}
use Rattle.il_syntax.specs.Grammar.{tight, Front, At, skip_line_ends, Repeats, TheWord, SpellsOperator, SpellsShortly, SpellsAmpersand, SpellsInstruction, SpellsLabelled, SpellsStep, SpellsLabelLine, may_stand, closes, leaves, is_load, depth_after, needs_load, is_nested, greatest_depth}
use Rattle.il_syntax_laws.specs.GoesOn.{always}
use Rattle.il_syntax_laws.proofs.Open.{step_fills}
use Rattle.il_syntax_laws.proofs.GoesOn.{IsFilling}
use Rattle.il_syntax_laws.proofs.Leads.{at_holds, reserved}
use Rattle.il_syntax_laws.proofs.Instructions.{sort_at, none}
use Rattle.il_syntax_laws.proofs.Bodies.{step_no_end}
use Rattle.load_lines.specs.Lead.{lead_at}
use Rattle.std.specs.Prelude.{◌⊎◌}
use Rattle.il_syntax.specs.declared.token.Kind.TheVariants as kind
use Rattle.il_syntax.specs.Text.{name_of}
use Rattle.il_syntax_laws.specs.Alike.{IsEndOf, AreAlike}
use Rattle.il_syntax_laws.proofs.Alike.{end_self, end_length, end_of_end}
use Rattle.il_syntax_laws.proofs.Local.{step_local, loosely_local}
use Rattle.load_lines.specs.declared.stop.SyntaxError.{SyntaxError}
use Rattle.load_lines.specs.declared.stop.SyntaxError.TheVariants.{Unexpected, TooDeep, TooMany}
use Rattle.load_lines.specs.Reads.{Reads, GoesOnNoMore, RefusesBy, turn, past_name, fault_at, error_of, HasRoom, room_by, IsPlaceOf, SpellsRoomy, SpellsRoomyBy}
use Rattle.load_lines.specs.declared.lead.Lead.{Lead}
use Rattle.load_lines.specs.declared.lead.Lead.TheVariants as lead
use Rattle.load_lines.specs.declared.stop.Stop.{Stop}
use Rattle.load_lines.proofs.Leaves.{word_lead, word_there, sign_lead, name_there, the_name_lead, lead_alike}
use Rattle.load_lines.proofs.Chain.{HasRead, lift, ended}
use Rattle.load_lines.proofs.ByError.{error_is}
use Rattle.load_tree.proofs.ByError.{room_fits, nothing_begins}
use Rattle.load_tree.proofs.Ahead.{goes_on_apart}
use Rattle.load_lines.specs.Settings.{TakesWord}
use Rattle.load_lines.proofs.Nesting.{IsOpen, one_open, closed}
use Rattle.load_tree.specs.Bodies.{closes_lead, leaves_lead, ends_lead, loads_lead, begins_lead, may_begin, bare, SpellsPlaced, SpellsPlacedBy, FitsBy, RefusesPlaced, HasLabels, TakesEnd, SpellsNext, SpellsNextBy, IsLast, SpellsSteps, SpellsStepsBy, IsFewBy}
use Rattle.load_tree.specs.declared.bodies.Entry.{Entry}
use Rattle.load_tree.specs.declared.bodies.Entry.TheVariants as entry

-- what its first token tells of an instruction
record Tells (l : Lead) (i : Instruction) : Type 0 where
  closing : closes_lead l ≡ closes i
  leaving : leaves_lead l ≡ leaves i
  loading : loads_lead l ≡ is_load i

-- a word that ends a body begins no instruction
pub last_none : (k : Keyword) → IsLast k → sort_at (reserved k) ≡ none
last_none word.EndFunction is = refl
last_none word.EndFunctionBlock is = refl
last_none word.EndProgram is = refl
last_none k is = absurd is

-- it begins as such a word
last_ends : (k : Keyword) → IsLast k → ends_lead (lead.Reserved k) ≡ true
last_ends word.EndFunction is = refl
last_ends word.EndFunctionBlock is = refl
last_ends word.EndProgram is = refl
last_ends k is = absurd is

-- a successor is not zero
pub not_zero : (d : ℕ) → (suc d == 0) ≡ false
not_zero d = grind (arith, nat_tests)

pub both_left : (a b : Bool) → (a && b) ≡ true → a ≡ true
both_left true b e = refl
both_left false b e = e

zero_is : (d : ℕ) → (d == 0) ≡ true → d ≡ 0
zero_is zero e = refl
zero_is (suc d) e = let bad : false ≡ true = sym (not_zero d) ∙ e in absurd cc

-- instructions with their labels hold of cut tokens
pub step_filling : IsFilling tight always (λ text. SpellsStep text)
step_filling = record { one = step_fills }

-- the labels at the end of a body, and its end
abbrev pub TheEnds : List ℕ → Keyword → List Named × Place → Front
TheEnds text last b = Repeats (SpellsLabelLine text) b.0 (At b.1 (TheWord text last))

module _ (text : List ℕ) where
  ampersand_lead : (b : Bool) (ts r : List Token) → SpellsAmpersand text b ts r → lead_at text ts ≡ lead.Sign Ampersand
  ampersand_lead b [] r p = absurd p
  ampersand_lead b (t ∷ ts) r p = sign_lead text Ampersand (t ∷ ts) ts (p.0, refl)

  short_lead : (o : Operator) (ts r : List Token) → SpellsShortly text o ts r → lead_at text ts ≡ lead.Sign Ampersand
  short_lead (operator.Logic Conjunction negated) ts r p = ampersand_lead negated ts r p
  short_lead (operator.Logic Disjunction negated) ts r p = absurd p
  short_lead (operator.Logic Exclusive negated) ts r p = absurd p
  short_lead (operator.Arithmetic a) ts r p = absurd p
  short_lead (operator.Comparison c) ts r p = absurd p

  operator_tells : (i : Instruction) (o : Operator) (ts r : List Token) → closes i ≡ false → leaves i ≡ false → is_load i ≡ false → SpellsOperator text o ts r → Tells (lead_at text ts) i
  operator_tells i o ts r a b c (inl p) = rw (word_lead text (word.Operate o) ts r p) (record { closing = sym a; leaving = sym b; loading = sym c })
  operator_tells i o ts r a b c (inr p) = rw (short_lead o ts r p) (record { closing = sym a; leaving = sym b; loading = sym c })

  tells : (i : Instruction) (ts r : List Token) → SpellsInstruction text i ts r → Tells (lead_at text ts) i
  tells (instruction.Load n o) ts r p = rw (word_lead text (word.Load n) ts p.0 p.1) (record { closing = refl; leaving = refl; loading = refl })
  tells (instruction.Store k o) ts r p = rw (word_lead text (word.Store k) ts p.0 p.1) (record { closing = refl; leaving = refl; loading = refl })
  tells instruction.Not ts r p = rw (word_lead text word.Not ts p.0 p.1) (record { closing = refl; leaving = refl; loading = refl })
  tells (instruction.Operate op o) ts r p = operator_tells (instruction.Operate op o) op ts p.0 refl refl refl p.1
  tells (instruction.Defer op o) ts r p = operator_tells (instruction.Defer op o) op ts p.0 refl refl refl p.1
  tells instruction.Evaluate ts r p = rw (sign_lead text CloseParenthesis ts p.0 p.1) (record { closing = refl; leaving = refl; loading = refl })
  tells (instruction.Jump k n) ts r p = rw (word_lead text (word.Jump k) ts p.0 p.1) (record { closing = refl; leaving = refl; loading = refl })
  tells (instruction.Return k) ts r p = rw (word_lead text (word.Return k) ts p.0 p.1) (record { closing = refl; leaving = refl; loading = refl })
  tells (instruction.Call k n a) ts r p = rw (word_lead text (word.Call k) ts p.0 p.1) (record { closing = refl; leaving = refl; loading = refl })
  tells (instruction.Invoke f a) ts r p = rw (the_name_lead text f ts p.0 p.1) (record { closing = refl; leaving = refl; loading = refl })

  -- the first token tells whether an instruction may be there
  pub may_so : (depth : ℕ) (load : Bool) (p : Place) (i : Instruction) (ts r : List Token) → SpellsInstruction text i ts r → may_begin depth load (lead_at text ts) ≡ may_stand depth load (bare p i)
  may_so zero load p i ts r w = ap not (tells i ts r w).closing
  may_so (suc depth) load p i ts r w = let t = tells i ts r w in rw (not_zero depth, t.leaving, t.loading) refl

  -- an instruction that is read, and may be there
  room_enough : (room : Bool) (depth : ℕ) (i : Instruction) → depth ≤ 16 → (IsTrue room → depth < 16) → HasRoom room i → depth_after depth i ≤ 16
  room_enough room depth (instruction.Defer op first) small roomy has = let a = roomy has in omega arith
  room_enough room zero instruction.Evaluate small roomy has = omega arith
  room_enough room (suc depth) instruction.Evaluate small roomy has = let a : depth ≤ 16 = omega arith in a
  room_enough room depth i small roomy has = small

  at_there : (P : Front) (p : Place) (ts r : List Token) → IsPlaceOf p ts → P ts r → At p P ts r
  at_there P p [] r here w = absurd here
  at_there P p (t ∷ ts) r here w = (here.0, here.1, w)

  pub placed_read : (room : Bool) (depth : ℕ) (load full : Bool) (p : Place) (i : Instruction) (ts r : List Token) → depth ≤ 16 → (IsTrue room → depth < 16) → IsPlaceOf p ts
      → may_begin depth load (lead_at text ts) ≡ true → full ≡ false → Reads (SpellsRoomy text room) ts i r → Reads (SpellsPlaced text depth load full) ts (p, i) r
  placed_read room depth load full p i ts r small roomy place may open_ here = record {
    found = (
      at_there (SpellsInstruction text i) p ts r place here.found.1,
      sym (may_so depth load p i ts r here.found.1) ∙ may,
      room_enough room depth i small roomy here.found.0,
      ap not open_,
    );
  }

  -- the word that ends the body, where it may be
  pub end_taken : (last : Keyword) (alone : Bool) (ts r : List Token) (o : Option Place) → IsTrue alone → TakesWord text last ts o r → TakesEnd text last alone ts o r
  end_taken last alone ts r (Some p) is w = (is, w)
  end_taken last alone ts r None is w = (w.0, λ p q at _. w.1 q (at_holds text (TheWord text last) p ts q at))

  pub no_end : (last : Keyword) (alone : Bool) (ts : List Token) (l : Lead) → IsLast last → l ≡ lead_at text ts → ends_lead l ≡ false → TakesEnd text last alone ts None ts
  no_end last alone ts l ends begins other = (
    refl,
    λ p q at is.
        let here : l ≡ lead.Reserved last = begins ∙ word_lead text last ts q (at_holds text (TheWord text last) p ts q at) in
        let yes : ends_lead l ≡ true = ap ends_lead here ∙ last_ends last ends in
        cc,
  )

  pub end_out : (last : Keyword) (alone : Bool) (ts : List Token) → alone ≡ false → TakesEnd text last alone ts None ts
  end_out last alone ts off = (refl, λ p q at is. let bad : alone ≡ true = is in cc)

  pub inner_read : (last : Keyword) (depth : ℕ) (load full : Bool) (ts r : List Token) (p : Place) (i : Instruction) → Reads (SpellsPlaced text depth load full) ts (p, i) r
      → Reads (SpellsNext text last depth load full) ts (entry.Step (record { labels = []; place = p; instruction = i })) r
  inner_read last depth load full ts r p i here = record { found = (here.found.0, (here.found.1, here.found.2, here.found.3)) }

  -- the body has no such instructions
  at_least : (d : ℕ) (xs : List Step) → d ≤ greatest_depth d xs
  at_least d [] = omega arith
  at_least d (x ∷ xs) = omega arith

  free : (full : Bool) (n : ℕ) → (IsTrue full → n ≡ 4096) → n < 4096 → IsTrue (not full)
  free true n is few = let a = is refl in absurd (omega (arith, a, few))
  free false n is few = refl

  pub steps_read : (last : Keyword) (start ts r : List Token) (xs : List Step) (depth : ℕ) (load full : Bool) (most : ℕ) (ls : List Named) (p : Place) → most ≤ 16 → depth ≤ 16 → length xs ≤ 4096 → IsOpen xs depth load most
      → ((b : List Named × Place) → HasRead SpellsStep (λ text. TheEnds text last b) text start xs ts) → Reads (SpellsNext text last depth load full) ts (entry.End ls p) r
      → Reads (SpellsSteps text last) start (record { steps = xs; last_labels = ls; end = p }) r
  steps_read last start ts r xs depth load full most ls p most_small small few opens so_far here =
      let deep = sym (opens.deep []) ∙ ap (λ ys. greatest_depth 0 ys) (append-nil xs) in
      record {
        found = (
          (ended _ _ _ start xs ts r (so_far (ls, p)) here.found.0).found,
          closed xs depth load most opens ∙ ap (λ d. d == 0) here.found.1,
          few,
          omega (arith, deep, most_small, small),
        );
      }

  pub open_on : (last : Keyword) (ts m : List Token) (xs : List Step) (depth : ℕ) (load full : Bool) (most : ℕ) (x : Step) → IsOpen xs depth load most → Reads (SpellsNext text last depth load full) ts (entry.Step x) m
      → IsOpen (xs ++ x ∷ []) (depth_after depth x.instruction) (needs_load x.instruction) (max most depth)
  open_on last ts m xs depth load full most x opens here = one_open xs depth load most x opens here.found.1.0

-- what an instruction is, without the labels
past_inside : (l : Lead) (ts : List Token) → IsEndOf (past_name l ts) ts
past_inside lead.Name [] = refl
past_inside lead.Name (t ∷ ts) = inr (end_self ts)
past_inside lead.Nothing ts = end_self ts
past_inside (lead.Reserved k) ts = end_self ts
past_inside (lead.Number v) ts = end_self ts
past_inside (lead.Typed v) ts = end_self ts
past_inside (lead.Sign s) ts = end_self ts
past_inside lead.LineEnd ts = end_self ts

-- a place of a token
abbrev place_of : Token → Place
place_of t = record { offset = t.start; line = t.line }

module _ (text : List ℕ) where
  -- it may not be there
  pub stands_not : (depth : ℕ) (load full : Bool) (ts : List Token) (e : Stop) → may_begin depth load (lead_at text ts) ≡ false → e ≡ fault_at Unexpected ts → RefusesPlaced text depth load full ts e
  stands_not depth load full ts e out here = record { fault = λ is. (Unexpected, ts, here, end_self ts, named, record { inside = end_self ts; never = go }) }
    where
      named : depth ≡ 0 → lead_at text ts ≡ lead.Name → IsEndOf ts (drop 1 ts)
      named z l =
          let yes : may_begin 0 load lead.Name ≡ true = refl in
          let bad : true ≡ false = sym yes ∙ ap (λ d. may_begin d load lead.Name) (sym z) ∙ ap (λ x. may_begin depth load x) (sym l) ∙ out in
          absurd cc

      go : (other : List ℕ) (us : List Token) → AreAlike text other ts ts us → (x : Place × Instruction) (r : List Token) → SpellsPlacedBy depth load full (error_of e) other x us r → ⊥
      go other us a x r w =
          let here : may_begin depth load (lead_at other us) ≡ false = ap (λ l. may_begin depth load l) (lead_alike text other ts ts us a) ∙ out in
          let bad : false ≡ true = sym here ∙ may_so other depth load x.0 x.1 us r (at_holds other (SpellsInstruction other x.1) x.0 us r w.0) ∙ w.1 in
          cc

  -- the text ends
  pub none_stands : (depth : ℕ) (load full : Bool) (ts : List Token) (e : Stop) → ts ≡ [] → e ≡ fault_at Unexpected ts → RefusesPlaced text depth load full ts e
  unfolding lead_at
  none_stands depth load full [] e empty here = record {
    fault = λ is. (
      Unexpected,
      [],
      here,
      refl,
      λ z l. absurd cc,
      record { inside = refl; never = λ other us a x r w. subst (λ (v : List Token). At x.0 (SpellsInstruction other x.1) v r) a.1 w.0 },
    );
  }
  none_stands depth load full (t ∷ ts) e empty here = absurd cc

  -- A name alone on its line calls a function without operands: so it is the token after a name that nothing goes on with.
  behind_name : (room : Bool) (back ts : List Token) → GoesOnNoMore (λ text. SpellsRoomy text room) text ts back → lead_at text ts ≡ lead.Name → IsEndOf back (drop 1 ts)
  unfolding lead_at
  behind_name room back [] gone name = absurd cc
  behind_name room back (t ∷ ts) gone name = go gone.inside
    where
      line : Token
      line = record { kind = kind.LineEnd; start = 0; end = 0; line = 0 }

      call : Instruction
      call = instruction.Invoke (record { place = place_of t; name = name_of text t }) []

      go : ((back ≡ t ∷ ts) ⊎ IsEndOf back ts) → IsEndOf back ts
      go (inr p) = p
      go (inl e) =
          let a : AreAlike text text back (t ∷ ts) (t ∷ line ∷ []) = (line ∷ [], refl, refl, inl e) in
          let named = name_there text t (t ∷ line ∷ []) (line ∷ []) refl (lead_alike text text back (t ∷ ts) (t ∷ line ∷ []) a ∙ name) in
          let it : SpellsRoomy text room call (t ∷ line ∷ []) [] = (tt, (line ∷ [], (refl, refl, named), (refl, refl))) in
          absurd (gone.never text (t ∷ line ∷ []) a call [] it)

  -- no instruction is read there
  pub placed_refused : (room : Bool) (depth : ℕ) (load full : Bool) (ts : List Token) (e : Stop) → (IsFalse room → 16 ≤ depth) → RefusesBy (SpellsRoomyBy room) text ts e → RefusesPlaced text depth load full ts e
  placed_refused room depth load full ts e out bad = record {
    fault = λ is.
        let b = bad.fault is in (
          b.0,
          b.1,
          b.2,
          b.3,
          λ z name. behind_name (room_by (error_of e) room) (turn b.0 text b.1) ts b.4 name,
          record {
            inside = b.4.inside;
            never = λ other us a x r w. b.4.never other us a x.1 r (room_fits (error_of e) room depth full x.1 out w.2, at_holds other (SpellsInstruction other x.1) x.0 us r w.0);
          },
        );
  }

  -- the body is full
  pub full_refused : (depth : ℕ) (load full : Bool) (l : Lead) (ts : List Token) (e : Stop) → full ≡ true → l ≡ lead_at text ts → ((e ≡ fault_at TooMany ts) × IsTrue (begins_lead l)) ⊎ ((e ≡ fault_at Unexpected ts) × IsFalse (begins_lead l))
      → RefusesPlaced text depth load full ts e
  full_refused depth load full l ts e is_full same (inl here) = record {
    fault = λ is. (
      TooMany,
      ts,
      here.0,
      end_self ts,
      λ z name. subst (λ (x : Lead). IsEndOf (past_name x ts) (drop 1 ts)) (sym name) (end_self (drop 1 ts)),
      record { inside = past_inside (lead_at text ts) ts; never = λ other us a x r w. out x.1 w.2 },
    );
  }
    where
      out : (i : Instruction) → FitsBy (error_of e) depth full i → ⊥
      out i fits =
          let bad : not full ≡ true = subst (λ (error : SyntaxError). FitsBy error depth full i) (error_is TooMany ts e here.0) fits in
          let is = ap not is_full in
          cc
  full_refused depth load full l ts e is_full same (inr here) = placed_refused full depth load full ts e (λ is. absurd cc) (nothing_begins text full l ts e (sym same) here.1 here.0)

  -- a word that ends the body is in alike tokens where it is in these
  last_there : (last : Keyword) (other : List ℕ) (back m vs : List Token) (p : Place) (r : List Token) → AreAlike text other back m vs → At p (TheWord other last) vs r → (q : Place) × (k : List Token) × At q (TheWord text last) m k
  last_there last other back [] vs p r a w = absurd (subst (λ (x : List Token). At p (TheWord other last) x r) a.1 w)
  last_there last other back (t ∷ m) vs p r a w =
      let l = sym (lead_alike text other back (t ∷ m) vs a) ∙ word_lead other last vs r (at_holds other (TheWord other last) p vs r w) in
      (place_of t, m, (refl, refl, word_there text last (t ∷ m) l))

  -- after labels is no instruction, and no end
  pub outer_refused : (last : Keyword) (load full alone : Bool) (start m : List Token) (ns : List Named) (e : Stop) → HasLabels text start ns alone m
      → ((p : Place) (r : List Token) → At p (TheWord text last) m r → IsTrue alone → ⊥) → RefusesPlaced text 0 load full m e → RefusesBy (SpellsNextBy last 0 load full) text start e
  outer_refused last load full alone start m ns e labels out bad = record {
    fault = λ is.
        let b = bad.fault is in
        let back = turn b.0 text b.1 in (
          b.0,
          b.1,
          b.2,
          end_of_end b.1 m start labels.inside b.3,
          record { inside = end_of_end back m start labels.inside b.5.inside; never = λ other us a x r w. go back (λ name. end_length back (drop 1 m) (b.4 refl name)) b.5 other us a x r w },
        );
  }
    where
      go : (back : List Token) → (lead_at text m ≡ lead.Name → length back ≤ length (drop 1 m)) → GoesOnNoMore (SpellsPlacedBy 0 load full (error_of e)) text m back
          → (other : List ℕ) (us : List Token) → AreAlike text other back start us → (x : Entry) (r : List Token) → SpellsNextBy last 0 load full (error_of e) other x us r → ⊥
      go back named gone other us a (entry.Step s) r w =
          let read = labels.left other back us a (end_length back m gone.inside) named in
          let n = read.2 s.place s.instruction s.labels r w.0 in
          gone.never other read.0 read.1 (s.place, s.instruction) r (n.1, w.1.0, w.1.1)
      go back named gone other us a (entry.End ls p) r w =
          let read = labels.left other back us a (end_length back m gone.inside) named in
          let n = read.3 last p ls r w.0 in
          let there = last_there last other back m read.0 p r read.1 n.1 in
          out there.0 there.1 there.2 n.2

  -- in parentheses are no labels, and no end
  pub inner_refused : (last : Keyword) (depth : ℕ) (load full : Bool) (ts : List Token) (e : Stop) → (depth ≡ 0 → ⊥) → RefusesPlaced text depth load full ts e → RefusesBy (SpellsNextBy last depth load full) text ts e
  inner_refused last zero load full ts e inside bad = absurd (inside refl)
  inner_refused last (suc depth) load full ts e inside bad = record {
    fault = λ is.
        let b = bad.fault is in
        (b.0, b.1, b.2, b.3, record { inside = b.5.inside; never = λ other us a x r w. go (turn b.0 text b.1) b.5 other us a x r w });
  }
    where
      unlabelled : (back : List Token) → GoesOnNoMore (SpellsPlacedBy (suc depth) load full (error_of e)) text ts back → (other : List ℕ) (us : List Token) → AreAlike text other back ts us
          → (ls : List Named) (p : Place) (i : Instruction) (r : List Token) → SpellsLabelled other ls (At p (SpellsInstruction other i)) us r
          → IsTrue (may_stand (suc depth) load (record { labels = ls; place = p; instruction = i })) → FitsBy (error_of e) (suc depth) full i → ⊥
      unlabelled back gone other us a [] p i r w may fits = gone.never other us a (p, i) r (w, may, fits)
      unlabelled back gone other us a (l ∷ ls) p i r w may fits = let bad : false ≡ true = sym (not_zero (length ls)) ∙ both_left _ _ (both_left _ _ may) in cc

      go : (back : List Token) → GoesOnNoMore (SpellsPlacedBy (suc depth) load full (error_of e)) text ts back → (other : List ℕ) (us : List Token) → AreAlike text other back ts us
          → (x : Entry) (r : List Token) → SpellsNextBy last (suc depth) load full (error_of e) other x us r → ⊥
      go back gone other us a (entry.Step s) r w = unlabelled back gone other us a s.labels s.place s.instruction r w.0 w.1.0 w.1.1
      go back gone other us a (entry.End ls p) r w = inside w.1

  -- the body has no such instructions
  pub steps_refused : (last : Keyword) (start ts : List Token) (xs : List Step) (depth : ℕ) (load full : Bool) (most : ℕ) (e : Stop) → (IsTrue full → length xs ≡ 4096) → IsOpen xs depth load most
      → ((b : List Named × Place) → HasRead SpellsStep (λ text. TheEnds text last b) text start xs ts) → RefusesBy (SpellsNextBy last depth load full) text ts e → RefusesBy (SpellsStepsBy last) text start e
  steps_refused last start ts xs depth load full most e is_full opens so_far bad =
      let within = (so_far ([], record { offset = 0; line = 0 })).inside in
      lift within (λ back gone. record {
        inside = end_of_end back ts start within gone.inside;
        never = λ other us a b r w.
            let so = (so_far (b.last_labels, b.end)).left other back us a (end_length back ts gone.inside) in
            let l = so.2 b.steps r w.0 in
            go back gone other so.0 so.1 b us r w l.0 l.1 l.2;
      }) bad
    where
      fits : (error : SyntaxError) (b : Body) (y : Step) (more : List Step) → b.steps ≡ xs ++ y ∷ more → IsFewBy error b → FitsBy error depth full y.instruction
      fits Unexpected b y more same few = tt
      fits TooDeep b y more same few =
          let deep = sym (opens.deep (y ∷ more)) ∙ ap (λ ys. greatest_depth 0 ys) (sym same) in
          let least = at_least text (depth_after depth y.instruction) more in
          omega (arith, deep, least, few)
      fits TooMany b y more same few =
          let size = ap length same ∙ length-append xs (y ∷ more) in
          let less : length xs < 4096 = omega (arith, size, few) in
          free text full (length xs) is_full less

      go : (back : List Token) → GoesOnNoMore (SpellsNextBy last depth load full (error_of e)) text ts back → (other : List ℕ) (vs : List Token) → AreAlike text other back ts vs
          → (b : Body) (us r : List Token) → SpellsStepsBy last (error_of e) other b us r → (more : List Step) → b.steps ≡ xs ++ more → Repeats (SpellsStep other) more (TheEnds other last (b.last_labels, b.end)) vs r → ⊥
      go back gone other vs a b us r w [] same left =
          let here : b.steps ≡ xs = same ∙ append-nil xs in
          let shut : (depth == 0) ≡ true = sym (closed xs depth load most opens) ∙ ap (λ ys. is_nested 0 false ys) (sym here) ∙ w.1 in
          gone.never other vs a (entry.End b.last_labels b.end) r (left, zero_is depth shut)
      go back gone other vs a b us r w (y ∷ more) same left =
          let nested = sym (opens.nested (y ∷ more)) ∙ ap (λ ys. is_nested 0 false ys) (sym same) ∙ w.1 in
          let may = both_left (may_stand depth load y) _ nested in
          gone.never other vs a (entry.Step y) left.0 (left.1, (may, fits (error_of e) b y more same w.2))

  pub step_on : (last : Keyword) → IsLast last → (start ts m : List Token) (xs : List Step) (depth : ℕ) (load full : Bool) (x : Step)
      → ((b : List Named × Place) → HasRead SpellsStep (λ text. TheEnds text last b) text start xs ts) → Reads (SpellsNext text last depth load full) ts (entry.Step x) m
      → (b : List Named × Place) → HasRead SpellsStep (λ text. TheEnds text last b) text start (xs ++ x ∷ []) (skip_line_ends m)
  step_on last is start ts m xs depth load full x so_far here b =
      goes_on_apart SpellsStep (λ text. TheEnds text last b) text step_filling (loosely_local step_local) start xs ts x m (λ other us r q w v. (step_no_end other last (last_none last is)).never x b us q r w v) (so_far b) (record { found = here.found.0 })

-- there is room for one more
pub few_on : (full : Bool) (n : ℕ) → IsTrue (not full) → (IsFalse full → n ≡ 4096 → ⊥) → n ≤ 4096 → n + 1 ≤ 4096
few_on true n free out le = absurd cc
few_on false n free out le = elim (cases_lt n 4096) [ inl lt ↦ omega arith | inr ge ↦ absurd (out refl (omega arith)) ]
