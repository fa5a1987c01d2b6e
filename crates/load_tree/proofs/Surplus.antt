-- What a limit forbids, and no rule.
use Rattle.std.specs.Prelude.{◌⊎◌, IsTrue, IsFalse}
use Rattle.std.specs.List.{All}
use Rattle.std.proofs.Common.{◌≡◌, ◌<◌, ◌≤◌, ◌++◌, length, length-append, arith, ℕ, Bool, true, false, List, [], ◌∷◌, refl, sym, ◌∙◌, ap, subst, inl, inr, drop}
use Rattle.std.proofs.lemmas.List.Elements.{All-nil, All-cons, All-append}
use Rattle.il_syntax.specs.declared.token.Token.{Token}
use Rattle.il_syntax.specs.declared.token.Sign.TheVariants.{Ampersand, CloseParenthesis}
use Rattle.il_syntax.specs.declared.keyword.Keyword.{Keyword}
use Rattle.il_syntax.specs.declared.keyword.Keyword.TheVariants as word
use Rattle.il_syntax.specs.declared.tree.Place.{Place}
use Rattle.il_syntax.specs.declared.tree.Named.{Named}
use Rattle.il_syntax.specs.declared.tree.Operand.{Operand}
use Rattle.il_syntax.specs.declared.tree.Logic.TheVariants.{Conjunction}
use Rattle.il_syntax.specs.declared.tree.Operator.TheVariants as operator
use Rattle.il_syntax.specs.declared.tree.Instruction.{Instruction}
use Rattle.il_syntax.specs.declared.tree.Instruction.TheVariants as instruction
use Rattle.il_syntax.specs.declared.tree.UnitKind.TheVariants as unit
use Rattle.il_syntax.specs.declared.tree.Body.{Body}
use Rattle.il_syntax.specs.Text.{name_of}
use Rattle.il_syntax.specs.Grammar.{skip_line_ends, AfterLines, Repeats, greatest_depth, unit_word, Front, Gap, tight, loose, ◌⨾◌, ◌⋯◌, At, TheSign, TheWord, TheLineEnd, TheName, TheLetterN, SpellsOperands, SpellsUnit}
use Rattle.il_syntax.specs.declared.tree.Config.{Config}
use Rattle.il_syntax.specs.declared.tree.Unit.{Unit as ProgramUnit}
use Rattle.il_syntax_laws.specs.GoesOn.{Sample, calm, always, IsSampled, BeginsBy, Begins, IsCut, ended}
use Rattle.il_syntax_laws.proofs.Alike.{end_self, end_length, end_of_end, gap_length, loose_gap}
use Rattle.il_syntax_laws.proofs.Open.{Fills, sign_fills, word_fills, the_name_fills, loose_open}
use Rattle.il_syntax_laws.proofs.Samples.{true_sample, line_end_sample, line_end_sampled, the_name_sampled, operand_line_sampled, target_line_sampled, name_line_sampled, called_sampled, operands_sampled, word_sample, word_sampled}
use Rattle.il_syntax_laws.proofs.GoesOn.{whole_or, cut_here, stays_loose, stays_tight, passes_always, passes_calm, begins_first, begins_first_by, begins_as, begins_as_by, begins_at, IsFilling, HasGone, begins_lines_by}
use Rattle.load_lines.specs.Lead.{lead_at}
use Rattle.load_lines.specs.declared.lead.Lead.{Lead}
use Rattle.load_lines.specs.declared.lead.Lead.TheVariants as lead
use Rattle.load_lines.specs.Reads.{BreaksOff, fault_at, SpellsRoomyOf, Effect, SpellsLine, Reads}
use Rattle.load_lines.specs.Reads.Effect.{Even, Closing}
use Rattle.load_lines.specs.Settings.{PlacedWord}
use Rattle.load_lines.specs.declared.stop.Stop.{Stop}
use Rattle.load_lines.specs.declared.stop.SyntaxError.TheVariants.{Unexpected, TooMany, TooDeep}
use Rattle.load_lines.specs.declared.stop.SyntaxError.{SyntaxError}
use Rattle.load_lines.proofs.Leaves.{word_there, sign_there, name_there}
use Rattle.load_lines.proofs.Breaks.{s_tight, as_breaks, later_loose, s_loose}
use Rattle.load_lines.proofs.Completions.{place_at, lines_break}
use Rattle.load_tree.specs.Bodies.{may_begin, begins_lead}
use Rattle.load_tree.specs.Units.{unit_begins, SpellsUnitBy}
use Rattle.load_tree.specs.GoesOn.{Within, KeepsSteps, KeepsUnits, BeginsSurplus, BreaksPlaced, BreaksWith, BreaksUnits, BreaksAll, SpellsAll, SpellsAllUnits, SpellsProgramRest, SpellsBlockRest}
use Rattle.load_tree.specs.Parts.{SpellsGroup, SpellsFewUnits}
use Rattle.load_tree.specs.Refused.{IsItsPlace, HasSurplus, GoesBeyond, IsLateSurplus, KeepsBefore}
use Rattle.load_tree.proofs.Behind.{all_late}
use Rattle.load_tree.proofs.Begun.{placed_inside, placed_here, placed_first, plainly, shorter_behind, by_breaks, KeepsAnyhow}
use Rattle.load_tree.proofs.Shallow.{Headed, ResultRest, program_within, block_within, result_within}
use Rattle.load_tree.proofs.Parts.{Group, config, whole_config, from_small_units, are_short, are_shallow}
use Rattle.load_tree.proofs.Rests.{group_sampled, units_filling, program_is, block_is, function_is}

-- what is there begins itself
begins_whole : {A : Type 0} {P : List ℕ → A → Front} {look : Gap} {text : List ℕ} (x : A) (ts m : List Token) → Fills look always (λ text. P text x) → P text x ts m → Begins always P text ts m
begins_whole {P = P} {text = text} x ts m fill here = record {
  inside = fill.opens.ends text ts m here;
  samples = [];
  goes = λ other us vs rest c a t.
      let p = fill.opens.keeps text other m ts us vs m here (end_self m) c (inr tt) in
      (x, subst (λ k. P other x us k) (cut_here text other m m p.0 vs p.2 refl ∙ a) p.1);
}

-- the first part of an instruction begins it
part_begins : {A B : Type 0} {look : Gap} {zs : List Sample} {text : List ℕ} (P : List ℕ → A → Front) (Q : List ℕ → B → Front) (effect : Effect) (h : A × B → Instruction)
    → ((x : A × B) (other : List ℕ) (us r : List Token) → (P other x.0 ⨾ Q other x.1) us r → SpellsRoomyOf other true effect (h x) us r)
    → (x : A) (ts m : List Token) → Fills look always (λ text. P text x) → P text x ts m → IsSampled always Q zs → Begins always (λ text. SpellsRoomyOf text true effect) text ts m
part_begins {A = A} {B = B} {text = text} P Q effect h is x ts m fill here q =
    begins_as {P = λ text (y : A × B). P text y.0 ⨾ Q text y.1} {Q = λ text. SpellsRoomyOf text true effect} h is (begins_first tight q passes_always stays_tight (begins_whole x ts m fill here))

-- what may follow an `&`
abbrev BehindSign : List ℕ → Operand → Front
BehindSign text o us r = calm text us × SpellsLine text o us r

behind_sign_sampled : IsSampled always BehindSign (true_sample ∷ line_end_sample ∷ [])
behind_sign_sampled = record {
  stands = λ other vs rest a t.
      let x = operand_line_sampled.stands other vs rest a t in
      (x.0, ((passes_calm {samples = true_sample ∷ line_end_sample ∷ []} {test = always} refl).yes other vs rest a t, x.1));
}

-- an `&` and what may follow it are an instruction
ampersand_is : (o : Operand) (other : List ℕ) (us r : List Token) → (TheSign Ampersand ⨾ BehindSign other o) us r → SpellsRoomyOf other true Even (instruction.Operate (operator.Logic Conjunction false) o) us r
ampersand_is o other [] r w = absurd w.1
ampersand_is o other (u ∷ us) r w = (refl, (tt, (w.0, inr (w.1.0, (w.1.1, λ n p. w.2.0.letter u.end n (subst (λ k. TheLetterN other u.end k n) w.1.1 p))), w.2.1)))

-- the word of an instruction begins it
by_word : {B : Type 0} {Q : List ℕ → B → Front} {zs : List Sample} (effect : Effect) (k : Keyword) (h : B → Instruction)
    → ((x : B) (other : List ℕ) (us r : List Token) → (TheWord other k ⨾ Q other x) us r → SpellsRoomyOf other true effect (h x) us r)
    → (text : List ℕ) (ts : List Token) → lead_at text ts ≡ lead.Reserved k → IsSampled always Q zs → Begins always (λ text. SpellsRoomyOf text true effect) text ts (drop 1 ts)
by_word {Q = Q} effect k h is text ts l q =
    part_begins (λ text (u : Unit {0}). TheWord text k) Q effect (λ x. h x.1) (λ x. is x.1) tt ts (drop 1 ts) (word_fills k) (word_there text k ts l) q

-- a name begins an instruction
name_begun : (text : List ℕ) (ts : List Token) → lead_at text ts ≡ lead.Name → Begins always (λ text. SpellsRoomyOf text true Even) text ts (drop 1 ts)
unfolding lead_at
name_begun text [] l = absurd cc
name_begun text (t ∷ us) l =
    let n : Named = record { place = record { offset = t.start; line = t.line }; name = name_of text t } in
    part_begins (λ text. TheName text) (λ text. SpellsOperands text) Even (λ x. instruction.Invoke x.0 x.1) (λ x other us r w. (refl, (tt, w))) n (t ∷ us) us (the_name_fills n) (refl, refl, name_there text t (t ∷ us) us refl l) operands_sampled

-- the first token begins an instruction
instruction_begun : (text : List ℕ) (l : Lead) (ts : List Token) → lead_at text ts ≡ l → begins_lead l ≡ true → (effect : Effect) × Begins always (λ text. SpellsRoomyOf text true effect) text ts (drop 1 ts)
instruction_begun text lead.Name ts l begun = (Even, name_begun text ts l)
instruction_begun text (lead.Sign Ampersand) ts l begun =
    (Even, part_begins (λ text (u : Unit {0}). TheSign Ampersand) BehindSign Even (λ x. instruction.Operate (operator.Logic Conjunction false) x.1) (λ x. ampersand_is x.1) tt ts (drop 1 ts) (sign_fills Ampersand) (sign_there text Ampersand ts l) behind_sign_sampled)
instruction_begun text (lead.Sign CloseParenthesis) ts l begun =
    (Closing, part_begins (λ text (u : Unit {0}). TheSign CloseParenthesis) (λ text (u : Unit {0}). TheLineEnd) Closing (λ x. instruction.Evaluate) (λ x other us r w. (refl, (tt, w))) tt ts (drop 1 ts) (sign_fills CloseParenthesis) (sign_there text CloseParenthesis ts l) line_end_sampled)
instruction_begun text (lead.Reserved (word.Load n)) ts l begun = (Even, by_word Even (word.Load n) (λ x. instruction.Load n x) (λ x other us r w. (refl, (tt, w))) text ts l operand_line_sampled)
instruction_begun text (lead.Reserved (word.Store k)) ts l begun = (Even, by_word Even (word.Store k) (λ x. instruction.Store k x) (λ x other us r w. (refl, (tt, w))) text ts l target_line_sampled)
instruction_begun text (lead.Reserved word.Not) ts l begun = (Even, by_word {Q = λ text (u : Unit {0}). TheLineEnd} Even word.Not (λ x. instruction.Not) (λ x other us r w. (refl, (tt, w))) text ts l line_end_sampled)
instruction_begun text (lead.Reserved (word.Operate op)) ts l begun = (Even, by_word Even (word.Operate op) (λ x. instruction.Operate op x) (λ x other us r w. (refl, (tt, (w.0, inl w.1, w.2)))) text ts l operand_line_sampled)
instruction_begun text (lead.Reserved (word.Jump k)) ts l begun = (Even, by_word Even (word.Jump k) (λ x. instruction.Jump k x) (λ x other us r w. (refl, (tt, w))) text ts l name_line_sampled)
instruction_begun text (lead.Reserved (word.Return k)) ts l begun = (Even, by_word {Q = λ text (u : Unit {0}). TheLineEnd} Even (word.Return k) (λ x. instruction.Return k) (λ x other us r w. (refl, (tt, w))) text ts l line_end_sampled)
instruction_begun text (lead.Reserved (word.Call k)) ts l begun = (Even, by_word Even (word.Call k) (λ x. instruction.Call k x.0 x.1) (λ x other us r w. (refl, (tt, w))) text ts l called_sampled)
instruction_begun text l ts same begun = absurd cc

-- a token is there
a_token : (text : List ℕ) (ts : List Token) (begins : Lead → Bool) → begins lead.Nothing ≡ false → begins (lead_at text ts) ≡ true → (t : Token) × (back : List Token) × (ts ≡ t ∷ back)
unfolding lead_at
a_token text [] begins none begun = absurd cc
a_token text (t ∷ ts) begins none begun = (t, ts, refl)

-- a token is at its place
its_place : (t : Token) (back ts : List Token) → ts ≡ t ∷ back → IsItsPlace t (place_at ts)
its_place t back ts same = subst (λ x. IsItsPlace t (place_at x)) (sym same) (refl, refl)

-- a body is full
pub surplus_breaks : {text : List ℕ} {ts : List Token} {e : Stop} (depth : ℕ) (load full : Bool) (last : Keyword) (l : Lead) → depth ≤ 16 → full ≡ true → l ≡ lead_at text ts → may_begin depth load (lead_at text ts) ≡ true
    → ((e ≡ fault_at TooMany ts) × IsTrue (begins_lead l)) ⊎ ((e ≡ fault_at Unexpected ts) × IsFalse (begins_lead l)) → BreaksPlaced last depth load full text ts e
surplus_breaks depth load full last l few is_full same may (inr here) = placed_first last depth load full few (λ is. here.0)
surplus_breaks {text = text} {ts = ts} depth load full last l few is_full same may (inl here) = record {
  fault = λ is.
      let b = instruction_begun text l ts (sym same) here.1 in
      let k = a_token text ts begins_lead refl (ap begins_lead (sym same) ∙ here.1) in
      let less = shorter_behind ts ts k.1 k.0 (end_self ts) k.2 in
      let behind = subst (λ x. Begins always (λ text. SpellsRoomyOf text true b.0) text ts (drop 1 x)) k.2 b.1 in (
        TooMany,
        ts,
        here.0,
        placed_here last depth load full few,
        (k.0, k.1, k.2, (less, placed_inside depth load last (λ vs steps. BeginsSurplus full TooMany k.0 steps) may k.1 b.0 (λ vs i steps has most among. (is_full, its_place k.0 k.1 ts k.2)) behind less)),
      );
}

-- the word of a unit begins it
word_begins : (text : List ℕ) (k : Keyword) (ts : List Token) → lead_at text ts ≡ lead.Reserved k → Begins always (λ text. PlacedWord text k) text ts (drop 1 ts)
word_begins text k ts l =
    begins_as {P = λ text (y : Place × Unit {0}). At y.0 (TheWord text k)} {Q = λ text. PlacedWord text k} (λ y. y.0) (λ y other us r w. w)
    (begins_at {P = λ text (u : Unit {0}). TheWord text k} (λ u. (word_fills k).takes) (begins_whole tt ts (drop 1 ts) (word_fills k) (word_there text k ts l)))

-- a heading begins with its word
headed_begun : {A : Type 0} (k : Keyword) (Q : List ℕ → A → Front) (body : A → Body) {zs : List Sample} → IsSampled always (Within (λ x. KeepsAnyhow (body x).steps) Q) zs → (text : List ℕ) (ts : List Token) → lead_at text ts ≡ lead.Reserved k
    → Begins always (Headed k Q) text ts (drop 1 ts)
headed_begun k Q body q text ts l =
    begins_as {P = Headed k (Within (λ x. KeepsAnyhow (body x).steps) Q)} {Q = Headed k Q} (λ x. x) (λ x other us r w. (w.0, w.1, (w.2.0, w.2.1, w.2.2.0)))
    (begins_first loose (s_tight the_name_sampled q) passes_always (stays_loose refl) (word_begins text k ts l))

-- the first token begins a unit
unit_begun : (text : List ℕ) (l : Lead) (ts : List Token) → lead_at text ts ≡ l → unit_begins l ≡ true → Begins always SpellsUnit text ts (drop 1 ts)
unit_begun text (lead.Reserved word.Program) ts l begun =
    begins_as {P = Headed word.Program SpellsProgramRest} {Q = SpellsUnit} (λ x. record { place = x.0; kind = unit.Program; name = x.1.0; inputs = []; outputs = []; variables = x.1.1.0; externals = x.1.1.1; body = x.1.1.2 })
    (λ x other us r w. program_is (x.0, x.1.0, x.1.1) other us r w) (headed_begun word.Program SpellsProgramRest (λ x. x.2) program_within text ts l)
unit_begun text (lead.Reserved word.FunctionBlock) ts l begun =
    begins_as {P = Headed word.FunctionBlock SpellsBlockRest} {Q = SpellsUnit} (λ x. record { place = x.0; kind = unit.FunctionBlock; name = x.1.0; inputs = x.1.1.0; outputs = x.1.1.1; variables = x.1.1.2; externals = []; body = x.1.1.3 })
    (λ x other us r w. block_is (x.0, x.1.0, x.1.1) other us r w) (headed_begun word.FunctionBlock SpellsBlockRest (λ x. x.3) block_within text ts l)
unit_begun text (lead.Reserved word.Function) ts l begun =
    begins_as {P = Headed word.Function ResultRest} {Q = SpellsUnit} (λ x. record { place = x.0; kind = unit.Function x.1.1.0.1 x.1.1.0.0; name = x.1.0; inputs = x.1.1.1.0; outputs = []; variables = x.1.1.1.1; externals = []; body = x.1.1.1.2 })
    (λ x other us r w. function_is (x.0, x.1.0, x.1.1.0, x.1.1.1) other us r w) (headed_begun word.Function ResultRest (λ x. x.1.2) result_within text ts l)
unit_begun text l ts same begun = absurd cc

-- UNITS THAT BREAK OFF

-- the place of what begins is that of the first token
at_place : (F : Front) (p : Place) (ts r : List Token) → At p F ts r → (t : Token) (back : List Token) → ts ≡ t ∷ back → IsItsPlace t p
at_place F p [] r w t back same = absurd w
at_place F p (u ∷ ts) r w t back same = let first = its_place t back (u ∷ ts) same in (sym w.0 ∙ first.0, sym w.1 ∙ first.1)

-- units that are shallow
apart : (ys : List ProgramUnit) (other : List ℕ) (vs r : List Token) → Repeats (SpellsUnitBy TooDeep other) ys (TheWord other word.Configuration) vs r
    → Within (λ us. All (λ (u : ProgramUnit). greatest_depth 0 u.body.steps ≤ 16) us) SpellsAllUnits other ys vs r
apart [] other vs r w = (w, All-nil (λ (u : ProgramUnit). greatest_depth 0 u.body.steps ≤ 16))
apart (y ∷ ys) other vs r w =
    let more = apart ys other (skip_line_ends w.0) r w.2 in
    ((w.0, w.1.0, more.0), All-cons (λ (u : ProgramUnit). greatest_depth 0 u.body.steps ≤ 16) y ys w.1.1 more.1)

-- what goes beyond a limit in the last unit
beyond : (us : List ProgramUnit) (error : SyntaxError) (t : Token) (u : ProgramUnit) → All (λ (v : ProgramUnit). length v.body.steps ≤ 4096) us → length us < 64 → HasSurplus error t u.body.steps → GoesBeyond error t (us ++ u ∷ [])
beyond us Unexpected t u few some h = tt
beyond us TooDeep t u few some h = tt
beyond us TooMany t u few some h = (us, u, [], refl, few, inr (some, h))

-- units that are few, one of them more
pub few_with : (us : List ProgramUnit) (u : ProgramUnit) → All (λ (v : ProgramUnit). length v.body.steps ≤ 4096) us → length u.body.steps ≤ 4096 → All (λ (v : ProgramUnit). length v.body.steps ≤ 4096) (us ++ u ∷ [])
few_with us u few one =
    All-append (λ (v : ProgramUnit). length v.body.steps ≤ 4096) us (u ∷ []) few (All-cons (λ (v : ProgramUnit). length v.body.steps ≤ 4096) u [] one (All-nil (λ (v : ProgramUnit). length v.body.steps ≤ 4096)))

-- where there are not as many as there may be, there are fewer
fewer : (full : Bool) (us : List ProgramUnit) → full ≡ false → (IsFalse full → length us ≡ 64 → ⊥) → length us ≤ 64 → length us < 64
fewer true us e not_all few = absurd cc
fewer false us e not_all few = omega (arith, few, not_all refl)

-- cut tokens begin with the same one
first_cut : (text : List ℕ) (at ts vs ws : List Token) (other : List ℕ) (t : Token) (back : List Token) → ts ≡ t ∷ back → length at < length ts → IsCut text other at ts vs ws → (more : List Token) × (vs ≡ t ∷ more)
first_cut text at [] vs ws other t back same less c = absurd (omega (arith, less))
first_cut text at (u ∷ ts) vs ws other t back same less (inl c) = let e = ap length c.0 in absurd (omega (arith, less, e))
first_cut text at (u ∷ ts) vs ws other t back same less (inr c) = (c.0, c.1 ∙ ap (λ (x : Token). x ∷ c.0) (ap (λ x. first_of x u) same))
  where
    first_of : List Token → Token → Token
    first_of [] y = y
    first_of (x ∷ xs) y = x

unit_placed : {text : List ℕ} {ts : List Token} (t : Token) (back at : List Token) → ts ≡ t ∷ back → length at < length ts → Begins always SpellsUnit text ts at → Begins always (Within (λ (u : ProgramUnit). IsItsPlace t u.place) SpellsUnit) text ts at
unit_placed {text = text} {ts = ts} t back at same less b = record {
  inside = b.inside;
  samples = b.samples;
  goes = λ other vs ws rest c a k.
      let x = b.goes other vs ws rest c a k in
      let first = first_cut text at ts vs ws other t back same less c in
      (x.0, (x.1, at_place (TheWord other (unit_word x.0.kind)) x.0.place vs x.1.1.0 x.1.1.1 t first.0 first.1));
}

module _ {text : List ℕ} {start ts : List Token} {us : List ProgramUnit} where
  -- what units keep, with CONFIGURATION after them
  edge_on : HasGone (SpellsUnitBy TooDeep) (λ text. TheWord text word.Configuration) text start us ts → All (λ (v : ProgramUnit). length v.body.steps ≤ 4096) us → length us ≤ 64
      → BeginsBy always (λ ws. Within (KeepsUnits ws) SpellsAllUnits) text start ts
  edge_on so_far few most = record {
    inside = so_far.inside;
    samples = word_sample word.Configuration ∷ [];
    goes = λ other vs ws rest c a t.
        let n = so_far.on other ts vs ws (end_self ts) c (inr ((stays_loose {samples = word_sample word.Configuration ∷ []} {test = always} refl).same other ws rest a t)) in
        let x = (word_sampled word.Configuration).stands other ws rest a t in
        let p = apart (us ++ []) other vs rest (n.2 [] rest (subst (λ k. TheWord other word.Configuration k rest) (sym (cut_here text other ts ts n.0 ws n.1 refl)) x.1)) in
        (us ++ [], (p.0, (p.1, count, All-append (λ (u : ProgramUnit). IsLateSurplus ws u.body.steps) us [] (all_late ws us few) (All-nil (λ (u : ProgramUnit). IsLateSurplus ws u.body.steps)))));
  }
    where
      count : length (us ++ []) ≤ 64
      count = let l = length-append us [] in omega (arith, l, most)

  -- and with one of them, of which something is read
  before_on : HasGone (SpellsUnitBy TooDeep) (λ text. TheWord text word.Configuration) text start us ts → All (λ (v : ProgramUnit). length v.body.steps ≤ 4096) us → length us < 64 → (at : List Token)
      → BeginsBy always (λ ws. Within (λ (u : ProgramUnit). KeepsSteps ws u.body.steps) SpellsUnit) text ts at → BeginsBy always (λ ws. Within (KeepsUnits ws) SpellsAllUnits) text start at
  before_on so_far few some at b = go (whole_or at ts b.inside)
    where
      count : (u : ProgramUnit) → length (us ++ u ∷ []) ≤ 64
      count u = let l = length-append us (u ∷ []) in omega (arith, l, some)

      go : ((at ≡ ts) ⊎ (length at < length ts)) → BeginsBy always (λ ws. Within (KeepsUnits ws) SpellsAllUnits) text start at
      go (inl edge) = subst (λ k. BeginsBy always (λ ws. Within (KeepsUnits ws) SpellsAllUnits) text start k) (sym edge) (edge_on so_far few (omega (arith, some)))
      go (inr less) =
          let f = begins_first_by {P = λ ws. Within (λ (u : ProgramUnit). KeepsSteps ws u.body.steps) SpellsUnit} {Q = λ text (u : Unit {0}). TheWord text word.Configuration} loose (word_sampled word.Configuration) passes_always (stays_loose refl) b in
          record {
            inside = end_of_end at ts start so_far.inside b.inside;
            samples = f.samples;
            goes = λ other vs ws rest c a t.
                let n = so_far.on other at vs ws b.inside c (inl less) in
                let x = f.goes other n.0 ws rest n.1 a t in
                let u = x.0.0 in
                let p = apart (us ++ u ∷ []) other vs rest (n.2 (u ∷ []) rest (x.1.0, (x.1.1.0, x.1.1.1.0), x.1.2)) in
                let late = All-cons (λ (v : ProgramUnit). IsLateSurplus ws v.body.steps) u [] x.1.1.1.1 (All-nil (λ (v : ProgramUnit). IsLateSurplus ws v.body.steps)) in
                (us ++ u ∷ [], (p.0, (p.1, count u, All-append (λ (v : ProgramUnit). IsLateSurplus ws v.body.steps) us (u ∷ []) (all_late ws us few) late)));
          }

  -- the last unit keeps something
  last_on : (K : ProgramUnit → Type 0) (M : List ProgramUnit → Type 0) → ((u : ProgramUnit) → K u → M (us ++ u ∷ [])) → HasGone SpellsUnit (λ text. TheWord text word.Configuration) text start us ts → (at : List Token)
      → length at < length ts → Begins always (Within K SpellsUnit) text ts at → (length at < length start) × Begins always (Within M SpellsAllUnits) text start at
  last_on K M keeps so_far at less b =
      let f = begins_first {P = Within K SpellsUnit} {Q = λ text (u : Unit {0}). TheWord text word.Configuration} loose (word_sampled word.Configuration) passes_always (stays_loose refl) b in
      let l = end_length ts start so_far.inside in (
        omega (arith, less, l),
        record {
          inside = end_of_end at ts start so_far.inside b.inside;
          samples = f.samples;
          goes = λ other vs ws rest c a t.
              let n = so_far.on other at vs ws b.inside c (inl less) in
              let x = f.goes other n.0 ws rest n.1 a t in
              (us ++ x.0.0 ∷ [], (n.2 (x.0.0 ∷ []) rest (x.1.0, x.1.1.0, x.1.2), keeps x.0.0 x.1.1.1));
        },
      )

  -- a unit breaks off after others
  pub units_break : {e : Stop} (full : Bool) → full ≡ false → (IsFalse full → length us ≡ 64 → ⊥) → length us ≤ 64 → All (λ (v : ProgramUnit). length v.body.steps ≤ 4096) us → HasGone (SpellsUnitBy TooDeep) (λ text. TheWord text word.Configuration) text start us ts → HasGone SpellsUnit (λ text. TheWord text word.Configuration) text start us ts → BreaksWith tight (λ u. u.body) SpellsUnit text ts e
      → BreaksUnits text start e
  units_break full is not_all most few shallow so_far bad =
      by_breaks (λ at b. before_on shallow few (fewer full us is not_all most) at b) (λ error t back end less b. last_on (λ u. HasSurplus error t u.body.steps) (λ us. GoesBeyond error t us) (λ u h. beyond us error t u few (fewer full us is not_all most) h) so_far back less b) bad

  -- a text is full
  pub units_full_break : {e : Stop} → All (λ (v : ProgramUnit). length v.body.steps ≤ 4096) us → HasGone (SpellsUnitBy TooDeep) (λ text. TheWord text word.Configuration) text start us ts → HasGone SpellsUnit (λ text. TheWord text word.Configuration) text start us ts → length us ≡ 64
      → ((e ≡ fault_at TooMany ts) × IsTrue (unit_begins (lead_at text ts))) ⊎ ((e ≡ fault_at Unexpected ts) × IsFalse (unit_begins (lead_at text ts))) → BreaksUnits text start e
  units_full_break few shallow so_far full (inr here) = record { fault = λ is. (Unexpected, ts, here.0, edge_on shallow few (omega (arith, full)), tt) }
  units_full_break few shallow so_far full (inl here) = record {
    fault = λ is.
        let k = a_token text ts unit_begins refl here.1 in
        let less = shorter_behind ts ts k.1 k.0 (end_self ts) k.2 in
        let behind = subst (λ x. Begins always SpellsUnit text ts (drop 1 x)) k.2 (unit_begun text (lead_at text ts) ts refl here.1) in (
          TooMany,
          ts,
          here.0,
          edge_on shallow few (omega (arith, full)),
          (k.0, k.1, k.2, last_on (λ u. IsItsPlace k.0 u.place) (λ us. GoesBeyond TooMany k.0 us) (λ u h. (us, u, [], refl, few, inl (full, h))) so_far k.1 less (unit_placed k.0 k.1 k.1 k.2 less behind)),
        );
  }

-- THE TEXT

-- units that keep something hold of cut tokens, as all do
kept_filling : (K : List ProgramUnit → Type 0) → IsFilling tight always (Within K SpellsAllUnits)
kept_filling K = record {
  one = λ us. record {
    opens = record {
      ends = λ text ts m p. (units_filling.one us).opens.ends text ts m p.0;
      keeps = λ text other at ts us_ vs m p e c d. let k = (units_filling.one us).opens.keeps text other at ts us_ vs m p.0 e c d in (k.0, (k.1, p.1), k.2);
    };
    takes = record { less = λ text ts m p. (units_filling.one us).takes.less text ts m p.0 };
  };
}

-- none at all
units_end_kept : (K : List ProgramUnit → Type 0) → K [] → IsSampled always (Within K SpellsAllUnits) (word_sample word.Configuration ∷ [])
units_end_kept K none = record { stands = λ other vs rest a t. ([], (((word_sampled word.Configuration).stands other vs rest a t).1, none)) }

no_units_kept : (vs : List Token) → KeepsUnits vs []
no_units_kept vs = (All-nil (λ (u : ProgramUnit). greatest_depth 0 u.body.steps ≤ 16), omega arith, All-nil (λ (u : ProgramUnit). IsLateSurplus vs u.body.steps))

-- what units keep with all tokens
abbrev UnitsKeepAnyhow : List ProgramUnit → Type 0
UnitsKeepAnyhow us = (vs : List Token) → KeepsUnits vs us

module _ {text : List ℕ} {ts : List Token} where
  as_all : (K : List Token → List ProgramUnit → Type 0) {at : List Token} → BeginsBy ended (λ vs text (x : List ProgramUnit × Group). AfterLines (Within (K vs) SpellsAllUnits text x.0 ⋯ SpellsGroup text x.1)) text ts at
      → BeginsBy ended (λ vs. Within (λ (c : Config). K vs c.units) SpellsAll) text ts at
  as_all K b =
      begins_as_by {P = λ vs text (x : List ProgramUnit × Group). AfterLines (Within (K vs) SpellsAllUnits text x.0 ⋯ SpellsGroup text x.1)} {Q = λ vs. Within (λ (c : Config). K vs c.units) SpellsAll} (λ x. config x.0 x.1)
      (λ x vs other us r w. (whole_config other x.0 x.1 (skip_line_ends us) r (w.0, w.1.0, w.2), w.1.1)) b

  -- its units break off
  pub text_units_break : {e : Stop} → BreaksUnits text (skip_line_ends ts) e → BreaksAll text ts e
  text_units_break bad = by_breaks before (λ error t back end less b. with (λ us. GoesBeyond error t us) back less b) bad
    where
      before : (at : List Token) → BeginsBy always (λ vs. Within (KeepsUnits vs) SpellsAllUnits) text (skip_line_ends ts) at → BeginsBy ended (λ vs. Within (KeepsBefore vs) SpellsAll) text ts at
      before at b =
          as_all KeepsUnits
          (begins_lines_by {P = λ vs text (x : List ProgramUnit × Group). Within (KeepsUnits vs) SpellsAllUnits text x.0 ⋯ SpellsGroup text x.1} (λ vs. s_loose (units_end_kept (KeepsUnits vs) (no_units_kept vs)) group_sampled refl) refl
          (begins_first_by {P = λ vs. Within (KeepsUnits vs) SpellsAllUnits} {Q = SpellsGroup} loose group_sampled passes_always (stays_loose refl) b))

      with : (K : List ProgramUnit → Type 0) (at : List Token) → length at < length (skip_line_ends ts) → Begins always (Within K SpellsAllUnits) text (skip_line_ends ts) at
          → (length at < length ts) × Begins ended (Within (λ (c : Config). K c.units) SpellsAll) text ts at
      with K at less b =
          let f = begins_first {P = Within K SpellsAllUnits} {Q = SpellsGroup} loose group_sampled passes_always (stays_loose refl) b in
          let l = gap_length loose_gap ts in (
            omega (arith, less, l),
            as_all (λ vs. K) (record {
              inside = end_of_end at (skip_line_ends ts) ts (loose_gap.ends ts) f.inside;
              samples = f.samples;
              goes = λ other us vs rest c a t. f.goes other (skip_line_ends us) vs rest (loose_open.cut text other at ts us vs c less) a t;
            }),
          )

  -- or what follows them does
  pub text_group_break : {e : Stop} {us : List ProgramUnit} {m : List Token} → Reads (SpellsFewUnits text) (skip_line_ends ts) us m → BreaksOff ended SpellsGroup text (skip_line_ends m) e → BreaksAll text ts e
  text_group_break {us = us} read bad =
      let shallow = are_shallow text (TheWord text word.Configuration) _ _ _ read.found.0 in
      let short = are_short text (TheWord text word.Configuration) _ _ _ read.found.0 in
      plainly
      (as_breaks {P = λ text (x : List ProgramUnit × Group). AfterLines (Within UnitsKeepAnyhow SpellsAllUnits text x.0 ⋯ SpellsGroup text x.1)} {Q = Within (λ c. (vs : List Token) → KeepsBefore vs c) SpellsAll} (λ at b. as_all (λ vs. UnitsKeepAnyhow) b)
      (lines_break (s_loose (units_end_kept UnitsKeepAnyhow no_units_kept) group_sampled refl) refl
      (later_loose (kept_filling UnitsKeepAnyhow) (record { found = (from_small_units text read, (λ vs. (shallow, read.found.1, all_late vs us short))) }) group_sampled refl bad)))
