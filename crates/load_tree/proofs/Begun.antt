-- Bodies that break off.
use Rattle.std.specs.Prelude.{◌⊎◌, IsTrue, IsFalse}
use Rattle.std.specs.List.{All, slice_get}
use Rattle.std.proofs.Common.{◌≡◌, ℕ, zero, suc, pred, ◌<◌, ◌≤◌, Bool, true, false, ◌&&◌, List, [], ◌∷◌, ◌++◌, length, refl, sym, ◌∙◌, ap, subst, inl, inr, arith, Some, None}
use Rattle.il_syntax.specs.declared.token.Token.{Token}
use Rattle.il_syntax.specs.declared.keyword.Keyword.{Keyword}
use Rattle.il_syntax.specs.declared.keyword.Keyword.TheVariants as word
use Rattle.il_syntax.specs.declared.tree.Place.{Place}
use Rattle.il_syntax.specs.declared.tree.Named.{Named}
use Rattle.il_syntax.specs.declared.tree.Operand.{Operand}
use Rattle.il_syntax.specs.declared.tree.Reference.TheVariants as reference
use Rattle.il_syntax.specs.declared.tree.Instruction.{Instruction}
use Rattle.il_syntax.specs.declared.tree.Instruction.TheVariants as instruction
use Rattle.il_syntax.specs.declared.tree.Step.{Step}
use Rattle.il_syntax.specs.declared.tree.Body.{Body}
use Rattle.il_syntax.specs.Words.{keyword_of}
use Rattle.il_syntax.specs.Grammar.{Front, Gap, tight, loose, skip_line_ends, greatest_depth, ◌⋯◌, At, TheLineEnd, SpellsInstruction, SpellsLabelled, SpellsStep, SpellsBody, depth_after, needs_load, may_stand, is_nested}
use Rattle.il_syntax_laws.specs.Alike.{IsEndOf}
use Rattle.il_syntax_laws.specs.GoesOn.{Sample, Test, AreOf, IsCut, always, IsSampled, BeginsBy, Begins}
use Rattle.il_syntax_laws.proofs.Alike.{end_length, end_self, end_of_end}
use Rattle.il_syntax_laws.proofs.Bodies.{skip_one}
use Rattle.il_syntax_laws.proofs.Local.{same_name}
use Rattle.il_syntax_laws.proofs.Open.{instruction_fills, line_end_fills}
use Rattle.il_syntax_laws.proofs.Samples.{word_sample, true_sample, line_end_sample, closing_samples, closing_sampled, rest_samples, rest_sampled, ends_sampled, load_sampled, word_sampled, line_end_sampled, body_samples}
use Rattle.il_syntax_laws.proofs.GoesOn.{whole_or, cut_here, cut_one, samples_apart, samples_end, is_solid, stays_loose, passes_always, then_sampled, at_sampled, map_sampled, IsFilling, begins_here_by, begins_as_by, begins_behind_by, begins_inside, loose_cut, reach_tight}
use Rattle.load_lines.specs.Lead.{lead_at, lead_of}
use Rattle.load_lines.specs.declared.stop.SyntaxError.{SyntaxError}
use Rattle.load_lines.specs.declared.stop.SyntaxError.TheVariants.{Unexpected, TooDeep, TooMany}
use Rattle.load_lines.specs.Reads.{Stands, BreaksOff, BreaksOffAs, NamesFirst, HasRoom, SpellsRoomyOf, Effect, effect_of}
use Rattle.load_lines.specs.Reads.Effect.{Even, Opening, Closing}
use Rattle.load_lines.specs.declared.stop.Stop.{Stop}
use Rattle.load_lines.proofs.Chain.{HasRead}
use Rattle.load_lines.proofs.Breaks.{s_part, s_part_tight}
use Rattle.load_lines.proofs.Completions.{place_at, placed_read, further_as}
use Rattle.load_lines.proofs.Nesting.{IsOpen}
use Rattle.load_tree.specs.Bodies.{may_begin, bare, HasLabels}
use Rattle.load_tree.specs.GoesOn.{Rest, SpellsRestLines, SpellsFrom, SpellsPlacedFrom, Within, BreaksOffBy, StaysShallow, KeepsRest, KeepsSteps, BeginsSurplus, all_steps, BreaksFrom, BreaksPlaced, BreaksSteps, BreaksWith}
use Rattle.load_tree.specs.Refused.{StandsAmong, HasSurplus}
use Rattle.load_tree.proofs.Behind.{steps_among, all_behind, late_surplus}
use Rattle.load_tree.proofs.Entries.{may_so, TheEnds}

-- what an effect leaves open, and whether a load has to follow
abbrev depth_of : ℕ → Effect → ℕ
depth_of depth Even = depth
depth_of depth (Opening load) = suc depth
depth_of depth Closing = pred depth

abbrev load_of : Effect → Bool
load_of Even = false
load_of (Opening load) = load
load_of Closing = false

depth_is : (depth : ℕ) (i : Instruction) → depth_after depth i ≡ depth_of depth (effect_of i)
depth_is depth (instruction.Load n o) = refl
depth_is depth (instruction.Store k o) = refl
depth_is depth instruction.Not = refl
depth_is depth (instruction.Operate op o) = refl
depth_is depth (instruction.Defer op None) = refl
depth_is depth (instruction.Defer op (Some o)) = refl
depth_is zero instruction.Evaluate = refl
depth_is (suc depth) instruction.Evaluate = refl
depth_is depth (instruction.Jump k n) = refl
depth_is depth (instruction.Return k) = refl
depth_is depth (instruction.Call k n a) = refl
depth_is depth (instruction.Invoke f a) = refl

load_is : (i : Instruction) → needs_load i ≡ load_of (effect_of i)
load_is (instruction.Load n o) = refl
load_is (instruction.Store k o) = refl
load_is instruction.Not = refl
load_is (instruction.Operate op o) = refl
load_is (instruction.Defer op None) = refl
load_is (instruction.Defer op (Some o)) = refl
load_is instruction.Evaluate = refl
load_is (instruction.Jump k n) = refl
load_is (instruction.Return k) = refl
load_is (instruction.Call k n a) = refl
load_is (instruction.Invoke f a) = refl

-- the samples of a rest begin with no line end
closing_solid : (last : Keyword) (depth : ℕ) → is_solid (closing_samples last depth) ≡ true
closing_solid last zero = refl
closing_solid last (suc depth) = refl

rest_solid : (last : Keyword) (depth : ℕ) (load : Bool) → is_solid (rest_samples last depth load) ≡ true
rest_solid last zero load = refl
rest_solid last (suc depth) false = refl
rest_solid last (suc depth) true = refl

-- the rest of a body, of its own samples: no more parentheses open
from_sampled : (last : Keyword) (depth : ℕ) (load full : Bool) → depth ≤ 16 → (other : List ℕ) (vs rest : List Token) → AreOf other (rest_samples last depth load) vs rest
    → (x : Rest) × Within (λ y. KeepsRest depth full vs y.0) (λ text. SpellsFrom text last depth load) other x vs rest
from_sampled last depth load full few other vs rest a =
    let x = (rest_sampled last depth load).stands other vs rest a tt in
    (x.0, ((x.1.0, x.1.1), (within depth (greatest_depth depth x.0.0) x.1.2 few, all_behind full vs x.0.0 (steps_among other _ x.0.0 vs vs rest (end_self vs) x.1.1))))
  where
    within : (depth most : ℕ) → most ≤ depth → depth ≤ 16 → most ≤ 16
    within depth most less few = omega (arith, less, few)

-- a body may end at once
empty_sampled : (last : Keyword) (K : List Step → Type 0) → K [] → IsSampled always (Within (λ y. K y.0) (λ text. SpellsFrom text last 0 false)) (word_sample last ∷ [])
empty_sampled last K none = record { stands = λ other vs rest a t. let e = (ends_sampled last).stands other vs rest a t in (([], e.0), ((refl, e.1), none)) }

-- an instruction that may be in any parentheses
abbrev first_samples : Bool → List Sample
first_samples true = word_sample (word.Load false) ∷ true_sample ∷ line_end_sample ∷ []
first_samples false = word_sample word.Not ∷ line_end_sample ∷ []

abbrev first_of : Bool → Operand → Instruction
first_of true o = instruction.Load false o
first_of false o = instruction.Not

may_first : (depth : ℕ) (load : Bool) (p : Place) (o : Operand) → may_stand depth load (bare p (first_of load o)) ≡ true
may_first zero true p o = refl
may_first zero false p o = refl
may_first (suc depth) true p o = refl
may_first (suc depth) false p o = refl

some_operand : Operand
some_operand = record { place = record { offset = 0; line = 0 }; reference = reference.Variable [] }

first_sampled : (load : Bool) → IsSampled always (λ text (o : Operand). SpellsInstruction text (first_of load o)) (first_samples load)
first_sampled true = load_sampled
first_sampled false = map_sampled (λ (u : Unit {0}). some_operand) (λ x other us r w. w) (s_part_tight (word_sampled word.Not) line_end_sampled)

nested_first : (depth : ℕ) (load : Bool) (p : Place) (o : Operand) (steps : List Step) → IsTrue (is_nested depth false steps) → IsTrue (is_nested depth load (bare p (first_of load o) ∷ steps))
nested_first depth true p o steps h = ap (λ b. b && is_nested depth false steps) (may_first depth true p o) ∙ h
nested_first depth false p o steps h = ap (λ b. b && is_nested depth false steps) (may_first depth false p o) ∙ h

shallow_first : (depth : ℕ) (load : Bool) (p : Place) (o : Operand) (steps : List Step) → StaysShallow depth steps → depth ≤ 16 → StaysShallow depth (bare p (first_of load o) ∷ steps)
shallow_first depth true p o steps h few = omega (arith, h, few)
shallow_first depth false p o steps h few = omega (arith, h, few)

placed_shallow_sampled : (last : Keyword) (depth : ℕ) (load : Bool) → depth ≤ 16
    → IsSampled always (Within (λ x. StaysShallow depth (all_steps x)) (λ text. SpellsPlacedFrom text last depth load)) (first_samples load ++ closing_samples last depth)
placed_shallow_sampled last depth load few =
    map_sampled {P = λ text (x : (Place × Operand) × Rest). At x.0.0 (SpellsInstruction text (first_of load x.0.1)) ⋯ Within (λ y. StaysShallow depth y.0) (λ text. SpellsFrom text last depth false) text x.1}
    {Q = Within (λ x. StaysShallow depth (all_steps x)) (λ text. SpellsPlacedFrom text last depth load)}
    (λ x. ((x.0.0, first_of load x.0.1), x.1)) (λ x other us r w. ((nested_first depth load x.0.0 x.0.1 x.1.0 w.2.0.0, (w.0, w.1, w.2.0.1)), shallow_first depth load x.0.0 x.0.1 x.1.0 w.2.1 few))
    (then_sampled {P = λ text (y : Place × Operand). At y.0 (SpellsInstruction text (first_of load y.1))} {Q = Within (λ y. StaysShallow depth y.0) (λ text. SpellsFrom text last depth false)} loose
    (at_sampled (λ o. (instruction_fills (first_of load o)).takes) (first_sampled load)) closing passes_always (stays_loose (closing_solid last depth)))
  where
    within : (most : ℕ) → most ≤ depth → most ≤ 16
    within most less = omega (arith, less, few)

    closing : IsSampled always (Within (λ y. StaysShallow depth y.0) (λ text. SpellsFrom text last depth false)) (closing_samples last depth)
    closing = record { stands = λ other vs rest a t. let x = (closing_sampled last depth).stands other vs rest a t in (x.0, ((x.1.0, x.1.1), within (greatest_depth depth x.0.0) x.1.2)) }

placed_from_sampled : (last : Keyword) (depth : ℕ) (load full : Bool) → depth ≤ 16 → (other : List ℕ) (vs rest : List Token) → AreOf other (first_samples load ++ closing_samples last depth) vs rest
    → (x : (Place × Instruction) × Rest) × Within (λ y. KeepsRest depth full vs (all_steps y)) (λ text. SpellsPlacedFrom text last depth load) other x vs rest
placed_from_sampled last depth load full few other vs rest a =
    let x = (placed_shallow_sampled last depth load few).stands other vs rest a tt in
    (x.0, (x.1.0, (x.1.1, all_behind full vs (all_steps x.0) (steps_among other _ (all_steps x.0) vs vs rest (end_self vs) x.1.0.1))))

-- nothing of it is read yet
pub placed_here : {text : List ℕ} {ts : List Token} (last : Keyword) (depth : ℕ) (load full : Bool) → depth ≤ 16
    → BeginsBy always (λ vs. Within (λ x. KeepsRest depth full vs (all_steps x)) (λ text. SpellsPlacedFrom text last depth load)) text ts ts
placed_here {text = text} {ts = ts} last depth load full few =
    begins_here_by {P = λ vs. Within (λ x. KeepsRest depth full vs (all_steps x)) (λ text. SpellsPlacedFrom text last depth load)} (first_samples load ++ closing_samples last depth)
    (λ other vs rest a t. placed_from_sampled last depth load full few other vs rest a) text ts

pub placed_first : {text : List ℕ} {ts : List Token} {e : Stop} (last : Keyword) (depth : ℕ) (load full : Bool) → depth ≤ 16 → NamesFirst ts e → BreaksPlaced last depth load full text ts e
placed_first {ts = ts} last depth load full few bad = record { fault = λ is. (Unexpected, ts, bad is, placed_here last depth load full few, tt) }

-- tokens that are cut after the front begin with the same
pub lead_cut : (text other : List ℕ) (at ts us vs : List Token) → IsCut text other at ts us vs → length at < length ts → lead_at other us ≡ lead_at text ts
unfolding lead_at
lead_cut text other at [] us vs c l = absurd (omega (arith, l))
lead_cut text other at (t ∷ ts) us vs (inl c) l = let same = ap length c.0 in absurd (omega (arith, l, same))
lead_cut text other at (t ∷ ts) us vs (inr c) l = ap (lead_at other) c.1 ∙ ap (λ w. lead_of t.kind (keyword_of w)) (sym (same_name text other t c.2))

instruction_filling : IsFilling tight always (λ text. SpellsInstruction text)
instruction_filling = record { one = instruction_fills }

-- and at the same place
place_cut : (text other : List ℕ) (at ts us vs : List Token) → IsCut text other at ts us vs → length at < length ts → place_at us ≡ place_at ts
place_cut text other at [] us vs c l = absurd (omega (arith, l))
place_cut text other at (t ∷ ts) us vs (inl c) l = let same = ap length c.0 in absurd (omega (arith, l, same))
place_cut text other at (t ∷ ts) us vs (inr c) l = ap place_at c.1

-- An instruction that may be there begins the rest of a body, once a token of it is read.
pub placed_inside : {text : List ℕ} {ts : List Token} {room : Bool} (depth : ℕ) (load : Bool) (last : Keyword) (K : List Token → List Step → Type 0) → may_begin depth load (lead_at text ts) ≡ true
    → (at : List Token) (effect : Effect) → ((vs : List Token) (i : Instruction) (steps : List Step) → HasRoom room i → greatest_depth (depth_after depth i) steps ≤ depth_after depth i → All (λ (s : Step). StandsAmong vs s.place) steps
    → K vs (bare (place_at ts) i ∷ steps))
    → Begins always (λ text. SpellsRoomyOf text room effect) text ts at → length at < length ts → BeginsBy always (λ vs. Within (λ x. K vs (all_steps x)) (λ text. SpellsPlacedFrom text last depth load)) text ts at
placed_inside {text = text} {ts = ts} {room = room} depth load last K may at effect keeps b less = record {
  inside = b.inside;
  samples = b.samples ++ rest_samples last (depth_of depth effect) (load_of effect);
  goes = λ other us vs rest c a t.
      let mid = samples_apart other b.samples (rest_samples last (depth_of depth effect) (load_of effect)) vs rest a in
      let x = b.goes other us vs mid.0 c mid.1 tt in
      let y = (rest_sampled last (depth_of depth effect) (load_of effect)).stands other mid.0 rest mid.2 tt in
      let stays = (stays_loose {test = always} (rest_solid last (depth_of depth effect) (load_of effect))).same other mid.0 rest mid.2 tt in
      let there = placed_read instruction_filling (record { found = x.1.1.1 }) in
      let may_here = sym (may_so other depth load (place_at us) x.0 us mid.0 x.1.1.1) ∙ ap (λ l. may_begin depth load l) (lead_cut text other at ts us vs c less) ∙ may in
      let deep = depth_is depth x.0 ∙ ap (depth_of depth) x.1.0 in
      let loads = load_is x.0 ∙ ap load_of x.1.0 in
      let nested = ap (λ b. b && is_nested (depth_after depth x.0) (needs_load x.0) y.0.0) may_here ∙ ap (λ d. is_nested d (needs_load x.0) y.0.0) deep ∙ ap (λ l. is_nested (depth_of depth effect) l y.0.0) loads ∙ y.1.0 in
      let shallow = subst (λ d. greatest_depth d y.0.0 ≤ d) (sym deep) y.1.2 in
      let among = steps_among other _ y.0.0 vs mid.0 rest (samples_end other b.samples vs mid.0 mid.1) y.1.1 in (
        ((place_at us, x.0), y.0),
        ((nested, (mid.0, there.found, subst (λ k. SpellsRestLines other last y.0 k rest) (sym stays) y.1.1)), subst (λ p. K vs (bare p x.0 ∷ y.0.0)) (sym (place_cut text other at ts us vs c less)) (keeps vs x.0 y.0.0 x.1.1.0 shallow among)),
      );
}

-- in the room that there is no parenthesis opens too deep
stays_within : (room : Bool) (depth : ℕ) (i : Instruction) → depth ≤ 16 → (IsTrue room → depth < 16) → HasRoom room i → depth_after depth i ≤ 16
stays_within room depth (instruction.Defer op o) few fits has = let l = fits has in omega (arith, l)
stays_within room zero instruction.Evaluate few fits has = few
stays_within room (suc depth) instruction.Evaluate few fits has = omega (arith, few)
stays_within room depth (instruction.Load n o) few fits has = few
stays_within room depth (instruction.Store k o) few fits has = few
stays_within room depth instruction.Not few fits has = few
stays_within room depth (instruction.Operate op o) few fits has = few
stays_within room depth (instruction.Jump k n) few fits has = few
stays_within room depth (instruction.Return k) few fits has = few
stays_within room depth (instruction.Call k n a) few fits has = few
stays_within room depth (instruction.Invoke f a) few fits has = few

-- what is shallow after an instruction is with it
shallow_with : (depth : ℕ) (p : Place) (i : Instruction) (steps : List Step) → depth ≤ 16 → depth_after depth i ≤ 16 → greatest_depth (depth_after depth i) steps ≤ depth_after depth i → StaysShallow depth (bare p i ∷ steps)
shallow_with depth p i steps few after most = omega (arith, few, after, most)

-- a body is not full
not_full : (full : Bool) → full ≡ false → IsTrue full → ⊥
not_full full is_not f = let same : true ≡ false = sym f ∙ is_not in cc

-- so does one of which nothing is read yet
placed_begins : {text : List ℕ} {ts : List Token} {room : Bool} (depth : ℕ) (load full : Bool) (last : Keyword) → depth ≤ 16 → full ≡ false → (IsTrue room → depth < 16) → may_begin depth load (lead_at text ts) ≡ true → (at : List Token) (effect : Effect)
    → Begins always (λ text. SpellsRoomyOf text room effect) text ts at → BeginsBy always (λ vs. Within (λ x. KeepsRest depth full vs (all_steps x)) (λ text. SpellsPlacedFrom text last depth load)) text ts at
placed_begins {text = text} {ts = ts} {room = room} depth load full last few is_not fits may at effect b = go (whole_or at ts b.inside)
  where
    go : ((at ≡ ts) ⊎ (length at < length ts)) → BeginsBy always (λ vs. Within (λ x. KeepsRest depth full vs (all_steps x)) (λ text. SpellsPlacedFrom text last depth load)) text ts at
    go (inl edge) =
        subst (λ k. BeginsBy always (λ vs. Within (λ x. KeepsRest depth full vs (all_steps x)) (λ text. SpellsPlacedFrom text last depth load)) text ts k) (sym edge) (placed_here last depth load full few)
    go (inr less) =
        placed_inside depth load last (KeepsRest depth full) may at effect
        (λ vs i steps has most among. (shallow_with depth (place_at ts) i steps few (stays_within room depth i few fits has) most, (λ f. absurd (not_full full is_not f), among))) b less

-- what follows the first of the tokens of an end is shorter than all
pub shorter_behind : (at ts back : List Token) (t : Token) → IsEndOf at ts → at ≡ t ∷ back → length back < length ts
shorter_behind at ts back t end same = let l = end_length at ts end in let k = ap length same in omega (arith, l, k)

-- an instruction breaks off
pub instruction_breaks : {text : List ℕ} {ts : List Token} {e : Stop} {room : Bool} (depth : ℕ) (load full : Bool) (last : Keyword) → depth ≤ 16 → full ≡ false → (IsTrue room → depth < 16) → may_begin depth load (lead_at text ts) ≡ true
    → BreaksOffAs SpellsRoomyOf room text ts e → BreaksPlaced last depth load full text ts e
instruction_breaks {text = text} {ts = ts} depth load full last few is_not fits may bad = record {
  fault = λ is.
      let b = bad.fault is in (
        b.0,
        b.1,
        b.2,
        placed_begins depth load full last few is_not fits may b.1 b.3 b.4,
        further_as {B = λ error t back. (error ≡ TooDeep) × (more : Effect) × Begins always (λ text. SpellsRoomyOf text true more) text ts back}
            {C = λ error t back. (length back < length ts) × Begins always (Within (λ x. BeginsSurplus full error t (all_steps x)) (λ text. SpellsPlacedFrom text last depth load)) text ts back} b.0 b.1
            (λ error t back same k.
            let less = shorter_behind b.1 ts back t b.4.inside same in
            (less, placed_inside depth load last (λ vs steps. BeginsSurplus full error t steps) may back k.1 (λ vs i steps has most among. subst (λ x. BeginsSurplus full x t (bare (place_at ts) i ∷ steps)) (sym k.0) tt) k.2 less)) b.5,
      );
}

-- what holds of all of a P that breaks off, once something of it is read
module _ {A B : Type 0} {P : List ℕ → A → Front} {Q : List ℕ → B → Front} {K : List Token → A → Type 0} {M : List Token → B → Type 0} {L : SyntaxError → Token → A → Type 0} {N : SyntaxError → Token → B → Type 0} {look gap : Gap} {test other_test : Test}
    {text : List ℕ} {ts us : List Token} {e : Stop} where
  pub by_breaks : ((at : List Token) → BeginsBy test (λ vs. Within (K vs) P) text ts at → BeginsBy other_test (λ vs. Within (M vs) Q) text us at)
      → ((error : SyntaxError) (t : Token) (back : List Token) → IsEndOf back ts → length back < length (look ts) → Begins test (Within (L error t) P) text ts back
      → (length back < length (gap us)) × Begins other_test (Within (N error t) Q) text us back)
      → BreaksOffBy look test K L P text ts e → BreaksOffBy gap other_test M N Q text us e
  by_breaks f g bad = record {
    fault = λ is.
        let b = bad.fault is in (
          b.0,
          b.1,
          b.2,
          f b.1 b.3,
          further_as {B = λ error t back. (length back < length (look ts)) × Begins test (Within (L error t) P) text ts back} {C = λ error t back. (length back < length (gap us)) × Begins other_test (Within (N error t) Q) text us back}
              b.0 b.1 (λ error t back same k. g error t back k.1.inside k.0 k.1) b.4,
        );
  }

-- A fault of an unexpected token, where a P keeps K with all tokens.
pub plainly : {A : Type 0} {P : List ℕ → A → Front} {K : List Token → A → Type 0} {L : SyntaxError → Token → A → Type 0} {look : Gap} {test : Test} {text : List ℕ} {ts : List Token} {e : Stop}
    → BreaksOff test (Within (λ x. (vs : List Token) → K vs x) P) text ts e → BreaksOffBy look test K L P text ts e
plainly {P = P} {K = K} bad = record {
  fault = λ is.
      let b = bad.fault is in
      (Unexpected, b.0, b.1, begins_as_by {P = λ vs. Within (λ x. (vs : List Token) → K vs x) P} {Q = λ vs. Within (K vs) P} (λ x. x) (λ x vs other us r w. (w.0, w.1 vs)) b.2, tt);
}

-- a body that is full is the same with labels
labelled_surplus : (full : Bool) (error : SyntaxError) (t : Token) (s : Step) (steps : List Step) → BeginsSurplus full error t (bare s.place s.instruction ∷ steps) → BeginsSurplus full error t (s ∷ steps)
labelled_surplus full Unexpected t s steps w = w
labelled_surplus full TooDeep t s steps w = w
labelled_surplus full TooMany t s steps w = w

-- after labels
pub outer_breaks : {text : List ℕ} {start m : List Token} {ns : List Named} {alone : Bool} {e : Stop} (last : Keyword) (load full : Bool) → HasLabels text start ns alone m → BreaksPlaced last 0 load full text m e
    → BreaksFrom last 0 load full text start e
outer_breaks {text = text} {start = start} {m = m} {ns = ns} last load full labels bad =
    by_breaks (λ at b. go at b (whole_or at m b.inside)) (λ error t back end less b. (short back less, inner (λ vs steps. BeginsSurplus full error t steps) (λ vs s steps w. labelled_surplus full error t s steps w) back b less)) bad
  where
    short : (back : List Token) → length back < length m → length back < length start
    short back less = let l = end_length m start labels.inside in omega (arith, less, l)

    solid : (load : Bool) → is_solid (first_samples load ++ closing_samples last 0) ≡ true
    solid true = refl
    solid false = refl

    labelled : (K : List Step → Type 0) → ((s : Step) (steps : List Step) → K (bare s.place s.instruction ∷ steps) → K (s ∷ steps)) → (other : List ℕ) (us n r : List Token) (x : (Place × Instruction) × Rest)
        → ((p : Place) (i : Instruction) (r : List Token) → At p (SpellsInstruction other i) n r → SpellsLabelled other ns (At p (SpellsInstruction other i)) us r) → Within (λ x. K (all_steps x)) (λ text. SpellsPlacedFrom text last 0 load) other x n r
        → (y : Rest) × Within (λ y. K y.0) (λ text. SpellsFrom text last 0 load) other y us r
    labelled K keeps other us n r x f w =
        let step : Step = record { labels = ns; place = x.0.0; instruction = x.0.1 } in
        ((step ∷ x.1.0, x.1.1), ((w.0.0, (w.0.1.0, f x.0.0 x.0.1 w.0.1.0 w.0.1.1, w.0.1.2)), keeps step x.1.0 w.1))

    inner : (K : List Token → List Step → Type 0) → ((vs : List Token) (s : Step) (steps : List Step) → K vs (bare s.place s.instruction ∷ steps) → K vs (s ∷ steps)) → (at : List Token)
        → BeginsBy always (λ vs. Within (λ x. K vs (all_steps x)) (λ text. SpellsPlacedFrom text last 0 load)) text m at → length at < length m → BeginsBy always (λ vs. Within (λ y. K vs y.0) (λ text. SpellsFrom text last 0 load)) text start at
    inner K keeps at b less = record {
      inside = end_of_end at m start labels.inside b.inside;
      samples = b.samples;
      goes = λ other us vs rest c a t.
          let n = labels.gone other at us vs b.inside c (inl less) in
          let x = b.goes other n.0 vs rest n.1 a tt in
          labelled (K vs) (keeps vs) other us n.0 rest x.0 n.2 x.1;
    }

    go : (at : List Token) → BeginsBy always (λ vs. Within (λ x. KeepsRest 0 full vs (all_steps x)) (λ text. SpellsPlacedFrom text last 0 load)) text m at → ((at ≡ m) ⊎ (length at < length m))
        → BeginsBy always (λ vs. Within (λ y. KeepsRest 0 full vs y.0) (λ text. SpellsFrom text last 0 load)) text start at
    go at b (inl edge) = record {
      inside = end_of_end at m start labels.inside b.inside;
      samples = first_samples load ++ closing_samples last 0;
      goes = λ other us vs rest c a t.
          let n = labels.gone other at us vs b.inside c (inr ((stays_loose {test = always} (solid load)).same other vs rest a tt)) in
          let x = placed_from_sampled last 0 load full (omega arith) other vs rest a in
          labelled (KeepsRest 0 full vs) (λ s steps w. w) other us n.0 rest x.0 n.2
          (subst (λ k. Within (λ x. KeepsRest 0 full vs (all_steps x)) (λ text. SpellsPlacedFrom text last 0 load) other x.0 k rest) (sym (cut_here text other at m n.0 vs n.1 edge)) x.1);
    }
    go at b (inr less) = inner (KeepsRest 0 full) (λ vs s steps w. w) at b less

-- in parentheses are no labels
pub inner_breaks : {text : List ℕ} {ts : List Token} {e : Stop} (last : Keyword) (depth : ℕ) (load full : Bool) → BreaksPlaced last depth load full text ts e → BreaksFrom last depth load full text ts e
inner_breaks {text = text} {ts = ts} last depth load full bad = by_breaks (λ at b. as_rest (KeepsRest depth full) at b) (λ error t back end less b. (less, as_rest (λ vs steps. BeginsSurplus full error t steps) back b)) bad
  where
    as_rest : (K : List Token → List Step → Type 0) (at : List Token) → BeginsBy always (λ vs. Within (λ x. K vs (all_steps x)) (λ text. SpellsPlacedFrom text last depth load)) text ts at
        → BeginsBy always (λ vs. Within (λ y. K vs y.0) (λ text. SpellsFrom text last depth load)) text ts at
    as_rest K at b =
        begins_as_by {P = λ vs. Within (λ x. K vs (all_steps x)) (λ text. SpellsPlacedFrom text last depth load)} {Q = λ vs. Within (λ y. K vs y.0) (λ text. SpellsFrom text last depth load)} (λ x. (bare x.0.0 x.0.1 ∷ x.1.0, x.1.1))
        (λ x vs other us r w. w) b

-- the one after so many
pub behind_all : {A : Type 0} (xs : List A) (x : A) (more : List A) (n : ℕ) → length xs ≡ n → slice_get (xs ++ x ∷ more) n ≡ Some x
behind_all [] x more zero same = refl
behind_all [] x more (suc n) same = absurd (omega (arith, same))
behind_all (y ∷ xs) x more zero same = absurd (omega (arith, same))
behind_all (y ∷ xs) x more (suc n) same = behind_all xs x more n (omega (arith, same))

surplus_behind : (full : Bool) (xs : List Step) → (IsTrue full → length xs ≡ 4096) → (error : SyntaxError) (t : Token) (more : List Step) → BeginsSurplus full error t more → HasSurplus error t (xs ++ more)
surplus_behind full xs is Unexpected t more w = tt
surplus_behind full xs is TooDeep t more w = tt
surplus_behind full xs is TooMany t [] w = absurd w
surplus_behind full xs is TooMany t (s ∷ more) w = (s, behind_all xs s more 4096 (is w.0), w.1)

-- after the instructions that a loop has read
pub steps_breaks : {text : List ℕ} {start ts : List Token} {xs : List Step} {most : ℕ} {e : Stop} (last : Keyword) (depth : ℕ) (load full : Bool) → depth ≤ 16 → length xs ≤ 4096 → most ≤ 16 → (IsTrue full → length xs ≡ 4096) → (IsFalse full → length xs ≡ 4096 → ⊥) → IsOpen xs depth load most
    → ((b : List Named × Place) → HasRead SpellsStep (λ text. TheEnds text last b) text start xs ts) → BreaksFrom last depth load full text ts e → BreaksSteps last text start e
steps_breaks {text = text} {start = start} {ts = ts} {xs = xs} {most = most} last depth load full few short_so_far at_most is_full not_yet opens so_far bad =
    by_breaks (λ at b. go at b (whole_or at ts b.inside))
    (λ error t back end less b. (short back less, inner (λ vs more. BeginsSurplus full error t more) (λ vs steps. HasSurplus error t steps) (λ vs more w. surplus_behind full xs is_full error t more w) back b less)) bad
  where
    none : List Named × Place
    none = ([], record { offset = 0; line = 0 })

    short : (back : List Token) → length back < length ts → length back < length start
    short back less = let l = end_length ts start (so_far none).inside in omega (arith, less, l)

    shallow : (more : List Step) → StaysShallow depth more → StaysShallow 0 (xs ++ more)
    shallow more w = let e = opens.deep more in omega (arith, e, w, at_most)

    whole : (K M : List Step → Type 0) → ((more : List Step) → K more → M (xs ++ more)) → (other : List ℕ) (at us vs n rest : List Token) → IsEndOf at ts → IsCut text other at start us vs
        → ((length at < length ts) ⊎ (skip_line_ends vs ≡ vs)) → IsCut text other at ts n vs
        → (x : Rest) → Within (λ y. K y.0) (λ text. SpellsFrom text last depth load) other x n rest → (y : Rest) × Within (λ y. M y.0) (λ text. SpellsFrom text last 0 false) other y us rest
    whole K M keeps other at us vs n rest e c d k x w =
        let g = (so_far x.1).gone.on other at us vs e c d in
        let same = cut_one text other at ts n g.0 vs k g.1 in
        ((xs ++ x.0, x.1), ((opens.nested x.0 ∙ w.0.0, g.2 x.0 rest (subst (λ j. SpellsRestLines other last x j rest) same w.0.1)), keeps x.0 w.1))

    inner : (K M : List Token → List Step → Type 0) → ((vs : List Token) (more : List Step) → K vs more → M vs (xs ++ more)) → (at : List Token) → BeginsBy always (λ vs. Within (λ y. K vs y.0) (λ text. SpellsFrom text last depth load)) text ts at
        → length at < length ts → BeginsBy always (λ vs. Within (λ y. M vs y.0) (λ text. SpellsFrom text last 0 false)) text start at
    inner K M keeps at b less = record {
      inside = end_of_end at ts start (so_far none).inside b.inside;
      samples = b.samples;
      goes = λ other us vs rest c a t.
          let g = (so_far none).gone.on other at us vs b.inside c (inl less) in
          let x = b.goes other g.0 vs rest g.1 a tt in
          whole (K vs) (M vs) (keeps vs) other at us vs g.0 rest b.inside c (inl less) g.1 x.0 x.1;
    }

    keeps : (vs : List Token) (more : List Step) → KeepsRest depth full vs more → KeepsSteps vs (xs ++ more)
    keeps vs more w = (shallow more w.0, late_surplus full vs xs more short_so_far not_yet w.1)

    go : (at : List Token) → BeginsBy always (λ vs. Within (λ y. KeepsRest depth full vs y.0) (λ text. SpellsFrom text last depth load)) text ts at → ((at ≡ ts) ⊎ (length at < length ts))
        → BeginsBy always (λ vs. Within (λ y. KeepsSteps vs y.0) (λ text. SpellsFrom text last 0 false)) text start at
    go at b (inl edge) = record {
      inside = end_of_end at ts start (so_far none).inside b.inside;
      samples = rest_samples last depth load;
      goes = λ other us vs rest c a t.
          let still = (stays_loose {test = always} (rest_solid last depth load)).same other vs rest a tt in
          let g = (so_far none).gone.on other at us vs b.inside c (inr still) in
          let x = from_sampled last depth load full few other vs rest a in
          whole (KeepsRest depth full vs) (KeepsSteps vs) (keeps vs) other at us vs g.0 rest b.inside c (inr still) g.1 x.0
          (subst (λ k. Within (λ y. KeepsRest depth full vs y.0) (λ text. SpellsFrom text last depth load) other x.0 k rest) (sym (cut_here text other at ts g.0 vs g.1 edge)) x.1);
    }
    go at b (inr less) = inner (KeepsRest depth full) KeepsSteps keeps at b less

-- the same of a body, as its parts
body_of : (K : List Token → List Step → Type 0) (last : Keyword) {text : List ℕ} {ts at : List Token} → BeginsBy always (λ vs text (x : Rest). TheLineEnd ⋯ Within (λ y. K vs y.0) (λ text. SpellsFrom text last 0 false) text x) text ts at
    → BeginsBy always (λ vs. Within (λ (b : Body). K vs b.steps) (λ text. SpellsBody text last)) text ts at
body_of K last b =
    begins_as_by {P = λ vs text (x : Rest). TheLineEnd ⋯ Within (λ y. K vs y.0) (λ text. SpellsFrom text last 0 false) text x} {Q = λ vs. Within (λ (b : Body). K vs b.steps) (λ text. SpellsBody text last)}
    (λ x. record { steps = x.0; last_labels = x.1.0; end = x.1.1 }) (λ x vs other us r w. ((w.2.0.0, (w.0, w.1, w.2.0.1)), w.2.1)) b

-- what a body keeps with all tokens
abbrev pub KeepsAnyhow : List Step → Type 0
KeepsAnyhow steps = (vs : List Token) → KeepsSteps vs steps

-- one without instructions does
pub none_kept : KeepsAnyhow []
none_kept vs = (omega arith, λ s e. absurd cc)

-- a body without instructions, of its own samples
pub body_kept : (K : List Step → Type 0) → K [] → (last : Keyword) → IsSampled always (Within (λ (b : Body). K b.steps) (λ text. SpellsBody text last)) (body_samples last)
body_kept K none last =
    map_sampled {P = λ text (x : Rest). TheLineEnd ⋯ Within (λ y. K y.0) (λ text. SpellsFrom text last 0 false) text x} {Q = Within (λ (b : Body). K b.steps) (λ text. SpellsBody text last)}
    (λ x. record { steps = x.0; last_labels = x.1.0; end = x.1.1 }) (λ x other us r w. ((w.2.0.0, (w.0, w.1, w.2.0.1)), w.2.1)) (s_part line_end_sampled (empty_sampled last K none) refl)

pub body_within : (last : Keyword) → IsSampled always (Within (λ (b : Body). KeepsAnyhow b.steps) (λ text. SpellsBody text last)) (body_samples last)
body_within last = body_kept KeepsAnyhow none_kept last

-- a body
pub body_breaks : {text : List ℕ} {ts m : List Token} {e : Stop} (last : Keyword) → Stands TheLineEnd ts m → BreaksSteps last text (skip_line_ends m) e → BreaksWith loose (λ b. b) (λ text. SpellsBody text last) text ts e
body_breaks {text = text} {ts = ts} {m = m} last here bad =
    by_breaks
    (λ at b. body_of KeepsSteps last
    (begins_behind_by {Q = λ vs. Within (λ y. KeepsSteps vs y.0) (λ text. SpellsFrom text last 0 false)} loose_cut (reach_tight loose_cut) line_end_fills here.found (λ vs. empty_sampled last (KeepsSteps vs) (none_kept vs)) passes_always (stays_loose refl) b))
    (λ error t back end less b. (subst (λ k. length back < length k) (sym (skip_one ts m here.found)) less, body_of (λ vs steps. HasSurplus error t steps) last (begins_inside loose_cut (reach_tight loose_cut) line_end_fills.opens here.found less b))) bad
