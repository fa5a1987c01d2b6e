-- Texts that are completed after some instructions of a unit: the units before it, its heading and these instructions stay, and as little as may be follows.
use Rattle.std.specs.Prelude.{IsTrue}
use Rattle.std.proofs.Common.{◌≡◌, ◌<◌, ◌≤◌, ℕ, Bool, true, false, ◌&&◌, List, [], ◌∷◌, ◌++◌, length, append-nil, refl, sym, ap, subst, inl, inr, arith}
use Rattle.il_syntax.specs.declared.token.Token.{Token}
use Rattle.il_syntax.specs.declared.keyword.Keyword.TheVariants as word
use Rattle.il_syntax.specs.declared.tree.Place.{Place}
use Rattle.il_syntax.specs.declared.tree.Named.{Named}
use Rattle.il_syntax.specs.declared.tree.Step.{Step}
use Rattle.il_syntax.specs.declared.tree.Body.{Body}
use Rattle.il_syntax.specs.declared.tree.UnitKind.{UnitKind}
use Rattle.il_syntax.specs.declared.tree.UnitKind.TheVariants as unit
use Rattle.il_syntax.specs.declared.tree.Elementary.TheVariants as elementary
use Rattle.il_syntax.specs.declared.token.Sign.TheVariants.{Colon}
use Rattle.il_syntax.specs.declared.tree.Unit.{Unit as ProgramUnit}
use Rattle.il_syntax.specs.declared.tree.Config.{Config}
use Rattle.il_syntax.specs.Text.{AreTokens}
use Rattle.il_syntax.specs.Grammar.{Front, Gap, tight, loose, ◌⨾◌, skip_line_ends, Nothing, Repeats, At, TheLineEnd, TheWord, TheName, SpellsResult, SpellsStep, SpellsUnit, HasItsLists, unit_word, end_word, is_nested, depth_after, needs_load, greatest_depth}
use Rattle.il_syntax_laws.specs.Alike.{IsEndOf}
use Rattle.il_syntax_laws.specs.GoesOn.{Sample, Test, AreOf, IsCut, always, ended, IsSampled, BeginsBy}
use Rattle.il_syntax_laws.proofs.Alike.{end_same, end_self, end_length, end_of_end, loose_gap, gap_length}
use Rattle.il_syntax_laws.proofs.Bodies.{skip_one}
use Rattle.il_syntax_laws.proofs.Open.{Opens, Takes, loose_open, asks, in_turn, both_lines, loosely, fill_placed, word_fills, the_name_fills, line_end_fills, declaration_fills, filled_opens, optional_opens, unit_externals_opens, result_opens}
use Rattle.il_syntax_laws.proofs.Samples.{word_sample, name_sample, sign_sample, declaration_samples, body_samples, word_sampled, the_name_sampled}
use Rattle.il_syntax_laws.proofs.GoesOn.{cut_here, is_solid, samples_apart, stays_loose, IsFilling}
use Rattle.load_lines.proofs.Breaks.{s_loose, s_tight}
use Rattle.load_lines.proofs.Chain.{regroup}
use Rattle.load_lines.proofs.Nesting.{IsOpen, one_open}
use Rattle.load_tree.specs.Refused.{IsBegun}
use Rattle.load_tree.specs.GoesOn.{SpellsAll, Within}
use Rattle.load_tree.specs.Parts.{SpellsGroup}
use Rattle.load_tree.proofs.Entries.{step_filling, both_left}
use Rattle.load_tree.proofs.Parts.{Group, config, whole_config}
use Rattle.load_tree.proofs.Rests.{unit_filling, group_sampled, program_is, block_is, function_is, text_goes_on}
use Rattle.load_tree.proofs.Shallow.{program_within, block_within, result_within}
use Rattle.il_fault_laws.proofs.Runs.{join_run}
use Rattle.il_fault_laws.proofs.Headings.{Lists, TheLists, Heading, heading_of, join_unit}
use Rattle.il_fault_laws.proofs.Surplus.{TheEndOf}

-- HEADINGS OF CUT TOKENS

-- nothing passes this test
abbrev none_passes : Test
none_passes other vs = ⊥

asked : {F : List ℕ → Front} {look : Gap} {test : Test} → Opens look test F → Opens look none_passes F
asked one = asks (λ other vs k. absurd k) one

lists_opens : (kind : UnitKind) (l : Lists) → Opens loose none_passes (λ text. SpellsResult text kind ⨾ TheLists text kind l)
lists_opens kind l =
    both_lines (asked (result_opens kind)) (both_lines (asked (filled_opens word.VarInput l.0)) (both_lines (asked (filled_opens word.VarOutput l.1.0)) (both_lines (asked (optional_opens word.Var declaration_fills l.1.1.0)) (asked (unit_externals_opens kind l.1.1.1)))))

name_opens : (kind : UnitKind) (n : Named) (l : Lists) → Opens loose none_passes (λ text. TheName text n ⨾ SpellsResult text kind ⨾ TheLists text kind l)
name_opens kind n l = both_lines (asked (loosely (the_name_fills n).opens)) (lists_opens kind l)

name_takes : (kind : UnitKind) (n : Named) (l : Lists) → Takes tight (λ text. TheName text n ⨾ SpellsResult text kind ⨾ TheLists text kind l)
name_takes kind n l = record {
  less = λ text ts m w.
      let a = (the_name_fills n).takes.less text ts w.0 w.1 in
      let b = end_length m w.0 ((lists_opens kind l).ends text w.0 m w.2) in
      omega (arith, a, b);
}

pub heading_opens : (kind : UnitKind) (x : Place × (Named × Lists)) → Opens loose none_passes (λ text. Heading text kind x)
heading_opens kind x = in_turn loose_open (λ k. gap_length loose_gap k) (fill_placed x.0 (word_fills (unit_word kind))).opens (name_takes kind x.1.0 x.1.1) (name_opens kind x.1.0 x.1.1)

-- THINGS ONE BEHIND ANOTHER

module _ {A : Type 0} {P : List ℕ → A → Front} (fill : IsFilling tight always P) where
  pub fill_end : (text : List ℕ) (front : List A) (ts mid : List Token) → Repeats (P text) front Nothing ts mid → IsEndOf mid ts
  fill_end text [] ts mid w = end_same ts mid w
  fill_end text (x ∷ front) ts mid w =
      end_of_end mid (skip_line_ends w.0) ts (end_of_end (skip_line_ends w.0) w.0 ts ((fill.one x).opens.ends text ts w.0 w.1) (loose_gap.ends w.0)) (fill_end text front (skip_line_ends w.0) mid w.2)

  -- they are in a text that is cut after them
  pub cut_run : (text other : List ℕ) (front : List A) (ts us mid at vs : List Token) → IsCut text other at ts us vs → Repeats (P text) front Nothing ts mid → IsEndOf at mid → length at < length mid
      → (n : List Token) × Repeats (P other) front Nothing us n × IsCut text other at mid n vs
  cut_run text other [] ts us mid at vs c w e l = (us, refl, subst (λ (k : List Token). IsCut text other at k us vs) w c)
  cut_run text other (x ∷ front) ts us mid at vs c w e l =
      let e1 = fill_end text front (skip_line_ends w.0) mid w.2 in
      let e2 = end_of_end at mid (skip_line_ends w.0) e1 e in
      let short = end_length mid (skip_line_ends w.0) e1 in
      let k = (fill.one x).opens.keeps text other at ts us vs w.0 w.1 (end_of_end at (skip_line_ends w.0) w.0 (loose_gap.ends w.0) e2) c (inr tt) in
      let r = cut_run text other front (skip_line_ends w.0) (skip_line_ends k.0) mid at vs (loose_open.cut text other at w.0 k.0 vs k.2 (omega (arith, short, l))) w.2 e l in
      (r.0, (k.0, k.1, r.1), r.2)

-- PARENTHESES

pub both_right : (a b : Bool) → (a && b) ≡ true → b ≡ true
both_right true b e = e
both_right false b e = absurd cc

-- what is open after some instructions
pub open_steps : (done xs more : List Step) (depth : ℕ) (load : Bool) (most : ℕ) → IsOpen done depth load most → IsTrue (is_nested depth load (xs ++ more)) → (d : ℕ) × (l : Bool) × (m : ℕ) × IsOpen (done ++ xs) d l m
open_steps done [] more depth load most o w = (depth, load, most, subst (λ (ys : List Step). IsOpen ys depth load most) (sym (append-nil done)) o)
open_steps done (x ∷ xs) more depth load most o w =
    let next = one_open done depth load most x o (both_left _ _ w) in
    let r = open_steps (done ++ x ∷ []) xs more (depth_after depth x.instruction) (needs_load x.instruction) _ next (both_right _ _ w) in
    (r.0, r.1, r.2, subst (λ (ys : List Step). IsOpen ys r.0 r.1 r.2) (sym (regroup done x xs)) r.3)

-- no less is open at once than at first
pub depth_least : (depth : ℕ) (steps : List Step) → depth ≤ greatest_depth depth steps
depth_least depth [] = omega arith
depth_least depth (s ∷ steps) = omega arith

-- WHOLE TEXTS

-- units, and one whose instructions keep something
abbrev pub EndsIn : List ProgramUnit → ProgramUnit → (List Step → Type 0) → Config → Type 0
EndsIn front u K c = (b : Body) × (c.units ≡ front ++ (record u { body = b }) ∷ []) × K b.steps

ends_in : (front : List ProgramUnit) (u : ProgramUnit) (K : List Step → Type 0) (b : Body) (g : Group) → K b.steps → EndsIn front u K (config (front ++ (record u { body = b }) ∷ []) g)
ends_in front u K b g keeps = (b, refl, keeps)

-- The rest of a body, of its own samples, after some instructions: with these it keeps K.
abbrev pub Rests : UnitKind → List Step → (List Step → Type 0) → List ℕ → List Token → List Token → List Sample → Type 0
Rests kind steps K text here at zs = (other : List ℕ) (us vs rest : List Token) → IsCut text other at here us vs → AreOf other zs vs rest → skip_line_ends rest ≡ rest
    → (more : List Step) × (y : List Named × Place) × Repeats (SpellsStep other) more (TheEndOf other (end_word kind) y) us rest × IsTrue (is_nested 0 false (steps ++ more)) × K (steps ++ more)

module _ (text : List ℕ) (whole : List Token) (cut : AreTokens text 0 whole) (front : List ProgramUnit) (u : ProgramUnit) (steps : List Step) (K : List Step → Type 0) (from bt line here at : List Token) (zs : List Sample) where
  begins : {gs : List Sample} → IsSampled ended SpellsGroup gs → is_solid gs ≡ true → Repeats (SpellsUnit text) front Nothing (skip_line_ends whole) from → HasItsLists u.kind u → Heading text u.kind (heading_of u) from bt → TheLineEnd bt line → Repeats (SpellsStep text) steps Nothing (skip_line_ends line) here
      → IsEndOf at here → length at < length here → Rests u.kind steps K text here at zs → BeginsBy ended (λ vs. Within (EndsIn front u K) SpellsAll) text whole at
  begins {gs = gs} sampled solid_group units has heading line_end read e_here less rests =
      let e_line = fill_end step_filling text steps (skip_line_ends line) here read in
      let in_skip = end_of_end at here (skip_line_ends line) e_line e_here in
      let in_line = end_of_end at (skip_line_ends line) line (loose_gap.ends line) in_skip in
      let in_bt = end_of_end at line bt (line_end_fills.opens.ends text bt line line_end) in_line in
      let in_from = end_of_end at bt from ((heading_opens u.kind (heading_of u)).ends text from bt heading) in_bt in
      let e_from = fill_end unit_filling text front (skip_line_ends whole) from units in
      let in_units = end_of_end at from (skip_line_ends whole) e_from in_from in
      let l1 = end_length here (skip_line_ends line) e_line in
      let l2 : skip_line_ends bt ≡ skip_line_ends line = skip_one bt line line_end in
      let l3 = ap length l2 in
      let l4 = gap_length loose_gap line in
      let l5 = end_length bt from ((heading_opens u.kind (heading_of u)).ends text from bt heading) in
      let l6 = gap_length loose_gap bt in
      let l7 = end_length from (skip_line_ends whole) e_from in
      record {
        inside = end_of_end at (skip_line_ends whole) whole (loose_gap.ends whole) in_units;
        samples = zs ++ word_sample word.Configuration ∷ gs;
        goes = λ other us vs rest c a t.
            let c1 = loose_open.cut text other at whole us vs c (omega (arith, less, l1, l3, l5, l6, l7)) in
            let k1 = cut_run unit_filling text other front (skip_line_ends whole) (skip_line_ends us) from at vs c1 units in_from (omega (arith, less, l1, l3, l5, l6)) in
            let k2 = (heading_opens u.kind (heading_of u)).keeps text other at from k1.0 vs bt heading in_bt k1.2 (inl (omega (arith, less, l1, l3))) in
            let k3 = line_end_fills.opens.keeps text other at bt k2.0 vs line line_end in_line k2.2 (inr tt) in
            let c2 = loose_open.cut text other at line k3.0 vs k3.2 (omega (arith, less, l1)) in
            let k4 = cut_run step_filling text other steps (skip_line_ends line) (skip_line_ends k3.0) here at vs c2 read e_here less in
            let mid = samples_apart other zs (word_sample word.Configuration ∷ gs) vs rest a in
            let solid = (stays_loose {samples = word_sample word.Configuration ∷ gs} {test = ended} refl).same other mid.0 rest mid.2 t in
            let x = rests other k4.0 vs mid.0 k4.2 mid.1 solid in
            let b : Body = record { steps = steps ++ x.0; last_labels = x.1.0; end = x.1.1 } in
            let unit = join_unit other u b k1.0 k2.0 mid.0 has k2.1 (x.3, (k3.0, k3.1, join_run (SpellsStep other) steps x.0 (TheEndOf other (end_word u.kind) x.1) (skip_line_ends k3.0) k4.0 mid.0 k4.1 x.2)) in
            let g = (s_loose (word_sampled word.Configuration) sampled solid_group).stands other mid.0 rest mid.2 t in
            let all = join_run (SpellsUnit other) front (record u { body = b } ∷ []) (TheWord other word.Configuration) (skip_line_ends us) k1.0 g.1.0 k1.1
            (mid.0, unit, subst (λ (k : List Token). TheWord other word.Configuration k g.1.0) (sym solid) g.1.1) in
            (config (front ++ record u { body = b } ∷ []) g.0.1, (whole_config other (front ++ record u { body = b } ∷ []) g.0.1 (skip_line_ends us) rest (g.1.0, all, g.1.2), ends_in front u K b g.0.1 x.4));
      }

  -- a text goes on after these instructions
  pub completed : Repeats (SpellsUnit text) front Nothing (skip_line_ends whole) from → HasItsLists u.kind u → Heading text u.kind (heading_of u) from bt → TheLineEnd bt line → Repeats (SpellsStep text) steps Nothing (skip_line_ends line) here
      → IsEndOf at here → length at < length here → Rests u.kind steps K text here at zs → IsBegun (λ vs c. EndsIn front u K c) text whole at
  completed units has heading line_end read e_here less rests = text_goes_on (λ vs c. EndsIn front u K c) text whole at cut (begins group_sampled refl units has heading line_end read e_here less rests)

-- UNITS, OF THEIR WORDS

-- a result, and what follows it
abbrev result_samples : List Sample
result_samples =
    (sign_sample Colon ∷ word_sample (word.Elementary elementary.Bool) ∷ []) ++ ((word_sample word.VarInput ∷ declaration_samples ++ word_sample word.EndVar ∷ []) ++ body_samples word.EndFunction)

-- what follows the word of a unit, of its own samples
pub unit_rest : (k : UnitKind) → (zs : List Sample) × ((other : List ℕ) (place : Place) (n vs rest : List Token) → At place (TheWord other (unit_word k)) n vs → AreOf other zs vs rest → (v : ProgramUnit) × SpellsUnit other v n rest × (greatest_depth 0 v.body.steps ≤ 16))
unit_rest unit.Program = (
  name_sample ∷ body_samples word.EndProgram,
  λ other place n vs rest word_here a.
      let x = (s_tight the_name_sampled program_within).stands other vs rest a tt in
      let solid = (stays_loose {samples = name_sample ∷ body_samples word.EndProgram} {test = always} refl).same other vs rest a tt in
      let y = x.0 in
      let name_here = subst (λ (j : List Token). TheName other y.0 j x.1.0) (sym solid) x.1.1 in (
        record { place = place; kind = unit.Program; name = y.0; inputs = []; outputs = []; variables = y.1.0; externals = y.1.1; body = y.1.2 },
        program_is (place, y.0, y.1) other n rest (vs, word_here, (x.1.0, name_here, x.1.2.0)),
        (x.1.2.1 []).0,
      ),
)
unit_rest unit.FunctionBlock = (
  name_sample ∷ body_samples word.EndFunctionBlock,
  λ other place n vs rest word_here a.
      let x = (s_tight the_name_sampled block_within).stands other vs rest a tt in
      let solid = (stays_loose {samples = name_sample ∷ body_samples word.EndFunctionBlock} {test = always} refl).same other vs rest a tt in
      let y = x.0 in
      let name_here = subst (λ (j : List Token). TheName other y.0 j x.1.0) (sym solid) x.1.1 in (
        record { place = place; kind = unit.FunctionBlock; name = y.0; inputs = y.1.0; outputs = y.1.1; variables = y.1.2; externals = []; body = y.1.3 },
        block_is (place, y.0, y.1) other n rest (vs, word_here, (x.1.0, name_here, x.1.2.0)),
        (x.1.2.1 []).0,
      ),
)
unit_rest (unit.Function s p) = (
  name_sample ∷ result_samples,
  λ other place n vs rest word_here a.
      let x = (s_tight the_name_sampled result_within).stands other vs rest a tt in
      let solid = (stays_loose {samples = name_sample ∷ result_samples} {test = always} refl).same other vs rest a tt in
      let y = x.0 in
      let name_here = subst (λ (j : List Token). TheName other y.0 j x.1.0) (sym solid) x.1.1 in (
        record { place = place; kind = unit.Function y.1.0.1 y.1.0.0; name = y.0; inputs = y.1.1.0; outputs = []; variables = y.1.1.1; externals = []; body = y.1.1.2 },
        function_is (place, y.0, y.1.0, y.1.1) other n rest (vs, word_here, (x.1.0, name_here, x.1.2.0)),
        (x.1.2.1 []).0,
      ),
)

-- units, and a shallow one
abbrev pub EndsWith : List ProgramUnit → Config → Type 0
EndsWith front c = (v : ProgramUnit) × (c.units ≡ front ++ v ∷ []) × (greatest_depth 0 v.body.steps ≤ 16)

ends_with : (front : List ProgramUnit) (v : ProgramUnit) (g : Group) → greatest_depth 0 v.body.steps ≤ 16 → EndsWith front (config (front ++ v ∷ []) g)
ends_with front v g low = (v, refl, low)

module _ (text : List ℕ) (whole : List Token) (cut : AreTokens text 0 whole) (front : List ProgramUnit) (k : UnitKind) (place : Place) (from at : List Token) where
  begins_word : {gs : List Sample} → IsSampled ended SpellsGroup gs → is_solid gs ≡ true → Repeats (SpellsUnit text) front Nothing (skip_line_ends whole) from → At place (TheWord text (unit_word k)) from at
      → BeginsBy ended (λ vs. Within (EndsWith front) SpellsAll) text whole at
  begins_word {gs = gs} sampled solid_group units word_here =
      let fill = fill_placed place (word_fills (unit_word k)) in
      let in_from = fill.opens.ends text from at word_here in
      let less = fill.takes.less text from at word_here in
      let e_from = fill_end unit_filling text front (skip_line_ends whole) from units in
      let l = end_length from (skip_line_ends whole) e_from in
      let zs = (unit_rest k).0 in
      record {
        inside = end_of_end at (skip_line_ends whole) whole (loose_gap.ends whole) (end_of_end at from (skip_line_ends whole) e_from in_from);
        samples = zs ++ word_sample word.Configuration ∷ gs;
        goes = λ other us vs rest c a t.
            let c1 = loose_open.cut text other at whole us vs c (omega (arith, less, l)) in
            let k1 = cut_run unit_filling text other front (skip_line_ends whole) (skip_line_ends us) from at vs c1 units in_from less in
            let k2 = fill.opens.keeps text other at from k1.0 vs at word_here (end_self at) k1.2 (inr tt) in
            let edge = cut_here text other at at k2.0 vs k2.2 refl in
            let mid = samples_apart other zs (word_sample word.Configuration ∷ gs) vs rest a in
            let solid = (stays_loose {samples = word_sample word.Configuration ∷ gs} {test = ended} refl).same other mid.0 rest mid.2 t in
            let x = (unit_rest k).1 other place k1.0 vs mid.0 (subst (λ (j : List Token). At place (TheWord other (unit_word k)) k1.0 j) edge k2.1) mid.1 in
            let g = (s_loose (word_sampled word.Configuration) sampled solid_group).stands other mid.0 rest mid.2 t in
            let all = join_run (SpellsUnit other) front (x.0 ∷ []) (TheWord other word.Configuration) (skip_line_ends us) k1.0 g.1.0 k1.1
            (mid.0, x.1, subst (λ (j : List Token). TheWord other word.Configuration j g.1.0) (sym solid) g.1.1) in
            (config (front ++ x.0 ∷ []) g.0.1, (whole_config other (front ++ x.0 ∷ []) g.0.1 (skip_line_ends us) rest (g.1.0, all, g.1.2), ends_with front x.0 g.0.1 x.2));
      }

  -- a text goes on after the word of a unit
  pub word_completed : Repeats (SpellsUnit text) front Nothing (skip_line_ends whole) from → At place (TheWord text (unit_word k)) from at → IsBegun (λ vs c. EndsWith front c) text whole at
  word_completed units word_here = text_goes_on (λ vs c. EndsWith front c) text whole at cut (begins_word group_sampled refl units word_here)
