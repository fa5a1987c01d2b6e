-- Lists of variables, units and configurations that break off.
use Rattle.std.specs.Prelude.{◌⊎◌, ⊤, if◌then◌else◌}
use Rattle.std.proofs.Common.{◌≡◌, ℕ, ◌<◌, Bool, true, List, [], ◌∷◌, ◌++◌, length, refl, sym, ◌∙◌, ap, subst, inl, inr, arith, Option, Some, None, codes}
use Rattle.il_syntax.specs.declared.token.Token.{Token}
use Rattle.il_syntax.specs.declared.token.Kind.{Kind}
use Rattle.il_syntax.specs.declared.token.Kind.TheVariants as kind
use Rattle.il_syntax.specs.declared.token.Sign.TheVariants.{Colon}
use Rattle.il_syntax.specs.declared.keyword.Keyword.{Keyword}
use Rattle.il_syntax.specs.declared.keyword.Keyword.TheVariants as word
use Rattle.il_syntax.specs.declared.tree.Elementary.TheVariants as elementary
use Rattle.il_syntax.specs.declared.tree.Place.{Place}
use Rattle.il_syntax.specs.declared.tree.Named.{Named}
use Rattle.il_syntax.specs.declared.tree.Scalar.{Scalar}
use Rattle.il_syntax.specs.declared.tree.Declaration.{Declaration}
use Rattle.il_syntax.specs.declared.tree.Body.{Body}
use Rattle.il_syntax.specs.declared.tree.UnitKind.TheVariants as unit
use Rattle.il_syntax.specs.declared.tree.Size.{Size}
use Rattle.il_syntax.specs.declared.tree.Task.{Task}
use Rattle.il_syntax.specs.declared.tree.ProgramLine.{ProgramLine}
use Rattle.il_syntax.specs.Text.{AreTokens}
use Rattle.il_syntax.specs.Grammar.{Front, tight, loose, is_line_end, skip_line_ends, ◌⨾◌, ◌⋯◌, AfterLines, No, At, Repeats, TheEnd, TheSign, TheWord, SomeName, SpellsScalar, SpellsDeclaration, SpellsExternal, SpellsList, SpellsFilledList, SpellsOptionalList, SpellsStep, SpellsLabelLine, SpellsBody, SpellsUnit, SpellsTask, SpellsProgramLine}
use Rattle.il_syntax.specs.declared.tree.Config.{Config}
use Rattle.il_syntax_laws.specs.Alike.{IsEndOf}
use Rattle.il_syntax_laws.specs.GoesOn.{Sample, Test, IsCut, always, lacks, quiet, ended, IsSampled, BeginsBy, Begins}
use Rattle.il_syntax_laws.proofs.Printed.{goes_on_with}
use Rattle.il_syntax_laws.proofs.Alike.{end_length, end_of_end, end_same, loose_gap}
use Rattle.il_syntax_laws.proofs.Local.{word_same}
use Rattle.il_syntax_laws.proofs.Bodies.{skip_one}
use Rattle.il_syntax_laws.proofs.Open.{Fills, next, follows, loosely, fill_given, fill_placed, fill_any, repeated, no_after_opens, word_fills, some_name_fills, declaration_fills, external_fills, list_fills, filled_opens, optional_opens, scalar_fills, task_fills, program_line_fills, unit_fills, globals_open_at, result_opens, size_fills, loose_open, tight_open, skip_still}
use Rattle.il_syntax_laws.proofs.Samples.{word_sample, sign_sample, name_sample, cars_sample, floors_sample, slots_sample, word_known, begins_lacking, begins_solid, declaration_samples, word_sampled, sign_sampled, placed_word_sampled, some_name_sampled, scalar_sampled, filled_end_sampled, full_list_sampled, body_samples, body_lacks}
use Rattle.il_syntax_laws.proofs.GoesOn.{whole_or, cut_here, is_solid, Passes, stays_loose, stays_tight, stays_ended, passes_always, tight_cut, loose_cut, reach_tight, reach_loose, then_sampled, behind_sampled, map_sampled, IsFilling, IsOpening, begins_here, begins_first, begins_later_open, begins_behind, begins_ahead, begins_later_lax, IsLax, IsLaxPart, lax_chain}
use Rattle.load_lines.specs.Reads.{Reads, Stands, BreaksOff, NamesFirst, Further}
use Rattle.load_lines.specs.Settings.{PlacedWord, SpellsThree}
use Rattle.load_lines.specs.declared.stop.Stop.{Stop}
use Rattle.load_lines.specs.declared.stop.SyntaxError.{SyntaxError}
use Rattle.load_lines.specs.declared.stop.SyntaxError.TheVariants.{Unexpected, TooDeep, TooMany}
use Rattle.load_lines.proofs.Chain.{HasRead}
use Rattle.load_lines.proofs.Breaks.{as_breaks, at_first, map_breaks, part_loose, s_loose, s_part, s_tight}
use Rattle.load_lines.proofs.Completions.{lines_break, placed_sampled, floors_sampled, a_size_sampled, size_samples}
use Rattle.load_tree.specs.Refused.{IsBegun, GoesOnWith, GoesBeyond}
use Rattle.load_tree.specs.Lists.{IsFilled, SpellsFull}
use Rattle.load_tree.specs.Insides.{LacksList, SpellsVariables, SpellsSomeExternals}
use Rattle.load_tree.specs.Headings.{PlacedScalar, SpellsResultAt}
use Rattle.load_tree.specs.Units.{SpellsSmallUnit, SpellsUnitBy}
use Rattle.load_tree.specs.Parts.{SpellsSomeGlobals, SpellsTasks, SpellsPrograms, SpellsLines, SpellsResourceOf, SpellsEnding, SpellsGroup}
use Rattle.load_tree.specs.GoesOn.{SpellsFunctionRest, SpellsWholeProgram, SpellsWholeBlock, SpellsWholeFunction, SpellsAllUnits, SpellsAll, stopped, Within}

-- a line end
line_kind : (k : Kind) → is_line_end k ≡ true → k ≡ kind.LineEnd
line_kind kind.Word e = absurd cc
line_kind (kind.Number v) e = absurd cc
line_kind (kind.Typed v) e = absurd cc
line_kind (kind.Sign s) e = absurd cc
line_kind kind.LineEnd e = refl

skip_more : (t : Token) (ts : List Token) → is_line_end t.kind ≡ true → skip_line_ends (t ∷ ts) ≡ skip_line_ends ts
skip_more t ts e = ap (λ (b : Bool). if b then skip_line_ends ts else t ∷ ts) e

-- LISTS

module _ {A : Type 0} {R : List ℕ → A → Front} {zs : List Sample} {text : List ℕ} {ts : List Token} {e : Stop} where
  -- the word of a list is missing
  pub list_first : (k : Keyword) → IsSampled always R zs → is_solid zs ≡ true → NamesFirst (skip_line_ends ts) e → BreaksOff always (λ text x. AfterLines (TheWord text k ⋯ R text x)) text ts e
  list_first k r solid bad = let q = s_part (word_sampled k) r solid in lines_break q refl (at_first q bad)

  -- or what follows it breaks off
  pub list_later : {m : List Token} (k : Keyword) → IsSampled always R zs → is_solid zs ≡ true → Stands (TheWord text k) (skip_line_ends ts) m → BreaksOff always R text (skip_line_ends m) e
      → BreaksOff always (λ text x. AfterLines (TheWord text k ⋯ R text x)) text ts e
  list_later k r solid here bad = lines_break (s_part (word_sampled k) r solid) refl (part_loose (word_fills k) here r solid bad)

-- declarations, one at least
abbrev pub FilledEnd : List ℕ → Declaration × List Declaration → Front
FilledEnd text x = Repeats (SpellsDeclaration text) (x.0 ∷ x.1) (TheWord text word.EndVar)

pub as_full : {text : List ℕ} {ts : List Token} {e : Stop} (k : Keyword) → BreaksOff always (λ text x. AfterLines (TheWord text k ⋯ FilledEnd text x)) text ts e → BreaksOff always (λ text. SpellsFull text k) text ts e
as_full k bad = map_breaks {P = λ text x. AfterLines (TheWord text k ⋯ FilledEnd text x)} {Q = λ text. SpellsFull text k} (λ x. x.0 ∷ x.1) (λ x other us r w. (tt, w)) bad

-- where they don't end at once, they are one at least
pub filled_breaks : {text : List ℕ} {ts : List Token} {e : Stop} → ((r : List Token) → TheWord text word.EndVar ts r → ⊥) → BreaksOff always (λ text ds. Repeats (SpellsDeclaration text) ds (TheWord text word.EndVar)) text ts e
    → BreaksOff always FilledEnd text ts e
filled_breaks {text = text} {ts = ts} on bad = as_breaks (λ at b. go at b (whole_or at ts b.inside)) bad
  where
    Ended : List ℕ → List Declaration → Front
    Ended text ds = Repeats (SpellsDeclaration text) ds (TheWord text word.EndVar)

    still : (other : List ℕ) (at ts us vs r : List Token) → IsCut text other at ts us vs → length at < length ts → ((r : List Token) → TheWord text word.EndVar ts r → ⊥) → TheWord other word.EndVar us r → ⊥
    still other at [] us vs r c l none w = omega (arith, l)
    still other at (t ∷ ts) us vs r (inl c) l none w = let same = ap length c.0 in omega (arith, l, same)
    still other at (t ∷ ts) us vs r (inr c) l none w =
        let here = subst (λ x. TheWord other word.EndVar x r) c.1 w in
        none ts (word_same word.EndVar other text t (sym c.2) here.0, refl)

    choose : (other : List ℕ) (us rest : List Token) (ds : List Declaration) → ((r : List Token) → TheWord other word.EndVar us r → ⊥) → Repeats (SpellsDeclaration other) ds (TheWord other word.EndVar) us rest
        → (x : Declaration × List Declaration) × FilledEnd other x us rest
    choose other us rest [] none w = absurd (none rest w)
    choose other us rest (d ∷ ds) none w = ((d, ds), w)

    go : (at : List Token) → Begins always (λ text ds. Repeats (SpellsDeclaration text) ds (TheWord text word.EndVar)) text ts at → ((at ≡ ts) ⊎ (length at < length ts)) → Begins always FilledEnd text ts at
    go at b (inl edge) = subst (λ k. Begins always FilledEnd text ts k) (sym edge) (begins_here filled_end_sampled text ts)
    go at b (inr less) = record {
      inside = b.inside;
      samples = b.samples;
      goes = λ other us vs rest c a t.
          let x = b.goes other us vs rest c a t in
          choose other us rest x.0 (λ r w. still other at ts us vs r c less on w) x.1;
    }

-- a list that isn't empty
pub filled_is : (k : Keyword) (ds : List Declaration) (other : List ℕ) (us r : List Token) → SpellsFull other k ds us r → SpellsFilledList other k ds us r
filled_is k [] other us r w = absurd w.0
filled_is k (d ∷ ds) other us r w = w.1

-- rules of which each value holds of cut tokens
pub external_filling : IsFilling tight always (λ text. SpellsExternal text)
external_filling = record { one = external_fills }

pub scalar_filling : IsFilling loose quiet (λ text. SpellsScalar text)
scalar_filling = record { one = scalar_fills }

pub unit_filling : IsFilling tight always (λ text. SpellsUnit text)
unit_filling = record { one = unit_fills }

pub task_filling : IsFilling tight always (λ text. SpellsTask text)
task_filling = record { one = task_fills }

pub program_line_filling : IsFilling tight always (λ text. SpellsProgramLine text)
program_line_filling = record { one = program_line_fills }

-- WHAT STANDS BEHIND A HEADING

pub no_list_opening : (k : Keyword) → IsOpening loose (lacks k) (λ text (u : Unit {0}). LacksList text k)
no_list_opening k = record { one = λ u. no_after_opens (word_same k) }

pub filled_opening : (k : Keyword) → IsOpening loose (lacks k) (λ text. SpellsFilledList text k)
filled_opening k = record { one = filled_opens k }

pub variables_opening : IsOpening loose (lacks word.Var) SpellsVariables
variables_opening = record { one = optional_opens word.Var declaration_fills }

pub externals_opening : IsOpening loose (lacks word.VarExternal) SpellsSomeExternals
externals_opening = record { one = optional_opens word.VarExternal external_fills }

pub full_opening : (k : Keyword) → IsOpening loose always (λ text. SpellsFull text k)
full_opening k = record { one = λ ds. loosely (fill_given _ (list_fills k declaration_fills ds)).opens }

pub result_opening : IsOpening loose quiet SpellsResultAt
result_opening = record { one = λ x. result_opens (unit.Function x.1 x.0) }

-- they follow line ends more as well
pub lax_no : (k : Keyword) → IsLaxPart (λ text (u : Unit {0}). LacksList text k)
lax_no k = record { more = λ text u t ts rest line w. inr (w.0, (refl, λ r p. w.1 r (subst (λ x. TheWord text k x r) (skip_more t ts line) p))) }

list_lax : (k : Keyword) (P : List ℕ → Declaration → Front) (text : List ℕ) (ds : List Declaration) (t : Token) (ts rest : List Token) → is_line_end t.kind ≡ true → SpellsList text k (P text) ds ts rest → SpellsList text k (P text) ds (t ∷ ts) rest
list_lax k P text ds t ts rest line w = subst (λ x. (TheWord text k ⋯ Repeats (P text) ds (TheWord text word.EndVar)) x rest) (sym (skip_more t ts line)) w

no_lax : (k : Keyword) (text : List ℕ) (t : Token) (ts rest : List Token) → is_line_end t.kind ≡ true → LacksList text k ts rest → LacksList text k (t ∷ ts) (t ∷ ts)
no_lax k text t ts rest line w = (refl, λ r p. w.1 r (subst (λ x. TheWord text k x r) (skip_more t ts line) p))

pub lax_filled : (k : Keyword) → IsLaxPart (λ text. SpellsFilledList text k)
lax_filled k = record { more = go }
  where
    go : (text : List ℕ) (x : List Declaration) (t : Token) (ts rest : List Token) → is_line_end t.kind ≡ true → SpellsFilledList text k x ts rest → SpellsFilledList text k x (t ∷ ts) rest ⊎ ((ts ≡ rest) × SpellsFilledList text k x (t ∷ ts) (t ∷ ts))
    go text [] t ts rest line w = inr (w.0, no_lax k text t ts rest line w)
    go text (d ∷ ds) t ts rest line w = inl (list_lax k SpellsDeclaration text (d ∷ ds) t ts rest line w)

pub lax_optional : (k : Keyword) (P : List ℕ → Declaration → Front) → IsLaxPart (λ text. SpellsOptionalList text k (P text))
lax_optional k P = record { more = go }
  where
    go : (text : List ℕ) (x : List Declaration) (t : Token) (ts rest : List Token) → is_line_end t.kind ≡ true → SpellsOptionalList text k (P text) x ts rest
        → SpellsOptionalList text k (P text) x (t ∷ ts) rest ⊎ ((ts ≡ rest) × SpellsOptionalList text k (P text) x (t ∷ ts) (t ∷ ts))
    go text ds t ts rest line (inl w) = inl (inl (list_lax k P text ds t ts rest line w))
    go text ds t ts rest line (inr w) = inr (w.1.0, inr (w.0, no_lax k text t ts rest line w.1))

pub lax_full : (k : Keyword) → IsLaxPart (λ text. SpellsFull text k)
lax_full k = record { more = λ text ds t ts rest line w. inl (w.0, list_lax k SpellsDeclaration text ds t ts rest line w.1) }

pub lax_body : (last : Keyword) → IsLax (λ text. SpellsBody text last)
lax_body last = record { more = go }
  where
    go : (text : List ℕ) (b : Body) (t : Token) (ts rest : List Token) → is_line_end t.kind ≡ true → SpellsBody text last b ts rest → SpellsBody text last b (t ∷ ts) rest
    go text b t [] rest line w = absurd w.1.1
    go text b t (u ∷ us) rest line w =
        let same = skip_one (u ∷ us) w.1.0 w.1.1 in
        (w.0, (u ∷ us, (line_kind t.kind line, refl), subst (λ x. Repeats (SpellsStep text) b.steps (Repeats (SpellsLabelLine text) b.last_labels (At b.end (TheWord text last))) x rest) (sym same) w.1.2))

-- samples
pub passes_lacks : (k last : Keyword) → (last ≡ k → ⊥) → Passes (lacks k) (body_samples last) always
passes_lacks k last differs = record { yes = λ other vs rest a t. body_lacks last k differs other vs rest a }

module _ {A B : Type 0} {P : List ℕ → A → Front} {Q : List ℕ → B → Front} where
  pub s_lacks : (k last : Keyword) → (last ≡ k → ⊥) → IsSampled (lacks k) P [] → IsSampled always Q (body_samples last) → IsSampled always (λ text (x : A × B). P text x.0 ⨾ Q text x.1) (body_samples last)
  s_lacks k last differs p q = then_sampled tight p q (passes_lacks k last differs) stays_tight

  module _ {zs : List Sample} {first second : Test} {text : List ℕ} {ts : List Token} {e : Stop} where
    pub later_lax : {m : List Token} {x : A} → IsOpening loose first P → Reads (P text) ts x m → IsSampled second Q zs → IsLax Q → Passes first zs second → BreaksOff second Q text m e
        → BreaksOff second (λ text (y : A × B). P text y.0 ⨾ Q text y.1) text ts e
    later_lax one here q lax passes bad = as_breaks (λ at b. begins_later_lax one here.found q lax passes b) bad

    pub first_asked : IsSampled second Q zs → Passes first zs second → BreaksOff first P text ts e → BreaksOff second (λ text (y : A × B). P text y.0 ⨾ Q text y.1) text ts e
    first_asked q passes bad = as_breaks (λ at b. begins_first tight q passes stays_tight b) bad

pub ahead_first : {A : Type 0} {P : List ℕ → A → Front} {test : Test} {zs : List Sample} {text : List ℕ} {ts : List Token} {e : Stop} → IsSampled test P zs → IsLax P → NamesFirst (skip_line_ends ts) e → BreaksOff test P text ts e
ahead_first {text = text} {ts = ts} p lax bad = record { fault = λ is. (skip_line_ends ts, bad is, begins_ahead p lax text ts) }

pub full_sampled : (k : Keyword) → IsSampled always (λ text. SpellsFull text k) (word_sample k ∷ declaration_samples ++ word_sample word.EndVar ∷ [])
full_sampled k = map_sampled {P = λ text (x : Declaration × List Declaration). SpellsList text k (SpellsDeclaration text) (x.0 ∷ x.1)} {Q = λ text. SpellsFull text k} (λ x. x.0 ∷ x.1) (λ x other us r w. (tt, w)) (full_list_sampled k)

-- UNITS

pub result_sampled_at : IsSampled quiet SpellsResultAt (sign_sample Colon ∷ word_sample (word.Elementary elementary.Bool) ∷ [])
result_sampled_at = record { stands = λ other vs rest a t. let x = inner.stands other vs rest a t in (x.0, subst (λ k. (TheSign Colon ⋯ PlacedScalar other x.0) k rest) (sym ((stays_loose {samples = sign_sample Colon ∷ word_sample (word.Elementary elementary.Bool) ∷ []} {test = quiet} refl).same other vs rest a t)) x.1) }
  where
    inner : IsSampled quiet (λ text (x : Place × Scalar). TheSign Colon ⋯ PlacedScalar text x) (sign_sample Colon ∷ word_sample (word.Elementary elementary.Bool) ∷ [])
    inner = s_part (sign_sampled Colon) (placed_sampled scalar_filling scalar_sampled) refl

pub program_is : (x : Place × Named × (List Declaration × List Declaration × Body)) (other : List ℕ) (us r : List Token) → SpellsWholeProgram other x us r
    → SpellsUnit other (record { place = x.0; kind = unit.Program; name = x.1; inputs = []; outputs = []; variables = x.2.0; externals = x.2.1; body = x.2.2 }) us r
program_is x other us r h =
    let name = h.2 in
    let i = name.2 in
    let second = i.2 in
    let third = second.2 in
    let fourth = third.2 in
    ((refl, refl), (h.0, h.1, (name.0, name.1, (name.0, refl, (i.0, i.1, (second.0, second.1, (third.0, third.1, (fourth.0, fourth.1, fourth.2))))))))

pub block_is : (x : Place × Named × (List Declaration × List Declaration × List Declaration × Body)) (other : List ℕ) (us r : List Token) → SpellsWholeBlock other x us r
    → SpellsUnit other (record { place = x.0; kind = unit.FunctionBlock; name = x.1; inputs = x.2.0; outputs = x.2.1; variables = x.2.2; externals = []; body = x.2.3 }) us r
block_is x other us r h =
    let name = h.2 in
    let i = name.2 in
    let second = i.2 in
    let third = second.2 in
    let fourth = third.2 in
    (tt, (h.0, h.1, (name.0, name.1, (name.0, refl, (i.0, i.1, (second.0, second.1, (third.0, third.1, (fourth.0, (refl, fourth.1), fourth.2))))))))

some_inputs : (ds : List Declaration) → IsFilled ds → 0 < length ds
some_inputs [] h = absurd h
some_inputs (d ∷ ds) h = omega arith

pub function_is : (x : Place × Named × (Place × Scalar) × (List Declaration × List Declaration × Body)) (other : List ℕ) (us r : List Token) → SpellsWholeFunction other x us r
    → SpellsUnit other (record { place = x.0; kind = unit.Function x.2.1 x.2.0; name = x.1; inputs = x.3.0; outputs = []; variables = x.3.1; externals = []; body = x.3.2 }) us r
function_is x other us r h =
    let name = h.2 in
    let result = name.2 in
    let i = result.2 in
    let second = i.2 in
    let third = second.2 in
    let fourth = third.2 in
    ((some_inputs x.3.0 i.1.0, refl), (h.0, h.1, (name.0, name.1, (result.0, result.1, (i.0, filled_is word.VarInput x.3.0 other result.0 i.0 i.1, (second.0, second.1, (third.0, third.1, (fourth.0, (refl, fourth.1), fourth.2))))))))

-- THE CONFIGURATION

-- a word isn't where another does
pub passes_word : (k w : Keyword) (ss : List Sample) {test : Test} → (w ≡ k → ⊥) → Passes (lacks k) (word_sample w ∷ ss) test
passes_word k w ss differs = record { yes = λ other vs rest a t. begins_lacking (word_sample w) ss k refl (λ is e. let same : Some w ≡ Some k = sym (word_known w) ∙ e in differs cc) other vs rest a }

pub passes_stopped : (k w : Keyword) (ss : List Sample) {test : Test} → (w ≡ k → ⊥) → Passes (stopped k) (word_sample w ∷ ss) test
passes_stopped k w ss {test = test} differs = record {
  yes = λ other vs rest a t.
      let none = (passes_word k w ss {test = test} differs).yes other vs rest a t in
      let same = begins_solid (word_sample w) ss refl other vs rest a in
      (λ r p. none r (subst (λ x. TheWord other k x r) (sym same) p), same);
}

module _ {A : Type 0} {P : List ℕ → A → Front} (fill : IsFilling tight always P) (k : Keyword) where
  -- all that are here, and none more
  abbrev Stop_ : List ℕ → List A → Front
  Stop_ text xs = Repeats (P text) xs (No (TheWord text k))

  pub none_sampled : IsSampled (stopped k) (λ text xs. Repeats (P text) xs (No (TheWord text k))) []
  none_sampled = record { stands = λ other vs rest a t. ([], (a, λ r p. t.0 r (subst (λ x. TheWord other k x r) a p))) }

  stop_ends : (xs : List A) (text : List ℕ) (ts m : List Token) → Stop_ text xs ts m → IsEndOf m ts
  stop_ends [] text ts m p = end_same ts m p.0
  stop_ends (x ∷ xs) text ts m p = end_of_end m (skip_line_ends p.0) ts (end_of_end (skip_line_ends p.0) p.0 ts ((fill.one x).opens.ends text ts p.0 p.1) (loose_gap.ends p.0)) (stop_ends xs text (skip_line_ends p.0) m p.2)

  stop_keeps : (xs : List A) (text other : List ℕ) (at ts us vs m : List Token) → Stop_ text xs ts m → IsEndOf at m → IsCut text other at ts us vs → ((length at < length m) ⊎ stopped k other vs)
      → (n : List Token) × Stop_ other xs us n × IsCut text other at m n vs
  stop_keeps [] text other at ts us vs m p e c d = (us, (refl, λ r w. none at ts us vs (subst (λ x. IsEndOf at x) (sym p.0) e) c (moved d) p.1 r w), subst (λ x. IsCut text other at x us vs) p.0 c)
    where
      moved : ((length at < length m) ⊎ stopped k other vs) → (length at < length ts) ⊎ stopped k other vs
      moved (inl l) = let same = ap length p.0 in inl (omega (arith, l, same))
      moved (inr t) = inr t

      none : (at ts us vs : List Token) → IsEndOf at ts → IsCut text other at ts us vs → ((length at < length ts) ⊎ stopped k other vs) → ((r : List Token) → TheWord text k ts r → ⊥) → (r : List Token) → TheWord other k us r → ⊥
      none at [] us vs e c (inl l) out r w = omega (arith, l)
      none at [] us vs e c (inr t) out r w = t.0 r (subst (λ x. TheWord other k x r) c.1 w)
      none at (t ∷ ts) us vs e (inl c) (inl l) out r w = let same = ap length c.0 in omega (arith, l, same)
      none at (t ∷ ts) us vs e (inl c) (inr x) out r w = x.0 r (subst (λ y. TheWord other k y r) c.1 w)
      none at (t ∷ ts) us vs e (inr c) d out r w =
          let here = subst (λ y. TheWord other k y r) c.1 w in
          out ts (word_same k other text t (sym c.2) here.0, refl)
  stop_keeps (x ∷ xs) text other at ts us vs m p e c d =
      let inner = stop_ends xs text (skip_line_ends p.0) m p.2 in
      let at_gap = end_of_end at m (skip_line_ends p.0) inner e in
      let n = (fill.one x).opens.keeps text other at ts us vs p.0 p.1 (end_of_end at (skip_line_ends p.0) p.0 (loose_gap.ends p.0) at_gap) c (inr tt) in
      let q = stop_keeps xs text other at (skip_line_ends p.0) (skip_line_ends n.0) vs m p.2 e (gapped n.0 n.2 at_gap inner d) d in
      (q.0, (n.0, n.1, q.1), q.2)
    where
      gapped : (n : List Token) → IsCut text other at p.0 n vs → IsEndOf at (skip_line_ends p.0) → IsEndOf m (skip_line_ends p.0) → ((length at < length m) ⊎ stopped k other vs) → IsCut text other at (skip_line_ends p.0) (skip_line_ends n) vs
      gapped n c e inner (inl l) = let less = end_length m (skip_line_ends p.0) inner in loose_open.cut text other at p.0 n vs c (omega (arith, l, less))
      gapped n c e inner (inr t) = skip_still text other at p.0 n vs c e t.1

  pub stop_opening : IsOpening tight (stopped k) (λ text xs. Repeats (P text) xs (No (TheWord text k)))
  stop_opening = record { one = λ xs. record { ends = λ text ts m p. stop_ends xs text ts m p; keeps = λ text other at ts us vs m p e c d. stop_keeps xs text other at ts us vs m p e c d } }

  -- one of them breaks off
  pub stop_breaks : {text : List ℕ} {start ts : List Token} {xs : List A} {e : Stop} → HasRead P (λ text. No (TheWord text k)) text start xs ts → BreaksOff always P text ts e
      → BreaksOff (stopped k) (λ text xs. Repeats (P text) xs (No (TheWord text k))) text start e
  stop_breaks {text = text} {start = start} {ts = ts} {xs = xs} so_far bad = as_breaks (λ at b. go at b (whole_or at ts b.inside)) bad
    where
      go : (at : List Token) → Begins always P text ts at → ((at ≡ ts) ⊎ (length at < length ts)) → Begins (stopped k) (λ text xs. Repeats (P text) xs (No (TheWord text k))) text start at
      go at b (inl edge) = record {
        inside = end_of_end at ts start so_far.inside b.inside;
        samples = [];
        goes = λ other us vs rest c a t.
            let n = so_far.gone.on other at us vs b.inside c (inr (ap skip_line_ends a ∙ t.1 ∙ sym a)) in
            let same = cut_here text other at ts n.0 vs n.1 edge ∙ a in
            (xs ++ [], n.2 [] rest (same, λ r p. t.0 r (subst (λ x. TheWord other k x r) same p)));
      }
      go at b (inr less) = record {
        inside = end_of_end at ts start so_far.inside b.inside;
        samples = b.samples;
        goes = λ other us vs rest c a t.
            let n = so_far.gone.on other at us vs b.inside c (inl less) in
            let x = b.goes other n.0 vs rest n.1 a tt in
            (xs ++ x.0 ∷ [], n.2 (x.0 ∷ []) rest (rest, x.1, (t.1, λ r p. t.0 r (subst (λ y. TheWord other k y r) t.1 p))));
      }

-- the lines of a resource
pub lines_rest_sampled : IsSampled always (λ text (y : List ProgramLine × Place). SpellsPrograms text y.0 ⨾ PlacedWord text word.EndResource y.1) (word_sample word.EndResource ∷ [])
lines_rest_sampled = then_sampled tight (none_sampled program_line_filling word.Program) (placed_word_sampled word.EndResource) (passes_stopped word.Program word.EndResource [] (λ e. cc)) stays_tight

pub lines_pair_sampled : IsSampled always (λ text (x : List Task × (List ProgramLine × Place)). SpellsTasks text x.0 ⨾ SpellsPrograms text x.1.0 ⨾ PlacedWord text word.EndResource x.1.1) (word_sample word.EndResource ∷ [])
lines_pair_sampled = then_sampled tight (none_sampled task_filling word.Task) lines_rest_sampled (passes_stopped word.Task word.EndResource [] (λ e. cc)) stays_tight

pub lines_all_sampled : IsSampled always SpellsLines (word_sample word.EndResource ∷ [])
lines_all_sampled =
    map_sampled {P = λ text (x : List Task × (List ProgramLine × Place)). SpellsTasks text x.0 ⨾ SpellsPrograms text x.1.0 ⨾ PlacedWord text word.EndResource x.1.1} {Q = SpellsLines} (λ x. (x.0, x.1.0, x.1.1)) (λ x other us r w. w) lines_pair_sampled

pub resource_all_sampled : IsSampled always SpellsResourceOf (word_sample word.Resource ∷ name_sample ∷ word_sample word.On ∷ name_sample ∷ word_sample word.EndResource ∷ [])
resource_all_sampled = s_part (word_sampled word.Resource) (s_part some_name_sampled (s_part (word_sampled word.On) (s_part some_name_sampled lines_all_sampled refl) refl) refl) refl

lines_fill : (x : List Task × List ProgramLine × Place) → Fills tight always (λ text. SpellsLines text x)
lines_fill x =
    let last = fill_placed x.2 (word_fills word.EndResource) in
    let programs = (stop_opening program_line_filling word.Program).one x.1 in
    let tasks = (stop_opening task_filling word.Task).one x.0 in
    let two : Fills tight always (λ text. SpellsPrograms text x.1 ⨾ PlacedWord text word.EndResource x.2) = record {
      opens = follows tight_open programs last.takes last.opens;
      takes = record {
        less = λ text ts m p. let a = last.takes.less text p.0 m p.2 in let b = end_length p.0 ts (programs.ends text ts p.0 p.1) in omega (arith, a, b);
      };
    } in
    record {
      opens = follows tight_open tasks two.takes two.opens;
      takes = record {
        less = λ text ts m p. let a = two.takes.less text p.0 m p.2 in let b = end_length p.0 ts (tasks.ends text ts p.0 p.1) in omega (arith, a, b);
      };
    }

pub resource_filling : IsFilling tight always SpellsResourceOf
resource_filling = record { one = λ x. next loose_open (word_fills word.Resource) (next loose_open some_name_fills (next loose_open (word_fills word.On) (next loose_open some_name_fills (lines_fill x)))) }

pub tasks_later : {B : Type 0} {Q : List ℕ → B → Front} {zs : List Sample} {text : List ℕ} {ts m : List Token} {xs : List Task} {e : Stop} → Reads (SpellsTasks text) ts xs m → IsSampled always Q zs → Passes (stopped word.Task) zs always
    → BreaksOff always Q text m e → BreaksOff always (λ text (y : List Task × B). SpellsTasks text y.0 ⨾ Q text y.1) text ts e
tasks_later here q passes bad = as_breaks (λ at b. begins_later_open tight_cut (reach_tight tight_cut) (stop_opening task_filling word.Task) here.found q passes stays_tight b) bad

pub programs_later : {B : Type 0} {Q : List ℕ → B → Front} {zs : List Sample} {text : List ℕ} {ts m : List Token} {xs : List ProgramLine} {e : Stop} → Reads (SpellsPrograms text) ts xs m → IsSampled always Q zs → Passes (stopped word.Program) zs always
    → BreaksOff always Q text m e → BreaksOff always (λ text (y : List ProgramLine × B). SpellsPrograms text y.0 ⨾ Q text y.1) text ts e
programs_later here q passes bad = as_breaks (λ at b. begins_later_open tight_cut (reach_tight tight_cut) (stop_opening program_line_filling word.Program) here.found q passes stays_tight b) bad

-- the end of the configuration
pub close_sampled : IsSampled ended (λ text (u : Unit {0}). TheWord text word.EndConfiguration ⋯ TheEnd) (word_sample word.EndConfiguration ∷ [])
close_sampled = behind_sampled loose (word_sampled word.EndConfiguration) end_sampled passes_always stays_ended
  where
    end_sampled : IsSampled ended (λ text (u : Unit {0}). TheEnd) []
    end_sampled = record { stands = λ other vs rest a t. (tt, (a ∙ t, t)) }

pub text_end_breaks : {text : List ℕ} {ts m : List Token} {e : Stop} → Stands (TheWord text word.EndConfiguration) ts m → NamesFirst (skip_line_ends m) e → BreaksOff ended (λ text (u : Unit {0}). TheWord text word.EndConfiguration ⋯ TheEnd) text ts e
text_end_breaks here bad = as_breaks (λ at b. begins_behind loose_cut (reach_tight loose_cut) (word_fills word.EndConfiguration) here.found end_sampled passes_always stays_ended b) (at_first end_sampled bad)
  where
    end_sampled : IsSampled ended (λ text (u : Unit {0}). TheEnd) []
    end_sampled = record { stands = λ other vs rest a t. (tt, (a ∙ t, t)) }

pub ending_all_sampled : IsSampled ended SpellsEnding (word_sample word.Resource ∷ name_sample ∷ word_sample word.On ∷ name_sample ∷ word_sample word.EndResource ∷ word_sample word.EndConfiguration ∷ [])
ending_all_sampled =
    map_sampled {P = λ text (x : (List Task × List ProgramLine × Place) × Unit {0}). SpellsResourceOf text x.0 ⋯ TheWord text word.EndConfiguration ⋯ TheEnd} {Q = SpellsEnding} (λ x. x.0) (λ x other us r w. w) (s_loose resource_all_sampled close_sampled refl)

-- the globals
pub globals_opening : IsOpening loose (lacks word.VarGlobal) SpellsSomeGlobals
globals_opening = record { one = λ x. globals_open_at x.0 x.1 }

no_globals_sampled : IsSampled (lacks word.VarGlobal) SpellsSomeGlobals []
no_globals_sampled = record { stands = λ other vs rest a t. ((None, []), (refl, (a, λ r p. t r (subst (λ x. AfterLines (TheWord other word.VarGlobal) x r) a p)))) }

pub globals_ending_sampled : IsSampled ended (λ text (x : (Option Place × List Declaration) × (List Task × List ProgramLine × Place)). SpellsSomeGlobals text x.0 ⋯ SpellsEnding text x.1)
    (word_sample word.Resource ∷ name_sample ∷ word_sample word.On ∷ name_sample ∷ word_sample word.EndResource ∷ word_sample word.EndConfiguration ∷ [])
globals_ending_sampled = then_sampled loose no_globals_sampled ending_all_sampled (passes_word word.VarGlobal word.Resource _ (λ e. cc)) (stays_loose refl)

pub ending_later : {text : List ℕ} {ts m : List Token} {x : Option Place × List Declaration} {e : Stop} → Reads (SpellsSomeGlobals text) ts x m → BreaksOff ended SpellsEnding text (skip_line_ends m) e
    → BreaksOff ended (λ text (x : (Option Place × List Declaration) × (List Task × List ProgramLine × Place)). SpellsSomeGlobals text x.0 ⋯ SpellsEnding text x.1) text ts e
ending_later here bad = as_breaks (λ at b. begins_later_open loose_cut reach_loose globals_opening here.found ending_all_sampled (passes_word word.VarGlobal word.Resource _ (λ e. cc)) (stays_loose refl) b) bad

-- the sizes
abbrev pub three_all_samples : List Sample
three_all_samples = word_sample word.VarGlobal ∷ word_sample word.Constant ∷ size_samples cars_sample ++ (size_samples floors_sample ++ (size_samples slots_sample ++ word_sample word.EndVar ∷ []))

pub three_all_sampled : IsSampled always SpellsThree three_all_samples
three_all_sampled = s_part (word_sampled word.VarGlobal) (s_part (word_sampled word.Constant) (s_loose (a_size_sampled (codes "CARS") (inl refl)) floors_sampled refl) refl) refl

pub three_filling : IsFilling tight always SpellsThree
three_filling = record {
  one = λ x.
      next loose_open (word_fills word.VarGlobal) (next loose_open (word_fills word.Constant) (next loose_open (size_fills (codes "CARS") x.0)
      (next loose_open (size_fills (codes "FLOORS") x.1.0) (next loose_open (size_fills (codes "SLOTS") x.1.1) (word_fills word.EndVar)))));
}

pub sizes_rest_sampled : IsSampled ended (λ text (x : (Size × (Size × Size)) × ((Option Place × List Declaration) × (List Task × List ProgramLine × Place))). SpellsThree text x.0 ⨾ SpellsSomeGlobals text x.1.0 ⋯ SpellsEnding text x.1.1)
    (three_all_samples ++ (word_sample word.Resource ∷ name_sample ∷ word_sample word.On ∷ name_sample ∷ word_sample word.EndResource ∷ word_sample word.EndConfiguration ∷ []))
sizes_rest_sampled = s_tight three_all_sampled globals_ending_sampled

pub group_sampled : IsSampled ended SpellsGroup (name_sample ∷ three_all_samples ++ (word_sample word.Resource ∷ name_sample ∷ word_sample word.On ∷ name_sample ∷ word_sample word.EndResource ∷ word_sample word.EndConfiguration ∷ []))
group_sampled =
    map_sampled {P = λ text (x : (Size × (Size × Size)) × ((Option Place × List Declaration) × (List Task × List ProgramLine × Place))). SomeName text ⋯ SpellsThree text x.0 ⨾ SpellsSomeGlobals text x.1.0 ⋯ SpellsEnding text x.1.1} {Q = SpellsGroup}
    (λ x. (x.0, x.1.0, x.1.1)) (λ x other us r w. w) (s_part some_name_sampled sizes_rest_sampled refl)

-- units and the group
pub units_filling : IsFilling tight always SpellsAllUnits
units_filling = record { one = λ us. repeated {first = always} (λ u. fill_any (unit_fills u)) (word_fills word.Configuration) us }

pub small_unit_filling : IsFilling tight always (λ text. SpellsSmallUnit text)
small_unit_filling = record {
  one = λ u. record {
    opens = record {
      ends = λ text ts m p. (unit_fills u).opens.ends text ts m p.0;
      keeps = λ text other at ts us vs m p e c d. let k = (unit_fills u).opens.keeps text other at ts us vs m p.0 e c d in (k.0, (k.1, p.1), k.2);
    };
    takes = record { less = λ text ts m p. (unit_fills u).takes.less text ts m p.0 };
  };
}

pub unit_by_filling : (error : SyntaxError) → IsFilling tight always (SpellsUnitBy error)
unit_by_filling error = record {
  one = λ u. record {
    opens = record {
      ends = λ text ts m p. (unit_fills u).opens.ends text ts m p.0;
      keeps = λ text other at ts us vs m p e c d. let k = (unit_fills u).opens.keeps text other at ts us vs m p.0 e c d in (k.0, (k.1, p.1), k.2);
    };
    takes = record { less = λ text ts m p. (unit_fills u).takes.less text ts m p.0 };
  };
}

-- The tokens before the first of `at` are those of a text that spells a configuration.
pub text_goes_on : (K : List Token → Config → Type 0) (text : List ℕ) (ts at : List Token) → AreTokens text 0 ts → BeginsBy ended (λ vs. Within (K vs) SpellsAll) text ts at → IsBegun K text ts at
text_goes_on K text ts at tokens b =
    let k = goes_on_with text ts at b.samples tokens b.inside in
    let w = b.goes k.0 k.1 k.2 [] k.4 k.5 refl in
    (k.0, k.1, k.2, k.3, k.4, w.0, w.1.0, w.1.1)

-- Where a limit forbids the token of a fault, those with it are those of a text too.
pub text_goes_on_with : (error : SyntaxError) (text : List ℕ) (ts at : List Token) → AreTokens text 0 ts
    → Further (λ error t back. (length back < length ts) × Begins ended (Within (λ c. GoesBeyond error t c.units) SpellsAll) text ts back) error at → GoesOnWith error text ts at
text_goes_on_with Unexpected text ts at tokens b = tt
text_goes_on_with TooDeep text ts at tokens b = (b.0, b.1, b.2, text_goes_on (λ vs c. ⊤) text ts b.1 tokens b.3.1)
text_goes_on_with TooMany text ts at tokens b = (b.0, b.1, b.2, text_goes_on (λ vs c. GoesBeyond TooMany b.0 c.units) text ts b.1 tokens b.3.1)

-- what follows the name of a function, more line ends before it
pub lax_function_rest : IsLax SpellsFunctionRest
lax_function_rest = record { more = λ text x t ts rest line w. nested.more text (x.0, (tt, (x.1, (tt, x.2)))) t ts rest line w }
  where
    nested : IsLax (λ text (x : List Declaration × (Unit {0} × (List Declaration × (Unit {0} × Body)))). SpellsFull text word.VarInput x.0 ⨾ LacksList text word.VarOutput ⨾ SpellsVariables text x.1.1.0 ⨾ LacksList text word.VarExternal ⨾ SpellsBody text word.EndFunction x.1.1.1.1)
    nested = lax_chain (lax_full word.VarInput) (lax_chain (lax_no word.VarOutput) (lax_chain (lax_optional word.Var (λ text. SpellsDeclaration text)) (lax_chain (lax_no word.VarExternal) (lax_body word.EndFunction))))
