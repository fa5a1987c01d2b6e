-- Units whose bodies break off: what is within the limits before the fault, and what goes beyond one with its token.
use Rattle.std.specs.Prelude.{if◌then◌else◌}
use Rattle.std.proofs.Common.{◌≡◌, ◌<◌, ◌≤◌, ℕ, Bool, true, false, List, [], ◌∷◌, ◌++◌, length, refl, sym, ap, subst, inl, inr, arith}
use Rattle.il_syntax.specs.declared.token.Token.{Token}
use Rattle.il_syntax.specs.declared.keyword.Keyword.{Keyword}
use Rattle.il_syntax.specs.declared.keyword.Keyword.TheVariants as word
use Rattle.il_syntax.specs.declared.tree.Elementary.TheVariants as elementary
use Rattle.il_syntax.specs.declared.token.Sign.TheVariants.{Colon}
use Rattle.il_syntax.specs.declared.tree.Place.{Place}
use Rattle.il_syntax.specs.declared.tree.Named.{Named}
use Rattle.il_syntax.specs.declared.tree.Scalar.{Scalar}
use Rattle.il_syntax.specs.declared.tree.Declaration.{Declaration}
use Rattle.il_syntax.specs.declared.tree.Step.{Step}
use Rattle.il_syntax.specs.declared.tree.Body.{Body}
use Rattle.il_syntax.specs.Grammar.{Front, Gap, tight, loose, is_line_end, skip_line_ends, ◌⨾◌, ◌⋯◌, TheName, SpellsDeclaration, SpellsExternal, SpellsFilledList, SpellsBody}
use Rattle.il_syntax_laws.specs.Alike.{IsEndOf}
use Rattle.il_syntax_laws.specs.GoesOn.{Sample, Test, always, quiet, IsSampled, BeginsBy, Begins}
use Rattle.il_syntax_laws.proofs.Alike.{end_length, end_of_end, loose_gap, gap_length}
use Rattle.il_syntax_laws.proofs.Open.{Opens}
use Rattle.il_syntax_laws.proofs.Samples.{word_sample, sign_sample, name_sample, declaration_samples, body_samples, lacking_sampled, filled_list_sampled, optional_list_sampled, placed_word_sampled, the_name_sampled}
use Rattle.il_syntax_laws.proofs.GoesOn.{passes_always, passes_quiet, stays_loose, stays_tight, tight_cut, loose_cut, reach_tight, map_sampled, then_sampled, IsLax, lax_chain, begins_later_by, begins_later_lax_by, begins_inside, begins_as, begins_as_by}
use Rattle.load_lines.specs.Reads.{Reads, BreaksOff}
use Rattle.load_lines.specs.Settings.{PlacedWord}
use Rattle.load_lines.specs.declared.stop.Stop.{Stop}
use Rattle.load_lines.proofs.Breaks.{map_breaks, later_loose, s_loose, s_tight}
use Rattle.load_lines.proofs.Completions.{the_name_filling, placed_word_filling}
use Rattle.load_tree.specs.Refused.{HasSurplus}
use Rattle.load_tree.specs.Insides.{LacksList, SpellsVariables, SpellsSomeExternals}
use Rattle.load_tree.specs.Headings.{SpellsResultAt}
use Rattle.load_tree.specs.Lists.{SpellsFull}
use Rattle.load_tree.specs.GoesOn.{SpellsProgramRest, SpellsBlockRest, SpellsFunctionRest, Within, BreaksWith, KeepsSteps}
use Rattle.load_tree.proofs.Begun.{by_breaks, plainly, KeepsAnyhow, none_kept, body_kept, body_within}
use Rattle.load_tree.proofs.Rests.{first_asked, lax_function_rest, no_list_opening, filled_opening, variables_opening, externals_opening, full_opening, full_sampled, result_opening, result_sampled_at, lax_no, lax_filled, lax_optional, lax_body, passes_lacks, s_lacks}

-- line ends are no fewer where more comes before them
skip_end : (m ts : List Token) → IsEndOf m ts → length (skip_line_ends m) ≤ length (skip_line_ends ts)
skip_end m [] e = let same = ap (λ x. length (skip_line_ends x)) e in omega (arith, same)
skip_end m (t ∷ ts) (inl e) = let same = ap (λ x. length (skip_line_ends x)) e in omega (arith, same)
skip_end m (t ∷ ts) (inr e) = go (is_line_end t.kind) refl (skip_end m ts e)
  where
    go : (b : Bool) → is_line_end t.kind ≡ b → length (skip_line_ends m) ≤ length (skip_line_ends ts) → length (skip_line_ends m) ≤ length (if b then skip_line_ends ts else t ∷ ts)
    go true same more = more
    go false same more = let a = gap_length loose_gap m in let b = end_length m ts e in omega (arith, a, b)

-- a part that looks after line ends is there, and something is read of what follows directly
inside_part : {B : Type 0} {F : List ℕ → Front} {Q : List ℕ → B → Front} {first second : Test} {text : List ℕ} {ts m at : List Token} → Opens loose first F → F text ts m
    → (length at < length (skip_line_ends m)) × Begins second Q text m at → (length at < length (skip_line_ends ts)) × Begins second (λ text (y : B). F text ⨾ Q text y) text ts at
inside_part {text = text} {ts = ts} {m = m} {at = at} one here k =
    let l = k.0 in
    let more = skip_end m ts (one.ends text ts m here) in (
      omega (arith, l, more),
      record {
        inside = end_of_end at m ts (one.ends text ts m here) k.1.inside;
        samples = k.1.samples;
        goes = λ other us vs rest c a t.
            let p = one.keeps text other at ts us vs m here k.1.inside c (inl k.0) in
            let y = k.1.goes other p.0 vs rest p.2 a t in
            (y.0, (p.0, p.1, y.1));
      },
    )

-- a body that keeps something
pub lax_within : (K : List Step → Type 0) (last : Keyword) → IsLax (Within (λ (b : Body). K b.steps) (λ text. SpellsBody text last))
lax_within K last = record { more = λ text b t ts rest line w. ((lax_body last).more text b t ts rest line w.0, w.1) }

-- a body without instructions, whatever follows
body_at : (vs : List Token) (last : Keyword) → IsSampled always (Within (λ (b : Body). KeepsSteps vs b.steps) (λ text. SpellsBody text last)) (body_samples last)
body_at vs last = body_kept (KeepsSteps vs) (none_kept vs) last

-- what keeps something with all tokens keeps it with these
each : {A : Type 0} {P : List ℕ → A → Front} {K : List Token → A → Type 0} {test : Test} {zs : List Sample} → IsSampled test (Within (λ x. (vs : List Token) → K vs x) P) zs → (vs : List Token) → IsSampled test (Within (K vs) P) zs
each {P = P} {K = K} q vs = map_sampled {P = Within (λ x. (vs : List Token) → K vs x) P} {Q = Within (K vs) P} (λ x. x) (λ x other us r w. (w.0, w.1 vs)) q

-- PROGRAMS

pub program_parts : (K : List Step → Type 0) (x : List Declaration × List Declaration × Body) (other : List ℕ) (us r : List Token)
    → (LacksList other word.VarInput ⨾ LacksList other word.VarOutput ⨾ SpellsVariables other x.0 ⨾ SpellsSomeExternals other x.1 ⨾ Within (λ (b : Body). K b.steps) (λ text. SpellsBody text word.EndProgram) other x.2) us r
    → Within (λ (x : List Declaration × List Declaration × Body). K x.2.steps) SpellsProgramRest other x us r
program_parts K x other us r w = ((w.0, w.1, (w.2.0, w.2.1, (w.2.2.0, w.2.2.1, (w.2.2.2.0, w.2.2.2.1, w.2.2.2.2.0)))), w.2.2.2.2.1)

pub block_parts : (K : List Step → Type 0) (x : List Declaration × List Declaration × List Declaration × Body) (other : List ℕ) (us r : List Token)
    → (SpellsFilledList other word.VarInput x.0 ⨾ SpellsFilledList other word.VarOutput x.1 ⨾ SpellsVariables other x.2 ⨾ LacksList other word.VarExternal ⨾ Within (λ (b : Body). K b.steps) (λ text. SpellsBody text word.EndFunctionBlock) other x.3) us r
    → Within (λ (x : List Declaration × List Declaration × List Declaration × Body). K x.3.steps) SpellsBlockRest other x us r
block_parts K x other us r w = ((w.0, w.1, (w.2.0, w.2.1, (w.2.2.0, w.2.2.1, (w.2.2.2.0, w.2.2.2.1, w.2.2.2.2.0)))), w.2.2.2.2.1)

pub function_parts : (K : List Step → Type 0) (x : List Declaration × List Declaration × Body) (other : List ℕ) (us r : List Token)
    → (SpellsFull other word.VarInput x.0 ⨾ LacksList other word.VarOutput ⨾ SpellsVariables other x.1 ⨾ LacksList other word.VarExternal ⨾ Within (λ (b : Body). K b.steps) (λ text. SpellsBody text word.EndFunction) other x.2) us r
    → Within (λ (x : List Declaration × List Declaration × Body). K x.2.steps) SpellsFunctionRest other x us r
function_parts K x other us r w = ((w.0, w.1, (w.2.0, w.2.1, (w.2.2.0, w.2.2.1, (w.2.2.2.0, w.2.2.2.1, w.2.2.2.2.0)))), w.2.2.2.2.1)

module _ {text : List ℕ} {ts m n o p : List Token} {e : Stop} where
  -- a body of a program breaks off
  pub program_on : {vs es : List Declaration} → Reads (λ (u : Unit {0}). LacksList text word.VarInput) ts tt m → Reads (λ (u : Unit {0}). LacksList text word.VarOutput) m tt n → Reads (SpellsVariables text) n vs o → Reads (SpellsSomeExternals text) o es p
      → BreaksWith loose (λ b. b) (λ text. SpellsBody text word.EndProgram) text p e → BreaksWith loose (λ x. x.2) SpellsProgramRest text ts e
  program_on {vs = vs} {es = es} inputs outputs variables externals bad = by_breaks before (λ error t back end less b. with (λ steps. HasSurplus error t steps) back less b) bad
    where
      before : (at : List Token) → BeginsBy always (λ ws. Within (λ (b : Body). KeepsSteps ws b.steps) (λ text. SpellsBody text word.EndProgram)) text p at
          → BeginsBy always (λ ws. Within (λ (x : List Declaration × List Declaration × Body). KeepsSteps ws x.2.steps) SpellsProgramRest) text ts at
      before at b =
          begins_as_by {Q = λ ws. Within (λ (x : List Declaration × List Declaration × Body). KeepsSteps ws x.2.steps) SpellsProgramRest} (λ x. (x.1.1.0, x.1.1.1.0, x.1.1.1.1)) (λ x ws other us r w. program_parts (KeepsSteps ws) (x.1.1.0, x.1.1.1.0, x.1.1.1.1) other us r w)
          (begins_later_lax_by (no_list_opening word.VarInput) inputs.found
          (λ ws. s_lacks word.VarOutput word.EndProgram (λ e. cc) (lacking_sampled word.VarOutput) (s_lacks word.Var word.EndProgram (λ e. cc) (optional_list_sampled word.Var (λ text. SpellsDeclaration text)) (s_lacks word.VarExternal word.EndProgram (λ e. cc) (optional_list_sampled word.VarExternal (λ text. SpellsExternal text)) (body_at ws word.EndProgram))))
          (λ ws. lax_chain (lax_no word.VarOutput) (lax_chain (lax_optional word.Var (λ text. SpellsDeclaration text)) (lax_chain (lax_optional word.VarExternal (λ text. SpellsExternal text)) (lax_within (KeepsSteps ws) word.EndProgram)))) (passes_lacks word.VarInput word.EndProgram (λ e. cc))
          (begins_later_lax_by (no_list_opening word.VarOutput) outputs.found
          (λ ws. s_lacks word.Var word.EndProgram (λ e. cc) (optional_list_sampled word.Var (λ text. SpellsDeclaration text)) (s_lacks word.VarExternal word.EndProgram (λ e. cc) (optional_list_sampled word.VarExternal (λ text. SpellsExternal text)) (body_at ws word.EndProgram)))
          (λ ws. lax_chain (lax_optional word.Var (λ text. SpellsDeclaration text)) (lax_chain (lax_optional word.VarExternal (λ text. SpellsExternal text)) (lax_within (KeepsSteps ws) word.EndProgram))) (passes_lacks word.VarOutput word.EndProgram (λ e. cc))
          (begins_later_lax_by variables_opening variables.found (λ ws. s_lacks word.VarExternal word.EndProgram (λ e. cc) (optional_list_sampled word.VarExternal (λ text. SpellsExternal text)) (body_at ws word.EndProgram))
          (λ ws. lax_chain (lax_optional word.VarExternal (λ text. SpellsExternal text)) (lax_within (KeepsSteps ws) word.EndProgram)) (passes_lacks word.Var word.EndProgram (λ e. cc))
          (begins_later_lax_by externals_opening externals.found (λ ws. body_at ws word.EndProgram) (λ ws. lax_within (KeepsSteps ws) word.EndProgram) (passes_lacks word.VarExternal word.EndProgram (λ e. cc)) b))))

      with : (K : List Step → Type 0) (at : List Token) → length at < length (skip_line_ends p) → Begins always (Within (λ (b : Body). K b.steps) (λ text. SpellsBody text word.EndProgram)) text p at
          → (length at < length (skip_line_ends ts)) × Begins always (Within (λ (x : List Declaration × List Declaration × Body). K x.2.steps) SpellsProgramRest) text ts at
      with K at less b =
          let k = inside_part {F = λ text. LacksList text word.VarInput} ((no_list_opening word.VarInput).one tt) inputs.found
          (inside_part {F = λ text. LacksList text word.VarOutput} ((no_list_opening word.VarOutput).one tt) outputs.found (inside_part {F = λ text. SpellsVariables text vs} (variables_opening.one vs) variables.found
          (inside_part {F = λ text. SpellsSomeExternals text es} (externals_opening.one es) externals.found (less, b)))) in
          (k.0, begins_as {Q = Within (λ (x : List Declaration × List Declaration × Body). K x.2.steps) SpellsProgramRest} (λ x. (vs, es, x)) (λ x other us r w. program_parts K (vs, es, x) other us r w) k.1)

  -- a body of a function block
  pub block_on : {is os vs : List Declaration} → Reads (SpellsFilledList text word.VarInput) ts is m → Reads (SpellsFilledList text word.VarOutput) m os n → Reads (SpellsVariables text) n vs o → Reads (λ (u : Unit {0}). LacksList text word.VarExternal) o tt p
      → BreaksWith loose (λ b. b) (λ text. SpellsBody text word.EndFunctionBlock) text p e → BreaksWith loose (λ x. x.3) SpellsBlockRest text ts e
  block_on {is = is} {os = os} {vs = vs} inputs outputs variables externals bad = by_breaks before (λ error t back end less b. with (λ steps. HasSurplus error t steps) back less b) bad
    where
      before : (at : List Token) → BeginsBy always (λ ws. Within (λ (b : Body). KeepsSteps ws b.steps) (λ text. SpellsBody text word.EndFunctionBlock)) text p at
          → BeginsBy always (λ ws. Within (λ (x : List Declaration × List Declaration × List Declaration × Body). KeepsSteps ws x.3.steps) SpellsBlockRest) text ts at
      before at b =
          begins_as_by {Q = λ ws. Within (λ (x : List Declaration × List Declaration × List Declaration × Body). KeepsSteps ws x.3.steps) SpellsBlockRest} (λ x. (x.0, x.1.0, x.1.1.0, x.1.1.1.1)) (λ x ws other us r w. block_parts (KeepsSteps ws) (x.0, x.1.0, x.1.1.0, x.1.1.1.1) other us r w)
          (begins_later_lax_by (filled_opening word.VarInput) inputs.found
          (λ ws. s_lacks word.VarOutput word.EndFunctionBlock (λ e. cc) (filled_list_sampled word.VarOutput) (s_lacks word.Var word.EndFunctionBlock (λ e. cc) (optional_list_sampled word.Var (λ text. SpellsDeclaration text)) (s_lacks word.VarExternal word.EndFunctionBlock (λ e. cc) (lacking_sampled word.VarExternal) (body_at ws word.EndFunctionBlock))))
          (λ ws. lax_chain (lax_filled word.VarOutput) (lax_chain (lax_optional word.Var (λ text. SpellsDeclaration text)) (lax_chain (lax_no word.VarExternal) (lax_within (KeepsSteps ws) word.EndFunctionBlock)))) (passes_lacks word.VarInput word.EndFunctionBlock (λ e. cc))
          (begins_later_lax_by (filled_opening word.VarOutput) outputs.found
          (λ ws. s_lacks word.Var word.EndFunctionBlock (λ e. cc) (optional_list_sampled word.Var (λ text. SpellsDeclaration text)) (s_lacks word.VarExternal word.EndFunctionBlock (λ e. cc) (lacking_sampled word.VarExternal) (body_at ws word.EndFunctionBlock)))
          (λ ws. lax_chain (lax_optional word.Var (λ text. SpellsDeclaration text)) (lax_chain (lax_no word.VarExternal) (lax_within (KeepsSteps ws) word.EndFunctionBlock))) (passes_lacks word.VarOutput word.EndFunctionBlock (λ e. cc))
          (begins_later_lax_by variables_opening variables.found (λ ws. s_lacks word.VarExternal word.EndFunctionBlock (λ e. cc) (lacking_sampled word.VarExternal) (body_at ws word.EndFunctionBlock))
          (λ ws. lax_chain (lax_no word.VarExternal) (lax_within (KeepsSteps ws) word.EndFunctionBlock)) (passes_lacks word.Var word.EndFunctionBlock (λ e. cc))
          (begins_later_lax_by (no_list_opening word.VarExternal) externals.found (λ ws. body_at ws word.EndFunctionBlock) (λ ws. lax_within (KeepsSteps ws) word.EndFunctionBlock) (passes_lacks word.VarExternal word.EndFunctionBlock (λ e. cc)) b))))

      with : (K : List Step → Type 0) (at : List Token) → length at < length (skip_line_ends p) → Begins always (Within (λ (b : Body). K b.steps) (λ text. SpellsBody text word.EndFunctionBlock)) text p at
          → (length at < length (skip_line_ends ts)) × Begins always (Within (λ (x : List Declaration × List Declaration × List Declaration × Body). K x.3.steps) SpellsBlockRest) text ts at
      with K at less b =
          let k = inside_part {F = λ text. SpellsFilledList text word.VarInput is} ((filled_opening word.VarInput).one is) inputs.found
          (inside_part {F = λ text. SpellsFilledList text word.VarOutput os} ((filled_opening word.VarOutput).one os) outputs.found (inside_part {F = λ text. SpellsVariables text vs} (variables_opening.one vs) variables.found
          (inside_part {F = λ text. LacksList text word.VarExternal} ((no_list_opening word.VarExternal).one tt) externals.found (less, b)))) in
          (k.0, begins_as {Q = Within (λ (x : List Declaration × List Declaration × List Declaration × Body). K x.3.steps) SpellsBlockRest} (λ x. (is, os, vs, x)) (λ x other us r w. block_parts K (is, os, vs, x) other us r w) k.1)

  -- a body of a function
  pub function_on : {is vs : List Declaration} → Reads (SpellsFull text word.VarInput) ts is m → Reads (λ (u : Unit {0}). LacksList text word.VarOutput) m tt n → Reads (SpellsVariables text) n vs o → Reads (λ (u : Unit {0}). LacksList text word.VarExternal) o tt p
      → BreaksWith loose (λ b. b) (λ text. SpellsBody text word.EndFunction) text p e → BreaksWith loose (λ x. x.2) SpellsFunctionRest text ts e
  function_on {is = is} {vs = vs} inputs outputs variables externals bad = by_breaks before (λ error t back end less b. with (λ steps. HasSurplus error t steps) back less b) bad
    where
      before : (at : List Token) → BeginsBy always (λ ws. Within (λ (b : Body). KeepsSteps ws b.steps) (λ text. SpellsBody text word.EndFunction)) text p at
          → BeginsBy always (λ ws. Within (λ (x : List Declaration × List Declaration × Body). KeepsSteps ws x.2.steps) SpellsFunctionRest) text ts at
      before at b =
          begins_as_by {Q = λ ws. Within (λ (x : List Declaration × List Declaration × Body). KeepsSteps ws x.2.steps) SpellsFunctionRest} (λ x. (x.0, x.1.1.0, x.1.1.1.1)) (λ x ws other us r w. function_parts (KeepsSteps ws) (x.0, x.1.1.0, x.1.1.1.1) other us r w)
          (begins_later_lax_by (full_opening word.VarInput) inputs.found
          (λ ws. s_lacks word.VarOutput word.EndFunction (λ e. cc) (lacking_sampled word.VarOutput) (s_lacks word.Var word.EndFunction (λ e. cc) (optional_list_sampled word.Var (λ text. SpellsDeclaration text)) (s_lacks word.VarExternal word.EndFunction (λ e. cc) (lacking_sampled word.VarExternal) (body_at ws word.EndFunction))))
          (λ ws. lax_chain (lax_no word.VarOutput) (lax_chain (lax_optional word.Var (λ text. SpellsDeclaration text)) (lax_chain (lax_no word.VarExternal) (lax_within (KeepsSteps ws) word.EndFunction)))) passes_always
          (begins_later_lax_by (no_list_opening word.VarOutput) outputs.found
          (λ ws. s_lacks word.Var word.EndFunction (λ e. cc) (optional_list_sampled word.Var (λ text. SpellsDeclaration text)) (s_lacks word.VarExternal word.EndFunction (λ e. cc) (lacking_sampled word.VarExternal) (body_at ws word.EndFunction)))
          (λ ws. lax_chain (lax_optional word.Var (λ text. SpellsDeclaration text)) (lax_chain (lax_no word.VarExternal) (lax_within (KeepsSteps ws) word.EndFunction))) (passes_lacks word.VarOutput word.EndFunction (λ e. cc))
          (begins_later_lax_by variables_opening variables.found (λ ws. s_lacks word.VarExternal word.EndFunction (λ e. cc) (lacking_sampled word.VarExternal) (body_at ws word.EndFunction))
          (λ ws. lax_chain (lax_no word.VarExternal) (lax_within (KeepsSteps ws) word.EndFunction)) (passes_lacks word.Var word.EndFunction (λ e. cc))
          (begins_later_lax_by (no_list_opening word.VarExternal) externals.found (λ ws. body_at ws word.EndFunction) (λ ws. lax_within (KeepsSteps ws) word.EndFunction) (passes_lacks word.VarExternal word.EndFunction (λ e. cc)) b))))

      with : (K : List Step → Type 0) (at : List Token) → length at < length (skip_line_ends p) → Begins always (Within (λ (b : Body). K b.steps) (λ text. SpellsBody text word.EndFunction)) text p at
          → (length at < length (skip_line_ends ts)) × Begins always (Within (λ (x : List Declaration × List Declaration × Body). K x.2.steps) SpellsFunctionRest) text ts at
      with K at less b =
          let k = inside_part {F = λ text. SpellsFull text word.VarInput is} ((full_opening word.VarInput).one is) inputs.found
          (inside_part {F = λ text. LacksList text word.VarOutput} ((no_list_opening word.VarOutput).one tt) outputs.found (inside_part {F = λ text. SpellsVariables text vs} (variables_opening.one vs) variables.found
          (inside_part {F = λ text. LacksList text word.VarExternal} ((no_list_opening word.VarExternal).one tt) externals.found (less, b)))) in
          (k.0, begins_as {Q = Within (λ (x : List Declaration × List Declaration × Body). K x.2.steps) SpellsFunctionRest} (λ x. (is, vs, x)) (λ x other us r w. function_parts K (is, vs, x) other us r w) k.1)

-- HEADINGS

-- where one rule breaks off, another does
pub mapped : {A B : Type 0} (P : List ℕ → A → Front) (Q : List ℕ → B → Front) (body : A → Body) (other_body : B → Body) {look : Gap} {text : List ℕ} {ts : List Token} {e : Stop} (h : A → B)
    → ((x : A) → other_body (h x) ≡ body x) → ((x : A) (other : List ℕ) (us r : List Token) → P other x us r → Q other (h x) us r) → BreaksWith look body P text ts e → BreaksWith look other_body Q text ts e
mapped {A = A} {B = B} P Q body other_body {text = text} {ts = ts} h same f bad = by_breaks (λ at b. go KeepsSteps at b) (λ error t back end less b. (less, go (λ vs steps. HasSurplus error t steps) back b)) bad
  where
    go : (K : List Token → List Step → Type 0) (at : List Token) → BeginsBy always (λ vs. Within (λ x. K vs (body x).steps) P) text ts at → BeginsBy always (λ vs. Within (λ x. K vs (other_body x).steps) Q) text ts at
    go K at b = begins_as_by {P = λ vs. Within (λ x. K vs (body x).steps) P} {Q = λ vs. Within (λ x. K vs (other_body x).steps) Q} h (λ x vs other us r w. (f x other us r w.0, subst (λ (y : Body). K vs y.steps) (sym (same x)) w.1)) b

-- what follows a heading, of its own samples
pub program_within : IsSampled always (Within (λ (x : List Declaration × List Declaration × Body). KeepsAnyhow x.2.steps) SpellsProgramRest) (body_samples word.EndProgram)
program_within =
    map_sampled {P = λ text (x : Unit {0} × (Unit {0} × (List Declaration × (List Declaration × Body)))). LacksList text word.VarInput ⨾ LacksList text word.VarOutput ⨾ SpellsVariables text x.1.1.0 ⨾ SpellsSomeExternals text x.1.1.1.0
    ⨾ Within (λ (b : Body). KeepsAnyhow b.steps) (λ text. SpellsBody text word.EndProgram) text x.1.1.1.1}
    {Q = Within (λ (x : List Declaration × List Declaration × Body). KeepsAnyhow x.2.steps) SpellsProgramRest} (λ x. (x.1.1.0, x.1.1.1.0, x.1.1.1.1)) (λ x other us r w. program_parts KeepsAnyhow (x.1.1.0, x.1.1.1.0, x.1.1.1.1) other us r w)
    (s_lacks word.VarInput word.EndProgram (λ e. cc) (lacking_sampled word.VarInput) (s_lacks word.VarOutput word.EndProgram (λ e. cc) (lacking_sampled word.VarOutput)
    (s_lacks word.Var word.EndProgram (λ e. cc) (optional_list_sampled word.Var (λ text. SpellsDeclaration text))
    (s_lacks word.VarExternal word.EndProgram (λ e. cc) (optional_list_sampled word.VarExternal (λ text. SpellsExternal text)) (body_within word.EndProgram)))))

pub block_within : IsSampled always (Within (λ (x : List Declaration × List Declaration × List Declaration × Body). KeepsAnyhow x.3.steps) SpellsBlockRest) (body_samples word.EndFunctionBlock)
block_within =
    map_sampled {P = λ text (x : List Declaration × (List Declaration × (List Declaration × (Unit {0} × Body)))). SpellsFilledList text word.VarInput x.0 ⨾ SpellsFilledList text word.VarOutput x.1.0 ⨾ SpellsVariables text x.1.1.0 ⨾ LacksList text word.VarExternal
    ⨾ Within (λ (b : Body). KeepsAnyhow b.steps) (λ text. SpellsBody text word.EndFunctionBlock) text x.1.1.1.1}
    {Q = Within (λ (x : List Declaration × List Declaration × List Declaration × Body). KeepsAnyhow x.3.steps) SpellsBlockRest} (λ x. (x.0, x.1.0, x.1.1.0, x.1.1.1.1)) (λ x other us r w. block_parts KeepsAnyhow (x.0, x.1.0, x.1.1.0, x.1.1.1.1) other us r w)
    (s_lacks word.VarInput word.EndFunctionBlock (λ e. cc) (filled_list_sampled word.VarInput) (s_lacks word.VarOutput word.EndFunctionBlock (λ e. cc) (filled_list_sampled word.VarOutput)
    (s_lacks word.Var word.EndFunctionBlock (λ e. cc) (optional_list_sampled word.Var (λ text. SpellsDeclaration text))
    (s_lacks word.VarExternal word.EndFunctionBlock (λ e. cc) (lacking_sampled word.VarExternal) (body_within word.EndFunctionBlock)))))

pub function_within : IsSampled always (Within (λ (x : List Declaration × List Declaration × Body). KeepsAnyhow x.2.steps) SpellsFunctionRest) ((word_sample word.VarInput ∷ declaration_samples ++ word_sample word.EndVar ∷ []) ++ body_samples word.EndFunction)
function_within =
    map_sampled {P = λ text (x : List Declaration × (Unit {0} × (List Declaration × (Unit {0} × Body)))). SpellsFull text word.VarInput x.0 ⨾ LacksList text word.VarOutput ⨾ SpellsVariables text x.1.1.0 ⨾ LacksList text word.VarExternal
    ⨾ Within (λ (b : Body). KeepsAnyhow b.steps) (λ text. SpellsBody text word.EndFunction) text x.1.1.1.1}
    {Q = Within (λ (x : List Declaration × List Declaration × Body). KeepsAnyhow x.2.steps) SpellsFunctionRest} (λ x. (x.0, x.1.1.0, x.1.1.1.1)) (λ x other us r w. function_parts KeepsAnyhow (x.0, x.1.1.0, x.1.1.1.1) other us r w)
    (s_tight (full_sampled word.VarInput) (s_lacks word.VarOutput word.EndFunction (λ e. cc) (lacking_sampled word.VarOutput)
    (s_lacks word.Var word.EndFunction (λ e. cc) (optional_list_sampled word.Var (λ text. SpellsDeclaration text))
    (s_lacks word.VarExternal word.EndFunction (λ e. cc) (lacking_sampled word.VarExternal) (body_within word.EndFunction)))))

-- a result, and what follows it
abbrev pub ResultRest : List ℕ → (Place × Scalar) × (List Declaration × List Declaration × Body) → Front
ResultRest text y = SpellsResultAt text y.0 ⨾ SpellsFunctionRest text y.1

pub result_within : IsSampled always (Within (λ (y : (Place × Scalar) × (List Declaration × List Declaration × Body)). KeepsAnyhow y.1.2.steps) ResultRest)
    ((sign_sample Colon ∷ word_sample (word.Elementary elementary.Bool) ∷ []) ++ ((word_sample word.VarInput ∷ declaration_samples ++ word_sample word.EndVar ∷ []) ++ body_samples word.EndFunction))
result_within =
    map_sampled {P = λ text (y : (Place × Scalar) × (List Declaration × List Declaration × Body)). SpellsResultAt text y.0 ⨾ Within (λ (x : List Declaration × List Declaration × Body). KeepsAnyhow x.2.steps) SpellsFunctionRest text y.1}
    {Q = Within (λ (y : (Place × Scalar) × (List Declaration × List Declaration × Body)). KeepsAnyhow y.1.2.steps) ResultRest} (λ y. y) (λ y other us r w. ((w.0, w.1, w.2.0), w.2.1))
    (then_sampled tight result_sampled_at function_within (passes_quiet refl) stays_tight)

-- a result is there, and the rest breaks off
pub result_on : {text : List ℕ} {ts m : List Token} {e : Stop} {y : Place × Scalar} → Reads (SpellsResultAt text) ts y m → BreaksWith loose (λ x. x.2) SpellsFunctionRest text m e → BreaksWith loose (λ y. y.1.2) ResultRest text ts e
result_on {text = text} {ts = ts} {m = m} {y = y} here bad = by_breaks before (λ error t back end less b. with (λ steps. HasSurplus error t steps) back less b) bad
  where
    before : (at : List Token) → BeginsBy always (λ vs. Within (λ (x : List Declaration × List Declaration × Body). KeepsSteps vs x.2.steps) SpellsFunctionRest) text m at
        → BeginsBy always (λ vs. Within (λ (y : (Place × Scalar) × (List Declaration × List Declaration × Body)). KeepsSteps vs y.1.2.steps) ResultRest) text ts at
    before at b =
        begins_as_by {P = λ vs text (y : (Place × Scalar) × (List Declaration × List Declaration × Body)). SpellsResultAt text y.0 ⨾ Within (λ (x : List Declaration × List Declaration × Body). KeepsSteps vs x.2.steps) SpellsFunctionRest text y.1}
        {Q = λ vs. Within (λ (y : (Place × Scalar) × (List Declaration × List Declaration × Body)). KeepsSteps vs y.1.2.steps) ResultRest} (λ y. y) (λ y vs other us r w. ((w.0, w.1, w.2.0), w.2.1))
        (begins_later_lax_by result_opening here.found (λ vs. each {P = SpellsFunctionRest} {K = λ vs x. KeepsSteps vs x.2.steps} function_within vs) (λ vs. record { more = λ text x t ts rest line w. (lax_function_rest.more text x t ts rest line w.0, w.1) }) (passes_quiet refl) b)

    with : (K : List Step → Type 0) (at : List Token) → length at < length (skip_line_ends m) → Begins always (Within (λ (x : List Declaration × List Declaration × Body). K x.2.steps) SpellsFunctionRest) text m at
        → (length at < length (skip_line_ends ts)) × Begins always (Within (λ (y : (Place × Scalar) × (List Declaration × List Declaration × Body)). K y.1.2.steps) ResultRest) text ts at
    with K at less b =
        let k = inside_part {F = λ text. SpellsResultAt text y} (result_opening.one y) here.found (less, b) in
        (k.0, begins_as {Q = Within (λ (y : (Place × Scalar) × (List Declaration × List Declaration × Body)). K y.1.2.steps) ResultRest} (λ x. (y, x)) (λ x other us r w. ((w.0, w.1, w.2.0), w.2.1)) k.1)

-- or the result does
pub result_first : {text : List ℕ} {ts : List Token} {e : Stop} → BreaksOff quiet SpellsResultAt text ts e → BreaksWith loose (λ y. y.1.2) ResultRest text ts e
result_first bad = plainly
    (map_breaks {P = λ text (y : (Place × Scalar) × (List Declaration × List Declaration × Body)). SpellsResultAt text y.0 ⨾ Within (λ (x : List Declaration × List Declaration × Body). KeepsAnyhow x.2.steps) SpellsFunctionRest text y.1}
    {Q = Within (λ (y : (Place × Scalar) × (List Declaration × List Declaration × Body)). KeepsAnyhow y.1.2.steps) ResultRest} (λ y. y) (λ y other us r w. ((w.0, w.1, w.2.0), w.2.1))
    (first_asked function_within (passes_quiet refl) bad))

-- a heading, and what follows its name
abbrev pub Headed : {A : Type 0} → Keyword → (List ℕ → A → Front) → List ℕ → Place × (Named × A) → Front
Headed k Q text x = PlacedWord text k x.0 ⋯ TheName text x.1.0 ⨾ Q text x.1.1

module _ {A : Type 0} (k : Keyword) (Q : List ℕ → A → Front) (body : A → Body) where
  headed_parts : (K : List Step → Type 0) (x : Place × (Named × A)) (other : List ℕ) (us r : List Token) → Headed k (Within (λ x. K (body x).steps) Q) other x us r → Within (λ x. K (body x.1.1).steps) (Headed k Q) other x us r
  headed_parts K x other us r w = ((w.0, w.1, (w.2.0, w.2.1, w.2.2.0)), w.2.2.1)

  pub headed_sampled : {zs : List Sample} → IsSampled always (Within (λ x. KeepsAnyhow (body x).steps) Q) zs → IsSampled always (Within (λ (x : Place × (Named × A)). KeepsAnyhow (body x.1.1).steps) (Headed k Q)) (word_sample k ∷ name_sample ∷ zs)
  headed_sampled q =
      map_sampled {P = Headed k (Within (λ x. KeepsAnyhow (body x).steps) Q)} {Q = Within (λ (x : Place × (Named × A)). KeepsAnyhow (body x.1.1).steps) (Headed k Q)} (λ x. x) (λ x other us r w. headed_parts KeepsAnyhow x other us r w)
      (s_loose (placed_word_sampled k) (s_tight the_name_sampled q) refl)

  module _ {zs : List Sample} {text : List ℕ} {ts m : List Token} {e : Stop} {p : Place} where
    -- its name breaks off
    pub headed_name : IsSampled always (Within (λ x. KeepsAnyhow (body x).steps) Q) zs → Reads (PlacedWord text k) ts p m → BreaksOff always (λ text (y : Named × A). TheName text y.0 ⨾ Within (λ x. KeepsAnyhow (body x).steps) Q text y.1) text (skip_line_ends m) e
        → BreaksWith tight (λ (x : Place × (Named × A)). body x.1.1) (Headed k Q) text ts e
    headed_name q here bad = plainly
        (map_breaks {P = Headed k (Within (λ x. KeepsAnyhow (body x).steps) Q)} {Q = Within (λ (x : Place × (Named × A)). KeepsAnyhow (body x.1.1).steps) (Headed k Q)} (λ x. x) (λ x other us r w. headed_parts KeepsAnyhow x other us r w)
        (later_loose (placed_word_filling k) here (s_tight the_name_sampled q) refl bad))

    -- what follows it does
    pub headed_on : {n : List Token} {name : Named} → IsSampled always (Within (λ x. KeepsAnyhow (body x).steps) Q) zs → Reads (PlacedWord text k) ts p m → Reads (TheName text) (skip_line_ends m) name n → BreaksWith loose body Q text n e
        → BreaksWith tight (λ (x : Place × (Named × A)). body x.1.1) (Headed k Q) text ts e
    headed_on {n = n} {name = name} q here named bad = by_breaks before (λ error t back end less b. with (λ steps. HasSurplus error t steps) back less b) bad
      where
        kept : (vs : List Token) → IsSampled always (Within (λ x. KeepsSteps vs (body x).steps) Q) zs
        kept vs = each {P = Q} {K = λ vs x. KeepsSteps vs (body x).steps} q vs

        before : (at : List Token) → BeginsBy always (λ vs. Within (λ x. KeepsSteps vs (body x).steps) Q) text n at → BeginsBy always (λ vs. Within (λ (x : Place × (Named × A)). KeepsSteps vs (body x.1.1).steps) (Headed k Q)) text ts at
        before at b =
            begins_as_by {P = λ vs. Headed k (Within (λ x. KeepsSteps vs (body x).steps) Q)} {Q = λ vs. Within (λ (x : Place × (Named × A)). KeepsSteps vs (body x.1.1).steps) (Headed k Q)} (λ x. x) (λ x vs other us r w. headed_parts (KeepsSteps vs) x other us r w)
            (begins_later_by loose_cut (reach_tight loose_cut) (placed_word_filling k) here.found (λ vs. s_tight the_name_sampled (kept vs)) passes_always (stays_loose refl) (begins_later_by tight_cut (reach_tight tight_cut) the_name_filling named.found kept passes_always stays_tight b))

        with : (K : List Step → Type 0) (at : List Token) → length at < length (skip_line_ends n) → Begins always (Within (λ x. K (body x).steps) Q) text n at
            → (length at < length ts) × Begins always (Within (λ (x : Place × (Named × A)). K (body x.1.1).steps) (Headed k Q)) text ts at
        with K at less b =
            let l1 = gap_length loose_gap n in
            let l2 = end_length n (skip_line_ends m) ((the_name_filling.one name).opens.ends text (skip_line_ends m) n named.found) in
            let l3 = gap_length loose_gap m in
            let l4 = end_length m ts (((placed_word_filling k).one p).opens.ends text ts m here.found) in (
              omega (arith, less, l1, l2, l3, l4),
              begins_as {P = λ text (x : A). PlacedWord text k p ⋯ TheName text name ⨾ Within (λ x. K (body x).steps) Q text x} {Q = Within (λ (x : Place × (Named × A)). K (body x.1.1).steps) (Headed k Q)} (λ x. (p, (name, x)))
                  (λ x other us r w. headed_parts K (p, (name, x)) other us r w)
                  (begins_inside {F = λ text. PlacedWord text k p} {Q = λ text (x : A). TheName text name ⨾ Within (λ x. K (body x).steps) Q text x} loose_cut (reach_tight loose_cut) ((placed_word_filling k).one p).opens here.found (omega (arith, less, l1, l2))
                  (begins_inside {F = λ text. TheName text name} tight_cut (reach_tight tight_cut) (the_name_filling.one name).opens named.found (omega (arith, less, l1)) b)),
            )
