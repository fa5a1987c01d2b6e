-- Lists that may be missing.
use Rattle.std.proofs.Common.{◌≡◌, ℕ, Bool, true, false, List, [], ◌∷◌, drop, refl, ◌∙◌, inl, inr}
use Rattle.il_syntax.specs.declared.token.Token.{Token}
use Rattle.il_syntax.specs.declared.keyword.Keyword.{Keyword}
use Rattle.il_syntax.specs.declared.keyword.Keyword.TheVariants as word
use Rattle.il_syntax.specs.declared.tree.Declaration.{Declaration}
use Rattle.il_syntax.specs.Grammar.{Front, loose, ◌⋯◌, skip_line_ends, AfterLines, No, Repeats, Listed, TheSign, TheName, TheWord, SpellsDeclaration, SpellsList, SpellsFilledList, SpellsOptionalList}
use Rattle.il_syntax_laws.specs.Alike.{AreAlike, IsLocal}
use Rattle.il_syntax_laws.proofs.Alike.{loose_gap, loosely, given, none_after_lines}
use Rattle.il_syntax_laws.proofs.Local.{word_same, word_local, declarations_local, optional_carries, external_carries}
use Rattle.load_lines.proofs.Leaves.{the_name_lead, word_lead, word_there, lead_alike}
use Rattle.load_lines.proofs.Chain.{Lacks, at_once, first_missing, behind}
use Rattle.load_lines.specs.declared.stop.SyntaxError.TheVariants.{Unexpected}
use Rattle.load_tree.specs.Ahead.{RefusesAhead, MissesAhead}
use Rattle.load_tree.proofs.Ahead.{ahead_of, past_lines}
use Rattle.il_syntax_laws.specs.One.{IsDeterministic}
use Rattle.il_syntax_laws.proofs.Types.{declarations_one, externals_one, optional_list_one}
use Rattle.il_syntax_laws.proofs.Combinators.{valueless, no_one}
use Rattle.load_tree.specs.Insides.{LacksList, SpellsSomeExternals}
use Rattle.load_lines.specs.Reads.{Reads, Refuses, Stands, Misses, fault_at}
use Rattle.il_syntax.specs.declared.token.Sign.TheVariants.{Colon}
use Rattle.il_syntax.specs.declared.tree.Named.{Named}
use Rattle.load_lines.specs.Lead.{lead_at}
use Rattle.load_lines.specs.declared.lead.Lead.TheVariants as lead
use Rattle.load_lines.specs.Settings.{StandsThere}
use Rattle.load_lines.specs.declared.stop.Stop.{Stop}
use Rattle.load_tree.specs.Lists.{IsFilled, SpellsFull}

-- declarations, one at least, and END_VAR
abbrev SomeDeclarations : List ℕ → List Declaration → Front
SomeDeclarations text ds us r = IsFilled ds × Repeats (SpellsDeclaration text) ds (TheWord text word.EndVar) us r

-- a declaration begins with a name
begins : (text : List ℕ) (d : Declaration) (ts r : List Token) → SpellsDeclaration text d ts r → lead_at text ts ≡ lead.Name
begins text d ts r w = go d.names w.0 w.1
  where
    go : (ns : List Named) (m : List Token) → Listed loose (TheName text) ns (TheSign Colon) ts m → lead_at text ts ≡ lead.Name
    go [] m p = absurd p
    go (n ∷ []) m p = the_name_lead text n ts p.0 p.1
    go (n ∷ o ∷ ns) m p = the_name_lead text n ts p.0 p.1

module _ (text : List ℕ) where
  -- a word that follows line ends is in alike tokens too
  comes_there : (k : Keyword) (other : List ℕ) (back ts us m : List Token) → AreAlike text other back ts us → TheWord text k ts m → TheWord other k us (drop 1 us)
  comes_there k other back ts us m a w = word_there other k us (lead_alike text other back ts us a ∙ word_lead text k ts m w)

  -- a list that comes, and isn't read
  pub optional_refused : (k : Keyword) (P : List ℕ → Declaration → Front) (ts m : List Token) (e : Stop) → TheWord text k (skip_line_ends ts) m → RefusesAhead (λ text. SpellsList text k (P text)) text ts e
      → RefusesAhead (λ text. SpellsOptionalList text k (P text)) text ts e
  optional_refused k P ts m e there bad = ahead_of (λ other us back a gone ds r w. go other us (comes_there k other back (skip_line_ends ts) (skip_line_ends us) m a there) gone ds r w) bad
    where
      go : (other : List ℕ) (us : List Token) → TheWord other k (skip_line_ends us) (drop 1 (skip_line_ends us)) → Lacks (SpellsList other k (P other)) us → (ds : List Declaration) (r : List Token)
          → SpellsOptionalList other k (P other) ds us r → ⊥
      go other us here gone ds r (inl w) = gone ds r w
      go other us here gone ds r (inr w) = w.1.1 (drop 1 (skip_line_ends us)) here

  pub optional_read : (k : Keyword) (P : Declaration → Front) (ts r : List Token) (ds : List Declaration) → Reads (SpellsList text k P) ts ds r → Reads (SpellsOptionalList text k P) ts ds r
  optional_read k P ts r ds here = record { found = inl here.found }

  pub optional_none : (k : Keyword) (P : Declaration → Front) (ts : List Token) → ((m : List Token) → TheWord text k (skip_line_ends ts) m → ⊥) → Reads (SpellsOptionalList text k P) ts [] ts
  optional_none k P ts none = record { found = inr (refl, (refl, none)) }

  -- a list that comes, and isn't read or is empty
  pub filled_refused : (k : Keyword) (ts m : List Token) (e : Stop) → TheWord text k (skip_line_ends ts) m → RefusesAhead (λ text. SpellsFull text k) text ts e → RefusesAhead (λ text. SpellsFilledList text k) text ts e
  filled_refused k ts m e there bad = ahead_of (λ other us back a gone ds r w. go other us (comes_there k other back (skip_line_ends ts) (skip_line_ends us) m a there) gone ds r w) bad
    where
      go : (other : List ℕ) (us : List Token) → TheWord other k (skip_line_ends us) (drop 1 (skip_line_ends us)) → Lacks (SpellsFull other k) us → (ds : List Declaration) (r : List Token) → SpellsFilledList other k ds us r → ⊥
      go other us here gone [] r w = w.1 (drop 1 (skip_line_ends us)) here
      go other us here gone (d ∷ ds) r w = gone (d ∷ ds) r (tt, w)

  -- a list that comes, and may not
  pub list_comes : (k : Keyword) (ts m : List Token) (e : Stop) → TheWord text k (skip_line_ends ts) m → e ≡ fault_at Unexpected (skip_line_ends ts) → MissesAhead (λ text. No (AfterLines (TheWord text k))) text ts e
  list_comes k ts m e there here =
      let at_word : Refuses (λ text (u : Unit {0}) us r. (No (TheWord text k)) us r) text (skip_line_ends ts) e =
      at_once Unexpected refl (λ other us a u r w. w.1 (drop 1 us) (comes_there k other (skip_line_ends ts) (skip_line_ends ts) us m a there)) here in
      past_lines (λ other us back a gone u r w. gone tt (skip_line_ends us) (refl, w.1)) at_word

  pub filled_read : (k : Keyword) (ts r : List Token) (ds : List Declaration) → Reads (SpellsFull text k) ts ds r → Reads (SpellsFilledList text k) ts ds r
  filled_read k ts r [] here = absurd here.found.0
  filled_read k ts r (d ∷ ds) here = record { found = here.found.1 }

  pub inside_refused : (k : Keyword) (Q : List ℕ → List Declaration → Front) (ts m : List Token) (e : Stop) → Stands (TheWord text k) (skip_line_ends ts) m → Refuses Q text (skip_line_ends m) e
      → RefusesAhead (λ text ds rs. (TheWord text k ⋯ Q text ds) (skip_line_ends rs)) text ts e
  inside_refused k Q ts m e here bad = past_lines (λ other us back a gone ds r w. gone ds r w) (behind loose_gap Q (word_local k) here bad)

  pub list_refused : (k : Keyword) (ts m : List Token) (e : Stop) → Stands (TheWord text k) (skip_line_ends ts) m → Refuses (λ text ds. Repeats (SpellsDeclaration text) ds (TheWord text word.EndVar)) text (skip_line_ends m) e
      → RefusesAhead (λ text. SpellsList text k (SpellsDeclaration text)) text ts e
  list_refused k ts m e here bad = past_lines (λ other us back a gone ds r w. gone ds r w) (behind loose_gap (λ text ds. Repeats (SpellsDeclaration text) ds (TheWord text word.EndVar)) (word_local k) here bad)

  pub full_refused : (k : Keyword) (ts m : List Token) (e : Stop) → Stands (TheWord text k) (skip_line_ends ts) m → Refuses (λ text ds. Repeats (SpellsDeclaration text) ds (TheWord text word.EndVar)) text (skip_line_ends m) e
      → RefusesAhead (λ text. SpellsFull text k) text ts e
  full_refused k ts m e here bad = past_lines (λ other us back a gone ds r w. gone ds r w.1) (behind loose_gap (λ text ds. Repeats (SpellsDeclaration text) ds (TheWord text word.EndVar)) (word_local k) here bad)

  -- the word of a list isn't there
  pub word_refused : (k : Keyword) (Q : List ℕ → List Declaration → Front) (ts : List Token) (e : Stop) → Misses (λ text. TheWord text k) text (skip_line_ends ts) e → RefusesAhead (λ text ds rs. (TheWord text k ⋯ Q text ds) (skip_line_ends rs)) text ts e
  word_refused k Q ts e bad = past_lines (λ other us back a gone ds r w. gone ds r w) (first_missing loose Q bad)

  pub no_full : (k : Keyword) (ts : List Token) (e : Stop) → Misses (λ text. TheWord text k) text (skip_line_ends ts) e → RefusesAhead (λ text. SpellsFull text k) text ts e
  no_full k ts e bad = past_lines (λ other us back a gone ds r w. gone ds r w.1) (first_missing loose (λ text ds. Repeats (SpellsDeclaration text) ds (TheWord text word.EndVar)) bad)

  -- it is empty
  pub empty_refused : (k : Keyword) (ts m q : List Token) (e : Stop) → Stands (TheWord text k) (skip_line_ends ts) m → TheWord text word.EndVar (skip_line_ends m) q → e ≡ fault_at Unexpected (skip_line_ends m) → RefusesAhead (λ text. SpellsFull text k) text ts e
  empty_refused k ts m q e here end at = past_lines (λ other us back a gone ds r w. gone ds r (w.1.0, w.1.1, (w.0, w.1.2))) (behind loose_gap SomeDeclarations (word_local k) here (at_once Unexpected refl none at))
    where
      none : (other : List ℕ) (us : List Token) → AreAlike text other (skip_line_ends m) (skip_line_ends m) us → (ds : List Declaration) (r : List Token) → SomeDeclarations other ds us r → ⊥
      none other us a [] r w = w.0
      none other us a (d ∷ ds) r w =
          let x = begins other d us w.1.0 w.1.1 in
          let y = word_lead text word.EndVar (skip_line_ends m) q end in
          let z = lead_alike text other (skip_line_ends m) (skip_line_ends m) us a in
          cc

  pub full_read : (k : Keyword) (ts m r : List Token) (ds : List Declaration) → Stands (TheWord text k) (skip_line_ends ts) m → ((q : List Token) → TheWord text word.EndVar (skip_line_ends m) q → ⊥)
      → Reads (λ ds. Repeats (SpellsDeclaration text) ds (TheWord text word.EndVar)) (skip_line_ends m) ds r → Reads (SpellsFull text k) ts ds r
  full_read k ts m r [] here more list = absurd (more r list.found)
  full_read k ts m r (d ∷ ds) here more list = record { found = (tt, (m, here.found, list.found)) }

-- what is there
pub it_stands : (F : Front) (ts : List Token) (b : Bool) → StandsThere F ts b → b ≡ true → (rest : List Token) × F ts rest
it_stands F ts true h e = h
it_stands F ts false h e = absurd cc

-- what doesn't
pub it_is_missing : (F : Front) (ts : List Token) (b : Bool) → StandsThere F ts b → b ≡ false → (rest : List Token) → F ts rest → ⊥
it_is_missing F ts true h e = absurd cc
it_is_missing F ts false h e = h

-- a list that isn't empty is one
pub full_one : (text : List ℕ) (k : Keyword) → IsDeterministic (SpellsFull text k)
full_one text k = record { only = λ a b ts r s p q. (declarations_one text k).only a b ts r s p.1 q.1 }

pub full_local : (k : Keyword) → IsLocal loose (λ text. SpellsFull text k)
full_local k = record {
  one = λ text. full_one text k;
  carries = λ ds. given _ (loosely ((declarations_local k).carries ds));
}

-- no list of this word, as a rule whose value is nothing
pub no_list_local : (k : Keyword) → IsLocal loose (λ text (u : Unit {0}). LacksList text k)
no_list_local k = record { one = λ text. valueless (no_one _); carries = λ u. none_after_lines (word_same k) }

pub as_read : {F : Front} {ts m : List Token} → Stands F ts m → Reads (λ (u : Unit {0}). F) ts tt m
as_read here = record { found = here.found }

-- the externals of a program
pub some_externals_local : IsLocal loose SpellsSomeExternals
some_externals_local = record { one = λ text. optional_list_one text word.VarExternal (externals_one text word.VarExternal); carries = λ ds. optional_carries word.VarExternal external_carries ds }
