-- Faults whose error says which rule they refuse, in units and in a whole text.
use Rattle.std.proofs.Common.{◌≡◌, ℕ, ◌≤◌, true, List, [], ◌∷◌, length, refl, sym, ◌∙◌, ap, subst, inl, inr}
use Rattle.std.specs.Prelude.{◌⊎◌, IsTrue, IsFalse}
use Rattle.std.specs.List.{All}
use Rattle.std.proofs.lemmas.List.Elements.{All-nil, All-cons}
use Rattle.il_syntax.specs.declared.token.Token.{Token}
use Rattle.il_syntax.specs.declared.keyword.Keyword.TheVariants as word
use Rattle.il_syntax.specs.declared.tree.Body.{Body}
use Rattle.il_syntax.specs.declared.tree.UnitKind.{UnitKind}
use Rattle.il_syntax.specs.declared.tree.UnitKind.TheVariants as unit
use Rattle.il_syntax.specs.declared.tree.Unit.{Unit as ProgramUnit}
use Rattle.il_syntax.specs.declared.tree.Config.{Config}
use Rattle.il_syntax.specs.Grammar.{Front, loose, skip_line_ends, Repeats, TheWord, unit_word}
use Rattle.il_syntax_laws.specs.One.{IsDeterministic}
use Rattle.il_syntax_laws.specs.Alike.{IsLocal}
use Rattle.il_syntax_laws.proofs.Alike.{end_self}
use Rattle.il_syntax_laws.proofs.Leads.{at_holds}
use Rattle.il_syntax_laws.proofs.Units.{unit_one}
use Rattle.il_syntax_laws.proofs.Local.{unit_carries, word_told}
use Rattle.load_lines.specs.Lead.{lead_at}
use Rattle.load_lines.specs.declared.lead.Lead.{Lead}
use Rattle.load_lines.specs.declared.lead.Lead.TheVariants as lead
use Rattle.load_lines.specs.declared.stop.SyntaxError.{SyntaxError}
use Rattle.load_lines.specs.declared.stop.SyntaxError.TheVariants.{Unexpected, TooDeep, TooMany}
use Rattle.load_lines.specs.declared.stop.Stop.{Stop}
use Rattle.load_lines.specs.Reads.{Reads, Refuses, RefusesBy, error_of, fault_at, past_name}
use Rattle.load_lines.proofs.Leaves.{word_lead, by_lead}
use Rattle.load_lines.proofs.Chain.{HasRead, lift, item_refused, too_many}
use Rattle.load_lines.proofs.ByError.{error_is}
use Rattle.load_tree.specs.Bodies.{IsFewBy}
use Rattle.load_tree.specs.Units.{IsFew, SpellsSmallUnit, SpellsUnitBy, unit_begins}
use Rattle.load_tree.specs.Parts.{AreFewBy, SpellsFewUnits, SpellsFewUnitsBy}
use Rattle.load_tree.specs.Refused.{IsSmall, Keeps}

-- within all limits is within each
few_by : (error : SyntaxError) (b : Body) → IsFew b → IsFewBy error b
few_by Unexpected b few = tt
few_by TooDeep b few = few.1
few_by TooMany b few = few.0

are_few_by : (error : SyntaxError) (us : List ProgramUnit) → length us ≤ 64 → AreFewBy error us
are_few_by Unexpected us few = tt
are_few_by TooDeep us few = tt
are_few_by TooMany us few = few

pub keeps_each : (error : SyntaxError) (c : Config) → IsSmall c → Keeps error c
keeps_each Unexpected c small = tt
keeps_each TooDeep c small = small.nesting
keeps_each TooMany c small = (small.units, small.instructions)

-- a configuration within a limit has units within it
all_free : (us : List ProgramUnit) → All (λ (u : ProgramUnit). IsFewBy Unexpected u.body) us
all_free [] = All-nil (λ (u : ProgramUnit). IsFewBy Unexpected u.body)
all_free (u ∷ us) = All-cons (λ (u : ProgramUnit). IsFewBy Unexpected u.body) u us tt (all_free us)

pub kept : (error : SyntaxError) (c : Config) → Keeps error c → All (λ (u : ProgramUnit). IsFewBy error u.body) c.units × AreFewBy error c.units
kept Unexpected c keeps = (all_free c.units, tt)
kept TooDeep c keeps = (keeps, tt)
kept TooMany c keeps = (keeps.1, keeps.0)

-- a unit within a limit is one
pub unit_by_one : (text : List ℕ) (error : SyntaxError) → IsDeterministic (SpellsUnitBy error text)
unit_by_one text error = record { only = λ a b ts r s p q. (unit_one text).only a b ts r s p.0 q.0 }

-- and is one in alike tokens
pub unit_by_local : (error : SyntaxError) → IsLocal loose (SpellsUnitBy error)
unit_by_local error = record {
  one = λ text. unit_by_one text error;
  carries = λ u. record {
    ends = λ text ts m p. (unit_carries u).ends text ts m p.0;
    over = λ text other back ts us m a p l. let f = (unit_carries u).over text other back ts us m a p.0 l in (f.0, (f.1, p.1), f.2);
  };
}

module _ (text : List ℕ) where
  -- what is read within all limits is read within each
  pub unit_by_read : (error : SyntaxError) (ts r : List Token) (u : ProgramUnit) → Reads (SpellsSmallUnit text) ts u r → Reads (SpellsUnitBy error text) ts u r
  unit_by_read error ts r u here = record { found = (here.found.0, few_by error u.body here.found.1) }

  units_by : (error : SyntaxError) (E : Front) (us : List ProgramUnit) (ts r : List Token) → Repeats (SpellsSmallUnit text) us E ts r → Repeats (SpellsUnitBy error text) us E ts r
  units_by error E [] ts r w = w
  units_by error E (u ∷ us) ts r w = (w.0, (w.1.0, few_by error u.body w.1.1), units_by error E us (skip_line_ends w.0) r w.2)

  pub units_by_read : (error : SyntaxError) (ts r : List Token) (us : List ProgramUnit) → Reads (SpellsFewUnits text) ts us r → Reads (SpellsFewUnitsBy error text) ts us r
  units_by_read error ts r us here = record { found = (units_by error (TheWord text word.Configuration) us ts r here.found.0, are_few_by error us here.found.1) }

  -- a unit begins with a word of its kind
  kind_begins : (k : UnitKind) → unit_begins (lead.Reserved (unit_word k)) ≡ true
  kind_begins (unit.Function s p) = refl
  kind_begins unit.FunctionBlock = refl
  kind_begins unit.Program = refl

  pub begins_so : (error : SyntaxError) (u : ProgramUnit) (ts r : List Token) → SpellsUnitBy error text u ts r → unit_begins (lead_at text ts) ≡ true
  begins_so error u ts r w =
      let first = at_holds text (TheWord text (unit_word u.kind)) u.place ts w.0.1.0 w.0.1.1 in
      ap unit_begins (word_lead text (unit_word u.kind) ts w.0.1.0 first) ∙ kind_begins u.kind

-- where a unit begins, no name does
no_name : (l : Lead) (ts : List Token) → unit_begins l ≡ true → past_name l ts ≡ ts
no_name lead.Name ts is = absurd cc
no_name lead.Nothing ts is = refl
no_name (lead.Reserved k) ts is = refl
no_name (lead.Number v) ts is = refl
no_name (lead.Typed v) ts is = refl
no_name (lead.Sign s) ts is = refl
no_name lead.LineEnd ts is = refl

module _ (text : List ℕ) where
  -- no unit is read there
  pub unit_gone : (start : List Token) (xs : List ProgramUnit) (ts : List Token) (e : Stop) → ((r : List Token) → TheWord text word.Configuration ts r → ⊥)
      → HasRead (SpellsUnitBy (error_of e)) (λ text. TheWord text word.Configuration) text start xs ts → RefusesBy SpellsUnitBy text ts e → RefusesBy SpellsFewUnitsBy text start e
  unit_gone start xs ts e none so_far bad =
      lift (end_self start) (λ back gone. record { inside = gone.inside; never = λ other us a ys r w. gone.never other us a ys r w.0 })
      (item_refused (SpellsUnitBy (error_of e)) (λ text. TheWord text word.Configuration) text (word_told word.Configuration) start xs ts e none so_far bad)

  -- as many are read as there may be
  pub units_full : (start : List Token) (xs : List ProgramUnit) (ts : List Token) (e : Stop) → ((r : List Token) → TheWord text word.Configuration ts r → ⊥) → length xs ≡ 64
      → ((error : SyntaxError) → HasRead (SpellsUnitBy error) (λ text. TheWord text word.Configuration) text start xs ts)
      → ((e ≡ fault_at TooMany ts) × IsTrue (unit_begins (lead_at text ts))) ⊎ ((e ≡ fault_at Unexpected ts) × IsFalse (unit_begins (lead_at text ts))) → RefusesBy SpellsFewUnitsBy text start e
  units_full start xs ts e none full so_far (inl how) =
      let bad : Refuses (SpellsFewUnitsBy TooMany) text start e =
      too_many (SpellsUnitBy TooMany) (λ text. TheWord text word.Configuration) text 64 (word_told word.Configuration) start xs ts e TooMany (no_name (lead_at text ts) ts how.1) none full (so_far TooMany) how.0 in
      subst (λ (error : SyntaxError). Refuses (SpellsFewUnitsBy error) text start e) (sym (error_is TooMany ts e how.0)) bad
  units_full start xs ts e none full so_far (inr how) = unit_gone start xs ts e none (so_far (error_of e)) (by_lead Unexpected refl go how.0)
    where
      go : (other : List ℕ) (us : List Token) → lead_at other us ≡ lead_at text ts → (u : ProgramUnit) (r : List Token) → SpellsUnitBy (error_of e) other u us r → ⊥
      go other us same u r w = let yes = sym (ap unit_begins same) ∙ begins_so other (error_of e) u us r w in cc
