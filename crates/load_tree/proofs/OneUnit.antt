-- Units of each kind, from their parts and back.
use Rattle.std.proofs.Common.{◌≡◌, ℕ, ◌<◌, List, [], ◌∷◌, drop, length, refl, sym, ◌∙◌, subst, arith}
use Rattle.std.specs.Prelude.{Result, Ok, Err, IfErr}
use Rattle.il_syntax.specs.declared.token.Token.{Token}
use Rattle.il_syntax.specs.declared.keyword.Keyword.{Keyword}
use Rattle.il_syntax.specs.declared.keyword.Keyword.TheVariants as word
use Rattle.il_syntax.specs.declared.tree.Place.{Place}
use Rattle.il_syntax.specs.declared.tree.Named.{Named}
use Rattle.il_syntax.specs.declared.tree.Scalar.{Scalar}
use Rattle.il_syntax.specs.declared.tree.Declaration.{Declaration}
use Rattle.il_syntax.specs.declared.tree.Body.{Body}
use Rattle.il_syntax.specs.declared.tree.UnitKind.{UnitKind}
use Rattle.il_syntax.specs.declared.tree.UnitKind.TheVariants as unit
use Rattle.il_syntax.specs.declared.tree.Unit.{Unit as ProgramUnit}
use Rattle.il_syntax.specs.Grammar.{loose, TheWord, SpellsFilledList, SpellsBody, SpellsUnit, unit_word}
use Rattle.il_syntax_laws.specs.One.{IsDeterministic}
use Rattle.il_syntax_laws.proofs.Leads.{word_lead, at_holds}
use Rattle.il_syntax_laws.proofs.Units.{unit_lead, unit_one}
use Rattle.il_syntax_laws.specs.Alike.{IsLocal}
use Rattle.il_syntax_laws.proofs.Alike.{tight_gap}
use Rattle.il_syntax_laws.proofs.Local.{unit_carries, word_told}
use Rattle.load_lines.proofs.Leaves.{word_lead as begins_so, word_there, lead_alike}
use Rattle.load_lines.proofs.Chain.{past}
use Rattle.load_lines.specs.Reads.{Reads, RefusesBy, error_of}
use Rattle.load_lines.specs.declared.stop.SyntaxError.{SyntaxError}
use Rattle.load_lines.specs.declared.stop.Stop.{Stop}
use Rattle.load_tree.specs.Bodies.{SpellsBodyBy, IsFewBy}
use Rattle.load_tree.specs.Lists.{IsFilled, SpellsFull}
use Rattle.load_tree.specs.Insides.{LacksList, SpellsProgramInsideBy, SpellsBlockInsideBy, SpellsFunctionInsideBy}
use Rattle.load_tree.specs.Headings.{SpellsProgram, SpellsBlock, SpellsFunction, SpellsProgramBy, SpellsBlockBy, SpellsFunctionBy}
use Rattle.load_tree.specs.Units.{SpellsSmallUnit, SpellsUnitOf, SpellsUnitBy, SpellsUnitOfBy}

-- what refuses one thing refuses another
pub refused_so : {X : Type 0} {P Q : Stop → Type 0} → ((e : Stop) → P e → Q e) → (r : Result X Stop) → IfErr r P → IfErr r Q
refused_so f (Ok x) h = tt
refused_so f (Err e) h = f e h

module _ (text : List ℕ) where
  -- a body within the limit that a fault is about
  body_by : (error : SyntaxError) (last : Keyword) (b : Body) (ts r : List Token) → SpellsBody text last b ts r → IsFewBy error b → SpellsBodyBy last error text b ts r
  body_by error last b ts r w few = (w.1.0, w.1.1, (w.1.2, w.0, few))

  -- a list that may be missing, and is empty
  lacks : (k : Keyword) (ds : List Declaration) (ts r : List Token) → ds ≡ [] → SpellsFilledList text k ds ts r → LacksList text k ts r
  lacks k ds ts r none w = subst (λ (xs : List Declaration). SpellsFilledList text k xs ts r) none w

  -- a list that isn't empty
  full : (k : Keyword) (ds : List Declaration) (ts r : List Token) → 0 < length ds → SpellsFilledList text k ds ts r → SpellsFull text k ds ts r
  full k [] ts r some w = absurd (omega (arith, some))
  full k (d ∷ ds) ts r some w = (tt, w)

  filled : (k : Keyword) (ds : List Declaration) (ts r : List Token) → SpellsFull text k ds ts r → SpellsFilledList text k ds ts r
  filled k [] ts r w = absurd w.0
  filled k (d ∷ ds) ts r w = w.1

  more_than_none : (ds : List Declaration) → IsFilled ds → 0 < length ds
  more_than_none [] h = absurd h
  more_than_none (d ∷ ds) h = omega arith

  -- a program is its parts
  pub program_parts : (error : SyntaxError) (k : UnitKind) (p : Place) (n : Named) (ins outs vs es : List Declaration) (b : Body) (ts r : List Token)
      → SpellsUnitOfBy word.Program error text (record { place = p; kind = k; name = n; inputs = ins; outputs = outs; variables = vs; externals = es; body = b }) ts r → SpellsProgramBy error text (p, n, (vs, es, b)) ts r
  program_parts error unit.Program p n ins outs vs es b ts r w =
      let u = w.1.0 in
      let few = w.1.1 in
      let name = u.1.2 in
      let lists = name.2.2 in
      let second = lists.2 in
      let third = second.2 in
      let fourth = third.2 in
      let inside : SpellsProgramInsideBy error text (vs, es, b) name.2.0 r = (
        lists.0,
        lacks word.VarInput ins name.2.0 lists.0 u.0.0 lists.1,
        (
          second.0,
          lacks word.VarOutput outs lists.0 second.0 u.0.1 second.1,
          (third.0, third.1, (fourth.0, fourth.1, body_by error word.EndProgram b fourth.0 r fourth.2 few)),
        ),
      ) in
      (u.1.0, u.1.1, (name.0, name.1, subst (λ (m : List Token). SpellsProgramInsideBy error text (vs, es, b) m r) (sym name.2.1) inside))
  program_parts error unit.FunctionBlock p n ins outs vs es b ts r w = absurd (cc w.0)
  program_parts error (unit.Function s q) p n ins outs vs es b ts r w = absurd (cc w.0)

  -- a program of its parts
  pub program_read : (ts r : List Token) (p : Place) (n : Named) (vs es : List Declaration) (b : Body) → Reads (SpellsProgram text) ts (p, n, (vs, es, b)) r
      → Reads (SpellsUnitOf text word.Program) ts (record { place = p; kind = unit.Program; name = n; inputs = []; outputs = []; variables = vs; externals = es; body = b }) r
  program_read ts r p n vs es b here =
      let h = here.found in
      let name = h.2 in
      let i = name.2 in
      let second = i.2 in
      let third = second.2 in
      let fourth = third.2 in
      let d = fourth.2 in
      record {
        found = (
          refl,
          (
            ((refl, refl), (h.0, h.1, (name.0, name.1, (name.0, refl, (i.0, i.1, (second.0, second.1, (third.0, third.1, (fourth.0, fourth.1, (d.2.1, (d.0, d.1, d.2.0)))))))))),
            (d.2.2, d.2.3),
          ),
        );
      }

  -- a function block is its parts
  pub block_parts : (error : SyntaxError) (k : UnitKind) (p : Place) (n : Named) (ins outs vs es : List Declaration) (b : Body) (ts r : List Token)
      → SpellsUnitOfBy word.FunctionBlock error text (record { place = p; kind = k; name = n; inputs = ins; outputs = outs; variables = vs; externals = es; body = b }) ts r → SpellsBlockBy error text (p, n, (ins, outs, vs, b)) ts r
  block_parts error unit.FunctionBlock p n ins outs vs es b ts r w =
      let u = w.1.0 in
      let few = w.1.1 in
      let name = u.1.2 in
      let lists = name.2.2 in
      let second = lists.2 in
      let third = second.2 in
      let fourth = third.2 in
      let inside : SpellsBlockInsideBy error text (ins, outs, vs, b) name.2.0 r =
      (lists.0, lists.1, (second.0, second.1, (third.0, third.1, (fourth.0, fourth.1.1, body_by error word.EndFunctionBlock b fourth.0 r fourth.2 few)))) in
      (u.1.0, u.1.1, (name.0, name.1, subst (λ (m : List Token). SpellsBlockInsideBy error text (ins, outs, vs, b) m r) (sym name.2.1) inside))
  block_parts error unit.Program p n ins outs vs es b ts r w = absurd (cc w.0)
  block_parts error (unit.Function s q) p n ins outs vs es b ts r w = absurd (cc w.0)

  -- a function block of its parts
  pub block_read : (ts r : List Token) (p : Place) (n : Named) (ins outs vs : List Declaration) (b : Body) → Reads (SpellsBlock text) ts (p, n, (ins, outs, vs, b)) r
      → Reads (SpellsUnitOf text word.FunctionBlock) ts (record { place = p; kind = unit.FunctionBlock; name = n; inputs = ins; outputs = outs; variables = vs; externals = []; body = b }) r
  block_read ts r p n ins outs vs b here =
      let h = here.found in
      let name = h.2 in
      let i = name.2 in
      let second = i.2 in
      let third = second.2 in
      let fourth = third.2 in
      let d = fourth.2 in
      record {
        found = (
          refl,
          (
            (tt, (h.0, h.1, (name.0, name.1, (name.0, refl, (i.0, i.1, (second.0, second.1, (third.0, third.1, (fourth.0, (refl, fourth.1), (d.2.1, (d.0, d.1, d.2.0)))))))))),
            (d.2.2, d.2.3),
          ),
        );
      }

  -- a function is its parts
  pub function_parts : (error : SyntaxError) (k : UnitKind) (p : Place) (n : Named) (ins outs vs es : List Declaration) (b : Body) (ts r : List Token)
      → SpellsUnitOfBy word.Function error text (record { place = p; kind = k; name = n; inputs = ins; outputs = outs; variables = vs; externals = es; body = b }) ts r
      → (x : Place × Scalar) × SpellsFunctionBy error text (p, n, x, (ins, vs, b)) ts r
  function_parts error (unit.Function s q) p n ins outs vs es b ts r w =
      let u = w.1.0 in
      let few = w.1.1 in
      let name = u.1.2 in
      let lists = name.2.2 in
      let second = lists.2 in
      let third = second.2 in
      let fourth = third.2 in
      let inside : SpellsFunctionInsideBy error text (ins, vs, b) name.2.0 r = (
        lists.0,
        full word.VarInput ins name.2.0 lists.0 u.0.0 lists.1,
        (
          second.0,
          lacks word.VarOutput outs lists.0 second.0 u.0.1 second.1,
          (third.0, third.1, (fourth.0, fourth.1.1, body_by error word.EndFunction b fourth.0 r fourth.2 few)),
        ),
      ) in
      ((q, s), (u.1.0, u.1.1, (name.0, name.1, (name.2.0, name.2.1, inside))))
  function_parts error unit.Program p n ins outs vs es b ts r w = absurd (cc w.0)
  function_parts error unit.FunctionBlock p n ins outs vs es b ts r w = absurd (cc w.0)

  -- a function of its parts
  pub function_read : (ts r : List Token) (p : Place) (n : Named) (q : Place) (s : Scalar) (ins vs : List Declaration) (b : Body) → Reads (SpellsFunction text) ts (p, n, (q, s), (ins, vs, b)) r
      → Reads (SpellsUnitOf text word.Function) ts (record { place = p; kind = unit.Function s q; name = n; inputs = ins; outputs = []; variables = vs; externals = []; body = b }) r
  function_read ts r p n q s ins vs b here =
      let h = here.found in
      let name = h.2 in
      let outcome = name.2 in
      let i = outcome.2 in
      let second = i.2 in
      let third = second.2 in
      let fourth = third.2 in
      let d = fourth.2 in
      record {
        found = (
          refl,
          (
            ((more_than_none ins i.1.0, refl), (h.0, h.1, (name.0, name.1, (outcome.0, outcome.1, (i.0, filled word.VarInput ins outcome.0 i.0 i.1, (second.0, second.1, (third.0, third.1, (fourth.0, (refl, fourth.1), (d.2.1, (d.0, d.1, d.2.0)))))))))),
            (d.2.2, d.2.3),
          ),
        );
      }

  -- a unit of a kind is a unit
  pub unit_read : (k : Keyword) (ts r : List Token) (u : ProgramUnit) → Reads (SpellsUnitOf text k) ts u r → Reads (SpellsSmallUnit text) ts u r
  unit_read k ts r u here = record { found = here.found.1 }

  -- after the word of a kind is a unit of this kind
  pub same_word : (k : Keyword) (u : ProgramUnit) (ts m r : List Token) → TheWord text k ts m → SpellsUnit text u ts r → unit_word u.kind ≡ k
  same_word k u ts m r word w =
      let a = word_lead text k ts m word in
      let b = unit_lead text u ts r w in
      cc

  -- a unit begins with a word that is there
  pub begins : (u : ProgramUnit) (ts r : List Token) → SpellsUnit text u ts r → (m : List Token) × TheWord text (unit_word u.kind) ts m
  begins u ts r w = (w.1.0, at_holds text (TheWord text (unit_word u.kind)) u.place ts w.1.0 w.1.1)

  -- neither a program nor a function block is there, and no function
  pub is_other : (k : UnitKind) (ts : List Token) → ((m : List Token) → TheWord text word.Program ts m → ⊥) → ((m : List Token) → TheWord text word.FunctionBlock ts m → ⊥)
      → (m : List Token) → TheWord text (unit_word k) ts m → unit_word k ≡ word.Function
  is_other unit.Program ts p b m w = absurd (p m w)
  is_other unit.FunctionBlock ts p b m w = absurd (b m w)
  is_other (unit.Function s q) ts p b m w = refl

  -- a unit within the limits is one
  pub small_unit_one : IsDeterministic (SpellsSmallUnit text)
  small_unit_one = record { only = λ a b ts r s p q. (unit_one text).only a b ts r s p.0 q.0 }

module _ (text : List ℕ) where
  pub program_refused : (ts : List Token) (e : Stop) → RefusesBy SpellsProgramBy text ts e → RefusesBy (SpellsUnitOfBy word.Program) text ts e
  program_refused ts e bad = past tight_gap (λ other us back a gone u r w.
      gone (u.place, u.name, (u.variables, u.externals, u.body)) r (program_parts other (error_of e) u.kind u.place u.name u.inputs u.outputs u.variables u.externals u.body us r w)) bad

  pub block_refused : (ts : List Token) (e : Stop) → RefusesBy SpellsBlockBy text ts e → RefusesBy (SpellsUnitOfBy word.FunctionBlock) text ts e
  block_refused ts e bad = past tight_gap (λ other us back a gone u r w.
      gone (u.place, u.name, (u.inputs, u.outputs, u.variables, u.body)) r (block_parts other (error_of e) u.kind u.place u.name u.inputs u.outputs u.variables u.externals u.body us r w)) bad

  pub function_refused : (ts : List Token) (e : Stop) → RefusesBy SpellsFunctionBy text ts e → RefusesBy (SpellsUnitOfBy word.Function) text ts e
  function_refused ts e bad = past tight_gap (λ other us back a gone u r w.
      let x = function_parts other (error_of e) u.kind u.place u.name u.inputs u.outputs u.variables u.externals u.body us r w in
      gone (u.place, u.name, x.0, (u.inputs, u.variables, u.body)) r x.1) bad

  pub unit_refused : (k : Keyword) (ts m : List Token) (e : Stop) → TheWord text k ts m → RefusesBy (SpellsUnitOfBy k) text ts e → RefusesBy SpellsUnitBy text ts e
  unit_refused k ts m e word bad = past tight_gap (λ other us back a gone u r w.
      gone u r (same_word other k u us (drop 1 us) r (word_there other k us (lead_alike text other back ts us a ∙ begins_so text k ts m word)) w.0, w)) bad

  pub other_refused : (ts : List Token) (e : Stop) → ((m : List Token) → TheWord text word.Program ts m → ⊥) → ((m : List Token) → TheWord text word.FunctionBlock ts m → ⊥)
      → RefusesBy (SpellsUnitOfBy word.Function) text ts e → RefusesBy SpellsUnitBy text ts e
  other_refused ts e p b bad = past tight_gap (λ other us back a gone u r w.
      let first = begins other u us r w.0 in
      gone u r (is_other other u.kind us (λ m v. (word_told word.Program).still text other back ts us a p m v) (λ m v. (word_told word.FunctionBlock).still text other back ts us a b m v) first.0 first.1, w)) bad

-- a unit within the limits, in alike tokens
pub small_unit_local : IsLocal loose SpellsSmallUnit
small_unit_local = record {
  one = λ text. small_unit_one text;
  carries = λ u. record {
    ends = λ text ts m p. (unit_carries u).ends text ts m p.0;
    over = λ text other back ts us m a p l. let f = (unit_carries u).over text other back ts us m a p.0 l in (f.0, (f.1, p.1), f.2);
  };
}
