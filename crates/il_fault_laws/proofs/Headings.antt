-- Units, as a heading with its lists and a body.
use Rattle.std.proofs.Common.{◌≡◌, ℕ, List, refl}
use Rattle.il_syntax.specs.declared.token.Token.{Token}
use Rattle.il_syntax.specs.declared.keyword.Keyword.TheVariants as word
use Rattle.il_syntax.specs.declared.tree.Place.{Place}
use Rattle.il_syntax.specs.declared.tree.Named.{Named}
use Rattle.il_syntax.specs.declared.tree.Scalar.{Scalar}
use Rattle.il_syntax.specs.declared.tree.Declaration.{Declaration}
use Rattle.il_syntax.specs.declared.tree.Body.{Body}
use Rattle.il_syntax.specs.declared.tree.UnitKind.{UnitKind}
use Rattle.il_syntax.specs.declared.tree.UnitKind.TheVariants as unit
use Rattle.il_syntax.specs.declared.tree.Unit.{Unit as ProgramUnit}
use Rattle.il_syntax.specs.Grammar.{Front, tight, loose, ◌⨾◌, ◌⋯◌, At, TheWord, TheName, SpellsDeclaration, SpellsFilledList, SpellsOptionalList, SpellsExternals, SpellsResult, SpellsBody, SpellsUnit, unit_word, end_word, HasItsLists}
use Rattle.il_syntax_laws.specs.One.{IsDeterministic}
use Rattle.il_syntax_laws.specs.Alike.{Carries}
use Rattle.il_syntax_laws.proofs.Combinators.{chain, behind, place_of}
use Rattle.il_syntax_laws.proofs.Leads.{reserved, lead, word_lead, at_holds, word_sure, the_name_one}
use Rattle.il_syntax_laws.proofs.Types.{declarations_one, filled_list_one, optional_list_one}
use Rattle.il_syntax_laws.proofs.Units.{nothing_sure, unit_externals_one, result_one}
use Rattle.il_syntax_laws.proofs.Alike.{loose_gap, loosely, follows, follows_directly, placed}
use Rattle.il_syntax_laws.proofs.Local.{word_carries, the_name_carries, filled_carries, optional_carries, declaration_carries, unit_externals_carry, result_carries}
use Rattle.il_syntax_laws.proofs.Instructions.{none, sort_at}

-- the lists of a unit
abbrev pub Lists : Type 0
Lists = List Declaration × (List Declaration × (List Declaration × List Declaration))

module _ (text : List ℕ) where
  abbrev pub TheLists : UnitKind → Lists → Front
  TheLists kind x =
      SpellsFilledList text word.VarInput x.0 ⨾ SpellsFilledList text word.VarOutput x.1.0 ⨾ SpellsOptionalList text word.Var (SpellsDeclaration text) x.1.1.0 ⨾ SpellsExternals text kind x.1.1.1

  -- a unit up to its body
  abbrev pub Heading : UnitKind → Place × (Named × Lists) → Front
  Heading kind x = At x.0 (TheWord text (unit_word kind)) ⋯ TheName text x.1.0 ⨾ SpellsResult text kind ⨾ TheLists kind x.1.1

abbrev pub heading_of : ProgramUnit → Place × (Named × Lists)
heading_of u = (u.place, (u.name, (u.inputs, (u.outputs, (u.variables, u.externals)))))

-- the same lists, with another body
lists_kept : (k : UnitKind) (u : ProgramUnit) (b : Body) → HasItsLists k u → HasItsLists k (record u { body = b })
lists_kept (unit.Function s p) u b h = h
lists_kept unit.FunctionBlock u b h = h
lists_kept unit.Program u b h = h

-- what ends a body begins no instruction
pub end_none : (k : UnitKind) → sort_at (reserved (end_word k)) ≡ none
end_none (unit.Function s p) = refl
end_none unit.FunctionBlock = refl
end_none unit.Program = refl

module _ (text : List ℕ) where
  -- a unit is a heading and a body
  pub split_unit : (u : ProgramUnit) (ts r : List Token) → SpellsUnit text u ts r → (m : List Token) × Heading text u.kind (heading_of u) ts m × SpellsBody text (end_word u.kind) u.body m r
  split_unit u ts r w =
      let a = w.1.2 in
      let b = a.2 in
      let c = b.2 in
      let d = c.2 in
      let e = d.2 in
      let f = e.2 in
      (f.0, (w.1.0, w.1.1, (a.0, a.1, (b.0, b.1, (c.0, c.1, (d.0, d.1, (e.0, e.1, f.1)))))), f.2)

  -- and a heading and a body are a unit
  pub join_unit : (u : ProgramUnit) (b : Body) (ts m r : List Token) → HasItsLists u.kind u → Heading text u.kind (heading_of u) ts m → SpellsBody text (end_word u.kind) b m r → SpellsUnit text (record u { body = b }) ts r
  join_unit u b ts m r has w body =
      let n = w.2 in
      let x = n.2 in
      let c = x.2 in
      let d = c.2 in
      let e = d.2 in
      (lists_kept u.kind u b has, (w.0, w.1, (n.0, n.1, (x.0, x.1, (c.0, c.1, (d.0, d.1, (e.0, e.1, (m, e.2, body))))))))

  lists_one : (kind : UnitKind) → IsDeterministic (TheLists text kind)
  lists_one kind =
      chain tight (filled_list_one text word.VarInput) (chain tight (filled_list_one text word.VarOutput) (chain tight (optional_list_one text word.Var (declarations_one text word.Var)) (unit_externals_one text kind)))

  function_one : Scalar → Place → IsDeterministic (λ (x : Place × (Named × ((Place × Scalar) × Lists))). Heading text (unit.Function x.1.1.0.1 x.1.1.0.0) (x.0, (x.1.0, x.1.1.1)))
  function_one s p = chain loose (place_of (word_sure text word.Function)) (chain tight (the_name_one text) (chain tight (result_one text) (lists_one (unit.Function s p))))

  block_one : IsDeterministic (Heading text unit.FunctionBlock)
  block_one = chain loose (place_of (word_sure text word.FunctionBlock)) (chain tight (the_name_one text) (behind tight nothing_sure (lists_one unit.FunctionBlock)))

  program_one : IsDeterministic (Heading text unit.Program)
  program_one = chain loose (place_of (word_sure text word.Program)) (chain tight (the_name_one text) (behind tight nothing_sure (lists_one unit.Program)))

  -- a heading begins with its word
  pub heading_lead : (kind : UnitKind) (x : Place × (Named × Lists)) (ts r : List Token) → Heading text kind x ts r → lead text ts ≡ reserved (unit_word kind)
  heading_lead kind x ts r w = word_lead text (unit_word kind) ts w.0 (at_holds text (TheWord text (unit_word kind)) x.0 ts w.0 w.1)

  -- two headings end at one place
  pub heading_sure : (k l : UnitKind) (x y : Place × (Named × Lists)) (ts r s : List Token) → Heading text k x ts r → Heading text l y ts s → (end_word k ≡ end_word l) × (r ≡ s)
  heading_sure (unit.Function a b) (unit.Function c d) x y ts r s p q =
      (refl, ((function_one a b).only (x.0, (x.1.0, ((b, a), x.1.1))) (y.0, (y.1.0, ((d, c), y.1.1))) ts r s p q).1)
  heading_sure unit.FunctionBlock unit.FunctionBlock x y ts r s p q = (refl, (block_one.only x y ts r s p q).1)
  heading_sure unit.Program unit.Program x y ts r s p q = (refl, (program_one.only x y ts r s p q).1)
  heading_sure k l x y ts r s p q = absurd (cc (heading_lead k x ts r p, heading_lead l y ts s q))

-- a heading is in alike texts
pub heading_carries : (kind : UnitKind) (x : Place × (Named × Lists)) → Carries loose (λ text. Heading text kind x)
heading_carries kind x =
    follows loose_gap loose_gap (placed x.0 (word_carries (unit_word kind))) (follows_directly (loosely (the_name_carries x.1.0)) (follows_directly (result_carries kind) (follows_directly (filled_carries word.VarInput x.1.1.0)
    (follows_directly (filled_carries word.VarOutput x.1.1.1.0) (follows_directly (optional_carries word.Var declaration_carries x.1.1.1.1.0) (unit_externals_carry kind x.1.1.1.1.1))))))
