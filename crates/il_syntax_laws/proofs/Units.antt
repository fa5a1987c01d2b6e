-- Program organization units.
use Rattle.std.proofs.Common.{◌≡◌, ℕ, List, refl, sym, ◌∙◌}
use Rattle.il_syntax.specs.declared.token.Token.{Token}
use Rattle.il_syntax.specs.declared.token.Sign.TheVariants.{Colon}
use Rattle.il_syntax.specs.declared.keyword.Keyword.TheVariants as word
use Rattle.il_syntax.specs.declared.tree.Place.{Place}
use Rattle.il_syntax.specs.declared.tree.Named.{Named}
use Rattle.il_syntax.specs.declared.tree.Scalar.{Scalar}
use Rattle.il_syntax.specs.declared.tree.Declaration.{Declaration}
use Rattle.il_syntax.specs.declared.tree.Body.{Body}
use Rattle.il_syntax.specs.declared.tree.UnitKind.{UnitKind}
use Rattle.il_syntax.specs.declared.tree.UnitKind.TheVariants as unit
use Rattle.il_syntax.specs.declared.tree.Unit.{Unit as ProgramUnit}
use Rattle.il_syntax.specs.Grammar.{Front, tight, loose, ◌⨾◌, ◌⋯◌, Nothing, At, TheWord, TheName, SpellsDeclaration, SpellsFilledList, SpellsOptionalList, SpellsNoExternals, SpellsExternals, SpellsResult, SpellsBody, SpellsUnit, unit_word, end_word}
use Rattle.il_syntax_laws.specs.One.{IsDeterministic, IsSure}
use Rattle.il_syntax_laws.proofs.Combinators.{chain, behind, after_lines, at_place, place_of}
use Rattle.il_syntax_laws.proofs.Leads.{reserved, lead, word_lead, at_holds, word_sure, the_name_one, sign_sure}
use Rattle.il_syntax_laws.proofs.Types.{scalar_one, declarations_one, externals_one, filled_list_one, optional_list_one}
use Rattle.il_syntax_laws.proofs.Bodies.{body_one}

-- the lists of a unit and its body
abbrev Inside : Type 0
Inside = List Declaration × (List Declaration × (List Declaration × (List Declaration × Body)))

-- a unit but for its kind
abbrev Parts : Type 0
Parts = Place × (Named × Inside)

-- the rest after nothing is one
pub nothing_sure : IsSure Nothing
nothing_sure = record { only = λ ts r s p q. sym p ∙ q }

module _ (text : List ℕ) where
  -- no externals are one
  pub no_externals_one : IsDeterministic (SpellsNoExternals text)
  no_externals_one = record { only = λ a b ts r s p q. (p.0 ∙ sym q.0, sym p.1.0 ∙ q.1.0) }

  -- the externals of a unit are one
  pub unit_externals_one : (kind : UnitKind) → IsDeterministic (SpellsExternals text kind)
  unit_externals_one (unit.Function result place) = no_externals_one
  unit_externals_one unit.FunctionBlock = no_externals_one
  unit_externals_one unit.Program = optional_list_one text word.VarExternal (externals_one text word.VarExternal)

  -- the result of a function
  pub result_one : IsDeterministic (λ (x : Place × Scalar). SpellsResult text (unit.Function x.1 x.0))
  result_one = after_lines (behind loose (sign_sure Colon) (at_place (scalar_one text)))

  -- a unit of a kind
  abbrev parts : UnitKind → Parts → Front
  parts kind x =
      At x.0 (TheWord text (unit_word kind)) ⋯ TheName text x.1.0 ⨾ SpellsResult text kind
      ⨾ SpellsFilledList text word.VarInput x.1.1.0 ⨾ SpellsFilledList text word.VarOutput x.1.1.1.0
      ⨾ SpellsOptionalList text word.Var (SpellsDeclaration text) x.1.1.1.1.0 ⨾ SpellsExternals text kind x.1.1.1.1.1.0
      ⨾ SpellsBody text (end_word kind) x.1.1.1.1.1.1

  -- the lists of a unit and its body are one
  inside_one : (kind : UnitKind) → IsDeterministic (λ (x : Inside).
      SpellsFilledList text word.VarInput x.0 ⨾ SpellsFilledList text word.VarOutput x.1.0
      ⨾ SpellsOptionalList text word.Var (SpellsDeclaration text) x.1.1.0 ⨾ SpellsExternals text kind x.1.1.1.0
      ⨾ SpellsBody text (end_word kind) x.1.1.1.1)
  inside_one kind =
      chain tight (filled_list_one text word.VarInput) (chain tight (filled_list_one text word.VarOutput)
      (chain tight (optional_list_one text word.Var (declarations_one text word.Var)) (chain tight (unit_externals_one kind) (body_one text kind))))

  -- a function is one
  function_one : Scalar → Place → IsDeterministic (λ (x : Place × (Named × ((Place × Scalar) × Inside))). parts (unit.Function x.1.1.0.1 x.1.1.0.0) (x.0, (x.1.0, x.1.1.1)))
  function_one result place =
      chain loose (place_of (word_sure text word.Function)) (chain tight (the_name_one text) (chain tight result_one (inside_one (unit.Function result place))))

  -- a function block is one
  block_one : IsDeterministic (parts unit.FunctionBlock)
  block_one =
      chain loose (place_of (word_sure text word.FunctionBlock)) (chain tight (the_name_one text) (behind tight nothing_sure (inside_one unit.FunctionBlock)))

  -- a program is one
  program_one : IsDeterministic (parts unit.Program)
  program_one = chain loose (place_of (word_sure text word.Program)) (chain tight (the_name_one text) (behind tight nothing_sure (inside_one unit.Program)))

  -- a unit begins with its word
  parts_lead : (kind : UnitKind) (x : Parts) (ts r : List Token) → parts kind x ts r → lead text ts ≡ reserved (unit_word kind)
  parts_lead kind x ts r p = word_lead text (unit_word kind) ts p.0 (at_holds text (TheWord text (unit_word kind)) x.0 ts p.0 p.1)

  -- a unit and its kind are one
  parts_one : (k l : UnitKind) (x y : Parts) (ts r s : List Token) → parts k x ts r → parts l y ts s → (k ≡ l) × (x ≡ y) × (r ≡ s)
  parts_one (unit.Function a b) (unit.Function c d) x y ts r s p q =
      let same = (function_one a b).only (x.0, (x.1.0, ((b, a), x.1.1))) (y.0, (y.1.0, ((d, c), y.1.1))) ts r s p q in
      (λ i. unit.Function (same.0 i).1.1.0.1 (same.0 i).1.1.0.0, λ i. ((same.0 i).0, ((same.0 i).1.0, (same.0 i).1.1.1)), same.1)
  parts_one unit.FunctionBlock unit.FunctionBlock x y ts r s p q = let same = block_one.only x y ts r s p q in (refl, same.0, same.1)
  parts_one unit.Program unit.Program x y ts r s p q = let same = program_one.only x y ts r s p q in (refl, same.0, same.1)
  parts_one k l x y ts r s p q = absurd (cc (parts_lead k x ts r p, parts_lead l y ts s q))

  -- a unit is one
  pub unit_one : IsDeterministic (SpellsUnit text)
  unit_one = record { only = go }
    where
      parts_of : ProgramUnit → Parts
      parts_of u = (u.place, (u.name, (u.inputs, (u.outputs, (u.variables, (u.externals, u.body))))))

      go : (a b : ProgramUnit) (ts r s : List Token) → SpellsUnit text a ts r → SpellsUnit text b ts s → (a ≡ b) × (r ≡ s)
      go a b ts r s p q =
          let same = parts_one a.kind b.kind (parts_of a) (parts_of b) ts r s p.1 q.1 in (
            λ i. record {
              place = (same.1 i).0;
              kind = same.0 i;
              name = (same.1 i).1.0;
              inputs = (same.1 i).1.1.0;
              outputs = (same.1 i).1.1.1.0;
              variables = (same.1 i).1.1.1.1.0;
              externals = (same.1 i).1.1.1.1.1.0;
              body = (same.1 i).1.1.1.1.1.1;
            },
            same.2,
          )

  -- a unit begins with the word of its kind
  pub unit_lead : (u : ProgramUnit) (ts r : List Token) → SpellsUnit text u ts r → lead text ts ≡ reserved (unit_word u.kind)
  unit_lead u ts r p = word_lead text (unit_word u.kind) ts p.1.0 (at_holds text (TheWord text (unit_word u.kind)) u.place ts p.1.0 p.1.1)
