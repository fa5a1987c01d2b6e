-- Literals, types, declarations and their lists.
use Rattle.std.proofs.Common.{◌≡◌, ℕ, List, [], ◌∷◌, refl, sym, ◌∙◌, inl, inr, Option, Some, None}
use Rattle.il_syntax.specs.declared.token.Token.{Token}
use Rattle.il_syntax.specs.declared.token.Sign.TheVariants.{Assign, Range, Colon, Semicolon, Comma, OpenParenthesis, CloseParenthesis, OpenBracket, CloseBracket}
use Rattle.il_syntax.specs.declared.keyword.Keyword.{Keyword}
use Rattle.il_syntax.specs.declared.keyword.Keyword.TheVariants as word
use Rattle.il_syntax.specs.declared.tree.Elementary.{Elementary}
use Rattle.il_syntax.specs.declared.tree.Literal.{Literal}
use Rattle.il_syntax.specs.declared.tree.Literal.TheVariants as literal
use Rattle.il_syntax.specs.declared.tree.Subrange.{Subrange}
use Rattle.il_syntax.specs.declared.tree.Scalar.{Scalar}
use Rattle.il_syntax.specs.declared.tree.Form.{Form as TypeForm}
use Rattle.il_syntax.specs.declared.tree.Form.TheVariants as form
use Rattle.il_syntax.specs.declared.tree.Named.{Named}
use Rattle.il_syntax.specs.declared.tree.Initial.{Initial}
use Rattle.il_syntax.specs.declared.tree.Declaration.{Declaration}
use Rattle.il_syntax.specs.Grammar.{Front, tight, loose, ◌⋯◌, AfterLines, At, Listed, TheSign, ANumber, TheWord, TheName, ALiteral, SpellsSubrange, SpellsScalar, SpellsForm, SpellsType, SpellsInitial, SpellsDeclaration, SpellsExternal, SpellsList, SpellsFilledList, SpellsOptionalList}
use Rattle.il_syntax_laws.specs.One.{IsDeterministic}
use Rattle.il_syntax_laws.proofs.Combinators.{chain, behind, before, through, after_lines, at_place, repeats_until, listed}
use Rattle.il_syntax_laws.proofs.Leads.{Lead, reserved, name, number, typed, lead, word_lead, name_lead, sign_lead, number_lead, typed_lead, the_name_lead, word_one, word_sure, name_one, the_name_one, sign_sure, number_one, typed_one}

-- what a literal begins with
abbrev pub literal_lead_of : Literal → Lead
literal_lead_of (literal.Truth truth) = reserved (word.Truth truth)
literal_lead_of (literal.Bare value) = number
literal_lead_of (literal.Whole type value) = typed
literal_lead_of (literal.Time value) = typed

-- a subrange that is written is one
pub subrange_inside_one : IsDeterministic (λ (s : Subrange). AfterLines (TheSign OpenParenthesis ⋯ ANumber s.lower ⋯ TheSign Range ⋯ ANumber s.upper ⋯ TheSign CloseParenthesis))
subrange_inside_one =
    through (λ s. (s.lower, s.upper)) (λ a b e i. record { lower = (e i).0; upper = (e i).1 })
    (after_lines (behind loose (sign_sure OpenParenthesis) (chain loose number_one (behind loose (sign_sure Range) (before loose number_one (sign_sure CloseParenthesis))))))

module _ (text : List ℕ) where
  -- a literal begins with its first token
  pub literal_lead : (l : Literal) (ts r : List Token) → ALiteral text l ts r → lead text ts ≡ literal_lead_of l
  literal_lead (literal.Truth truth) ts r p = word_lead text (word.Truth truth) ts r p
  literal_lead (literal.Bare value) ts r p = number_lead text value ts r p
  literal_lead (literal.Whole type value) ts r p = typed_lead text (literal.Whole type value) ts r p
  literal_lead (literal.Time value) ts r p = typed_lead text (literal.Time value) ts r p

  -- a literal is one
  pub literal_one : IsDeterministic (ALiteral text)
  literal_one = record { only = go }
    where
      go : (a b : Literal) (ts r s : List Token) → ALiteral text a ts r → ALiteral text b ts s → (a ≡ b) × (r ≡ s)
      go (literal.Truth a) (literal.Truth b) ts r s p q =
          let same = (word_one text).only (word.Truth a) (word.Truth b) ts r s p q in (cc same.0, same.1)
      go (literal.Bare a) (literal.Bare b) ts r s p q = let same = number_one.only a b ts r s p q in (λ i. literal.Bare (same.0 i), same.1)
      go (literal.Whole a v) (literal.Whole b w) ts r s p q = typed_one.only (literal.Whole a v) (literal.Whole b w) ts r s p q
      go (literal.Time a) (literal.Time b) ts r s p q = typed_one.only (literal.Time a) (literal.Time b) ts r s p q
      go (literal.Whole a v) (literal.Time b) ts r s p q = typed_one.only (literal.Whole a v) (literal.Time b) ts r s p q
      go (literal.Time a) (literal.Whole b w) ts r s p q = typed_one.only (literal.Time a) (literal.Whole b w) ts r s p q
      go a b ts r s p q = absurd (cc (literal_lead a ts r p, literal_lead b ts s q))

  -- a subrange is one, missing or not
  pub subrange_one : IsDeterministic (SpellsSubrange text)
  subrange_one = record { only = go }
    where
      go : (a b : Option Subrange) (ts r s : List Token) → SpellsSubrange text a ts r → SpellsSubrange text b ts s → (a ≡ b) × (r ≡ s)
      go None None ts r s p q = (refl, sym p.0 ∙ q.0)
      go None (Some b) ts r s p q = absurd (p.1 q.0 q.1)
      go (Some a) None ts r s p q = absurd (q.1 p.0 p.1)
      go (Some a) (Some b) ts r s p q = let same = subrange_inside_one.only a b ts r s p q in (λ i. Some (same.0 i), same.1)

  -- the word of an elementary type is one
  elementary_one : IsDeterministic (λ (e : Elementary). TheWord text (word.Elementary e))
  elementary_one = through (λ e. word.Elementary e) (λ a b e. cc e) (word_one text)

  -- a scalar type is one
  pub scalar_one : IsDeterministic (SpellsScalar text)
  scalar_one =
      through (λ s. (s.elementary, s.subrange)) (λ a b e i. record { elementary = (e i).0; subrange = (e i).1 })
      (chain tight elementary_one subrange_one)

  -- an array type is one
  array_one : IsDeterministic (λ (x : Subrange × Scalar). SpellsForm text (form.Array x.0 x.1))
  array_one =
      through (λ x. (x.0.lower, (x.0.upper, x.1))) (λ a b e i. (record { lower = (e i).0; upper = (e i).1.0 }, (e i).1.1))
      (behind loose (word_sure text word.Array) (behind loose (sign_sure OpenBracket) (chain loose number_one (behind loose (sign_sure Range)
      (chain loose number_one (behind loose (sign_sure CloseBracket) (behind loose (word_sure text word.Of) scalar_one)))))))

  -- a type is one
  pub form_one : IsDeterministic (SpellsForm text)
  form_one = record { only = go }
    where
      first : (a : TypeForm) → Lead
      first (form.Scalar s) = reserved (word.Elementary s.elementary)
      first (form.Array bounds element) = reserved word.Array
      first (form.Block n) = name

      begins : (a : TypeForm) (ts r : List Token) → SpellsForm text a ts r → lead text ts ≡ first a
      begins (form.Scalar s) ts r p = word_lead text (word.Elementary s.elementary) ts p.0 p.1
      begins (form.Array bounds element) ts r p = word_lead text word.Array ts p.0 p.1
      begins (form.Block n) ts r p = name_lead text n ts r p

      go : (a b : TypeForm) (ts r s : List Token) → SpellsForm text a ts r → SpellsForm text b ts s → (a ≡ b) × (r ≡ s)
      go (form.Scalar a) (form.Scalar b) ts r s p q = let same = scalar_one.only a b ts r s p q in (λ i. form.Scalar (same.0 i), same.1)
      go (form.Array a x) (form.Array b y) ts r s p q = let same = array_one.only (a, x) (b, y) ts r s p q in (λ i. form.Array (same.0 i).0 (same.0 i).1, same.1)
      go (form.Block a) (form.Block b) ts r s p q = let same = (name_one text).only a b ts r s p q in (λ i. form.Block (same.0 i), same.1)
      go a b ts r s p q = absurd (cc (begins a ts r p, begins b ts s q))

  -- a type at its place is one
  pub type_one : IsDeterministic (SpellsType text)
  type_one = through (λ t. (t.place, t.form)) (λ a b e i. record { place = (e i).0; form = (e i).1 }) (at_place form_one)

  -- an initial value that is written is one
  initial_inside_one : IsDeterministic (λ (i : Initial). TheSign Assign ⋯ At i.place (ALiteral text i.literal) ⋯ TheSign Semicolon)
  initial_inside_one =
      through (λ v. (v.place, v.literal)) (λ a b e i. record { place = (e i).0; literal = (e i).1 })
      (behind loose (sign_sure Assign) (before loose (at_place literal_one) (sign_sure Semicolon)))

  -- an initial value is one, missing or not
  pub initial_one : IsDeterministic (SpellsInitial text)
  initial_one = record { only = go }
    where
      go : (a b : Option Initial) (ts r s : List Token) → SpellsInitial text a ts r → SpellsInitial text b ts s → (a ≡ b) × (r ≡ s)
      go None None ts r s p q = (refl, (sign_sure Semicolon).only ts r s p q)
      go None (Some b) ts r s p q = absurd (cc (sign_lead text Semicolon ts r p, sign_lead text Assign ts q.0 q.1))
      go (Some a) None ts r s p q = absurd (cc (sign_lead text Semicolon ts s q, sign_lead text Assign ts p.0 p.1))
      go (Some a) (Some b) ts r s p q = let same = initial_inside_one.only a b ts r s p q in (λ i. Some (same.0 i), same.1)

  -- the names of a declaration are one
  names_one : IsDeterministic (λ (ns : List Named). Listed loose (TheName text) ns (TheSign Colon))
  names_one = listed loose (the_name_one text) (sign_sure Colon) (record { never = λ a b ts r s p q. cc (sign_lead text Colon ts r p, sign_lead text Comma ts s q) })

  -- a declaration is one
  pub declaration_one : IsDeterministic (SpellsDeclaration text)
  declaration_one =
      through (λ d. (d.names, (d.declared, d.initial))) (λ a b e i. record { names = (e i).0; declared = (e i).1.0; initial = (e i).1.1 })
      (chain loose names_one (chain loose type_one initial_one))

  -- an external declaration is one
  pub external_one : IsDeterministic (SpellsExternal text)
  external_one = record { only = λ a b ts r s p q. declaration_one.only a b ts r s p.2 q.2 }

  -- a declaration begins with a name
  pub declaration_lead : (d : Declaration) (ts r : List Token) → SpellsDeclaration text d ts r → lead text ts ≡ name
  declaration_lead d ts r p = listed_lead d.names ts p.0 p.1
    where
      listed_lead : (ns : List Named) (ts r : List Token) → Listed loose (TheName text) ns (TheSign Colon) ts r → lead text ts ≡ name
      listed_lead [] ts r p = absurd p
      listed_lead (n ∷ []) ts r p = the_name_lead text n ts p.0 p.1
      listed_lead (n ∷ other ∷ more) ts r p = the_name_lead text n ts p.0 p.1

  -- a list of declarations of one sort is one
  list_one : (k : Keyword) (P : Declaration → Front) → IsDeterministic P → ((d : Declaration) (ts r : List Token) → P d ts r → lead text ts ≡ name)
      → IsDeterministic (SpellsList text k P)
  list_one k P one begins =
      after_lines (behind loose (word_sure text k) (repeats_until one (word_sure text word.EndVar)
      (record { never = λ a b ts r s p q. cc (begins a ts r p, word_lead text word.EndVar ts s q) })))

  -- the lists of declarations
  pub declarations_one : (k : Keyword) → IsDeterministic (SpellsList text k (SpellsDeclaration text))
  declarations_one k = list_one k (SpellsDeclaration text) declaration_one declaration_lead

  -- the lists of externals
  pub externals_one : (k : Keyword) → IsDeterministic (SpellsList text k (SpellsExternal text))
  externals_one k = list_one k (SpellsExternal text) external_one (λ d ts r p. declaration_lead d ts r p.2)

  -- a list that may be missing, and is not empty, is one
  pub filled_list_one : (k : Keyword) → IsDeterministic (SpellsFilledList text k)
  filled_list_one k = record { only = go }
    where
      go : (a b : List Declaration) (ts r s : List Token) → SpellsFilledList text k a ts r → SpellsFilledList text k b ts s → (a ≡ b) × (r ≡ s)
      go [] [] ts r s p q = (refl, sym p.0 ∙ q.0)
      go [] (d ∷ ds) ts r s p q = absurd (p.1 q.0 q.1)
      go (d ∷ ds) [] ts r s p q = absurd (q.1 p.0 p.1)
      go (d ∷ ds) (e ∷ es) ts r s p q = (declarations_one k).only (d ∷ ds) (e ∷ es) ts r s p q

  -- a list that may be missing, and may be empty, is one
  pub optional_list_one : (k : Keyword) {P : Declaration → Front} → IsDeterministic (SpellsList text k P) → IsDeterministic (SpellsOptionalList text k P)
  optional_list_one k {P = P} one = record { only = go }
    where
      go : (a b : List Declaration) (ts r s : List Token) → SpellsOptionalList text k P a ts r → SpellsOptionalList text k P b ts s → (a ≡ b) × (r ≡ s)
      go a b ts r s (inl p) (inl q) = one.only a b ts r s p q
      go a b ts r s (inl p) (inr q) = absurd (q.1.1 p.0 p.1)
      go a b ts r s (inr p) (inl q) = absurd (p.1.1 q.0 q.1)
      go a b ts r s (inr p) (inr q) = (p.0 ∙ sym q.0, sym p.1.0 ∙ q.1.0)
