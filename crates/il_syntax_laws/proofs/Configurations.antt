-- Configurations.
use Rattle.std.proofs.Common.{◌≡◌, ℕ, List, [], ◌∷◌, sym, ◌∙◌, Option, Some, None}
use Rattle.std.specs.Prelude.{ℤ, codes}
use Rattle.il_syntax.specs.declared.token.Token.{Token}
use Rattle.il_syntax.specs.declared.token.Sign.TheVariants.{Assign, Colon, Semicolon, Comma, OpenParenthesis, CloseParenthesis}
use Rattle.il_syntax.specs.declared.keyword.Keyword.TheVariants as word
use Rattle.il_syntax.specs.declared.tree.Elementary.TheVariants as elementary
use Rattle.il_syntax.specs.declared.tree.Literal.TheVariants as literal
use Rattle.il_syntax.specs.declared.tree.Place.{Place}
use Rattle.il_syntax.specs.declared.tree.Declaration.{Declaration}
use Rattle.il_syntax.specs.declared.tree.UnitKind.{UnitKind}
use Rattle.il_syntax.specs.declared.tree.UnitKind.TheVariants as unit
use Rattle.il_syntax.specs.declared.tree.Size.{Size}
use Rattle.il_syntax.specs.declared.tree.Task.{Task}
use Rattle.il_syntax.specs.declared.tree.ProgramLine.{ProgramLine}
use Rattle.il_syntax.specs.declared.tree.Config.{Config}
use Rattle.il_syntax.specs.Grammar.{tight, loose, ◌⋯◌, TheEnd, skip_line_ends, At, Repeats, TheWord, SomeName, TheText, ADecimal, ATyped, SpellsDeclaration, SpellsSize, SpellsGlobals, SpellsTask, SpellsProgramLine, SpellsSizes, SpellsResource, SpellsConfig, unit_word}
use Rattle.il_syntax_laws.specs.One.{IsDeterministic, Fixes, IsSure}
use Rattle.il_syntax_laws.proofs.Combinators.{chain, behind, before, both, through, after_lines, at_place, place_of, token, one_token, repeats, repeats_until}
use Rattle.il_syntax_laws.proofs.Leads.{reserved, lead, word_lead, at_holds, word_sure, the_name_one, sign_sure, typed_one}
use Rattle.il_syntax_laws.proofs.Types.{declaration_one, declaration_lead}
use Rattle.il_syntax_laws.proofs.Units.{unit_one, unit_lead}

-- the rest after the end is one
pub end_sure : IsSure TheEnd
end_sure = record { only = λ ts r s p q. p.1 ∙ sym q.1 }

-- the interval of a task is one
pub interval_one : IsDeterministic (λ (value : ℤ). ATyped (literal.Time value))
interval_one = through (λ v. literal.Time v) (λ a b e. cc e) typed_one

module _ (text : List ℕ) where
  -- a decimal is one
  pub decimal_one : IsDeterministic (ADecimal text)
  decimal_one = token (λ a b t p q. cc (p.0, q.0))

  -- the rest after a name that the tree leaves out is one
  pub some_name_sure : IsSure (SomeName text)
  some_name_sure = one_token _

  -- the rest after a word that is not reserved is one
  pub text_sure : (n : List ℕ) → IsSure (TheText text n)
  text_sure n = one_token _

  -- a size of the group is one
  pub size_one : (n : List ℕ) → IsDeterministic (SpellsSize text n)
  size_one n =
      through (λ s. (s.place, s.value)) (λ a b e i. record { place = (e i).0; value = (e i).1 })
      (behind loose (text_sure n) (behind loose (sign_sure Colon) (behind loose (word_sure text (word.Elementary elementary.Int))
      (behind loose (sign_sure Assign) (before loose (at_place decimal_one) (sign_sure Semicolon))))))

  -- globals that are written are one
  globals_inside : IsDeterministic (λ (x : Place × List Declaration). SpellsGlobals text (Some x.0) x.1)
  globals_inside =
      after_lines (at_place (behind loose (word_sure text word.VarGlobal) (repeats_until (declaration_one text) (word_sure text word.EndVar)
      (record { never = λ a b ts r s p q. cc (declaration_lead text a ts r p, word_lead text word.EndVar ts s q) }))))

  -- globals, and none
  not_missing : (place : Place) (ds es : List Declaration) (ts r s : List Token) → SpellsGlobals text (Some place) ds ts r → SpellsGlobals text None es ts s → ⊥
  not_missing place ds es ts r s p q =
      let found = at_holds text (TheWord text word.VarGlobal ⋯ Repeats (SpellsDeclaration text) ds (TheWord text word.EndVar)) place (skip_line_ends ts) r p in
      q.1.1 found.0 found.1

  -- globals are one, missing or not
  pub globals_one : IsDeterministic (λ (x : Option Place × List Declaration). SpellsGlobals text x.0 x.1)
  globals_one = record { only = λ x y ts r s p q. go x.0 y.0 x.1 y.1 ts r s p q }
    where
      go : (a b : Option Place) (x y : List Declaration) (ts r s : List Token) → SpellsGlobals text a x ts r → SpellsGlobals text b y ts s
          → (◌≡◌ {A = Option Place × List Declaration} (a, x) (b, y)) × (r ≡ s)
      go None None x y ts r s p q = let e = p.0 ∙ sym q.0 in (λ i. (None, e i), sym p.1.0 ∙ q.1.0)
      go None (Some b) x y ts r s p q = absurd (not_missing b y x ts s r q p)
      go (Some a) None x y ts r s p q = absurd (not_missing a x y ts r s p q)
      go (Some a) (Some b) x y ts r s p q = let same = globals_inside.only (a, x) (b, y) ts r s p q in (λ i. (Some (same.0 i).0, (same.0 i).1), same.1)

  -- a task is one
  pub task_one : IsDeterministic (SpellsTask text)
  task_one =
      through (λ t. (t.place, (t.name, (t.interval, t.priority)))) (λ a b e i. record { place = (e i).0; name = (e i).1.0; interval = (e i).1.1.0; priority = (e i).1.1.1 })
      (chain loose (place_of (word_sure text word.Task)) (chain loose (the_name_one text) (behind loose (sign_sure OpenParenthesis)
      (behind loose (word_sure text word.Interval) (behind loose (sign_sure Assign) (chain loose interval_one (behind loose (sign_sure Comma)
      (behind loose (word_sure text word.Priority) (behind loose (sign_sure Assign) (before loose decimal_one (both loose (sign_sure CloseParenthesis) (sign_sure Semicolon))))))))))))

  -- a program line is one
  pub program_line_one : IsDeterministic (SpellsProgramLine text)
  program_line_one =
      through (λ l. (l.place, (l.name, (l.task, l.program)))) (λ a b e i. record { place = (e i).0; name = (e i).1.0; task = (e i).1.1.0; program = (e i).1.1.1 })
      (chain loose (place_of (word_sure text word.Program)) (chain loose (the_name_one text) (behind loose (word_sure text word.With)
      (chain loose (the_name_one text) (behind loose (sign_sure Colon) (before loose (the_name_one text) (sign_sure Semicolon)))))))

  -- the three sizes of the group are one
  pub three_sizes_one : IsDeterministic (λ (x : Size × (Size × Size)).
      TheWord text word.VarGlobal ⋯ TheWord text word.Constant ⋯ SpellsSize text (codes "CARS") x.0 ⋯ SpellsSize text (codes "FLOORS") x.1.0
      ⋯ SpellsSize text (codes "SLOTS") x.1.1 ⋯ TheWord text word.EndVar)
  three_sizes_one =
      behind loose (word_sure text word.VarGlobal) (behind loose (word_sure text word.Constant)
      (chain loose (size_one (codes "CARS")) (chain loose (size_one (codes "FLOORS")) (before loose (size_one (codes "SLOTS")) (word_sure text word.EndVar)))))

  -- the sizes of a configuration
  pub sizes_one : Fixes {B = Size × (Size × Size)} (λ (c : Config). (c.cars, (c.floors, c.slots))) (SpellsSizes text)
  sizes_one = record { only = λ a b ts r s p q. three_sizes_one.only (a.cars, (a.floors, a.slots)) (b.cars, (b.floors, b.slots)) ts r s p q }

  -- a program line begins with its word
  pub program_line_lead : (l : ProgramLine) (ts r : List Token) → SpellsProgramLine text l ts r → lead text ts ≡ reserved word.Program
  program_line_lead l ts r p = word_lead text word.Program ts p.0 (at_holds text (TheWord text word.Program) l.place ts p.0 p.1)

  -- a task begins with its word
  pub task_lead : (t : Task) (ts r : List Token) → SpellsTask text t ts r → lead text ts ≡ reserved word.Task
  task_lead t ts r p = word_lead text word.Task ts p.0 (at_holds text (TheWord text word.Task) t.place ts p.0 p.1)

  -- the end of a resource begins with its word
  pub end_lead : (place : Place) (ts r : List Token) → At place (TheWord text word.EndResource) ts r → lead text ts ≡ reserved word.EndResource
  end_lead place ts r p = word_lead text word.EndResource ts r (at_holds text (TheWord text word.EndResource) place ts r p)

  -- the program lines of a resource and its end
  pub program_lines_one : IsDeterministic (λ (x : List ProgramLine × Place). Repeats (SpellsProgramLine text) x.0 (At x.1 (TheWord text word.EndResource)))
  program_lines_one =
      repeats program_line_one (place_of (word_sure text word.EndResource))
      (record { never = λ l e ts r s p q. cc (program_line_lead l ts r p, end_lead e ts s q) })

  -- a task, and what follows the tasks
  task_no_program : (t : Task) (ls : List ProgramLine) (e : Place) (ts r s : List Token) → SpellsTask text t ts r
      → Repeats (SpellsProgramLine text) ls (At e (TheWord text word.EndResource)) ts s → ⊥
  task_no_program t [] e ts r s p q = cc (task_lead t ts r p, end_lead e ts s q)
  task_no_program t (l ∷ ls) e ts r s p q = cc (task_lead t ts r p, program_line_lead l ts q.0 q.1)

  -- the tasks and the programs of a resource are one
  resource_parts : IsDeterministic (λ (x : List Task × (List ProgramLine × Place)).
      TheWord text word.Resource ⋯ SomeName text ⋯ TheWord text word.On ⋯ SomeName text
      ⋯ Repeats (SpellsTask text) x.0 (Repeats (SpellsProgramLine text) x.1.0 (At x.1.1 (TheWord text word.EndResource))))
  resource_parts =
      behind loose (word_sure text word.Resource) (behind loose some_name_sure (behind loose (word_sure text word.On) (behind loose some_name_sure
      (repeats task_one program_lines_one (record { never = λ t x ts r s p q. task_no_program t x.0 x.1 ts r s p q })))))

  -- the tasks and programs of a configuration
  pub resource_one : Fixes {B = List Task × (List ProgramLine × Place)} (λ (c : Config). (c.tasks, (c.programs, c.end_resource))) (SpellsResource text)
  resource_one = record { only = λ a b ts r s p q. resource_parts.only (a.tasks, (a.programs, a.end_resource)) (b.tasks, (b.programs, b.end_resource)) ts r s p q }

  -- a unit, and the configuration after the units
  unit_no_configuration : (kind : UnitKind) (ts : List Token) → lead text ts ≡ reserved (unit_word kind) → lead text ts ≡ reserved word.Configuration → ⊥
  unit_no_configuration (unit.Function result place) ts p q = cc (p, q)
  unit_no_configuration unit.FunctionBlock ts p q = cc (p, q)
  unit_no_configuration unit.Program ts p q = cc (p, q)

  -- a text with its configuration is one
  pub config_one : IsDeterministic (SpellsConfig text)
  config_one =
      through (λ c. (c.units, ((c.cars, (c.floors, c.slots)), ((c.globals_place, c.globals), (c.tasks, (c.programs, c.end_resource))))))
      (λ a b e i. record {
        units = (e i).0;
        cars = (e i).1.0.0;
        floors = (e i).1.0.1.0;
        slots = (e i).1.0.1.1;
        globals_place = (e i).1.1.0.0;
        globals = (e i).1.1.0.1;
        tasks = (e i).1.1.1.0;
        programs = (e i).1.1.1.1.0;
        end_resource = (e i).1.1.1.1.1;
      })
      (repeats (unit_one text)
      (behind loose (word_sure text word.Configuration) (behind loose some_name_sure (chain tight three_sizes_one (chain loose globals_one
      (before loose resource_parts (both loose (word_sure text word.EndConfiguration) end_sure))))))
      (record { never = λ u x ts r s p q. unit_no_configuration u.kind ts (unit_lead text u ts r p) (word_lead text word.Configuration ts q.0 q.1) }))
