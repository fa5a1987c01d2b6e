-- Each part of a configuration is one, and a configuration is its parts.
use Rattle.std.specs.Prelude.{IsFalse}
use Rattle.std.specs.List.{All}
use Rattle.std.proofs.Common.{◌≡◌, ℕ, ◌≤◌, Bool, true, false, List, [], ◌∷◌, ◌++◌, length, length-append, arith, drop, codes, Option, Some, None, refl, ◌∙◌}
use Rattle.std.proofs.lemmas.List.Elements.{All-nil, All-cons, All-head, All-tail}
use Rattle.il_syntax.specs.declared.token.Token.{Token}
use Rattle.il_syntax.specs.declared.keyword.Keyword.TheVariants as word
use Rattle.il_syntax.specs.declared.tree.Place.{Place}
use Rattle.il_syntax.specs.declared.tree.Declaration.{Declaration}
use Rattle.il_syntax.specs.declared.tree.UnitKind.{UnitKind}
use Rattle.il_syntax.specs.declared.tree.UnitKind.TheVariants as unit
use Rattle.il_syntax.specs.declared.tree.Unit.{Unit as ProgramUnit}
use Rattle.il_syntax.specs.declared.tree.Size.{Size}
use Rattle.il_syntax.specs.declared.tree.Task.{Task}
use Rattle.il_syntax.specs.declared.tree.ProgramLine.{ProgramLine}
use Rattle.il_syntax.specs.declared.tree.Config.{Config}
use Rattle.il_syntax.specs.Grammar.{Front, tight, loose, skip_line_ends, ◌⨾◌, ◌⋯◌, At, No, Repeats, TheEnd, TheWord, SomeName, SpellsDeclaration, SpellsUnit, SpellsGlobals, SpellsTask, SpellsProgramLine, SpellsSizes, SpellsResource, SpellsConfig, unit_word, greatest_depth}
use Rattle.il_syntax.specs.declared.keyword.Keyword.{Keyword}
use Rattle.il_syntax_laws.specs.One.{IsDeterministic, AreApart}
use Rattle.il_syntax_laws.specs.Alike.{AreAlike, Carries, IsLocal, IsTold}
use Rattle.il_syntax_laws.proofs.Combinators.{chain, behind, through, no_one, place_of, repeats_until}
use Rattle.il_syntax_laws.proofs.Leads.{reserved, lead, word_lead, at_holds, word_sure}
use Rattle.il_syntax_laws.proofs.Units.{unit_lead}
use Rattle.il_syntax_laws.proofs.Configurations.{some_name_sure, task_one, program_line_one, program_line_lead, end_lead, three_sizes_one}
use Rattle.il_syntax_laws.proofs.Alike.{tight_gap, loose_gap, loosely, no_carries, follows, placed, repeated}
use Rattle.il_syntax_laws.proofs.Local.{word_same, word_carries, some_name_carries, task_carries, program_line_carries, size_carries}
use Rattle.load_lines.specs.Reads.{Reads, Refuses, RefusesBy, error_of}
use Rattle.load_lines.specs.declared.stop.SyntaxError.{SyntaxError}
use Rattle.load_lines.specs.Settings.{PlacedWord, SpellsThree}
use Rattle.load_lines.specs.declared.stop.Stop.{Stop}
use Rattle.load_lines.proofs.Leaves.{word_lead as begins_so, word_there, lead_alike}
use Rattle.load_lines.proofs.Chain.{Lacks, past}
use Rattle.load_tree.specs.Ahead.{RefusesAhead}
use Rattle.load_tree.specs.Bodies.{IsFewBy}
use Rattle.load_tree.specs.Units.{SpellsSmallUnit, SpellsUnitBy}
use Rattle.load_tree.specs.Refused.{Keeps}
use Rattle.load_tree.specs.Parts.{SpellsFewUnits, SpellsFewUnitsBy, SpellsConfigBy, SpellsGlobalList, SpellsSomeGlobals, SpellsTasks, SpellsPrograms, SpellsLines, SpellsResourceOf, SpellsGroup, SpellsSmallConfig}
use Rattle.load_tree.proofs.Ahead.{forget, ahead_of}
use Rattle.load_tree.proofs.UnitsByError.{kept, unit_by_one, unit_by_local}
use Rattle.load_tree.proofs.Repeated.{end_apart, end_joined, stop_apart, stop_joined}

-- the sizes, the globals and the lines of a configuration
abbrev pub Group : Type 0
Group = (Size × (Size × Size)) × (Option Place × List Declaration) × (List Task × List ProgramLine × Place)

-- a configuration of its parts
abbrev pub config : List ProgramUnit → Group → Config
config us g = record {
  units = us;
  cars = g.0.0;
  floors = g.0.1.0;
  slots = g.0.1.1;
  globals_place = g.1.0;
  globals = g.1.1;
  tasks = g.2.0;
  programs = g.2.1;
  end_resource = g.2.2;
}

-- the parts of a configuration
abbrev pub group : Config → Group
group c = ((c.cars, (c.floors, c.slots)), (c.globals_place, c.globals), (c.tasks, c.programs, c.end_resource))

-- there is room for one more
pub few_more : (full : Bool) (xs : List ProgramUnit) (x : ProgramUnit) → full ≡ false → (IsFalse full → length xs ≡ 64 → ⊥) → length xs ≤ 64 → length (xs ++ x ∷ []) ≤ 64
few_more true xs x e not_all few = absurd cc
few_more false xs x e not_all few = omega (arith, length-append xs (x ∷ []), few, not_all refl)

module _ (text : List ℕ) where
  -- no TASK line is where the tasks end
  tasks_apart : AreApart (SpellsTask text) (λ (u : Unit {0}). No (TheWord text word.Task))
  tasks_apart = record { never = λ t u ts r s p q. q.1 p.0 (at_holds text (TheWord text word.Task) t.place ts p.0 p.1) }

  pub tasks_one : IsDeterministic (SpellsTasks text)
  tasks_one = repeats_until (task_one text) (no_one _) tasks_apart

  -- no PROGRAM line is where the programs end
  programs_apart : AreApart (SpellsProgramLine text) (λ (u : Unit {0}). No (TheWord text word.Program))
  programs_apart = record { never = λ l u ts r s p q. q.1 p.0 (at_holds text (TheWord text word.Program) l.place ts p.0 p.1) }

  pub programs_one : IsDeterministic (SpellsPrograms text)
  programs_one = repeats_until (program_line_one text) (no_one _) programs_apart

  -- the lines of a resource are one
  lines_one : IsDeterministic (SpellsLines text)
  lines_one =
      through (λ x. (x.0, (x.1, x.2))) (λ a b e i. ((e i).0, (e i).1.0, (e i).1.1))
      (chain tight tasks_one (chain tight programs_one (place_of (word_sure text word.EndResource))))

  -- a resource is one
  pub resource_of_one : IsDeterministic (SpellsResourceOf text)
  resource_of_one =
      behind loose (word_sure text word.Resource) (behind loose (some_name_sure text) (behind loose (word_sure text word.On) (behind loose (some_name_sure text) lines_one)))

  -- no unit begins with CONFIGURATION
  kind_no_configuration : (k : UnitKind) (ts : List Token) → lead text ts ≡ reserved (unit_word k) → lead text ts ≡ reserved word.Configuration → ⊥
  kind_no_configuration (unit.Function s p) ts a b = cc
  kind_no_configuration unit.FunctionBlock ts a b = cc
  kind_no_configuration unit.Program ts a b = cc

  units_apart : (error : SyntaxError) → AreApart (SpellsUnitBy error text) (λ (u : Unit {0}). TheWord text word.Configuration)
  units_apart error = record { never = λ u v ts r s p q. kind_no_configuration u.kind ts (unit_lead text u ts r p.0) (word_lead text word.Configuration ts s q) }

  -- the units of a text are one
  pub few_units_one : (error : SyntaxError) → IsDeterministic (SpellsFewUnitsBy error text)
  few_units_one error = record { only = λ a b ts r s p q. (repeats_until (unit_by_one text error) (word_sure text word.Configuration) (units_apart error)).only a b ts r s p.0 q.0 }

  -- a list of globals at its place
  list_placed : (p : Place) (Q : Front) (ts r : List Token) → (PlacedWord text word.VarGlobal p ⋯ Q) ts r → At p (TheWord text word.VarGlobal ⋯ Q) ts r
  list_placed p Q [] r w = absurd w.1
  list_placed p Q (t ∷ ts) r w = (w.1.0, w.1.1, (w.0, w.1.2, w.2))

  word_placed : (p : Place) (Q : Front) (ts r : List Token) → At p (TheWord text word.VarGlobal ⋯ Q) ts r → (PlacedWord text word.VarGlobal p ⋯ Q) ts r
  word_placed p Q [] r w = absurd w
  word_placed p Q (t ∷ ts) r w = (w.2.0, (w.0, w.1, w.2.1), w.2.2)

  -- globals
  pub no_globals : (ts : List Token) → ((m : List Token) → TheWord text word.VarGlobal (skip_line_ends ts) m → ⊥) → Reads (SpellsSomeGlobals text) ts (None, []) ts
  no_globals ts none = record { found = (refl, (refl, none)) }

  pub globals_read : (ts r : List Token) (p : Place) (ds : List Declaration) → Reads (SpellsGlobalList text) ts (p, ds) r → Reads (SpellsSomeGlobals text) ts (Some p, ds) r
  globals_read ts r p ds here = record { found = list_placed p (Repeats (SpellsDeclaration text) ds (TheWord text word.EndVar)) (skip_line_ends ts) r here.found }

  -- what the program lines begin with is no TASK
  program_no_task : (ls : List ProgramLine) (p : Place) (ts r s : List Token) → Repeats (SpellsProgramLine text) ls (At p (TheWord text word.EndResource)) ts r → TheWord text word.Task ts s → ⊥
  program_no_task [] p ts r s w t =
      let a = end_lead text p ts r w in
      let b = word_lead text word.Task ts s t in
      cc
  program_no_task (l ∷ ls) p ts r s w t =
      let a = program_line_lead text l ts w.0 w.1 in
      let b = word_lead text word.Task ts s t in
      cc

  end_no_program : (p : Place) (ts r s : List Token) → At p (TheWord text word.EndResource) ts r → TheWord text word.Program ts s → ⊥
  end_no_program p ts r s w t =
      let a = end_lead text p ts r w in
      let b = word_lead text word.Program ts s t in
      cc

  -- the end of a resource
  abbrev Closing : Place → Front
  Closing p = At p (TheWord text word.EndResource)

  -- a resource is its lines
  to_resource : (c : Config) (ts r : List Token) → SpellsResource text c ts r → SpellsResourceOf text (c.tasks, c.programs, c.end_resource) ts r
  to_resource c ts r w =
      let name = w.2 in
      let on = name.2 in
      let other = on.2 in
      let t = stop_apart (SpellsTask text) (TheWord text word.Task) (Repeats (SpellsProgramLine text) c.programs (Closing c.end_resource)) (program_no_task c.programs c.end_resource) c.tasks (skip_line_ends other.0) r other.2 in
      let p = stop_apart (SpellsProgramLine text) (TheWord text word.Program) (Closing c.end_resource) (end_no_program c.end_resource) c.programs t.0 r t.2 in
      (w.0, w.1, (name.0, name.1, (on.0, on.1, (other.0, other.1, (t.0, t.1, p)))))

  from_resource : (c : Config) (ts r : List Token) → SpellsResourceOf text (c.tasks, c.programs, c.end_resource) ts r → SpellsResource text c ts r
  from_resource c ts r w =
      let name = w.2 in
      let on = name.2 in
      let other = on.2 in
      let lines = other.2 in
      let p = stop_joined (SpellsProgramLine text) (TheWord text word.Program) (Closing c.end_resource) c.programs lines.0 r lines.2 in
      let t = stop_joined (SpellsTask text) (TheWord text word.Task) (Repeats (SpellsProgramLine text) c.programs (Closing c.end_resource)) c.tasks (skip_line_ends other.0) r (lines.0, lines.1, p) in
      (w.0, w.1, (name.0, name.1, (on.0, on.1, (other.0, other.1, t))))

  -- what follows CONFIGURATION
  abbrev Behind : Config → Front
  Behind c = SomeName text ⋯ SpellsSizes text c ⨾ SpellsGlobals text c.globals_place c.globals ⋯ SpellsResource text c ⋯ TheWord text word.EndConfiguration ⋯ TheEnd

  to_group : (c : Config) (ts r : List Token) → Behind c ts r → SpellsGroup text (group c) ts r
  to_group c ts r w =
      let sizes = w.2 in
      let globals = sizes.2 in
      let rest = globals.2 in
      (w.0, w.1, (sizes.0, sizes.1, (globals.0, globals.1, (rest.0, to_resource c (skip_line_ends globals.0) rest.0 rest.1, rest.2))))

  from_group : (c : Config) (ts r : List Token) → SpellsGroup text (group c) ts r → Behind c ts r
  from_group c ts r w =
      let sizes = w.2 in
      let globals = sizes.2 in
      let rest = globals.2 in
      (w.0, w.1, (sizes.0, sizes.1, (globals.0, globals.1, (rest.0, from_resource c (skip_line_ends globals.0) rest.0 rest.1, rest.2))))

  -- how many instructions a unit has
  abbrev IsShort : ProgramUnit → Type 0
  IsShort u = length u.body.steps ≤ 4096

  -- how deep its parentheses are
  abbrev IsShallow : ProgramUnit → Type 0
  IsShallow u = greatest_depth 0 u.body.steps ≤ 16

  -- units within the limit that a fault is about
  to_by : (error : SyntaxError) (E : Front) (us : List ProgramUnit) (ts r : List Token) → All (λ (u : ProgramUnit). IsFewBy error u.body) us → Repeats (SpellsUnit text) us E ts r → Repeats (SpellsUnitBy error text) us E ts r
  to_by error E [] ts r few w = w
  to_by error E (u ∷ us) ts r few w =
      (w.0, (w.1, All-head (λ (u : ProgramUnit). IsFewBy error u.body) u us few), to_by error E us (skip_line_ends w.0) r (All-tail (λ (u : ProgramUnit). IsFewBy error u.body) u us few) w.2)

  from_small : (E : Front) (us : List ProgramUnit) (ts r : List Token) → Repeats (SpellsSmallUnit text) us E ts r → Repeats (SpellsUnit text) us E ts r
  from_small E [] ts r w = w
  from_small E (u ∷ us) ts r w = (w.0, w.1.0, from_small E us (skip_line_ends w.0) r w.2)

  -- units within the limits are units
  pub from_small_units : {us : List ProgramUnit} {ts r : List Token} → Reads (SpellsFewUnits text) ts us r → Repeats (SpellsUnit text) us (TheWord text word.Configuration) ts r
  from_small_units {us = us} {ts = ts} {r = r} here = from_small (TheWord text word.Configuration) us ts r here.found.0

  pub are_short : (E : Front) (us : List ProgramUnit) (ts r : List Token) → Repeats (SpellsSmallUnit text) us E ts r → All IsShort us
  are_short E [] ts r w = All-nil IsShort
  are_short E (u ∷ us) ts r w = All-cons IsShort u us w.1.1.0 (are_short E us (skip_line_ends w.0) r w.2)

  pub are_shallow : (E : Front) (us : List ProgramUnit) (ts r : List Token) → Repeats (SpellsSmallUnit text) us E ts r → All IsShallow us
  are_shallow E [] ts r w = All-nil IsShallow
  are_shallow E (u ∷ us) ts r w = All-cons IsShallow u us w.1.1.1 (are_shallow E us (skip_line_ends w.0) r w.2)

  -- a configuration as its units and what follows CONFIGURATION
  abbrev pub SpellsWhole : List ProgramUnit × Group → Front
  SpellsWhole x = SpellsFewUnits text x.0 ⋯ SpellsGroup text x.1

  -- the same, within the limit that a fault is about
  abbrev pub SpellsWholeBy : SyntaxError → List ProgramUnit × Group → Front
  SpellsWholeBy error x = SpellsFewUnitsBy error text x.0 ⋯ SpellsGroup text x.1

  pub to_whole : (error : SyntaxError) (c : Config) (ts r : List Token) → SpellsConfig text c ts r → Keeps error c → SpellsWholeBy error (c.units, group c) ts r
  to_whole error c ts r w keeps =
      let few = kept error c keeps in
      let split = end_apart (SpellsUnit text) (TheWord text word.Configuration) (Behind c) c.units ts r w in
      (split.0, (to_by error (TheWord text word.Configuration) c.units ts split.0 few.0 split.1, few.1), to_group c (skip_line_ends split.0) r split.2)

  -- units of any number, and what follows CONFIGURATION
  pub whole_config : (us : List ProgramUnit) (g : Group) (ts r : List Token) → (Repeats (SpellsUnit text) us (TheWord text word.Configuration) ⋯ SpellsGroup text g) ts r → SpellsConfig text (config us g) ts r
  whole_config us g ts r w =
      let c = config us g in
      end_joined (SpellsUnit text) (TheWord text word.Configuration) (Behind c) us ts r (w.0, w.1, from_group c (skip_line_ends w.0) r w.2)

  pub config_read : (ts r : List Token) (us : List ProgramUnit) (g : Group) → Reads SpellsWhole (skip_line_ends ts) (us, g) r → Reads (SpellsSmallConfig text) ts (config us g) r
  config_read ts r us g here =
      let w = here.found in
      let c = config us g in
      record {
        found = (
          end_joined (SpellsUnit text) (TheWord text word.Configuration) (Behind c) us (skip_line_ends ts) r
              (w.0, from_small (TheWord text word.Configuration) us (skip_line_ends ts) w.0 w.1.0, from_group c (skip_line_ends w.0) r w.2),
          record {
            units = w.1.1;
            instructions = are_short (TheWord text word.Configuration) us (skip_line_ends ts) w.0 w.1.0;
            nesting = are_shallow (TheWord text word.Configuration) us (skip_line_ends ts) w.0 w.1.0;
          },
        );
      }

-- what is at the front, told by a word that is missing
pub no_word_told : (k : Keyword) → IsTold (λ text. No (TheWord text k))
no_word_told k = record { still = go }
  where
    go : (text other : List ℕ) (back ts us : List Token) → AreAlike text other back ts us → ((m : List Token) → No (TheWord text k) ts m → ⊥) → (m : List Token) → No (TheWord other k) us m → ⊥
    go text other back ts us a none m w =
        none ts (refl, λ r v. w.1 (drop 1 us) (word_there other k us (lead_alike text other back ts us a ∙ begins_so text k ts r v)))

no_word_carries : (k : Keyword) → Carries tight (λ text. No (TheWord text k))
no_word_carries k = no_carries (word_same k)

pub tasks_local : IsLocal tight SpellsTasks
tasks_local = record { one = λ text. tasks_one text; carries = λ xs. repeated tight_gap (λ t. loosely (task_carries t)) (no_word_carries word.Task) xs }

pub programs_local : IsLocal tight SpellsPrograms
programs_local = record { one = λ text. programs_one text; carries = λ xs. repeated tight_gap (λ p. loosely (program_line_carries p)) (no_word_carries word.Program) xs }

pub resource_of_local : IsLocal tight SpellsResourceOf
resource_of_local = record {
  one = λ text. resource_of_one text;
  carries = λ x.
      follows loose_gap tight_gap (word_carries word.Resource) (follows loose_gap tight_gap some_name_carries (follows loose_gap tight_gap (word_carries word.On) (follows loose_gap tight_gap some_name_carries
      (follows tight_gap tight_gap (tasks_local.carries x.0) (follows tight_gap tight_gap (programs_local.carries x.1) (placed x.2 (word_carries word.EndResource)))))));
}

units_carry : (error : SyntaxError) (us : List ProgramUnit) → Carries tight (λ text. Repeats (SpellsUnitBy error text) us (TheWord text word.Configuration))
units_carry error us = repeated tight_gap (λ u. (unit_by_local error).carries u) (word_carries word.Configuration) us

pub few_units_local : (error : SyntaxError) → IsLocal tight (SpellsFewUnitsBy error)
few_units_local error = record {
  one = λ text. few_units_one text error;
  carries = λ us. record {
    ends = λ text ts m p. (units_carry error us).ends text ts m p.0;
    over = λ text other back ts vs m a p l. let f = (units_carry error us).over text other back ts vs m a p.0 l in (f.0, (f.1, p.1), f.2);
  };
}

pub three_sizes_local : IsLocal tight SpellsThree
three_sizes_local = record {
  one = λ text. three_sizes_one text;
  carries = λ x.
      follows loose_gap tight_gap (word_carries word.VarGlobal) (follows loose_gap tight_gap (word_carries word.Constant) (follows loose_gap tight_gap (size_carries (codes "CARS") x.0)
      (follows loose_gap tight_gap (size_carries (codes "FLOORS") x.1.0) (follows loose_gap tight_gap (size_carries (codes "SLOTS") x.1.1) (word_carries word.EndVar)))));
}

module _ (text : List ℕ) where
  pub globals_refused : (ts m : List Token) (e : Stop) → TheWord text word.VarGlobal (skip_line_ends ts) m → RefusesAhead SpellsGlobalList text ts e → Refuses SpellsSomeGlobals text ts e
  globals_refused ts m e there bad = forget (ahead_of (λ other us back a gone x r w.
      go other us (word_there other word.VarGlobal (skip_line_ends us) (lead_alike text other back (skip_line_ends ts) (skip_line_ends us) a ∙ begins_so text word.VarGlobal (skip_line_ends ts) m there)) gone x.0 x.1 r w) bad)
    where
      go : (other : List ℕ) (us : List Token) → TheWord other word.VarGlobal (skip_line_ends us) (drop 1 (skip_line_ends us)) → Lacks (SpellsGlobalList other) us → (o : Option Place) (ds : List Declaration) (r : List Token)
          → SpellsGlobals other o ds us r → ⊥
      go other us here gone None ds r w = w.1.1 (drop 1 (skip_line_ends us)) here
      go other us here gone (Some p) ds r w = gone (p, ds) r (word_placed other p (Repeats (SpellsDeclaration other) ds (TheWord other word.EndVar)) (skip_line_ends us) r w)

  pub config_refused : (ts : List Token) (e : Stop) → Refuses (λ text. SpellsWholeBy text (error_of e)) text (skip_line_ends ts) e → RefusesBy SpellsConfigBy text ts e
  config_refused ts e bad = past loose_gap (λ other us back a gone c r w. gone (c.units, group c) r (to_whole other (error_of e) c (skip_line_ends us) r w.0 w.1)) bad
