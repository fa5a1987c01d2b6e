-- Units and configurations: what is too many follows the tokens before a fault.
use Rattle.std.proofs.Common.{◌≡◌, ◌<◌, ◌≤◌, ℕ, zero, suc, Bool, true, false, List, [], ◌∷◌, ◌++◌, drop, length, append-nil, refl, sym, ◌∙◌, ap, subst, inl, inr, arith, Some, None}
use Rattle.std.specs.Prelude.{◌⊎◌, IsTrue, IsFalse, Option}
use Rattle.std.specs.List.{All, slice_get}
use Rattle.std.proofs.lemmas.List.Elements.{All-nil, All-cons, All-append}
use Rattle.il_syntax.specs.declared.token.Token.{Token}
use Rattle.il_syntax.specs.declared.keyword.Keyword.{Keyword}
use Rattle.il_syntax.specs.declared.keyword.Keyword.TheVariants as word
use Rattle.il_syntax.specs.declared.tree.Place.{Place}
use Rattle.il_syntax.specs.declared.tree.Named.{Named}
use Rattle.il_syntax.specs.declared.tree.Scalar.{Scalar}
use Rattle.il_syntax.specs.declared.tree.Declaration.{Declaration}
use Rattle.il_syntax.specs.declared.tree.Body.{Body}
use Rattle.il_syntax.specs.declared.tree.UnitKind.{UnitKind}
use Rattle.il_syntax.specs.declared.tree.UnitKind.TheVariants as unit
use Rattle.il_syntax.specs.declared.tree.Unit.{Unit as ProgramUnit}
use Rattle.il_syntax.specs.declared.tree.Config.{Config}
use Rattle.il_syntax.specs.Grammar.{Front, tight, loose, skip_line_ends, ◌⨾◌, ◌⋯◌, Repeats, TheWord, TheName, SpellsFilledList, unit_word}
use Rattle.il_syntax_laws.specs.Alike.{IsEndOf, IsLocal}
use Rattle.il_syntax_laws.specs.GoesOn.{IsCut, Test, always}
use Rattle.il_syntax_laws.proofs.Alike.{end_self, end_of_end, alike_self, loose_gap}
use Rattle.il_syntax_laws.proofs.Local.{the_name_local, placed_word_local, result_local, filled_list_local, optional_list_local}
use Rattle.il_syntax_laws.proofs.Open.{Opens, tight_open, loose_open, cut_end, fill_any, repeated, word_fills, unit_fills}
use Rattle.il_syntax_laws.proofs.GoesOn.{whole_or, cut_here, IsFilling, IsOpening}
use Rattle.load_lines.specs.declared.stop.SyntaxError.{SyntaxError}
use Rattle.load_lines.specs.declared.stop.SyntaxError.TheVariants.{Unexpected, TooMany}
use Rattle.load_lines.specs.declared.stop.Stop.{Stop}
use Rattle.load_lines.specs.Reads.{Reads, Refuses, RefusesBy, GoesOnNoMore, turn, error_of, fault_at}
use Rattle.load_lines.specs.Settings.{PlacedWord}
use Rattle.load_lines.proofs.Leaves.{word_lead as word_begins, word_there}
use Rattle.load_lines.proofs.ByError.{error_is}
use Rattle.load_lines.proofs.Completions.{the_name_filling, placed_word_filling}
use Rattle.load_tree.specs.Ahead.{RefusesAhead}
use Rattle.load_tree.specs.Refused.{StandsAmong, IsLateSurplus}
use Rattle.load_tree.specs.Late.{Leaves, LeavesLate, LeavesWith, AreLateUnits}
use Rattle.load_tree.specs.Bodies.{SpellsBodyBy}
use Rattle.load_tree.specs.Lists.{SpellsFull}
use Rattle.load_tree.specs.Insides.{LacksList, SpellsVariables, SpellsSomeExternals, SpellsProgramInsideBy, SpellsBlockInsideBy, SpellsFunctionInsideBy}
use Rattle.load_tree.specs.Headings.{SpellsResultAt, SpellsProgramBy, SpellsBlockBy, SpellsFunctionBy}
use Rattle.load_tree.specs.Units.{SpellsUnitBy, SpellsUnitOfBy, unit_begins}
use Rattle.load_tree.specs.Parts.{SpellsFewUnits, SpellsFewUnitsBy, SpellsGroup, SpellsConfigBy}
use Rattle.load_tree.proofs.Behind.{among_end, at_among, all_late}
use Rattle.load_tree.proofs.Cuts.{cut_back, loose_past, tight_past, one_within}
use Rattle.load_tree.proofs.Ahead.{forget, skip_end}
use Rattle.load_tree.proofs.Begun.{lead_cut}
use Rattle.load_tree.proofs.Rests.{no_list_opening, filled_opening, variables_opening, externals_opening, full_opening, result_opening, unit_by_filling}
use Rattle.load_tree.proofs.Missing.{no_list_local, full_local, some_externals_local}
use Rattle.load_tree.proofs.Shallow.{Headed}
use Rattle.load_tree.proofs.OneUnit.{program_parts, block_parts, function_parts, same_word, begins, is_other}
use Rattle.load_tree.proofs.UnitsByError.{unit_by_local, begins_so, units_by_read}
use Rattle.load_tree.proofs.Late.{Spreads, then_so, always_so, leaves_as, leaves_in, leaves_first, leaves_later, leaves_part, spreads_on, spreads_part}
use Rattle.load_tree.proofs.LateBodies.{HasCut, cut_on, body_spreads}
use Rattle.load_tree.proofs.Parts.{Group, to_whole, group, few_units_local, are_short}

-- a rule of which each value holds of cut tokens
pub opens : {A : Type 0} {P : List ℕ → A → Front} {test : Test} → IsFilling tight test P → IsOpening tight test P
opens fill = record { one = λ x. (fill.one x).opens }

-- LISTS BEFORE A BODY

module _ {A B : Type 0} {P : List ℕ → A → Front} {C : List Token → B → Type 0} {text : List ℕ} {ts : List Token} {e : Stop} {first : Test} where
  -- one isn't there
  pub ahead_first : (f : B → A) (Q : List ℕ → B → Front) → IsOpening loose first P → Spreads loose C Q → RefusesAhead P text ts e → LeavesLate C (λ text b. P text (f b) ⨾ Q text b) text ts e
  ahead_first f Q one spreads bad = leaves_first f tight loose Q loose_open (λ k. end_self (skip_line_ends k)) one spreads (forget bad)

  -- one does
  pub ahead_later : {m : List Token} {x : A} (f : B → A) (Q : List ℕ → B → Front) → IsOpening loose first P → IsLocal loose P → Spreads loose C Q → Reads (P text) ts x m → LeavesLate C Q text m e
      → LeavesLate C (λ text b. P text (f b) ⨾ Q text b) text ts e
  ahead_later f Q one here_one spreads here bad = leaves_later f tight loose Q loose_open tight_open loose_gap (λ k. end_self (skip_line_ends k)) tight_past one here_one.one spreads here.found bad

  -- a name, or what else looks no further, and what follows directly
  pub name_first : (f : B → A) (Q : List ℕ → B → Front) → IsOpening tight first P → Spreads loose C Q → Refuses P text ts e → LeavesLate C (λ text b. P text (f b) ⨾ Q text b) text ts e
  name_first f Q one spreads bad = leaves_first f tight loose Q tight_open (λ k. loose_gap.ends k) one spreads bad

  pub name_later : {m : List Token} {x : A} (f : B → A) (Q : List ℕ → B → Front) → IsOpening tight first P → IsLocal tight P → Spreads loose C Q → Reads (P text) ts x m → LeavesLate C Q text m e
      → LeavesLate C (λ text b. P text (f b) ⨾ Q text b) text ts e
  name_later f Q one here_one spreads here bad = leaves_later f tight loose Q tight_open tight_open loose_gap (λ k. loose_gap.ends k) tight_past one here_one.one spreads here.found bad

  -- a word, and what follows after line ends
  pub word_first : (f : B → A) (Q : List ℕ → B → Front) → IsOpening tight first P → Spreads loose C Q → Refuses P text ts e → LeavesLate C (λ text b. P text (f b) ⋯ Q text b) text ts e
  word_first f Q one spreads bad = leaves_first f loose loose Q tight_open (λ k. end_of_end (skip_line_ends (skip_line_ends k)) (skip_line_ends k) k (loose_gap.ends k) (loose_gap.ends (skip_line_ends k))) one spreads bad

  pub word_later : {m : List Token} {x : A} (f : B → A) (Q : List ℕ → B → Front) → IsOpening tight first P → IsLocal tight P → Spreads loose C Q → Reads (P text) ts x m → LeavesLate C Q text (skip_line_ends m) e
      → LeavesLate C (λ text b. P text (f b) ⋯ Q text b) text ts e
  word_later f Q one here_one spreads here bad =
      leaves_later f loose loose Q tight_open loose_open loose_gap (λ k. end_of_end (skip_line_ends (skip_line_ends k)) (skip_line_ends k) k (loose_gap.ends k) (loose_gap.ends (skip_line_ends k))) loose_past one here_one.one spreads here.found bad

-- after a name, or what else looks no further, what spreads does
pub spreads_behind : {A B : Type 0} {P : List ℕ → A → Front} {C : List Token → B → Type 0} {first : Test} (f : B → A) (Q : List ℕ → B → Front) → IsOpening tight first P → Spreads loose C Q
    → Spreads loose C (λ text b. P text (f b) ⋯ Q text b)
spreads_behind f Q one q = record {
  all = λ other us vs rest x w end.
      q.all other (skip_line_ends w.0) vs rest x w.2
      (end_of_end (skip_line_ends (skip_line_ends w.0)) (skip_line_ends w.0) vs (end_of_end (skip_line_ends w.0) (skip_line_ends us) vs end (skip_end w.0 us ((one.one (f x)).ends other us w.0 w.1))) (loose_gap.ends (skip_line_ends w.0)));
}

-- WHAT STANDS BEHIND A HEADING

-- a program, after each of its lists
abbrev Program1 : List ℕ → List Declaration × List Declaration × Body → Front
Program1 text b = LacksList text word.VarOutput ⨾ SpellsVariables text b.0 ⨾ SpellsSomeExternals text b.1 ⨾ SpellsBodyBy word.EndProgram Unexpected text b.2

abbrev Program2 : List ℕ → List Declaration × List Declaration × Body → Front
Program2 text b = SpellsVariables text b.0 ⨾ SpellsSomeExternals text b.1 ⨾ SpellsBodyBy word.EndProgram Unexpected text b.2

abbrev Program3 : List ℕ → List Declaration × List Declaration × Body → Front
Program3 text b = SpellsSomeExternals text b.1 ⨾ SpellsBodyBy word.EndProgram Unexpected text b.2

abbrev Program4 : List ℕ → List Declaration × List Declaration × Body → Front
Program4 text b = SpellsBodyBy word.EndProgram Unexpected text b.2

abbrev OfThree : List Token → List Declaration × List Declaration × Body → Type 0
OfThree vs x = IsLateSurplus vs x.2.steps

program4 : Spreads loose OfThree Program4
program4 = spreads_part (λ x. x.2) (body_spreads word.EndProgram)

program3 : Spreads loose OfThree Program3
program3 = spreads_on (λ x. x.1) Program4 externals_opening program4

program2 : Spreads loose OfThree Program2
program2 = spreads_on (λ x. x.0) Program3 variables_opening program3

program1 : Spreads loose OfThree Program1
program1 = spreads_on (λ x. tt) Program2 (no_list_opening word.VarOutput) program2

pub program_spreads : Spreads loose OfThree (SpellsProgramInsideBy Unexpected)
program_spreads = spreads_on (λ x. tt) Program1 (no_list_opening word.VarInput) program1

module _ {text : List ℕ} {ts : List Token} {e : Stop} where
  pub program_first : RefusesAhead (λ text (u : Unit {0}). LacksList text word.VarInput) text ts e → LeavesLate OfThree (SpellsProgramInsideBy Unexpected) text ts e
  program_first bad = ahead_first (λ x. tt) Program1 (no_list_opening word.VarInput) program1 bad

  pub program_second : RefusesAhead (λ text (u : Unit {0}). LacksList text word.VarOutput) text ts e → LeavesLate OfThree Program1 text ts e
  program_second bad = ahead_first (λ x. tt) Program2 (no_list_opening word.VarOutput) program2 bad

  pub program_third : RefusesAhead SpellsVariables text ts e → LeavesLate OfThree Program2 text ts e
  program_third bad = ahead_first (λ x. x.0) Program3 variables_opening program3 bad

  pub program_fourth : RefusesAhead SpellsSomeExternals text ts e → LeavesLate OfThree Program3 text ts e
  program_fourth bad = ahead_first (λ x. x.1) Program4 externals_opening program4 bad

  pub program_body : LeavesWith (λ b. b) (SpellsBodyBy word.EndProgram Unexpected) text ts e → LeavesLate OfThree Program4 text ts e
  program_body bad = leaves_part (λ x. x.2) bad

  pub past_inputs : {m : List Token} → Reads (λ (u : Unit {0}). LacksList text word.VarInput) ts tt m → LeavesLate OfThree Program1 text m e → LeavesLate OfThree (SpellsProgramInsideBy Unexpected) text ts e
  past_inputs here bad = ahead_later (λ x. tt) Program1 (no_list_opening word.VarInput) (no_list_local word.VarInput) program1 here bad

  pub past_outputs : {m : List Token} → Reads (λ (u : Unit {0}). LacksList text word.VarOutput) ts tt m → LeavesLate OfThree Program2 text m e → LeavesLate OfThree Program1 text ts e
  past_outputs here bad = ahead_later (λ x. tt) Program2 (no_list_opening word.VarOutput) (no_list_local word.VarOutput) program2 here bad

  pub past_variables : {m : List Token} {vs : List Declaration} → Reads (SpellsVariables text) ts vs m → LeavesLate OfThree Program3 text m e → LeavesLate OfThree Program2 text ts e
  past_variables here bad = ahead_later (λ x. x.0) Program3 variables_opening (optional_list_local word.Var) program3 here bad

  pub past_externals : {m : List Token} {es : List Declaration} → Reads (SpellsSomeExternals text) ts es m → LeavesLate OfThree Program4 text m e → LeavesLate OfThree Program3 text ts e
  past_externals here bad = ahead_later (λ x. x.1) Program4 externals_opening some_externals_local program4 here bad

-- a function block
abbrev Block1 : List ℕ → List Declaration × List Declaration × List Declaration × Body → Front
Block1 text b = SpellsFilledList text word.VarOutput b.1 ⨾ SpellsVariables text b.2 ⨾ LacksList text word.VarExternal ⨾ SpellsBodyBy word.EndFunctionBlock Unexpected text b.3

abbrev Block2 : List ℕ → List Declaration × List Declaration × List Declaration × Body → Front
Block2 text b = SpellsVariables text b.2 ⨾ LacksList text word.VarExternal ⨾ SpellsBodyBy word.EndFunctionBlock Unexpected text b.3

abbrev Block3 : List ℕ → List Declaration × List Declaration × List Declaration × Body → Front
Block3 text b = LacksList text word.VarExternal ⨾ SpellsBodyBy word.EndFunctionBlock Unexpected text b.3

abbrev Block4 : List ℕ → List Declaration × List Declaration × List Declaration × Body → Front
Block4 text b = SpellsBodyBy word.EndFunctionBlock Unexpected text b.3

abbrev OfFour : List Token → List Declaration × List Declaration × List Declaration × Body → Type 0
OfFour vs x = IsLateSurplus vs x.3.steps

block4 : Spreads loose OfFour Block4
block4 = spreads_part (λ x. x.3) (body_spreads word.EndFunctionBlock)

block3 : Spreads loose OfFour Block3
block3 = spreads_on (λ x. tt) Block4 (no_list_opening word.VarExternal) block4

block2 : Spreads loose OfFour Block2
block2 = spreads_on (λ x. x.2) Block3 variables_opening block3

block1 : Spreads loose OfFour Block1
block1 = spreads_on (λ x. x.1) Block2 (filled_opening word.VarOutput) block2

pub block_spreads : Spreads loose OfFour (SpellsBlockInsideBy Unexpected)
block_spreads = spreads_on (λ x. x.0) Block1 (filled_opening word.VarInput) block1

module _ {text : List ℕ} {ts : List Token} {e : Stop} where
  pub block_first : RefusesAhead (λ text. SpellsFilledList text word.VarInput) text ts e → LeavesLate OfFour (SpellsBlockInsideBy Unexpected) text ts e
  block_first bad = ahead_first (λ x. x.0) Block1 (filled_opening word.VarInput) block1 bad

  pub block_second : RefusesAhead (λ text. SpellsFilledList text word.VarOutput) text ts e → LeavesLate OfFour Block1 text ts e
  block_second bad = ahead_first (λ x. x.1) Block2 (filled_opening word.VarOutput) block2 bad

  pub block_third : RefusesAhead SpellsVariables text ts e → LeavesLate OfFour Block2 text ts e
  block_third bad = ahead_first (λ x. x.2) Block3 variables_opening block3 bad

  pub block_fourth : RefusesAhead (λ text (u : Unit {0}). LacksList text word.VarExternal) text ts e → LeavesLate OfFour Block3 text ts e
  block_fourth bad = ahead_first (λ x. tt) Block4 (no_list_opening word.VarExternal) block4 bad

  pub block_body : LeavesWith (λ b. b) (SpellsBodyBy word.EndFunctionBlock Unexpected) text ts e → LeavesLate OfFour Block4 text ts e
  block_body bad = leaves_part (λ x. x.3) bad

  pub block_inputs : {m : List Token} {ds : List Declaration} → Reads (SpellsFilledList text word.VarInput) ts ds m → LeavesLate OfFour Block1 text m e → LeavesLate OfFour (SpellsBlockInsideBy Unexpected) text ts e
  block_inputs here bad = ahead_later (λ x. x.0) Block1 (filled_opening word.VarInput) (filled_list_local word.VarInput) block1 here bad

  pub block_outputs : {m : List Token} {ds : List Declaration} → Reads (SpellsFilledList text word.VarOutput) ts ds m → LeavesLate OfFour Block2 text m e → LeavesLate OfFour Block1 text ts e
  block_outputs here bad = ahead_later (λ x. x.1) Block2 (filled_opening word.VarOutput) (filled_list_local word.VarOutput) block2 here bad

  pub block_variables : {m : List Token} {ds : List Declaration} → Reads (SpellsVariables text) ts ds m → LeavesLate OfFour Block3 text m e → LeavesLate OfFour Block2 text ts e
  block_variables here bad = ahead_later (λ x. x.2) Block3 variables_opening (optional_list_local word.Var) block3 here bad

  pub block_externals : {m : List Token} → Reads (λ (u : Unit {0}). LacksList text word.VarExternal) ts tt m → LeavesLate OfFour Block4 text m e → LeavesLate OfFour Block3 text ts e
  block_externals here bad = ahead_later (λ x. tt) Block4 (no_list_opening word.VarExternal) (no_list_local word.VarExternal) block4 here bad

-- a function
abbrev Function1 : List ℕ → List Declaration × List Declaration × Body → Front
Function1 text b = LacksList text word.VarOutput ⨾ SpellsVariables text b.1 ⨾ LacksList text word.VarExternal ⨾ SpellsBodyBy word.EndFunction Unexpected text b.2

abbrev Function2 : List ℕ → List Declaration × List Declaration × Body → Front
Function2 text b = SpellsVariables text b.1 ⨾ LacksList text word.VarExternal ⨾ SpellsBodyBy word.EndFunction Unexpected text b.2

abbrev Function3 : List ℕ → List Declaration × List Declaration × Body → Front
Function3 text b = LacksList text word.VarExternal ⨾ SpellsBodyBy word.EndFunction Unexpected text b.2

abbrev Function4 : List ℕ → List Declaration × List Declaration × Body → Front
Function4 text b = SpellsBodyBy word.EndFunction Unexpected text b.2

function4 : Spreads loose OfThree Function4
function4 = spreads_part (λ x. x.2) (body_spreads word.EndFunction)

function3 : Spreads loose OfThree Function3
function3 = spreads_on (λ x. tt) Function4 (no_list_opening word.VarExternal) function4

function2 : Spreads loose OfThree Function2
function2 = spreads_on (λ x. x.1) Function3 variables_opening function3

function1 : Spreads loose OfThree Function1
function1 = spreads_on (λ x. tt) Function2 (no_list_opening word.VarOutput) function2

pub function_spreads : Spreads loose OfThree (SpellsFunctionInsideBy Unexpected)
function_spreads = spreads_on (λ x. x.0) Function1 (full_opening word.VarInput) function1

module _ {text : List ℕ} {ts : List Token} {e : Stop} where
  pub function_first : RefusesAhead (λ text. SpellsFull text word.VarInput) text ts e → LeavesLate OfThree (SpellsFunctionInsideBy Unexpected) text ts e
  function_first bad = ahead_first (λ x. x.0) Function1 (full_opening word.VarInput) function1 bad

  pub function_second : RefusesAhead (λ text (u : Unit {0}). LacksList text word.VarOutput) text ts e → LeavesLate OfThree Function1 text ts e
  function_second bad = ahead_first (λ x. tt) Function2 (no_list_opening word.VarOutput) function2 bad

  pub function_third : RefusesAhead SpellsVariables text ts e → LeavesLate OfThree Function2 text ts e
  function_third bad = ahead_first (λ x. x.1) Function3 variables_opening function3 bad

  pub function_fourth : RefusesAhead (λ text (u : Unit {0}). LacksList text word.VarExternal) text ts e → LeavesLate OfThree Function3 text ts e
  function_fourth bad = ahead_first (λ x. tt) Function4 (no_list_opening word.VarExternal) function4 bad

  pub function_body : LeavesWith (λ b. b) (SpellsBodyBy word.EndFunction Unexpected) text ts e → LeavesLate OfThree Function4 text ts e
  function_body bad = leaves_part (λ x. x.2) bad

  pub function_inputs : {m : List Token} {ds : List Declaration} → Reads (SpellsFull text word.VarInput) ts ds m → LeavesLate OfThree Function1 text m e → LeavesLate OfThree (SpellsFunctionInsideBy Unexpected) text ts e
  function_inputs here bad = ahead_later (λ x. x.0) Function1 (full_opening word.VarInput) (full_local word.VarInput) function1 here bad

  pub function_outputs : {m : List Token} → Reads (λ (u : Unit {0}). LacksList text word.VarOutput) ts tt m → LeavesLate OfThree Function2 text m e → LeavesLate OfThree Function1 text ts e
  function_outputs here bad = ahead_later (λ x. tt) Function2 (no_list_opening word.VarOutput) (no_list_local word.VarOutput) function2 here bad

  pub function_variables : {m : List Token} {ds : List Declaration} → Reads (SpellsVariables text) ts ds m → LeavesLate OfThree Function3 text m e → LeavesLate OfThree Function2 text ts e
  function_variables here bad = ahead_later (λ x. x.1) Function3 variables_opening (optional_list_local word.Var) function3 here bad

  pub function_externals : {m : List Token} → Reads (λ (u : Unit {0}). LacksList text word.VarExternal) ts tt m → LeavesLate OfThree Function4 text m e → LeavesLate OfThree Function3 text ts e
  function_externals here bad = ahead_later (λ x. tt) Function4 (no_list_opening word.VarExternal) (no_list_local word.VarExternal) function4 here bad

-- HEADINGS

module _ {A : Type 0} (k : Keyword) (Q : List ℕ → A → Front) (body : A → Body) (q : Spreads loose (λ vs x. IsLateSurplus vs (body x).steps) Q) where
  inside_spreads : Spreads loose (λ vs (x : Place × (Named × A)). IsLateSurplus vs (body x.1.1).steps) (λ text x. Q text x.1.1)
  inside_spreads = spreads_part (λ x. x.1.1) q

  named_spreads : Spreads loose (λ vs (x : Place × (Named × A)). IsLateSurplus vs (body x.1.1).steps) (λ text x. TheName text x.1.0 ⨾ Q text x.1.1)
  named_spreads = spreads_on (λ x. x.1.0) (λ text x. Q text x.1.1) (opens the_name_filling) inside_spreads

  pub headed_spreads : Spreads loose (λ vs (x : Place × (Named × A)). IsLateSurplus vs (body x.1.1).steps) (Headed k Q)
  headed_spreads = spreads_behind (λ x. x.0) (λ text x. TheName text x.1.0 ⨾ Q text x.1.1) (opens (placed_word_filling k)) named_spreads

  module _ {text : List ℕ} {ts : List Token} {e : Stop} where
    pub late_place : Refuses (λ text. PlacedWord text k) text ts e → LeavesWith (λ x. body x.1.1) (Headed k Q) text ts e
    late_place bad = word_first (λ x. x.0) (λ text x. TheName text x.1.0 ⨾ Q text x.1.1) (opens (placed_word_filling k)) named_spreads bad

    pub late_name : {m : List Token} {p : Place} → Reads (PlacedWord text k) ts p m → Refuses (λ text. TheName text) text (skip_line_ends m) e → LeavesWith (λ x. body x.1.1) (Headed k Q) text ts e
    late_name here bad =
        word_later (λ x. x.0) (λ text x. TheName text x.1.0 ⨾ Q text x.1.1) (opens (placed_word_filling k)) (placed_word_local k) named_spreads here
        (name_first (λ x. x.1.0) (λ text x. Q text x.1.1) (opens the_name_filling) inside_spreads bad)

    pub late_inside : {m n : List Token} {p : Place} {name : Named} → Reads (PlacedWord text k) ts p m → Reads (TheName text) (skip_line_ends m) name n → LeavesWith body Q text n e → LeavesWith (λ x. body x.1.1) (Headed k Q) text ts e
    late_inside here named bad =
        word_later (λ x. x.0) (λ text x. TheName text x.1.0 ⨾ Q text x.1.1) (opens (placed_word_filling k)) (placed_word_local k) named_spreads here
        (name_later (λ x. x.1.0) (λ text x. Q text x.1.1) (opens the_name_filling) the_name_local inside_spreads named (leaves_part (λ x. x.1.1) bad))

-- a result, and what follows it
abbrev pub ResultInside : List ℕ → (Place × Scalar) × (List Declaration × List Declaration × Body) → Front
ResultInside text y = SpellsResultAt text y.0 ⨾ SpellsFunctionInsideBy Unexpected text y.1

pub result_spreads : Spreads loose (λ vs (y : (Place × Scalar) × (List Declaration × List Declaration × Body)). IsLateSurplus vs y.1.2.steps) ResultInside
result_spreads = spreads_on (λ y. y.0) (λ text y. SpellsFunctionInsideBy Unexpected text y.1) result_opening (spreads_part (λ y. y.1) function_spreads)

module _ {text : List ℕ} {ts : List Token} {e : Stop} where
  pub late_result : Refuses SpellsResultAt text ts e → LeavesWith (λ (y : (Place × Scalar) × (List Declaration × List Declaration × Body)). y.1.2) ResultInside text ts e
  late_result bad = leaves_first (λ y. y.0) tight loose (λ text y. SpellsFunctionInsideBy Unexpected text y.1) loose_open (λ k. end_self (skip_line_ends k)) result_opening (spreads_part (λ y. y.1) function_spreads) bad

  pub behind_result : {m : List Token} {x : Place × Scalar} → Reads (SpellsResultAt text) ts x m → LeavesWith (λ x. x.2) (SpellsFunctionInsideBy Unexpected) text m e
      → LeavesWith (λ (y : (Place × Scalar) × (List Declaration × List Declaration × Body)). y.1.2) ResultInside text ts e
  behind_result here bad =
      ahead_later (λ y. y.0) (λ text y. SpellsFunctionInsideBy Unexpected text y.1) result_opening result_local (spreads_part (λ y. y.1) function_spreads) here (leaves_part (λ y. y.1) bad)

-- UNITS

module _ {text : List ℕ} {ts : List Token} {e : Stop} where
  pub program_late : LeavesWith (λ x. x.2.2) (SpellsProgramBy Unexpected) text ts e → LeavesWith (λ u. u.body) (SpellsUnitOfBy word.Program Unexpected) text ts e
  program_late bad =
      leaves_as {Q = SpellsUnitOfBy word.Program Unexpected} (λ u. (u.place, u.name, (u.variables, u.externals, u.body)))
      (λ u other us r w. program_parts other Unexpected u.kind u.place u.name u.inputs u.outputs u.variables u.externals u.body us r w) (λ vs u h. h) bad

  pub block_late : LeavesWith (λ x. x.2.3) (SpellsBlockBy Unexpected) text ts e → LeavesWith (λ u. u.body) (SpellsUnitOfBy word.FunctionBlock Unexpected) text ts e
  block_late bad =
      leaves_as {Q = SpellsUnitOfBy word.FunctionBlock Unexpected} (λ u. (u.place, u.name, (u.inputs, u.outputs, u.variables, u.body)))
      (λ u other us r w. block_parts other Unexpected u.kind u.place u.name u.inputs u.outputs u.variables u.externals u.body us r w) (λ vs u h. h) bad

  pub function_late : LeavesWith (λ x. x.3.2) (SpellsFunctionBy Unexpected) text ts e → LeavesWith (λ u. u.body) (SpellsUnitOfBy word.Function Unexpected) text ts e
  function_late bad = record {
    fault = λ is.
        let b = bad.fault is in (
          b.0,
          b.1,
          b.2,
          b.3,
          then_so b.0 (λ k leaves other us vs rest c u w.
              let x = function_parts other Unexpected u.kind u.place u.name u.inputs u.outputs u.variables u.externals u.body us rest w in
              leaves other us vs rest c (u.place, u.name, x.0, (u.inputs, u.variables, u.body)) x.1) b.4,
        );
  }

program_all : Spreads loose (λ vs (x : Place × Named × (List Declaration × List Declaration × Body)). IsLateSurplus vs x.2.2.steps) (SpellsProgramBy Unexpected)
program_all = record { all = λ other us vs rest x w end. (headed_spreads word.Program (SpellsProgramInsideBy Unexpected) (λ x. x.2) program_spreads).all other us vs rest (x.0, (x.1, x.2)) w end }

block_all : Spreads loose (λ vs (x : Place × Named × (List Declaration × List Declaration × List Declaration × Body)). IsLateSurplus vs x.2.3.steps) (SpellsBlockBy Unexpected)
block_all = record { all = λ other us vs rest x w end. (headed_spreads word.FunctionBlock (SpellsBlockInsideBy Unexpected) (λ x. x.3) block_spreads).all other us vs rest (x.0, (x.1, x.2)) w end }

function_all : Spreads loose (λ vs (x : Place × Named × (Place × Scalar) × (List Declaration × List Declaration × Body)). IsLateSurplus vs x.3.2.steps) (SpellsFunctionBy Unexpected)
function_all = record { all = λ other us vs rest x w end. (headed_spreads word.Function ResultInside (λ y. y.1.2) result_spreads).all other us vs rest (x.0, (x.1, (x.2, x.3))) w end }

-- a unit that is wholly after the cut
pub unit_spreads : Spreads loose (λ vs (u : ProgramUnit). IsLateSurplus vs u.body.steps) (SpellsUnitBy Unexpected)
unit_spreads = record { all = λ other us vs rest u w end. go other us vs rest u w end u.kind refl }
  where
    go : (other : List ℕ) (us vs rest : List Token) (u : ProgramUnit) → SpellsUnitBy Unexpected other u us rest → IsEndOf (skip_line_ends us) vs → (k : UnitKind) → u.kind ≡ k → IsLateSurplus vs u.body.steps
    go other us vs rest u w end unit.Program is =
        program_all.all other us vs rest (u.place, u.name, (u.variables, u.externals, u.body))
        (program_parts other Unexpected u.kind u.place u.name u.inputs u.outputs u.variables u.externals u.body us rest (ap unit_word is, w)) end
    go other us vs rest u w end unit.FunctionBlock is =
        block_all.all other us vs rest (u.place, u.name, (u.inputs, u.outputs, u.variables, u.body))
        (block_parts other Unexpected u.kind u.place u.name u.inputs u.outputs u.variables u.externals u.body us rest (ap unit_word is, w)) end
    go other us vs rest u w end (unit.Function s q) is =
        let x = function_parts other Unexpected u.kind u.place u.name u.inputs u.outputs u.variables u.externals u.body us rest (ap unit_word is, w) in
        function_all.all other us vs rest (u.place, u.name, x.0, (u.inputs, u.variables, u.body)) x.1 end

-- at the edge of a cut a unit is wholly after it
module _ {text : List ℕ} {ts : List Token} {e : Stop} where
  of_kind : (k : Keyword) → ((other : List ℕ) (at us vs : List Token) → IsCut text other at ts us vs → length at < length ts → (u : ProgramUnit) (r : List Token) → SpellsUnitBy Unexpected other u us r → unit_word u.kind ≡ k)
      → LeavesWith (λ u. u.body) (SpellsUnitOfBy k Unexpected) text ts e → LeavesWith (λ u. u.body) (SpellsUnitBy Unexpected) text ts e
  of_kind k same bad = record {
    fault = λ is.
        let b = bad.fault is in
        (b.0, b.1, b.2, b.3, then_so b.0 (λ q leaves other us vs rest c u w. go b.1 leaves other us vs rest c u w (whole_or b.1 ts b.3)) b.4);
  }
    where
      go : (at : List Token) → Leaves (λ vs u. IsLateSurplus vs u.body.steps) (SpellsUnitOfBy k Unexpected) text ts at → (other : List ℕ) (us vs rest : List Token) → IsCut text other at ts us vs → (u : ProgramUnit)
          → SpellsUnitBy Unexpected other u us rest → ((at ≡ ts) ⊎ (length at < length ts)) → IsLateSurplus vs u.body.steps
      go at leaves other us vs rest c u w (inl edge) = unit_spreads.all other us vs rest u w (subst (λ x. IsEndOf (skip_line_ends us) x) (cut_here text other at ts us vs c edge) (loose_gap.ends us))
      go at leaves other us vs rest c u w (inr less) = leaves other us vs rest c u (same other at us vs c less u rest w, w)

  -- after the word of a kind
  pub unit_late : (k : Keyword) (m : List Token) → TheWord text k ts m → LeavesWith (λ u. u.body) (SpellsUnitOfBy k Unexpected) text ts e → LeavesWith (λ u. u.body) (SpellsUnitBy Unexpected) text ts e
  unit_late k m word bad =
      of_kind k (λ other at us vs c less u r w. same_word other k u us (drop 1 us) r (word_there other k us (lead_cut text other at ts us vs c less ∙ word_begins text k ts m word)) w.0) bad

  -- and where no other is
  pub other_late : ((m : List Token) → TheWord text word.Program ts m → ⊥) → ((m : List Token) → TheWord text word.FunctionBlock ts m → ⊥) → LeavesWith (λ u. u.body) (SpellsUnitOfBy word.Function Unexpected) text ts e
      → LeavesWith (λ u. u.body) (SpellsUnitBy Unexpected) text ts e
  other_late p b bad =
      of_kind word.Function (λ other at us vs c less u r w.
      let first = begins other u us r w.0 in
      let not_there : (k : Keyword) → ((m : List Token) → TheWord text k ts m → ⊥) → (m : List Token) → TheWord other k us m → ⊥ =
      λ k out m v. out (drop 1 ts) (word_there text k ts (sym (lead_cut text other at ts us vs c less) ∙ word_begins other k us m v)) in
      is_other other u.kind us (not_there word.Program p) (not_there word.FunctionBlock b) first.0 first.1) bad

-- MANY UNITS

-- units that are there, with the 4097th instruction of each
abbrev AllLate : List Token → List ProgramUnit → Type 0
AllLate vs [] = Unit {0}
AllLate vs (u ∷ us) = (StandsAmong vs u.place × IsLateSurplus vs u.body.steps) × AllLate vs us

-- of these the first may be before the cut if there is room for it
abbrev FirstLate : Bool → List Token → List ProgramUnit → Type 0
FirstLate full vs [] = Unit {0}
FirstLate full vs (u ∷ us) = ((IsTrue full → StandsAmong vs u.place) × IsLateSurplus vs u.body.steps) × AllLate vs us

abbrev UnitOf : (ProgramUnit → Type 0) → Option ProgramUnit → Type 0
UnitOf P None = Unit {0}
UnitOf P (Some u) = P u

each_unit : (vs : List Token) (us : List ProgramUnit) (n : ℕ) → AllLate vs us → (u : ProgramUnit) → slice_get us n ≡ Some u → StandsAmong vs u.place
each_unit vs [] zero w u e = absurd cc
each_unit vs [] (suc n) w u e = absurd cc
each_unit vs (x ∷ xs) zero w u e = subst (UnitOf (λ z. StandsAmong vs z.place)) e w.0.0
each_unit vs (x ∷ xs) (suc n) w u e = each_unit vs xs n w.1 u e

units_behind : (full : Bool) (vs : List Token) (xs more : List ProgramUnit) (n : ℕ) → length xs ≤ n → (length xs ≡ n → IsTrue full) → FirstLate full vs more → (u : ProgramUnit) → slice_get (xs ++ more) n ≡ Some u → StandsAmong vs u.place
units_behind full vs [] [] zero few is w u e = absurd cc
units_behind full vs [] [] (suc n) few is w u e = absurd cc
units_behind full vs [] (y ∷ more) zero few is w u e = subst (UnitOf (λ z. StandsAmong vs z.place)) e (w.0.0 (is refl))
units_behind full vs [] (y ∷ more) (suc n) few is w u e = each_unit vs more n w.1 u e
units_behind full vs (x ∷ xs) more zero few is w u e = absurd (omega (arith, few))
units_behind full vs (x ∷ xs) more (suc n) few is w u e = units_behind full vs xs more n (omega (arith, few)) (λ same. is (omega (arith, same))) w u e

bodies_late : (vs : List Token) (us : List ProgramUnit) → AllLate vs us → All (λ (u : ProgramUnit). IsLateSurplus vs u.body.steps) us
bodies_late vs [] w = All-nil (λ (u : ProgramUnit). IsLateSurplus vs u.body.steps)
bodies_late vs (u ∷ us) w = All-cons (λ (u : ProgramUnit). IsLateSurplus vs u.body.steps) u us w.0.1 (bodies_late vs us w.1)

bodies_first : (full : Bool) (vs : List Token) (us : List ProgramUnit) → FirstLate full vs us → All (λ (u : ProgramUnit). IsLateSurplus vs u.body.steps) us
bodies_first full vs [] w = All-nil (λ (u : ProgramUnit). IsLateSurplus vs u.body.steps)
bodies_first full vs (u ∷ us) w = All-cons (λ (u : ProgramUnit). IsLateSurplus vs u.body.steps) u us w.0.1 (bodies_late vs us w.1)

all_first : (full : Bool) (vs : List Token) (us : List ProgramUnit) → AllLate vs us → FirstLate full vs us
all_first full vs [] w = tt
all_first full vs (u ∷ us) w = (((λ is. w.0.0), w.0.1), w.1)

-- units after the cut
units_spread : (other : List ℕ) (E : Front) (us : List ProgramUnit) (ts vs r : List Token) → Repeats (SpellsUnitBy Unexpected other) us E ts r → IsEndOf ts vs → AllLate vs us
units_spread other E [] ts vs r w end = tt
units_spread other E (u ∷ us) ts vs r w end =
    let to = (unit_fills u).opens.ends other ts w.0 w.1.0 in
    let on = end_of_end (skip_line_ends w.0) ts vs end (end_of_end (skip_line_ends w.0) w.0 ts to (loose_gap.ends w.0)) in (
      (
        among_end ts vs u.place end (at_among (TheWord other (unit_word u.kind)) u.place ts w.1.0.1.0 w.1.0.1.1),
        unit_spreads.all other ts vs w.0 u w.1 (end_of_end (skip_line_ends ts) ts vs end (loose_gap.ends ts)),
      ),
      units_spread other E us (skip_line_ends w.0) vs r w.2 on,
    )

-- what all of these are
both_late : (full : Bool) (vs : List Token) (xs more ys : List ProgramUnit) → ys ≡ xs ++ more → length xs ≤ 64 → (IsFalse full → length xs ≡ 64 → ⊥) → All (λ (u : ProgramUnit). length u.body.steps ≤ 4096) xs → FirstLate full vs more
    → AreLateUnits vs ys
both_late full vs xs more ys same few not_full short w = subst (λ zs. AreLateUnits vs zs) (sym same) (
  (λ u e. units_behind full vs xs more 64 few (is_full full not_full) w u e),
  All-append (λ (u : ProgramUnit). IsLateSurplus vs u.body.steps) xs more (all_late vs xs short) (bodies_first full vs more w),
)
  where
    is_full : (full : Bool) → (IsFalse full → length xs ≡ 64 → ⊥) → length xs ≡ 64 → IsTrue full
    is_full true out e = refl
    is_full false out e = absurd (out refl e)

module _ {text : List ℕ} {start ts : List Token} {xs : List ProgramUnit} {e : Stop} where
  -- a unit breaks off after others
  pub units_late : (full : Bool) → full ≡ false → (IsFalse full → length xs ≡ 64 → ⊥) → length xs ≤ 64 → All (λ (u : ProgramUnit). length u.body.steps ≤ 4096) xs
      → HasCut (SpellsUnitBy Unexpected) (λ text. TheWord text word.Configuration) text start xs ts → RefusesBy SpellsUnitBy text ts e → LeavesWith (λ u. u.body) (SpellsUnitBy Unexpected) text ts e
      → LeavesLate AreLateUnits (SpellsFewUnitsBy Unexpected) text start e
  units_late full open_ not_full few short so_far refused bad = record {
    fault = λ is.
        let b = bad.fault is in
        let own = refused.fault is in (
          b.0,
          b.1,
          b.2,
          end_of_end b.1 ts start so_far.inside b.3,
          then_so b.0 (λ k leaves other us vs rest c ys w.
              let so = so_far.split other b.1 us vs b.3 c ys rest w.0 in
              both_late full vs xs so.1 ys so.3 few not_full short (go b.1 (none b.1 (subst (λ x. e ≡ fault_at x b.1) k b.2) own.0 own.1 own.2 own.4) leaves other vs rest so.0 so.1 so.2 so.4)) b.4,
        );
  }
    where
      none : (at : List Token) → e ≡ fault_at Unexpected at → (error : SyntaxError) (own : List Token) → e ≡ fault_at error own → GoesOnNoMore (SpellsUnitBy (error_of e)) text ts (turn error text own)
          → (u : ProgramUnit) (r : List Token) → SpellsUnitBy Unexpected text u ts r → ⊥
      none at here error own there gone u r w =
          gone.never text ts (alike_self text (turn error text own) ts gone.inside) u r (subst (λ (x : SyntaxError). SpellsUnitBy x text u ts r) (sym (error_is Unexpected at e here)) w)

      apart : (at : List Token) → ((u : ProgramUnit) (r : List Token) → SpellsUnitBy Unexpected text u ts r → ⊥) → (other : List ℕ) (n vs m : List Token) → IsCut text other at ts n vs → (u : ProgramUnit) → SpellsUnitBy Unexpected other u n m
          → IsEndOf m vs ⊎ IsEndOf vs m → IsEndOf m vs
      apart at out other n vs m c u w (inl near) = near
      apart at out other n vs m c u w (inr far) =
          let own = ((unit_by_filling Unexpected).one u).opens.keeps other text vs n ts at m w far (cut_back text other at ts n vs c) (inr tt) in
          absurd (out u own.0 own.1)

      go : (at : List Token) → ((u : ProgramUnit) (r : List Token) → SpellsUnitBy Unexpected text u ts r → ⊥) → Leaves (λ vs u. IsLateSurplus vs u.body.steps) (SpellsUnitBy Unexpected) text ts at → (other : List ℕ) (vs rest n : List Token)
          → (more : List ProgramUnit) → (IsCut text other at ts n vs ⊎ ((at ≡ ts) × IsEndOf n vs)) → Repeats (SpellsUnitBy Unexpected other) more (TheWord other word.Configuration) n rest → FirstLate full vs more
      go at out leaves other vs rest n more (inr edge) w = all_first full vs more (units_spread other (TheWord other word.Configuration) more n vs rest w edge.1)
      go at out leaves other vs rest n [] (inl c) w = tt
      go at out leaves other vs rest n (u ∷ more) (inl c) w =
          let to = ((unit_by_filling Unexpected).one u).opens.ends other n w.0 w.1 in
          let near = apart at out other n vs w.0 c u w.1 (one_within w.0 vs n to (cut_end other text vs n ts at (cut_back text other at ts n vs c))) in (
            ((λ is. let bad : true ≡ false = sym is ∙ open_ in absurd cc), leaves other n vs w.0 c u w.1),
            units_spread other (TheWord other word.Configuration) more (skip_line_ends w.0) vs rest w.2 (end_of_end (skip_line_ends w.0) w.0 vs near (loose_gap.ends w.0)),
          )

  -- there are as many as there may be
  pub units_full_late : {A B : Type 0} → length xs ≡ 64 → All (λ (u : ProgramUnit). length u.body.steps ≤ 4096) xs → HasCut (SpellsUnitBy Unexpected) (λ text. TheWord text word.Configuration) text start xs ts
      → ((e ≡ fault_at TooMany ts) × A) ⊎ ((e ≡ fault_at Unexpected ts) × B) → LeavesLate AreLateUnits (SpellsFewUnitsBy Unexpected) text start e
  units_full_late full short so_far (inl here) = record { fault = λ is. (TooMany, ts, here.0, so_far.inside, tt) }
  units_full_late full short so_far (inr here) = record {
    fault = λ is. (
      Unexpected,
      ts,
      here.0,
      so_far.inside,
      λ other us vs rest c ys w.
          let so = so_far.split other ts us vs (end_self ts) c ys rest w.0 in
          both_late true vs xs so.1 ys so.3 (omega (arith, full)) (λ no. absurd cc) short (all_first true vs so.1 (units_spread other (TheWord other word.Configuration) so.1 so.0 vs rest so.4 (behind other vs so.0 so.2))),
    );
  }
    where
      behind : (other : List ℕ) (vs n : List Token) → (IsCut text other ts ts n vs ⊎ ((ts ≡ ts) × IsEndOf n vs)) → IsEndOf n vs
      behind other vs n (inl c) = subst (λ x. IsEndOf n x) (cut_here text other ts ts n vs c refl) (end_self n)
      behind other vs n (inr edge) = edge.1

-- one unit more
pub unit_cut : {text : List ℕ} {start ts m : List Token} {xs : List ProgramUnit} {u : ProgramUnit} → HasCut (SpellsUnitBy Unexpected) (λ text. TheWord text word.Configuration) text start xs ts → Reads (SpellsUnitBy Unexpected text) ts u m
    → HasCut (SpellsUnitBy Unexpected) (λ text. TheWord text word.Configuration) text start (xs ++ u ∷ []) (skip_line_ends m)
unit_cut so_far here = cut_on (unit_by_filling Unexpected) (unit_by_local Unexpected) (λ other us r q w v. apart other _ us r q w v) so_far here.found
  where
    apart : (other : List ℕ) (x : ProgramUnit) (us r q : List Token) → SpellsUnitBy Unexpected other x us q → TheWord other word.Configuration us r → ⊥
    apart other x us r q w v =
        let yes = begins_so other Unexpected x us q w in
        let no = ap unit_begins (word_begins other word.Configuration us r v) in
        let bad : true ≡ false = sym yes ∙ no in
        cc

-- THE TEXT

-- units that are wholly after the cut
many_spread : Spreads tight AreLateUnits (SpellsFewUnitsBy Unexpected)
many_spread = record {
  all = λ other us vs rest ys w end.
      both_late true vs [] ys ys refl (omega arith) (λ no. absurd cc) (All-nil (λ (u : ProgramUnit). length u.body.steps ≤ 4096)) (all_first true vs ys (units_spread other (TheWord other word.Configuration) ys us vs rest w.0 end));
}

module _ {text : List ℕ} {ts : List Token} {e : Stop} where
  -- a whole text, from its first token that is no line end on
  text_late : LeavesLate (λ vs (x : List ProgramUnit × Group). AreLateUnits vs x.0) (λ text (x : List ProgramUnit × Group). SpellsFewUnitsBy Unexpected text x.0 ⋯ SpellsGroup text x.1) text (skip_line_ends ts) e → LeavesLate (λ vs c. AreLateUnits vs c.units) (SpellsConfigBy Unexpected) text ts e
  text_late bad = record {
    fault = λ is.
        let b = bad.fault is in
        (b.0, b.1, b.2, end_of_end b.1 (skip_line_ends ts) ts (loose_gap.ends ts) b.3, then_so b.0 (λ k leaves other us vs rest c x w. go b.1 leaves other us vs rest c x w (whole_or b.1 (skip_line_ends ts) b.3)) b.4);
  }
    where
      go : (at : List Token) → Leaves (λ vs (x : List ProgramUnit × Group). AreLateUnits vs x.0) (λ text (x : List ProgramUnit × Group). SpellsFewUnitsBy Unexpected text x.0 ⋯ SpellsGroup text x.1) text (skip_line_ends ts) at → (other : List ℕ) (us vs rest : List Token)
          → IsCut text other at ts us vs → (c : Config) → SpellsConfigBy Unexpected other c us rest → ((at ≡ skip_line_ends ts) ⊎ (length at < length (skip_line_ends ts))) → AreLateUnits vs c.units
      go at leaves other us vs rest c x w (inl edge) =
          let parts = to_whole other Unexpected x (skip_line_ends us) rest w.0 w.1 in
          many_spread.all other (skip_line_ends us) vs parts.0 x.units parts.1 (loose_past.past text other at ts us vs c edge)
      go at leaves other us vs rest c x w (inr less) =
          leaves other (skip_line_ends us) vs rest (loose_open.cut text other at ts us vs c less) (x.units, group x) (to_whole other Unexpected x (skip_line_ends us) rest w.0 w.1)

  -- its units break off
  pub text_units_late : LeavesLate AreLateUnits (SpellsFewUnitsBy Unexpected) text (skip_line_ends ts) e → LeavesLate (λ vs c. AreLateUnits vs c.units) (SpellsConfigBy Unexpected) text ts e
  text_units_late bad = text_late (leaves_in (λ x. x.0) loose (λ text x. SpellsGroup text x.1) bad)

  -- or what follows them does
  pub text_group_late : {us : List ProgramUnit} {m : List Token} → Reads (SpellsFewUnits text) (skip_line_ends ts) us m → Refuses SpellsGroup text (skip_line_ends m) e → LeavesLate (λ vs c. AreLateUnits vs c.units) (SpellsConfigBy Unexpected) text ts e
  text_group_late {us = own} {m = m} here bad = text_late (record {
    fault = λ is.
        let b = bad.fault is in
        let read = (units_by_read text Unexpected (skip_line_ends ts) m own here).found in
        let inside = end_of_end b.1 (skip_line_ends m) m (loose_gap.ends m) b.3 in (
          b.0,
          b.1,
          b.2,
          end_of_end b.1 m (skip_line_ends ts) ((many_fill own).ends text (skip_line_ends ts) m read) inside,
          always_so b.0 (λ other vs_ vs rest c x w.
              let there = (many_fill own).keeps text other b.1 (skip_line_ends ts) vs_ vs m read inside c (inr tt) in
              let same = ((few_units_local Unexpected).one other).only x.0 own vs_ w.0 there.0 w.1 there.1 in
              both_late true vs own [] x.0 (same.0 ∙ sym (append-nil own)) here.found.1 (λ no. absurd cc) (are_short text (TheWord text word.Configuration) own (skip_line_ends ts) m here.found.0) tt),
        );
  })
    where
      many_fill : (us : List ProgramUnit) → Opens tight always (λ text. SpellsFewUnitsBy Unexpected text us)
      many_fill us = record {
        ends = λ text ts m p. ((few_units_local Unexpected).carries us).ends text ts m p;
        keeps = λ text other at ts vs_ vs m p e c d. let k = (repeated {first = always} (λ u. fill_any ((unit_by_filling Unexpected).one u)) (word_fills word.Configuration) us).opens.keeps text other at ts vs_ vs m p.0 e c d in (k.0, (k.1, tt), k.2);
      }
