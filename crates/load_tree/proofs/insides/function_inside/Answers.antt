use Rattle.il_syntax.specs.declared.keyword.Keyword.TheVariants as word
use Rattle.il_syntax.specs.Grammar.{◌⨾◌, SpellsDeclaration}
use Rattle.il_syntax_laws.proofs.Local.{optional_list_local}
use Rattle.il_syntax_laws.proofs.Samples.{lacking_sampled, optional_list_sampled}
use Rattle.il_syntax_laws.proofs.GoesOn.{lax_chain, passes_always}
use Rattle.load_lines.proofs.Breaks.{first_tight, map_breaks}
use Rattle.load_tree.specs.Bodies.{SpellsBodyBy}
use Rattle.load_tree.specs.Insides.{LacksList, SpellsVariables, SpellsFunctionInsideBy}
use Rattle.load_tree.specs.GoesOn.{Within, SpellsFunctionRest}
use Rattle.load_tree.proofs.Missing.{no_list_local, as_read, full_local}
use Rattle.load_tree.proofs.Ahead.{first_ahead, later_ahead, part_ahead, up_so}
use Rattle.load_tree.proofs.Begun.{plainly, KeepsAnyhow, body_within}
use Rattle.load_tree.proofs.Shallow.{function_on, function_parts, lax_within}
use Rattle.load_tree.proofs.Rests.{ahead_first, full_opening, later_lax, lax_no, lax_optional, no_list_opening, passes_lacks, s_lacks, variables_opening}
use Rattle.load_tree.proofs.ByError.{up_ahead_by}
use Rattle.load_tree.proofs.LateUnits.{function_first, function_second, function_third, function_fourth, function_body, function_inputs, function_outputs, function_variables, function_externals}
use Rattle.load_tree.proofs.insides.function_inside.Goals as goal

pub returns-in_err-inputs-clause-refused : goal.returns-in_err-inputs-clause-refused
returns-in_err-inputs-clause-refused c =
    up_ahead_by SpellsFunctionInsideBy _ c.from_residual.ensures.1
    (first_ahead (λ b. b.0) (λ text b. LacksList text word.VarOutput ⨾ SpellsVariables text b.1 ⨾ LacksList text word.VarExternal ⨾ SpellsBodyBy word.EndFunction _ text b.2) c.in_err-inputs.ensures.refused)

pub returns-in_err-no_list-clause-refused : goal.returns-in_err-no_list-clause-refused
returns-in_err-no_list-clause-refused c =
    up_ahead_by SpellsFunctionInsideBy _ c.from_residual-in_err-no_list.ensures.1
    (later_ahead (λ b. b.0) (λ text b. LacksList text word.VarOutput ⨾ SpellsVariables text b.1 ⨾ LacksList text word.VarExternal ⨾ SpellsBodyBy word.EndFunction _ text b.2) (full_local word.VarInput) c.in_ok-inputs.ensures.reads
    (first_ahead (λ b. tt) (λ text b. SpellsVariables text b.1 ⨾ LacksList text word.VarExternal ⨾ SpellsBodyBy word.EndFunction _ text b.2) c.in_err-no_list.ensures.refused))

pub returns-in_err-variables-clause-refused : goal.returns-in_err-variables-clause-refused
returns-in_err-variables-clause-refused c =
    up_ahead_by SpellsFunctionInsideBy _ c.from_residual-in_err-variables.ensures.1
    (later_ahead (λ b. b.0) (λ text b. LacksList text word.VarOutput ⨾ SpellsVariables text b.1 ⨾ LacksList text word.VarExternal ⨾ SpellsBodyBy word.EndFunction _ text b.2) (full_local word.VarInput) c.in_ok-inputs.ensures.reads
    (later_ahead (λ b. tt) (λ text b. SpellsVariables text b.1 ⨾ LacksList text word.VarExternal ⨾ SpellsBodyBy word.EndFunction _ text b.2) (no_list_local word.VarOutput) (as_read c.in_ok-no_list.ensures.reads)
    (first_ahead (λ b. b.1) (λ text b. LacksList text word.VarExternal ⨾ SpellsBodyBy word.EndFunction _ text b.2) c.in_err-variables.ensures.refused)))

pub returns-in_err-no_list-2-clause-refused : goal.returns-in_err-no_list-2-clause-refused
returns-in_err-no_list-2-clause-refused c =
    up_ahead_by SpellsFunctionInsideBy _ c.from_residual-in_err-no_list-2.ensures.1
    (later_ahead (λ b. b.0) (λ text b. LacksList text word.VarOutput ⨾ SpellsVariables text b.1 ⨾ LacksList text word.VarExternal ⨾ SpellsBodyBy word.EndFunction _ text b.2) (full_local word.VarInput) c.in_ok-inputs.ensures.reads
    (later_ahead (λ b. tt) (λ text b. SpellsVariables text b.1 ⨾ LacksList text word.VarExternal ⨾ SpellsBodyBy word.EndFunction _ text b.2) (no_list_local word.VarOutput) (as_read c.in_ok-no_list.ensures.reads)
    (later_ahead (λ b. b.1) (λ text b. LacksList text word.VarExternal ⨾ SpellsBodyBy word.EndFunction _ text b.2) (optional_list_local word.Var) c.in_ok-variables.ensures.reads
    (first_ahead (λ b. tt) (λ text b. SpellsBodyBy word.EndFunction _ text b.2) c.in_err-no_list-2.ensures.refused))))

pub returns-in_err-body-clause-refused : goal.returns-in_err-body-clause-refused
returns-in_err-body-clause-refused c =
    up_ahead_by SpellsFunctionInsideBy _ c.from_residual-in_err-body.ensures.1
    (later_ahead (λ b. b.0) (λ text b. LacksList text word.VarOutput ⨾ SpellsVariables text b.1 ⨾ LacksList text word.VarExternal ⨾ SpellsBodyBy word.EndFunction _ text b.2) (full_local word.VarInput) c.in_ok-inputs.ensures.reads
    (later_ahead (λ b. tt) (λ text b. SpellsVariables text b.1 ⨾ LacksList text word.VarExternal ⨾ SpellsBodyBy word.EndFunction _ text b.2) (no_list_local word.VarOutput) (as_read c.in_ok-no_list.ensures.reads)
    (later_ahead (λ b. b.1) (λ text b. LacksList text word.VarExternal ⨾ SpellsBodyBy word.EndFunction _ text b.2) (optional_list_local word.Var) c.in_ok-variables.ensures.reads
    (later_ahead (λ b. tt) (λ text b. SpellsBodyBy word.EndFunction _ text b.2) (no_list_local word.VarExternal) (as_read c.in_ok-no_list-2.ensures.reads)
    (part_ahead (λ b. b.2) c.in_err-body.ensures.refused)))))

pub returns-clause-reads : goal.returns-clause-reads
returns-clause-reads c = record { found = (_, c.in_ok-inputs.ensures.reads.found, (_, c.in_ok-no_list.ensures.reads.found, (_, c.in_ok-variables.ensures.reads.found, (_, c.in_ok-no_list-2.ensures.reads.found, c.in_ok-body.ensures.reads.found)))) }

pub returns-in_err-inputs-clause-begins : goal.returns-in_err-inputs-clause-begins
returns-in_err-inputs-clause-begins c =
    up_so _ _ c.from_residual.ensures.1 (plainly (map_breaks {Q = Within (λ x. KeepsAnyhow x.2.steps) SpellsFunctionRest} (λ x. (x.0, x.1.1.0, x.1.1.1.1)) (λ x other us r w. function_parts KeepsAnyhow (x.0, x.1.1.0, x.1.1.1.1) other us r w) (first_tight (s_lacks word.VarOutput word.EndFunction (λ e. cc) (lacking_sampled word.VarOutput) (s_lacks word.Var word.EndFunction (λ e. cc) (optional_list_sampled word.Var (λ text. SpellsDeclaration text)) (s_lacks word.VarExternal word.EndFunction (λ e. cc) (lacking_sampled word.VarExternal) (body_within word.EndFunction)))) c.in_err-inputs.ensures.begins)))

pub returns-in_err-no_list-clause-begins : goal.returns-in_err-no_list-clause-begins
returns-in_err-no_list-clause-begins c =
    up_so _ _ c.from_residual-in_err-no_list.ensures.1 (plainly (map_breaks {Q = Within (λ x. KeepsAnyhow x.2.steps) SpellsFunctionRest} (λ x. (x.0, x.1.1.0, x.1.1.1.1)) (λ x other us r w. function_parts KeepsAnyhow (x.0, x.1.1.0, x.1.1.1.1) other us r w) (later_lax (full_opening word.VarInput) c.in_ok-inputs.ensures.reads (s_lacks word.VarOutput word.EndFunction (λ e. cc) (lacking_sampled word.VarOutput) (s_lacks word.Var word.EndFunction (λ e. cc) (optional_list_sampled word.Var (λ text. SpellsDeclaration text)) (s_lacks word.VarExternal word.EndFunction (λ e. cc) (lacking_sampled word.VarExternal) (body_within word.EndFunction)))) (lax_chain (lax_no word.VarOutput) (lax_chain (lax_optional word.Var (λ text. SpellsDeclaration text)) (lax_chain (lax_no word.VarExternal) (lax_within KeepsAnyhow word.EndFunction)))) passes_always (ahead_first (s_lacks word.VarOutput word.EndFunction (λ e. cc) (lacking_sampled word.VarOutput) (s_lacks word.Var word.EndFunction (λ e. cc) (optional_list_sampled word.Var (λ text. SpellsDeclaration text)) (s_lacks word.VarExternal word.EndFunction (λ e. cc) (lacking_sampled word.VarExternal) (body_within word.EndFunction)))) (lax_chain (lax_no word.VarOutput) (lax_chain (lax_optional word.Var (λ text. SpellsDeclaration text)) (lax_chain (lax_no word.VarExternal) (lax_within KeepsAnyhow word.EndFunction)))) c.in_err-no_list.ensures.first))))

pub returns-in_err-variables-clause-begins : goal.returns-in_err-variables-clause-begins
returns-in_err-variables-clause-begins c =
    up_so _ _ c.from_residual-in_err-variables.ensures.1 (plainly (map_breaks {Q = Within (λ x. KeepsAnyhow x.2.steps) SpellsFunctionRest} (λ x. (x.0, x.1.1.0, x.1.1.1.1)) (λ x other us r w. function_parts KeepsAnyhow (x.0, x.1.1.0, x.1.1.1.1) other us r w) (later_lax (full_opening word.VarInput) c.in_ok-inputs.ensures.reads (s_lacks word.VarOutput word.EndFunction (λ e. cc) (lacking_sampled word.VarOutput) (s_lacks word.Var word.EndFunction (λ e. cc) (optional_list_sampled word.Var (λ text. SpellsDeclaration text)) (s_lacks word.VarExternal word.EndFunction (λ e. cc) (lacking_sampled word.VarExternal) (body_within word.EndFunction)))) (lax_chain (lax_no word.VarOutput) (lax_chain (lax_optional word.Var (λ text. SpellsDeclaration text)) (lax_chain (lax_no word.VarExternal) (lax_within KeepsAnyhow word.EndFunction)))) passes_always (later_lax (no_list_opening word.VarOutput) (as_read c.in_ok-no_list.ensures.reads) (s_lacks word.Var word.EndFunction (λ e. cc) (optional_list_sampled word.Var (λ text. SpellsDeclaration text)) (s_lacks word.VarExternal word.EndFunction (λ e. cc) (lacking_sampled word.VarExternal) (body_within word.EndFunction))) (lax_chain (lax_optional word.Var (λ text. SpellsDeclaration text)) (lax_chain (lax_no word.VarExternal) (lax_within KeepsAnyhow word.EndFunction))) (passes_lacks word.VarOutput word.EndFunction (λ e. cc)) (first_tight (s_lacks word.VarExternal word.EndFunction (λ e. cc) (lacking_sampled word.VarExternal) (body_within word.EndFunction)) c.in_err-variables.ensures.begins)))))

pub returns-in_err-no_list-2-clause-begins : goal.returns-in_err-no_list-2-clause-begins
returns-in_err-no_list-2-clause-begins c =
    up_so _ _ c.from_residual-in_err-no_list-2.ensures.1 (plainly (map_breaks {Q = Within (λ x. KeepsAnyhow x.2.steps) SpellsFunctionRest} (λ x. (x.0, x.1.1.0, x.1.1.1.1)) (λ x other us r w. function_parts KeepsAnyhow (x.0, x.1.1.0, x.1.1.1.1) other us r w) (later_lax (full_opening word.VarInput) c.in_ok-inputs.ensures.reads (s_lacks word.VarOutput word.EndFunction (λ e. cc) (lacking_sampled word.VarOutput) (s_lacks word.Var word.EndFunction (λ e. cc) (optional_list_sampled word.Var (λ text. SpellsDeclaration text)) (s_lacks word.VarExternal word.EndFunction (λ e. cc) (lacking_sampled word.VarExternal) (body_within word.EndFunction)))) (lax_chain (lax_no word.VarOutput) (lax_chain (lax_optional word.Var (λ text. SpellsDeclaration text)) (lax_chain (lax_no word.VarExternal) (lax_within KeepsAnyhow word.EndFunction)))) passes_always (later_lax (no_list_opening word.VarOutput) (as_read c.in_ok-no_list.ensures.reads) (s_lacks word.Var word.EndFunction (λ e. cc) (optional_list_sampled word.Var (λ text. SpellsDeclaration text)) (s_lacks word.VarExternal word.EndFunction (λ e. cc) (lacking_sampled word.VarExternal) (body_within word.EndFunction))) (lax_chain (lax_optional word.Var (λ text. SpellsDeclaration text)) (lax_chain (lax_no word.VarExternal) (lax_within KeepsAnyhow word.EndFunction))) (passes_lacks word.VarOutput word.EndFunction (λ e. cc)) (later_lax (variables_opening) c.in_ok-variables.ensures.reads (s_lacks word.VarExternal word.EndFunction (λ e. cc) (lacking_sampled word.VarExternal) (body_within word.EndFunction)) (lax_chain (lax_no word.VarExternal) (lax_within KeepsAnyhow word.EndFunction)) (passes_lacks word.Var word.EndFunction (λ e. cc)) (ahead_first (s_lacks word.VarExternal word.EndFunction (λ e. cc) (lacking_sampled word.VarExternal) (body_within word.EndFunction)) (lax_chain (lax_no word.VarExternal) (lax_within KeepsAnyhow word.EndFunction)) c.in_err-no_list-2.ensures.first))))))

pub returns-in_err-body-clause-begins : goal.returns-in_err-body-clause-begins
returns-in_err-body-clause-begins c =
    up_so _ _ c.from_residual-in_err-body.ensures.1 (function_on c.in_ok-inputs.ensures.reads (as_read c.in_ok-no_list.ensures.reads) c.in_ok-variables.ensures.reads (as_read c.in_ok-no_list-2.ensures.reads) c.in_err-body.ensures.begins)

pub returns-in_err-inputs-clause-late : goal.returns-in_err-inputs-clause-late
returns-in_err-inputs-clause-late c = up_so _ _ c.from_residual.ensures.1 (function_first c.in_err-inputs.ensures.refused)

pub returns-in_err-no_list-clause-late : goal.returns-in_err-no_list-clause-late
returns-in_err-no_list-clause-late c = up_so _ _ c.from_residual-in_err-no_list.ensures.1 (function_inputs c.in_ok-inputs.ensures.reads (function_second c.in_err-no_list.ensures.refused))

pub returns-in_err-variables-clause-late : goal.returns-in_err-variables-clause-late
returns-in_err-variables-clause-late c =
    up_so _ _ c.from_residual-in_err-variables.ensures.1 (function_inputs c.in_ok-inputs.ensures.reads (function_outputs (as_read c.in_ok-no_list.ensures.reads) (function_third c.in_err-variables.ensures.refused)))

pub returns-in_err-no_list-2-clause-late : goal.returns-in_err-no_list-2-clause-late
returns-in_err-no_list-2-clause-late c =
    up_so _ _ c.from_residual-in_err-no_list-2.ensures.1
    (function_inputs c.in_ok-inputs.ensures.reads (function_outputs (as_read c.in_ok-no_list.ensures.reads) (function_variables c.in_ok-variables.ensures.reads (function_fourth c.in_err-no_list-2.ensures.refused))))

pub returns-in_err-body-clause-late : goal.returns-in_err-body-clause-late
returns-in_err-body-clause-late c =
    up_so _ _ c.from_residual-in_err-body.ensures.1
    (function_inputs c.in_ok-inputs.ensures.reads (function_outputs (as_read c.in_ok-no_list.ensures.reads)
    (function_variables c.in_ok-variables.ensures.reads (function_externals (as_read c.in_ok-no_list-2.ensures.reads) (function_body c.in_err-body.ensures.late)))))
