use Rattle.il_syntax.specs.declared.keyword.Keyword.TheVariants as word
use Rattle.il_syntax.specs.Grammar.{◌⨾◌, SpellsDeclaration, SpellsExternal}
use Rattle.il_syntax_laws.proofs.Local.{optional_list_local}
use Rattle.il_syntax_laws.proofs.Samples.{lacking_sampled, optional_list_sampled}
use Rattle.il_syntax_laws.proofs.GoesOn.{lax_chain}
use Rattle.load_lines.proofs.Breaks.{first_tight, map_breaks}
use Rattle.load_tree.specs.Bodies.{SpellsBodyBy}
use Rattle.load_tree.specs.Insides.{LacksList, SpellsVariables, SpellsSomeExternals, SpellsProgramInsideBy}
use Rattle.load_tree.specs.GoesOn.{Within, SpellsProgramRest}
use Rattle.load_tree.proofs.Missing.{no_list_local, as_read, some_externals_local}
use Rattle.load_tree.proofs.Ahead.{first_ahead, later_ahead, part_ahead, up_so}
use Rattle.load_tree.proofs.Begun.{plainly, KeepsAnyhow, body_within}
use Rattle.load_tree.proofs.Shallow.{program_on, program_parts, lax_within}
use Rattle.load_tree.proofs.Rests.{ahead_first, later_lax, lax_no, lax_optional, no_list_opening, passes_lacks, s_lacks, variables_opening}
use Rattle.load_tree.proofs.ByError.{up_ahead_by}
use Rattle.load_tree.proofs.LateUnits.{program_first, program_second, program_third, program_fourth, program_body, past_inputs, past_outputs, past_variables, past_externals}
use Rattle.load_tree.proofs.insides.program_inside.Goals as goal

pub returns-in_err-no_list-clause-refused : goal.returns-in_err-no_list-clause-refused
returns-in_err-no_list-clause-refused c =
    up_ahead_by SpellsProgramInsideBy _ c.from_residual.ensures.1
    (first_ahead (λ b. tt) (λ text b. LacksList text word.VarOutput ⨾ SpellsVariables text b.0 ⨾ SpellsSomeExternals text b.1 ⨾ SpellsBodyBy word.EndProgram _ text b.2) c.in_err-no_list.ensures.refused)

pub returns-in_err-no_list-2-clause-refused : goal.returns-in_err-no_list-2-clause-refused
returns-in_err-no_list-2-clause-refused c =
    up_ahead_by SpellsProgramInsideBy _ c.from_residual-in_err-no_list-2.ensures.1
    (later_ahead (λ b. tt) (λ text b. LacksList text word.VarOutput ⨾ SpellsVariables text b.0 ⨾ SpellsSomeExternals text b.1 ⨾ SpellsBodyBy word.EndProgram _ text b.2) (no_list_local word.VarInput) (as_read c.in_ok-no_list.ensures.reads)
    (first_ahead (λ b. tt) (λ text b. SpellsVariables text b.0 ⨾ SpellsSomeExternals text b.1 ⨾ SpellsBodyBy word.EndProgram _ text b.2) c.in_err-no_list-2.ensures.refused))

pub returns-in_err-variables-clause-refused : goal.returns-in_err-variables-clause-refused
returns-in_err-variables-clause-refused c =
    up_ahead_by SpellsProgramInsideBy _ c.from_residual-in_err-variables.ensures.1
    (later_ahead (λ b. tt) (λ text b. LacksList text word.VarOutput ⨾ SpellsVariables text b.0 ⨾ SpellsSomeExternals text b.1 ⨾ SpellsBodyBy word.EndProgram _ text b.2) (no_list_local word.VarInput) (as_read c.in_ok-no_list.ensures.reads)
    (later_ahead (λ b. tt) (λ text b. SpellsVariables text b.0 ⨾ SpellsSomeExternals text b.1 ⨾ SpellsBodyBy word.EndProgram _ text b.2) (no_list_local word.VarOutput) (as_read c.in_ok-no_list-2.ensures.reads)
    (first_ahead (λ b. b.0) (λ text b. SpellsSomeExternals text b.1 ⨾ SpellsBodyBy word.EndProgram _ text b.2) c.in_err-variables.ensures.refused)))

pub returns-in_err-externals-clause-refused : goal.returns-in_err-externals-clause-refused
returns-in_err-externals-clause-refused c =
    up_ahead_by SpellsProgramInsideBy _ c.from_residual-in_err-externals.ensures.1
    (later_ahead (λ b. tt) (λ text b. LacksList text word.VarOutput ⨾ SpellsVariables text b.0 ⨾ SpellsSomeExternals text b.1 ⨾ SpellsBodyBy word.EndProgram _ text b.2) (no_list_local word.VarInput) (as_read c.in_ok-no_list.ensures.reads)
    (later_ahead (λ b. tt) (λ text b. SpellsVariables text b.0 ⨾ SpellsSomeExternals text b.1 ⨾ SpellsBodyBy word.EndProgram _ text b.2) (no_list_local word.VarOutput) (as_read c.in_ok-no_list-2.ensures.reads)
    (later_ahead (λ b. b.0) (λ text b. SpellsSomeExternals text b.1 ⨾ SpellsBodyBy word.EndProgram _ text b.2) (optional_list_local word.Var) c.in_ok-variables.ensures.reads
    (first_ahead (λ b. b.1) (λ text b. SpellsBodyBy word.EndProgram _ text b.2) c.in_err-externals.ensures.refused))))

pub returns-in_err-body-clause-refused : goal.returns-in_err-body-clause-refused
returns-in_err-body-clause-refused c =
    up_ahead_by SpellsProgramInsideBy _ c.from_residual-in_err-body.ensures.1
    (later_ahead (λ b. tt) (λ text b. LacksList text word.VarOutput ⨾ SpellsVariables text b.0 ⨾ SpellsSomeExternals text b.1 ⨾ SpellsBodyBy word.EndProgram _ text b.2) (no_list_local word.VarInput) (as_read c.in_ok-no_list.ensures.reads)
    (later_ahead (λ b. tt) (λ text b. SpellsVariables text b.0 ⨾ SpellsSomeExternals text b.1 ⨾ SpellsBodyBy word.EndProgram _ text b.2) (no_list_local word.VarOutput) (as_read c.in_ok-no_list-2.ensures.reads)
    (later_ahead (λ b. b.0) (λ text b. SpellsSomeExternals text b.1 ⨾ SpellsBodyBy word.EndProgram _ text b.2) (optional_list_local word.Var) c.in_ok-variables.ensures.reads
    (later_ahead (λ b. b.1) (λ text b. SpellsBodyBy word.EndProgram _ text b.2) some_externals_local c.in_ok-externals.ensures.reads
    (part_ahead (λ b. b.2) c.in_err-body.ensures.refused)))))

pub returns-clause-reads : goal.returns-clause-reads
returns-clause-reads c = record { found = (_, c.in_ok-no_list.ensures.reads.found, (_, c.in_ok-no_list-2.ensures.reads.found, (_, c.in_ok-variables.ensures.reads.found, (_, c.in_ok-externals.ensures.reads.found, c.in_ok-body.ensures.reads.found)))) }

pub returns-in_err-no_list-clause-begins : goal.returns-in_err-no_list-clause-begins
returns-in_err-no_list-clause-begins c =
    up_so _ _ c.from_residual.ensures.1 (plainly (map_breaks {Q = Within (λ x. KeepsAnyhow x.2.steps) SpellsProgramRest} (λ x. (x.1.1.0, x.1.1.1.0, x.1.1.1.1)) (λ x other us r w. program_parts KeepsAnyhow (x.1.1.0, x.1.1.1.0, x.1.1.1.1) other us r w) (ahead_first (s_lacks word.VarInput word.EndProgram (λ e. cc) (lacking_sampled word.VarInput) (s_lacks word.VarOutput word.EndProgram (λ e. cc) (lacking_sampled word.VarOutput) (s_lacks word.Var word.EndProgram (λ e. cc) (optional_list_sampled word.Var (λ text. SpellsDeclaration text)) (s_lacks word.VarExternal word.EndProgram (λ e. cc) (optional_list_sampled word.VarExternal (λ text. SpellsExternal text)) (body_within word.EndProgram))))) (lax_chain (lax_no word.VarInput) (lax_chain (lax_no word.VarOutput) (lax_chain (lax_optional word.Var (λ text. SpellsDeclaration text)) (lax_chain (lax_optional word.VarExternal (λ text. SpellsExternal text)) (lax_within KeepsAnyhow word.EndProgram))))) c.in_err-no_list.ensures.first)))

pub returns-in_err-no_list-2-clause-begins : goal.returns-in_err-no_list-2-clause-begins
returns-in_err-no_list-2-clause-begins c =
    up_so _ _ c.from_residual-in_err-no_list-2.ensures.1 (plainly (map_breaks {Q = Within (λ x. KeepsAnyhow x.2.steps) SpellsProgramRest} (λ x. (x.1.1.0, x.1.1.1.0, x.1.1.1.1)) (λ x other us r w. program_parts KeepsAnyhow (x.1.1.0, x.1.1.1.0, x.1.1.1.1) other us r w) (later_lax (no_list_opening word.VarInput) (as_read c.in_ok-no_list.ensures.reads) (s_lacks word.VarOutput word.EndProgram (λ e. cc) (lacking_sampled word.VarOutput) (s_lacks word.Var word.EndProgram (λ e. cc) (optional_list_sampled word.Var (λ text. SpellsDeclaration text)) (s_lacks word.VarExternal word.EndProgram (λ e. cc) (optional_list_sampled word.VarExternal (λ text. SpellsExternal text)) (body_within word.EndProgram)))) (lax_chain (lax_no word.VarOutput) (lax_chain (lax_optional word.Var (λ text. SpellsDeclaration text)) (lax_chain (lax_optional word.VarExternal (λ text. SpellsExternal text)) (lax_within KeepsAnyhow word.EndProgram)))) (passes_lacks word.VarInput word.EndProgram (λ e. cc)) (ahead_first (s_lacks word.VarOutput word.EndProgram (λ e. cc) (lacking_sampled word.VarOutput) (s_lacks word.Var word.EndProgram (λ e. cc) (optional_list_sampled word.Var (λ text. SpellsDeclaration text)) (s_lacks word.VarExternal word.EndProgram (λ e. cc) (optional_list_sampled word.VarExternal (λ text. SpellsExternal text)) (body_within word.EndProgram)))) (lax_chain (lax_no word.VarOutput) (lax_chain (lax_optional word.Var (λ text. SpellsDeclaration text)) (lax_chain (lax_optional word.VarExternal (λ text. SpellsExternal text)) (lax_within KeepsAnyhow word.EndProgram)))) c.in_err-no_list-2.ensures.first))))

pub returns-in_err-variables-clause-begins : goal.returns-in_err-variables-clause-begins
returns-in_err-variables-clause-begins c =
    up_so _ _ c.from_residual-in_err-variables.ensures.1 (plainly (map_breaks {Q = Within (λ x. KeepsAnyhow x.2.steps) SpellsProgramRest} (λ x. (x.1.1.0, x.1.1.1.0, x.1.1.1.1)) (λ x other us r w. program_parts KeepsAnyhow (x.1.1.0, x.1.1.1.0, x.1.1.1.1) other us r w) (later_lax (no_list_opening word.VarInput) (as_read c.in_ok-no_list.ensures.reads) (s_lacks word.VarOutput word.EndProgram (λ e. cc) (lacking_sampled word.VarOutput) (s_lacks word.Var word.EndProgram (λ e. cc) (optional_list_sampled word.Var (λ text. SpellsDeclaration text)) (s_lacks word.VarExternal word.EndProgram (λ e. cc) (optional_list_sampled word.VarExternal (λ text. SpellsExternal text)) (body_within word.EndProgram)))) (lax_chain (lax_no word.VarOutput) (lax_chain (lax_optional word.Var (λ text. SpellsDeclaration text)) (lax_chain (lax_optional word.VarExternal (λ text. SpellsExternal text)) (lax_within KeepsAnyhow word.EndProgram)))) (passes_lacks word.VarInput word.EndProgram (λ e. cc)) (later_lax (no_list_opening word.VarOutput) (as_read c.in_ok-no_list-2.ensures.reads) (s_lacks word.Var word.EndProgram (λ e. cc) (optional_list_sampled word.Var (λ text. SpellsDeclaration text)) (s_lacks word.VarExternal word.EndProgram (λ e. cc) (optional_list_sampled word.VarExternal (λ text. SpellsExternal text)) (body_within word.EndProgram))) (lax_chain (lax_optional word.Var (λ text. SpellsDeclaration text)) (lax_chain (lax_optional word.VarExternal (λ text. SpellsExternal text)) (lax_within KeepsAnyhow word.EndProgram))) (passes_lacks word.VarOutput word.EndProgram (λ e. cc)) (first_tight (s_lacks word.VarExternal word.EndProgram (λ e. cc) (optional_list_sampled word.VarExternal (λ text. SpellsExternal text)) (body_within word.EndProgram)) c.in_err-variables.ensures.begins)))))

pub returns-in_err-externals-clause-begins : goal.returns-in_err-externals-clause-begins
returns-in_err-externals-clause-begins c =
    up_so _ _ c.from_residual-in_err-externals.ensures.1 (plainly (map_breaks {Q = Within (λ x. KeepsAnyhow x.2.steps) SpellsProgramRest} (λ x. (x.1.1.0, x.1.1.1.0, x.1.1.1.1)) (λ x other us r w. program_parts KeepsAnyhow (x.1.1.0, x.1.1.1.0, x.1.1.1.1) other us r w) (later_lax (no_list_opening word.VarInput) (as_read c.in_ok-no_list.ensures.reads) (s_lacks word.VarOutput word.EndProgram (λ e. cc) (lacking_sampled word.VarOutput) (s_lacks word.Var word.EndProgram (λ e. cc) (optional_list_sampled word.Var (λ text. SpellsDeclaration text)) (s_lacks word.VarExternal word.EndProgram (λ e. cc) (optional_list_sampled word.VarExternal (λ text. SpellsExternal text)) (body_within word.EndProgram)))) (lax_chain (lax_no word.VarOutput) (lax_chain (lax_optional word.Var (λ text. SpellsDeclaration text)) (lax_chain (lax_optional word.VarExternal (λ text. SpellsExternal text)) (lax_within KeepsAnyhow word.EndProgram)))) (passes_lacks word.VarInput word.EndProgram (λ e. cc)) (later_lax (no_list_opening word.VarOutput) (as_read c.in_ok-no_list-2.ensures.reads) (s_lacks word.Var word.EndProgram (λ e. cc) (optional_list_sampled word.Var (λ text. SpellsDeclaration text)) (s_lacks word.VarExternal word.EndProgram (λ e. cc) (optional_list_sampled word.VarExternal (λ text. SpellsExternal text)) (body_within word.EndProgram))) (lax_chain (lax_optional word.Var (λ text. SpellsDeclaration text)) (lax_chain (lax_optional word.VarExternal (λ text. SpellsExternal text)) (lax_within KeepsAnyhow word.EndProgram))) (passes_lacks word.VarOutput word.EndProgram (λ e. cc)) (later_lax (variables_opening) c.in_ok-variables.ensures.reads (s_lacks word.VarExternal word.EndProgram (λ e. cc) (optional_list_sampled word.VarExternal (λ text. SpellsExternal text)) (body_within word.EndProgram)) (lax_chain (lax_optional word.VarExternal (λ text. SpellsExternal text)) (lax_within KeepsAnyhow word.EndProgram)) (passes_lacks word.Var word.EndProgram (λ e. cc)) (first_tight (body_within word.EndProgram) c.in_err-externals.ensures.begins))))))

pub returns-in_err-body-clause-begins : goal.returns-in_err-body-clause-begins
returns-in_err-body-clause-begins c =
    up_so _ _ c.from_residual-in_err-body.ensures.1 (program_on (as_read c.in_ok-no_list.ensures.reads) (as_read c.in_ok-no_list-2.ensures.reads) c.in_ok-variables.ensures.reads c.in_ok-externals.ensures.reads c.in_err-body.ensures.begins)

pub returns-in_err-no_list-clause-late : goal.returns-in_err-no_list-clause-late
returns-in_err-no_list-clause-late c = up_so _ _ c.from_residual.ensures.1 (program_first c.in_err-no_list.ensures.refused)

pub returns-in_err-no_list-2-clause-late : goal.returns-in_err-no_list-2-clause-late
returns-in_err-no_list-2-clause-late c = up_so _ _ c.from_residual-in_err-no_list-2.ensures.1 (past_inputs (as_read c.in_ok-no_list.ensures.reads) (program_second c.in_err-no_list-2.ensures.refused))

pub returns-in_err-variables-clause-late : goal.returns-in_err-variables-clause-late
returns-in_err-variables-clause-late c =
    up_so _ _ c.from_residual-in_err-variables.ensures.1 (past_inputs (as_read c.in_ok-no_list.ensures.reads) (past_outputs (as_read c.in_ok-no_list-2.ensures.reads) (program_third c.in_err-variables.ensures.refused)))

pub returns-in_err-externals-clause-late : goal.returns-in_err-externals-clause-late
returns-in_err-externals-clause-late c =
    up_so _ _ c.from_residual-in_err-externals.ensures.1
    (past_inputs (as_read c.in_ok-no_list.ensures.reads) (past_outputs (as_read c.in_ok-no_list-2.ensures.reads) (past_variables c.in_ok-variables.ensures.reads (program_fourth c.in_err-externals.ensures.refused))))

pub returns-in_err-body-clause-late : goal.returns-in_err-body-clause-late
returns-in_err-body-clause-late c =
    up_so _ _ c.from_residual-in_err-body.ensures.1
    (past_inputs (as_read c.in_ok-no_list.ensures.reads) (past_outputs (as_read c.in_ok-no_list-2.ensures.reads)
    (past_variables c.in_ok-variables.ensures.reads (past_externals c.in_ok-externals.ensures.reads (program_body c.in_err-body.ensures.late)))))
