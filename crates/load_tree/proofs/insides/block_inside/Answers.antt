use Rattle.il_syntax.specs.declared.keyword.Keyword.TheVariants as word
use Rattle.il_syntax.specs.Grammar.{◌⨾◌, SpellsFilledList, SpellsDeclaration}
use Rattle.il_syntax_laws.proofs.Local.{optional_list_local, filled_list_local}
use Rattle.il_syntax_laws.proofs.Samples.{filled_list_sampled, lacking_sampled, optional_list_sampled}
use Rattle.il_syntax_laws.proofs.GoesOn.{lax_chain}
use Rattle.load_lines.proofs.Breaks.{first_tight, map_breaks}
use Rattle.load_tree.specs.Bodies.{SpellsBodyBy}
use Rattle.load_tree.specs.Insides.{LacksList, SpellsVariables, SpellsBlockInsideBy}
use Rattle.load_tree.specs.GoesOn.{Within, SpellsBlockRest}
use Rattle.load_tree.proofs.Missing.{no_list_local, as_read}
use Rattle.load_tree.proofs.Ahead.{first_ahead, later_ahead, part_ahead, up_so}
use Rattle.load_tree.proofs.Begun.{plainly, KeepsAnyhow, body_within}
use Rattle.load_tree.proofs.Shallow.{block_on, block_parts, lax_within}
use Rattle.load_tree.proofs.Rests.{ahead_first, filled_opening, later_lax, lax_filled, lax_no, lax_optional, passes_lacks, s_lacks, variables_opening}
use Rattle.load_tree.proofs.ByError.{up_ahead_by}
use Rattle.load_tree.proofs.LateUnits.{block_first, block_second, block_third, block_fourth, block_body, block_inputs, block_outputs, block_variables, block_externals}
use Rattle.load_tree.proofs.insides.block_inside.Goals as goal

pub returns-in_err-inputs-clause-refused : goal.returns-in_err-inputs-clause-refused
returns-in_err-inputs-clause-refused c =
    up_ahead_by SpellsBlockInsideBy _ c.from_residual.ensures.1
    (first_ahead (λ b. b.0) (λ text b. SpellsFilledList text word.VarOutput b.1 ⨾ SpellsVariables text b.2 ⨾ LacksList text word.VarExternal ⨾ SpellsBodyBy word.EndFunctionBlock _ text b.3) c.in_err-inputs.ensures.refused)

pub returns-in_err-outputs-clause-refused : goal.returns-in_err-outputs-clause-refused
returns-in_err-outputs-clause-refused c =
    up_ahead_by SpellsBlockInsideBy _ c.from_residual-in_err-outputs.ensures.1
    (later_ahead (λ b. b.0) (λ text b. SpellsFilledList text word.VarOutput b.1 ⨾ SpellsVariables text b.2 ⨾ LacksList text word.VarExternal ⨾ SpellsBodyBy word.EndFunctionBlock _ text b.3) (filled_list_local word.VarInput) c.in_ok-inputs.ensures.reads
    (first_ahead (λ b. b.1) (λ text b. SpellsVariables text b.2 ⨾ LacksList text word.VarExternal ⨾ SpellsBodyBy word.EndFunctionBlock _ text b.3) c.in_err-outputs.ensures.refused))

pub returns-in_err-variables-clause-refused : goal.returns-in_err-variables-clause-refused
returns-in_err-variables-clause-refused c =
    up_ahead_by SpellsBlockInsideBy _ c.from_residual-in_err-variables.ensures.1
    (later_ahead (λ b. b.0) (λ text b. SpellsFilledList text word.VarOutput b.1 ⨾ SpellsVariables text b.2 ⨾ LacksList text word.VarExternal ⨾ SpellsBodyBy word.EndFunctionBlock _ text b.3) (filled_list_local word.VarInput) c.in_ok-inputs.ensures.reads
    (later_ahead (λ b. b.1) (λ text b. SpellsVariables text b.2 ⨾ LacksList text word.VarExternal ⨾ SpellsBodyBy word.EndFunctionBlock _ text b.3) (filled_list_local word.VarOutput) c.in_ok-outputs.ensures.reads
    (first_ahead (λ b. b.2) (λ text b. LacksList text word.VarExternal ⨾ SpellsBodyBy word.EndFunctionBlock _ text b.3) c.in_err-variables.ensures.refused)))

pub returns-in_err-no_list-clause-refused : goal.returns-in_err-no_list-clause-refused
returns-in_err-no_list-clause-refused c =
    up_ahead_by SpellsBlockInsideBy _ c.from_residual-in_err-no_list.ensures.1
    (later_ahead (λ b. b.0) (λ text b. SpellsFilledList text word.VarOutput b.1 ⨾ SpellsVariables text b.2 ⨾ LacksList text word.VarExternal ⨾ SpellsBodyBy word.EndFunctionBlock _ text b.3) (filled_list_local word.VarInput) c.in_ok-inputs.ensures.reads
    (later_ahead (λ b. b.1) (λ text b. SpellsVariables text b.2 ⨾ LacksList text word.VarExternal ⨾ SpellsBodyBy word.EndFunctionBlock _ text b.3) (filled_list_local word.VarOutput) c.in_ok-outputs.ensures.reads
    (later_ahead (λ b. b.2) (λ text b. LacksList text word.VarExternal ⨾ SpellsBodyBy word.EndFunctionBlock _ text b.3) (optional_list_local word.Var) c.in_ok-variables.ensures.reads
    (first_ahead (λ b. tt) (λ text b. SpellsBodyBy word.EndFunctionBlock _ text b.3) c.in_err-no_list.ensures.refused))))

pub returns-in_err-body-clause-refused : goal.returns-in_err-body-clause-refused
returns-in_err-body-clause-refused c =
    up_ahead_by SpellsBlockInsideBy _ c.from_residual-in_err-body.ensures.1
    (later_ahead (λ b. b.0) (λ text b. SpellsFilledList text word.VarOutput b.1 ⨾ SpellsVariables text b.2 ⨾ LacksList text word.VarExternal ⨾ SpellsBodyBy word.EndFunctionBlock _ text b.3) (filled_list_local word.VarInput) c.in_ok-inputs.ensures.reads
    (later_ahead (λ b. b.1) (λ text b. SpellsVariables text b.2 ⨾ LacksList text word.VarExternal ⨾ SpellsBodyBy word.EndFunctionBlock _ text b.3) (filled_list_local word.VarOutput) c.in_ok-outputs.ensures.reads
    (later_ahead (λ b. b.2) (λ text b. LacksList text word.VarExternal ⨾ SpellsBodyBy word.EndFunctionBlock _ text b.3) (optional_list_local word.Var) c.in_ok-variables.ensures.reads
    (later_ahead (λ b. tt) (λ text b. SpellsBodyBy word.EndFunctionBlock _ text b.3) (no_list_local word.VarExternal) (as_read c.in_ok-no_list.ensures.reads)
    (part_ahead (λ b. b.3) c.in_err-body.ensures.refused)))))

pub returns-clause-reads : goal.returns-clause-reads
returns-clause-reads c = record { found = (_, c.in_ok-inputs.ensures.reads.found, (_, c.in_ok-outputs.ensures.reads.found, (_, c.in_ok-variables.ensures.reads.found, (_, c.in_ok-no_list.ensures.reads.found, c.in_ok-body.ensures.reads.found)))) }

pub returns-in_err-inputs-clause-begins : goal.returns-in_err-inputs-clause-begins
returns-in_err-inputs-clause-begins c =
    up_so _ _ c.from_residual.ensures.1 (plainly (map_breaks {Q = Within (λ x. KeepsAnyhow x.3.steps) SpellsBlockRest} (λ x. (x.0, x.1.0, x.1.1.0, x.1.1.1.1)) (λ x other us r w. block_parts KeepsAnyhow (x.0, x.1.0, x.1.1.0, x.1.1.1.1) other us r w) (first_tight (s_lacks word.VarOutput word.EndFunctionBlock (λ e. cc) (filled_list_sampled word.VarOutput) (s_lacks word.Var word.EndFunctionBlock (λ e. cc) (optional_list_sampled word.Var (λ text. SpellsDeclaration text)) (s_lacks word.VarExternal word.EndFunctionBlock (λ e. cc) (lacking_sampled word.VarExternal) (body_within word.EndFunctionBlock)))) c.in_err-inputs.ensures.begins)))

pub returns-in_err-outputs-clause-begins : goal.returns-in_err-outputs-clause-begins
returns-in_err-outputs-clause-begins c =
    up_so _ _ c.from_residual-in_err-outputs.ensures.1 (plainly (map_breaks {Q = Within (λ x. KeepsAnyhow x.3.steps) SpellsBlockRest} (λ x. (x.0, x.1.0, x.1.1.0, x.1.1.1.1)) (λ x other us r w. block_parts KeepsAnyhow (x.0, x.1.0, x.1.1.0, x.1.1.1.1) other us r w) (later_lax (filled_opening word.VarInput) c.in_ok-inputs.ensures.reads (s_lacks word.VarOutput word.EndFunctionBlock (λ e. cc) (filled_list_sampled word.VarOutput) (s_lacks word.Var word.EndFunctionBlock (λ e. cc) (optional_list_sampled word.Var (λ text. SpellsDeclaration text)) (s_lacks word.VarExternal word.EndFunctionBlock (λ e. cc) (lacking_sampled word.VarExternal) (body_within word.EndFunctionBlock)))) (lax_chain (lax_filled word.VarOutput) (lax_chain (lax_optional word.Var (λ text. SpellsDeclaration text)) (lax_chain (lax_no word.VarExternal) (lax_within KeepsAnyhow word.EndFunctionBlock)))) (passes_lacks word.VarInput word.EndFunctionBlock (λ e. cc)) (first_tight (s_lacks word.Var word.EndFunctionBlock (λ e. cc) (optional_list_sampled word.Var (λ text. SpellsDeclaration text)) (s_lacks word.VarExternal word.EndFunctionBlock (λ e. cc) (lacking_sampled word.VarExternal) (body_within word.EndFunctionBlock))) c.in_err-outputs.ensures.begins))))

pub returns-in_err-variables-clause-begins : goal.returns-in_err-variables-clause-begins
returns-in_err-variables-clause-begins c =
    up_so _ _ c.from_residual-in_err-variables.ensures.1 (plainly (map_breaks {Q = Within (λ x. KeepsAnyhow x.3.steps) SpellsBlockRest} (λ x. (x.0, x.1.0, x.1.1.0, x.1.1.1.1)) (λ x other us r w. block_parts KeepsAnyhow (x.0, x.1.0, x.1.1.0, x.1.1.1.1) other us r w) (later_lax (filled_opening word.VarInput) c.in_ok-inputs.ensures.reads (s_lacks word.VarOutput word.EndFunctionBlock (λ e. cc) (filled_list_sampled word.VarOutput) (s_lacks word.Var word.EndFunctionBlock (λ e. cc) (optional_list_sampled word.Var (λ text. SpellsDeclaration text)) (s_lacks word.VarExternal word.EndFunctionBlock (λ e. cc) (lacking_sampled word.VarExternal) (body_within word.EndFunctionBlock)))) (lax_chain (lax_filled word.VarOutput) (lax_chain (lax_optional word.Var (λ text. SpellsDeclaration text)) (lax_chain (lax_no word.VarExternal) (lax_within KeepsAnyhow word.EndFunctionBlock)))) (passes_lacks word.VarInput word.EndFunctionBlock (λ e. cc)) (later_lax (filled_opening word.VarOutput) c.in_ok-outputs.ensures.reads (s_lacks word.Var word.EndFunctionBlock (λ e. cc) (optional_list_sampled word.Var (λ text. SpellsDeclaration text)) (s_lacks word.VarExternal word.EndFunctionBlock (λ e. cc) (lacking_sampled word.VarExternal) (body_within word.EndFunctionBlock))) (lax_chain (lax_optional word.Var (λ text. SpellsDeclaration text)) (lax_chain (lax_no word.VarExternal) (lax_within KeepsAnyhow word.EndFunctionBlock))) (passes_lacks word.VarOutput word.EndFunctionBlock (λ e. cc)) (first_tight (s_lacks word.VarExternal word.EndFunctionBlock (λ e. cc) (lacking_sampled word.VarExternal) (body_within word.EndFunctionBlock)) c.in_err-variables.ensures.begins)))))

pub returns-in_err-no_list-clause-begins : goal.returns-in_err-no_list-clause-begins
returns-in_err-no_list-clause-begins c =
    up_so _ _ c.from_residual-in_err-no_list.ensures.1 (plainly (map_breaks {Q = Within (λ x. KeepsAnyhow x.3.steps) SpellsBlockRest} (λ x. (x.0, x.1.0, x.1.1.0, x.1.1.1.1)) (λ x other us r w. block_parts KeepsAnyhow (x.0, x.1.0, x.1.1.0, x.1.1.1.1) other us r w) (later_lax (filled_opening word.VarInput) c.in_ok-inputs.ensures.reads (s_lacks word.VarOutput word.EndFunctionBlock (λ e. cc) (filled_list_sampled word.VarOutput) (s_lacks word.Var word.EndFunctionBlock (λ e. cc) (optional_list_sampled word.Var (λ text. SpellsDeclaration text)) (s_lacks word.VarExternal word.EndFunctionBlock (λ e. cc) (lacking_sampled word.VarExternal) (body_within word.EndFunctionBlock)))) (lax_chain (lax_filled word.VarOutput) (lax_chain (lax_optional word.Var (λ text. SpellsDeclaration text)) (lax_chain (lax_no word.VarExternal) (lax_within KeepsAnyhow word.EndFunctionBlock)))) (passes_lacks word.VarInput word.EndFunctionBlock (λ e. cc)) (later_lax (filled_opening word.VarOutput) c.in_ok-outputs.ensures.reads (s_lacks word.Var word.EndFunctionBlock (λ e. cc) (optional_list_sampled word.Var (λ text. SpellsDeclaration text)) (s_lacks word.VarExternal word.EndFunctionBlock (λ e. cc) (lacking_sampled word.VarExternal) (body_within word.EndFunctionBlock))) (lax_chain (lax_optional word.Var (λ text. SpellsDeclaration text)) (lax_chain (lax_no word.VarExternal) (lax_within KeepsAnyhow word.EndFunctionBlock))) (passes_lacks word.VarOutput word.EndFunctionBlock (λ e. cc)) (later_lax (variables_opening) c.in_ok-variables.ensures.reads (s_lacks word.VarExternal word.EndFunctionBlock (λ e. cc) (lacking_sampled word.VarExternal) (body_within word.EndFunctionBlock)) (lax_chain (lax_no word.VarExternal) (lax_within KeepsAnyhow word.EndFunctionBlock)) (passes_lacks word.Var word.EndFunctionBlock (λ e. cc)) (ahead_first (s_lacks word.VarExternal word.EndFunctionBlock (λ e. cc) (lacking_sampled word.VarExternal) (body_within word.EndFunctionBlock)) (lax_chain (lax_no word.VarExternal) (lax_within KeepsAnyhow word.EndFunctionBlock)) c.in_err-no_list.ensures.first))))))

pub returns-in_err-body-clause-begins : goal.returns-in_err-body-clause-begins
returns-in_err-body-clause-begins c =
    up_so _ _ c.from_residual-in_err-body.ensures.1 (block_on c.in_ok-inputs.ensures.reads c.in_ok-outputs.ensures.reads c.in_ok-variables.ensures.reads (as_read c.in_ok-no_list.ensures.reads) c.in_err-body.ensures.begins)

pub returns-in_err-inputs-clause-late : goal.returns-in_err-inputs-clause-late
returns-in_err-inputs-clause-late c = up_so _ _ c.from_residual.ensures.1 (block_first c.in_err-inputs.ensures.refused)

pub returns-in_err-outputs-clause-late : goal.returns-in_err-outputs-clause-late
returns-in_err-outputs-clause-late c = up_so _ _ c.from_residual-in_err-outputs.ensures.1 (block_inputs c.in_ok-inputs.ensures.reads (block_second c.in_err-outputs.ensures.refused))

pub returns-in_err-variables-clause-late : goal.returns-in_err-variables-clause-late
returns-in_err-variables-clause-late c =
    up_so _ _ c.from_residual-in_err-variables.ensures.1 (block_inputs c.in_ok-inputs.ensures.reads (block_outputs c.in_ok-outputs.ensures.reads (block_third c.in_err-variables.ensures.refused)))

pub returns-in_err-no_list-clause-late : goal.returns-in_err-no_list-clause-late
returns-in_err-no_list-clause-late c =
    up_so _ _ c.from_residual-in_err-no_list.ensures.1
    (block_inputs c.in_ok-inputs.ensures.reads (block_outputs c.in_ok-outputs.ensures.reads (block_variables c.in_ok-variables.ensures.reads (block_fourth c.in_err-no_list.ensures.refused))))

pub returns-in_err-body-clause-late : goal.returns-in_err-body-clause-late
returns-in_err-body-clause-late c =
    up_so _ _ c.from_residual-in_err-body.ensures.1
    (block_inputs c.in_ok-inputs.ensures.reads (block_outputs c.in_ok-outputs.ensures.reads
    (block_variables c.in_ok-variables.ensures.reads (block_externals (as_read c.in_ok-no_list.ensures.reads) (block_body c.in_err-body.ensures.late)))))
