-- The slots of the globals are those of the definitions.
use Rattle.std.proofs.Common.{◌≡◌, List, [], ◌∷◌, ◌++◌, map, ap, subst, ◌∙◌, append-nil, Contains}
use Rattle.std.specs.Prelude.{option_map}
use Rattle.il_syntax.specs.declared.tree.Config.{Config}
use Rattle.il_syntax.specs.declared.tree.Declaration.{Declaration}
use Rattle.il_syntax.specs.declared.tree.Named.{Named}
use Rattle.il_statics.specs.Faults.{Broken, Declaring, HasNoFault}
use Rattle.il_statics.specs.Written.{IsWritten}
use Rattle.base_maps.specs.NameMap.{Text}
use Rattle.il_semantics.specs.Meaning.{Entity, entities, block_entities}
use Rattle.il_semantics_laws.proofs.Lists.{at_head, in_tail}
use Rattle.load_slots.specs.Cells.{HasShort}
use Rattle.load_code.specs.Laying.{cell_of, openings_to, laid_task}
use Rattle.load_code.specs.Tasks.{TaskLayout, AreGlobals}
use Rattle.load_slots.specs.Whole.{first_rows}
use Rattle.load_slots.proofs.Distinct.{blocks_named, globals_short}
use Rattle.load_code.proofs.Laid.{AreShort, named_short, cells_to, values_to, first_is}

short_names : (d : Declaration) (ns : List Named) (rest : List Entity) → HasShort d.declared.form → AreShort rest
    → AreShort (map (λ n. record { name = n.name; form = d.declared.form; initial = option_map (λ i. i.literal) d.initial }) ns ++ rest)
short_names d [] rest is more = more
short_names d (n ∷ ns) rest is more = (is, short_names d ns rest is more)

short_entities : (ds : List Declaration) → ((d : Declaration) → Contains ds d → HasShort d.declared.form) → AreShort (entities ds)
short_entities [] each = tt
short_entities (d ∷ ds) each = short_names d d.names (entities ds) (each d (at_head d ds)) (short_entities ds (λ e has. each e (in_tail d ds e has)))

pub globals_are : (c : Config) → IsWritten c → HasNoFault (Broken Declaring c) → (t : TaskLayout) → t ≡ laid_task (openings_to 0 c [] (entities c.globals)) [] [] → AreGlobals c t
globals_are c written declared t made =
    let short : AreShort (entities c.globals) = short_entities c.globals (globals_short c declared) in
    let blocks : (name : Text) → AreShort (block_entities c name) = λ name. named_short (block_entities c name) (blocks_named c declared written name) in
    record {
      cells = ap (λ (k : TaskLayout). k.cells) made ∙ append-nil (map cell_of (openings_to 0 c [] (entities c.globals))) ∙ cells_to c blocks 0 [] (entities c.globals) short;
      first = ap (λ (k : TaskLayout). k.first) made ∙ first_is (openings_to 0 c [] (entities c.globals)) ∙ ap first_rows (values_to c blocks 0 [] (entities c.globals) short);
    }

-- what is said of a configuration is said of it by another name
pub globals_along : (b c : Config) → b ≡ c → (t : TaskLayout) → AreGlobals b t → AreGlobals c t
globals_along b c e t are = subst (λ x. AreGlobals x t) e are
