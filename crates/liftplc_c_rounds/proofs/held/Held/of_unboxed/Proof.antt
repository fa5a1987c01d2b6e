-- `of_unboxed` keeps the pointer of a box.
use Rattle.std.proofs.Common.{◌≡◌, List, [], ◌∷◌, ◌++◌, refl, sym, subst}
use mir.Val.{Val, vptr}
use base.Fml.{fex}
use base.Logic.{SProp, ent, emp, id⊢}
use prog.Wp.{WpFn}
use types.Kit.{fpack, ‵, raw, ◌⊛◌, ◌$◌, ◌∵◌, !, qed, by, move, keep, split, fsplit, fjoin, suffices, use0}
use types.Run.{stop, fld, of_opd, no_more, and_then, returns, enter}
use types.ByLocal.{alloc_all, pass_all, free_all, look_at, get, get_in, sets}
use types.Part.{agg, sub, whole}
use contract.Monad.{fact, fact_i}
use contract.Running.{tables}
use denote.Exit.{yes}
use denote.RattleType.{RattleType, owns}
use denote.Signature.{types_at, plain}
use denote.RawPtr.{Ptr, block_ptr}
use denote.Steps.{nothing}
use denote.Triple.Entry.{alive}
use denote.Triple.Walked.{Stays, stay_dropped, walk_of, Goes-dropped}
use Rattle.std.proofs.raw_atomic.Walks.{proved_at, leaves}
use Rattle.std.specs.Prelude.{Some}
use Rattle.std.specs.contracts.alloc.Global as heap
use Rattle.std.proofs.alloc.Global.TheLaws as heap_laws
use Rattle.std.specs.contracts.impls.GlobalAllocator.TheImpl.{ghosts}
use Rattle.std.specs.declared.alloc.Global.{Global}
use Rattle.group_world.specs.Worlds.{WorldOf}
use Rattle.group_rounds.specs.contracts.kept.Rounds as rounds
use Rattle.liftplc_c_rounds.specs.Holding.{RoundsOf, boxes}
use Rattle.liftplc_c_rounds.proofs.Values.{both, Unboxed, unboxed_good, unboxed_out}
use Rattle.liftplc_c_rounds.proofs.HeldValues.{lone, held_in}
use Rattle.liftplc_c_rounds.specs.contracts.held.Held.of_unboxed as f
use Rattle.liftplc_c_rounds.specs.contracts.held.Held.of_unboxed.Key.{name as #self}
use Rattle.liftplc_c_rounds.proofs.held.Held.of_unboxed.Statement.{statement}
use Rattle.liftplc_c_rounds.proofs.held.Held.of_unboxed.Code as code

pub of_unboxed_spec : {M : Type 1} → statement M
of_unboxed_spec 𝓤 𝓛 𝓜 𝓡 wired =
    let H = 𝓛.H in let 𝓣 = tables 𝓤 H 𝓜 𝓡 𝓡.env in let R : RattleType = rounds.the_row in let Z : RattleType = heap.the_row in let LZ = heap_laws.the_row_laws in let L : RattleType = Unboxed R Z LZ ghosts in
    let En = f.ended in let c = f.clauses 𝓛 𝓜.mem 𝓡.returns in let fn = code.function in let hs : Stays En.signature.params En.kept = (stay_dropped (plain (λ _. L)) yes, tt) in
    proved_at 𝓛 En hs c 𝓜 𝓡 (Goes-dropped 𝓛 0 (plain (λ _. L)) yes (λ κs x w. refl), tt) #self fn (code.unfolded 𝓤 H 𝓜 𝓡 wired) (λ z are.
    let κs = z.0.0 in let qs = z.0.1 in let v = z.0.3.0 in let Post : Val → SProp 𝓤 = (walk_of 𝓛 En hs c).post z in let Run : List Val → SProp 𝓤 = λ ws. WpFn 𝓤 H 𝓣.C 𝓣.Λ fn ws Post in let asked = raw ((c κs z.0.3).requires z.1) in
    qed 𝓛 ((raw (alive 𝓛 En.signature κs qs) ⊛ ‵ (owns (types_at En.signature.params κs) z.0.3 z.0.4)) ∷ asked ∷ []) ∵ split ! $ move ! (1 ∷ []) $ fsplit ! $ unboxed_out R Z LZ ghosts ! v z.0.4.0 (λ b o h e ws fits.
    let w : Val = both (vptr b o) h in let p : Ptr = block_ptr b o in let of : WorldOf = v.value.world in
    suffices ! (Run (w ∷ [])) (subst (λ (us : List Val). ent 𝓤 (Run (w ∷ [])) (Run us)) (sym (λ i. ws i ++ [])) (id⊢ 𝓤 (Run (w ∷ [])))) $
    enter ! 𝓣.C 𝓣.Λ fn (w ∷ []) Post $ alloc_all ! (λ l. pass_all ! refl (unboxed_good R Z LZ ghosts b o h fits, tt) $
    sets ! (of_opd ! (get_in ! (fld ! refl (stop !)) (sub ! 0 refl (whole !)))) refl (tt, tt) $ sets ! (of_opd ! (get ! refl)) refl (tt, tt) $ sets ! (agg ! (and_then ! (get ! refl) (no_more !))) refl (tt, (tt, tt)) $
    -- [the box behind the pointer; the handle; nothing; the tokens; the `requires`]
    fpack ! (RoundsOf of) (λ (k : RoundsOf of). boxes p k.0 v.alloc) (v.value, refl) $ fpack ! Global (λ (a : Global). fex (RoundsOf of) (λ (k : RoundsOf of). boxes p k.0 a)) v.alloc $
    held_in ! p (Some of) $ use0 𝓛 (raw (fact 𝓤 (Some of ≡ Some of))) (fact_i 𝓤 (Some of ≡ Some of) (emp 𝓤) refl) $ nothing ! $ nothing ! $ fjoin ! $
    returns ! (look_at ! 0 refl) $ free_all ! refl $ keep ! (5 ∷ 0 ∷ 2 ∷ 1 ∷ []) $ by ! (leaves 𝓛 En hs c z (lone p) (record { at = p; world = Some of }) (_, tt) (tt, tt)))))
