-- `into_unboxed` makes a box of the pointer.
use Rattle.std.proofs.Common.{◌≡◌, List, [], ◌∷◌, ◌++◌, refl, sym, ap, ◌∙◌, subst}
use mir.Val.{Val, vptr}
use base.Logic.{SProp, ent, emp, never, id⊢, fst∗}
use prog.Wp.{WpFn}
use types.Logic.{sem}
use types.Kit.{fpick, ‵, raw, ◌⊛◌, ◌$◌, ◌∵◌, !, qed, by, move, keep, split, fsplit3, fjoin, suffices, use0, rewrite}
use types.Run.{stop, fld, of_opd, no_more, and_then, returns, enter}
use types.ByLocal.{alloc_all, pass_all, free_all, look_at, get, get_in, sets}
use types.Part.{agg, sub, whole}
use contract.Monad.{fact, fact_i}
use contract.Running.{tables}
use denote.Exit.{yes}
use denote.RattleType.{RattleType, owns}
use denote.Signature.{types_at, plain}
use denote.RawPtr.{Ptr, block_ptr, null_ptr, in_a_block}
use denote.Steps.{nothing, heard}
use denote.Param.{layout}
use denote.Triple.Entry.{alive}
use denote.Triple.Walked.{Stays, stay_dropped, walk_of, Goes-dropped}
use Rattle.core.proofs.cell.Inside.{one}
use Rattle.std.proofs.raw_atomic.Walks.{proved_at, leaves}
use Rattle.std.specs.Prelude.{Option, Some}
use Rattle.std.specs.contracts.alloc.Global as heap
use Rattle.std.proofs.alloc.Global.TheLaws as heap_laws
use Rattle.std.specs.contracts.impls.GlobalAllocator.TheImpl.{ghosts}
use Rattle.std.specs.declared.alloc.Global.{Global}
use Rattle.std_alloc.specs.Box.Ownership.{box_owns}
use Rattle.group_world.specs.Worlds.{WorldOf}
use Rattle.group_rounds.specs.contracts.kept.Rounds as rounds
use Rattle.liftplc_c_rounds.specs.Holding.{RoundsOf, holds}
use Rattle.liftplc_c_rounds.specs.contracts.held.Held as held
use Rattle.liftplc_c_rounds.proofs.Values.{both, Unboxed, unboxed_good, unboxed_in}
use Rattle.liftplc_c_rounds.proofs.HeldValues.{lone, held_out}
use Rattle.liftplc_c_rounds.specs.contracts.held.Held.into_unboxed as f
use Rattle.liftplc_c_rounds.specs.contracts.held.Held.into_unboxed.Key.{name as #self}
use Rattle.liftplc_c_rounds.proofs.held.Held.into_unboxed.Statement.{statement}
use Rattle.liftplc_c_rounds.proofs.held.Held.into_unboxed.Code as code

pub into_unboxed_spec : {M : Type 1} → statement M
into_unboxed_spec 𝓤 𝓛 𝓜 𝓡 wired =
    let H = 𝓛.H in let 𝓣 = tables 𝓤 H 𝓜 𝓡 𝓡.env in let R : RattleType = rounds.the_row in let Z : RattleType = heap.the_row in let LZ = heap_laws.the_row_laws in let L : RattleType = Unboxed R Z LZ ghosts in
    let En = f.ended in let c = f.clauses 𝓛 𝓜.mem 𝓡.returns in let fn = code.function in let hs : Stays En.signature.params En.kept = (stay_dropped (plain (λ _. held.the_row)) yes, (stay_dropped (plain (λ _. Z)) yes, tt)) in
    proved_at 𝓛 En hs c 𝓜 𝓡 (Goes-dropped 𝓛 0 (plain (λ _. held.the_row)) yes (λ κs x w. refl), (Goes-dropped 𝓛 0 (plain (λ _. Z)) yes (λ κs x w. refl), tt)) #self fn (code.unfolded 𝓤 H 𝓜 𝓡 wired) (λ z are.
    let κs = z.0.0 in let qs = z.0.1 in let d = z.0.3.0 in let a = z.0.3.1.0 in let Post : Val → SProp 𝓤 = (walk_of 𝓛 En hs c).post z in let Run : List Val → SProp 𝓤 = λ ws. WpFn 𝓤 H 𝓣.C 𝓣.Λ fn ws Post in
    let h = one (layout Z) z.0.4.1.0 ((LZ.lawful 𝓛).typed a z.0.4.1.0 are.1.0) in let Is : Type 0 = (w : WorldOf) × (d.world ≡ Some w) in
    qed 𝓛 ((raw (alive 𝓛 En.signature κs qs) ⊛ ‵ (owns (types_at En.signature.params κs) z.0.3 z.0.4)) ∷ raw (fact 𝓤 Is) ∷ []) ∵ move ! (1 ∷ []) $ heard ! Is (λ is. split ! $ move ! (1 ∷ []) $ fsplit3 ! $
    rewrite ! 1 (λ (us : List Val). ‵ (Z.own_val a us)) h.1 refl $ held_out ! d z.0.4.0 (λ ws. rewrite ! 0 (λ (o : Option WorldOf). ‵ (holds d.at o)) is.1 refl $
    fpick ! (λ (a' : Global). fpick ! (λ (k : RoundsOf is.0). in_a_block ! d.at (λ p. box_owns (ghosts.dealloc_token a') R p k.0) (fst∗ 𝓤 (never 𝓤) (sem 𝓛 (ghosts.dealloc_token a' (mir.Raw.raw (denote.Memory.lone R.mir)) null_ptr))) (λ b o e. let p : Ptr = block_ptr b o in let w : Val = lone p in
    let us : List Val = w ∷ h.0 ∷ [] in let ew : z.0.4.0 ≡ w ∷ [] = subst (λ (p' : Ptr). z.0.4.0 ≡ lone p' ∷ []) e ws in
    suffices ! (Run us) (subst (λ (xs : List Val). ent 𝓤 (Run us) (Run xs)) (sym (λ i. ew i ++ (h.1 i ++ []))) (id⊢ 𝓤 (Run us))) $
    enter ! 𝓣.C 𝓣.Λ fn us Post $ alloc_all ! (λ l. pass_all ! refl ((tt, (tt, tt)), (h.2, tt)) $
    sets ! (of_opd ! (get_in ! (fld ! refl (stop !)) (sub ! 0 refl (whole !)))) refl (tt, tt) $ sets ! (of_opd ! (get ! refl)) refl (tt, tt) $ sets ! (agg ! (and_then ! (get ! refl) (and_then ! (get ! refl) (no_more !)))) refl (unboxed_good R Z LZ ghosts b o h.0 h.2) $
    -- [the box behind the pointer; the handle; nothing; the tokens]
    unboxed_in R Z LZ ghosts ! b o h.0 a k.0 $ use0 𝓛 (raw (fact 𝓤 (d.world ≡ Some k.0.world))) (fact_i 𝓤 (d.world ≡ Some k.0.world) (emp 𝓤) (is.1 ∙ ap Some (sym k.1))) $ nothing ! $ nothing ! $ fjoin ! $ nothing ! $ fjoin ! $
    returns ! (look_at ! 0 refl) $ free_all ! refl $ keep ! (4 ∷ 0 ∷ 2 ∷ 1 ∷ []) $ by ! (leaves 𝓛 En hs c z (both (vptr b o) h.0) (record { at = p; alloc = a; value = k.0 }) (_, (_, tt)) (tt, (tt, tt))))))))))
