-- `end` lets nothing go.
use Rattle.std.proofs.Common.{List, [], ◌∷◌, ◌++◌, refl, sym, subst}
use mir.Val.{vunit, Val}
use base.Logic.{SProp, ent, id⊢}
use prog.Wp.{WpFn}
use types.Kit.{drop, feq_i, ‵, raw, ◌⊛◌, ◌$◌, ◌∵◌, !, qed, by, move, keep, split, fsplit, fjoin, suffices}
use types.Run.{unit_lit, of_opd, returns, enter}
use types.ByLocal.{alloc_all, pass_all, free_all, look_at, sets}
use contract.Running.{tables}
use denote.Exit.{yes}
use denote.RattleType.{owns}
use denote.Signature.{types_at, plain}
use denote.Steps.{nothing}
use denote.Triple.Entry.{alive}
use denote.Triple.Walked.{Stays, stay_dropped, walk_of, Goes-dropped}
use Rattle.std.proofs.raw_atomic.Walks.{proved_at, leaves}
use Rattle.liftplc_c_rounds.specs.contracts.held.Held as held
use Rattle.liftplc_c_rounds.proofs.HeldValues.{lone_typed, lone, held_out}
use Rattle.liftplc_c_rounds.specs.contracts.held.Held.end as f
use Rattle.liftplc_c_rounds.specs.contracts.held.Held.end.Key.{name as #self}
use Rattle.liftplc_c_rounds.proofs.held.Held.end.Statement.{statement}
use Rattle.liftplc_c_rounds.proofs.held.Held.end.Code as code

pub end_spec : {M : Type 1} → statement M
end_spec 𝓤 𝓛 𝓜 𝓡 wired =
    let H = 𝓛.H in let 𝓣 = tables 𝓤 H 𝓜 𝓡 𝓡.env in
    let En = f.ended in let c = f.clauses 𝓛 𝓜.mem 𝓡.returns in let fn = code.function in let hs : Stays En.signature.params En.kept = (stay_dropped (plain (λ _. held.the_row)) yes, tt) in
    proved_at 𝓛 En hs c 𝓜 𝓡 (Goes-dropped 𝓛 0 (plain (λ _. held.the_row)) yes (λ κs x w. refl), tt) #self fn (code.unfolded 𝓤 H 𝓜 𝓡 wired) (λ z are.
    let κs = z.0.0 in let qs = z.0.1 in let d = z.0.3.0 in let Post : Val → SProp 𝓤 = (walk_of 𝓛 En hs c).post z in let Run : List Val → SProp 𝓤 = λ ws. WpFn 𝓤 H 𝓣.C 𝓣.Λ fn ws Post in let asked = raw ((c κs z.0.3).requires z.1) in
    qed 𝓛 ((raw (alive 𝓛 En.signature κs qs) ⊛ ‵ (owns (types_at En.signature.params κs) z.0.3 z.0.4)) ∷ asked ∷ []) ∵ split ! $ move ! (1 ∷ []) $ fsplit ! $
    held_out ! d z.0.4.0 (λ ws. drop ! $
    suffices ! (Run (lone d.at ∷ [])) (subst (λ (xs : List Val). ent 𝓤 (Run (lone d.at ∷ [])) (Run xs)) (sym (λ i. ws i ++ [])) (id⊢ 𝓤 (Run (lone d.at ∷ [])))) $
    enter ! 𝓣.C 𝓣.Λ fn (lone d.at ∷ []) Post $ alloc_all ! (λ l. pass_all ! refl (lone_typed d.at, tt) $
    sets ! (of_opd ! (unit_lit !)) refl (tt, tt) $
    nothing ! $ feq_i ! (List Val) (vunit ∷ []) (vunit ∷ []) refl $ nothing ! $ nothing ! $ fjoin ! $
    returns ! (look_at ! 0 refl) $ free_all ! refl $ keep ! (4 ∷ 0 ∷ 1 ∷ 2 ∷ []) $ by ! (leaves 𝓛 En hs c z vunit tt (_, tt) (tt, tt)))))
