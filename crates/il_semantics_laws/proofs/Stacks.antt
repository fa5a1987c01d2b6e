-- The premises on the units at work, from the rules of their order: a stack is a chain of uses.
use Rattle.std.proofs.Common.{◌≡◌, ◌≢◌, ◌<◌, ◌≤◌, zero, suc, List, [], ◌∷◌, ◌++◌, refl, sym, subst, length, length-append, get_or, arith, ◌⊎◌, inl, inr}
use Rattle.std.proofs.lemmas.Bool.{cases_lt}
use Rattle.std.proofs.lemmas.List.Elements.{Contains-get_or, Contains-append_cases}
use Rattle.std.proofs.lemmas.List.Quantifiers.{all_pairs_push}
use Rattle.std.specs.Prelude.{Contains}
use Rattle.il_syntax.specs.declared.tree.Config.{Config}
use Rattle.il_syntax.specs.declared.tree.Unit.{Unit as ProgramUnit}
use Rattle.il_statics.specs.Order.{Uses, IsChain, UsesThrough, Reaches, NamesNoneTwice, recursive, long_chain}
use Rattle.il_statics.specs.Faults.{recursive as of_recursive, long_chain as of_long_chain, HasNoFault, Broken, Declaring}
use Rattle.il_semantics_laws.specs.Accepted.{IsOrdered}
use Rattle.il_semantics_laws.specs.Agreement.{IsStack}
use Rattle.il_semantics_laws.specs.Soundness.{IsAcyclic, IsShallow}
use Rattle.il_semantics_laws.proofs.Lists.{in_nothing, at_head, in_tail}
use Rattle.il_semantics_laws.proofs.Used.{used_among, uses_of}
use Rattle.il_semantics_laws.proofs.Declared.{one_unit}

uses_on : (c : Config) (u v w : ProgramUnit) (between : List ProgramUnit) → UsesThrough c u between v → Uses c v w → UsesThrough c u (between ++ v ∷ []) w
uses_on c u v w [] h next = (h, next)
uses_on c u v w (b ∷ bs) h next = (h.0, uses_on c b v w bs h.1 next)

abbrev last_of : ProgramUnit → List ProgramUnit → ProgramUnit
last_of u [] = u
last_of u (v ∷ vs) = last_of v vs

last_on : (u : ProgramUnit) (vs : List ProgramUnit) (v : ProgramUnit) → last_of u (vs ++ v ∷ []) ≡ v
last_on u [] v = refl
last_on u (w ∷ ws) v = last_on w ws v

chain_on : (c : Config) (u : ProgramUnit) (vs : List ProgramUnit) (v : ProgramUnit) → IsChain c u vs → Uses c (last_of u vs) v → IsChain c u (vs ++ v ∷ [])
chain_on c u [] v h next = (next, tt)
chain_on c u (w ∷ ws) v h next = (h.0, chain_on c w ws v h.1 next)

module _ (c : Config) (p : ProgramUnit) (program : Contains c.units p) (declaring : HasNoFault (Broken Declaring c)) (ordering : IsOrdered c) where
  pub top_among : (v : ProgramUnit) (us : List ProgramUnit) → IsStack c p v us → Contains c.units v
  top_among v [] is = subst (Contains c.units) (sym is) program
  top_among v (u ∷ us) is = used_among c u v is.0

  top_used : (v u : ProgramUnit) (us : List ProgramUnit) → IsStack c p v (u ∷ us) → Uses c u v
  top_used v u us is = uses_of c declaring u v (top_among u us is.1) is.0

  below_among : (v : ProgramUnit) (us : List ProgramUnit) → IsStack c p v us → (w : ProgramUnit) → Contains us w → Contains c.units w
  below_among v [] is w among = absurd (in_nothing w among)
  below_among v (u ∷ us) is w (zero, low, same) = subst (Contains c.units) same (top_among u us is.1)
  below_among v (u ∷ us) is w (suc n, low, same) = below_among u us is.1 w (n, omega arith, same)

  -- each unit below reaches the one at the top
  below_reach : (v : ProgramUnit) (us : List ProgramUnit) → IsStack c p v us → (w : ProgramUnit) → Contains us w → Reaches c w v
  below_reach v [] is w among = absurd (in_nothing w among)
  below_reach v (u ∷ us) is w (zero, low, same) = ([], subst (λ (x : ProgramUnit). Uses c x v) same (top_used v u us is))
  below_reach v (u ∷ us) is w (suc n, low, same) =
      let r = below_reach u us is.1 w (n, omega arith, same) in
      (r.0 ++ u ∷ [], uses_on c w u v r.0 r.1 (top_used v u us is))

  -- so none is twice (20, 36)
  pub is_acyclic : IsAcyclic c p
  is_acyclic v w us is among same =
      let here = top_among v us is in
      let one = one_unit c declaring w v (below_among v us is w among) here same in
      let r = below_reach v us is w among in
      ordering 36 v.place (λ same. omega (arith, same)) (of_recursive refl (recursive v here (r.0, subst (λ (x : ProgramUnit). UsesThrough c x r.0 v) one r.1) refl))

  -- a stack from its other end is a chain
  record Chained (v : ProgramUnit) (us : List ProgramUnit) : Type 0 where
    chain : List ProgramUnit
    is_chain : IsChain c p chain
    ends : last_of p chain ≡ v
    counted : length chain ≡ length us
    apart : NamesNoneTwice (p ∷ chain)
    within : (w : ProgramUnit) → Contains (p ∷ chain) w → Contains (v ∷ us) w

  chained : (v : ProgramUnit) (us : List ProgramUnit) → IsStack c p v us → Chained v us
  chained v [] is = record {
    chain = [];
    is_chain = tt;
    ends = sym is;
    counted = refl;
    apart = λ i j d low up. absurd (omega arith);
    within = λ w among. subst (λ (x : ProgramUnit). Contains (x ∷ []) w) (sym is) among;
  }
  chained v (u ∷ us) is = further (chained u us is.1)
    where
      further : Chained u us → Chained v (u ∷ us)
      further r = record {
        chain = r.chain ++ v ∷ [];
        is_chain = chain_on c p r.chain v r.is_chain (subst (λ (x : ProgramUnit). Uses c x v) (sym r.ends) (top_used v u us is));
        ends = last_on p r.chain v;
        counted = let n = length-append r.chain (v ∷ []) in let m = r.counted in omega arith;
        apart = all_pairs_push (λ (a b : ProgramUnit). a.name.name ≢ b.name.name) (p ∷ r.chain) v r.apart (λ k d low. is_acyclic v (get_or (p ∷ r.chain) k d) (u ∷ us) is (r.within (get_or (p ∷ r.chain) k d) (Contains-get_or (p ∷ r.chain) k d low)));
        within = λ w among. by_side w (Contains-append_cases (p ∷ r.chain) (v ∷ []) w among);
      }
        where
          by_side : (w : ProgramUnit) → Contains (p ∷ r.chain) w ⊎ Contains (v ∷ []) w → Contains (v ∷ u ∷ us) w
          by_side w (inl a) = in_tail v (u ∷ us) w (r.within w a)
          by_side w (inr (zero, low, same)) = subst (Contains (v ∷ u ∷ us)) same (at_head v (u ∷ us))
          by_side w (inr (suc n, low, same)) = absurd (omega arith)

  -- at most 16 units are at work (46)
  pub is_shallow : IsShallow c p
  is_shallow v us is = by_length (cases_lt (length us) 16)
    where
      by_length : (length us < 16) ⊎ (16 ≤ length us) → length us < 16
      by_length (inl low) = low
      by_length (inr high) =
          let r = chained v us is in
          let n = r.counted in
          absurd (ordering 46 p.place (λ same. omega (arith, same)) (of_long_chain refl (long_chain p r.chain program r.is_chain r.apart (omega arith) refl)))
