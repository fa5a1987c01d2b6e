use Rattle.std.proofs.Common.{◌≡◌, ℕ, suc, ◌-◌, ◌<◌, ◌∷◌, [], ◌++◌, true, false, length, sym, subst, refl, ap, ◌∙◌, arith}
use Rattle.std.proofs.lemmas.List.{length-set}
use Rattle.load_order.specs.Related.{holds}
use Rattle.load_order.specs.Used.{is_among}
use Rattle.load_order.specs.Chained.{is_shut, merged, without, AreAmong, AreDead, leads_on}
use Rattle.load_order.proofs.Tabled.{not_both}
use Rattle.load_order.proofs.Dead.{merged_first, merged_second, merged_both, left_over, shut_more, shut_dead, shut_step, goes_at, all_shut_at, dead_more, dead_as}
use Rattle.load_order.proofs.chains.+leads_on.Goals as goal
use Rattle.load_order.proofs.chains.+leads_on.Goals.{then-not-found+in_ok-is_shut+then-not-branch+in_ok-leads_on+in-None, then-not-found+in_ok-is_shut+then-not-branch+in_ok-leads_on+in-Some-2+in_ok-merge-in-Some-2, else-not-found, else-not-found-via-then-not-found+in_ok-is_shut+else-not-branch, else-not-found-via-else-not-found}

pub loop-to-preserved : goal.loop-to-preserved
loop-to-preserved t c =
    let i = c.loop-to.invariant in
    let n : length c.loop-to.ends.items ≡ length c.args.ends.now.items = i.units ∙ i.same in
    let less : suc (c.args.left - 1) ≡ c.args.left = omega arith in
    elim c.if-not-found.branch [
      | then-not-found+in_ok-is_shut+then-not-branch+in_ok-leads_on+in-None w ↦ (let e = w.in_ok-leads_on.ensures in let s = w.in_ok-is_shut.ensures in record {
        way = ap (λ x. x.items) w.way'-is ∙ e.same ∙ i.way;
        units = ap (λ x. length x.items) w.ends-is ∙ e.units ∙ i.units;
        same = i.same;
        dead = dead_as (length c.loop-to.ends.items) (length c.args.ends.now.items) c.args.uses.now w.leads_on.new.ends.items c.if-not-found.ends.items n (ap (λ x. x.items) w.ends-is) e.dead;
        among = subst (λ x. AreAmong x (c.args.way.now.items ++ c.args.from ∷ [])) (sym w.reason-is) (subst (λ x. AreAmong w.is_shut.new.reason x) (w.as_slice-then-not-found.ensures.value ∙ i.way) (s.among (subst (AreAmong c.loop-to.reason) (sym (w.as_slice-then-not-found.ensures.value ∙ i.way)) i.among)));
        found = λ _. (let o = s.open w.if-not-branch.true in goes_at (length c.args.ends.now.items) c.args.uses.now c.args.left (c.args.left - 1) less c.args.way.now.items c.args.from c.loop-to.to (let l = c.loop-to-test.true in let same = i.same in omega (arith, l, same)) o.0
            (subst (λ x. is_among x c.loop-to.to ≡ false) (w.as_slice-then-not-found.ensures.value ∙ i.way) o.1)
            (subst (λ x. leads_on x c.args.uses.now (c.args.left - 1) (c.args.way.now.items ++ c.args.from ∷ []) c.loop-to.to ≡ true) n (subst (λ x. leads_on (length c.loop-to.ends.items) c.args.uses.now (c.args.left - 1) x c.loop-to.to ≡ true) i.way (e.found w.in-None.is))));
        shut = λ f. absurd (not_both c.if-not-found.found w.found-is f);
      })
      | then-not-found+in_ok-is_shut+then-not-branch+in_ok-leads_on+in-Some-2+in_ok-merge-in-Some-2 w ↦ (let e = w.in_ok-leads_on.ensures in let s = w.in_ok-is_shut.ensures in let m = w.in_ok-merge-in-Some-2.ensures in record {
        way = ap (λ x. x.items) w.way'-is ∙ e.same ∙ i.way;
        units = ap (λ x. length x.items) w.ends-is ∙ e.units ∙ i.units;
        same = i.same;
        dead = dead_as (length c.loop-to.ends.items) (length c.args.ends.now.items) c.args.uses.now w.leads_on.new.ends.items c.if-not-found.ends.items n (ap (λ x. x.items) w.ends-is) e.dead;
        among = subst (λ x. AreAmong x (c.args.way.now.items ++ c.args.from ∷ [])) (sym (w.reason-is ∙ m)) (merged_both w.is_shut.new.reason w.as_slice-in-Some-2.result.now (c.args.way.now.items ++ c.args.from ∷ [])
            (subst (λ x. AreAmong w.is_shut.new.reason x) (w.as_slice-then-not-found.ensures.value ∙ i.way) (s.among (subst (AreAmong c.loop-to.reason) (sym (w.as_slice-then-not-found.ensures.value ∙ i.way)) i.among)))
            (subst (λ x. AreAmong x (c.args.way.now.items ++ c.args.from ∷ [])) (sym w.as_slice-in-Some-2.ensures) (subst (AreAmong w.in-Some-2.more) i.way (rw w.in-Some-2.is at e.among))));
        found = λ f. i.found (sym w.found-is ∙ f);
        shut = λ f. shut_step (length c.args.ends.now.items) c.args.uses.now (c.args.left - 1) c.args.from c.loop-to.to c.loop-to.reason c.if-not-found.reason
            (λ k a. subst (λ x. is_among x k ≡ true) (sym (w.reason-is ∙ m)) (merged_first w.is_shut.new.reason w.as_slice-in-Some-2.result.now k (s.more k a)))
            (i.shut (sym w.found-is ∙ f))
            (λ used. shut_dead (length c.args.ends.now.items) c.args.uses.now (c.args.left - 1) (c.args.left - 1) w.in-Some-2.more c.if-not-found.reason c.loop-to.to (omega arith)
            (subst (AreAmong w.in-Some-2.more) (sym (w.reason-is ∙ m)) (subst (λ x. AreAmong x (merged w.is_shut.new.reason w.as_slice-in-Some-2.result.now)) w.as_slice-in-Some-2.ensures (merged_second w.is_shut.new.reason w.as_slice-in-Some-2.result.now)))
            (subst (λ x. leads_on x c.args.uses.now (c.args.left - 1) w.in-Some-2.more c.loop-to.to ≡ false) n (rw w.in-Some-2.is at e.none)));
      })
      | else-not-found w ↦ elim w.else-not-found.branch [
        | else-not-found-via-then-not-found+in_ok-is_shut+else-not-branch w' ↦ (let s = w'.in_ok-is_shut.ensures in record {
          way = ap (λ x. x.items) w.way'-is ∙ i.way;
          units = ap (λ x. length x.items) w.ends-is ∙ i.units;
          same = i.same;
          dead = subst (λ x. AreDead (length c.args.ends.now.items) c.args.uses.now x) (sym (ap (λ x. x.items) w.ends-is)) i.dead;
          among = subst (λ x. AreAmong x (c.args.way.now.items ++ c.args.from ∷ [])) (sym (w.reason-is ∙ w'.reason-is)) (subst (λ x. AreAmong w'.is_shut.new.reason x) (w'.as_slice-then-not-found.ensures.value ∙ i.way) (s.among (subst (AreAmong c.loop-to.reason) (sym (w'.as_slice-then-not-found.ensures.value ∙ i.way)) i.among)));
          found = λ f. i.found (sym w.found-is ∙ f);
          shut = λ f. shut_step (length c.args.ends.now.items) c.args.uses.now (c.args.left - 1) c.args.from c.loop-to.to c.loop-to.reason c.if-not-found.reason
              (λ k a. subst (λ x. is_among x k ≡ true) (sym (w.reason-is ∙ w'.reason-is)) (s.more k a))
              (i.shut (sym w.found-is ∙ f))
              (λ used. subst (λ x. is_shut (length c.args.ends.now.items) c.args.uses.now (c.args.left - 1) x c.loop-to.to ≡ true) (sym (w.reason-is ∙ w'.reason-is)) (subst (λ x. is_shut x c.args.uses.now (c.args.left - 1) w'.is_shut.new.reason c.loop-to.to ≡ true) n (s.shut w'.if-not-branch.false used)));
        })
        | else-not-found-via-else-not-found w' ↦ record {
          way = ap (λ x. x.items) w.way'-is ∙ i.way;
          units = ap (λ x. length x.items) w.ends-is ∙ i.units;
          same = i.same;
          dead = subst (λ x. AreDead (length c.args.ends.now.items) c.args.uses.now x) (sym (ap (λ x. x.items) w.ends-is)) i.dead;
          among = subst (λ x. AreAmong x (c.args.way.now.items ++ c.args.from ∷ [])) (sym (w.reason-is ∙ w'.reason-is)) i.among;
          found = λ f. i.found (sym w.found-is ∙ f);
          shut = λ f. absurd (not_both c.loop-to.found w'.if-not-found.false (sym w.found-is ∙ f));
        }
      ]
    ]

pub returns-clause-units : goal.returns-clause-units
returns-clause-units t c = ap length (c.in_ok-shut-2.ensures.noted []) ∙ length-set _ _ _ ∙ c.loop-to.invariant.units ∙ c.loop-to.invariant.same

pub returns-clause-dead : goal.returns-clause-dead
returns-clause-dead t c =
    let less : suc (c.args.left - 1) ≡ c.args.left = omega arith in
    let i = c.loop-to.invariant in
    dead_more (length c.args.ends.now.items) c.args.uses.now c.loop-to.ends.items c.shut-2.new.ends.items c.args.from (record { left = c.args.left; on_way = c.in_ok-others-2.others }) i.dead
    (let u = c.requires.unit in let e = i.units in let s = i.same in omega (arith, u, e, s)) c.in_ok-shut-2.ensures.noted
    (all_shut_at (length c.args.ends.now.items) c.args.uses.now c.args.left (c.args.left - 1) less c.loop-to.reason c.in_ok-others-2.others c.args.from (c.in_ok-others-2.ensures ∙ ap (without c.args.from) c.as_slice-2.ensures) (λ k low used. i.shut c.if-found.false k (let s = i.same in let e = c.loop-to-test.false in omega (arith, low, s, e)) used))

pub returns-clause-among : goal.returns-clause-among
returns-clause-among t c =
    subst (λ x. AreAmong x c.args.way.now.items) (sym (c.in_ok-shut-2.ensures.same ∙ c.in_ok-others-2.ensures ∙ ap (without c.args.from) c.as_slice-2.ensures)) (left_over c.args.from c.loop-to.reason c.args.way.now.items c.loop-to.invariant.among)

pub returns-clause-none : goal.returns-clause-none
returns-clause-none t c =
    let less : suc (c.args.left - 1) ≡ c.args.left = omega arith in
    all_shut_at (length c.args.ends.now.items) c.args.uses.now c.args.left (c.args.left - 1) less c.loop-to.reason c.in_ok-shut-2.field-0 c.args.from (c.in_ok-shut-2.ensures.same ∙ c.in_ok-others-2.ensures ∙ ap (without c.args.from) c.as_slice-2.ensures) (λ k low used. c.loop-to.invariant.shut c.if-found.false k (let s = c.loop-to.invariant.same in let e = c.loop-to-test.false in omega (arith, low, s, e)) used)

pub returns-in-Some-clause-units : goal.returns-in-Some-clause-units
returns-in-Some-clause-units t c = ap length (c.in_ok-shut.ensures.noted []) ∙ length-set _ _ _

pub returns-in-Some-clause-dead : goal.returns-in-Some-clause-dead
returns-in-Some-clause-dead t c =
    dead_more (length c.args.ends.now.items) c.args.uses.now c.args.ends.now.items c.shut.new.ends.items c.args.from (record { left = c.args.left; on_way = c.in-Some.others }) c.requires.dead c.requires.unit c.in_ok-shut.ensures.noted
    (subst (λ k. leads_on k c.args.uses.now c.args.left c.in-Some.others c.args.from ≡ false) (sym c.requires.count) (rw c.in-Some.is at c.in_ok-others.ensures.none))
