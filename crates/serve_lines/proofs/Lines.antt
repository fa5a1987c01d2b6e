-- Lines, one after the other, from a reader.
use Rattle.std.proofs.Common.{◌≡◌, ◌≤◌, ℕ, ◌+◌, arith, Bool, true, false, List, [], ◌∷◌, ◌++◌, length, length-append, append-nil, Option, Some, None, refl, sym, ap, ◌∙◌, subst}
use Rattle.std.specs.Prelude.{is_some, IfNone}
use Rattle.std.specs.Io.KnownBytes.{Appends, Consumes}
use Rattle.std.proofs.lemmas.List.{append_assoc}
use Rattle.il_syntax.specs.declared.tree.Config.{Config}
use Rattle.scan_task.specs.Scanning.{Program}
use Rattle.group_spec.specs.World.{World}
use Rattle.cli_host.specs.Writes.{AppendsFront}
use Rattle.cli_host.proofs.Known.{appends_more}
use Rattle.trace_text.specs.Reading.{IsOneLine}
use Rattle.trace_text.specs.Text.{text_of_lines}
use Rattle.trace_text.proofs.Texts.{text_append}
use Rattle.serve_lines.specs.declared.input.Came.{Came}
use Rattle.serve_lines.specs.declared.input.Came.TheVariants.{Whole, Ended, TooLong, Failed}
use Rattle.serve_lines.specs.declared.said.Said.{Said}
use Rattle.serve_lines.specs.declared.said.Said.TheVariants.{Round, Press, End}
use Rattle.serve_lines.specs.declared.serve.Stop.{Stop}
use Rattle.serve_lines.specs.declared.serve.Stop.TheVariants.{Line, Input, Lines}
use Rattle.serve_lines.specs.declared.server.ServeFault.{ServeFault}
use Rattle.serve_lines.specs.Coming.{LineComes}
use Rattle.serve_lines.specs.Saying.{AsksFor}
use Rattle.serve_lines.specs.Serving.{Hears, Serves, Unheard, IsServed, IsAsked, IsStopped, IsStoppedBy, AtStop, most_lines, is_end}
use Rattle.serve_lines.proofs.Serving.{serves_next, unheard_behind}

pub consumes_more : (a b d : Option (List ℕ)) (x y : List ℕ) → Consumes a b x → Consumes b d y → Consumes a d (x ++ y)
consumes_more None b d x y p q = tt
consumes_more (Some xs) None d x y p q = absurd p
consumes_more (Some xs) (Some ys) None x y p q = absurd q
consumes_more (Some xs) (Some ys) (Some zs) x y p q = p ∙ ap (λ l. x ++ l) q ∙ sym (append_assoc x y zs)

taken_more : (a b d : Option (List ℕ)) (lines : List (List ℕ)) (line : List ℕ) → Consumes a b (text_of_lines lines) → Consumes b d (line ++ 10 ∷ []) → Consumes a d (text_of_lines (lines ++ line ∷ []))
taken_more a b d lines line before here =
    let all : text_of_lines (lines ++ line ∷ []) ≡ text_of_lines lines ++ (line ++ 10 ∷ []) = text_append lines (line ∷ []) ∙ ap (λ l. text_of_lines lines ++ l) (append-nil (line ++ 10 ∷ [])) in
    subst (Consumes a d) (sym all) (consumes_more a b d (text_of_lines lines) (line ++ 10 ∷ []) before here)

pub if_none : {A P : Type 0} (r : Option A) → is_some r ≡ false → IfNone r P → P
if_none None is p = p
if_none (Some x) is p = absurd (cc)

-- no other trace is asked for
pub none_asked : (other line : List ℕ) → other ≡ line → ((name : List ℕ) → AsksFor other name → ⊥) → (name : List ℕ) → AsksFor line name → ⊥
none_asked other line is none name asks = none name (subst (λ l. AsksFor l name) (sym is) asks)

-- what the lines so far left, after so many
abbrev pub SoFar : Config → World → ℕ → ℕ → World → ℕ → ℕ → Option (List ℕ) → Option (List ℕ) → Option (List ℕ) → Option (List ℕ) → Option (List ℕ) → Option (List ℕ) → Type 0
SoFar c w a h m b n r0 r o0 o t0 t =
    (lines : List (List ℕ)) × (text : List ℕ) × (events : List ℕ) × Serves c lines w a m b text events × Consumes r0 r (text_of_lines lines) × Appends o0 o text × Appends t0 t events × (h + length lines ≡ n)

-- what the next one left
abbrev pub IsHeard : Config → List ℕ → World → World → ℕ → ℕ → Option (List ℕ) → Option (List ℕ) → Option (List ℕ) → Option (List ℕ) → Bool → Type 0
IsHeard c line m v b d o p t u ended = (said : Said) × (text : List ℕ) × (events : List ℕ) × Hears c line said m v b d text events × Appends o p text × Appends t u events × (ended ≡ is_end said)

end_of : (said : Said) → true ≡ is_end said → said ≡ End
end_of (Round fields) is = absurd (cc)
end_of (Press call) is = absurd (cc)
end_of End is = refl

module _ (p : Program) (w m : World) (a h b n : ℕ) (r0 r o0 o t0 t : Option (List ℕ)) (before : SoFar p.config w a h m b n r0 r o0 o t0 t) where
  -- serving stops after the lines so far
  stopped_at : (at : AtStop) (s z u : Option (List ℕ)) (stop : Stop) (k : ℕ) → k ≡ n + 1
      → IsStoppedBy p.config m b (h + length before.0) at (λ l. Consumes r0 s (text_of_lines before.0 ++ l)) (λ l. Appends o0 z (before.1 ++ l)) (λ l. AppendsFront o0 z (before.1 ++ l)) (λ l. Appends t0 u (before.2 ++ l)) (λ l. AppendsFront t0 u (before.2 ++ l)) stop
      → IsStopped p.config w a h at (Consumes r0 s) (Appends o0 z) (AppendsFront o0 z) (Appends t0 u) (AppendsFront t0 u) stop k
  stopped_at at s z u stop k is why = record {
    lines = before.0;
    place = is ∙ ap (λ k. k + 1) (sym before.7);
    v = m;
    next = b;
    text = before.1;
    events = before.2;
    serves = before.3;
    why = why;
  }

  module _ (q : Program) (same : q ≡ p) (line other : List ℕ) (is : other ≡ line) (s p1 u : Option (List ℕ)) (comes : Consumes r s (line ++ 10 ∷ [])) where
    hears_here : (said : Said) (v : World) (d : ℕ) (text events : List ℕ) → Hears q.config other said m v b d text events → Hears p.config line said m v b d text events
    hears_here said v d text events hears = subst (λ (x : Program). Hears x.config line said m v b d text events) same (subst (λ l. Hears q.config l said m v b d text events) is hears)

    pub so_far_next : (v : World) (d : ℕ) (ended : Bool) → ended ≡ false → IsHeard q.config other m v b d o p1 t u ended → SoFar p.config w a h v d (n + 1) r0 s o0 p1 t0 u
    so_far_next v d ended not_so (said, first, one, hears, out, trace, end) = (
      before.0 ++ line ∷ [],
      before.1 ++ first,
      before.2 ++ one,
      serves_next p.config before.0 line said w m v a b d before.1 before.2 first one before.3 (hears_here said v d first one hears) (sym end ∙ not_so),
      taken_more r0 r s before.0 line before.4 comes,
      appends_more o0 o p1 before.1 first before.5 out,
      appends_more t0 t u before.2 one before.6 trace,
      (let both = length-append before.0 (line ∷ []) in let many = before.7 in omega (arith, both, many)),
    )

    -- another trace is asked for
    pub asked : (k : ℕ) → k ≡ n + 1 → k ≤ most_lines → (name : List ℕ) → AsksFor line name → IsAsked p.config w a m b (Consumes r0 s) (Appends o0 o) (Appends t0 t) h line k
    asked k is few name asks = record {
      lines = before.0;
      place = is ∙ ap (λ k. k + 1) (sym before.7);
      few = few;
      name = name;
      asks = asks;
      taken = taken_more r0 r s before.0 line before.4 comes;
      text = before.1;
      events = before.2;
      serves = before.3;
      answered = before.5;
      traced = before.6;
    }

    pub served : (v : World) (d : ℕ) (ended : Bool) → true ≡ ended → IsHeard q.config other m v b d o p1 t u ended → IsServed p.config w a v d (Consumes r0 s) (Appends o0 p1) (Appends t0 u)
    served v d ended so (said, first, one, hears, out, trace, end) =
        let heard = hears_here said v d first one hears in
        record {
          lines = before.0;
          last = line;
          taken = taken_more r0 r s before.0 line before.4 comes;
          behind = m;
          many = b;
          text = before.1;
          events = before.2;
          serves = before.3;
          answer = first;
          ends = one;
          hears = subst (λ x. Hears p.config line x m v b d first one) (end_of said (so ∙ end)) heard;
          answered = appends_more o0 o p1 before.1 first before.5 out;
          traced = appends_more t0 t u before.2 one before.6 trace;
        }

    pub stopped_line : (at : AtStop) (f : ServeFault) → IsOneLine line → ((name : List ℕ) → AsksFor line name → ⊥) → Unheard q.config other m b at.out_failed at.trace_failed (Appends o p1) (AppendsFront o p1) (Appends t u) (AppendsFront t u) f
        → IsStopped p.config w a h at (Consumes r0 s) (Appends o0 p1) (AppendsFront o0 p1) (Appends t0 u) (AppendsFront t0 u) (Line f) (n + 1)
    stopped_line at f one none unheard =
        let here = subst (λ (x : Program). Unheard x.config line m b at.out_failed at.trace_failed (Appends o p1) (AppendsFront o p1) (Appends t u) (AppendsFront t u) f) same (subst (λ l. Unheard q.config l m b at.out_failed at.trace_failed (Appends o p1) (AppendsFront o p1) (Appends t u) (AppendsFront t u) f) is unheard) in
        stopped_at at s p1 u (Line f) (n + 1) refl (line, one, none, consumes_more r0 r s (text_of_lines before.0) (line ++ 10 ∷ []) before.4 comes, unheard_behind p.config line m b at.out_failed at.trace_failed f o0 o p1 t0 t u before.1 before.2 before.5 before.6 here)

  no_more : (x y : Option (List ℕ)) (text : List ℕ) → Appends x y text → Appends x y (text ++ [])
  no_more x y text grown = subst (Appends x y) (sym (append-nil text)) grown

  pub stopped_input : (of tf : Bool) (came : Came) (line : List ℕ) (s : Option (List ℕ)) → (came ≡ Whole → ⊥) → LineComes came r s line → IsStopped p.config w a h (record { left = s; out_failed = of; trace_failed = tf }) (Consumes r0 s) (Appends o0 o) (AppendsFront o0 o) (Appends t0 t) (AppendsFront t0 t) (Input came) (n + 1)
  stopped_input of tf Whole line s other comes = absurd (other refl)
  stopped_input of tf Ended line s other (one, taken, end) =
      stopped_at (record { left = s; out_failed = of; trace_failed = tf }) s o t (Input Ended) (n + 1) refl (line, one, consumes_more r0 r s (text_of_lines before.0) line before.4 taken, end, no_more o0 o before.1 before.5, no_more t0 t before.2 before.6)
  stopped_input of tf TooLong line s other (one, long, (more, no_feed, taken)) =
      stopped_at (record { left = s; out_failed = of; trace_failed = tf }) s o t (Input TooLong) (n + 1) refl (line, more, one, long, no_feed, consumes_more r0 r s (text_of_lines before.0) _ before.4 taken, no_more o0 o before.1 before.5, no_more t0 t before.2 before.6)
  stopped_input of tf Failed line s other (one, taken) =
      stopped_at (record { left = s; out_failed = of; trace_failed = tf }) s o t (Input Failed) (n + 1) refl (line, one, consumes_more r0 r s (text_of_lines before.0) line before.4 taken, no_more o0 o before.1 before.5, no_more t0 t before.2 before.6)

  pub stopped_lines : (at : AtStop) (k : ℕ) → k ≡ n + 1 → n ≡ most_lines → IsStopped p.config w a h at (Consumes r0 r) (Appends o0 o) (AppendsFront o0 o) (Appends t0 t) (AppendsFront t0 t) Lines k
  stopped_lines at k is most =
      stopped_at at r o t Lines k is (before.7 ∙ most, subst (Consumes r0 r) (sym (append-nil (text_of_lines before.0))) before.4, no_more o0 o before.1 before.5, no_more t0 t before.2 before.6)
