-- One line after the other.
use Rattle.std.proofs.Common.{◌≡◌, ℕ, true, false, List, [], ◌∷◌, ◌++◌, append-nil, Option, Result, Ok, Err, OnErr, OnOk, inl, inr, refl, sym, ap, ◌∙◌, subst}
use Rattle.std.specs.Prelude.{is_err, ◌⊎◌, Bool}
use Rattle.std.specs.Io.KnownBytes.{Appends}
use Rattle.std.proofs.lemmas.List.{append_assoc}
use Rattle.il_syntax.specs.declared.tree.Config.{Config}
use Rattle.group_spec.specs.World.{World}
use Rattle.cli_host.specs.Writes.{AppendsFront}
use Rattle.cli_host.proofs.Known.{appends_more}
use Rattle.serve_lines.specs.declared.said.Said.{Said}
use Rattle.serve_lines.specs.declared.server.ServeFault.{ServeFault}
use Rattle.serve_lines.specs.declared.server.ServeFault.TheVariants as fault
use Rattle.group_world.specs.Worlds.{WorldOf}
use Rattle.serve_lines.specs.Saying.{Says}
use Rattle.serve_lines.specs.Answers.{Acts}
use Rattle.serve_lines.specs.Serving.{is_end, Hears, Serves, Unheard, traced_text}

pub if_err : {X E : Type 0} {P : Type 0} (r : Result X E) → is_err r ≡ true → OnErr r P → P
if_err (Ok x) is p = absurd (cc)
if_err (Err e) is p = p

pub if_ok : {X E : Type 0} {P : Type 0} (r : Result X E) → is_err r ≡ false → OnOk r P → P
if_ok (Ok x) is p = p
if_ok (Err e) is p = absurd (cc)

-- one line more
pub serves_next : (c : Config) (lines : List (List ℕ)) (line : List ℕ) (said : Said) (w m v : World) (a b d : ℕ) (text events first one : List ℕ) → Serves c lines w a m b text events → Hears c line said m v b d first one
    → is_end said ≡ false → Serves c (lines ++ line ∷ []) w a v d (text ++ first) (events ++ one)
serves_next c [] line said w m v a b d text events first one (same, count, no_text, no_events) hears goes = (
  said,
  v,
  d,
  first,
  one,
  [],
  [],
  subst (λ x. Hears c line said x v a d first one) (sym same) (subst (λ n. Hears c line said m v n d first one) (sym count) hears),
  goes,
  (refl, refl, refl, refl),
  ap (λ l. l ++ first) no_text ∙ sym (append-nil first),
  ap (λ l. l ++ one) no_events ∙ sym (append-nil one),
)
serves_next c (x ∷ lines) line said w m v a b d text events first one (other, u, k, t, e, rest, others, heard, on, serves, is, are) hears goes = (
  other,
  u,
  k,
  t,
  e,
  rest ++ first,
  others ++ one,
  heard,
  on,
  serves_next c lines line said u m v k b d rest others first one serves hears goes,
  ap (λ l. l ++ first) is ∙ append_assoc t rest first,
  ap (λ l. l ++ one) are ∙ append_assoc e others one,
)

pub front_behind : (a b d : Option (List ℕ)) (x y : List ℕ) → Appends a b x → AppendsFront b d y → AppendsFront a d (x ++ y)
front_behind a b d x y first (front, rest, grown, is) = (x ++ front, rest, appends_more a b d x front first grown, append_assoc x front rest ∙ ap (λ l. x ++ l) is)

-- a line that is not heard after others
pub unheard_behind : (c : Config) (line : List ℕ) (w : World) (count : ℕ) (of tf : Bool) (f : ServeFault) (o p q t u v : Option (List ℕ)) (text events : List ℕ) → Appends o p text → Appends t u events
    → Unheard c line w count of tf (Appends p q) (AppendsFront p q) (Appends u v) (AppendsFront u v) f
    → Unheard c line w count of tf (λ l. Appends o q (text ++ l)) (λ l. AppendsFront o q (text ++ l)) (λ l. Appends t v (events ++ l)) (λ l. AppendsFront t v (events ++ l)) f
unheard_behind c line w count of tf (fault.WrongLine why) o p q t u v text events out trace (none, x, y) = (none, appends_more o p q text [] out x, appends_more t u v events [] trace y)
unheard_behind c line w count of tf fault.Trace o p q t u v text events out trace (said, says, failed, x, y) = (said, says, failed, appends_more o p q text [] out x, front_behind t u v events _ trace y)
unheard_behind c line w count of tf fault.Output o p q t u v text events out trace (said, m, answer, says, acts, failed, x, y) = (said, m, answer, says, acts, failed, front_behind o p q text answer out x, appends_more t u v events _ trace y)
unheard_behind c line w count of tf fault.Memory o p q t u v text events out trace (said, says, x, y) = (said, says, appends_more o p q text [] out x, front_behind t u v events _ trace y)
unheard_behind c line w count of tf fault.Full o p q t u v text events out trace (said, says, many, x, y) = (said, says, many, appends_more o p q text [] out x, appends_more t u v events [] trace y)

front_all : (a b : Option (List ℕ)) (x : List ℕ) → Appends a b x → AppendsFront a b x
front_all a b x grown = (x, [], grown, append-nil x)

-- a line whose answer failed, after all that is traced of it
pub unheard_answer : (line : List ℕ) (said : Said) (old mid : WorldOf) (v : World) (count : ℕ) (of tf : Bool) (f : ServeFault) (o q t u : Option (List ℕ)) → mid ≡ old → Says old.program.config line said → Appends t u (traced_text old.program.config said count)
    → ((f ≡ fault.Memory) × Appends o q []) ⊎ ((f ≡ fault.Output) × (of ≡ true) × ((text : List ℕ) × Acts mid.program.config said mid.world v text × AppendsFront o q text)) → Unheard old.program.config line old.world count of tf (Appends o q) (AppendsFront o q) (Appends t u) (AppendsFront t u) f
unheard_answer line said old mid v count of tf f o q t u same says traced (inl (is, none)) =
    let here : Unheard old.program.config line old.world count of tf (Appends o q) (AppendsFront o q) (Appends t u) (AppendsFront t u) fault.Memory = (said, says, none, front_all t u _ traced) in
    subst (Unheard old.program.config line old.world count of tf (Appends o q) (AppendsFront o q) (Appends t u) (AppendsFront t u)) (sym is) here
unheard_answer line said old mid v count of tf f o q t u same says traced (inr (is, failed, (text, acts, front))) =
    let acted = subst (λ (x : WorldOf). Acts x.program.config said x.world v text) same acts in
    let here : Unheard old.program.config line old.world count of tf (Appends o q) (AppendsFront o q) (Appends t u) (AppendsFront t u) fault.Output = (said, v, text, says, acted, failed, front, traced) in
    subst (Unheard old.program.config line old.world count of tf (Appends o q) (AppendsFront o q) (Appends t u) (AppendsFront t u)) (sym is) here
