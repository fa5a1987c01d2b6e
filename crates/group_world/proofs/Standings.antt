-- Where the open scan of a task is.
use Rattle.std.proofs.Common.{◌≡◌, ℕ, true, false, Bool, Option, Some, None, Bor, refl, sym, ap, ◌∙◌, subst, if◌then◌else◌}
use Rattle.std.specs.Prelude.{is_some, slice_get, option_map, IfSome}
use Rattle.std.specs.Option.{option_copied}
use Rattle.il_syntax.specs.declared.tree.Config.{Config}
use Rattle.scan_task.specs.Standing.{Standing, IsOf}
use Rattle.group_spec.specs.World.{TaskState, flat, task_at, scan_at}
use Rattle.group_world.specs.declared.world.World.TheInside.{Inside}
use Rattle.group_world.specs.Groups.{holds_tickets, is_open_in, scan_by}
use Rattle.group_world.specs.Kept.{world_in, IsWorld}
use Rattle.group_world.proofs.Views.{scan_here}
use Rattle.group_world.proofs.Happening.{There, found}

shut : (o : Option TaskState) (s : Option Standing) → holds_tickets o ≡ false → scan_by o s ≡ None
shut None s is = refl
shut (Some t) None is = refl
shut (Some t) (Some s) is = ap (λ b. if b then Some s.state else None) is

stood : (o : Option TaskState) (s : Option Standing) → holds_tickets o ≡ true → scan_by o s ≡ option_map (λ (x : Standing). x.state) s
stood None s is = let wrong : false ≡ true = is in cc
stood (Some t) None is = refl
stood (Some t) (Some s) is = ap (λ b. if b then Some s.state else None) is

has_it : (o : Option TaskState) → holds_tickets o ≡ true → is_some o ≡ true
has_it None is = let wrong : false ≡ true = is in cc
has_it (Some t) is = refl

-- what is lent of a store
pub lent_state : (r : Option (Bor Standing)) (s : Standing) → option_copied r ≡ Some s → option_map (λ (b : Bor Standing). b.now.state) r ≡ Some s.state
lent_state None s is = cc
lent_state (Some b) s is = let same : b.now ≡ s = cc in ap (λ (x : Standing). Some x.state) same

pub lent_of_it : (c : Config) (t : ℕ) (r : Option (Bor Standing)) (s : Standing) → option_copied r ≡ Some s → IsOf c t s → IfSome r (λ b. IsOf c t b.now)
lent_of_it c t None s is of = cc
lent_of_it c t (Some b) s is of = let same : s ≡ b.now = cc in subst (IsOf c t) same of

module _ (w : Inside) (is : IsWorld w) (t : ℕ) (b : Bool) (open_is : b ≡ is_open_in w.core.group t) where
  pub scan_shut : b ≡ false → scan_at (world_in w) t ≡ None
  scan_shut closed = scan_here w.core.group.tasks w.stores.items t is.stores.as_many ∙ shut (task_at w.core.group t) (flat (slice_get w.stores.items t)) (sym open_is ∙ closed)

  pub scan_stood : b ≡ true → scan_at (world_in w) t ≡ option_map (λ (x : Standing). x.state) (flat (slice_get w.stores.items t))
  scan_stood opened = scan_here w.core.group.tasks w.stores.items t is.stores.as_many ∙ stood (task_at w.core.group t) (flat (slice_get w.stores.items t)) (sym open_is ∙ opened)

  pub task_there : b ≡ true → There w t
  task_there opened = found w is t true (sym (has_it (task_at w.core.group t) (sym open_is ∙ opened))) refl
