-- What the pass finds, against what an annotation asks: the same questions at narrower ranges.
use Rattle.std.proofs.Common.{◌≡◌, Bool, true, false, Option, Some, None, refl, sym, ap, ◌∙◌, subst}
use Rattle.std.specs.Prelude.{option_and_then}
use Rattle.ranges_laws.specs.Found.{provided}
use Rattle.ranges_laws.proofs.Least.{same_some, came}

-- what was found, and what an annotation has in its place
pub record Found {X : Type 0} (Within : X → X → Type 0) (o : Option X) (go : X → Type 0) : Type 0 where
  pub least : X
  pub wide : X
  pub is : o ≡ Some least
  pub within : Within least wide
  pub goes : go wide

-- The pass finds what the narrow question has, and finds something below whatever the wide question has.
pub record Agrees {X : Type 0} (Fine : X → Type 0) (Within : X → X → Type 0) (o : Option X) (narrow wide : (X → Type 0) → Type 0) : Type 1 where
  pub fine : (x : X) → o ≡ Some x → Fine x
  pub sound : (x : X) → o ≡ Some x → (go : X → Type 0) → go x → narrow go
  pub complete : (go : X → Type 0) → wide go → Found Within o go

-- A test that the narrow claim follows from, and that follows from the wide one.
pub record Tests (b : Bool) (P Q : Type 0) : Type 0 where
  pub holds : b ≡ true → P
  pub follows : Q → b ≡ true

pub record Provided {X : Type 0} (b : Bool) (o : Option X) (x : X) : Type 0 where
  pub test : b ≡ true
  pub is : o ≡ Some x

pub provided_is : {X : Type 0} (b : Bool) (o : Option X) (x : X) → provided b o ≡ Some x → Provided b o x
provided_is true o x e = record { test = refl; is = e }
provided_is false o x e = let bad : None ≡ Some x = e in cc

pub is_provided : {X : Type 0} (b : Bool) (o : Option X) → b ≡ true → provided b o ≡ o
is_provided b o e = ap (λ t. provided t o) e

module _ {X : Type 0} (Fine : X → Type 0) (Within : X → X → Type 0) where
  pub agrees_some : (x y : X) → Fine x → Within x y → Agrees Fine Within (Some x) (λ go. go x) (λ go. go y)
  agrees_some x y f w = record {
    fine = λ z e. subst Fine (same_some x z e) f;
    sound = λ z e go h. subst go (sym (same_some x z e)) h;
    complete = λ go h. record { least = x; wide = y; is = refl; within = w; goes = h };
  }

  pub agrees_none : (narrow wide : (X → Type 0) → Type 0) → ((go : X → Type 0) → wide go → ⊥) → Agrees Fine Within None narrow wide
  agrees_none narrow wide h = record {
    fine = λ z e. let bad : None ≡ Some z = e in cc;
    sound = λ z e go g. absurd (let bad : None ≡ Some z = e in cc);
    complete = λ go g. absurd (h go g);
  }

  pub agrees_is : (o p : Option X) (narrow wide : (X → Type 0) → Type 0) → o ≡ p → Agrees Fine Within p narrow wide → Agrees Fine Within o narrow wide
  agrees_is o p narrow wide e a = record {
    fine = λ z h. a.fine z (sym e ∙ h);
    sound = λ z h. a.sound z (sym e ∙ h);
    complete = λ go g. let f = a.complete go g in record { least = f.least; wide = f.wide; is = e ∙ f.is; within = f.within; goes = f.goes };
  }

  -- where a test asks first
  pub agrees_test : (b : Bool) (P Q : Type 0) (o : Option X) (narrow wide : (X → Type 0) → Type 0) → Tests b P Q → (Q → Agrees Fine Within o narrow wide) → (b ≡ true → Agrees Fine Within o narrow wide)
      → Agrees Fine Within (provided b o) (λ go. P × narrow go) (λ go. Q × wide go)
  agrees_test b P Q o narrow wide t from_claim from_test = record {
    fine = λ z e. let p = provided_is b o z e in (from_test p.test).fine z p.is;
    sound = λ z e go g. let p = provided_is b o z e in (t.holds p.test, (from_test p.test).sound z p.is go g);
    complete = λ go g. let f = (from_claim g.0).complete go g.1 in record { least = f.least; wide = f.wide; is = is_provided b o (t.follows g.0) ∙ f.is; within = f.within; goes = f.goes };
  }

  pub agrees_if : (b : Bool) (P Q : Type 0) (o : Option X) (narrow wide : (X → Type 0) → Type 0) → Tests b P Q → Agrees Fine Within o narrow wide → Agrees Fine Within (provided b o) (λ go. P × narrow go) (λ go. Q × wide go)
  agrees_if b P Q o narrow wide t a = agrees_test b P Q o narrow wide t (λ q. a) (λ e. a)

  pub agrees_if_both : (b d : Bool) (P Q R S : Type 0) (o : Option X) (narrow wide : (X → Type 0) → Type 0) → Tests b P Q → Tests d R S → Agrees Fine Within o narrow wide
      → Agrees Fine Within (provided b (provided d o)) (λ go. P × R × narrow go) (λ go. Q × S × wide go)
  agrees_if_both b d P Q R S o narrow wide t v a = record {
    fine = λ z e. let p = provided_is b (provided d o) z e in let q = provided_is d o z p.is in a.fine z q.is;
    sound = λ z e go g. let p = provided_is b (provided d o) z e in let q = provided_is d o z p.is in (t.holds p.test, v.holds q.test, a.sound z q.is go g);
    complete = λ go g. let f = a.complete go g.2 in
        record { least = f.least; wide = f.wide; is = is_provided b (provided d o) (t.follows g.0) ∙ is_provided d o (v.follows g.1) ∙ f.is; within = f.within; goes = f.goes };
  }

-- One question after another.
pub agrees_then : {X Y : Type 0} (FineX : X → Type 0) (WithinX : X → X → Type 0) (FineY : Y → Type 0) (WithinY : Y → Y → Type 0) (o : Option X) (narrow wide : (X → Type 0) → Type 0) → Agrees FineX WithinX o narrow wide → ((x : X) → WithinX x x)
    → (f : X → Option Y) (then_narrow then_wide : X → (Y → Type 0) → Type 0) → ((x y : X) → FineX x → WithinX x y → Agrees FineY WithinY (f x) (then_narrow x) (then_wide y))
    → Agrees FineY WithinY (option_and_then f o) (λ go. narrow (λ x. then_narrow x go)) (λ go. wide (λ x. then_wide x go))
agrees_then FineX WithinX FineY WithinY o narrow wide a itself f tn tw b = record {
  fine = λ z e. let c = came f o z e in (b c.from c.from (a.fine c.from c.was) (itself c.from)).fine z c.gives;
  sound = λ z e go g. let c = came f o z e in a.sound c.from c.was (λ x. tn x go) ((b c.from c.from (a.fine c.from c.was) (itself c.from)).sound z c.gives go g);
  complete = λ go g.
      let h = a.complete (λ x. tw x go) g in
      let k = (b h.least h.wide (a.fine h.least h.is) h.within).complete go h.goes in
      record { least = k.least; wide = k.wide; is = ap (option_and_then f) h.is ∙ k.is; within = k.within; goes = k.goes };
}
