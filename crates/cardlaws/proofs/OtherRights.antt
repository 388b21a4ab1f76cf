-- Rights on other objects: privileges on one object matter to no other, and what stays keeps its privileges.
use Rattle.std.proofs.Common.{◌≡◌, Bool, true, false, not, ◌&&◌, ◌||◌, List, [], ◌∷◌, ◌++◌, filter, sym, refl, ap, ◌∙◌, subst}
use Rattle.std.proofs.lemmas.Bool.{both_ways, and_parts, and_left, not_from_false}
use Rattle.cardmodel.specs.Lists.{any}
use Rattle.cardmodel.specs.State.{Bytes, Id, Object, Rights, Grantee, Privilege}
use Rattle.cardmodel.specs.Objects.{same, named}
use Rattle.cardmodel.specs.Registers.{changed_first}
use Rattle.cardmodel.specs.Rights.{some_right, fits, granted, owns, reaches}
use Rattle.cardmodel.specs.CatalogueRules.{is_privilege, with_rights}
use Rattle.cardmodel.proofs.Changed.{any_changed}
use Rattle.cardmodel.proofs.Lists.{In, any_none, any-++, any_kept}
use Rattle.cardmodel.proofs.Names.{same_true}
use Rattle.cardlaws.specs.Sound.{Apart, one_name}
use Rattle.cardlaws.proofs.Apart.{apart_eq}

-- a privilege on an object gives a user some right on it
abbrev hits : Id → Bytes → Privilege → Bool
hits u m p = (same p.object m && fits p.grantee u) && some_right p.rights

misses : (u : Id) (n m : Bytes) (p : Privilege) → same n m ≡ false → p.object ≡ n → hits u m p ≡ false
misses u n m p e f = and_left _ _ (and_left _ _ (subst (λ z. same z m ≡ false) (sym f) e))

on_object : (n : Bytes) (g : Grantee) (p : Privilege) → is_privilege n g p ≡ true → p.object ≡ n
on_object n g p e = same_true p.object n (and_parts (same p.object n) _ e).0

or_off : (b : Bool) → (b || false) ≡ b
or_off true = refl
or_off false = refl

-- One more privilege, one with other rights, and one less: on an object n they matter to no other object m.
module _ (ps : List Privilege) (u : Id) (n m : Bytes) (e : same n m ≡ false) where
  pub granted_added : (p : Privilege) → p.object ≡ n → granted (ps ++ (p ∷ [])) u m some_right ≡ granted ps u m some_right
  unfolding granted
  granted_added p f = any-++ (hits u m) ps (p ∷ []) ∙ rw (misses u n m p e f) (or_off _)

  pub granted_changed : (g : Grantee) (change : Rights → Rights) → granted (changed_first (is_privilege n g) (λ q. with_rights q (change q.rights)) ps) u m some_right ≡ granted ps u m some_right
  unfolding granted
  granted_changed g change = any_changed (hits u m) (is_privilege n g) _ ps (λ q h.
      misses u n m (with_rights q (change q.rights)) e (on_object n g q h) ∙ sym (misses u n m q e (on_object n g q h)))

  pub granted_without : (g : Grantee) → granted (filter (λ q. not (is_privilege n g q)) ps) u m some_right ≡ granted ps u m some_right
  unfolding granted
  granted_without g = any_kept (hits u m) (λ q. not (is_privilege n g q)) ps (λ q _ h. not_from_false _ (other q h (is_privilege n g q) refl))
    where
      other : (q : Privilege) → hits u m q ≡ true → (b : Bool) → is_privilege n g q ≡ b → is_privilege n g q ≡ false
      other q h false f = f
      other q h true f = absurd (both_ways (hits u m q) (misses u n m q e (on_object n g q f)) h)

-- Objects go with the privileges on them: what stays is reached as before.
module _ (os : List Object) (names : Apart one_name os) (gone : Object → Bool) where
  -- a privilege on an object that goes
  abbrev pub lost : Privilege → Bool
  lost p = any (λ o. gone o && named p.object o) os

  not_lost : (x : Object) → In x os → gone x ≡ false → (p : Privilege) → p.object ≡ x.name → lost p ≡ false
  not_lost x i f p e = any_none (λ o. gone o && named p.object o) os (λ o j. go o j (gone o) (named p.object o) refl refl)
    where
      go : (o : Object) → In o os → (b c : Bool) → gone o ≡ b → named p.object o ≡ c → (b && c) ≡ false
      go o j true true s t =
          let q : x ≡ o = apart_eq os names x o i j (sym e ∙ sym (same_true o.name p.object t)) in
          absurd (both_ways (gone o) (subst (λ z. gone z ≡ false) q f) s)
      go o j true false s t = refl
      go o j false c s t = refl

  pub reaches_kept : (ps : List Privilege) (u : Id) (x : Object) → In x os → gone x ≡ false → reaches (filter (λ p. not (lost p)) ps) u x ≡ reaches ps u x
  unfolding reaches granted
  reaches_kept ps u x i f = ap (λ b. owns u x || b) (any_kept (hits u x.name) (λ p. not (lost p)) ps (λ p _ h.
      not_from_false _ (not_lost x i f p (same_true p.object x.name (and_parts (same p.object x.name) _ (and_parts _ _ h).0).0))))
