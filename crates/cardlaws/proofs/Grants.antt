-- GRANT and REVOKE keep a card sound.
use Rattle.std.proofs.Common.{◌≡◌, ℕ, Bool, true, false, cond, not, ◌&&◌, ◌||◌, is_some, Some, None, Option, sym, refl, ap, ◌∙◌, subst}
use Rattle.std.specs.List.{AllByRecursion}
use Rattle.std.proofs.lemmas.Bool.{and_parts, and_from, or_left, or_right}
use Rattle.std.proofs.ByRecursion.{All-weaker, All-push, all_kept_by}
use Rattle.commands.specs.declared.command.Right.{Right}
use Rattle.commands.specs.declared.command.Right.TheVariants.{Insert, Select, Update, Delete, All as Every}
use Rattle.commands.specs.Command.{Permitted}
use Rattle.cardmodel.specs.Lists.{first}
use Rattle.cardmodel.specs.State.{Bytes, Id, Register, Kind, a_table, a_view, Object, Rights, Grantee, all_users, user, Privilege, Choice, Card}
use Rattle.cardmodel.specs.Objects.{same, object_named}
use Rattle.cardmodel.specs.Registers.{has_space, with_one, without_some, with_changed}
use Rattle.cardmodel.specs.Rights.{admitted, named_by, joined, minus, within, some_right, granted, owns, reaches, grantee_of, same_grantee, grantee_known}
use Rattle.cardmodel.specs.CatalogueRules.{altered, is_privilege, privilege_of, granting, revoking, given}
use Rattle.cardmodel.specs.Answer.{Capacities}
use Rattle.cardmodel.proofs.Lists.{none-In, some_inj, first_none}
use Rattle.cardmodel.proofs.Names.{same_true, same_since, differ_back}
use Rattle.cardmodel.proofs.Checks.{Holds, holds_unless, holds_found}
use Rattle.cardmodel.proofs.Changed.{all_changed}
use Rattle.cardlaws.specs.Sound.{Apart, one_privilege, Granted, Chosen, Sized, Sound}
use Rattle.cardlaws.proofs.OtherRights.{granted_added, granted_changed, granted_without}
use Rattle.cardlaws.proofs.Apart.{apart_add, apart_kept}
use Rattle.cardlaws.proofs.Registers.{sized_one, sized_some, sized_changed, apart_changed}
use Rattle.cardlaws.proofs.Windows.{object_found}
use Rattle.cardlaws.proofs.KeptCursor.{cursor_sound}

-- rights that join, and rights that are taken away
four : (a b c d : Bool) → ((a && b) && (c && d)) ≡ true → (a ≡ true) × (b ≡ true) × (c ≡ true) × (d ≡ true)
four a b c d e =
    let p = and_parts (a && b) (c && d) e in let q = and_parts a b p.0 in let r = and_parts c d p.1 in (q.0, q.1, r.0, r.1)

one_joined : (a b d : Bool) → (not a || d) ≡ true → (not b || d) ≡ true → (not (a || b) || d) ≡ true
one_joined true b d p q = p
one_joined false b d p q = q

one_less : (a b d : Bool) → (not a || d) ≡ true → (not (a && not b) || d) ≡ true
one_less true true d p = refl
one_less true false d p = p
one_less false b d p = refl

joined_within : (a b d : Rights) → within a d ≡ true → within b d ≡ true → within (joined a b) d ≡ true
joined_within a b d p q =
    let x = four (not a.insert || d.insert) (not a.select || d.select) (not a.update || d.update) (not a.delete || d.delete) p in
    let y = four (not b.insert || d.insert) (not b.select || d.select) (not b.update || d.update) (not b.delete || d.delete) q in
    and_from _ _
    (and_from _ _ (one_joined a.insert b.insert d.insert x.0 y.0) (one_joined a.select b.select d.select x.1 y.1))
    (and_from _ _ (one_joined a.update b.update d.update x.2 y.2) (one_joined a.delete b.delete d.delete x.3 y.3))

minus_within : (a b d : Rights) → within a d ≡ true → within (minus a b) d ≡ true
minus_within a b d p =
    let x = four (not a.insert || d.insert) (not a.select || d.select) (not a.update || d.update) (not a.delete || d.delete) p in
    and_from _ _
    (and_from _ _ (one_less a.insert b.insert d.insert x.0) (one_less a.select b.select d.select x.1))
    (and_from _ _ (one_less a.update b.update d.update x.2) (one_less a.delete b.delete d.delete x.3))

or_more : (a b x y : Bool) → (a ≡ true → x ≡ true) → (b ≡ true → y ≡ true) → (a || b) ≡ true → (x || y) ≡ true
or_more true b x y h k e = or_left x y (h refl)
or_more false b x y h k e = or_right x y (k e)

some_joined : (a b : Rights) → some_right a ≡ true → some_right (joined a b) ≡ true
some_joined a b e = or_more (a.insert || a.select) (a.update || a.delete) _ _
    (or_more a.insert a.select _ _ (or_left a.insert b.insert) (or_left a.select b.select))
    (or_more a.update a.delete _ _ (or_left a.update b.update) (or_left a.delete b.delete)) e

some_named : (k : Kind) (r : Right) → some_right (named_by k r) ≡ true
some_named k Insert = refl
some_named k Select = refl
some_named k Update = refl
some_named k Delete = refl
some_named (a_table limit) Every = refl
some_named a_view Every = refl

-- names and grantees can be compared either way
same_swap : (a b : Bytes) → same a b ≡ same b a
same_swap a b = go (same b a) refl
  where
    go : (d : Bool) → same b a ≡ d → same a b ≡ d
    go true e = same_since a b (sym (same_true b a e))
    go false e = differ_back b a e

grantee_swap : (g h : Grantee) → same_grantee g h ≡ same_grantee h g
grantee_swap all_users all_users = refl
grantee_swap all_users (user h) = refl
grantee_swap (user g) all_users = refl
grantee_swap (user g) (user h) = same_swap g h

-- Privileges on one object are changed by its owner: what is reached of other objects is the same, and the owner reaches its own.
module _ (total : ℕ) (z : Capacities) (c : Card) (u : Id) (sound : Sound total z c) (present : c.current ≡ Some u) where
  module _ (o : Object) (found : object_named c.catalogue.objects.records o.name ≡ Some o) (owned : owns u o ≡ true) where
    privileges_changed : (r : Register Privilege) → Apart one_privilege r.records → AllByRecursion (Granted c.catalogue) r.records → Sized r z.privileges →
        ((m : Bytes) → same o.name m ≡ false → granted r.records u m some_right ≡ granted c.catalogue.privileges.records u m some_right) →
        Sound total z (altered c (record {
          catalogue = record { users = c.catalogue.users; objects = c.catalogue.objects; privileges = r; free = c.catalogue.free };
          emptied = None;
        }))
    unfolding reaches
    privileges_changed r apart each sized others = record {
      names = sound.names;
      ids = sound.ids;
      pairs = apart;
      objects = sound.objects;
      privileges = All-weaker (Granted c.catalogue) _
          (λ p g. record { object = g.object; stands = g.stands; owned = g.owned; grantee = g.grantee; admits = g.admits; some = g.some }) r.records each;
      rows = sound.rows;
      elsewhere = sound.elsewhere;
      tables = sound.tables;
      sum = sound.sum;
      users_sized = sound.users_sized;
      objects_sized = sound.objects_sized;
      privileges_sized = sized;
      current = sound.current;
      cursor = cursor_sound c.catalogue _ c.rows c.rows c.current c.cursor sound.cursor
          (λ v s e h _. record { stands = h.stands; reached = reached v s (some_inj (sym e ∙ present)) h (same o.name s.object.name) refl; window = refl; rows = refl });
    }
      where
        reached : (v : Id) (s : Choice) → v ≡ u → Chosen c.catalogue v s → (b : Bool) → same o.name s.object.name ≡ b → reaches r.records v s.object ≡ true
        reached v s e h true t =
            let x : Some o ≡ Some s.object = sym found ∙ (ap (object_named c.catalogue.objects.records) (same_true o.name s.object.name t) ∙ h.stands) in
            or_left _ _ (subst (λ y. owns v y ≡ true) (some_inj x) (rw e owned))
        reached v s e h false t = ap (λ b. owns v s.object || b) (rw e (others s.object.name t)) ∙ h.reached

    -- a privilege on the object has that object
    on_it : (p : Privilege) (g : Granted c.catalogue p) → p.object ≡ o.name → g.object ≡ o
    on_it p g e = some_inj (sym g.stands ∙ (ap (object_named c.catalogue.objects.records) e ∙ found))

    -- some privilege for a grantee becomes one with other rights
    module _ (g : Grantee) (change : Rights → Rights)
        (fits_in : (p : Privilege) → first (is_privilege o.name g) c.catalogue.privileges.records ≡ Some p → some_right p.rights ≡ true → within p.rights (admitted o.kind) ≡ true →
        (some_right (change p.rights) ≡ true) × (within (change p.rights) (admitted o.kind) ≡ true)) where
      rights_changed : Sound total z (altered c (record {
        catalogue = record {
          users = c.catalogue.users;
          objects = c.catalogue.objects;
          privileges = with_changed c.catalogue.privileges (is_privilege o.name g) (λ q. record { object = q.object; grantee = q.grantee; rights = change q.rights; owner = q.owner });
          free = c.catalogue.free;
        };
        emptied = None;
      }))
      rights_changed = privileges_changed (with_changed c.catalogue.privileges (is_privilege o.name g) turned)
          (apart_changed one_privilege (is_privilege o.name g) turned c.catalogue.privileges.records (λ x y. refl) (λ x y. refl) sound.pairs)
          (all_changed (Granted c.catalogue) (is_privilege o.name g) turned c.catalogue.privileges.records sound.privileges changed)
          (sized_changed c.catalogue.privileges (is_privilege o.name g) turned z.privileges sound.privileges_sized)
          (λ m d. granted_changed c.catalogue.privileges.records u o.name m d g change)
        where
          turned : Privilege → Privilege
          turned q = record { object = q.object; grantee = q.grantee; rights = change q.rights; owner = q.owner }

          on : (p : Privilege) → is_privilege o.name g p ≡ true → p.object ≡ o.name
          on p t = same_true p.object o.name (and_parts (same p.object o.name) (same_grantee p.grantee g) t).0

          changed : (p : Privilege) → Granted c.catalogue p → is_privilege o.name g p ≡ true →
              first (is_privilege o.name g) c.catalogue.privileges.records ≡ Some p → Granted c.catalogue (turned p)
          changed p h t e =
              let i = on_it p h (on p t) in
              let f = fits_in p e h.some (subst (λ x. within p.rights (admitted x.kind) ≡ true) i h.admits) in
              record {
                object = h.object;
                stands = h.stands;
                owned = h.owned;
                grantee = h.grantee;
                admits = subst (λ x. within (change p.rights) (admitted x.kind) ≡ true) (sym i) f.1;
                some = f.0;
              }

    -- a new privilege
    privilege_added : (g : Grantee) (r : Rights) → grantee_known c.catalogue.users.records g ≡ true → within r (admitted o.kind) ≡ true → some_right r ≡ true →
        privilege_of c.catalogue.privileges.records o.name g ≡ None → has_space c.catalogue.privileges ≡ true →
        Sound total z (altered c (record {
          catalogue = record {
            users = c.catalogue.users;
            objects = c.catalogue.objects;
            privileges = with_one c.catalogue.privileges (record { object = o.name; grantee = g; rights = r; owner = u });
            free = c.catalogue.free;
          };
          emptied = None;
        }))
    privilege_added g r known admits some fresh space = privileges_changed (with_one c.catalogue.privileges new)
        (apart_add one_privilege c.catalogue.privileges.records new sound.pairs
        (λ p i. swap p ∙ none-In (is_privilege o.name g) i (first_none (is_privilege o.name g) c.catalogue.privileges.records fresh)))
        (All-push (Granted c.catalogue) c.catalogue.privileges.records new sound.privileges
        (record { object = o; stands = found; owned = same_true o.owner u owned; grantee = known; admits = admits; some = some }))
        (sized_one c.catalogue.privileges new z.privileges space sound.privileges_sized)
        (λ m d. granted_added c.catalogue.privileges.records u o.name m d new refl)
      where
        new : Privilege
        new = record { object = o.name; grantee = g; rights = r; owner = u }

        swap : (p : Privilege) → one_privilege p new ≡ is_privilege o.name g p
        swap p = rw (same_swap o.name p.object, grantee_swap g p.grantee) refl

    -- a privilege less
    privilege_dropped : (g : Grantee) → Sound total z (altered c (record {
      catalogue = record {
        users = c.catalogue.users;
        objects = c.catalogue.objects;
        privileges = without_some c.catalogue.privileges (is_privilege o.name g);
        free = c.catalogue.free;
      };
      emptied = None;
    }))
    privilege_dropped g = privileges_changed (without_some c.catalogue.privileges (is_privilege o.name g))
        (apart_kept one_privilege (λ p. not (is_privilege o.name g p)) c.catalogue.privileges.records sound.pairs)
        (all_kept_by (λ p. not (is_privilege o.name g p)) (Granted c.catalogue) c.catalogue.privileges.records sound.privileges)
        (sized_some c.catalogue.privileges (is_privilege o.name g) z.privileges sound.privileges_sized)
        (λ m d. granted_without c.catalogue.privileges.records u o.name m d g)

  stands_itself : (n : Bytes) (o : Object) → object_named c.catalogue.objects.records n ≡ Some o → object_named c.catalogue.objects.records o.name ≡ Some o
  stands_itself n o e = subst (λ m. object_named c.catalogue.objects.records m ≡ Some o) (sym (object_found c.catalogue.objects.records n o e).1) e

  -- rights are given to a grantee, who had a privilege or had none
  given_sound : (o : Object) → object_named c.catalogue.objects.records o.name ≡ Some o → owns u o ≡ true → (g : Grantee) → grantee_known c.catalogue.users.records g ≡ true →
      (r : Rights) → within r (admitted o.kind) ≡ true → some_right r ≡ true →
      (f : Option Privilege) → privilege_of c.catalogue.privileges.records o.name g ≡ f → (is_some f || has_space c.catalogue.privileges) ≡ true →
      Sound total z (altered c (record {
        catalogue = record { users = c.catalogue.users; objects = c.catalogue.objects; privileges = given c.catalogue.privileges u o.name g r f; free = c.catalogue.free };
        emptied = None;
      }))
  given_sound o found owned g known r admits some None e space = privilege_added o found owned g r known admits some e space
  given_sound o found owned g known r admits some (Some p) e space =
      rights_changed o found owned g (λ q. joined q r) (λ q _ h w. (some_joined q.rights r h, joined_within q.rights r (admitted o.kind) w admits))

  pub granting_sound : (p : Permitted) → Holds (λ a. Sound total z (altered c a)) (granting c.catalogue u p)
  unfolding granting
  granting_sound p =
      holds_found _ (object_named c.catalogue.objects.records p.object.bytes) _ _ (λ o found.
      holds_unless _ (grantee_known c.catalogue.users.records (grantee_of p.grantee.bytes)) _ _ (λ known.
      holds_unless _ (owns u o) _ _ (λ owned.
      holds_unless _ (within (named_by o.kind p.right) (admitted o.kind)) _ _ (λ admits.
      holds_unless _ (is_some (privilege_of c.catalogue.privileges.records o.name (grantee_of p.grantee.bytes)) || has_space c.catalogue.privileges) _ _ (λ space.
      given_sound o (stands_itself p.object.bytes o found) owned (grantee_of p.grantee.bytes) known (named_by o.kind p.right) admits (some_named o.kind p.right) _ refl space)))))

  -- the register with rights taken from a grantee, whose privilege goes when nothing is left of it
  taken_sound : (o : Object) → object_named c.catalogue.objects.records o.name ≡ Some o → owns u o ≡ true → (g : Grantee) (r : Rights) (q : Privilege) →
      privilege_of c.catalogue.privileges.records o.name g ≡ Some q → (b : Bool) → some_right (minus q.rights r) ≡ b →
      Sound total z (altered c (record {
        catalogue = record {
          users = c.catalogue.users;
          objects = c.catalogue.objects;
          privileges = cond b
              (with_changed c.catalogue.privileges (is_privilege o.name g) (λ p. record { object = p.object; grantee = p.grantee; rights = minus p.rights r; owner = p.owner }))
              (without_some c.catalogue.privileges (is_privilege o.name g));
          free = c.catalogue.free;
        };
        emptied = None;
      }))
  taken_sound o found owned g r q holds true left = rights_changed o found owned g (λ p. minus p r) (λ p e h w.
      (subst (λ (x : Privilege). some_right (minus x.rights r) ≡ true) (some_inj (sym holds ∙ e)) left, minus_within p.rights r (admitted o.kind) w))
  taken_sound o found owned g r q holds false left = privilege_dropped o found owned g

  pub revoking_sound : (p : Permitted) → Holds (λ a. Sound total z (altered c a)) (revoking c.catalogue u p)
  unfolding revoking
  revoking_sound p =
      holds_found _ (object_named c.catalogue.objects.records p.object.bytes) _ _ (λ o found.
      holds_unless _ (grantee_known c.catalogue.users.records (grantee_of p.grantee.bytes)) _ _ (λ known.
      holds_found _ (privilege_of c.catalogue.privileges.records o.name (grantee_of p.grantee.bytes)) _ _ (λ q holds.
      holds_unless _ (owns u o) _ _ (λ owned.
      holds_unless _ (within (named_by o.kind p.right) (admitted o.kind)) _ _ (λ admits.
      taken_sound o (stands_itself p.object.bytes o found) owned (grantee_of p.grantee.bytes) (named_by o.kind p.right) q holds _ refl)))))
