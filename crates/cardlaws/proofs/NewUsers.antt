-- CREATE USER keeps a card sound.
use Rattle.std.proofs.Common.{◌≡◌, ℕ, true, false, not, List, [], ◌∷◌, ◌++◌, is_some as option_is_some, Some, None, Option, refl}
use Rattle.std.proofs.lemmas.Bool.{not-true}
use Rattle.std.proofs.ByRecursion.{All-weaker}
use Rattle.fields.specs.Reader.{Parameter}
use Rattle.commands.specs.declared.command.Profile.{Profile}
use Rattle.cardmodel.specs.Lists.{first}
use Rattle.cardmodel.specs.State.{Id, User, Grantee, all_users, user, Privilege, Catalogue, Card}
use Rattle.cardmodel.specs.Registers.{has_space, with_one}
use Rattle.cardmodel.specs.Rights.{same_id, known, rank_of, creates, grantee_known}
use Rattle.cardmodel.specs.CatalogueRules.{altered, creating_user}
use Rattle.cardmodel.specs.Answer.{Capacities}
use Rattle.cardmodel.proofs.Lists.{In, none-In, first_none, first_found}
use Rattle.cardmodel.proofs.Names.{differ_back}
use Rattle.cardmodel.proofs.Checks.{Holds, holds_unless}
use Rattle.cardmodel.proofs.Options.{is_none, is_some}
use Rattle.cardlaws.specs.Sound.{one_id, Granted, Registered, Sound}
use Rattle.cardlaws.proofs.Apart.{apart_add}
use Rattle.cardlaws.proofs.Registers.{sized_one}
use Rattle.cardlaws.proofs.KeptCursor.{cursor_sound}

-- who is known stays known when a user is added
known_added : (us : List User) (x : User) (id : Id) → option_is_some (known us id) ≡ true → option_is_some (known (us ++ (x ∷ [])) id) ≡ true
unfolding known
known_added us x id e = let r = is_some (first (λ y. same_id y.id id) us) e in rw (first_found (λ y. same_id y.id id) us (x ∷ []) r.0 r.1) refl

grantee_added : (us : List User) (x : User) (g : Grantee) → grantee_known us g ≡ true → grantee_known (us ++ (x ∷ [])) g ≡ true
grantee_added us x all_users e = refl
grantee_added us x (user id) e = known_added us x id e

registered_added : (us : List User) (x : User) (u : Option Id) → Registered us u → Registered (us ++ (x ∷ [])) u
registered_added us x None r = tt
registered_added us x (Some u) r = known_added us x u r

granted_added : (k : Catalogue) (x : User) (p : Privilege) → Granted k p →
    Granted (record { users = with_one k.users x; objects = k.objects; privileges = k.privileges; free = k.free }) p
granted_added k x p g = record {
  object = g.object;
  stands = g.stands;
  owned = g.owned;
  grantee = grantee_added k.users.records x p.grantee g.grantee;
  admits = g.admits;
  some = g.some;
}

unknown : (us : List User) (id : Id) (x : User) → known us id ≡ None → In x us → same_id id x.id ≡ false
unfolding known
unknown us id x e i = differ_back x.id id (none-In (λ y. same_id y.id id) i (first_none (λ y. same_id y.id id) us e))

module _ (total : ℕ) (z : Capacities) (c : Card) (u : Id) (sound : Sound total z c) (present : c.current ≡ Some u) where
  user_added : (x : User) → known c.catalogue.users.records x.id ≡ None → has_space c.catalogue.users ≡ true →
      Sound total z (altered c (record {
        catalogue = record { users = with_one c.catalogue.users x; objects = c.catalogue.objects; privileges = c.catalogue.privileges; free = c.catalogue.free };
        emptied = None;
      }))
  user_added x fresh space = record {
    names = sound.names;
    ids = apart_add one_id c.catalogue.users.records x sound.ids (λ y i. unknown c.catalogue.users.records x.id y fresh i);
    pairs = sound.pairs;
    objects = sound.objects;
    privileges = All-weaker (Granted c.catalogue) _ (granted_added c.catalogue x) c.catalogue.privileges.records sound.privileges;
    rows = sound.rows;
    elsewhere = sound.elsewhere;
    tables = sound.tables;
    sum = sound.sum;
    users_sized = sized_one c.catalogue.users x z.users space sound.users_sized;
    objects_sized = sound.objects_sized;
    privileges_sized = sound.privileges_sized;
    current = registered_added c.catalogue.users.records x c.current sound.current;
    cursor = cursor_sound c.catalogue _ c.rows c.rows c.current c.cursor sound.cursor
        (λ v s e h _. record { stands = h.stands; reached = h.reached; window = refl; rows = refl });
  }

  pub creating_user_sound : (id : Parameter) (p : Profile) → Holds (λ a. Sound total z (altered c a)) (creating_user c.catalogue u id p)
  unfolding creating_user
  creating_user_sound id p =
      holds_unless _ (creates (rank_of c.catalogue.users.records u) p) _ _ (λ _.
      holds_unless _ (not (option_is_some (known c.catalogue.users.records id.bytes))) _ _ (λ fresh.
      holds_unless _ (has_space c.catalogue.users) _ _ (λ space.
      user_added _ (is_none (known c.catalogue.users.records id.bytes) (not-true (option_is_some (known c.catalogue.users.records id.bytes)) fresh)) space)))
