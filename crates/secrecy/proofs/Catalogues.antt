-- The commands that alter the catalogue, on two cards: what a user sees of each table stays, or the user reaches that
-- table itself, or there is none yet.
use Rattle.std.proofs.Common.{◌≡◌, ℕ, ◌-◌, Bool, true, false, cond, not, ◌&&◌, ◌||◌, leb, List, [], ◌∷◌, ◌++◌, map, length, is_some, Some, None, filter, Option, sym, refl, ap, ◌∙◌, subst, append-nil}
use Rattle.std.specs.List.{AllByRecursion}
use Rattle.std.proofs.lemmas.Bool.{both_ways, and_parts, and_right, not-true}
use Rattle.fields.specs.Reader.{Parameter}
use Rattle.commands.specs.declared.command.Profile.{Profile}
use Rattle.commands.specs.Command.{Selected, Permitted}
use Rattle.cardmodel.specs.State.{Bytes, Id, Register, Kind, a_table, a_view, Object, Rights, Grantee, Privilege, Catalogue, Rows, Choice, Cursor, absent, declared, on_row, ended}
use Rattle.cardmodel.specs.Objects.{same, is_table, limit_of, named, object_named, table_named, columns_in, selection_in, over_table, window}
use Rattle.cardmodel.specs.Registers.{has_space, with_one, without_some, with_changed}
use Rattle.cardmodel.specs.Rights.{admitted, named_by, within, some_right, owns, granted, reaches, known, rank_of, creates, creates_tables, grantee_of, grantee_known, joined, minus}
use Rattle.cardmodel.specs.Storing.{makes_table}
use Rattle.cardmodel.specs.CatalogueRules.{Alteration, with_emptied, stands, cursor_kept, row_sum, first_foreign, names_in, without, view_named, is_privilege, privilege_of, with_rights, with_privileges, given, taken_back, creating_user, creating_table, creating_view, dropping_table, dropping_view, granting, revoking}
use Rattle.cardmodel.specs.CursorRules.{through}
use Rattle.cardmodel.specs.Sight.{reached_over, reached}
use Rattle.cardmodel.proofs.Checks.{Holds, holds_unless, holds_unless_at, holds_found}
use Rattle.cardmodel.proofs.Lists.{In, here, there, all-In, first-In, kept-In, kept-++, kept_alike, kept_kept, none_some, nth, nth_length}
use Rattle.cardmodel.proofs.Options.{is_none}
use Rattle.cardmodel.proofs.Rights.{owner_reaches}
use Rattle.cardmodel.proofs.Names.{same_true, same_since, differ_back}
use Rattle.cardlaws.specs.Sound.{Apart, one_name, ViewFormed, Formed, Pointed}
use Rattle.cardlaws.proofs.OtherRights.{granted_added, granted_changed, granted_without, reaches_kept}
use Rattle.cardlaws.proofs.Apart.{apart_eq}
use Rattle.cardlaws.proofs.NewObjects.{no_table}
use Rattle.cardlaws.proofs.Windows.{source_of, view_formed, table_found, object_found, window_added, window_kept}
use Rattle.secrecy.proofs.Ranks.{rank}
use Rattle.secrecy.proofs.Looks.{look, visible, sees}
use Rattle.secrecy.proofs.Bases.{spoken, over_spoken, over_is, table_spoken, view_spoken}
use Rattle.secrecy.proofs.Linked.{before, Seen, Matched, both_absent, both_declared, both_ended, both_on, Fit, At, pointed_at, Whole, whole_rows, whole_place}

-- what an alteration does to a table, as the user sees it
pub data Change (k : Catalogue) (u : Id) (a : Alteration) (t : Bytes) : Type 0 where
  -- it is seen as before, and keeps its rows
  stays : reached k u t ≡ reached a.catalogue u t → ((rows : Rows) → with_emptied rows a.emptied t ≡ rows t) → Change k u a t
  -- the user reaches it itself
  whole : Whole k u t → Change k u a t
  -- there was no such table
  fresh : table_named k.objects.records t ≡ None → Change k u a t

pub emptied_alike : (f g : Rows) (e : Option Bytes) (t : Bytes) → f t ≡ g t → with_emptied f e t ≡ with_emptied g e t
emptied_alike f g None t q = q
emptied_alike f g (Some n) t q = elim (same t n) as (λ b. cond b [] (f t) ≡ cond b [] (g t)) [ true ↦ refl | false ↦ q ]

-- two cards after one alteration
module _ (k : Catalogue) (u : Id) (a : Alteration) (changes : (t : Bytes) → Change k u a t) (f g : Rows) (c d : Cursor) (left : Fit k u f c) (right : Fit k u g d) (q : Seen k u f g) where
  pub altered_seen : Seen a.catalogue u (with_emptied f a.emptied) (with_emptied g a.emptied)
  altered_seen t = go (changes t)
    where
      go : Change k u a t → sees (reached a.catalogue u t) (with_emptied f a.emptied t) ≡ sees (reached a.catalogue u t) (with_emptied g a.emptied t)
      go (stays e h) = rw (h f, h g) (subst (λ vs. sees vs (f t) ≡ sees vs (g t)) e (q t))
      go (whole w) = ap (sees (reached a.catalogue u t)) (emptied_alike f g a.emptied t (whole_rows w f g left.rows right.rows q))
      go (fresh e) = ap (sees (reached a.catalogue u t)) (emptied_alike f g a.emptied t (left.elsewhere t e ∙ sym (right.elsewhere t e)))

  kept_place : (s : Choice) (i j : ℕ) → c ≡ on_row s i → d ≡ on_row s j →
      before k u (spoken s.object) (f (spoken s.object)) i ≡ before k u (spoken s.object) (g (spoken s.object)) j →
      before a.catalogue u (spoken s.object) (with_emptied f a.emptied (spoken s.object)) i ≡ before a.catalogue u (spoken s.object) (with_emptied g a.emptied (spoken s.object)) j
  kept_place s i j ec ed e = go (changes (spoken s.object))
    where
      x : At (through k s) (f (spoken s.object)) i
      x = pointed_at k u f s i (subst (λ z. Pointed k (Some u) f z) ec left.cursor).1

      y : At (through k s) (g (spoken s.object)) j
      y = pointed_at k u g s j (subst (λ z. Pointed k (Some u) g z) ed right.cursor).1

      go : Change k u a (spoken s.object) →
          before a.catalogue u (spoken s.object) (with_emptied f a.emptied (spoken s.object)) i ≡ before a.catalogue u (spoken s.object) (with_emptied g a.emptied (spoken s.object)) j
      go (stays r h) =
          rw (h f, h g) (subst (λ vs. rank visible (look vs) (f (spoken s.object)) i ≡ rank visible (look vs) (g (spoken s.object)) j) r e)
      go (whole w) =
          let n : i ≡ j = whole_place w (f (spoken s.object)) (g (spoken s.object)) i j
          (nth_length (f (spoken s.object)) i x.row x.stands) (nth_length (g (spoken s.object)) j y.row y.stands) e in
          rw (emptied_alike f g a.emptied (spoken s.object) (whole_rows w f g left.rows right.rows q), n) refl
      go (fresh r) = absurd (none_some (subst (λ rs. nth rs i ≡ Some x.row) (left.elsewhere (spoken s.object) r) x.stands))

  pub altered_matched : Matched k u f g c d →
      Matched a.catalogue u (with_emptied f a.emptied) (with_emptied g a.emptied) (cursor_kept a.catalogue.objects.records c) (cursor_kept a.catalogue.objects.records d)
  unfolding cursor_kept
  altered_matched m = go c d refl refl m
    where
      go : (x y : Cursor) → c ≡ x → d ≡ y → Matched k u f g x y →
          Matched a.catalogue u (with_emptied f a.emptied) (with_emptied g a.emptied) (cursor_kept a.catalogue.objects.records x) (cursor_kept a.catalogue.objects.records y)
      go x y ec ed both_absent = both_absent
      go x y ec ed (both_declared s) =
          elim (stands a.catalogue.objects.records s.object) as (λ b. Matched a.catalogue u (with_emptied f a.emptied) (with_emptied g a.emptied) (cond b (declared s) absent) (cond b (declared s) absent))
          [ true ↦ both_declared s | false ↦ both_absent ]
      go x y ec ed (both_ended s) =
          elim (stands a.catalogue.objects.records s.object) as (λ b. Matched a.catalogue u (with_emptied f a.emptied) (with_emptied g a.emptied) (cond b (ended s) absent) (cond b (ended s) absent))
          [ true ↦ both_ended s | false ↦ both_absent ]
      go x y ec ed (both_on s i j e) =
          elim (stands a.catalogue.objects.records s.object) as (λ b. Matched a.catalogue u (with_emptied f a.emptied) (with_emptied g a.emptied) (cond b (on_row s i) absent) (cond b (on_row s j) absent))
          [ true ↦ both_on s i j (kept_place s i j ec ed e) | false ↦ both_absent ]

-- WHAT EACH COMMAND CHANGES
abbrev pub Changes : Catalogue → Id → Alteration → Type 0
Changes k u a = (t : Bytes) → Change k u a t

-- equal windows of equal objects
map_alike : {A B : Type 0} (f g : A → B) (xs : List A) → ((x : A) → In x xs → f x ≡ g x) → map f xs ≡ map g xs
map_alike f g [] h = refl
map_alike f g (x ∷ xs) h =
    let p : f x ≡ g x = h x here in
    let t : map f xs ≡ map g xs = map_alike f g xs (λ y i. h y (there i)) in cc

-- the owner of a table reaches it
pub owner_whole : (k : Catalogue) (u : Id) (t : Bytes) (o : Object) → In o k.objects.records → is_table o ≡ true → o.name ≡ t → owns u o ≡ true → Whole k u t
owner_whole k u t o i b n e = record { object = o; stands = i; reach = owner_reaches k.privileges.records u o e; table = b; named = n }

module _ (k : Catalogue) (u : Id) (names : Apart one_name k.objects.records) (formed : AllByRecursion (Formed k.objects.records) k.objects.records) where
  -- CREATE USER
  pub user_changes : (id : Parameter) (p : Profile) → Holds (Changes k u) (creating_user k u id p)
  unfolding creating_user reached
  user_changes id p =
      holds_unless (Changes k u) (creates (rank_of k.users.records u) p) _ _ (λ _.
      holds_unless (Changes k u) (not (is_some (known k.users.records id.bytes))) _ _ (λ _.
      holds_unless (Changes k u) (has_space k.users) _ _ (λ _ t. stays refl (λ rows. refl))))

  -- an object more, seen over its own table only
  added_reached : (x : Object) (free : ℕ) (t : Bytes) → same (spoken x) t ≡ false →
      reached k u t ≡ reached (record { users = k.users; objects = with_one k.objects x; privileges = k.privileges; free = free }) u t
  unfolding reached
  added_reached x free t e =
      let os = k.objects.records in
      let p = reached_over k.privileges.records u t in
      let gone : p x ≡ false = and_right (reaches k.privileges.records u x) (over_table t x) (over_spoken t x ∙ e) in
      let kept : filter p (os ++ (x ∷ [])) ≡ filter p os = kept-++ p os (x ∷ []) ∙ rw gone (append-nil (filter p os)) in
      let same_windows : map (window os) (filter p os) ≡ map (window (os ++ (x ∷ []))) (filter p os) =
      map_alike (window os) (window (os ++ (x ∷ []))) (filter p os) (λ o i. sym (window_added os o x (all-In (Formed os) formed (kept-In p os i).0))) in
      same_windows ∙ ap (map (window (os ++ (x ∷ [])))) (sym kept)

  -- CREATE TABLE
  pub table_changes : (name : Parameter) (definition : Bytes) (limit : ℕ) → Holds (Changes k u) (creating_table k u name definition limit)
  unfolding creating_table spoken
  table_changes name definition limit =
      holds_unless (Changes k u) (creates_tables (rank_of k.users.records u)) _ _ (λ _.
      holds_unless (Changes k u) (not (is_some (object_named k.objects.records name.bytes))) _ _ (λ new.
      holds_unless (Changes k u) ((leb (length definition) 200 && leb (row_sum (columns_in definition)) 240) && has_space k.objects) _ _ (λ _.
      holds_unless (Changes k u) (makes_table k limit) _ _ (λ _ t. go new t (same t name.bytes) refl))))
    where
      table : Object
      table = record { name = name.bytes; owner = u; kind = a_table limit; definition = definition }

      a : Alteration
      a = record { catalogue = record { users = k.users; objects = with_one k.objects table; privileges = k.privileges; free = k.free - limit }; emptied = Some name.bytes }

      go : not (is_some (object_named k.objects.records name.bytes)) ≡ true → (t : Bytes) (b : Bool) → same t name.bytes ≡ b → Change k u a t
      go new t true e =
          fresh (subst (λ n. table_named k.objects.records n ≡ None) (sym (same_true t name.bytes e)) (no_table k.objects.records name.bytes (is_none _ (not-true _ new))))
      go new t false e = stays (added_reached table _ t (differ_back t name.bytes e)) (λ rows. rw e refl)

  -- CREATE VIEW: over a table that the user owns
  pub view_changes : (name : Parameter) (definition : Bytes) (s : Selected) → (selection_in definition).source.bytes ≡ s.source.bytes → Holds (Changes k u) (creating_view k u name definition s)
  unfolding creating_view spoken
  view_changes name definition s said =
      holds_found (Changes k u) (table_named k.objects.records s.source.bytes) _ _ (λ t found.
      holds_unless (Changes k u) (owns u t) _ _ (λ own.
      holds_unless_at (Changes k u) (first_foreign (window k.objects.records t) (names_in s)) _ _ (λ _.
      holds_unless (Changes k u) (not (is_some (object_named k.objects.records name.bytes))) _ _ (λ _.
      holds_unless (Changes k u) (leb (length definition) 200 && has_space k.objects) _ _ (λ _ n.
      go t (table_found k.objects.records s.source.bytes t found) own n (same (selection_in definition).source.bytes n) refl)))))
    where
      view : Object
      view = record { name = name.bytes; owner = u; kind = a_view; definition = definition }

      a : Alteration
      a = record { catalogue = record { users = k.users; objects = with_one k.objects view; privileges = k.privileges; free = k.free }; emptied = None }

      go : (t : Object) → In t k.objects.records × (t.name ≡ s.source.bytes) × (is_table t ≡ true) → owns u t ≡ true →
          (n : Bytes) (b : Bool) → same (selection_in definition).source.bytes n ≡ b → Change k u a n
      go t found own n true e = whole (owner_whole k u n t found.0 found.2 (found.1 ∙ sym said ∙ same_true _ n e) own)
      go t found own n false e = stays (added_reached view _ n e) (λ rows. refl)

  -- objects that go, with their rights: what stays over a table is seen as before
  module _ (gone : Object → Bool) (freed : ℕ) (emptied : Option Bytes) where
    less_reached : (t : Bytes) → ((o : Object) → In o k.objects.records → over_table t o ≡ true → gone o ≡ false) → reached k u t ≡ reached (without k gone freed emptied).catalogue u t
    unfolding reached
    less_reached t stay =
        let os = k.objects.records in
        let p = reached_over k.privileges.records u t in
        let p' = reached_over (without k gone freed emptied).catalogue.privileges.records u t in
        let kept : filter p os ≡ filter p' (filter (λ x. not (gone x)) os) =
        kept_alike p (λ x. not (gone x) && p' x) os (λ o i. go o i (over_table t o) refl) ∙ sym (kept_kept p' (λ x. not (gone x)) os) in
        map_alike (window os) (window (filter (λ x. not (gone x)) os)) (filter p os) (λ o i. sym (window_kept os gone o (all-In (Formed os) formed (kept-In p os i).0) (table_stays o (kept-In p os i))))
        ∙ ap (map (window (filter (λ x. not (gone x)) os))) kept
      where
        go : (o : Object) → In o k.objects.records → (b : Bool) → over_table t o ≡ b →
            reached_over k.privileges.records u t o ≡ (not (gone o) && reached_over (without k gone freed emptied).catalogue.privileges.records u t o)
        go o i true e = rw (← (reaches_kept k.objects.records names gone k.privileges.records u o i (stay o i e)), stay o i e) refl
        go o i false e = and_right _ _ e ∙ sym (and_right (not (gone o)) _ (and_right _ _ e))

        table_stays : (o : Object) → In o k.objects.records × (reached_over k.privileges.records u t o ≡ true) → o.kind ≡ a_view →
            (x : Object) → table_named k.objects.records (source_of o) ≡ Some x → gone x ≡ false
        table_stays o h v x e =
            let r = table_found k.objects.records (source_of o) x e in
            let n : spoken x ≡ t = table_spoken x r.2 ∙ r.1 ∙ sym (view_spoken o v) ∙ over_is t o (and_parts (reaches k.privileges.records u o) (over_table t o) h.1).1 in
            stay x r.0 (over_spoken t x ∙ same_since (spoken x) t n)

  -- DROP TABLE: the table is the user's own
  pub table_dropped : (name : Parameter) → Holds (Changes k u) (dropping_table k u name)
  unfolding dropping_table
  table_dropped name =
      holds_found (Changes k u) (table_named k.objects.records name.bytes) _ _ (λ o found.
      holds_unless (Changes k u) (owns u o) _ _ (λ own t. go o (table_found k.objects.records name.bytes o found) own t (same t name.bytes) refl))
    where
      go : (o : Object) → In o k.objects.records × (o.name ≡ name.bytes) × (is_table o ≡ true) → owns u o ≡ true → (t : Bytes) (b : Bool) → same t name.bytes ≡ b →
          Change k u (without k (over_table name.bytes) (limit_of o.kind) (Some name.bytes)) t
      go o found own t true e = whole (owner_whole k u t o found.0 found.2 (found.1 ∙ sym (same_true t name.bytes e)) own)
      go o found own t false e =
          stays (less_reached (over_table name.bytes) (limit_of o.kind) (Some name.bytes) t
          (λ x _ h. over_spoken name.bytes x ∙ subst (λ z. same z name.bytes ≡ false) (sym (over_is t x h)) e)) (λ rows. rw e refl)

  -- DROP VIEW: the view's table has its owner
  pub view_dropped : (name : Parameter) → Holds (Changes k u) (dropping_view k u name)
  unfolding dropping_view
  view_dropped name =
      holds_found (Changes k u) (view_named k.objects.records name.bytes) _ _ (λ o found.
      holds_unless (Changes k u) (owns u o) _ _ (λ own.
      let r = first-In (λ o. named name.bytes o && not (is_table o)) k.objects.records o found in
      let p = and_parts (named name.bytes o) (not (is_table o)) r.1 in
      go o r.0 (same_true o.name name.bytes p.0) (not-true (is_table o) p.1) own))
    where
      kind_view : (o : Object) → is_table o ≡ false → o.kind ≡ a_view
      kind_view o e = by_kind o.kind refl
        where
          by_kind : (kind : Kind) → o.kind ≡ kind → o.kind ≡ a_view
          by_kind (a_table n) f = absurd (both_ways (is_table o) e (rw f refl))
          by_kind a_view f = f

      go : (o : Object) → In o k.objects.records → o.name ≡ name.bytes → is_table o ≡ false → owns u o ≡ true → (t : Bytes) → Change k u (without k (named name.bytes) 0 None) t
      go o i n b own t = by_table (same (spoken o) t) refl
        where
          v : ViewFormed k.objects.records o.owner o.definition
          v = view_formed k.objects.records o (all-In (Formed k.objects.records) formed i) (kind_view o b)

          base : In v.table k.objects.records × (v.table.name ≡ source_of o) × (is_table v.table ≡ true)
          base = table_found k.objects.records (source_of o) v.table v.stands

          kept : same (spoken o) t ≡ false → (x : Object) → In x k.objects.records → over_table t x ≡ true → (z : Bool) → named name.bytes x ≡ z → named name.bytes x ≡ false
          kept e x j h false f = f
          kept e x j h true f =
              let q : x ≡ o = apart_eq k.objects.records names x o j i (same_true x.name name.bytes f ∙ sym n) in
              absurd (both_ways (same (spoken o) t) e (subst (λ y. same (spoken y) t ≡ true) q (sym (over_spoken t x) ∙ h)))

          by_table : (z : Bool) → same (spoken o) t ≡ z → Change k u (without k (named name.bytes) 0 None) t
          by_table true e =
              whole (owner_whole k u t v.table base.0 base.2 (base.1 ∙ sym (view_spoken o (kind_view o b)) ∙ same_true (spoken o) t e) (subst (λ w. same w u ≡ true) (sym v.owned) own))
          by_table false e = stays (less_reached (named name.bytes) 0 None t (λ x j h. kept e x j h (named name.bytes x) refl)) (λ rows. refl)

  -- GRANT, REVOKE: on what the user owns, and so reaches already
  abbrev Elsewhere : Bytes → Register Privilege → Type 0
  Elsewhere n ps = (m : Bytes) → same n m ≡ false → granted k.privileges.records u m some_right ≡ granted ps.records u m some_right

  rights_changed : (o : Object) → In o k.objects.records → owns u o ≡ true → (ps : Register Privilege) → Elsewhere o.name ps →
      (t : Bytes) → Change k u (with_privileges k ps) t
  unfolding reached reaches
  rights_changed o i own ps h t = stays (ap (map (window k.objects.records)) (kept_alike _ _ k.objects.records (λ x j. ap (λ b. b && over_table t x) (one x j (same o.name x.name) refl)))) (λ rows. refl)
    where
      one : (x : Object) → In x k.objects.records → (b : Bool) → same o.name x.name ≡ b → reaches k.privileges.records u x ≡ reaches ps.records u x
      one x j true e =
          let q : o ≡ x = apart_eq k.objects.records names o x i j (same_true o.name x.name e) in
          let w : owns u x ≡ true = subst (λ y. owns u y ≡ true) q own in rw w refl
      one x j false e = ap (λ b. owns u x || b) (h x.name e)

  given_elsewhere : (n : Bytes) (g : Grantee) (r : Rights) (o : Option Privilege) → Elsewhere n (given k.privileges u n g r o)
  given_elsewhere n g r None m e = sym (granted_added k.privileges.records u n m e (record { object = n; grantee = g; rights = r; owner = u }) refl)
  given_elsewhere n g r (Some p) m e = sym (granted_changed k.privileges.records u n m e g (λ q. joined q r))

  pub granting_changes : (p : Permitted) → Holds (Changes k u) (granting k u p)
  unfolding granting
  granting_changes p =
      let g = grantee_of p.grantee.bytes in
      holds_found (Changes k u) (object_named k.objects.records p.object.bytes) _ _ (λ o found.
      holds_unless (Changes k u) (grantee_known k.users.records g) _ _ (λ _.
      holds_unless (Changes k u) (owns u o) _ _ (λ own.
      holds_unless (Changes k u) (within (named_by o.kind p.right) (admitted o.kind)) _ _ (λ _.
      holds_unless (Changes k u) (is_some (privilege_of k.privileges.records o.name g) || has_space k.privileges) _ _ (λ _.
      rights_changed o (object_found k.objects.records p.object.bytes o found).0 own _
      (given_elsewhere o.name g (named_by o.kind p.right) (privilege_of k.privileges.records o.name g)))))))

  taken_elsewhere : (n : Bytes) (g : Grantee) (r : Rights) (p : Privilege) → Elsewhere n (taken_back k.privileges n g r p)
  taken_elsewhere n g r p m e =
      elim (some_right (minus p.rights r)) as (λ b. granted k.privileges.records u m some_right ≡ granted
      (cond b (with_changed k.privileges (is_privilege n g) (λ q. with_rights q (minus q.rights r))) (without_some k.privileges (is_privilege n g))).records u m some_right) [
        | true ↦ sym (granted_changed k.privileges.records u n m e g (λ q. minus q r))
        | false ↦ sym (granted_without k.privileges.records u n m e g)
      ]

  pub revoking_changes : (p : Permitted) → Holds (Changes k u) (revoking k u p)
  unfolding revoking
  revoking_changes p =
      let g = grantee_of p.grantee.bytes in
      holds_found (Changes k u) (object_named k.objects.records p.object.bytes) _ _ (λ o found.
      holds_unless (Changes k u) (grantee_known k.users.records g) _ _ (λ _.
      holds_found (Changes k u) (privilege_of k.privileges.records o.name g) _ _ (λ q _.
      holds_unless (Changes k u) (owns u o) _ _ (λ own.
      holds_unless (Changes k u) (within (named_by o.kind p.right) (admitted o.kind)) _ _ (λ _.
      rights_changed o (object_found k.objects.records p.object.bytes o found).0 own _ (taken_elsewhere o.name g (named_by o.kind p.right) q))))))
