-- DROP TABLE and DROP VIEW keep a card sound.
use Rattle.std.proofs.Common.{◌≡◌, ℕ, Bool, true, false, cond, not, ◌&&◌, List, [], ◌∷◌, Some, None, sum_by, filter as kept_by, Option, sym, refl, ap, ◌∙◌, subst, arith}
use Rattle.std.proofs.lemmas.Bool.{not-true, both_ways, and_parts, and_from}
use Rattle.std.proofs.lemmas.List.Sums.{sum_by-cons as sumBy-cons}
use Rattle.std.proofs.lemmas.List.Filters.{sum_by-filter_both}
use Rattle.fields.specs.Reader.{Parameter}
use Rattle.cardmodel.specs.State.{Bytes, Id, Kind, a_table, a_view, Object, Privilege, Choice, Card}
use Rattle.cardmodel.specs.Objects.{same, is_table, limit_of, named, object_named, table_named, base, over_table, window}
use Rattle.cardmodel.specs.Rights.{owns}
use Rattle.cardmodel.specs.CatalogueRules.{altered, stands, with_rows, with_emptied, without, view_named, dropping_table, dropping_view}
use Rattle.cardmodel.specs.CursorRules.{through}
use Rattle.cardmodel.specs.Answer.{Capacities}
use Rattle.cardmodel.proofs.Lists.{In, here, there, In-all, all-In, any-In, none-In, none_some, first-In, kept-In, kept_no_longer, sum_nothing}
use Rattle.cardmodel.proofs.Names.{same_true, same_since, differ_back}
use Rattle.cardmodel.proofs.Checks.{Holds, holds_unless, holds_found}
use Rattle.cardmodel.proofs.Options.{is_some}
use Rattle.cardlaws.specs.Sound.{Apart, one_name, one_privilege, Formed, RowsFormed, RowsOf, Granted, Chosen, Sound}
use Rattle.cardlaws.proofs.OtherRights.{lost, reaches_kept}
use Rattle.cardlaws.proofs.Apart.{apart_kept, apart_eq}
use Rattle.cardlaws.proofs.Registers.{sized_some}
use Rattle.cardlaws.proofs.Windows.{of_kind, source_of, view_no_table, table_found, object_found, table_kept, object_kept, window_kept, formed_kept}
use Rattle.cardlaws.proofs.KeptCursor.{ChoiceKept, cursor_sound, behind_same}

-- the table that an object speaks of
pub base_table : (o : Object) → is_table o ≡ true → base o ≡ Some o.name
unfolding base
base_table o e = go o.kind e
  where
    go : (k : Kind) → is_table (of_kind o k) ≡ true → base (of_kind o k) ≡ Some o.name
    go (a_table limit) e = refl
    go a_view e = absurd (both_ways false refl e)

pub base_view : (o : Object) → o.kind ≡ a_view → base o ≡ Some (source_of o)
unfolding base
base_view o e = go o.kind e
  where
    go : (k : Kind) → k ≡ a_view → base (of_kind o k) ≡ Some (source_of o)
    go (a_table limit) e = absurd (both_ways true (view_no_table (of_kind o (a_table limit)) e) refl)
    go a_view e = refl

pub window_base : (os : List Object) (o : Object) → (window os o).table ≡ base o
unfolding window
window_base os o = refl

view_limit : (o : Object) → is_table o ≡ false → limit_of o.kind ≡ 0
view_limit o e = go o.kind e
  where
    go : (k : Kind) → is_table (of_kind o k) ≡ false → limit_of k ≡ 0
    go (a_table limit) e = absurd (both_ways true e refl)
    go a_view e = refl

over_base : (n m : Bytes) (o : Object) → base o ≡ Some m → over_table n o ≡ same m n
over_base n m o e = rw e refl

-- of objects with different names, a sum to which only one adds
sum_one : (f : Object → ℕ) (p : Object → Bool) (os : List Object) → Apart one_name os → (o : Object) → In o os → p o ≡ true →
    ((x : Object) → In x os → p x ≡ true → same x.name o.name ≡ false → f x ≡ 0) → sum_by f (kept_by p os) ≡ f o
sum_one f p [] a o i e h = elim i [ ]
sum_one f p (y ∷ os) a o here e h =
    rw e (sumBy-cons f y (kept_by p os) ∙ (let z = sum_nothing f p os (λ x i t. h x (there i) t (none-In (one_name y) i a.0)) in omega arith))
sum_one f p (y ∷ os) a o (there i) e h = go (p y) refl (sum_one f p os a.1 o i e (λ x j. h x (there j)))
  where
    go : (b : Bool) → p y ≡ b → sum_by f (kept_by p os) ≡ f o → sum_by f (cond b (y ∷ kept_by p os) (kept_by p os)) ≡ f o
    go true t ih = sumBy-cons f y (kept_by p os) ∙ (let z = h y here t (differ_back o.name y.name (none-In (one_name y) i a.0)) in omega arith)
    go false t ih = ih

-- What goes takes its rights with it; what stays has its rights, its form and its rows.
module _ (total : ℕ) (z : Capacities) (c : Card) (u : Id) (sound : Sound total z c) (present : c.current ≡ Some u) where
  module _ (gone : Object → Bool) (freed : ℕ) (emptied : Option Bytes)
      (tables-stay : (o : Object) → In o c.catalogue.objects.records → gone o ≡ false → o.kind ≡ a_view → (t : Object) →
      table_named c.catalogue.objects.records (source_of o) ≡ Some t → gone t ≡ false)
      (rows_stay : (o : Object) (n : Bytes) → In o c.catalogue.objects.records → gone o ≡ false → base o ≡ Some n → with_emptied c.rows emptied n ≡ c.rows n)
      (rows-go : (t : Bytes) → table_named (kept_by (λ x. not (gone x)) c.catalogue.objects.records) t ≡ None → with_emptied c.rows emptied t ≡ [])
      (Sum-Goes : sum_by (λ (o : Object). limit_of o.kind) (kept_by gone c.catalogue.objects.records) ≡ freed) where
    abbrev olds : List Object
    olds = c.catalogue.objects.records

    abbrev gone_with : Privilege → Bool
    gone_with = lost olds sound.names gone

    stays : (x : Object) → In x (kept_by (λ x. not (gone x)) olds) → In x olds × (gone x ≡ false)
    stays x i = let r = kept-In (λ y. not (gone y)) olds i in (r.0, not-true (gone x) r.1)

    granted_kept : (p : Privilege) → In p (kept_by (λ q. not (gone_with q)) c.catalogue.privileges.records) → Granted (without c.catalogue gone freed emptied).catalogue p
    granted_kept p i =
        let r = kept-In (λ q. not (gone_with q)) c.catalogue.privileges.records i in
        let g = all-In (Granted c.catalogue) sound.privileges r.0 in
        let f = object_found olds p.object g.object g.stands in
        record {
          object = g.object;
          stands = object_kept olds gone p.object g.object g.stands (not_gone p g.object f.0 f.1 (not-true (gone_with p) r.1));
          owned = g.owned;
          grantee = g.grantee;
          admits = g.admits;
          some = g.some;
        }
      where
        not_gone : (p : Privilege) (o : Object) → In o olds → o.name ≡ p.object → gone_with p ≡ false → gone o ≡ false
        not_gone p o i e h = go (gone o) refl
          where
            go : (b : Bool) → gone o ≡ b → gone o ≡ false
            go true t = absurd (both_ways (gone_with p) h (any-In (λ x. gone x && named p.object x) i (and_from (gone o) (named p.object o) t (same_since o.name p.object e))))
            go false t = t

    rows_kept : (o : Object) → In o (kept_by (λ x. not (gone x)) olds) → RowsOf (with_emptied c.rows emptied) o
    rows_kept o i t =
        let r = stays o i in
        subst (RowsFormed o) (sym (rows_stay o o.name r.0 r.1 (base_table o t))) (all-In (RowsOf c.rows) sound.rows r.0 t)

    -- an object that stands after it stood before, and no privilege on it is lost
    standing : (o : Object) → In o olds → stands (kept_by (λ x. not (gone x)) olds) o ≡ true → gone o ≡ false
    standing o i e =
        let r = is_some (object_named (kept_by (λ x. not (gone x)) olds) o.name) e in
        let f = object_found (kept_by (λ x. not (gone x)) olds) o.name r.0 r.1 in
        let g = stays r.0 f.0 in
        subst (λ x. gone x ≡ false) (apart_eq olds sound.names r.0 o g.0 i f.1) g.1

    dropped_sound : Sound total z (altered c (without c.catalogue gone freed emptied))
    dropped_sound = record {
      names = apart_kept one_name (λ x. not (gone x)) olds sound.names;
      ids = sound.ids;
      pairs = apart_kept one_privilege (λ p. not (gone_with p)) c.catalogue.privileges.records sound.pairs;
      objects = In-all (Formed (kept_by (λ x. not (gone x)) olds)) (kept_by (λ x. not (gone x)) olds) (λ o i.
          let r = stays o i in formed_kept olds gone o (all-In (Formed olds) sound.objects r.0) (tables-stay o r.0 r.1));
      privileges = In-all _ (kept_by (λ p. not (gone_with p)) c.catalogue.privileges.records) granted_kept;
      rows = In-all _ (kept_by (λ x. not (gone x)) olds) rows_kept;
      elsewhere = rows-go;
      tables = let l = kept_no_longer is_table (λ x. not (gone x)) olds in let m = sound.tables in omega arith;
      sum =
          let p = sum_by-filter_both gone (λ x. not (gone x)) (λ x. refl) (λ (o : Object). limit_of o.kind) olds in
          let q = sound.sum in omega arith;
      users_sized = sound.users_sized;
      objects_sized = sized_some c.catalogue.objects gone z.objects sound.objects_sized;
      privileges_sized = sized_some c.catalogue.privileges gone_with z.privileges sound.privileges_sized;
      current = sound.current;
      cursor = cursor_sound c.catalogue _ c.rows (with_emptied c.rows emptied) c.current c.cursor sound.cursor choice_kept;
    }
      where
        choice_kept : (v : Id) (s : Choice) → c.current ≡ Some v → Chosen c.catalogue v s → stands (kept_by (λ x. not (gone x)) olds) s.object ≡ true →
            ChoiceKept c.catalogue (without c.catalogue gone freed emptied).catalogue c.rows (with_emptied c.rows emptied) v s
        choice_kept v s e h t =
            let i = (object_found olds s.object.name s.object h.stands).0 in
            let g = standing s.object i t in
            record {
              stands = object_kept olds gone s.object.name s.object h.stands g;
              reached = reaches_kept olds sound.names gone c.catalogue.privileges.records v s.object i g ∙ h.reached;
              window = window_kept olds gone s.object (all-In (Formed olds) sound.objects i) (tables-stay s.object i g);
              rows = behind_same c.rows (with_emptied c.rows emptied) (through c.catalogue s) (λ n b. rows_stay s.object n i g (sym (window_base olds s.object) ∙ b));
            }

  -- DROP TABLE: of the objects over a table, the table alone has rows
  table_dropped : (n : Bytes) (o : Object) → table_named c.catalogue.objects.records n ≡ Some o →
      Sound total z (altered c (without c.catalogue (over_table n) (limit_of o.kind) (Some n)))
  table_dropped n o found = dropped_sound (over_table n) (limit_of o.kind) (Some n) tables rows others sum
    where
      os : List Object
      os = c.catalogue.objects.records

      tables : (x : Object) → In x os → over_table n x ≡ false → x.kind ≡ a_view → (t : Object) → table_named os (source_of x) ≡ Some t → over_table n t ≡ false
      tables x i g v t e =
          let f = table_found os (source_of x) t e in
          over_base n t.name t (base_table t f.2) ∙ (ap (λ m. same m n) f.1 ∙ (sym (over_base n (source_of x) x (base_view x v)) ∙ g))

      rows : (x : Object) (m : Bytes) → In x os → over_table n x ≡ false → base x ≡ Some m → with_rows c.rows n [] m ≡ c.rows m
      rows x m i g b = rw (sym (over_base n m x b) ∙ g) refl

      others : (t : Bytes) → table_named (kept_by (λ x. not (over_table n x)) os) t ≡ None → with_rows c.rows n [] t ≡ []
      others t e = go (same t n) refl (table_named os t) refl
        where
          go : (b : Bool) → same t n ≡ b → (f : Option Object) → table_named os t ≡ f → cond b [] (c.rows t) ≡ []
          go true h f p = refl
          go false h None p = sound.elsewhere t p
          go false h (Some x) p =
              let r = table_found os t x p in
              absurd (none_some (sym e ∙ table_kept os (over_table n) t x p (over_base n x.name x (base_table x r.2) ∙ (ap (λ m. same m n) r.1 ∙ h))))

      sum : sum_by (λ (x : Object). limit_of x.kind) (kept_by (over_table n) os) ≡ limit_of o.kind
      sum = let r = table_found os n o found in
          sum_one (λ (x : Object). limit_of x.kind) (over_table n) os sound.names o r.0 (over_base n o.name o (base_table o r.2) ∙ same_since o.name n r.1)
          (λ x i g d. view_limit x (go x g (subst (λ m. same x.name m ≡ false) r.1 d) (is_table x) refl))
        where
          go : (x : Object) → over_table n x ≡ true → same x.name n ≡ false → (b : Bool) → is_table x ≡ b → is_table x ≡ false
          go x g d false t = t
          go x g d true t = absurd (both_ways (same x.name n) d (sym (over_base n x.name x (base_table x t)) ∙ g))

  pub dropping_table_sound : (name : Parameter) → Holds (λ a. Sound total z (altered c a)) (dropping_table c.catalogue u name)
  unfolding dropping_table
  dropping_table_sound name =
      holds_found _ (table_named c.catalogue.objects.records name.bytes) _ _ (λ o found.
      holds_unless _ (owns u o) _ _ (λ _. table_dropped name.bytes o found))

  -- DROP VIEW: an object with the name of a view is that view, and no table
  view_dropped : (n : Bytes) (o : Object) → view_named c.catalogue.objects.records n ≡ Some o → Sound total z (altered c (without c.catalogue (named n) 0 None))
  view_dropped n o found = dropped_sound (named n) 0 None (λ x i g v t e. let f = table_found os (source_of x) t e in stays_named t f.0 f.2) (λ x m i g b. refl) others sum
    where
      os : List Object
      os = c.catalogue.objects.records

      no_named : (x : Object) → In x os → named n x ≡ true → is_table x ≡ false
      no_named x i g =
          let r = first-In (λ y. named n y && not (is_table y)) os o found in
          let h = and_parts (named n o) (not (is_table o)) r.1 in
          subst (λ y. is_table y ≡ false) (apart_eq os sound.names o x r.0 i (same_true o.name n h.0 ∙ sym (same_true x.name n g))) (not-true (is_table o) h.1)

      stays_named : (x : Object) → In x os → is_table x ≡ true → named n x ≡ false
      stays_named x i t = go (named n x) refl
        where
          go : (b : Bool) → named n x ≡ b → named n x ≡ false
          go false g = g
          go true g = absurd (both_ways (is_table x) (no_named x i g) t)

      others : (t : Bytes) → table_named (kept_by (λ x. not (named n x)) os) t ≡ None → c.rows t ≡ []
      others t e = go (table_named os t) refl
        where
          go : (f : Option Object) → table_named os t ≡ f → c.rows t ≡ []
          go None p = sound.elsewhere t p
          go (Some x) p = let r = table_found os t x p in absurd (none_some (sym e ∙ table_kept os (named n) t x p (stays_named x r.0 r.2)))

      sum : sum_by (λ (x : Object). limit_of x.kind) (kept_by (named n) os) ≡ 0
      sum = sum_nothing (λ (x : Object). limit_of x.kind) (named n) os (λ x i g. view_limit x (no_named x i g))

  pub dropping_view_sound : (name : Parameter) → Holds (λ a. Sound total z (altered c a)) (dropping_view c.catalogue u name)
  unfolding dropping_view
  dropping_view_sound name =
      holds_found _ (view_named c.catalogue.objects.records name.bytes) _ _ (λ o found.
      holds_unless _ (owns u o) _ _ (λ _. view_dropped name.bytes o found))
