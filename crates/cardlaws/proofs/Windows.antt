-- The window of an object that stays is the same while its table stays.
use Rattle.std.proofs.Common.{◌≡◌, Bool, true, false, not, ◌&&◌, List, [], ◌∷◌, ◌++◌, Some, None, filter, sym, refl, ◌∙◌, subst}
use Rattle.std.proofs.lemmas.Bool.{both_ways, and_parts, not_from_false}
use Rattle.cardmodel.specs.State.{Bytes, Id, Kind, a_table, a_view, Object}
use Rattle.cardmodel.specs.Objects.{is_table, limit_of, named, object_named, table_named, columns_in, all_numbers, selection_in, window}
use Rattle.cardmodel.specs.CatalogueRules.{first_foreign, names_in}
use Rattle.cardmodel.proofs.Lists.{In, first-In, first_found, first_stays}
use Rattle.cardmodel.proofs.Names.{same_true}
use Rattle.cardlaws.specs.Sound.{TableFormed, ViewFormed, Formed}

-- the name of the table that a view selects from
abbrev pub source_of : Object → Bytes
source_of o = (selection_in o.definition).source.bytes

-- a window looks at other objects only for the table of a view
by_kind : (os ps : List Object) (n : Bytes) (u : Id) (k : Kind) (d : Bytes) →
    (k ≡ a_view → table_named ps (selection_in d).source.bytes ≡ table_named os (selection_in d).source.bytes) →
    window ps (record { name = n; owner = u; kind = k; definition = d }) ≡ window os (record { name = n; owner = u; kind = k; definition = d })
unfolding window
by_kind os ps n u (a_table limit) d h = refl
by_kind os ps n u a_view d h = rw (h refl)

pub window_same : (os ps : List Object) (o : Object) → (o.kind ≡ a_view → table_named ps (source_of o) ≡ table_named os (source_of o)) → window ps o ≡ window os o
window_same os ps o h = by_kind os ps o.name o.owner o.kind o.definition h

-- an object, if it were of a kind
abbrev pub of_kind : Object → Kind → Object
of_kind o k = record { name = o.name; owner = o.owner; kind = k; definition = o.definition }

-- a table is no view
pub view_no_table : (o : Object) → o.kind ≡ a_view → is_table o ≡ false
view_no_table o e = go o.kind e
  where
    go : (k : Kind) → k ≡ a_view → is_table (of_kind o k) ≡ false
    go (a_table limit) v = cc
    go a_view v = refl

-- a table's window looks at no other object
pub table_window : (os ps : List Object) (t : Object) → is_table t ≡ true → window ps t ≡ window os t
table_window os ps t e = window_same os ps t (λ v. absurd (both_ways (is_table t) (view_no_table t v) e))

-- a table has no conditions, and shows all of its columns
table_shows : (os : List Object) (n : Bytes) (u : Id) (k : Kind) (d : Bytes) → is_table (record { name = n; owner = u; kind = k; definition = d }) ≡ true →
    ((window os (record { name = n; owner = u; kind = k; definition = d })).tests ≡ []) × ((window os (record { name = n; owner = u; kind = k; definition = d })).columns ≡ all_numbers (columns_in d))
unfolding window
table_shows os n u (a_table limit) d e = (refl, refl)
table_shows os n u a_view d e = absurd (both_ways false refl e)

pub table_tests : (os : List Object) (o : Object) → is_table o ≡ true → (window os o).tests ≡ []
table_tests os o e = (table_shows os o.name o.owner o.kind o.definition e).0

pub table_columns : (os : List Object) (o : Object) → is_table o ≡ true → (window os o).columns ≡ all_numbers (columns_in o.definition)
table_columns os o e = (table_shows os o.name o.owner o.kind o.definition e).1

-- what is known of a view, and of a table, that is well formed
pub view_formed : (os : List Object) (o : Object) → Formed os o → o.kind ≡ a_view → ViewFormed os o.owner o.definition
view_formed os o f e = go o.kind f e
  where
    go : (k : Kind) → Formed os (of_kind o k) → k ≡ a_view → ViewFormed os o.owner o.definition
    go (a_table limit) f e = absurd (both_ways (is_table (of_kind o (a_table limit))) (view_no_table (of_kind o (a_table limit)) e) refl)
    go a_view f e = f

pub table_formed : (os : List Object) (o : Object) → Formed os o → is_table o ≡ true → TableFormed o.definition (limit_of o.kind)
table_formed os o f e = go o.kind f e
  where
    go : (k : Kind) → Formed os (of_kind o k) → is_table (of_kind o k) ≡ true → TableFormed o.definition (limit_of k)
    go (a_table limit) f e = f
    go a_view f e = absurd (both_ways false refl e)

-- what is found as a table is one, and has the name
pub table_found : (os : List Object) (n : Bytes) (t : Object) → table_named os n ≡ Some t → In t os × (t.name ≡ n) × (is_table t ≡ true)
unfolding table_named
table_found os n t e =
    let r = first-In (λ o. named n o && is_table o) os t e in
    let h = and_parts (named n t) (is_table t) r.1 in
    (r.0, same_true t.name n h.0, h.1)

pub object_found : (os : List Object) (n : Bytes) (o : Object) → object_named os n ≡ Some o → In o os × (o.name ≡ n)
unfolding object_named
object_found os n o e = let r = first-In (named n) os o e in (r.0, same_true o.name n r.1)

-- a form looks at other objects only for the table of a view
pub formed_same : (os ps : List Object) (o : Object) → Formed os o →
    (o.kind ≡ a_view → (t : Object) → table_named os (source_of o) ≡ Some t → table_named ps (source_of o) ≡ Some t) → Formed ps o
formed_same os ps o f h = go o.kind f h
  where
    go : (k : Kind) → Formed os (of_kind o k) → (k ≡ a_view → (t : Object) → table_named os (source_of o) ≡ Some t → table_named ps (source_of o) ≡ Some t) → Formed ps (of_kind o k)
    go (a_table limit) f h = f
    go a_view f h = record {
      reads = f.reads;
      short = f.short;
      table = f.table;
      stands = h refl f.table f.stands;
      owned = f.owned;
      columns = subst (λ w. first_foreign w (names_in (selection_in o.definition)) ≡ None)
          (table_window ps os f.table (table_found os (source_of o) f.table f.stands).2) f.columns;
    }

-- AN OBJECT MORE, at the end: what was found is found, and windows and forms are the same
pub table_added : (os : List Object) (x : Object) (n : Bytes) (t : Object) → table_named os n ≡ Some t → table_named (os ++ (x ∷ [])) n ≡ Some t
unfolding table_named
table_added os x n t e = first_found (λ o. named n o && is_table o) os (x ∷ []) t e

pub object_added : (os : List Object) (x : Object) (n : Bytes) (o : Object) → object_named os n ≡ Some o → object_named (os ++ (x ∷ [])) n ≡ Some o
unfolding object_named
object_added os x n o e = first_found (named n) os (x ∷ []) o e

pub window_added : (os : List Object) (o x : Object) → Formed os o → window (os ++ (x ∷ [])) o ≡ window os o
window_added os o x f = window_same os (os ++ (x ∷ [])) o (λ v.
    let h = view_formed os o f v in table_added os x (source_of o) h.table h.stands ∙ sym h.stands)

pub formed_added : (os : List Object) (o x : Object) → Formed os o → Formed (os ++ (x ∷ [])) o
formed_added os o x f = formed_same os (os ++ (x ∷ [])) o f (λ v t e. table_added os x (source_of o) t e)

-- SOME OBJECTS LESS: what stays is found, and its window and form are the same if its table stays
module _ (os : List Object) (gone : Object → Bool) where
  pub table_kept : (n : Bytes) (t : Object) → table_named os n ≡ Some t → gone t ≡ false → table_named (filter (λ x. not (gone x)) os) n ≡ Some t
  unfolding table_named
  table_kept n t e g = first_stays (λ o. named n o && is_table o) (λ x. not (gone x)) os t e (not_from_false (gone t) g)

  pub object_kept : (n : Bytes) (o : Object) → object_named os n ≡ Some o → gone o ≡ false → object_named (filter (λ x. not (gone x)) os) n ≡ Some o
  unfolding object_named
  object_kept n o e g = first_stays (named n) (λ x. not (gone x)) os o e (not_from_false (gone o) g)

  pub window_kept : (o : Object) → Formed os o → (o.kind ≡ a_view → (t : Object) → table_named os (source_of o) ≡ Some t → gone t ≡ false) →
      window (filter (λ x. not (gone x)) os) o ≡ window os o
  window_kept o f g = window_same os (filter (λ x. not (gone x)) os) o (λ v.
      let h = view_formed os o f v in table_kept (source_of o) h.table h.stands (g v h.table h.stands) ∙ sym h.stands)

  pub formed_kept : (o : Object) → Formed os o → (o.kind ≡ a_view → (t : Object) → table_named os (source_of o) ≡ Some t → gone t ≡ false) →
      Formed (filter (λ x. not (gone x)) os) o
  formed_kept o f g = formed_same os (filter (λ x. not (gone x)) os) o f (λ v t e. table_kept (source_of o) t e (g v t e))
