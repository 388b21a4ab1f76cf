-- Cards after a command of rows or of the cursor: what must be shown of them, and the table behind an object.
use Rattle.std.proofs.Common.{◌≡◌, ℕ, Bool, true, false, cond, ◌&&◌, List, [], Some, None, Option, sym, refl, ap, ◌∙◌, subst}
use Rattle.std.specs.List.{AllByRecursion}
use Rattle.std.proofs.lemmas.Bool.{and_from, both_ways}
use Rattle.cardmodel.specs.State.{Bytes, Id, Row, Kind, a_table, a_view, Object, Rows, Choice, Cursor, Card}
use Rattle.cardmodel.specs.Objects.{same, is_table, named, table_named, columns_in, selection_in, base, Window, window, rows_behind}
use Rattle.cardmodel.specs.Verdict.{gives}
use Rattle.cardmodel.specs.CatalogueRules.{with_rows}
use Rattle.cardmodel.specs.CursorRules.{Step, moved}
use Rattle.cardmodel.specs.Answer.{Capacities}
use Rattle.cardmodel.proofs.Lists.{In, all-In, In-all, none-In, first_none}
use Rattle.cardmodel.proofs.Names.{same_true, same_since}
use Rattle.cardlaws.specs.Sound.{Formed, RowsFormed, RowsOf, Chosen, StandsAt, Pointed, Sound}
use Rattle.cardlaws.proofs.Apart.{apart_eq}
use Rattle.cardlaws.proofs.Windows.{object_found, table_found}

-- a table that stands is found
pub table_stands : (os : List Object) (t : Object) (n : Bytes) → In t os → is_table t ≡ true → t.name ≡ n → table_named os n ≡ None → ⊥
unfolding table_named
table_stands os t n i e f none =
    both_ways (named n t && is_table t) (none-In (λ o. named n o && is_table o) i (first_none (λ o. named n o && is_table o) os none))
    (and_from (named n t) (is_table t) (same_since t.name n f) e)

-- THE TABLE BEHIND an object that is well formed: it stands, and its columns are those that the object's window holds
pub record Behind (os : List Object) (o : Object) : Type 0 where
  pub table : Object
  pub stands : In table os
  pub a_table : is_table table ≡ true
  pub named : (window os o).table ≡ Some table.name
  pub held : (window os o).held ≡ columns_in table.definition

behind_kind : (os : List Object) (n : Bytes) (u : Id) (k : Kind) (d : Bytes) →
    In (record { name = n; owner = u; kind = k; definition = d }) os → Formed os (record { name = n; owner = u; kind = k; definition = d }) →
    Behind os (record { name = n; owner = u; kind = k; definition = d })
unfolding window base
behind_kind os n u (a_table limit) d i f = record { table = _; stands = i; a_table = refl; named = refl; held = refl }
behind_kind os n u a_view d i f =
    let t = table_found os (selection_in d).source.bytes f.table f.stands in
    record { table = f.table; stands = t.0; a_table = t.2; named = ap Some (sym t.1); held = rw f.stands refl }

pub behind : (os : List Object) (o : Object) → In o os → Formed os o → Behind os o
behind os o i f = behind_kind os o.name o.owner o.kind o.definition i f

module _ (total : ℕ) (z : Capacities) (c : Card) (u : Id) (sound : Sound total z c) (present : c.current ≡ Some u) where
  -- the catalogue stays, so only rows and cursor must be looked at; what is told does not matter
  pub with_step : (s : Step) → AllByRecursion (RowsOf s.rows) c.catalogue.objects.records →
      ((t : Bytes) → table_named c.catalogue.objects.records t ≡ None → s.rows t ≡ []) →
      Pointed c.catalogue (Some u) s.rows s.cursor → Sound total z (moved c s)
  with_step s rows elsewhere cursor = record {
    names = sound.names;
    ids = sound.ids;
    pairs = sound.pairs;
    objects = sound.objects;
    privileges = sound.privileges;
    rows = rows;
    elsewhere = elsewhere;
    tables = sound.tables;
    sum = sound.sum;
    users_sized = sound.users_sized;
    objects_sized = sound.objects_sized;
    privileges_sized = sound.privileges_sized;
    current = sound.current;
    cursor = subst (λ x. Pointed c.catalogue x s.rows s.cursor) (sym present) cursor;
  }

  -- the cursor of a card with a current user
  pub cursor_now : Pointed c.catalogue (Some u) c.rows c.cursor
  cursor_now = subst (λ x. Pointed c.catalogue x c.rows c.cursor) present sound.cursor

  -- the rows stay
  pub with_cursor : (cursor : Cursor) → Pointed c.catalogue (Some u) c.rows cursor →
      Sound total z (moved c (record { rows = c.rows; cursor = cursor; outcome = gives [] }))
  with_cursor cursor p = with_step (record { rows = c.rows; cursor = cursor; outcome = gives [] }) sound.rows sound.elsewhere p

  -- the rows of a table
  pub rows_now : (t : Object) (n : Bytes) → In t c.catalogue.objects.records → t.name ≡ n → is_table t ≡ true → RowsFormed t (c.rows n)
  rows_now t n i f e = subst (λ x. RowsFormed t (c.rows x)) f (all-In (RowsOf c.rows) sound.rows i e)

  -- one table's rows are replaced
  pub with_table : (t : Object) (n : Bytes) → In t c.catalogue.objects.records → t.name ≡ n → is_table t ≡ true → (rs : List Row) → RowsFormed t rs → (cursor : Cursor) →
      Pointed c.catalogue (Some u) (with_rows c.rows n rs) cursor →
      Sound total z (moved c (record { rows = with_rows c.rows n rs; cursor = cursor; outcome = gives [] }))
  with_table t n i f e rs formed cursor p =
      with_step (record { rows = with_rows c.rows n rs; cursor = cursor; outcome = gives [] }) (In-all (RowsOf (with_rows c.rows n rs)) _ each) others p
    where
      each : (o : Object) → In o c.catalogue.objects.records → RowsOf (with_rows c.rows n rs) o
      each o j table = go (same o.name n) refl
        where
          go : (b : Bool) → same o.name n ≡ b → RowsFormed o (cond b rs (c.rows o.name))
          go true h = subst (λ x. RowsFormed x rs) (apart_eq _ sound.names t o i j (f ∙ sym (same_true o.name n h))) formed
          go false h = all-In (RowsOf c.rows) sound.rows j table

      others : (m : Bytes) → table_named c.catalogue.objects.records m ≡ None → with_rows c.rows n rs m ≡ []
      others m none = go (same m n) refl
        where
          go : (b : Bool) → same m n ≡ b → cond b rs (c.rows m) ≡ []
          go true h = absurd (table_stands _ t m i e (f ∙ sym (same_true m n h)) none)
          go false h = sound.elsewhere m none

  -- the table behind a cursor's object
  pub behind_choice : (s : Choice) → Chosen c.catalogue u s → Behind c.catalogue.objects.records s.object
  behind_choice s h =
      let i = (object_found c.catalogue.objects.records s.object.name s.object h.stands).0 in
      behind c.catalogue.objects.records s.object i (all-In (Formed c.catalogue.objects.records) sound.objects i)

-- the rows behind a window of a table
pub rows_behind_named : (rows : Rows) (w : Window) (n : Bytes) → w.table ≡ Some n → rows_behind rows w ≡ rows n
unfolding rows_behind
rows_behind_named rows w n e = rw e refl

-- a cursor's row in rows of which one table's were replaced
pub stands_with : (rows : Rows) (n : Bytes) (rs : List Row) (w : Window) (i : ℕ) →
    (StandsAt (rows n) w i → StandsAt rs w i) → StandsAt (rows_behind rows w) w i → StandsAt (rows_behind (with_rows rows n rs) w) w i
unfolding rows_behind
stands_with rows n rs w i h p = go w.table p
  where
    of_table : Rows → Option Bytes → List Row
    of_table rows None = []
    of_table rows (Some t) = rows t

    go : (o : Option Bytes) → StandsAt (of_table rows o) w i → StandsAt (of_table (with_rows rows n rs) o) w i
    go None p = p
    go (Some t) p = named_so (same t n) refl
      where
        named_so : (b : Bool) → same t n ≡ b → StandsAt (cond b rs (rows t)) w i
        named_so true e = h (subst (λ x. StandsAt (rows x) w i) (same_true t n e) p)
        named_so false e = p
