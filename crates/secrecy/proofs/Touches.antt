-- What the commands of rows and of the cursor do to rows: nothing, or they change a table that the user reaches itself,
-- or they write one row through a view, in columns that it shows and that no view of the table tests.
use Rattle.std.proofs.Common.{◌≡◌, ℕ, suc, Bool, true, false, eqb, leb, List, [], ◌∷◌, ◌++◌, length, get_or, set, Some, None, Option, sym, refl, subst}
use Rattle.std.specs.List.{remove}
use Rattle.fields.specs.Reader.{Parameter}
use Rattle.commands.specs.Command.{Selected}
use Rattle.cardmodel.specs.Lists.{somes}
use Rattle.cardmodel.specs.State.{Bytes, Id, Row, Catalogue, Rows, Choice, Cursor, absent, declared, on_row, ended}
use Rattle.cardmodel.specs.Objects.{is_table, limit_of, object_named, table_named, columns_in, Window, window, shows, shown_column, rows_behind}
use Rattle.cardmodel.specs.Rights.{may, reaches}
use Rattle.cardmodel.specs.Storing.{appends, replaces, removes}
use Rattle.cardmodel.specs.CatalogueRules.{with_rows, first_foreign, names_in}
use Rattle.cardmodel.specs.CursorRules.{Step, through, next_selected, gone_to, fetched, giving, giving_next, Write, first_long, first_repeated, row_writes, strings_of, writes_of, assigned_columns, barred_at, written, updated, declaring, opening, nexting, fetching, fetching_next, inserting, updating, deleting}
use Rattle.cardmodel.specs.Sight.{reached}
use Rattle.cardmodel.proofs.Checks.{Holds, holds_unless, holds_unless_at, holds_found}
use Rattle.cardmodel.proofs.Lists.{In, nth-get_or}
use Rattle.cardmodel.proofs.Rights.{right_reaches, insert_some, delete_table}
use Rattle.cardlaws.specs.Sound.{Chosen, Pointed}
use Rattle.cardlaws.proofs.Conditions.{Untested}
use Rattle.cardlaws.proofs.Updates.{writes_shown}
use Rattle.cardlaws.proofs.Windows.{table_found}
use Rattle.secrecy.proofs.Bases.{spoken, behind_spoken}
use Rattle.secrecy.proofs.Linked.{Whole, At, chosen-In, pointed_at}
use Rattle.secrecy.proofs.RowChanges.{with_behind, chosen_whole, untested}

pub data Touch (k : Catalogue) (u : Id) (f : Rows) : Rows → Type 0 where
  nothing : Touch k u f f
  whole_table : (b : Bytes) (rs : List Row) → Whole k u b → Touch k u f (with_rows f b rs)
  one_row : (b : Bytes) (w : Window) → In w (reached k u b) → (j : ℕ) (x : At w (f b) j) (ws : List Write) → ((y : Write) → In y ws → shows w y.to.number ≡ true) →
      ((z : Window) → In z (reached k u b) → Untested ws z) → Touch k u f (with_rows f b (set (f b) j (written ws x.row)))

module _ (k : Catalogue) (u : Id) (f : Rows) where
  abbrev Touches : Step → Type 0
  Touches s = Touch k u f s.rows

  gone_touches : (g : Rows) → Touch k u f g → (s : Choice) (o : Option ℕ) → Holds Touches (gone_to g s o)
  gone_touches g h s None = h
  gone_touches g h s (Some i) = h

  giving_touches : (w : Window) (s : Choice) (i le : ℕ) → Holds Touches (giving w f s i le)
  giving_touches w s i le = holds_unless Touches (leb (length (fetched s (get_or (rows_behind f w) i []))) le) _ _ (λ _. nothing)

  giving_next_touches : (w : Window) (s : Choice) (le : ℕ) (o : Option ℕ) → Holds Touches (giving_next w f s le o)
  giving_next_touches w s le None = nothing
  giving_next_touches w s le (Some i) = giving_touches w s i le

  pub declaring_touches : (s : Selected) → Holds Touches (declaring k u f s)
  unfolding declaring
  declaring_touches s =
      holds_found Touches (object_named k.objects.records s.source.bytes) _ _ (λ o _.
      holds_unless Touches (reaches k.privileges.records u o) _ _ (λ _.
      holds_unless_at Touches (first_foreign (window k.objects.records o) (names_in s)) _ _ (λ _. nothing)))

  pub opening_touches : (c : Cursor) → Holds Touches (opening k f c)
  unfolding opening
  opening_touches absent = tt
  opening_touches (declared s) = gone_touches f nothing s (next_selected (through k s) s f 0)
  opening_touches (on_row s i) = gone_touches f nothing s (next_selected (through k s) s f 0)
  opening_touches (ended s) = gone_touches f nothing s (next_selected (through k s) s f 0)

  pub nexting_touches : (c : Cursor) → Holds Touches (nexting k f c)
  unfolding nexting
  nexting_touches absent = tt
  nexting_touches (declared s) = tt
  nexting_touches (on_row s i) = gone_touches f nothing s (next_selected (through k s) s f (suc i))
  nexting_touches (ended s) = nothing

  pub fetching_touches : (c : Cursor) (le : ℕ) → Holds Touches (fetching k u f c le)
  unfolding fetching
  fetching_touches absent le = tt
  fetching_touches (declared s) le = tt
  fetching_touches (on_row s i) le = holds_unless Touches (may k.privileges.records u s.object (λ r. r.select)) _ _ (λ _. giving_touches (through k s) s i le)
  fetching_touches (ended s) le = tt

  pub fetching_next_touches : (c : Cursor) (le : ℕ) → Holds Touches (fetching_next k u f c le)
  unfolding fetching_next
  fetching_next_touches absent le = tt
  fetching_next_touches (declared s) le = tt
  fetching_next_touches (on_row s i) le =
      holds_unless Touches (may k.privileges.records u s.object (λ r. r.select)) _ _ (λ _. giving_next_touches (through k s) s le (next_selected (through k s) s f (suc i)))
  fetching_next_touches (ended s) le = holds_unless Touches (may k.privileges.records u s.object (λ r. r.select)) _ _ (λ _. nothing)

  pub inserting_touches : (c : Cursor) (name : Parameter) (count : ℕ) (strings : List Parameter) → Holds Touches (inserting k u f c name count strings)
  unfolding inserting
  inserting_touches c name count strings =
      holds_found Touches (table_named k.objects.records name.bytes) _ _ (λ t found.
      holds_unless Touches (may k.privileges.records u t (λ r. r.insert)) _ _ (λ right.
      holds_unless Touches (eqb (length strings) (length (columns_in t.definition))) _ _ (λ _.
      holds_unless_at Touches (first_long (row_writes 0 (columns_in t.definition) strings)) _ _ (λ _.
      holds_unless_at Touches (first_repeated (f name.bytes) (row_writes 0 (columns_in t.definition) strings)) _ _ (λ _.
      holds_unless Touches (appends (limit_of t.kind) (f name.bytes) (strings_of strings)) _ _ (λ _.
      let o = table_found k.objects.records name.bytes t found in
      whole_table name.bytes (f name.bytes ++ (strings_of strings ∷ []))
      (record { object = t; stands = o.0; reach = right_reaches k.privileges.records u t (λ r. r.insert) insert_some right; table = o.2; named = o.1 })))))))

  pub deleting_touches : (c : Cursor) → Pointed k (Some u) f c → Holds Touches (deleting k u f c)
  unfolding deleting
  deleting_touches absent h = tt
  deleting_touches (declared s) h = tt
  deleting_touches (on_row s i) h =
      holds_unless Touches (may k.privileges.records u s.object (λ r. r.delete)) _ _ (λ right.
      holds_unless Touches (removes (rows_behind f (through k s)) i) _ _ (λ _.
      rw (with_behind k s f (remove (rows_behind f (through k s)) i))
      (gone_touches (with_rows f (spoken s.object) (remove (rows_behind f (through k s)) i))
      (whole_table (spoken s.object) (remove (rows_behind f (through k s)) i) (chosen_whole k u s h.0 (delete_table k.privileges.records u s.object right))) s _)))
  deleting_touches (ended s) h = tt

  updated_touches : (s : Choice) (i : ℕ) → Chosen k u s → (x : At (through k s) (f (spoken s.object)) i) → (ws : List Write) → ((w : Write) → In w ws → shows (through k s) w.to.number ≡ true) →
      Holds Touches (updated k f s i (f (spoken s.object)) ws)
  updated_touches s i h x ws shown =
      holds_unless_at Touches (barred_at k.objects.records s.object ws) _ _ (λ nb.
      holds_unless_at Touches (first_long ws) _ _ (λ _.
      holds_unless_at Touches (first_repeated (remove (f b) i) ws) _ _ (λ _.
      holds_unless Touches (replaces (f b) i (written ws (get_or (f b) i []))) _ _ (λ _.
      rw (with_behind k s f (set (f b) i (written ws (get_or (f b) i [])))) (go (is_table s.object) refl nb)))))
    where
      b : Bytes
      b = spoken s.object

      go : (t : Bool) → is_table s.object ≡ t → barred_at k.objects.records s.object ws ≡ None → Touch k u f (with_rows f b (set (f b) i (written ws (get_or (f b) i []))))
      go true t nb = whole_table b (set (f b) i (written ws (get_or (f b) i []))) (chosen_whole k u s h t)
      go false t nb =
          rw (nth-get_or (f b) i x.row [] x.stands)
          (one_row b (through k s) (chosen-In k u s h) i x ws shown (untested k u s ws (rw t at nb)))

  pub updating_touches : (c : Cursor) → Pointed k (Some u) f c → (ps : List Parameter) → Holds Touches (updating k u f c ps)
  unfolding updating
  updating_touches absent h ps = tt
  updating_touches (declared s) h ps = tt
  updating_touches (on_row s i) h ps =
      holds_unless Touches (may k.privileges.records u s.object (λ r. r.update)) _ _ (λ _.
      holds_unless_at Touches (first_foreign (through k s) (assigned_columns ps)) _ _ (λ _.
      subst (λ rs. Holds Touches (updated k f s i rs (somes (writes_of (shown_column (through k s)) ps)))) (sym (behind_spoken f k.objects.records s.object))
      (updated_touches s i h.0 (pointed_at k u f s i h.1) (somes (writes_of (shown_column (through k s)) ps)) (λ w m. (writes_shown (through k s) ps m).1))))
  updating_touches (ended s) h ps = tt
