-- The commands that add and remove rows keep a card sound: INSERT and DELETE.
use Rattle.std.proofs.Common.{◌≡◌, ℕ, suc, ◌<◌, Bool, true, false, cond, eqb, ltb, List, [], ◌∷◌, ◌++◌, length, Some, None, Option, sym, refl, ap, ◌∙◌, subst, ⊎_elim, arith}
use Rattle.std.specs.List.{remove}
use Rattle.std.proofs.lemmas.Bool.{both_ways, and_parts, and_cases, ltb-true, eqb-true}
use Rattle.std.proofs.lemmas.List.{length_push, get_or_append_left, get_or_at, append_assoc}
use Rattle.std.proofs.ByRecursion.{All-push}
use Rattle.std.proofs.lemmas.List.Edits.{length-remove}
use Rattle.fields.specs.Column.{Column}
use Rattle.fields.specs.Reader.{Parameter}
use Rattle.cardmodel.specs.Lists.{any}
use Rattle.cardmodel.specs.State.{Bytes, Id, Row, Object, Placed, Choice, Cursor, absent, declared, on_row, ended, Card}
use Rattle.cardmodel.specs.Objects.{is_table, limit_of, table_named, columns_in, Window, cell, compared, meets, rows_behind}
use Rattle.cardmodel.specs.Rights.{may}
use Rattle.cardmodel.specs.Storing.{storable, appends, removes}
use Rattle.cardmodel.specs.CatalogueRules.{with_rows}
use Rattle.cardmodel.specs.CursorRules.{Step, moved, through, gone_to, Write, first_long, is_level, clashes, first_repeated, row_writes, strings_of, inserting, with_rows_behind, deleted, deleting}
use Rattle.cardmodel.specs.Answer.{Capacities}
use Rattle.cardmodel.proofs.Lists.{In, here, there, all-In, In-all, none-In, none_some, In-removed}
use Rattle.cardmodel.proofs.Checks.{Holds, holds_unless, holds_unless_at, holds_found}
use Rattle.cardlaws.specs.Sound.{RowOf, placed, level_at, UniqueIn, RowsFormed, Chosen, StandsAt, Pointed, Sound}
use Rattle.cardlaws.proofs.Apart.{apart_add}
use Rattle.cardlaws.proofs.Order.{level_back}
use Rattle.cardlaws.proofs.Rows.{first_long_none}
use Rattle.cardlaws.proofs.Steps.{rows_now, with_table, cursor_now, rows_behind_named, stands_with, behind_choice}
use Rattle.cardlaws.proofs.Windows.{table_found}
use Rattle.cardlaws.proofs.Unlike.{apart_removed}
use Rattle.cardlaws.proofs.Cursors.{next_stands}

-- no string of a unique column is level with another row's
pub first_repeated_none : (rs : List Row) (ws : List Write) → first_repeated rs ws ≡ None → (w : Write) → In w ws → any (clashes w) rs ≡ false
first_repeated_none rs [] e w i = elim i [ ]
first_repeated_none rs (x ∷ ws) e w i = go (any (clashes x) rs) refl (first_repeated_none rs ws) e i
  where
    parts : any (clashes x) rs ≡ false → ((v : Write) → In v ws → any (clashes v) rs ≡ false) → {v : Write} → In v (x ∷ ws) → any (clashes v) rs ≡ false
    parts h k here = h
    parts h k (there j) = k _ j

    go : (b : Bool) → any (clashes x) rs ≡ b → (first_repeated rs ws ≡ None → (v : Write) → In v ws → any (clashes v) rs ≡ false) →
        cond b (Some x.string.place) (first_repeated rs ws) ≡ None → {v : Write} → In v (x ∷ ws) → any (clashes v) rs ≡ false
    go true h ih e j = absurd (none_some (sym e))
    go false h ih e j = parts h (ih e) j

pub unclashed : (w : Write) (rs : List Row) (x : Row) → any (clashes w) rs ≡ false → In x rs → w.to.column.unique ≡ true →
    is_level (compared w.to.column (cell x w.to.number) w.string.bytes) ≡ false
unfolding clashes
unclashed w rs x e i h =
    level_back w.to.column w.string.bytes (cell x w.to.number) ∙
    ⊎_elim (λ f. absurd (both_ways w.to.column.unique f h)) (λ f. f)
    (and_cases w.to.column.unique (is_level (compared w.to.column w.string.bytes (cell x w.to.number))) (none-In (clashes w) i e))

-- the writes of a new row: one for each column, and its string is the row's cell
inserted_row : (n : ℕ) (cs : List Column) (ps : List Parameter) → length ps ≡ length cs → first_long (row_writes n cs ps) ≡ None → RowOf cs (strings_of ps)
inserted_row n [] [] l e = tt
inserted_row n [] (p ∷ ps) l e = absurd (omega arith)
inserted_row n (c ∷ cs) [] l e = absurd (omega arith)
inserted_row n (c ∷ cs) (p ∷ ps) l e =
    let h = first_long_none (record { to = record { number = n; column = c }; named = p.place; string = p }) (row_writes (suc n) cs ps) e in (h.0, inserted_row (suc n) cs ps (omega arith) h.1)

inserted_cell : (front : Row) (n : ℕ) (cs : List Column) (ps : List Parameter) → length front ≡ n → length ps ≡ length cs → {q : Placed} → In q (placed n cs) →
    (w : Write) × In w (row_writes n cs ps) × (w.to ≡ q) × (cell (front ++ strings_of ps) q.number ≡ w.string.bytes)
inserted_cell front n [] ps f l i = elim i [ ]
inserted_cell front n (c ∷ cs) [] f l i = absurd (omega arith)
inserted_cell front n (c ∷ cs) (p ∷ ps) f l here = (_, here, refl, get_or_at front p.bytes (strings_of ps) [] n f)
inserted_cell front n (c ∷ cs) (p ∷ ps) f l {q} (there i) =
    let k = length_push front p.bytes in
    let r = inserted_cell (front ++ (p.bytes ∷ [])) (suc n) cs ps (omega arith) (omega arith) i in
    (r.0, there r.1, r.2, ap (λ x. cell x q.number) (sym (append_assoc front (p.bytes ∷ []) (strings_of ps))) ∙ r.3)

-- rows with a new one at the end
inserted_formed : (t : Object) (rs : List Row) (ps : List Parameter) → RowsFormed t rs → length ps ≡ length (columns_in t.definition) →
    first_long (row_writes 0 (columns_in t.definition) ps) ≡ None → first_repeated rs (row_writes 0 (columns_in t.definition) ps) ≡ None →
    appends (limit_of t.kind) rs (strings_of ps) ≡ true → RowsFormed t (rs ++ (strings_of ps ∷ []))
unfolding appends
inserted_formed t rs ps f l long repeated a =
    let room = ltb-true (length rs) (limit_of t.kind) (and_parts (storable (strings_of ps)) (ltb (length rs) (limit_of t.kind)) a).1 in
    let more = length_push rs (strings_of ps) in
    record {
      within_limit = omega arith;
      cells = All-push (RowOf (columns_in t.definition)) rs (strings_of ps) f.cells (inserted_row 0 (columns_in t.definition) ps l long);
      unique = In-all (UniqueIn (rs ++ (strings_of ps ∷ []))) (placed 0 (columns_in t.definition)) each;
    }
  where
    each : (p : Placed) → In p (placed 0 (columns_in t.definition)) → UniqueIn (rs ++ (strings_of ps ∷ [])) p
    each p i h = apart_add (level_at p) rs (strings_of ps) (all-In (UniqueIn rs) f.unique i h) other
      where
        other : (x : Row) → In x rs → level_at p x (strings_of ps) ≡ false
        other x j =
            let r = inserted_cell [] 0 (columns_in t.definition) ps refl l i in
            let u = subst (λ q. q.column.unique ≡ true) (sym r.2) h in
            let v = unclashed r.0 rs x (first_repeated_none rs (row_writes 0 (columns_in t.definition) ps) repeated r.0 r.1) j u in
            subst (λ y. is_level (compared p.column (cell x p.number) y) ≡ false) (sym r.3)
            (subst (λ q. is_level (compared q.column (cell x q.number) r.0.string.bytes) ≡ false) r.2 v)

-- a place in rows with one more
stands_push : (rs : List Row) (r : Row) (w : Window) (i : ℕ) → StandsAt rs w i → StandsAt (rs ++ (r ∷ [])) w i
stands_push rs r w i h =
    let l = length_push rs r in
    let k = h.place in
    record { place = omega arith; shown = subst (λ x. meets w x ≡ true) (sym (get_or_append_left rs (r ∷ []) [] i k)) h.shown }

-- rows without one
removed_formed : (t : Object) (rs : List Row) (i : ℕ) → i < length rs → RowsFormed t rs → RowsFormed t (remove rs i)
removed_formed t rs i l f =
    let fewer = length-remove rs i l in
    record {
      within_limit = omega arith;
      cells = In-all (RowOf (columns_in t.definition)) (remove rs i) (λ r m. all-In (RowOf (columns_in t.definition)) f.cells (In-removed rs i m));
      unique = In-all (UniqueIn (remove rs i)) (placed 0 (columns_in t.definition)) (λ p m h. apart_removed (level_at p) rs i (all-In (UniqueIn rs) f.unique m h));
    }

module _ (total : ℕ) (z : Capacities) (c : Card) (u : Id) (sound : Sound total z c) (present : c.current ≡ Some u) where
  abbrev Good : Step → Type 0
  Good x = Sound total z (moved c x)

  -- INSERT: the cursor's row stays where it is
  after_insert : (n : Bytes) (r : Row) (p : Cursor) → Pointed c.catalogue (Some u) c.rows p → Pointed c.catalogue (Some u) (with_rows c.rows n (c.rows n ++ (r ∷ []))) p
  after_insert n r absent h = tt
  after_insert n r (declared s) h = h
  after_insert n r (on_row s i) h =
      (h.0, stands_with c.rows n (c.rows n ++ (r ∷ [])) (through c.catalogue s) i (stands_push (c.rows n) r (through c.catalogue s) i) h.1)
  after_insert n r (ended s) h = h

  pub inserting_sound : (name : Parameter) (count : ℕ) (strings : List Parameter) → Holds (λ x. Sound total z (moved c x)) (inserting c.catalogue u c.rows c.cursor name count strings)
  unfolding inserting
  inserting_sound name count strings =
      holds_found Good (table_named c.catalogue.objects.records name.bytes) _ _ (λ t e.
      holds_unless Good (may c.catalogue.privileges.records u t (λ r. r.insert)) _ _ (λ right.
      holds_unless Good (eqb (length strings) (length (columns_in t.definition))) _ _ (λ count_fits.
      holds_unless_at Good (first_long (row_writes 0 (columns_in t.definition) strings)) _ _ (λ long.
      holds_unless_at Good (first_repeated (c.rows name.bytes) (row_writes 0 (columns_in t.definition) strings)) _ _ (λ repeated.
      holds_unless Good (appends (limit_of t.kind) (c.rows name.bytes) (strings_of strings)) _ _ (λ room.
      let found = table_found c.catalogue.objects.records name.bytes t e in
      let old = rows_now total z c u sound present t name.bytes found.0 found.1 found.2 in
      with_table total z c u sound present t name.bytes found.0 found.1 found.2 (c.rows name.bytes ++ (strings_of strings ∷ []))
      (inserted_formed t (c.rows name.bytes) strings old (eqb-true _ _ count_fits) long repeated room) c.cursor
      (after_insert name.bytes (strings_of strings) c.cursor (cursor_now total z c u sound present))))))))

  -- DELETE: the cursor goes to a row of those that are left
  gone_sound : (t : Object) (n : Bytes) → In t c.catalogue.objects.records → t.name ≡ n → is_table t ≡ true → (rs : List Row) → RowsFormed t rs →
      (s : Choice) → Chosen c.catalogue u s → (o : Option ℕ) →
      ((i : ℕ) → o ≡ Some i → StandsAt (rows_behind (with_rows c.rows n rs) (through c.catalogue s)) (through c.catalogue s) i) →
      Holds Good (gone_to (with_rows c.rows n rs) s o)
  gone_sound t n i f e rs formed s h None g = with_table total z c u sound present t n i f e rs formed (ended s) h
  gone_sound t n i f e rs formed s h (Some j) g = with_table total z c u sound present t n i f e rs formed (on_row s j) (h, g j refl)

  removing_sound : (s : Choice) (i : ℕ) → Chosen c.catalogue u s → removes (rows_behind c.rows (through c.catalogue s)) i ≡ true →
      Holds Good (deleted (through c.catalogue s) (with_rows_behind c.rows (through c.catalogue s).table (remove (rows_behind c.rows (through c.catalogue s)) i)) s i)
  unfolding removes
  removing_sound s i h l =
      let b = behind_choice total z c u sound present s h in
      let w = through c.catalogue s in
      let n = b.table.name in
      let same_rows = rows_behind_named c.rows w n b.named in
      let old = rows_now total z c u sound present b.table n b.stands refl b.a_table in
      let formed = removed_formed b.table (rows_behind c.rows w) i (ltb-true _ _ l) (subst (λ rs. RowsFormed b.table rs) (sym same_rows) old) in
      subst (λ o. Holds Good (deleted w (with_rows_behind c.rows o (remove (rows_behind c.rows w) i)) s i)) (sym b.named)
      (gone_sound b.table n b.stands refl b.a_table (remove (rows_behind c.rows w) i) formed s h _
      (λ j e. next_stands w s (with_rows c.rows n (remove (rows_behind c.rows w) i)) i j e))

  pub deleting_sound : Holds (λ x. Sound total z (moved c x)) (deleting c.catalogue u c.rows c.cursor)
  unfolding deleting
  deleting_sound = go c.cursor (cursor_now total z c u sound present)
    where
      go : (p : Cursor) → Pointed c.catalogue (Some u) c.rows p → Holds Good (deleting c.catalogue u c.rows p)
      go absent h = tt
      go (declared s) h = tt
      go (on_row s i) h =
          holds_unless Good (may c.catalogue.privileges.records u s.object (λ r. r.delete)) _ _ (λ right.
          holds_unless Good (removes (rows_behind c.rows (through c.catalogue s)) i) _ _ (λ l. removing_sound s i h.0 l))
      go (ended s) h = tt
