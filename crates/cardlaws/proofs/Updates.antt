-- UPDATE keeps a card sound.
use Rattle.std.proofs.Common.{◌≡◌, ℕ, ◌<◌, Bool, true, false, cond, ◌&&◌, ◌||◌, eqb, List, [], ◌∷◌, length, get_or, set, Some, None, Option, sym, refl, ◌∙◌, subst, ⊎_elim, arith}
use Rattle.std.specs.List.{remove}
use Rattle.std.proofs.lemmas.Bool.{both_ways, and_cases, or_parts, eqb-true}
use Rattle.std.proofs.lemmas.List.{length-set, get_or-set_same}
use Rattle.std.proofs.ByRecursion.{All-set, All-get_or}
use Rattle.fields.specs.Reader.{Parameter}
use Rattle.cardmodel.specs.Lists.{any, first, somes}
use Rattle.cardmodel.specs.State.{Bytes, Id, Row, Object, Placed, Choice, Cursor, absent, declared, on_row, ended, Card}
use Rattle.cardmodel.specs.Objects.{is_table, columns_in, over_table, Window, window, shows, shown_column, cell, compared, meets, rows_behind}
use Rattle.cardmodel.specs.Rights.{may}
use Rattle.cardmodel.specs.Storing.{replaces}
use Rattle.cardmodel.specs.Verdict.{gives}
use Rattle.cardmodel.specs.CatalogueRules.{first_foreign}
use Rattle.cardmodel.specs.CursorRules.{Step, moved, through, Write, first_long, is_level, first_repeated, writes_of, assigned_columns, tests_column, tested_in, first_barred, barred_at, written, with_rows_behind, updated, updating}
use Rattle.cardmodel.specs.Answer.{Capacities}
use Rattle.cardmodel.proofs.Lists.{In, all-In, In-all, none-In, none_some, first-In, nth_length, In-first}
use Rattle.cardmodel.proofs.Names.{same_refl}
use Rattle.cardmodel.proofs.Checks.{Holds, holds_unless, holds_unless_at}
use Rattle.cardmodel.proofs.Options.{option_cases}
use Rattle.cardlaws.specs.Sound.{RowOf, placed, level_at, UniqueIn, RowsFormed, Chosen, StandsAt, Pointed, Sound}
use Rattle.cardlaws.proofs.Order.{level_at_back}
use Rattle.cardlaws.proofs.Rows.{row_length, placed_nth, placed_eq, shown_placed, written_row, writes_to, string_or, cell_written}
use Rattle.cardlaws.proofs.Steps.{rows_now, with_table, cursor_now, rows_behind_named, stands_with, behind_choice}
use Rattle.cardlaws.proofs.Windows.{object_found, table_tests}
use Rattle.cardlaws.proofs.Conditions.{meets_written}
use Rattle.cardlaws.proofs.Unlike.{apart_others, apart_set}
use Rattle.cardlaws.proofs.Writes.{first_repeated_none, unclashed}

-- what is written is a column of the table, and one that the window shows
pub writes_shown : (w : Window) (ps : List Parameter) {x : Write} → In x (somes (writes_of (shown_column w) ps)) → In x.to (placed 0 w.held) × (shows w x.to.number ≡ true)
writes_shown w [] i = elim i [ ]
writes_shown w (a ∷ []) i = elim i [ ]
writes_shown w (a ∷ (s ∷ ps)) {x} i = ⊎_elim
    (λ f. writes_shown w ps (rw f at i))
    (λ r. one r.0 (shown_placed w a.bytes r.0 r.1) (writes_shown w ps {x = x}) (rw r.1 at i))
    (option_cases (shown_column w a.bytes))
  where
    Good : Placed → Type 0
    Good p = In p (placed 0 w.held) × (shows w p.number ≡ true)

    one : (p : Placed) → Good p → (In x (somes (writes_of (shown_column w) ps)) → Good x.to) →
        In x (record { to = p; named = a.place; string = s } ∷ somes (writes_of (shown_column w) ps)) → Good x.to
    one p j ih k = ⊎_elim (λ e. subst (λ v. Good v.to) (sym e) j) ih (In-first k)

pub writes_placed : (w : Window) (ps : List Parameter) {x : Write} → In x (somes (writes_of (shown_column w) ps)) → In x.to (placed 0 w.held)
writes_placed w ps i = (writes_shown w ps i).0

-- rows of which one was written
updated_formed : (t : Object) (rs : List Row) (i : ℕ) (ws : List Write) → i < length rs → ((w : Write) → In w ws → In w.to (placed 0 (columns_in t.definition))) →
    first_long ws ≡ None → first_repeated (remove rs i) ws ≡ None → RowsFormed t rs → RowsFormed t (set rs i (written ws (get_or rs i [])))
updated_formed t rs i ws l columns long repeated f =
    let m = length-set rs i (written ws (get_or rs i [])) in
    record {
      within_limit = omega arith;
      cells = All-set (RowOf (columns_in t.definition)) rs i (written ws (get_or rs i [])) (written_row (columns_in t.definition) ws (get_or rs i []) columns long old) f.cells;
      unique = In-all (UniqueIn (set rs i (written ws (get_or rs i [])))) (placed 0 (columns_in t.definition)) each;
    }
  where
    old : RowOf (columns_in t.definition) (get_or rs i [])
    old = All-get_or (RowOf (columns_in t.definition)) rs i [] l f.cells

    each : (p : Placed) → In p (placed 0 (columns_in t.definition)) → UniqueIn (set rs i (written ws (get_or rs i []))) p
    each p j h = apart_set (level_at p) (level_at_back p) rs i (written ws (get_or rs i [])) (all-In (UniqueIn rs) f.unique j h) other
      where
        -- against the old cell, or against the string that is written there
        against : (x : Row) → In x (remove rs i) → (o : Option Write) → first (writes_to p.number) ws ≡ o →
            is_level (compared p.column (cell x p.number) (string_or (cell (get_or rs i []) p.number) o)) ≡ false
        against x k None e = apart_others (level_at p) (level_at_back p) rs i [] l (all-In (UniqueIn rs) f.unique j h) k
        against x k (Some w) e =
            let r = first-In (writes_to p.number) ws w e in
            let q : p ≡ w.to = placed_eq (columns_in t.definition) p w.to j (columns w r.0) (eqb-true _ _ r.1) in
            let v = unclashed w (remove rs i) x (first_repeated_none (remove rs i) ws repeated w r.0) k (subst (λ y. y.column.unique ≡ true) q h) in
            subst (λ y. is_level (compared y.column (cell x y.number) w.string.bytes) ≡ false) (sym q) v

        other : (x : Row) → In x (remove rs i) → level_at p x (written ws (get_or rs i [])) ≡ false
        other x k =
            let a = nth_length (columns_in t.definition) p.number p.column (placed_nth (columns_in t.definition) p j) in
            let b = row_length (columns_in t.definition) (get_or rs i []) old in
            subst (λ y. is_level (compared p.column (cell x p.number) y) ≡ false) (sym (cell_written ws (get_or rs i []) p.number (omega arith)))
            (against x k (first (writes_to p.number) ws) refl)

-- Through a table nothing is tested, and through a view nothing is written that it tests.
pub first_barred_none : (os : List Object) (w : Window) (ws : List Write) → first_barred os w ws ≡ None → {x : Write} → In x ws →
    (x.to.column.unique || tested_in os w.table x.to.number) ≡ false
first_barred_none os w [] e i = elim i [ ]
first_barred_none os w (y ∷ ws) e {x} i = go (y.to.column.unique || tested_in os w.table y.to.number) refl (λ e. first_barred_none os w ws e {x = x}) e
  where
    go : (b : Bool) → (y.to.column.unique || tested_in os w.table y.to.number) ≡ b →
        (first_barred os w ws ≡ None → In x ws → (x.to.column.unique || tested_in os w.table x.to.number) ≡ false) →
        cond b (Some y.named) (first_barred os w ws) ≡ None → (x.to.column.unique || tested_in os w.table x.to.number) ≡ false
    go true h ih e = absurd (none_some (sym e))
    go false h ih e = ⊎_elim (λ f. subst (λ v. (v.to.column.unique || tested_in os w.table v.to.number) ≡ false) (sym f) h) (ih e) (In-first i)

over_own : (os : List Object) (o : Object) (n : Bytes) → (window os o).table ≡ Some n → over_table n o ≡ true
unfolding window
over_own os o n e = rw e (same_refl n)

unbarred : (os : List Object) (o : Object) (n : Bytes) (ws : List Write) → In o os → (window os o).table ≡ Some n → barred_at os o ws ≡ None →
    (x : Write) → In x ws → tests_column (window os o) x.to.number ≡ false
unbarred os o n ws i e b x j = go (is_table o) refl b
  where
    go : (t : Bool) → is_table o ≡ t → cond t None (first_barred os (window os o) ws) ≡ None → tests_column (window os o) x.to.number ≡ false
    go true h b = subst (λ qs. any (λ q. eqb x.to.number q.on.number) qs ≡ false) (sym (table_tests os o h)) refl
    go false h b =
        let f = subst (λ t. tested_in os t x.to.number ≡ false) e (or_parts x.to.column.unique (tested_in os (window os o).table x.to.number) (first_barred_none os (window os o) ws b j)).1 in
        let g = none-In (λ v. over_table n v && tests_column (window os v) x.to.number) i f in
        ⊎_elim (λ v. absurd (both_ways (over_table n o) v (over_own os o n e))) (λ v. v) (and_cases (over_table n o) (tests_column (window os o) x.to.number) g)

-- the written row stands where the old one stood
stands_written : (rs : List Row) (w : Window) (i : ℕ) (ws : List Write) → ((x : Write) → In x ws → tests_column w x.to.number ≡ false) →
    StandsAt rs w i → StandsAt (set rs i (written ws (get_or rs i []))) w i
stands_written rs w i ws h p =
    let l = p.place in
    let m = length-set rs i (written ws (get_or rs i [])) in
    record {
      place = omega arith;
      shown = subst (λ r. meets w r ≡ true) (sym (get_or-set_same rs i (written ws (get_or rs i [])) [] l)) (meets_written ws w (get_or rs i []) h ∙ p.shown);
    }

module _ (total : ℕ) (z : Capacities) (c : Card) (u : Id) (sound : Sound total z c) (present : c.current ≡ Some u) where
  abbrev Good : Step → Type 0
  Good x = Sound total z (moved c x)

  written_sound : (s : Choice) (i : ℕ) (ws : List Write) → Chosen c.catalogue u s → StandsAt (rows_behind c.rows (through c.catalogue s)) (through c.catalogue s) i →
      ((x : Write) → In x ws → In x.to (placed 0 (through c.catalogue s).held)) →
      Holds Good (updated c.catalogue c.rows s i (rows_behind c.rows (through c.catalogue s)) ws)
  written_sound s i ws h p columns =
      let os = c.catalogue.objects.records in
      let w = through c.catalogue s in
      let rs = rows_behind c.rows w in
      let new = set rs i (written ws (get_or rs i [])) in
      let b = behind_choice total z c u sound present s h in
      let n = b.table.name in
      let same_rows = rows_behind_named c.rows w n b.named in
      let old = subst (λ x. RowsFormed b.table x) (sym same_rows) (rows_now total z c u sound present b.table n b.stands refl b.a_table) in
      holds_unless_at Good (barred_at os s.object ws) _ _ (λ barred.
      holds_unless_at Good (first_long ws) _ _ (λ long.
      holds_unless_at Good (first_repeated (remove rs i) ws) _ _ (λ repeated.
      holds_unless Good (replaces rs i (written ws (get_or rs i []))) _ _ (λ stored.
      let formed = updated_formed b.table rs i ws p.place (λ x j. subst (λ cs. In x.to (placed 0 cs)) b.held (columns x j)) long repeated old in
      let untested = unbarred os s.object n ws (object_found os s.object.name s.object h.stands).0 b.named barred in
      subst (λ o. Good (record { rows = with_rows_behind c.rows o new; cursor = on_row s i; outcome = gives [] })) (sym b.named)
      (with_table total z c u sound present b.table n b.stands refl b.a_table new formed (on_row s i)
      (h, stands_with c.rows n new w i (λ q. stands_written rs w i ws untested p) p))))))

  pub updating_sound : (ps : List Parameter) → Holds (λ x. Sound total z (moved c x)) (updating c.catalogue u c.rows c.cursor ps)
  unfolding updating
  updating_sound ps = go c.cursor (cursor_now total z c u sound present)
    where
      go : (p : Cursor) → Pointed c.catalogue (Some u) c.rows p → Holds Good (updating c.catalogue u c.rows p ps)
      go absent h = tt
      go (declared s) h = tt
      go (on_row s i) h =
          holds_unless Good (may c.catalogue.privileges.records u s.object (λ r. r.update)) _ _ (λ right.
          holds_unless_at Good (first_foreign (through c.catalogue s) (assigned_columns ps)) _ _ (λ known.
          written_sound s i (somes (writes_of (shown_column (through c.catalogue s)) ps)) h.0 h.1 (λ x j. writes_placed (through c.catalogue s) ps j)))
      go (ended s) h = tt
