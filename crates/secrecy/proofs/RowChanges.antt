-- INSERT, UPDATE and DELETE on two cards: they tell the same, and leave the cards alike.
use Rattle.std.proofs.Common.{◌≡◌, ℕ, ◌<◌, ◌≤◌, Bool, true, false, cond, ◌&&◌, eqb, ltb, List, [], ◌∷◌, ◌++◌, length, get_or, set, None, sym, refl, ◌∙◌, subst, ⊎_elim, arith}
use Rattle.std.specs.List.{remove, AllByRecursion}
use Rattle.std.proofs.lemmas.Bool.{both_ways, and_from, and_left, and_cases, or_parts, lt-ltb, le-leb}
use Rattle.fields.specs.Reader.{Parameter}
use Rattle.cells.specs.Form.{encoded}
use Rattle.cardmodel.specs.Lists.{any, somes}
use Rattle.cardmodel.specs.State.{Bytes, Id, Row, Catalogue, Rows, Choice, Cursor, on_row}
use Rattle.cardmodel.specs.Objects.{same, is_table, limit_of, table_named, columns_in, over_table, Window, window, shown_column, rows_behind}
use Rattle.cardmodel.specs.Rights.{may}
use Rattle.cardmodel.specs.Verdict.{unless, gives, store_refuses}
use Rattle.cardmodel.specs.Storing.{storable, appends, replaces, removes}
use Rattle.cardmodel.specs.CatalogueRules.{with_rows, row_sum, first_foreign}
use Rattle.cardmodel.specs.CursorRules.{through, next_selected, Write, first_long, clashes, first_repeated, row_writes, strings_of, inserting, writes_of, assigned_columns, tests_column, tested_in, first_barred, barred_at, written, with_rows_behind, updated, updating, deleted, deleting}
use Rattle.cardmodel.specs.Sight.{reached}
use Rattle.cardmodel.proofs.Checks.{Both, both_unless, both_unless_at, both_found}
use Rattle.cardmodel.proofs.Lists.{In, here, there, some_inj, all-In, any_none, none-In, nth-get_or, nth_length, nth-In}
use Rattle.cardmodel.proofs.Names.{same_true, same_refl}
use Rattle.cardmodel.proofs.Rights.{right_reaches, insert_some, delete_table}
use Rattle.cardlaws.specs.Sound.{Formed, RowOf, placed, RowsOf, Chosen}
use Rattle.cardlaws.proofs.Conditions.{Untested, meets_written}
use Rattle.cardlaws.proofs.Rows.{row_storable, written_row}
use Rattle.cardlaws.proofs.Steps.{behind}
use Rattle.cardlaws.proofs.Updates.{writes_placed, first_barred_none}
use Rattle.cardlaws.proofs.Windows.{object_found, table_found, table_formed}
use Rattle.secrecy.proofs.Ranks.{seen_set, rank_set}
use Rattle.secrecy.proofs.Looks.{look, visible, visible-In, sees, look_written}
use Rattle.secrecy.proofs.Bases.{spoken, table_spoken, window_table, behind_spoken, In-reached}
use Rattle.secrecy.proofs.Linked.{before, Seen, Matched, both_absent, both_declared, both_ended, both_on, Fit, chosen-In, At, pointed_at, looks_alike, Whole, whole_rows, whole_place, rows_length}
use Rattle.secrecy.proofs.Moves.{Agree, gone_agree, next_is}

-- strings for columns that are not unique repeat nothing
never_repeated : (rs : List Row) (ws : List Write) → ((w : Write) → In w ws → w.to.column.unique ≡ false) → first_repeated rs ws ≡ None
unfolding clashes
never_repeated rs [] h = refl
never_repeated rs (w ∷ ws) h =
    let x : any (clashes w) rs ≡ false = any_none (clashes w) rs (λ r _. and_left w.to.column.unique _ (h w here)) in
    rw x (never_repeated rs ws (λ y i. h y (there i)))

-- the rows of one table replaced
rows_there : (f : Rows) (t : Bytes) (rs : List Row) → with_rows f t rs t ≡ rs
rows_there f t rs = rw (same_refl t) refl

pub with_behind : (k : Catalogue) (s : Choice) (f : Rows) (rs : List Row) → with_rows_behind f (through k s).table rs ≡ with_rows f (spoken s.object) rs
with_behind k s f rs = rw (window_table k.objects.records s.object) refl

module _ (k : Catalogue) (u : Id) where
  with_seen : (f g : Rows) → Seen k u f g → (t : Bytes) (rs ss : List Row) → sees (reached k u t) rs ≡ sees (reached k u t) ss → Seen k u (with_rows f t rs) (with_rows g t ss)
  with_seen f g q t rs ss e n = go (same n t) refl
    where
      go : (b : Bool) → same n t ≡ b → sees (reached k u n) (cond b rs (f n)) ≡ sees (reached k u n) (cond b ss (g n))
      go true p = subst (λ m. sees (reached k u m) rs ≡ sees (reached k u m) ss) (sym (same_true n t p)) e
      go false p = q n

  -- a table whose own rows are equal on both cards, and change alike
  equal_step : (f g : Rows) → Seen k u f g → (s : Choice) (rs : List Row) (i : ℕ) →
      Agree k u (record { rows = with_rows f (spoken s.object) rs; cursor = on_row s i; outcome = gives [] }) (record { rows = with_rows g (spoken s.object) rs; cursor = on_row s i; outcome = gives [] })
  equal_step f g q s rs i = record {
    told = refl;
    seen = with_seen f g q (spoken s.object) rs rs refl;
    cursors = both_on s i i (rw (rows_there f (spoken s.object) rs, rows_there g (spoken s.object) rs) refl);
  }

  pub chosen_whole : (s : Choice) → Chosen k u s → is_table s.object ≡ true → Whole k u (spoken s.object)
  chosen_whole s h t = record {
    object = s.object;
    stands = (object_found k.objects.records s.object.name s.object h.stands).0;
    reach = h.reached;
    table = t;
    named = sym (table_spoken s.object t);
  }

  at_place : (w : Window) (rs : List Row) (i : ℕ) → At w rs i → i < length rs
  at_place w rs i x = nth_length rs i x.row x.stands

  -- DELETE: from a table that the user reaches
  removed_agree : (f g : Rows) → Seen k u f g → (s : Choice) (rs : List Row) (i : ℕ) →
      Both (Agree k u) (deleted (through k s) (with_rows f (spoken s.object) rs) s i) (deleted (through k s) (with_rows g (spoken s.object) rs) s i)
  removed_agree f g q s rs i =
      gone_agree k u (with_rows f b rs) (with_rows g b rs) (with_seen f g q b rs rs refl) s (next_selected (through k s) s (with_rows f b rs) i) (next_selected (through k s) s (with_rows g b rs) i)
      (rw (next_is k u (with_rows f b rs) s i, next_is k u (with_rows g b rs) s i, rows_there f b rs, rows_there g b rs) refl)
    where
      b : Bytes
      b = spoken s.object

  -- through a view nothing is written that a view of the table tests
  pub untested : (s : Choice) (ws : List Write) → first_barred k.objects.records (through k s) ws ≡ None → (v : Window) → In v (reached k u (spoken s.object)) → Untested ws v
  untested s ws e v i w j =
      let o = In-reached k u (spoken s.object) v i in
      let n = subst (λ t. tested_in k.objects.records t w.to.number ≡ false) (window_table k.objects.records s.object)
      (or_parts w.to.column.unique (tested_in k.objects.records (through k s).table w.to.number) (first_barred_none k.objects.records (through k s) ws e j)).1 in
      let m = none-In (λ x. over_table (spoken s.object) x && tests_column (window k.objects.records x) w.to.number) o.stands n in
      subst (λ x. tests_column x w.to.number ≡ false) o.is
      (⊎_elim (λ x. absurd (both_ways (over_table (spoken s.object) o.object) x o.over)) (λ x. x)
      (and_cases (over_table (spoken s.object) o.object) (tests_column (window k.objects.records o.object) w.to.number) m))

  module _ (f g : Rows) (q : Seen k u f g) where
    pub deleting_agree : (c d : Cursor) → Fit k u f c → Fit k u g d → Matched k u f g c d → Both (Agree k u) (deleting k u f c) (deleting k u g d)
    unfolding deleting
    deleting_agree c d x y both_absent = refl
    deleting_agree c d x y (both_declared s) = refl
    deleting_agree c d x y (both_ended s) = refl
    deleting_agree c d x y (both_on s i j e) =
        both_unless (Agree k u) (may k.privileges.records u s.object (λ r. r.delete)) _ _ _ (λ right. go (delete_table k.privileges.records u s.object right))
      where
        go : is_table s.object ≡ true →
            Both (Agree k u)
            (unless (removes (rows_behind f (through k s)) i) store_refuses
            (deleted (through k s) (with_rows_behind f (through k s).table (remove (rows_behind f (through k s)) i)) s i))
            (unless (removes (rows_behind g (through k s)) j) store_refuses
            (deleted (through k s) (with_rows_behind g (through k s).table (remove (rows_behind g (through k s)) j)) s j))
        go t =
            let w = chosen_whole s x.cursor.0 t in
            let b = spoken s.object in
            let r : rows_behind f (through k s) ≡ rows_behind g (through k s) =
            behind_spoken f k.objects.records s.object ∙ whole_rows w f g x.rows y.rows q ∙ sym (behind_spoken g k.objects.records s.object) in
            let n : i ≡ j = whole_place w (f b) (g b) i j (at_place _ _ i (pointed_at k u f s i x.cursor.1)) (at_place _ _ j (pointed_at k u g s j y.cursor.1)) e in
            rw (r, n, with_behind k s f (remove (rows_behind g (through k s)) j), with_behind k s g (remove (rows_behind g (through k s)) j))
            (both_unless (Agree k u) (removes (rows_behind g (through k s)) j) _ _ _ (λ _. removed_agree f g q s (remove (rows_behind g (through k s)) j) j))

    -- INSERT: into a table that the user reaches
    more_matched : (t : Bytes) → Whole k u t → (rs : List Row) (c d : Cursor) → Fit k u f c → Fit k u g d → Matched k u f g c d → Matched k u (with_rows f t rs) (with_rows g t rs) c d
    more_matched t w rs c d x y both_absent = both_absent
    more_matched t w rs c d x y (both_declared s) = both_declared s
    more_matched t w rs c d x y (both_ended s) = both_ended s
    more_matched t w rs c d x y (both_on s i j e) = both_on s i j (go (same (spoken s.object) t) refl)
      where
        go : (z : Bool) → same (spoken s.object) t ≡ z →
            before k u (spoken s.object) (cond (same (spoken s.object) t) rs (f (spoken s.object))) i ≡ before k u (spoken s.object) (cond (same (spoken s.object) t) rs (g (spoken s.object))) j
        go true p =
            let n : i ≡ j = whole_place (subst (λ m. Whole k u m) (sym (same_true (spoken s.object) t p)) w) (f (spoken s.object)) (g (spoken s.object)) i j
            (at_place _ _ i (pointed_at k u f s i x.cursor.1)) (at_place _ _ j (pointed_at k u g s j y.cursor.1)) e in
            rw (p, n) refl
        go false p = rw p e

    pub inserting_agree : (c d : Cursor) (name : Parameter) (count : ℕ) (strings : List Parameter) → Fit k u f c → Fit k u g d → Matched k u f g c d →
        Both (Agree k u) (inserting k u f c name count strings) (inserting k u g d name count strings)
    unfolding inserting
    inserting_agree c d name count strings x y m =
        both_found (Agree k u) (table_named k.objects.records name.bytes) _ _ _ (λ t found.
        both_unless (Agree k u) (may k.privileges.records u t (λ r. r.insert)) _ _ _ (λ right.
        both_unless (Agree k u) (eqb (length strings) (length (columns_in t.definition))) _ _ _ (λ _.
        both_unless_at (Agree k u) (first_long (row_writes 0 (columns_in t.definition) strings)) _ _ _ (λ _.
        let o = table_found k.objects.records name.bytes t found in
        let w : Whole k u name.bytes = record { object = t; stands = o.0; reach = right_reaches k.privileges.records u t (λ r. r.insert) insert_some right; table = o.2; named = o.1 } in
        rw (whole_rows w f g x.rows y.rows q)
        (both_unless_at (Agree k u) (first_repeated (g name.bytes) (row_writes 0 (columns_in t.definition) strings)) _ _ _ (λ _.
        both_unless (Agree k u) (appends (limit_of t.kind) (g name.bytes) (strings_of strings)) _ _ _ (λ _.
        record {
          told = refl;
          seen = with_seen f g q name.bytes (g name.bytes ++ (strings_of strings ∷ [])) (g name.bytes ++ (strings_of strings ∷ [])) refl;
          cursors = more_matched name.bytes w (g name.bytes ++ (strings_of strings ∷ [])) c d x y m;
        })))))))

    -- UPDATE through a table: the rows are equal on both cards
    table_updated : (s : Choice) (i : ℕ) (rs : List Row) (ws : List Write) → Both (Agree k u) (updated k f s i rs ws) (updated k g s i rs ws)
    table_updated s i rs ws =
        rw (with_behind k s f (set rs i (written ws (get_or rs i []))), with_behind k s g (set rs i (written ws (get_or rs i []))))
        (both_unless_at (Agree k u) (barred_at k.objects.records s.object ws) _ _ _ (λ _.
        both_unless_at (Agree k u) (first_long ws) _ _ _ (λ _.
        both_unless_at (Agree k u) (first_repeated (remove rs i) ws) _ _ _ (λ _.
        both_unless (Agree k u) (replaces rs i (written ws (get_or rs i []))) _ _ _ (λ _.
        equal_step f g q s (set rs i (written ws (get_or rs i []))) i)))))

    -- UPDATE through a view: a row within its columns' lengths can be stored, and nothing that is written is unique
    replaces_still : (rows : Rows) (c : Cursor) → Fit k u rows c → (s : Choice) → Chosen k u s → (i : ℕ) (x : At (through k s) (rows (spoken s.object)) i) (ws : List Write) →
        ((w : Write) → In w ws → In w.to (placed 0 (through k s).held)) → first_long ws ≡ None → replaces (rows (spoken s.object)) i (written ws x.row) ≡ true
    unfolding replaces storable
    replaces_still rows c fit s h i x ws columns long =
        let os = k.objects.records in
        let o = (object_found os s.object.name s.object h.stands).0 in
        let t = behind os s.object o (all-In (Formed os) fit.objects o) in
        let cs = columns_in t.table.definition in
        let name : t.table.name ≡ spoken s.object = some_inj (sym t.named ∙ window_table os s.object) in
        let old : RowOf cs x.row = all-In (RowOf cs) (subst (λ n. AllByRecursion (RowOf cs) (rows n)) name (all-In (RowsOf rows) fit.rows t.stands t.a_table).cells) (nth-In (rows (spoken s.object)) i x.row x.stands) in
        let new : RowOf cs (written ws x.row) = written_row cs ws x.row (λ w j. subst (λ hs. In w.to (placed 0 hs)) t.held (columns w j)) long old in
        let a : length (encoded (written ws x.row)) ≤ row_sum cs = row_storable cs (written ws x.row) new in
        let b : row_sum cs ≤ 240 = (table_formed os t.table (all-In (Formed os) fit.objects t.stands) t.a_table).storable in
        and_from (ltb i (length (rows (spoken s.object)))) _ (lt-ltb i (length (rows (spoken s.object))) (nth_length (rows (spoken s.object)) i x.row x.stands))
        (le-leb (length (encoded (written ws x.row))) 240 (omega arith))

    row_wide : (rows : Rows) (c : Cursor) → Fit k u rows c → (s : Choice) → Chosen k u s → (r : Row) → In r (rows (spoken s.object)) → length r ≡ length (through k s).held
    row_wide rows c fit s h r i =
        let os = k.objects.records in
        let o = (object_found os s.object.name s.object h.stands).0 in
        let t = behind os s.object o (all-In (Formed os) fit.objects o) in
        let name : t.table.name ≡ spoken s.object = some_inj (sym t.named ∙ window_table os s.object) in
        rw t.held (rows_length k rows fit.rows t.table t.stands t.a_table r (subst (λ n. In r (rows n)) (sym name) i))

    view_updated : (c d : Cursor) → Fit k u f c → Fit k u g d → (s : Choice) → Chosen k u s → is_table s.object ≡ false → (i j : ℕ) →
        (x : At (through k s) (f (spoken s.object)) i) (y : At (through k s) (g (spoken s.object)) j) →
        before k u (spoken s.object) (f (spoken s.object)) i ≡ before k u (spoken s.object) (g (spoken s.object)) j →
        (ws : List Write) → ((w : Write) → In w ws → In w.to (placed 0 (through k s).held)) →
        Both (Agree k u) (updated k f s i (f (spoken s.object)) ws) (updated k g s j (g (spoken s.object)) ws)
    view_updated c d left right s h v i j x y e ws columns =
        rw (v, nth-get_or (f b) i x.row [] x.stands, nth-get_or (g b) j y.row [] y.stands)
        (both_unless_at (Agree k u) (first_barred k.objects.records (through k s) ws) _ _ _ (λ nb.
        both_unless_at (Agree k u) (first_long ws) _ _ _ (λ long.
        let fresh = λ (w : Write) (n : In w ws). (or_parts w.to.column.unique _ (first_barred_none k.objects.records (through k s) ws nb n)).0 in
        rw (
          never_repeated (remove (f b) i) ws fresh,
          never_repeated (remove (g b) j) ws fresh,
          replaces_still f c left s h i x ws columns long,
          replaces_still g d right s h j y ws columns long,
          with_behind k s f (set (f b) i (written ws x.row)),
          with_behind k s g (set (g b) j (written ws y.row)),
        )
        (agreed nb))))
      where
        b : Bytes
        b = spoken s.object

        agreed : first_barred k.objects.records (through k s) ws ≡ None →
            Agree k u (record { rows = with_rows f b (set (f b) i (written ws x.row)); cursor = on_row s i; outcome = gives [] })
            (record { rows = with_rows g b (set (g b) j (written ws y.row)); cursor = on_row s j; outcome = gives [] })
        agreed nb =
            let vs = reached k u b in
            let un = untested s ws nb in
            let own = chosen-In k u s h in
            let wide : length x.row ≡ length y.row =
            row_wide f c left s h x.row (nth-In (f b) i x.row x.stands) ∙ sym (row_wide g d right s h y.row (nth-In (g b) j y.row y.stands)) in
            let alike = look_written ws x.row y.row vs wide un (looks_alike k u b (through k s) (f b) (g b) i j own x y (q b) e) in
            let p : sees vs (set (f b) i (written ws x.row)) ≡ sees vs (set (g b) j (written ws y.row)) =
            seen_set visible (look vs) (f b) i x.row (written ws x.row) x.stands (visible-In x.row own x.meet) (visible-In (written ws x.row) own (meets_written ws (through k s) x.row (un (through k s) own) ∙ x.meet))
            ∙ rw (q b, e, alike) refl
            ∙ sym (seen_set visible (look vs) (g b) j y.row (written ws y.row) y.stands (visible-In y.row own y.meet) (visible-In (written ws y.row) own (meets_written ws (through k s) y.row (un (through k s) own) ∙ y.meet))) in
            record {
              told = refl;
              seen = with_seen f g q b (set (f b) i (written ws x.row)) (set (g b) j (written ws y.row)) p;
              cursors = both_on s i j (rw (rows_there f b (set (f b) i (written ws x.row)), rows_there g b (set (g b) j (written ws y.row)))
                  (rank_set visible (look vs) (f b) i (written ws x.row) ∙ e ∙ sym (rank_set visible (look vs) (g b) j (written ws y.row))));
            }

    pub updating_agree : (c d : Cursor) (ps : List Parameter) → Fit k u f c → Fit k u g d → Matched k u f g c d → Both (Agree k u) (updating k u f c ps) (updating k u g d ps)
    unfolding updating
    updating_agree c d ps left right both_absent = refl
    updating_agree c d ps left right (both_declared s) = refl
    updating_agree c d ps left right (both_ended s) = refl
    updating_agree c d ps left right (both_on s i j e) =
        both_unless (Agree k u) (may k.privileges.records u s.object (λ r. r.update)) _ _ _ (λ _.
        both_unless_at (Agree k u) (first_foreign (through k s) (assigned_columns ps)) _ _ _ (λ _.
        subst (λ rs. Both (Agree k u) (updated k f s i rs ws) (updated k g s j (rows_behind g (through k s)) ws)) (sym (behind_spoken f k.objects.records s.object))
        (subst (λ rs. Both (Agree k u) (updated k f s i (f b) ws) (updated k g s j rs ws)) (sym (behind_spoken g k.objects.records s.object))
        (go (is_table s.object) refl))))
      where
        b : Bytes
        b = spoken s.object

        ws : List Write
        ws = somes (writes_of (shown_column (through k s)) ps)

        x : At (through k s) (f b) i
        x = pointed_at k u f s i left.cursor.1

        y : At (through k s) (g b) j
        y = pointed_at k u g s j right.cursor.1

        go : (t : Bool) → is_table s.object ≡ t → Both (Agree k u) (updated k f s i (f b) ws) (updated k g s j (g b) ws)
        go true t =
            let w = chosen_whole s left.cursor.0 t in
            let r : f b ≡ g b = whole_rows w f g left.rows right.rows q in
            let n : i ≡ j = whole_place w (f b) (g b) i j (at_place _ _ i x) (at_place _ _ j y) e in
            subst (λ rs. Both (Agree k u) (updated k f s i rs ws) (updated k g s j (g b) ws)) (sym r)
            (subst (λ m. Both (Agree k u) (updated k f s m (g b) ws) (updated k g s j (g b) ws)) (sym n) (table_updated s j (g b) ws))
        go false v = view_updated (on_row s i) (on_row s j) left right s left.cursor.0 v i j x y e ws (λ w m. writes_placed (through k s) ps m)
