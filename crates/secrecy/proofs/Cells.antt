-- Cells that a user does not see keep their bytes, and their rows their places.
use Rattle.std.proofs.Common.{◌≡◌, ℕ, zero, suc, ◌+◌, ◌<◌, Bool, true, false, ◌&&◌, ◌||◌, eqb, ◌⊎◌, List, [], ◌∷◌, length, set, Some, None, sym, refl, ap, ◌∙◌, subst, inl, inr, arith}
use Rattle.std.specs.List.{range_with_len, AllByRecursion}
use Rattle.std.proofs.lemmas.Bool.{both_ways, and_from, or_left, or_right, eqb-true, eq-eqb}
use Rattle.cardmodel.specs.Lists.{any}
use Rattle.cardmodel.specs.State.{Bytes, Id, Row, Object, Catalogue, Rows}
use Rattle.cardmodel.specs.Objects.{same, is_table, table_named, columns_in, Window, window, shows, cell, meets}
use Rattle.cardmodel.specs.CatalogueRules.{Alteration, with_rows, with_emptied}
use Rattle.cardmodel.specs.CursorRules.{Write, written}
use Rattle.cardmodel.specs.Sight.{reached, cell_shown}
use Rattle.cardmodel.proofs.Lists.{In, here, there, any-In, any_none, nth, nth-In, none_some, some_inj}
use Rattle.cardmodel.proofs.Names.{same_true}
use Rattle.cardlaws.specs.Sound.{RowsOf}
use Rattle.cardlaws.proofs.Rows.{writes_to, written_length, cell_unwritten}
use Rattle.cardlaws.proofs.Windows.{table_columns}
use Rattle.cardlaws.proofs.Conditions.{Untested, meets_written}
use Rattle.secrecy.proofs.Looks.{table_meets}
use Rattle.secrecy.proofs.Linked.{Whole, whole-In, whole_length, At}
use Rattle.secrecy.proofs.Catalogues.{Change, stays, whole, fresh}
use Rattle.secrecy.proofs.Touches.{Touch, nothing, whole_table, one_row}

-- Cell n of row i of table t is unseen, and holds v.
pub record Safe (u : Id) (t : Bytes) (i n : ℕ) (v : Bytes) (k : Catalogue) (f : Rows) : Type 0 where
  pub row : Row
  pub stands : nth (f t) i ≡ Some row
  pub inside : n < length row
  pub hidden : cell_shown (reached k u t) row n ≡ false
  pub holds : cell row n ≡ v

-- a table shows all of its cells
counted : (a n m : ℕ) → m < n → any (eqb (a + m)) (range_with_len a n) ≡ true
counted a zero m l = absurd (omega arith)
counted a (suc n) zero l = or_left _ _ (eq-eqb (a + 0) a (omega arith))
counted a (suc n) (suc m) l =
    let z : (a + 1) + m ≡ a + suc m = omega arith in
    subst (λ x. (eqb x a || any (eqb x) (range_with_len (a + 1) n)) ≡ true) z (or_right (eqb ((a + 1) + m) a) _ (counted (a + 1) n m (omega arith)))

table_shows_all : (os : List Object) (o : Object) (n : ℕ) → is_table o ≡ true → n < length (columns_in o.definition) → shows (window os o) n ≡ true
unfolding shows
table_shows_all os o n t l = rw (table_columns os o t) (let z : 0 + n ≡ n = omega arith in subst (λ m. any (eqb m) (range_with_len 0 (length (columns_in o.definition))) ≡ true) z (counted 0 (length (columns_in o.definition)) n l))

set_cases : {A : Type 0} (xs : List A) (j i : ℕ) (x y w : A) → nth xs j ≡ Some x → nth xs i ≡ Some w → (nth (set xs j y) i ≡ Some w) ⊎ ((w ≡ x) × (nth (set xs j y) i ≡ Some y))
set_cases [] j i x y w e f = inl f
set_cases (z ∷ xs) zero zero x y w e f = inr (some_inj (sym f ∙ e), refl)
set_cases (z ∷ xs) zero (suc i) x y w e f = inl f
set_cases (z ∷ xs) (suc j) zero x y w e f = inl f
set_cases (z ∷ xs) (suc j) (suc i) x y w e f = set_cases xs j i x y w e f

-- what is seen of a row is the same when columns are written that no window tests
shown_written : (ws : List Write) (r : Row) (n : ℕ) (vs : List Window) → ((v : Window) → In v vs → Untested ws v) → cell_shown vs (written ws r) n ≡ cell_shown vs r n
unfolding cell_shown
shown_written ws r n [] h = refl
shown_written ws r n (v ∷ vs) h = rw (meets_written ws v r (h v here), shown_written ws r n vs (λ x i. h x (there i)))

module _ (u : Id) (t : Bytes) (i n : ℕ) (v : Bytes) (k : Catalogue) (f : Rows) (a : AllByRecursion (RowsOf f) k.objects.records) (s : Safe u t i n v k f) where
  -- the user does not reach the table itself
  not_whole : Whole k u t → ⊥
  unfolding cell_shown
  not_whole w =
      let l = whole_length w f a s.row (nth-In (f t) i s.row s.stands) in
      let m = s.inside in
      both_ways (cell_shown (reached k u t) s.row n) s.hidden
      (any-In (λ x. meets x s.row && shows x n) (whole-In w)
      (and_from _ _ (table_meets k.objects.records w.object s.row w.table) (table_shows_all k.objects.records w.object n w.table (omega arith))))

  -- a table that the user reaches itself is another one
  elsewhere_safe : (b : Bytes) (rs : List Row) → Whole k u b → Safe u t i n v k (with_rows f b rs)
  elsewhere_safe b rs w = go (same t b) refl
    where
      go : (z : Bool) → same t b ≡ z → Safe u t i n v k (with_rows f b rs)
      go true e = absurd (not_whole (subst (λ m. Whole k u m) (sym (same_true t b e)) w))
      go false e = record { row = s.row; stands = rw e s.stands; inside = s.inside; hidden = s.hidden; holds = s.holds }

  -- an alteration of the catalogue
  pub altered_safe : ((t : Bytes) → table_named k.objects.records t ≡ None → f t ≡ []) → (x : Alteration) → Change k u x t → Safe u t i n v x.catalogue (with_emptied f x.emptied)
  altered_safe elsewhere x (stays e h) = record {
    row = s.row;
    stands = rw (h f) s.stands;
    inside = s.inside;
    hidden = subst (λ vs. cell_shown vs s.row n ≡ false) e s.hidden;
    holds = s.holds;
  }
  altered_safe elsewhere x (whole w) = absurd (not_whole w)
  altered_safe elsewhere x (fresh e) = absurd (none_some (subst (λ rs. nth rs i ≡ Some s.row) (elsewhere t e) s.stands))

  -- a row that is written through a window, in columns that it shows and that no window tests
  written_safe : (b : Bytes) (w : Window) → In w (reached k u b) → (j : ℕ) → (x : At w (f b) j) → (ws : List Write) → ((y : Write) → In y ws → shows w y.to.number ≡ true) →
      ((z : Window) → In z (reached k u b) → Untested ws z) → Safe u t i n v k (with_rows f b (set (f b) j (written ws x.row)))
  unfolding cell_shown
  written_safe b w own j x ws shown un = go (same t b) refl
    where
      go : (z : Bool) → same t b ≡ z → Safe u t i n v k (with_rows f b (set (f b) j (written ws x.row)))
      go false e = record { row = s.row; stands = rw e s.stands; inside = s.inside; hidden = s.hidden; holds = s.holds }
      go true e = at (set_cases (f b) j i x.row (written ws x.row) s.row x.stands (subst (λ m. nth (f m) i ≡ Some s.row) name s.stands))
        where
          name : t ≡ b
          name = same_true t b e

          own_t : In w (reached k u t)
          own_t = subst (λ m. In w (reached k u m)) (sym name) own

          -- the cell is not written: what is written is shown
          spared : s.row ≡ x.row → (y : Write) → In y ws → (c : Bool) → writes_to n y ≡ c → writes_to n y ≡ false
          spared p y m false q = q
          spared p y m true q =
              absurd (both_ways (cell_shown (reached k u t) s.row n) s.hidden
              (any-In (λ z. meets z s.row && shows z n) own_t
              (and_from _ _ (subst (λ r. meets w r ≡ true) (sym p) x.meet) (subst (λ c. shows w c ≡ true) (sym (eqb-true n y.to.number q)) (shown y m)))))

          at : ((nth (set (f b) j (written ws x.row)) i ≡ Some s.row) ⊎ ((s.row ≡ x.row) × (nth (set (f b) j (written ws x.row)) i ≡ Some (written ws x.row)))) →
              Safe u t i n v k (with_rows f b (set (f b) j (written ws x.row)))
          at (inl p) = record { row = s.row; stands = rw e p; inside = s.inside; hidden = s.hidden; holds = s.holds }
          at (inr p) = record {
            row = written ws x.row;
            stands = rw e p.1;
            inside = rw (written_length ws x.row) (subst (λ r. n < length r) p.0 s.inside);
            hidden = shown_written ws x.row n (reached k u t) (subst (λ m. (z : Window) → In z (reached k u m) → Untested ws z) (sym name) un)
                ∙ subst (λ r. cell_shown (reached k u t) r n ≡ false) p.0 s.hidden;
            holds = cell_unwritten ws x.row n (any_none (writes_to n) ws (λ y m. spared p.0 y m (writes_to n y) refl)) ∙ ap (λ r. cell r n) (sym p.0) ∙ s.holds;
          }

  -- a command of rows or of the cursor
  pub touched_safe : (g : Rows) → Touch k u f g → Safe u t i n v k g
  touched_safe g nothing = s
  touched_safe g (whole_table b rs w) = elsewhere_safe b rs w
  touched_safe g (one_row b w own j x ws shown un) = written_safe b w own j x ws shown un
