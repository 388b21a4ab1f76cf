-- What windows show of a row, with a place for each window, filled or not.
use Rattle.std.proofs.Common.{◌≡◌, ℕ, zero, suc, ◌+◌, ◌<◌, Bool, true, false, cond, ◌||◌, eqb, List, [], ◌∷◌, map, length, Some, None, filter, Option, sym, refl, ap, ◌∙◌, subst, arith}
use mathlib.Core.List.{head-eq_of_cons-eq, tail-eq_of_cons-eq}
use Rattle.std.specs.List.{range_with_len}
use Rattle.std.proofs.lemmas.List.{ext_get_or}
use Rattle.std.proofs.lemmas.Bool.{eqb-true, both_ways, or_parts, or_right}
use Rattle.cardmodel.specs.Lists.{any}
use Rattle.cardmodel.specs.State.{Bytes, Row, Object}
use Rattle.cardmodel.specs.Objects.{is_table, columns_in, Window, window, cell, meets}
use Rattle.cardmodel.specs.CursorRules.{Write, written}
use Rattle.cardmodel.proofs.Lists.{In, here, there, none_some, some_inj}
use Rattle.cardlaws.proofs.Conditions.{Untested, meets_written}
use Rattle.cardlaws.proofs.Windows.{table_tests, table_columns}
use Rattle.secrecy.proofs.Ranks.{rank, seen_all, rank_all, map_tells}
use Rattle.secrecy.proofs.Writes.{map_written}

-- the cells that a window shows of a row, if it shows the row
unfoldable pub shown_cells : Window → Row → Option (List Bytes)
shown_cells w r = cond (meets w r) (Some (map (cell r) w.columns)) None

abbrev pub Look : Type 0
Look = List (Bytes × Option (List Bytes))

abbrev pub look : List Window → Row → Look
look ws r = map (λ w. (w.name, shown_cells w r)) ws

abbrev pub given : Option (List Bytes) → Bool
given None = false
given (Some r) = true

-- some window shows the row
abbrev pub visible : Look → Bool
visible l = any (λ x. given x.1) l

-- the visible rows in order, each with what is shown of it
abbrev pub sees : List Window → List Row → List Look
sees ws rs = filter visible (map (look ws) rs)

-- looks stay alike when both rows are written, in columns that no window tests
some_alike : {A : Type 0} (b c : Bool) (x y z w : A) → (x ≡ y → z ≡ w) → cond b (Some x) None ≡ cond c (Some y) None → cond b (Some z) None ≡ cond c (Some w) None
some_alike true true x y z w f e = ap {B = Option _} Some (f (some_inj e))
some_alike true false x y z w f e = absurd (none_some (sym e))
some_alike false true x y z w f e = absurd (none_some e)
some_alike false false x y z w f e = refl

cells_written : (ws : List Write) (r s : Row) (v : Window) → length r ≡ length s → Untested ws v → shown_cells v r ≡ shown_cells v s → shown_cells v (written ws r) ≡ shown_cells v (written ws s)
unfolding shown_cells
cells_written ws r s v l t e =
    rw (meets_written ws v r t, meets_written ws v s t)
    (some_alike (meets v r) (meets v s) (map (cell r) v.columns) (map (cell s) v.columns) (map (cell (written ws r)) v.columns) (map (cell (written ws s)) v.columns)
    (map_written ws r s v.columns l) e)

pub look_written : (ws : List Write) (r s : Row) (vs : List Window) → length r ≡ length s → ((v : Window) → In v vs → Untested ws v) → look vs r ≡ look vs s → look vs (written ws r) ≡ look vs (written ws s)
look_written ws r s [] n t l = refl
look_written ws r s (v ∷ vs) n t l =
    let a : shown_cells v r ≡ shown_cells v s = ap (λ p. p.1) (head-eq_of_cons-eq l) in
    let b : shown_cells v (written ws r) ≡ shown_cells v (written ws s) = cells_written ws r s v n (t v here) a in
    let c : look vs (written ws r) ≡ look vs (written ws s) = look_written ws r s vs n (λ x i. t x (there i)) (tail-eq_of_cons-eq l) in
    λ i. (v.name, b i) ∷ c i

-- a row that a window shows is visible
pub visible-In : {v : Window} {vs : List Window} (r : Row) → In v vs → meets v r ≡ true → visible (look vs r) ≡ true
unfolding shown_cells
visible-In {v} r (here {xs = vs}) m = rw m
visible-In {v} r (there {y = x} {xs = vs} i) m = or_right (given (shown_cells x r)) (visible (look vs r)) (visible-In r i m)

-- what a look tells of one of its windows
pub entry : {v : Window} {vs : List Window} → In v vs → Look → Option (List Bytes)
entry (here {xs = xs}) [] = None
entry (here {xs = xs}) (x ∷ l) = x.1
entry (there {y = y} {xs = xs} i) [] = None
entry (there {y = y} {xs = xs} i) (x ∷ l) = entry i l

pub entry_look : {v : Window} {vs : List Window} (i : In v vs) (r : Row) → entry i (look vs r) ≡ shown_cells v r
unfolding entry
entry_look here r = refl
entry_look (there i) r = entry_look i r

-- of a row that is not visible it tells nothing
pub entry_hidden : {v : Window} {vs : List Window} (i : In v vs) (l : Look) → visible l ≡ false → given (entry i l) ≡ false
unfolding entry
entry_hidden here [] h = refl
entry_hidden here (x ∷ l) h = (or_parts (given x.1) (visible l) h).0
entry_hidden (there i) [] h = refl
entry_hidden (there i) (x ∷ l) h = entry_hidden i l (or_parts (given x.1) (visible l) h).1

-- a table shows every row, and every cell of it
pub table_meets : (os : List Object) (o : Object) (r : Row) → is_table o ≡ true → meets (window os o) r ≡ true
unfolding meets
table_meets os o r t = rw (table_tests os o t) refl

cell_of : {X : Type 0} (f g : ℕ → X) (a n : ℕ) → map f (range_with_len a n) ≡ map g (range_with_len a n) → (i : ℕ) → i < n → f (a + i) ≡ g (a + i)
cell_of f g a zero e i l = absurd (omega arith)
cell_of f g a (suc n) e zero l =
    let z : a + 0 ≡ a = omega arith in rw z (head-eq_of_cons-eq e)
cell_of f g a (suc n) e (suc i) l =
    let z : a + suc i ≡ (a + 1) + i = omega arith in rw z (cell_of f g (a + 1) n (tail-eq_of_cons-eq e) i (omega arith))

cells_tell : (n : ℕ) (r s : Row) → length r ≡ n → length s ≡ n → map (cell r) (range_with_len 0 n) ≡ map (cell s) (range_with_len 0 n) → r ≡ s
cells_tell n r s p q e =
    ext_get_or [] r s (p ∙ sym q) (λ i l. let z : 0 + i ≡ i = omega arith in subst (λ x. cell r x ≡ cell s x) z (cell_of (cell r) (cell s) 0 n e i (omega arith)))

-- Rows of a table that is reached itself
module _ (os : List Object) (o : Object) (t : is_table o ≡ true) {vs : List Window} (i : In (window os o) vs) where
  pub all_visible : (r : Row) → visible (look vs r) ≡ true
  all_visible r = visible-In r i (table_meets os o r t)

  table_shown : (r : Row) → shown_cells (window os o) r ≡ Some (map (cell r) (range_with_len 0 (length (columns_in o.definition))))
  unfolding shown_cells
  table_shown r = rw (table_meets os o r t, table_columns os o t) refl

  pub look_tells : (r s : Row) → length r ≡ length (columns_in o.definition) → length s ≡ length (columns_in o.definition) → look vs r ≡ look vs s → r ≡ s
  look_tells r s p q l =
      cells_tell (length (columns_in o.definition)) r s p q (some_inj (sym (table_shown r) ∙ sym (entry_look i r) ∙ ap (entry i) l ∙ entry_look i s ∙ table_shown s))

  pub rows_equal : (rs ss : List Row) → ((r : Row) → In r rs → length r ≡ length (columns_in o.definition)) → ((r : Row) → In r ss → length r ≡ length (columns_in o.definition)) →
      sees vs rs ≡ sees vs ss → rs ≡ ss
  rows_equal rs ss p q e =
      map_tells (look vs) rs ss (λ r s j k l. look_tells r s (p r j) (q s k) l) (sym (seen_all visible (look vs) all_visible rs) ∙ e ∙ seen_all visible (look vs) all_visible ss)

  pub rank_table : (rs : List Row) (n : ℕ) → n < length rs → rank visible (look vs) rs n ≡ n
  rank_table rs n l = rank_all visible (look vs) all_visible rs n l

-- a shown cell, told from the shown cells
pub cell_in : List ℕ → List Bytes → ℕ → Bytes
cell_in [] xs n = []
cell_in (c ∷ cs) [] n = []
cell_in (c ∷ cs) (x ∷ xs) n = cond (eqb n c) x (cell_in cs xs n)

pub cell_in_shown : (cs : List ℕ) (r : Row) (n : ℕ) → any (eqb n) cs ≡ true → cell_in cs (map (cell r) cs) n ≡ cell r n
unfolding cell_in
cell_in_shown [] r n h = absurd (both_ways false refl h)
cell_in_shown (c ∷ cs) r n h = go (eqb n c) refl h (cell_in_shown cs r n)
  where
    go : (b : Bool) → eqb n c ≡ b → (b || any (eqb n) cs) ≡ true → (any (eqb n) cs ≡ true → cell_in cs (map (cell r) cs) n ≡ cell r n) →
        cond (eqb n c) (cell r c) (cell_in cs (map (cell r) cs) n) ≡ cell r n
    go true e h ih = rw e (ap (cell r) (sym (eqb-true n c e)))
    go false e h ih = rw e (ih h)
