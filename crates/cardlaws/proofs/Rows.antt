-- Rows of cells: their length, what a write makes of them, and columns with their numbers.
use Rattle.std.proofs.Common.{◌≡◌, ℕ, zero, suc, ◌+◌, ◌<◌, ◌≤◌, Bool, true, false, cond, eqb, leb, List, [], ◌∷◌, length, set, Some, None, Option, sym, refl, ap, ◌∙◌, subst, arith}
use Rattle.std.specs.Option.{option_map}
use Rattle.std.proofs.lemmas.Bool.{eqb-true, eqb-false, leb-true, or_parts}
use Rattle.std.proofs.lemmas.List.{length-append, length-set, get_or-set_same, get_or-set_other}
use Rattle.fields.specs.Column.{Column}
use Rattle.cells.specs.Form.{encoded, encoded_cells}
use Rattle.cardmodel.specs.Lists.{any, first}
use Rattle.cardmodel.specs.State.{Bytes, Row, Placed}
use Rattle.cardmodel.specs.Objects.{same, column_named, Window, shows, shown_column, cell}
use Rattle.cardmodel.specs.CatalogueRules.{row_sum}
use Rattle.cardmodel.specs.CursorRules.{Write, first_long, written}
use Rattle.cardmodel.proofs.Lists.{In, here, there, some_inj, none_some, nth}
use Rattle.cardlaws.specs.Sound.{RowOf, placed}

-- the length of a row, and of its form
pub row_length : (cs : List Column) (r : Row) → RowOf cs r → length r ≡ length cs
row_length [] [] h = refl
row_length [] (x ∷ r) h = absurd h
row_length (c ∷ cs) [] h = absurd h
row_length (c ∷ cs) (x ∷ r) h = ap suc (row_length cs r h.1)

cells_storable : (cs : List Column) (r : Row) → RowOf cs r → length (encoded_cells r) + 1 ≤ row_sum cs
cells_storable [] [] h = omega arith
cells_storable [] (x ∷ r) h = absurd h
cells_storable (c ∷ cs) [] h = absurd h
cells_storable (c ∷ cs) (x ∷ r) h =
    let l = length-append x (encoded_cells r) in
    let m = cells_storable cs r h.1 in
    let k = h.0 in omega arith

pub row_storable : (cs : List Column) (r : Row) → RowOf cs r → length (encoded r) ≤ row_sum cs
row_storable cs r h = let m = cells_storable cs r h in omega arith

-- a column with its number is the column at that place
with_number : ℕ → Column → Placed
with_number n c = record { number = n; column = c }

pub placed_same : (p q : Placed) → p.number ≡ q.number → p.column ≡ q.column → p ≡ q
unfolding with_number
placed_same p q e f = ap (λ n. with_number n p.column) e ∙ ap (with_number q.number) f

placed_at : (n : ℕ) (cs : List Column) {p : Placed} → In p (placed n cs) → (j : ℕ) × (p.number ≡ n + j) × (nth cs j ≡ Some p.column)
placed_at n [] i = elim i [ ]
placed_at n (c ∷ cs) here = (0, omega arith, refl)
placed_at n (c ∷ cs) (there i) = let r = placed_at (suc n) cs i in let e = r.1 in (suc r.0, omega arith, r.2)

pub placed_nth : (cs : List Column) (p : Placed) → In p (placed 0 cs) → nth cs p.number ≡ Some p.column
placed_nth cs p i =
    let r = placed_at 0 cs i in
    let e = r.1 in
    let f : p.number ≡ r.0 = omega arith in subst (λ j. nth cs j ≡ Some p.column) (sym f) r.2

at_placed : (n : ℕ) (cs : List Column) (j : ℕ) (p : Placed) → p.number ≡ n + j → nth cs j ≡ Some p.column → In p (placed n cs)
at_placed n [] j p e f = absurd (none_some f)
at_placed n (c ∷ cs) zero p e f =
    let g : p ≡ record { number = n; column = c } = placed_same p (record { number = n; column = c }) (omega arith) (sym (some_inj f)) in
    subst (λ q. In q (placed n (c ∷ cs))) (sym g) here
at_placed n (c ∷ cs) (suc j) p e f = there (at_placed (suc n) cs j p (omega arith) f)

pub nth_placed : (cs : List Column) (p : Placed) → nth cs p.number ≡ Some p.column → In p (placed 0 cs)
nth_placed cs p e = at_placed 0 cs p.number p (omega arith) e

-- one number, one column
pub placed_eq : (cs : List Column) (p q : Placed) → In p (placed 0 cs) → In q (placed 0 cs) → p.number ≡ q.number → p ≡ q
placed_eq cs p q i j e =
    let a = placed_nth cs p i in
    let b = placed_nth cs q j in
    placed_same p q e (some_inj (sym a ∙ ap (nth cs) e ∙ b))

-- a column that is named is one of the columns, and of a window one that it shows
column_named_nth : (cs : List Column) (name : Bytes) (p : Placed) → column_named cs name ≡ Some p → nth cs p.number ≡ Some p.column
unfolding column_named
column_named_nth [] name p e = absurd (none_some e)
column_named_nth (c ∷ cs) name p e = go (same c.name name) (column_named cs name) (column_named_nth cs name) e
  where
    found : (q : Placed) → q ≡ p → nth (c ∷ cs) q.number ≡ Some q.column → nth (c ∷ cs) p.number ≡ Some p.column
    found q e h = subst (λ x. nth (c ∷ cs) x.number ≡ Some x.column) e h

    go : (b : Bool) (o : Option Placed) → ((q : Placed) → o ≡ Some q → nth cs q.number ≡ Some q.column) →
        cond b (Some (record { number = 0; column = c })) (option_map (λ q. record { number = suc q.number; column = q.column }) o) ≡ Some p →
        nth (c ∷ cs) p.number ≡ Some p.column
    go true o ih e = found _ (some_inj e) refl
    go false None ih e = absurd (none_some e)
    go false (Some q) ih e = found _ (some_inj e) (ih q refl)

pub column_named_placed : (cs : List Column) (name : Bytes) (p : Placed) → column_named cs name ≡ Some p → In p (placed 0 cs)
column_named_placed cs name p e = nth_placed cs p (column_named_nth cs name p e)

pub shown_placed : (w : Window) (name : Bytes) (p : Placed) → shown_column w name ≡ Some p → In p (placed 0 w.held) × (shows w p.number ≡ true)
unfolding shown_column
shown_placed w name p e = go (column_named w.held name) refl e
  where
    found : (q : Placed) → column_named w.held name ≡ Some q → (b : Bool) → shows w q.number ≡ b → cond b (Some q) None ≡ Some p → In p (placed 0 w.held) × (shows w p.number ≡ true)
    found q f true g e = subst (λ x. In x (placed 0 w.held) × (shows w x.number ≡ true)) (some_inj e) (column_named_placed w.held name q f, g)
    found q f false g e = absurd (none_some e)

    go : (o : Option Placed) → column_named w.held name ≡ o → shown_column w name ≡ Some p → In p (placed 0 w.held) × (shows w p.number ≡ true)
    go None f e = absurd (none_some (rw f at e))
    go (Some q) f e = found q f (shows w q.number) refl (rw f at e)

-- a row keeps its columns when cells are written within their lengths
pub row_set : (cs : List Column) (r : Row) (j : ℕ) (c : Column) (x : Bytes) → nth cs j ≡ Some c → length x ≤ c.longest → RowOf cs r → RowOf cs (set r j x)
row_set [] r j c x e l h = absurd (none_some e)
row_set (d ∷ cs) [] j c x e l h = absurd h
row_set (d ∷ cs) (y ∷ r) zero c x e l h = (subst (λ k. length x ≤ k.longest) (sym (some_inj e)) l, h.1)
row_set (d ∷ cs) (y ∷ r) (suc j) c x e l h = (h.0, row_set cs r j c x e l h.1)

pub first_long_none : (w : Write) (ws : List Write) → first_long (w ∷ ws) ≡ None → (length w.string.bytes ≤ w.to.column.longest) × (first_long ws ≡ None)
first_long_none w ws e = go (leb (length w.string.bytes) w.to.column.longest) refl e
  where
    go : (b : Bool) → leb (length w.string.bytes) w.to.column.longest ≡ b → cond b (first_long ws) (Some w.string.place) ≡ None →
        (length w.string.bytes ≤ w.to.column.longest) × (first_long ws ≡ None)
    go true h e = (leb-true _ _ h, e)
    go false h e = absurd (none_some (sym e))

pub written_row : (cs : List Column) (ws : List Write) (r : Row) → ((w : Write) → In w ws → In w.to (placed 0 cs)) → first_long ws ≡ None → RowOf cs r → RowOf cs (written ws r)
written_row cs [] r p e h = h
written_row cs (w ∷ ws) r p e h =
    let l = first_long_none w ws e in
    row_set cs (written ws r) w.to.number w.to.column w.string.bytes (placed_nth cs w.to (p w here)) l.0
    (written_row cs ws r (λ x i. p x (there i)) l.1 h)

-- the cells of a row that was written: of each column the first string for it, or the old one
pub cell_set_other : (r : Row) (i n : ℕ) (x : Bytes) → eqb n i ≡ false → cell (set r i x) n ≡ cell r n
cell_set_other r i n x e = get_or-set_other r i n x [] (eqb-false n i e)

pub cell_set : (r : Row) (i n : ℕ) (x : Bytes) → n < length r → cell (set r i x) n ≡ cond (eqb n i) x (cell r n)
cell_set r i n x l = go (eqb n i) refl
  where
    go : (b : Bool) → eqb n i ≡ b → cell (set r i x) n ≡ cond b x (cell r n)
    go true e = let f = eqb-true n i e in subst (λ j. cell (set r j x) n ≡ x) f (get_or-set_same r n x [] l)
    go false e = cell_set_other r i n x e

pub written_length : (ws : List Write) (r : Row) → length (written ws r) ≡ length r
written_length [] r = refl
written_length (w ∷ ws) r = length-set (written ws r) w.to.number w.string.bytes ∙ written_length ws r

abbrev pub writes_to : ℕ → Write → Bool
writes_to n w = eqb n w.to.number

abbrev pub string_or : Bytes → Option Write → Bytes
string_or old None = old
string_or old (Some w) = w.string.bytes

pub cell_written : (ws : List Write) (r : Row) (n : ℕ) → n < length r → cell (written ws r) n ≡ string_or (cell r n) (first (writes_to n) ws)
cell_written [] r n l = refl
cell_written (w ∷ ws) r n l =
    let m = written_length ws r in
    cell_set (written ws r) w.to.number n w.string.bytes (omega arith) ∙ go (eqb n w.to.number) (cell_written ws r n l)
  where
    go : (b : Bool) → cell (written ws r) n ≡ string_or (cell r n) (first (writes_to n) ws) →
        cond b w.string.bytes (cell (written ws r) n) ≡ string_or (cell r n) (cond b (Some w) (first (writes_to n) ws))
    go true ih = refl
    go false ih = ih

pub cell_unwritten : (ws : List Write) (r : Row) (n : ℕ) → any (writes_to n) ws ≡ false → cell (written ws r) n ≡ cell r n
cell_unwritten [] r n e = refl
cell_unwritten (w ∷ ws) r n e =
    let h = or_parts (writes_to n w) (any (writes_to n) ws) e in
    cell_set_other (written ws r) w.to.number n w.string.bytes h.0 ∙ cell_unwritten ws r n h.1
