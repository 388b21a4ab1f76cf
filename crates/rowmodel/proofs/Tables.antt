-- One table among the sixteen.
use Rattle.std.proofs.Common.{◌≡◌, ℕ, zero, suc, ◌+◌, ◌<◌, true, false, ◌≢◌, List, [], ◌∷◌, map, length, get_or, set, sym, refl, ap, ◌∙◌, subst, ⊎_elim, arith}
use Rattle.std.specs.List.{range_with_len}
use Rattle.std.proofs.lemmas.List.{get_or_past, get_or-set_same, get_or-set_other, length-set}
use Rattle.std.proofs.lemmas.List.FromFn.{length-map-range_with_len, get_or-map-range_with_len, fill_by_all}
use Rattle.std.proofs.lemmas.Bool.{cases_lt, cases_eq}
use Rattle.rowmodel.specs.Meaning.{Table, unused, used, Meaning, table, table_of, with_table, is_used, limit_of, rows_of, with_rows, limits}

-- a used number is a place in the list of tables
pub used_within : (m : Meaning) (t : ℕ) → is_used (table m t) ≡ true → t < length m.tables
used_within m t e =
    ⊎_elim (λ h. h)
    (λ h. let p : table m t ≡ unused = get_or_past m.tables t unused h in
    let q : is_used (table m t) ≡ false = ap is_used p in
    let z : ◌≡◌ {A = ℕ} 0 1 = cc in omega arith)
    (cases_lt t (length m.tables))

-- a table whose limit is not 0 is used
pub table_of_used : (n : ℕ) (rows : List (List ℕ)) → 0 < n → table_of n rows ≡ used n rows
table_of_used zero rows l = absurd (omega arith)
table_of_used (suc n) rows l = refl

-- the table that was set, and the others
pub table_set : (m : Meaning) (t : ℕ) (x : Table) → t < length m.tables → table (with_table m t x) t ≡ x
table_set m t x l = get_or-set_same m.tables t x unused l

pub table_other : (m : Meaning) (t u : ℕ) (x : Table) → u ≢ t → table (with_table m t x) u ≡ table m u
table_other m t u x ne = get_or-set_other m.tables t u x unused ne

-- a table with another list of rows is used as it was, under its limit
pub used_with : (x : Table) (rows : List (List ℕ)) → is_used (with_rows x rows) ≡ is_used x
used_with unused rows = refl
used_with (used limit old) rows = refl

pub limit_with : (x : Table) (rows : List (List ℕ)) → limit_of (with_rows x rows) ≡ limit_of x
limit_with unused rows = refl
limit_with (used limit old) rows = refl

pub rows_with : (x : Table) (rows : List (List ℕ)) → is_used x ≡ true → rows_of (with_rows x rows) ≡ rows
rows_with unused rows e = let z : ◌≡◌ {A = ℕ} 0 1 = cc in absurd (omega arith)
rows_with (used limit old) rows e = refl

-- a change at one number moves the sum of the limits by that table's limits
pub limits_set : (xs : List Table) (t : ℕ) (x : Table) → t < length xs → limits (set xs t x) + limit_of (get_or xs t unused) ≡ limits xs + limit_of x
limits_set [] t x l = absurd (omega arith)
limits_set (y ∷ ys) zero x l = omega arith
limits_set (y ∷ ys) (suc t) x l = let h = limits_set ys t x (omega arith) in omega (arith, h)

-- lists made from a function of the index
pub map_counting_same : {X : Type 0} (f g : ℕ → X) (n : ℕ) → ((k : ℕ) → k < n → f k ≡ g k) → map f (range_with_len 0 n) ≡ map g (range_with_len 0 n)
map_counting_same f g n h =
    fill_by_all g (map f (range_with_len 0 n)) n (f 0) (length-map-range_with_len f 0 n) (λ k l. get_or-map-range_with_len f 0 n k k (f 0) l (omega arith) ∙ h k l)

pub map_counting_set : {X : Type 0} (f g : ℕ → X) (n t : ℕ) (x : X) → t < n → g t ≡ x → ((u : ℕ) → u < n → u ≢ t → g u ≡ f u) →
    map g (range_with_len 0 n) ≡ set (map f (range_with_len 0 n)) t x
map_counting_set f g n t x l e h = sym (fill_by_all g (set (map f (range_with_len 0 n)) t x) n x (length-set (map f (range_with_len 0 n)) t x ∙ length-map-range_with_len f 0 n) here)
  where
    here : (k : ℕ) → k < n → get_or (set (map f (range_with_len 0 n)) t x) k x ≡ g k
    here k lk =
        ⊎_elim
        (λ same. ap (λ j. get_or (set (map f (range_with_len 0 n)) t x) j x) same ∙ get_or-set_same (map f (range_with_len 0 n)) t x x (subst (λ m. t < m) (sym (length-map-range_with_len f 0 n)) l) ∙ sym e ∙ ap g (sym same))
        (λ ne. get_or-set_other (map f (range_with_len 0 n)) t k x x ne ∙ get_or-map-range_with_len f 0 n k k x lk (omega arith) ∙ sym (h k lk ne))
        (cases_eq k t)
