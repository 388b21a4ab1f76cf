-- The tables that the regions of a store mean.
use Rattle.std.proofs.Common.{◌≡◌, ℕ, zero, suc, ◌+◌, ◌<◌, ◌≤◌, true, ◌≢◌, List, [], map, length, get_or, set, sym, refl, ap, ◌∙◌, subst, ⊎_elim, arith}
use Rattle.std.proofs.lemmas.List.{ext_get_or, length-map, length-set, get_or-set_same, get_or-set_other}
use Rattle.std.proofs.lemmas.List.FromFn.{length-map-range_with_len, get_or-map-range_with_len}
use Rattle.std.proofs.lemmas.Bool.{cases_eq}
use Rattle.rowmodel.specs.Meaning.{Table, unused, used, table, table_of, with_rows, is_used, limit_of, rows_of, row_at, Sound}
use Rattle.rowmodel.specs.Calls.{listed}
use Rattle.rowmodel.proofs.Mapped.{get_or-map_all}
use Rattle.rowmodel.proofs.Tables.{map_counting_same, table_of_used}
use Rattle.bytestore.specs.declared.region.Region.{Region}
use Rattle.bytestore.specs.Memory.{row_in, Alike}
use Rattle.bytestore.specs.Region.{none, region, Covers, Apart, rows_from, table_in, byte_meaning}
use Rattle.bytestore.proofs.Bytes.{row_in_alike}

-- one table
limit_of_table : (n : ℕ) (rows : List (List ℕ)) → limit_of (table_of n rows) ≡ n
limit_of_table zero rows = refl
limit_of_table (suc n) rows = refl

some_from_used : (n : ℕ) (rows : List (List ℕ)) → is_used (table_of n rows) ≡ true → 0 < n
some_from_used zero rows e = let z : ◌≡◌ {A = ℕ} 0 1 = cc in absurd (omega arith)
some_from_used (suc n) rows e = omega arith

table_of_same : (n : ℕ) (xs ys : List (List ℕ)) → (0 < n → xs ≡ ys) → table_of n xs ≡ table_of n ys
table_of_same zero xs ys h = refl
table_of_same (suc n) xs ys h = ap (used (suc n)) (h (omega arith))

-- the same table at other places, if those hold the same bytes
pub table_alike : (bs cs : List ℕ) (r : Region) (b : ℕ) → (0 < r.limit → (k : ℕ) → k < r.count → (length (row_in bs (r.base + k)) ≤ 240) × Alike cs (b + k) bs (r.base + k)) →
    table_of r.limit (rows_from cs b r.count) ≡ table_in bs r
table_alike bs cs r b h =
    table_of_same r.limit _ _ (λ some. map_counting_same (λ k. row_in cs (b + k)) (λ k. row_in bs (r.base + k)) r.count (λ k l.
    row_in_alike bs cs (r.base + k) (b + k) (h some k l).0 (h some k l).1))

pub length-rows : (bs : List ℕ) (b n : ℕ) → length (rows_from bs b n) ≡ n
length-rows bs b n = length-map-range_with_len (λ k. row_in bs (b + k)) 0 n

pub get_or_rows : (bs : List ℕ) (b n k : ℕ) → k < n → get_or (rows_from bs b n) k [] ≡ row_in bs (b + k)
get_or_rows bs b n k l = get_or-map-range_with_len (λ j. row_in bs (b + j)) 0 n k k [] l (omega arith)

-- the table of a number is the one in its region
table_is : (bs : List ℕ) (rs : List Region) (t : ℕ) → get_or (map (table_in bs) rs) t unused ≡ table_in bs (region rs t)
table_is bs rs t = get_or-map_all (table_in bs) rs t none

-- another table at one number
pub tables_set : (bs cs : List ℕ) (rs ss : List Region) (t : ℕ) (x : Table) → length ss ≡ length rs → t < length rs → table_in cs (region ss t) ≡ x →
    ((u : ℕ) → u ≢ t → table_in cs (region ss u) ≡ table_in bs (region rs u)) → map (table_in cs) ss ≡ set (map (table_in bs) rs) t x
tables_set bs cs rs ss t x long lt here others =
    ext_get_or unused (map (table_in cs) ss) (set (map (table_in bs) rs) t x)
    (length-map ss (table_in cs) ∙ long ∙ sym (length-set (map (table_in bs) rs) t x ∙ length-map rs (table_in bs)))
    (λ u _. table_is cs ss u ∙ ⊎_elim
    (λ e. ap (λ j. table_in cs (region ss j)) e ∙ here ∙ sym (ap (λ j. get_or (set (map (table_in bs) rs) t x) j unused) e ∙ get_or-set_same (map (table_in bs) rs) t x unused (omega (arith, length-map rs (table_in bs)))))
    (λ ne. others u ne ∙ sym (get_or-set_other (map (table_in bs) rs) t u x unused ne ∙ table_is bs rs u))
    (cases_eq u t))

module _ (bs : List ℕ) (rs : List Region) (free : ℕ) where
  pub limit_is : (t : ℕ) → limit_of (table (byte_meaning bs rs free) t) ≡ (region rs t).limit
  limit_is t = ap limit_of (table_is bs rs t) ∙ limit_of_table (region rs t).limit _

  pub some_limit : (t : ℕ) → is_used (table (byte_meaning bs rs free) t) ≡ true → 0 < (region rs t).limit
  some_limit t e = some_from_used (region rs t).limit _ (sym (ap is_used (table_is bs rs t)) ∙ e)

  pub used_is : (t : ℕ) → 0 < (region rs t).limit → table (byte_meaning bs rs free) t ≡ used (region rs t).limit (rows_from bs (region rs t).base (region rs t).count)
  used_is t some = table_is bs rs t ∙ table_of_used (region rs t).limit _ some

  pub row_is : (t k : ℕ) → 0 < (region rs t).limit → k < (region rs t).count → row_at (byte_meaning bs rs free) t k ≡ row_in bs ((region rs t).base + k)
  row_is t k some l = ap (λ x. get_or (rows_of x) k []) (used_is t some) ∙ get_or_rows bs (region rs t).base (region rs t).count k l

  module _ (sound : Sound (byte_meaning bs rs free)) where
    pub count_fits : (t : ℕ) → 0 < (region rs t).limit → (region rs t).count ≤ (region rs t).limit
    count_fits t some =
        omega (arith, (sound.limited t).2, limit_is t, ap (λ x. length (rows_of x)) (used_is t some), length-rows bs (region rs t).base (region rs t).count)

    pub row_small : (t k : ℕ) → 0 < (region rs t).limit → k < (region rs t).count → length (row_in bs ((region rs t).base + k)) ≤ 240
    row_small t k some l =
        subst (λ r. length r ≤ 240) (row_is t k some l)
        (sound.sized t k (omega (arith, ap (λ x. length (rows_of x)) (used_is t some), length-rows bs (region rs t).base (region rs t).count))).1

    module _ (apart : Apart rs) (cs : List ℕ) (t : ℕ) (outside : (q : ℕ) → (Covers (region rs t) q → ⊥) → Alike cs q bs q) where
      -- what is written in one region leaves the tables of the others
      other_table : (u : ℕ) → u ≢ t → table_in cs (region rs u) ≡ table_in bs (region rs u)
      other_table u ne =
          let r : Region = region rs u in
          table_alike bs cs r r.base (λ some k l. (
            row_small u k some l,
            outside (r.base + k) (λ cover. ne (apart (record { one = u; other = t; place = r.base + k; in_one = (omega arith, omega (arith, count_fits u some)); in_other = cover }))),
          ))

      -- the region holds other rows, and their number
      pub listed_meaning : (n : ℕ) (rows : List (List ℕ)) → t < length rs → 0 < (region rs t).limit → rows_from cs (region rs t).base n ≡ rows →
          byte_meaning cs (set rs t (record { base = (region rs t).base; limit = (region rs t).limit; count = n })) free ≡ listed (byte_meaning bs rs free) t rows
      listed_meaning n rows lt some e =
          let r : Region = record { base = (region rs t).base; limit = (region rs t).limit; count = n } in
          ap (λ ts. record { tables = ts; free = free })
          (tables_set bs cs rs (set rs t r) t (with_rows (table (byte_meaning bs rs free) t) rows) (length-set rs t r) lt
          (ap (table_in cs) (get_or-set_same rs t r none lt) ∙ table_of_used (region rs t).limit (rows_from cs (region rs t).base n) some ∙ ap (used (region rs t).limit) e ∙ sym (ap (λ x. with_rows x rows) (used_is t some)))
          (λ u ne. ap (table_in cs) (get_or-set_other rs t u r none ne) ∙ other_table u ne))
