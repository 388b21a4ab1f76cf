-- The store after each call whose needs are met.
use Rattle.std.proofs.Common.{◌≡◌, ℕ, ◌+◌, ◌-◌, ◌*◌, ◌<◌, ◌≤◌, ◌≢◌, List, [], ◌∷◌, ◌++◌, map, length, set, None, sym, refl, ap, ◌∙◌, subst, ⊎_elim, arith}
use Rattle.std.specs.List.{remove as without}
use Rattle.std.proofs.lemmas.List.{length-set, length-map, set-get_or, get_or-set_same, get_or-set_other}
use Rattle.std.proofs.lemmas.Bool.{cases_lt}
use Rattle.rowmodel.specs.Meaning.{Meaning, unused, used, table, table_of, rows_of, Sound}
use Rattle.rowmodel.specs.Needs.{make_unmet, drop_unmet, append_unmet, replace_unmet, remove_unmet}
use Rattle.rowmodel.specs.Calls.{made, dropped, listed, appended, replaced, removed}
use Rattle.rowmodel.proofs.Needed.{make_met, append_met, replace_met, place_met}
use Rattle.rowmodel.proofs.Tables.{table_of_used}
use Rattle.rowmodel.proofs.Kept.{sound_made, sound_dropped, sound_appended, sound_replaced, sound_removed}
use Rattle.bytestore.specs.declared.region.Region.{Region}
use Rattle.bytestore.specs.declared.store.ByteStore.{ByteStore}
use Rattle.bytestore.specs.Memory.{row_in, Alike}
use Rattle.bytestore.specs.Region.{none, region, Covers, Within, Apart, rows_from, table_in, byte_meaning, lowered}
use Rattle.bytestore.proofs.Regions.{table_alike, tables_set, listed_meaning}
use Rattle.bytestore.proofs.Areas.{within_set, apart_set}
use Rattle.bytestore.proofs.Closing.{lowered_limit, lowered_count, alike_raised, raised_place, lowered_within, region_closed, closed_within, closed_apart}
use Rattle.bytestore.proofs.Rows.{rows_appended, rows_replaced, rows_removed}
use Rattle.bytestore.proofs.Stores.{bytes_of, free_of, region_of, meaning_of, limit_at, some_at, table_at, number_fits, rows_at, count_at, small_at, parts}

-- what the ghost fields of a store with these bytes, regions, top and places are owed
abbrev pub Owed : List ℕ → List Region → ℕ → ℕ → Type 0
Owed bs rs top places = record {
  long : length rs ≡ 16;
  fits : (241 * places ≤ length bs) × (top ≤ places);
  within : Within top rs;
  apart : Apart rs;
  sound : Sound (byte_meaning bs rs (places - top));
}

-- other bytes, regions and top mean m, and are a store
pub record After (s : ByteStore) (bs : List ℕ) (rs : List Region) (top : ℕ) (m : Meaning) : Type 0 where
  pub means : byte_meaning bs rs (s.places - top) ≡ m
  pub owed : Owed bs rs top s.places

-- it is sound if m is
after : (s : ByteStore) (bs : List ℕ) (rs : List Region) (top : ℕ) (m : Meaning) → length bs ≡ length (bytes_of s) → length rs ≡ 16 → top ≤ s.places → Within top rs → Apart rs → Sound m →
    byte_meaning bs rs (s.places - top) ≡ m → After s bs rs top m
after s bs rs top m len long low within apart sound e =
    record { means = e; owed = record { long = long; fits = (omega (arith, s.fits), low); within = within; apart = apart; sound = subst Sound (sym e) sound } }

-- the regions with another count at a number
abbrev pub recounted : List Region → ℕ → ℕ → List Region
recounted rs t n = set rs t (record { base = (region rs t).base; limit = (region rs t).limit; count = n })

module _ (s : ByteStore) (t : ℕ) (cs : List ℕ) (len : length cs ≡ length (bytes_of s)) where
  -- other rows, written in the table's own region
  listed_after : (n : ℕ) (rows : List (List ℕ)) → 0 < (region_of s t).limit → ((q : ℕ) → (Covers (region_of s t) q → ⊥) → Alike cs q (bytes_of s) q) → rows_from cs (region_of s t).base n ≡ rows →
      Sound (listed (meaning_of s) t rows) → After s cs (recounted s.regions t n) s.top (listed (meaning_of s) t rows)
  listed_after n rows some outside e sound =
      let r : Region = record { base = (region_of s t).base; limit = (region_of s t).limit; count = n } in
      let lt = number_fits s t some in
      after s cs (recounted s.regions t n) s.top (listed (meaning_of s) t rows) len (length-set s.regions t r ∙ s.long) s.fits.1
      (within_set s.regions t r lt s.top s.top s.within (omega arith) (λ p c. s.within t p c))
      (apart_set s.regions t r lt s.apart (λ u p c d. s.apart (record { one = u; other = t; place = p; in_one = d; in_other = c })))
      sound
      (listed_meaning (bytes_of s) s.regions (free_of s) s.sound s.apart cs t outside n rows lt some e)

  -- a row written at place p
  module _ (p : ℕ) (row : List ℕ) (wrote : row_in cs p ≡ row) (others : (q : ℕ) → q ≢ p → Alike cs q (bytes_of s) q) where
    pub append_after : (n : ℕ) → append_unmet (meaning_of s) t row ≡ None → p ≡ (region_of s t).base + (region_of s t).count → n ≡ (region_of s t).count + 1 →
        After s cs (recounted s.regions t n) s.top (appended (meaning_of s) t row)
    append_after n o e more =
        let met = append_met (meaning_of s) t row o in
        let some = some_at s t met.0 in
        let room : (region_of s t).count < (region_of s t).limit = omega (arith, met.3, rows_at s t some, limit_at s t) in
        listed_after n (rows_of (table (meaning_of s) t) ++ (row ∷ [])) some
        (λ q no. others q (λ z. no (omega arith, omega arith)))
        (ap (rows_from cs (region_of s t).base) more
        ∙ rows_appended (bytes_of s) cs (region_of s t).base (region_of s t).count (small_at s t some) p row wrote others e
        ∙ sym (ap (λ x. rows_of x ++ (row ∷ [])) (table_at s t some)))
        (sound_appended (meaning_of s) t row s.sound o)

    pub replace_after : (k : ℕ) → replace_unmet (meaning_of s) t k row ≡ None → p ≡ (region_of s t).base + k → After s cs s.regions s.top (replaced (meaning_of s) t k row)
    replace_after k o e =
        let met = replace_met (meaning_of s) t k row o in
        let some = some_at s t met.0 in
        let inside : k < (region_of s t).count = omega (arith, met.1, rows_at s t some) in
        subst (λ rs. After s cs rs s.top (replaced (meaning_of s) t k row)) (set-get_or s.regions t none)
        (listed_after (region_of s t).count (set (rows_of (table (meaning_of s) t)) k row) some
        (λ q no. others q (λ z. no (omega arith, omega (arith, count_at s t some))))
        (rows_replaced (bytes_of s) cs (region_of s t).base (region_of s t).count (small_at s t some) p row wrote others k inside e
        ∙ sym (ap (λ x. set (rows_of x) k row) (table_at s t some)))
        (sound_replaced (meaning_of s) t k row s.sound o))

  -- the rows past place p of the table moved down to it
  pub remove_after : (k p : ℕ) → remove_unmet (meaning_of s) t k ≡ None → p ≡ (region_of s t).base + k →
      ((j : ℕ) → j < (region_of s t).count - 1 - k → Alike cs (p + j) (bytes_of s) (p + 1 + j)) →
      ((q : ℕ) → q < p → Alike cs q (bytes_of s) q) → ((q : ℕ) → p + ((region_of s t).count - 1 - k) ≤ q → Alike cs q (bytes_of s) q) →
      After s cs (recounted s.regions t ((region_of s t).count - 1)) s.top (removed (meaning_of s) t k)
  remove_after k p o e moved below above =
      let met = place_met (meaning_of s) t k o in
      let some = some_at s t met.0 in
      let inside : k < (region_of s t).count = omega (arith, met.1, rows_at s t some) in
      listed_after ((region_of s t).count - 1) (without (rows_of (table (meaning_of s) t)) k) some
      (λ q no. ⊎_elim (below q) (λ l. above q (⊎_elim (λ m. absurd (no (omega arith, omega (arith, count_at s t some)))) (λ m. m) (cases_lt q (p + ((region_of s t).count - 1 - k))))) (cases_lt q p))
      (rows_removed (bytes_of s) cs (region_of s t).base (region_of s t).count (small_at s t some) k p inside e below moved
      ∙ sym (ap (λ x. without (rows_of x) k) (table_at s t some)))
      (sound_removed (meaning_of s) t k s.sound o)

-- a region of free places, from the top on
pub make_after : (s : ByteStore) (t limit : ℕ) → make_unmet (meaning_of s) t limit ≡ None →
    After s (bytes_of s) (set s.regions t (record { base = s.top; limit = limit; count = 0 })) (s.top + limit) (made (meaning_of s) t limit)
make_after s t limit o =
    let met = make_met (meaning_of s) t limit o in
    let r : Region = record { base = s.top; limit = limit; count = 0 } in
    let lt : t < length s.regions = omega (arith, met.0, s.long) in
    after s (bytes_of s) (set s.regions t r) (s.top + limit) (made (meaning_of s) t limit) refl (length-set s.regions t r ∙ s.long) (omega (arith, met.4, s.fits.1))
    (within_set s.regions t r lt s.top (s.top + limit) s.within (omega arith) (λ p c. c.1))
    (apart_set s.regions t r lt s.apart (λ u p c d. absurd (omega (arith, c.0, s.within u p d))))
    (sound_made (meaning_of s) t limit s.sound o)
    (ap (λ ts. record { tables = ts; free = s.places - (s.top + limit) })
    (tables_set (bytes_of s) (bytes_of s) s.regions (set s.regions t r) t (used limit []) (length-set s.regions t r) lt
    (ap (table_in (bytes_of s)) (get_or-set_same s.regions t r none lt) ∙ table_of_used limit [] met.2)
    (λ u ne. ap (table_in (bytes_of s)) (get_or-set_other s.regions t u r none ne)))
    ∙ ap (λ f. record { tables = set (map (table_in (bytes_of s)) s.regions) t (used limit []); free = f }) (omega arith))

module _ (s : ByteStore) (t : ℕ) (g : Region) (e : g ≡ region_of s t) (some : 0 < (region_of s t).limit) where
  -- the region ends below the free places
  pub end_fits : g.base + g.limit ≤ s.top
  end_fits = omega (arith, parts s t g e, s.within t ((region_of s t).base + ((region_of s t).limit - 1)) (omega arith, omega arith))

  -- no other region has a place of this one
  clear : (u p : ℕ) → u ≢ t → Covers (region_of s u) p → Covers g p → ⊥
  clear u p ne c d = ne (s.apart (record { one = u; other = t; place = p; in_one = c; in_other = subst (λ r. Covers r p) e d }))

  -- the places past the region's end moved down to its base
  module _ (cs : List ℕ) (end : ℕ) (len : length cs ≡ length (bytes_of s)) (ends : end ≡ g.base + g.limit)
      (moved : (k : ℕ) → k < s.top - end → Alike cs (g.base + k) (bytes_of s) (end + k)) (below : (q : ℕ) → q < g.base → Alike cs q (bytes_of s) q) where
    positive : 0 < g.limit
    positive = omega (arith, parts s t g e)

    -- so the other tables are as they were
    table_kept : (u : ℕ) → u ≢ t → table_in cs (lowered g (region_of s u)) ≡ table_in (bytes_of s) (region_of s u)
    table_kept u ne =
        let r : Region = lowered g (region_of s u) in
        ap (λ n. table_of n (rows_from cs r.base r.count)) (lowered_limit g (region_of s u))
        ∙ ap (λ n. table_of (region_of s u).limit (rows_from cs r.base n)) (lowered_count g (region_of s u))
        ∙ table_alike (bytes_of s) cs (region_of s u) r.base (λ here k l.
        let inside : k < (region_of s u).limit = omega (arith, count_at s u here) in (
          small_at s u here k l,
          subst (λ q. Alike cs (r.base + k) (bytes_of s) q) (raised_place s.regions g t positive clear u k ne inside)
              (alike_raised (bytes_of s) cs g s.top end ends (omega (arith, end_fits)) moved below (r.base + k)
              (lowered_within s.regions g t positive clear s.top u (r.base + k) s.within end_fits ne (omega arith, omega (arith, lowered_limit g (region_of s u))))),
        ))

    pub drop_after : (rs : List Region) → rs ≡ map (lowered g) s.regions → drop_unmet (meaning_of s) t ≡ None → After s cs (set rs t none) (s.top - g.limit) (dropped (meaning_of s) t)
    drop_after rs closed o =
        let lt = number_fits s t some in
        let lowers : List Region = map (lowered g) s.regions in
        let long : length (set lowers t none) ≡ length s.regions = length-set lowers t none ∙ length-map s.regions (lowered g) in
        subst (λ x. After s cs (set x t none) (s.top - g.limit) (dropped (meaning_of s) t)) (sym closed)
        (after s cs (set lowers t none) (s.top - g.limit) (dropped (meaning_of s) t) len (long ∙ s.long) (omega (arith, s.fits.1))
        (closed_within s.regions g t positive clear lt s.top s.within end_fits)
        (closed_apart s.regions g t positive clear lt s.apart)
        (sound_dropped (meaning_of s) t s.sound o)
        (ap (λ ts. record { tables = ts; free = s.places - (s.top - g.limit) })
        (tables_set (bytes_of s) cs s.regions (set lowers t none) t unused long lt
        (ap (table_in cs) (get_or-set_same lowers t none none (omega (arith, length-map s.regions (lowered g)))))
        (λ u ne. ap (table_in cs) (region_closed s.regions g t positive clear u ne) ∙ table_kept u ne))
        ∙ ap (λ f. record { tables = set (map (table_in (bytes_of s)) s.regions) t unused; free = f })
        (omega (arith, end_fits, s.fits.1, limit_at s t, parts s t g e))))
