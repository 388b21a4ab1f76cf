-- What a store means, by its regions.
use Rattle.std.proofs.Common.{◌≡◌, ℕ, ◌+◌, ◌-◌, ◌*◌, ◌<◌, ◌≤◌, true, false, ltb, List, length, sym, ap, ◌∙◌, subst, ⊎_elim, arith}
use Rattle.std.proofs.lemmas.List.{get_or_past}
use Rattle.std.proofs.lemmas.Bool.{lt-ltb, le-ltb, cases_lt}
use Rattle.rowmodel.specs.Meaning.{Meaning, used, table, is_used, limit_of, rows_of, row_at}
use Rattle.bytestore.specs.declared.region.Region.{Region}
use Rattle.bytestore.specs.declared.store.ByteStore.{ByteStore}
use Rattle.bytestore.specs.Memory.{row_in}
use Rattle.bytestore.specs.Region.{none, region, rows_from, byte_meaning}
use Rattle.bytestore.proofs.Regions.{limit_is, some_limit, used_is, row_is, length-rows, count_fits, row_small}

abbrev pub bytes_of : ByteStore → List ℕ
bytes_of s = s.memory.bytes.now

abbrev pub free_of : ByteStore → ℕ
free_of s = s.places - s.top

abbrev pub region_of : ByteStore → ℕ → Region
region_of s t = region s.regions t

abbrev pub meaning_of : ByteStore → Meaning
meaning_of s = byte_meaning (bytes_of s) s.regions (free_of s)

module _ (s : ByteStore) (t : ℕ) where
  pub limit_at : limit_of (table (meaning_of s) t) ≡ (region_of s t).limit
  limit_at = limit_is (bytes_of s) s.regions (free_of s) t

  pub limit_small : (region_of s t).limit ≤ 255
  limit_small = omega (arith, (s.sound.limited t).1, limit_at)

  -- a number is in use if its region has places
  pub some_at : is_used (table (meaning_of s) t) ≡ true → 0 < (region_of s t).limit
  some_at = some_limit (bytes_of s) s.regions (free_of s) t

  pub no_limit_past : 16 ≤ t → (region_of s t).limit ≡ 0
  no_limit_past l = ap (λ r. r.limit) (get_or_past s.regions t none (omega (arith, s.long)))

  -- a place of a region lies in the memory
  pub place_fits : (k : ℕ) → k < (region_of s t).limit → 241 * ((region_of s t).base + k + 1) ≤ length (bytes_of s)
  place_fits k l = omega (arith, s.within t ((region_of s t).base + k) (omega arith, omega arith), s.fits)

  -- a table in use
  module _ (some : 0 < (region_of s t).limit) where
    pub table_at : table (meaning_of s) t ≡ used (region_of s t).limit (rows_from (bytes_of s) (region_of s t).base (region_of s t).count)
    table_at = used_is (bytes_of s) s.regions (free_of s) t some

    pub used_at : is_used (table (meaning_of s) t) ≡ true
    used_at = ap is_used table_at

    pub number_fits : t < length s.regions
    number_fits = ⊎_elim (λ l. omega (arith, s.long)) (λ l. absurd (omega (arith, no_limit_past l))) (cases_lt t 16)

    -- its rows: how many there are, and whether there is room for more
    pub rows_at : length (rows_of (table (meaning_of s) t)) ≡ (region_of s t).count
    rows_at = ap (λ x. length (rows_of x)) table_at ∙ length-rows (bytes_of s) (region_of s t).base (region_of s t).count

    pub count_at : (region_of s t).count ≤ (region_of s t).limit
    count_at = count_fits (bytes_of s) s.regions (free_of s) s.sound t some

    pub place_at : (k : ℕ) → k < (region_of s t).count → ltb k (length (rows_of (table (meaning_of s) t))) ≡ true
    place_at k l = lt-ltb k (length (rows_of (table (meaning_of s) t))) (omega (arith, rows_at))

    pub place_past : (k : ℕ) → (region_of s t).count ≤ k → ltb k (length (rows_of (table (meaning_of s) t))) ≡ false
    place_past k l = le-ltb k (length (rows_of (table (meaning_of s) t))) (omega (arith, rows_at))

    pub room_at : (region_of s t).count < (region_of s t).limit → ltb (length (rows_of (table (meaning_of s) t))) (limit_of (table (meaning_of s) t)) ≡ true
    room_at l = lt-ltb (length (rows_of (table (meaning_of s) t))) (limit_of (table (meaning_of s) t)) (omega (arith, rows_at, limit_at))

    pub full_at : (region_of s t).limit ≤ (region_of s t).count → ltb (length (rows_of (table (meaning_of s) t))) (limit_of (table (meaning_of s) t)) ≡ false
    full_at l = le-ltb (length (rows_of (table (meaning_of s) t))) (limit_of (table (meaning_of s) t)) (omega (arith, rows_at, limit_at))

    -- the row at a place
    pub small_at : (k : ℕ) → k < (region_of s t).count → length (row_in (bytes_of s) ((region_of s t).base + k)) ≤ 240
    small_at k = row_small (bytes_of s) s.regions (free_of s) s.sound t k some

    pub row_fits : (k p : ℕ) → k < (region_of s t).count → p ≡ (region_of s t).base + k → (241 * (p + 1) ≤ length (bytes_of s)) × (length (row_in (bytes_of s) p) ≤ 240)
    row_fits k p l e = (omega (arith, e, place_fits k (omega (arith, count_at))), subst (λ q. length (row_in (bytes_of s) q) ≤ 240) (sym e) (small_at k l))

    pub row_told : (k p : ℕ) → k < (region_of s t).count → p ≡ (region_of s t).base + k → row_in (bytes_of s) p ≡ row_at (meaning_of s) t k
    row_told k p l e = ap (row_in (bytes_of s)) e ∙ sym (row_is (bytes_of s) s.regions (free_of s) t k some l)

  -- the parts of a region that is the number's own
  pub parts : (r : Region) → r ≡ region_of s t → (r.base ≡ (region_of s t).base) × (r.limit ≡ (region_of s t).limit) × (r.count ≡ (region_of s t).count)
  parts r e = (ap (λ x. x.base) e, ap (λ x. x.limit) e, ap (λ x. x.count) e)
