-- What it says that no need of a call is unmet.
use Rattle.std.proofs.Common.{◌≡◌, ℕ, ◌<◌, ◌≤◌, true, false, not, ◌&&◌, ltb, leb, List, ◌++◌, length, None}
use Rattle.std.proofs.lemmas.Bool.{ltb-true, leb-true, and_parts, not-true}
use Rattle.rowmodel.specs.declared.StoreFault.TheVariants.{Unavailable, Unused, Limit, Space, Place, Length, Full}
use Rattle.rowmodel.specs.Meaning.{Meaning, table, is_used, limit_of, rows_of, allowed}
use Rattle.rowmodel.specs.Needs.{unmet, allowed_limit, enough_free, existing_place, allowed_row, below_limit, make_unmet, drop_unmet, append_unmet, replace_unmet, row_unmet}
use Rattle.rowmodel.proofs.Refusals.{both_met}

pub allowed_parts : (n : ℕ) → allowed n ≡ true → (1 ≤ n) × (n ≤ 240)
allowed_parts n e = let p = and_parts (leb 1 n) (leb n 240) e in (leb-true 1 n p.0, leb-true n 240 p.1)

pub make_met : (m : Meaning) (t limit : ℕ) → make_unmet m t limit ≡ None → (t < 16) × (is_used (table m t) ≡ false) × (1 ≤ limit) × (limit ≤ 255) × (limit ≤ m.free)
make_met m t limit o =
    let one = both_met (ltb t 16 && not (is_used (table m t))) Unavailable (unmet (allowed_limit limit ++ enough_free m limit)) o in
    let two = both_met (leb 1 limit && leb limit 255) Limit (unmet (enough_free m limit)) one.1 in
    let three = both_met (leb limit m.free) Space None two.1 in
    let number = and_parts (ltb t 16) (not (is_used (table m t))) one.0 in
    let range = and_parts (leb 1 limit) (leb limit 255) two.0 in
    (ltb-true t 16 number.0, not-true (is_used (table m t)) number.1, leb-true 1 limit range.0, leb-true limit 255 range.1, leb-true limit m.free three.0)

pub drop_met : (m : Meaning) (t : ℕ) → drop_unmet m t ≡ None → is_used (table m t) ≡ true
drop_met m t o = (both_met (is_used (table m t)) Unused None o).0

pub append_met : (m : Meaning) (t : ℕ) (row : List ℕ) → append_unmet m t row ≡ None →
    (is_used (table m t) ≡ true) × (1 ≤ length row) × (length row ≤ 240) × (length (rows_of (table m t)) < limit_of (table m t))
append_met m t row o =
    let one = both_met (is_used (table m t)) Unused (unmet (allowed_row row ++ below_limit m t)) o in
    let two = both_met (allowed (length row)) Length (unmet (below_limit m t)) one.1 in
    let three = both_met (ltb (length (rows_of (table m t))) (limit_of (table m t))) Full None two.1 in
    let size = allowed_parts (length row) two.0 in
    (one.0, size.0, size.1, ltb-true (length (rows_of (table m t))) (limit_of (table m t)) three.0)

-- a row's place: what `row` and `remove` need
pub place_met : (m : Meaning) (t k : ℕ) → row_unmet m t k ≡ None → (is_used (table m t) ≡ true) × (k < length (rows_of (table m t)))
place_met m t k o =
    let one = both_met (is_used (table m t)) Unused (unmet (existing_place m t k)) o in
    let two = both_met (ltb k (length (rows_of (table m t)))) Place None one.1 in
    (one.0, ltb-true k (length (rows_of (table m t))) two.0)

pub replace_met : (m : Meaning) (t k : ℕ) (row : List ℕ) → replace_unmet m t k row ≡ None →
    (is_used (table m t) ≡ true) × (k < length (rows_of (table m t))) × (1 ≤ length row) × (length row ≤ 240)
replace_met m t k row o =
    let one = both_met (is_used (table m t)) Unused (unmet (existing_place m t k ++ allowed_row row)) o in
    let two = both_met (ltb k (length (rows_of (table m t)))) Place (unmet (allowed_row row)) one.1 in
    let three = both_met (allowed (length row)) Length None two.1 in
    let size = allowed_parts (length row) three.0 in
    (one.0, ltb-true k (length (rows_of (table m t))) two.0, size.0, size.1)
