-- What regions of places mean: tables of rows.
use Rattle.std.specs.Prelude.{◌≡◌, ℕ, ◌+◌, ◌-◌, ◌<◌, ◌≤◌, cond, List, map, length, nat_lt, slice_index_or}
use Rattle.std.proofs.Common.{◌∙◌}
use Rattle.std.proofs.lemmas.List.{length-map}
use Rattle.std.specs.List.{range_with_len}
use Rattle.rowmodel.specs.Meaning.{Table, table_of, Meaning, Limited, Sized, Roomy, Sound}
use Rattle.bytestore.specs.declared.region.Region.{Region}
use Rattle.bytestore.specs.Memory.{row_in}

-- the region of an unused number
abbrev pub none : Region
none = record { base = 0; limit = 0; count = 0 }

-- the region of a number; a number past the last is unused
abbrev pub region : List Region → ℕ → Region
region rs t = slice_index_or rs t none

-- place p lies in the region
abbrev pub Covers : Region → ℕ → Type 0
Covers r p = (r.base ≤ p) × (p < r.base + r.limit)

-- each place of a region is below the free ones
abbrev pub Within : ℕ → List Region → Type 0
Within top rs = (t p : ℕ) → Covers (region rs t) p → p < top

-- No place lies in two regions: numbers whose regions share a place are the same.
pub record Shared (rs : List Region) : Type 0 where
  pub one : ℕ
  pub other : ℕ
  pub place : ℕ
  pub in_one : Covers (region rs one) place
  pub in_other : Covers (region rs other) place

abbrev pub Apart : List Region → Type 0
Apart rs = (s : Shared rs) → s.one ≡ s.other

-- the rows at n places from place b on
abbrev pub rows_from : List ℕ → ℕ → ℕ → List (List ℕ)
rows_from bs b n = map (λ k. row_in bs (b + k)) (range_with_len 0 n)

-- the table in a region
abbrev pub table_in : List ℕ → Region → Table
table_in bs r = table_of r.limit (rows_from bs r.base r.count)

-- what a store holds: the table in each region, and the free places
abbrev pub byte_meaning : List ℕ → List Region → ℕ → Meaning
byte_meaning bs rs free = record { tables = map (table_in bs) rs; free = free }

-- A store's meaning is sound if its parts are.
pub byte_sound : (bs : List ℕ) (rs : List Region) (free : ℕ) → length rs ≡ 16 → Limited (byte_meaning bs rs free) → Sized (byte_meaning bs rs free) → Roomy (byte_meaning bs rs free) →
    Sound (byte_meaning bs rs free)
byte_sound bs rs free long limited sized roomy = record { sixteen = length-map rs (table_in bs) ∙ long; limited = limited; sized = sized; roomy = roomy }

-- a region once the places of another one are closed up: if it lies past them, it moves down by their number
abbrev pub lowered : Region → Region → Region
lowered gone r = cond (nat_lt r.base (gone.base + gone.limit)) r (record { base = r.base - gone.limit; limit = r.limit; count = r.count })
