-- Rows in plain bytes at computed places, of 241 bytes each.
use Rattle.std.specs.Prelude.{◌≡◌, ℕ, ◌+◌, ◌*◌, ◌<◌, List, map, slice_index}
use Rattle.std.specs.List.{range_with_len}

-- the row at place p: its length, and that many bytes
abbrev pub row_in : List ℕ → ℕ → List ℕ
row_in bs p = map (λ k. slice_index bs (241 * p + 1 + k)) (range_with_len 0 (slice_index bs (241 * p)))

-- place q of cs holds the bytes of place p of bs
abbrev pub Alike : List ℕ → ℕ → List ℕ → ℕ → Type 0
Alike cs q bs p = (k : ℕ) → k < 241 → slice_index cs (241 * q + k) ≡ slice_index bs (241 * p + k)
