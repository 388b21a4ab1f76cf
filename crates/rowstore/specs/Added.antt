-- What an accepted append comes to, row by row.
use Rattle.std.specs.Prelude.{◌≡◌, ℕ, ◌+◌, List, length, ◌≢◌}
use Rattle.rowmodel.specs.Meaning.{Meaning, table, is_used, limit_of, rows_of, row_at}

-- how many rows a number has
abbrev pub count : Meaning → ℕ → ℕ
count m t = length (rows_of (table m t))

-- from m to m' the table t gains one row at its end, and nothing else changes
pub record Added (m : Meaning) (t : ℕ) (row : List ℕ) (m' : Meaning) : Type 0 where
  pub longer : count m' t ≡ count m t + 1
  pub last : row_at m' t (count m t) ≡ row
  pub others : (u k : ℕ) → (u ≡ t → k ≢ count m t) → row_at m' u k ≡ row_at m u k
  pub lists : (u : ℕ) → (u ≢ t) → count m' u ≡ count m u
  pub numbers : (u : ℕ) → is_used (table m' u) ≡ is_used (table m u)
  pub limits : (u : ℕ) → limit_of (table m' u) ≡ limit_of (table m u)
  pub free : m'.free ≡ m.free
