-- Identifiers: a capital letter, then up to seven capitals, digits or underscores.
use Rattle.std.specs.Prelude.{ℕ, Bool, ◌&&◌, ◌||◌, List, length, drop, ◌==◌, nat_le, slice_index}
use Rattle.std.specs.List.{list_all}

abbrev pub capital : ℕ → Bool
capital c = nat_le 65 c && nat_le c 90

-- a capital, a digit or an underscore
abbrev pub later : ℕ → Bool
later c = capital c || ((nat_le 48 c && nat_le c 57) || c == 95)

abbrev pub identifies : List ℕ → Bool
identifies cs = (nat_le 1 (length cs) && nat_le (length cs) 8) && (capital (slice_index cs 0) && list_all later (drop 1 cs))
