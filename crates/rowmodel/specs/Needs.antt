-- The needs of the calls. A call is refused exactly if a need is unmet, and names the first one.
use Rattle.std.specs.Prelude.{ℕ, Bool, cond, not, ◌&&◌, List, [], ◌∷◌, ◌++◌, length, Some, None, Ok, Err, Option, Result, nat_le, nat_lt}
use Rattle.rowmodel.specs.declared.StoreFault.{StoreFault}
use Rattle.rowmodel.specs.declared.StoreFault.TheVariants.{Unavailable, Unused, Limit, Space, Place, Length, Full, Area}
use Rattle.rowmodel.specs.Meaning.{Meaning, table, is_used, limit_of, rows_of, row_at, allowed}

-- whether it is met, and what it is called where it is not
pub record Need : Type 0 where
  pub met : Bool
  pub fault : StoreFault

abbrev pub need : Bool → StoreFault → List Need
need b f = record { met = b; fault = f } ∷ []

-- the first that is unmet, if any
abbrev pub unmet : List Need → Option StoreFault
unmet [] = None
unmet (n ∷ ns) = cond n.met (unmet ns) (Some n.fault)

-- what a call returns, and what it leaves: a refusal leaves what was
abbrev pub answer : {A : Type 0} → Option StoreFault → A → Result A StoreFault
answer None a = Ok a
answer (Some f) a = Err f

abbrev pub unless : {A : Type 0} → Option StoreFault → A → A → A
unless None old new = new
unless (Some f) old new = old

-- single needs
abbrev pub unused_number : Meaning → ℕ → List Need
unused_number m t = need (nat_lt t 16 && not (is_used (table m t))) Unavailable

abbrev pub used_number : Meaning → ℕ → List Need
used_number m t = need (is_used (table m t)) Unused

abbrev pub allowed_limit : ℕ → List Need
allowed_limit limit = need (nat_le 1 limit && nat_le limit 255) Limit

abbrev pub enough_free : Meaning → ℕ → List Need
enough_free m limit = need (nat_le limit m.free) Space

abbrev pub existing_place : Meaning → ℕ → ℕ → List Need
existing_place m t k = need (nat_lt k (length (rows_of (table m t)))) Place

abbrev pub allowed_row : List ℕ → List Need
allowed_row row = need (allowed (length row)) Length

abbrev pub below_limit : Meaning → ℕ → List Need
below_limit m t = need (nat_lt (length (rows_of (table m t))) (limit_of (table m t))) Full

abbrev pub enough_area : Meaning → ℕ → ℕ → ℕ → List Need
enough_area m t k area = need (nat_le (length (row_at m t k)) area) Area

-- the needs of each call, in the order in which they are tested
abbrev pub make_unmet : Meaning → ℕ → ℕ → Option StoreFault
make_unmet m t limit = unmet (unused_number m t ++ allowed_limit limit ++ enough_free m limit)

abbrev pub drop_unmet : Meaning → ℕ → Option StoreFault
drop_unmet m t = unmet (used_number m t)

abbrev pub append_unmet : Meaning → ℕ → List ℕ → Option StoreFault
append_unmet m t row = unmet (used_number m t ++ allowed_row row ++ below_limit m t)

abbrev pub replace_unmet : Meaning → ℕ → ℕ → List ℕ → Option StoreFault
replace_unmet m t k row = unmet (used_number m t ++ existing_place m t k ++ allowed_row row)

abbrev pub row_unmet : Meaning → ℕ → ℕ → Option StoreFault
row_unmet m t k = unmet (used_number m t ++ existing_place m t k)

abbrev pub remove_unmet : Meaning → ℕ → ℕ → Option StoreFault
remove_unmet m t k = unmet (used_number m t ++ existing_place m t k)

abbrev pub copy_unmet : Meaning → ℕ → ℕ → ℕ → Option StoreFault
copy_unmet m t k area = unmet (used_number m t ++ existing_place m t k ++ enough_area m t k area)
