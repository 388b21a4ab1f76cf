-- What each call makes of a store's meaning. First, where all of its needs are met.
use Rattle.std.specs.Prelude.{ℕ, ◌+◌, ◌-◌, List, [], ◌∷◌, ◌++◌, length, drop, Some, None, Ok, Err, Option, Result, slice_set}
use Rattle.std.specs.Borrow.{Bor}
use Rattle.rowmodel.specs.declared.StoreFault.{StoreFault}
use Rattle.rowmodel.specs.declared.TableSize.{TableSize}
use Rattle.rowmodel.specs.Meaning.{Table, unused, used, Meaning, table, with_table, with_free, limit_of, rows_of, row_at, with_rows}
use Rattle.rowmodel.specs.Needs.{unless, make_unmet, drop_unmet, append_unmet, replace_unmet, remove_unmet, copy_unmet}
use Rattle.std.specs.List.{remove as without}

-- an empty table at the number; its limit leaves the free rows
abbrev pub made : Meaning → ℕ → ℕ → Meaning
made m t limit = with_free (with_table m t (used limit [])) (m.free - limit)

-- the number is unused, and its limit is given back
abbrev pub dropped : Meaning → ℕ → Meaning
dropped m t = with_free (with_table m t unused) (m.free + limit_of (table m t))

-- the number's list of rows is another one
abbrev pub listed : Meaning → ℕ → List (List ℕ) → Meaning
listed m t rows = with_table m t (with_rows (table m t) rows)

-- one row more, at the end
abbrev pub appended : Meaning → ℕ → List ℕ → Meaning
appended m t row = listed m t (rows_of (table m t) ++ (row ∷ []))

-- another row at a place
abbrev pub replaced : Meaning → ℕ → ℕ → List ℕ → Meaning
replaced m t k row = listed m t (slice_set (rows_of (table m t)) k row)

-- the rows without the one at a place: the gap is closed
abbrev pub removed : Meaning → ℕ → ℕ → Meaning
removed m t k = listed m t (without (rows_of (table m t)) k)

-- Then with a refusal, which leaves the meaning.
abbrev pub after_make : Meaning → ℕ → ℕ → Meaning
after_make m t limit = unless (make_unmet m t limit) m (made m t limit)

abbrev pub after_drop : Meaning → ℕ → Meaning
after_drop m t = unless (drop_unmet m t) m (dropped m t)

abbrev pub after_append : Meaning → ℕ → List ℕ → Meaning
after_append m t row = unless (append_unmet m t row) m (appended m t row)

abbrev pub after_replace : Meaning → ℕ → ℕ → List ℕ → Meaning
after_replace m t k row = unless (replace_unmet m t k row) m (replaced m t k row)

abbrev pub after_remove : Meaning → ℕ → ℕ → Meaning
after_remove m t k = unless (remove_unmet m t k) m (removed m t k)

-- A copy leaves the meaning, and puts the row over the front of the area; the rest of the area stays.
abbrev pub over : List ℕ → List ℕ → List ℕ
over row area = row ++ drop (length row) area

abbrev pub after_copy : Meaning → ℕ → ℕ → List ℕ → List ℕ
after_copy m t k area = unless (copy_unmet m t k (length area)) area (over (row_at m t k) area)

-- what is told of a number
abbrev pub size_of : Table → Option TableSize
size_of unused = None
size_of (used limit rows) = Some (record { limit = limit; rows = length rows })

-- a row that is lent, as what it holds
abbrev pub lent : {A : Type 0} → Result (Bor A) StoreFault → Result A StoreFault
lent (Ok x) = Ok x.now
lent (Err f) = Err f
