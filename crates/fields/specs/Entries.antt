-- Lists in a field: a count of entries of one kind, one behind the other.
use Rattle.std.specs.Prelude.{ℕ, zero, suc, ◌+◌, Bool, true, false, cond, ◌&&◌, ◌||◌, List, [], ◌∷◌}
use Rattle.std.specs.Str.{bytes_eq}
use Rattle.fields.specs.declared.entries.Entry.{Entry}
use Rattle.fields.specs.declared.entries.Entry.TheVariants.{Name, Definition, Assignment, Condition, Text}
use Rattle.fields.specs.Column.{column_of}
use Rattle.fields.specs.Reader.{Read, got, broken, and_then, or_broken, each, param_at, identifier_at, operator_at}

-- the name of the column that an entry speaks of; a text speaks of none
unfoldable pub name_at : Entry → List ℕ → ℕ → Read (List ℕ)
name_at Name bs at = and_then (identifier_at bs at) (λ p q. got p.bytes q)
name_at Definition bs at = and_then (param_at bs at) (λ p q. or_broken (column_of p.bytes) at (λ c. got c.name q))
name_at Assignment bs at = and_then (identifier_at bs at) (λ p q. got p.bytes q)
name_at Condition bs at = and_then (identifier_at bs at) (λ p q. got p.bytes q)
name_at Text bs at = got [] at

-- what an entry has behind the name: a string, or an operator and a string
unfoldable pub rest_at : Entry → List ℕ → ℕ → Read ℕ
rest_at Name bs at = got 0 at
rest_at Definition bs at = got 0 at
rest_at Assignment bs at = and_then (param_at bs at) (λ _ q. got 0 q)
rest_at Condition bs at = and_then (operator_at bs at) (λ _ q. and_then (param_at bs q) (λ _ e. got 0 e))
rest_at Text bs at = and_then (param_at bs at) (λ _ q. got 0 q)

-- whether no column may come twice
abbrev pub differ : Entry → Bool
differ Name = true
differ Definition = true
differ Assignment = true
differ Condition = false
differ Text = false

-- the names of n entries, as far as they can be read
unfoldable pub names : Entry → List ℕ → ℕ → ℕ → List (List ℕ)
names e bs at zero = []
names e bs at (suc n) = each (name_at e bs at) (λ name q. name ∷ each (rest_at e bs q) (λ _ r. names e bs r n))

abbrev pub among : List ℕ → List (List ℕ) → Bool
among name [] = false
among name (x ∷ xs) = bytes_eq x name || among name xs

-- n more entries, behind i that stand from a position on; a column that comes again is at fault
unfoldable pub entries_at : Entry → List ℕ → ℕ → ℕ → ℕ → ℕ → Read ℕ
entries_at e bs from i at zero = got i at
entries_at e bs from i at (suc n) =
    and_then (name_at e bs at) (λ name q.
    cond (differ e && among name (names e bs from i)) (broken at)
    (and_then (rest_at e bs q) (λ _ r. entries_at e bs from (i + 1) r n)))
