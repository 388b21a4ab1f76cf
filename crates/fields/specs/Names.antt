-- The names that are still to come, and what an entry may say behind others.
use Rattle.std.specs.Prelude.{ℕ, cond, ◌&&◌, List}
use Rattle.fields.specs.declared.entries.Entry.{Entry}
use Rattle.fields.specs.declared.entries.Names.{Names}
use Rattle.fields.specs.Reader.{Read, broken, and_then}
use Rattle.fields.specs.Entries.{name_at, rest_at, differ, names, among}

abbrev pub named : Names → List (List ℕ)
named n = names n.kind n.reader.field.now n.reader.at n.count

-- an entry behind others that speak of some names: one that may not come again is at fault
unfoldable pub entry_at : Entry → List (List ℕ) → List ℕ → ℕ → Read ℕ
entry_at e earlier bs at =
    and_then (name_at e bs at) (λ name q. cond (differ e && among name earlier) (broken at) (rest_at e bs q))
