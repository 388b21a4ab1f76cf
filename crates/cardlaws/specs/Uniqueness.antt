-- In a unique column of a table no two rows are level, whatever commands were accepted.
use Rattle.std.specs.Prelude.{◌≡◌, ℕ, ◌<◌, true, false, List, [], length, Some, ◌≢◌, slice_index_or}
use Rattle.cardmodel.specs.State.{Bytes, Object, Placed}
use Rattle.cardmodel.specs.Objects.{table_named, column_named, columns_in}
use Rattle.cardmodel.specs.Answer.{Sent, run, Capacities, new_card}
use Rattle.cardlaws.specs.Sound.{level_at}

abbrev pub UniqueValues : Type 0
UniqueValues =
    (rows : ℕ) (z : Capacities) (ms : List Sent) (table column : Bytes) (t : Object) (p : Placed) →
    table_named (run (new_card rows z) ms).catalogue.objects.records table ≡ Some t →
    column_named (columns_in t.definition) column ≡ Some p → p.column.unique ≡ true →
    (i j : ℕ) → i < length ((run (new_card rows z) ms).rows table) → j < length ((run (new_card rows z) ms).rows table) → (i ≢ j) →
    level_at p (slice_index_or ((run (new_card rows z) ms).rows table) i []) (slice_index_or ((run (new_card rows z) ms).rows table) j []) ≡ false
