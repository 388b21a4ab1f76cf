-- What slots hold, and where they lead.
use Rattle.std.specs.Prelude.{ℕ, List, map, take}
use Rattle.slotstore.specs.declared.slot.Row.{Row}
use Rattle.slotstore.specs.declared.slot.Slot.{Slot}

-- the bytes of a row
abbrev pub bytes_of : Row → List ℕ
bytes_of r = take r.len r.bytes

-- the row in a slot
abbrev pub content : Slot → List ℕ
content s = bytes_of s.row

-- the slot after it
abbrev pub link : Slot → ℕ
link s = s.next

-- the same of a list of slots
abbrev pub contents : List Slot → List (List ℕ)
contents ss = map content ss

abbrev pub links : List Slot → List ℕ
links ss = map link ss
