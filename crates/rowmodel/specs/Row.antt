-- A row that may be kept, as what it holds.
use Rattle.std.specs.Prelude.{ℕ, List, Ok, Err, Result}
use Rattle.rowmodel.specs.declared.StoreFault.{StoreFault}
use Rattle.rowmodel.specs.declared.row.KeptRow.{KeptRow}

abbrev pub kept : Result KeptRow StoreFault → Result (List ℕ) StoreFault
kept (Ok r) = Ok r.bytes.now
kept (Err f) = Err f
