-- Each unmet need in words.
use Rattle.std.specs.Prelude.{ℕ, List, codes}
use Rattle.rowmodel.specs.declared.StoreFault.{StoreFault}
use Rattle.rowmodel.specs.declared.StoreFault.TheVariants.{Unavailable, Unused, Limit, Space, Place, Length, Full, Area}

abbrev pub in_words : StoreFault → List ℕ
in_words Unavailable = codes "number is in use or above 15"
in_words Unused = codes "number is not in use"
in_words Limit = codes "limit is not from 1 to 255"
in_words Space = codes "too few free rows"
in_words Place = codes "no row at that place"
in_words Length = codes "row is not of 1 to 240 bytes"
in_words Full = codes "list is full"
in_words Area = codes "area is shorter than the row"
