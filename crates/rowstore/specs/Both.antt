-- What two stores answered to one call.
use Rattle.std.specs.Prelude.{Bool, true, false, Result}
use Rattle.rowmodel.specs.declared.StoreFault.{StoreFault}
use Rattle.rowstore.specs.declared.call.Answer.{Answer}
use Rattle.rowstore.specs.declared.call.Both.{Both}
use Rattle.rowstore.specs.declared.call.Both.TheVariants.{Same, Differ}

abbrev pub left_of : Both → Result Answer StoreFault
left_of (Same answer) = answer
left_of (Differ left right) = left

abbrev pub right_of : Both → Result Answer StoreFault
right_of (Same answer) = answer
right_of (Differ left right) = right

-- whether the replies were the same
abbrev pub is_same : Both → Bool
is_same (Same answer) = true
is_same (Differ left right) = false
