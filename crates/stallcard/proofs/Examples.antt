-- The worked examples, and an example of each cause and of each guard, by computation.
use Rattle.std.proofs.Common.{◌≡◌, [], ◌∷◌, sym, refl, ◌∙◌}
use Rattle.cardmodel.specs.Answer.{replies}
use Rattle.stallcard.specs.Stall.{success, stall, stall_at_95, declare_fee, open_cursor, fetch_7}
use Rattle.stallcard.specs.Worked.{Worked}
use Rattle.stallcard.specs.Causes.{Caused}
use Rattle.stallcard.specs.Guards.{Guarded}
use Rattle.stallcard.proofs.Computed.{computed}

-- what OFFICE is told
told_90 : replies stall (declare_fee ∷ (open_cursor ∷ (fetch_7 ∷ []))) ≡ success "" ∷ (success "" ∷ (success "02 01 37 03 32 35 30" ∷ []))
unfolding computed
told_90 = refl

told_95 : replies stall_at_95 (declare_fee ∷ (open_cursor ∷ (fetch_7 ∷ []))) ≡ success "" ∷ (success "" ∷ (success "02 01 37 03 32 35 30" ∷ []))
unfolding computed
told_95 = refl

pub worked : Worked
unfolding computed
worked = record {
  repeated = refl;
  limit = refl;
  fetched = told_90;
  short = refl;
  short_next = refl;
  hidden = told_95 ∙ sym told_90;
  above = refl;
  below = refl;
  longest = refl;
  longer = refl;
  deleted = refl;
  name_8 = refl;
  name_9 = refl;
}

pub caused : Caused
unfolding computed
caused = record {
  area = refl;
  no_command = refl;
  class = refl;
  instruction = refl;
  p1 = refl;
  p2 = refl;
  shape = refl;
  nobody = refl;
  form = refl;
  state = refl;
  missing = refl;
  right = refl;
  foreign = refl;
  taken = refl;
  barred = refl;
  long = refl;
  repeated = refl;
  full = refl;
  store = refl;
  length = refl;
}

pub guarded : Guarded
unfolding computed
guarded = record {
  tested = refl;
  measured = refl;
  shown = refl;
  unreached = refl;
  unknown = refl;
  uninvited = refl;
  dropped = refl;
  order = refl;
}
