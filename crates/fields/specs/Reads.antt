-- What a call of a reader promises: it reads what stands at its position, and is then behind it; where the form is broken,
-- it tells the place, and stands there. The field that it reads stays the same.
use Rattle.std.specs.Prelude.{◌≡◌, ℕ, cond, List, length, IfErr, Ok, Err, Result, nat_lt}
use Rattle.fields.specs.declared.reader.FieldFault.{FieldFault}
use Rattle.fields.specs.declared.reader.Reader.{Reader}
use Rattle.fields.specs.Reader.{Read, got, broken}

-- what a call made of it, of which `say` tells what the code's value says
abbrev pub made : {T X : Type 0} → (T → X) → Result T FieldFault → ℕ → Read X
made say (Ok x) at = got (say x) at
made say (Err f) at = broken f.place

abbrev pub Reads : {T X : Type 0} → (List ℕ → ℕ → Read X) → (T → X) → Reader → Reader → Result T FieldFault → Type 0
Reads how say old new result =
    (how old.field.now old.at ≡ made say result new.at) × (new.field.now ≡ old.field.now) × IfErr result (λ f. new.at ≡ f.place)

-- the end of a field, where nothing is left over
abbrev pub end_at : List ℕ → ℕ → Read ℕ
end_at bs at = cond (nat_lt at (length bs)) (broken at) (got 0 at)
