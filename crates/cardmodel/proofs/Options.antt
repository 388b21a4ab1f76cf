-- Options: there is nothing, or something.
use Rattle.std.proofs.Common.{◌≡◌, true, false, ◌⊎◌, is_some as option_is_some, Some, None, Option, refl, inl, inr}
use Rattle.std.proofs.lemmas.Bool.{both_ways}

pub is_none : {A : Type 0} (o : Option A) → option_is_some o ≡ false → o ≡ None
is_none None e = refl
is_none (Some x) e = absurd (both_ways true e refl)

pub is_some : {A : Type 0} (o : Option A) → option_is_some o ≡ true → (x : A) × (o ≡ Some x)
is_some None e = absurd (both_ways false refl e)
is_some (Some x) e = (x, refl)

pub option_cases : {A : Type 0} (o : Option A) → (o ≡ None) ⊎ ((x : A) × (o ≡ Some x))
option_cases None = inl refl
option_cases (Some x) = inr (x, refl)
