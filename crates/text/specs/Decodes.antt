-- What a conversion of codes gives: the kind that a definition gives, or an error that keeps a code which none has.
use Rattle.std.specs.Prelude.{◌≡◌, ℕ, Some, None, Option, Result, MatchResult}

abbrev pub Decodes : {X E : Type 0} → (ℕ → Option X) → (E → ℕ) → ℕ → Result X E → Type 0
Decodes of kept code r = MatchResult r (λ x. of code ≡ Some x) (λ e. (of code ≡ None) × (kept e ≡ code))
