-- What holds of all that checks let pass.
use Rattle.std.proofs.Common.{◌≡◌, ℕ, Bool, true, false, Some, None, Option, refl}
use Rattle.cardmodel.specs.Verdict.{Cause, Checked, refused, passed, unless, unless_at, with_found}

module _ {A : Type 0} where
  abbrev pub Holds : (A → Type 0) → Checked A → Type 0
  Holds P (refused x) = Unit {0}
  Holds P (passed a) = P a

  module _ (P : A → Type 0) where
    pub holds_unless : (b : Bool) (x : Cause) (v : Checked A) → (b ≡ true → Holds P v) → Holds P (unless b x v)
    holds_unless true x v h = h refl
    holds_unless false x v h = tt

    pub holds_unless_at : (o : Option ℕ) (x : ℕ → Cause) (v : Checked A) → (o ≡ None → Holds P v) → Holds P (unless_at o x v)
    holds_unless_at None x v h = h refl
    holds_unless_at (Some p) x v h = tt

    pub holds_found : {B : Type 0} (o : Option B) (x : Cause) (k : B → Checked A) → ((b : B) → o ≡ Some b → Holds P (k b)) → Holds P (with_found o x k)
    holds_found None x k h = tt
    holds_found (Some b) x k h = h b refl

  -- two runs of one check: both are refused for one cause, or what they let pass stands in a relation
  abbrev pub Both : (A → A → Type 0) → Checked A → Checked A → Type 0
  Both R (refused x) (refused y) = x ≡ y
  Both R (refused x) (passed b) = ⊥
  Both R (passed a) (refused y) = ⊥
  Both R (passed a) (passed b) = R a b

  module _ (R : A → A → Type 0) where
    pub both_unless : (b : Bool) (x : Cause) (v w : Checked A) → (b ≡ true → Both R v w) → Both R (unless b x v) (unless b x w)
    both_unless true x v w h = h refl
    both_unless false x v w h = refl

    pub both_unless_at : (o : Option ℕ) (x : ℕ → Cause) (v w : Checked A) → (o ≡ None → Both R v w) → Both R (unless_at o x v) (unless_at o x w)
    both_unless_at None x v w h = h refl
    both_unless_at (Some p) x v w h = refl

    pub both_found : {B : Type 0} (o : Option B) (x : Cause) (k l : B → Checked A) → ((b : B) → o ≡ Some b → Both R (k b) (l b)) → Both R (with_found o x k) (with_found o x l)
    both_found None x k l h = refl
    both_found (Some b) x k l h = h b refl
