-- How an implementation shows an answer, and how a caller reads one.
use Rattle.std.proofs.Common.{◌≡◌, ℕ, Bool, true, false, cond, Some, None, Ok, Err, Option, sym, refl, ap, ◌∙◌, arith}
use Rattle.rowmodel.specs.declared.StoreFault.{StoreFault}
use Rattle.rowmodel.specs.Needs.{answer, unless}

-- a need with the others behind it: where none is unmet, it is met and so are they
pub both_met : (b : Bool) (f : StoreFault) (o : Option StoreFault) → cond b o (Some f) ≡ None → (b ≡ true) × (o ≡ None)
both_met true f o e = (refl, e)
both_met false f o e = let z : ◌≡◌ {A = ℕ} 0 1 = cc in absurd (omega arith)

-- an implementation refuses, and leaves what was
pub err_at : {A : Type 0} (o : Option StoreFault) (f : StoreFault) (a : A) → o ≡ Some f → Err f ≡ answer o a
err_at o f a e = sym (ap (λ p. answer p a) e)

pub old_at : {A : Type 0} (o : Option StoreFault) (f : StoreFault) (old new : A) → o ≡ Some f → old ≡ unless o old new
old_at o f old new e = sym (ap (λ p. unless p old new) e)

-- it accepts, and leaves what the call makes
pub ok_at : {A : Type 0} (o : Option StoreFault) (a b : A) → o ≡ None → a ≡ b → Ok a ≡ answer o b
ok_at o a b e v = ap Ok v ∙ sym (ap (λ p. answer p b) e)

pub new_at : {A : Type 0} (o : Option StoreFault) (old new x : A) → o ≡ None → x ≡ new → x ≡ unless o old new
new_at o old new x e v = v ∙ sym (ap (λ p. unless p old new) e)

-- a caller sees an acceptance
pub none_at_ok : {A : Type 0} (o : Option StoreFault) (a b : A) → Ok a ≡ answer o b → o ≡ None
none_at_ok None a b e = refl
none_at_ok (Some f) a b e = let z : ◌≡◌ {A = ℕ} 0 1 = cc in absurd (omega arith)

pub value_at_ok : {A : Type 0} (o : Option StoreFault) (a b : A) → Ok a ≡ answer o b → a ≡ b
value_at_ok None a b e = cc
value_at_ok (Some f) a b e = let z : ◌≡◌ {A = ℕ} 0 1 = cc in absurd (omega arith)

pub new_at_none : {A : Type 0} (o : Option StoreFault) (old new x : A) → o ≡ None → x ≡ unless o old new → x ≡ new
new_at_none o old new x n e = e ∙ ap (λ p. unless p old new) n

-- or a refusal
pub some_at_err : {A : Type 0} (o : Option StoreFault) (f : StoreFault) (b : A) → Err f ≡ answer o b → o ≡ Some f
some_at_err None f b e = let z : ◌≡◌ {A = ℕ} 0 1 = cc in absurd (omega arith)
some_at_err (Some g) f b e = cc

pub old_at_some : {A : Type 0} (o : Option StoreFault) (f : StoreFault) (old new x : A) → o ≡ Some f → x ≡ unless o old new → x ≡ old
old_at_some o f old new x n e = e ∙ ap (λ p. unless p old new) n
