-- Conditions on columns that are not written hold as before.
use Rattle.std.proofs.Common.{◌≡◌, ℕ, false, eqb, List, [], ◌∷◌, sym, refl}
use Rattle.std.proofs.lemmas.Bool.{eqb-false, ne_eqb}
use Rattle.cardmodel.specs.Lists.{any, all}
use Rattle.cardmodel.specs.State.{Row, Test}
use Rattle.cardmodel.specs.Objects.{Window, cell, passes, meets}
use Rattle.cardmodel.specs.CursorRules.{Write, written, tests_column}
use Rattle.cardmodel.proofs.Lists.{In, here, there, none-In, any_none}
use Rattle.cardlaws.proofs.Rows.{writes_to, cell_unwritten}

-- conditions on columns that no write is to
all_same : (ws : List Write) (r : Row) (qs : List Test) → ((q : Test) → In q qs → any (writes_to q.on.number) ws ≡ false) → all (passes (written ws r)) qs ≡ all (passes r) qs
unfolding passes
all_same ws r [] h = refl
all_same ws r (q ∷ qs) h =
    let x : cell (written ws r) q.on.number ≡ cell r q.on.number = cell_unwritten ws r q.on.number (h q here) in
    rw (x, all_same ws r qs (λ p i. h p (there i)))

eqb_back : (a b : ℕ) → eqb a b ≡ false → eqb b a ≡ false
eqb_back a b e = ne_eqb b a (λ f. eqb-false a b e (sym f))

abbrev pub Untested : List Write → Window → Type 0
Untested ws v = (w : Write) → In w ws → tests_column v w.to.number ≡ false

pub meets_written : (ws : List Write) (v : Window) (r : Row) → Untested ws v → meets v (written ws r) ≡ meets v r
unfolding meets
meets_written ws v r h = all_same ws r v.tests (λ q i. any_none (writes_to q.on.number) ws (λ w j. eqb_back w.to.number q.on.number (none-In (λ p. eqb w.to.number p.on.number) i (h w j))))
