-- The order of strings, and the laws that it keeps.
use Rattle.std.specs.Prelude.{◌≡◌, ℕ, cond, List, [], ◌∷◌, nat_lt}
use Rattle.std.specs.Ordering.{ordering_reverse}
use Rattle.std.specs.declared.cmp.Ordering.{Ordering}
use Rattle.std.specs.declared.cmp.Ordering.TheVariants.{Less, Equal, Greater}

-- unsigned bytes from the left; a prefix is lower
abbrev pub order : List ℕ → List ℕ → Ordering
order [] [] = Equal
order [] (y ∷ ys) = Less
order (x ∷ xs) [] = Greater
order (x ∷ xs) (y ∷ ys) = cond (nat_lt x y) Less (cond (nat_lt y x) Greater (order xs ys))

-- What conditions and uniqueness rest on. Of two values the first is exactly one of less, equal or greater, since the
-- order is a function; a value is equal to itself; greater is less seen from the other side; and all pass on.
pub record Lawful {X : Type 0} (o : X → X → Ordering) : Type 0 where
  pub itself : (x : X) → o x x ≡ Equal
  pub back : (x y : X) → o y x ≡ ordering_reverse (o x y)
  pub level_on : (x y z : X) → o x y ≡ Equal → o y z ≡ Equal → o x z ≡ Equal
  pub lower_on : (x y z : X) → o x y ≡ Less → o y z ≡ Less → o x z ≡ Less
  pub lower_level : (x y z : X) → o x y ≡ Less → o y z ≡ Equal → o x z ≡ Less
  pub level_lower : (x y z : X) → o x y ≡ Equal → o y z ≡ Less → o x z ≡ Less
