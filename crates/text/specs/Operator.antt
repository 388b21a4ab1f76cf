-- The operators of conditions: their codes, their signs, and when they hold.
use Rattle.std.specs.Prelude.{ℕ, Bool, true, false, cond, List, Some, None, Option, codes, ◌==◌}
use Rattle.std.specs.declared.cmp.Ordering.{Ordering}
use Rattle.std.specs.declared.cmp.Ordering.TheVariants.{Less, Equal, Greater}
use Rattle.text.specs.declared.operator.Operator.{Operator}
use Rattle.text.specs.declared.operator.Operator.TheVariants as operator

abbrev pub coded_by : ℕ → Option Operator
coded_by c =
    cond (c == 0x3D) (Some operator.Equal) (cond (c == 0x3C) (Some operator.Less) (cond (c == 0x3E) (Some operator.Greater)
    (cond (c == 0x4C) (Some operator.AtMost) (cond (c == 0x47) (Some operator.AtLeast) (cond (c == 0x23) (Some operator.Unequal) None)))))

-- the sign that tells an operator, in ASCII
abbrev pub sign_of : Operator → List ℕ
sign_of operator.Equal = codes "="
sign_of operator.Less = codes "<"
sign_of operator.Greater = codes ">"
sign_of operator.AtMost = codes "<="
sign_of operator.AtLeast = codes ">="
sign_of operator.Unequal = codes "<>"

-- whether the operator holds of a value that stands so to another
abbrev pub holds_of : Operator → Ordering → Bool
holds_of operator.Equal Less = false
holds_of operator.Equal Equal = true
holds_of operator.Equal Greater = false
holds_of operator.Less Less = true
holds_of operator.Less Equal = false
holds_of operator.Less Greater = false
holds_of operator.Greater Less = false
holds_of operator.Greater Equal = false
holds_of operator.Greater Greater = true
holds_of operator.AtMost Less = true
holds_of operator.AtMost Equal = true
holds_of operator.AtMost Greater = false
holds_of operator.AtLeast Less = false
holds_of operator.AtLeast Equal = true
holds_of operator.AtLeast Greater = true
holds_of operator.Unequal Less = true
holds_of operator.Unequal Equal = false
holds_of operator.Unequal Greater = true
