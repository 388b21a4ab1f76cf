-- What a text of hexadecimal digits says.
use Rattle.std.specs.Prelude.{ℕ, ◌+◌, ◌-◌, ◌*◌, Bool, cond, ◌&&◌, ◌||◌, List, [], ◌∷◌, Some, None, Option, ◌==◌, nat_le}
use Rattle.std.specs.Option.{option_map}

abbrev within : ℕ → ℕ → ℕ → Bool
within low high c = nat_le low c && nat_le c high

-- the value of a digit: 0 to 9, A to F, a to f
abbrev pub value : ℕ → Option ℕ
value c = cond (within 48 57 c) (Some (c - 48)) (cond (within 65 70 c) (Some (c - 65 + 10)) (cond (within 97 102 c) (Some (c - 97 + 10)) None))

-- a space or a tab
abbrev pub blank : ℕ → Bool
blank c = c == 32 || c == 9

-- one digit more: the first of two waits for the other; k says how the rest goes on
abbrev pub take_digit : Option ℕ → Option ℕ → (Option ℕ → Option (List ℕ)) → Option (List ℕ)
take_digit high None k = None
take_digit None (Some low) k = k (Some low)
take_digit (Some first) (Some low) k = option_map (λ rest. (16 * first + low) ∷ rest) (k None)

-- the rest of a text, where a first digit may wait
abbrev pub reading : Option ℕ → List ℕ → Option (List ℕ)
reading None [] = Some []
reading (Some first) [] = None
reading high (c ∷ cs) = cond (blank c) (reading high cs) (take_digit high (value c) (λ next. reading next cs))

abbrev pub decoded : List ℕ → Option (List ℕ)
decoded text = reading None text
