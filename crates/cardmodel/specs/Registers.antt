-- Records that are added, changed and taken out.
use Rattle.std.specs.Prelude.{◌+◌, ◌-◌, Bool, cond, not, List, [], ◌∷◌, ◌++◌, length, filter, nat_lt}
use Rattle.cardmodel.specs.State.{Register}

module _ {A : Type 0} where
  -- one more is taken
  abbrev pub has_space : Register A → Bool
  has_space r = nat_lt 0 r.space

  -- one more, at the end
  abbrev pub with_one : Register A → A → Register A
  with_one r x = record { records = r.records ++ (x ∷ []); space = r.space - 1 }

  -- some are taken out, and the gaps closed
  abbrev pub without_some : Register A → (A → Bool) → Register A
  without_some r gone = record {
    records = filter (λ x. not (gone x)) r.records;
    space = r.space + length (filter gone r.records);
  }

  -- the first that passes is changed
  abbrev pub changed_first : (A → Bool) → (A → A) → List A → List A
  changed_first p f [] = []
  changed_first p f (x ∷ xs) = cond (p x) (f x ∷ xs) (x ∷ changed_first p f xs)

  abbrev pub with_changed : Register A → (A → Bool) → (A → A) → Register A
  with_changed r p f = record { records = changed_first p f r.records; space = r.space }
