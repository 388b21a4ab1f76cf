-- Rights and reach: who may do something to an object, or owns it, reaches it.
use Rattle.std.proofs.Common.{◌≡◌, Bool, true, ◌&&◌, ◌||◌, ◌⊎◌, List, refl, inl, inr}
use Rattle.std.proofs.lemmas.Bool.{both_ways, and_parts, and_from, or_cases, or_left, or_right}
use Rattle.cardmodel.specs.State.{Id, Kind, a_table, a_view, Object, Rights, Privilege}
use Rattle.cardmodel.specs.Objects.{same, is_table}
use Rattle.cardmodel.specs.Rights.{admitted, some_right, fits, granted, owns, may, reaches}
use Rattle.cardmodel.proofs.Lists.{any_more}

pub owner_reaches : (ps : List Privilege) (u : Id) (o : Object) → owns u o ≡ true → reaches ps u o ≡ true
unfolding reaches
owner_reaches ps u o e = or_left (owns u o) _ e

-- a right is a reach
pub right_reaches : (ps : List Privilege) (u : Id) (o : Object) (right : Rights → Bool) → ((r : Rights) → right r ≡ true → some_right r ≡ true) → may ps u o right ≡ true → reaches ps u o ≡ true
unfolding may reaches granted
right_reaches ps u o right h e = go (or_cases (owns u o) _ (and_parts (right (admitted o.kind)) _ e).1)
  where
    go : ((owns u o ≡ true) ⊎ (granted ps u o.name right ≡ true)) → (owns u o || granted ps u o.name some_right) ≡ true
    go (inl a) = or_left (owns u o) _ a
    go (inr b) = or_right (owns u o) _ (any_more _ _ (λ p x.
        let y = and_parts (same p.object o.name && fits p.grantee u) (right p.rights) x in
        and_from (same p.object o.name && fits p.grantee u) (some_right p.rights) y.0 (h p.rights y.1)) ps b)

pub insert_some : (r : Rights) → r.insert ≡ true → some_right r ≡ true
insert_some r e = rw e refl

-- only a table admits deleting
pub delete_table : (ps : List Privilege) (u : Id) (o : Object) → may ps u o (λ r. r.delete) ≡ true → is_table o ≡ true
unfolding may
delete_table ps u o e = go o.kind refl
  where
    go : (kind : Kind) → o.kind ≡ kind → is_table o ≡ true
    go (a_table n) f = rw f refl
    go a_view f = absurd (both_ways (admitted o.kind).delete (rw f refl) (and_parts (admitted o.kind).delete _ e).0)
