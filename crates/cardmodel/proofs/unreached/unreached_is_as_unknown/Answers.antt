use Rattle.std.proofs.Common.{◌≡◌, false, Some, None, Option, refl, ap}
use Rattle.cardmodel.specs.State.{Id, Object, Catalogue}
use Rattle.cardmodel.specs.Objects.{object_named}
use Rattle.cardmodel.specs.Rights.{reaches}
use Rattle.cardmodel.specs.Verdict.{Checked, refused, unless, with_found, not_allowed}
use Rattle.cardmodel.specs.CursorRules.{declaring}
use Rattle.cardmodel.specs.Unreached.{is_reached, UnreachedAsUnknown}
use Rattle.cardmodel.proofs.unreached.unreached_is_as_unknown.Goals as goal

-- by what is found: the first check refuses, or the second
by_found : {A : Type 0} (k : Catalogue) (u : Id) (rest : Object → Checked A) (o : Option Object) → is_reached k u o ≡ false
    → with_found o not_allowed (λ x. unless (reaches k.privileges.records u x) not_allowed (rest x)) ≡ refused not_allowed
by_found k u rest None h = refl
by_found k u rest (Some x) h = ap (λ b. unless b not_allowed (rest x)) h

as_unknown : UnreachedAsUnknown
unfolding declaring
as_unknown k u rows s h = by_found k u _ (object_named k.objects.records s.source.bytes) h

pub returns : goal.returns
returns c = record { law = as_unknown; stands = refl }
