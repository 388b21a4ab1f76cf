-- Every verdict is a refusal, or that on a command of the current user, or on PRESENT USER.
use Rattle.std.proofs.Common.{◌≡◌, ℕ, Bool, true, false, cond, List, [], drop, Some, None, Ok, Err, Option, Result, sym, refl, ap, subst}
use Rattle.std.proofs.lemmas.Bool.{both_ways}
use Rattle.text.specs.Identifier.{identifies}
use Rattle.apdu.specs.declared.envelope.EnvelopeFault.{EnvelopeFault}
use Rattle.apdu.specs.declared.operation.Operation.{Operation}
use Rattle.apdu.specs.declared.operation.Operation.TheVariants as operation
use Rattle.apdu.specs.Envelope.{Opened, opened}
use Rattle.fields.specs.declared.reader.FieldFault.{FieldFault}
use Rattle.fields.specs.Reader.{Parameter}
use Rattle.commands.specs.Command.{Parsed, present_user}
use Rattle.commands.specs.Parse
use Rattle.commands.specs.Parse.{command_of, parsed}
use Rattle.cardmodel.specs.State.{Id, Card}
use Rattle.cardmodel.specs.Verdict.{Cause, refused, unless, Verdict, reply_of, nobody_present}
use Rattle.cardmodel.specs.Answer.{Sent, verdict, presenting, obeyed, in_field, presents, of_user, in_envelope, reply, is_accepted}

-- one card
module _ (c : Card) (m : Sent) (P : Verdict → Type 0) (refusals : (x : Cause) → P (refused x)) where
  presented : (u : Id) (bs : List ℕ) (b : Bool) → ((id : Parameter) → P (presenting c id)) →
      P (in_field c u (cond b (Ok (present_user (record { place = 5; bytes = drop 5 bs }))) (Err (record { place = 5 }))))
  presented u bs true h = h _
  presented u bs false h = refusals _

  nobody : (o : Operation) (bs : List ℕ) (le : ℕ) → ((id : Parameter) → P (presenting c id)) → P (unless (presents o) nobody_present (in_field c [] (command_of o bs le)))
  nobody operation.PresentUser bs le h = presented [] bs (identifies (drop 5 bs)) h
  nobody operation.CreateUser bs le h = refusals _
  nobody operation.CreateTable bs le h = refusals _
  nobody operation.CreateView bs le h = refusals _
  nobody operation.DropTable bs le h = refusals _
  nobody operation.DropView bs le h = refusals _
  nobody operation.Grant bs le h = refusals _
  nobody operation.Revoke bs le h = refusals _
  nobody operation.DeclareCursor bs le h = refusals _
  nobody operation.Open bs le h = refusals _
  nobody operation.Next bs le h = refusals _
  nobody operation.Fetch bs le h = refusals _
  nobody operation.FetchNext bs le h = refusals _
  nobody operation.Insert bs le h = refusals _
  nobody operation.Update bs le h = refusals _
  nobody operation.Delete bs le h = refusals _

  -- whoever is present, PRESENT USER is the same
  pub each_verdict : ((u : Id) (p : Parsed) → c.current ≡ Some u → parsed m.bytes m.area ≡ Ok p → P (obeyed c u p)) → ((id : Parameter) → P (presenting c id)) → P (verdict c m)
  unfolding verdict
  each_verdict commands presented-to = go (opened m.bytes m.area) refl
    where
      fields : (u : Id) → c.current ≡ Some u → (o : Opened) → opened m.bytes m.area ≡ Ok o → (r : Result Parsed FieldFault) → command_of o.operation o.field o.le ≡ r → P (in_field c u r)
      fields u e o q (Err f) h = refusals _
      fields u e o q (Ok p) h = commands u p e (rw (q, h) refl)

      users : (u : Option Id) → c.current ≡ u → (o : Opened) → opened m.bytes m.area ≡ Ok o → P (of_user c u o)
      users (Some u) e o q = fields u e o q (command_of o.operation o.field o.le) refl
      users None e o q = nobody o.operation o.field o.le presented-to

      go : (r : Result Opened EnvelopeFault) → opened m.bytes m.area ≡ r → P (in_envelope c r)
      go (Err f) q = refusals _
      go (Ok o) q = users c.current refl o q

-- two cards with one user
module _ (c d : Card) (u : Id) (left : c.current ≡ Some u) (right : d.current ≡ Some u) (m : Sent) (P : Verdict → Verdict → Type 0) (refusals : (x : Cause) → P (refused x) (refused x)) where
  pub each_two : ((p : Parsed) → parsed m.bytes m.area ≡ Ok p → P (obeyed c u p) (obeyed d u p)) → P (verdict c m) (verdict d m)
  unfolding verdict
  each_two h = go (opened m.bytes m.area) refl
    where
      fields : (o : Opened) → opened m.bytes m.area ≡ Ok o → (r : Result Parsed FieldFault) → command_of o.operation o.field o.le ≡ r → P (in_field c u r) (in_field d u r)
      fields o e (Err f) q = refusals _
      fields o e (Ok p) q = h p (rw (e, q) refl)

      go : (r : Result Opened EnvelopeFault) → opened m.bytes m.area ≡ r → P (in_envelope c r) (in_envelope d r)
      go (Err f) e = refusals _
      go (Ok o) e =
          subst (λ z. P (of_user c z o) (of_user d d.current o)) (sym left)
          (subst (λ z. P (of_user c (Some u) o) (of_user d z o)) (sym right) (fields o e (command_of o.operation o.field o.le) refl))

-- a command that is understood is obeyed
pub verdict_parsed : (c : Card) (u : Id) → c.current ≡ Some u → (m : Sent) (p : Parsed) → parsed m.bytes m.area ≡ Ok p → verdict c m ≡ obeyed c u p
unfolding verdict
verdict_parsed c u e m p = go (opened m.bytes m.area)
  where
    fields : (r : Result Parsed FieldFault) → Parse.in_field r ≡ Ok p → in_field c u r ≡ obeyed c u p
    fields (Err f) q = cc
    fields (Ok x) q = let z : x ≡ p = cc in ap (obeyed c u) z

    go : (r : Result Opened EnvelopeFault) → Parse.in_envelope r ≡ Ok p → in_envelope c r ≡ obeyed c u p
    go (Err f) q = cc
    go (Ok o) q = subst (λ x. of_user c x o ≡ obeyed c u p) (sym e) (fields (command_of o.operation o.field o.le) q)

-- PRESENT USER that is accepted, whoever was present
pub verdict_presents : (c : Card) (m : Sent) (id : Parameter) → parsed m.bytes m.area ≡ Ok (present_user id) → is_accepted (reply c m) ≡ true → verdict c m ≡ presenting c id
unfolding verdict
verdict_presents c m id said accepted = go (opened m.bytes m.area) said accepted
  where
    fields : (u : Id) (r : Result Parsed FieldFault) → Parse.in_field r ≡ Ok (present_user id) → in_field c u r ≡ presenting c id
    fields u (Err f) q = cc
    fields u (Ok x) q = let z : x ≡ present_user id = cc in ap (obeyed c u) z

    nobody : (b : Bool) (r : Result Parsed FieldFault) → Parse.in_field r ≡ Ok (present_user id) → is_accepted (reply_of (unless b nobody_present (in_field c [] r))) ≡ true →
        unless b nobody_present (in_field c [] r) ≡ presenting c id
    nobody true r q a = fields [] r q
    nobody false r q a = absurd (both_ways false refl a)

    users : (u : Option Id) (o : Opened) → Parse.in_field (command_of o.operation o.field o.le) ≡ Ok (present_user id) → is_accepted (reply_of (of_user c u o)) ≡ true → of_user c u o ≡ presenting c id
    users (Some u) o q a = fields u (command_of o.operation o.field o.le) q
    users None o q a = nobody (presents o.operation) (command_of o.operation o.field o.le) q a

    go : (r : Result Opened EnvelopeFault) → Parse.in_envelope r ≡ Ok (present_user id) → is_accepted (reply_of (in_envelope c r)) ≡ true → in_envelope c r ≡ presenting c id
    go (Err f) q a = cc
    go (Ok o) q a = users c.current o q a
