-- A refusal leaves everything, and a card with nobody registered refuses everything.
use Rattle.std.proofs.Common.{◌≡◌, true, false, [], is_some, None, sym, refl, ◌∙◌, subst}
use Rattle.std.proofs.lemmas.Bool.{both_ways}
use Rattle.fields.specs.Reader.{Parameter}
use Rattle.cardmodel.specs.State.{Card}
use Rattle.cardmodel.specs.Rights.{known}
use Rattle.cardmodel.specs.Verdict.{Cause, refusal, refused, passed, Outcome, gives, no_further_row, Verdict, reply_of, card_after, area_short, no_command, class_unknown, instruction_unknown, p1_unknown, p2_unknown, shape_wrong, nobody_present, form_broken, cursor_state, missing, not_allowed, foreign, taken, barred, too_long, repeated, catalogue_full, store_refuses, le_short}
use Rattle.cardmodel.specs.Answer.{Sent, verdict, presenting, reply, is_accepted, closed_card}
use Rattle.cardmodel.specs.Refusals.{RefusalsLeave}
use Rattle.cardmodel.specs.Nobody.{NobodyServed}
use Rattle.cardmodel.proofs.Lists.{none_some}
use Rattle.cardmodel.proofs.Verdicts.{each_verdict}

-- an acceptance has no cause, and every refusal has one
accepted : (o : Outcome) (c : Card) → is_accepted (reply_of (passed (record { card = c; outcome = o }))) ≡ true
accepted (gives bytes) c = refl
accepted no_further_row c = refl

pub caused : (x : Cause) → is_accepted (refusal x) ≡ false
caused area_short = refl
caused no_command = refl
caused class_unknown = refl
caused instruction_unknown = refl
caused p1_unknown = refl
caused p2_unknown = refl
caused shape_wrong = refl
caused nobody_present = refl
caused (form_broken p) = refl
caused cursor_state = refl
caused (missing p) = refl
caused not_allowed = refl
caused (foreign p) = refl
caused (taken p) = refl
caused (barred p) = refl
caused (too_long p) = refl
caused (repeated p) = refl
caused catalogue_full = refl
caused store_refuses = refl
caused (le_short n) = refl

pub refusals_leave : RefusalsLeave
refusals_leave c m e = go (verdict c m) e
  where
    go : (v : Verdict) → is_accepted (reply_of v) ≡ false → card_after c v ≡ c
    go (refused x) e = refl
    go (passed d) e = absurd (both_ways (is_accepted (reply_of (passed d))) e (accepted d.outcome d.card))

unregistered : (c : Card) → c.catalogue.users.records ≡ [] → c.current ≡ None → (m : Sent) → is_accepted (reply c m) ≡ false
unregistered c e n m = each_verdict c m (λ v. is_accepted (reply_of v) ≡ false) caused (λ u p f _. absurd (none_some (sym n ∙ f))) unknown
  where
    nobody : (id : Parameter) → is_some (known c.catalogue.users.records id.bytes) ≡ false
    nobody id = subst (λ us. is_some (known us id.bytes) ≡ false) (sym e) (none id.bytes)
      where
        none : (u : Rattle.cardmodel.specs.State.Id) → is_some (known [] u) ≡ false
        none u = unfold known in refl

    unknown : (id : Parameter) → is_accepted (reply_of (presenting c id)) ≡ false
    unknown id = unfold presenting in rw (nobody id) refl

pub nobody_served : NobodyServed
nobody_served = record { unregistered = unregistered; closed = λ empty free z no m. rw no (unregistered (closed_card free z) refl refl m) }
