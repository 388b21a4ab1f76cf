-- A card leaves the rows that its user does not reach.
use Rattle.std.proofs.Common.{◌≡◌, sym, refl, subst}
use Rattle.cardmodel.specs.Answer.{after}
use Rattle.secrecy.specs.Frame.{Frame}
use Rattle.secrecy.proofs.Linked.{Fit, sound_fit}
use Rattle.secrecy.proofs.LocalAnswers.{serving_is, local_verdicts}

-- two cards that are one
pub frame : Frame
frame total z c sound u e m t out =
    subst (λ y. (after y m).rows t ≡ c.rows t) (sym (serving_is c u e))
    ((local_verdicts c.catalogue u c.rows c.rows c.cursor m fit fit (λ _ _. refl)).beyond t out)
  where
    fit : Fit c.catalogue u c.rows c.cursor
    fit = sound_fit total z c u sound e
