use Rattle.std.proofs.Common.{◌≡◌, length, get_or, take, sym, ap, ◌∙◌, arith}
use Rattle.std.proofs.lemmas.Str.Pattern.{NoCharPasses-char}
use Rattle.script.proofs.without_comment.Goals as goal

pub returns-in-Some-clause-clean : goal.returns-in-Some-clause-clean
returns-in-Some-clause-clean c =
    let h = c.in-Some.ensures.cases in
    let is : c.in-Some.front.now ≡ take h.0 c.args.line.now = h.3 in
    λ k l e. NoCharPasses-char 35 (take h.0 c.args.line.now) k h.2.0 (omega arith) (omega (arith, ap length is)) (ap (λ s. get_or s k 0) (sym is) ∙ e)

pub returns-in-None-clause-clean : goal.returns-in-None-clause-clean
returns-in-None-clause-clean c = λ k l e. NoCharPasses-char 35 c.args.line.now k c.in-None.ensures.cases (omega arith) l e
