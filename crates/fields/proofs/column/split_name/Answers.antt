use Rattle.std.proofs.Common.{◌≡◌, length, take, drop, eqb, ap, ◌∙◌, rules, tests}
use Rattle.std.specs.Option.{unwrap_or}
use Rattle.std.proofs.lemmas.Iterator.{YieldsList-from_slice}
use Rattle.std.proofs.lemmas.Iterator.Search.{position_from_yields_List}
use Rattle.fields.proofs.Dots.{dot_found}
use Rattle.fields.specs.Column.{dot}
use Rattle.fields.proofs.column.split_name.Goals as goal
use Rattle.fields.proofs.column.split_name.Goals.{After-split_at}

-- the name ends at the first dot
ends : (c : After-split_at) → c.unwrap_or-end.result ≡ dot c.args.bytes.now
ends c =
    let bs = c.args.bytes.now in
    let at = position_from_yields_List (λ b. eqb b 46) _ _ c.position.result c.position.ensures.ran (YieldsList-from_slice bs cc) (λ x b q k. search (rules, tests)) in
    c.unwrap_or-end.ensures ∙ ap (λ o. unwrap_or o (length bs)) at ∙ dot_found bs

pub returns-clause-name : goal.returns-clause-name
returns-clause-name c = c.split_at.ensures.front ∙ ap (λ n. take n c.args.bytes.now) (ends c)

pub returns-clause-rest : goal.returns-clause-rest
returns-clause-rest c = c.split_at.ensures.back ∙ ap (λ n. drop n c.args.bytes.now) (ends c)
