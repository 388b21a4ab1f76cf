use Rattle.std.proofs.Common.{◌≡◌, drop, rules, tests, arith, ◌∙◌}
use Rattle.std.proofs.lemmas.List.{take_rest}
use Rattle.std.proofs.lemmas.Iterator.{YieldsList-from_slice}
use Rattle.std.proofs.lemmas.Iterator.Search.{all_from_yields_List}
use Rattle.std.proofs.lemmas.Grind.{common_steps}
use Rattle.std.specs.List.{list_all}
use Rattle.text.specs.Identifier.{later}
use Rattle.text.proofs.identifier.is_identifier.Goals as goal

pub returns-then-is_ascii_uppercase : goal.returns-then-is_ascii_uppercase
returns-then-is_ascii_uppercase c =
    let bytes = c.args.bytes.now in
    let is : c.all.result ≡ list_all later (drop 1 bytes) =
    all_from_yields_List later _ _ c.all.result c.all.ensures.ran (YieldsList-from_slice (drop 1 bytes) (c.iter.ensures.rest ∙ take_rest bytes 1)) (λ x b q k. search (rules, tests)) in
    grind (arith, common_steps)
