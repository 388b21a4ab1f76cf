use Rattle.std.proofs.Common.{Option, MatchOption, Bor, List, ℕ, length, ◌≡◌, [], ◌||◌, ◌∷◌, refl, ap, ◌∙◌, rules, tests}
use Rattle.std.specs.List.{list_any}
use Rattle.std.specs.Str.{bytes_eq}
use Rattle.std.proofs.lemmas.Iterator.Consumers.{YieldsList-from_shown}
use Rattle.std.proofs.lemmas.Iterator.Search.{any_from_yields_List}
use Rattle.fields.specs.declared.entries.Names.{Names}
use Rattle.fields.specs.Entries.{among}
use Rattle.fields.specs.Names.{named}
use Rattle.fields.proofs.entries.Names.have.Goals as goal

any_among : (name : List ℕ) (xs : List (List ℕ)) → list_any (λ x. bytes_eq x name) xs ≡ among name xs
any_among name [] = refl
any_among name (x ∷ xs) = ap (λ b. bytes_eq x name || b) (any_among name xs)

pub returns : goal.returns
returns c =
    let steps : Names → Option (Bor (List ℕ)) → Names → Type 0 = λ s r t. MatchOption r (named s ≡ []) (λ n. named s ≡ n.now ∷ named t) in
    any_from_yields_List (λ x. bytes_eq x c.args.name.now) c.any.new.self _ c.any.result c.any.ensures.ran (YieldsList-from_shown steps (λ n. n.now) named (λ s t h. ap length h) (λ s x t h. h) c.args.self) (λ x b q k. search (rules, tests))
    ∙ any_among c.args.name.now (named c.args.self)
