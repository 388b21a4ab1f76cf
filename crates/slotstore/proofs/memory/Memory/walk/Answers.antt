use Rattle.std.proofs.Common.{◌≡◌, ℕ, ◌<◌, List, [], ◌∷◌, ◌++◌, length, get_or, Some, sym, refl, ap, ◌∙◌, subst, rules, arith, add-one}
use Rattle.std.specs.List.{range_with_len}
use Rattle.std.proofs.iter.Yields.{nat_range_steps}
use Rattle.std.proofs.lemmas.Fn.{serves_by, fold_over}
use Rattle.std.proofs.lemmas.Iterator.{YieldsList-from_range}
use Rattle.std.proofs.lemmas.Iterator.Consumers.{YieldsList-turn}
use Rattle.std.proofs.lemmas.List.{length_push}
use Rattle.std.proofs.lemmas.List.FromFn.{length-range_with_len}
use Rattle.slotstore.specs.Slot.{links}
use Rattle.slotstore.specs.Chain.{follow}
use Rattle.slotstore.proofs.memory.Memory.walk.Goals as goal

-- one turn more goes one link further
further : (ls : List ℕ) (head : ℕ) (xs : List ℕ) (x a b : ℕ) → a ≡ follow ls head (length xs) → b ≡ get_or ls a 0 → b ≡ follow ls head (length (xs ++ x ∷ []))
further ls head xs x a b at next = next ∙ ap (λ i. get_or ls i 0) at ∙ sym (ap (follow ls head) (length_push xs x ∙ add-one (length xs)))

pub fold-requires-clause-callable : goal.fold-requires-clause-callable
fold-requires-clause-callable c =
    let ls : List ℕ = links c.args.self.now.slots.now in
    let road = YieldsList-from_range 0 c.args.k c.args.k refl (omega arith) in
    serves_by _ (λ xs q. (q.0 ≡ record { 0 = c.args.self }) × (q.1 ≡ follow ls c.args.head (length xs)))
    (λ xs q x v j r.
    let own : v.0 ≡ q.0 = search rules in
    let next : v.1 ≡ get_or (links q.0.0.now.slots.now) q.1 0 = search rules in
    (own ∙ j.0, further ls c.args.head xs x q.1 v.1 j.1 (next ∙ ap (λ f. get_or (links f.0.now.slots.now) q.1 0) j.0)))
    _ _ _ _ (refl, refl)
    (λ xs t q x u y e j.
    let inside = c.requires (length xs) (omega (arith, (YieldsList-turn road xs t y (Some x) u x refl e).0, length-range_with_len 0 c.args.k)) in
    let there : q.1 < length q.0.0.now.slots.now = subst (λ f. q.1 < length f.0.now.slots.now) (sym j.0) (subst (λ a. a < length c.args.self.now.slots.now) (sym j.1) inside) in
    search rules)

pub returns : goal.returns
returns c =
    let ls : List ℕ = links c.args.self.now.slots.now in
    let road = YieldsList-from_range 0 c.args.k c.args.k refl (omega arith) in
    fold_over nat_range_steps (λ x. x) _ (λ ys a. a ≡ follow ls c.args.head (length ys)) _
    (λ ys a x b f' j called.
    let own : f' ≡ record { 0 = c.args.self } = search rules in
    let next : b ≡ get_or ls a 0 = search rules in
    (further ls c.args.head ys x a b j next, own))
    (record { start = 0; end = c.args.k }) (range_with_len 0 c.args.k) c.args.head c.fold.result road.runs refl c.fold.ensures.ran
    ∙ ap (follow ls c.args.head) (length-range_with_len 0 c.args.k)
