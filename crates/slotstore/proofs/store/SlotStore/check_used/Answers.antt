use Rattle.std.proofs.Common.{◌≡◌, ◌≤◌, cond, ◌⊎◌, Some, None, refl, ap, inl, inr, arith}
use Rattle.rowmodel.specs.declared.StoreFault.TheVariants.{Unused}
use Rattle.rowmodel.specs.Meaning.{is_used}
use Rattle.rowmodel.proofs.Refusals.{err_at, ok_at}
use Rattle.slotstore.specs.Chain.{chain_at}
use Rattle.slotstore.proofs.Bounds.{in_use}
use Rattle.slotstore.proofs.Tables.{used_here, unused_here}
use Rattle.slotstore.proofs.store.SlotStore.check_used.Goals as goal

pub returns-then-at-ge-FREE : goal.returns-then-at-ge-FREE
returns-then-at-ge-FREE c =
    let s = c.args.self.now in
    let why : (16 ≤ c.args.number) ⊎ ((chain_at s.chains c.args.number).size ≡ 0) =
    elim c.then-at-ge-FREE.branch [ goal.then-at-ge-FREE-via-then-at-ge-FREE w ↦ inl (omega arith) | goal.then-at-ge-FREE-via-else-at-ge-FREE+then-self-at-eq0 w ↦ inr (omega arith) ] in
    record {
      result = err_at _ _ _ (ap (λ x. cond (is_used x) None (Some Unused)) (unused_here s.memory.slots.now s.chains c.args.number why));
      found = tt;
    }

pub returns : goal.returns
returns c =
    let s = c.args.self.now in
    let u = in_use s c.args.number (omega arith) (omega arith) in
    record {
      result = ok_at _ _ _ (ap (λ x. cond (is_used x) None (Some Unused)) (used_here s.memory.slots.now s.chains c.args.number u.below u.some)) refl;
      found = u;
    }
