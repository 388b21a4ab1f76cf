use Rattle.std.proofs.Common.{◌≡◌, List, None, refl}
use Rattle.std.proofs.lemmas.List.{length-set}
use Rattle.rowmodel.specs.Needs.{make_unmet}
use Rattle.rowmodel.specs.Calls.{made}
use Rattle.rowmodel.proofs.Refusals.{old_at, new_at, none_at_ok, some_at_err}
use Rattle.rowmodel.proofs.Kept.{sound_made}
use Rattle.slotstore.specs.Slot.{links}
use Rattle.slotstore.specs.declared.chain.Chain.{Chain}
use Rattle.slotstore.specs.Store.{slot_meaning}
use Rattle.slotstore.proofs.Bounds.{meaning_of}
use Rattle.slotstore.proofs.Unmet.{Available, available}
use Rattle.slotstore.proofs.Keeps.{Ghosts, keeps}
use Rattle.slotstore.proofs.Cuts.{cut, cut_moved, cut_meaning}
use Rattle.slotstore.proofs.store.SlotStoreRowStore.make_table.Goals as goal
use Rattle.slotstore.proofs.store.SlotStoreRowStore.make_table.Goals.{After-reach-rest}

pub returns-in_err-check_make-clause-after : goal.returns-in_err-check_make-clause-after
returns-in_err-check_make-clause-after c = old_at _ _ _ _ (some_at_err _ _ _ c.in_err-check_make.ensures.result)

-- no need is unmet
none : (c : After-reach-rest) → make_unmet (meaning_of c.args.self.now) c.args.number c.args.limit ≡ None
none c = none_at_ok _ _ _ c.in_ok-check_make.ensures.result

-- so the number is one of the sixteen and has no chain, and the free slots are enough
met : (c : After-reach-rest) → Available c.args.self.now c.args.number c.args.limit
met c = available c.args.self.now c.args.number c.args.limit (none c)

-- the chains after the call
abbrev after : After-reach-rest → List Chain
after c =
    let a = met c in
    cut (links c.args.self.now.memory.slots.now) c.args.self.now.chains c.args.number c.args.limit a.below c.args.self.now.long a.unused a.room c.reach-rest.result c.reach-rest.ensures.result

-- they mean what is made
done : (c : After-reach-rest) →
    (slot_meaning c.args.self.now.memory.slots.now (after c) ≡ made (meaning_of c.args.self.now) c.args.number c.args.limit)
    × Ghosts c.args.self.now.memory.slots.now (after c)
done c =
    let s = c.args.self.now in
    let t = c.args.number in
    let n = c.args.limit in
    let ss = s.memory.slots.now in
    let a = met c in
    let rest = c.reach-rest in
    let m = cut_meaning (links ss) s.chains t n a.below s.long a.unused a.room rest.result rest.ensures.result ss a.some in (
      m,
      keeps s ss (after c) (made (meaning_of s) t n) (simp length-set) refl
          (cut_moved (links ss) s.chains t n a.below s.long a.unused a.room rest.result rest.ensures.result) m (sound_made (meaning_of s) t n s.sound (none c)),
    )

pub invariant_of-self : goal.invariant_of-self
invariant_of-self c = (done (goal.at.invariant_of-self c).After-reach-rest).1

pub returns-clause-after : goal.returns-clause-after
returns-clause-after c =
    let w = (goal.at.returns-clause-after c).After-reach-rest in
    new_at _ _ _ _ (none w) (done w).0
