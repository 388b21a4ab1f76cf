use Rattle.std.proofs.Common.{◌<◌, length, sym, subst, arith}
use Rattle.slotstore.proofs.Bounds.{spot_within}
use Rattle.slotstore.proofs.store.SlotStore.reach.Goals as goal

pub walk-requires : goal.walk-requires
walk-requires c j l = spot_within c.args.self.now c.args.chain j (omega arith)

pub returns-clause-inside : goal.returns-clause-inside
returns-clause-inside c l = subst (λ i. i < length c.args.self.now.memory.slots.now) (sym c.walk.ensures) (spot_within c.args.self.now c.args.chain c.args.k l)
