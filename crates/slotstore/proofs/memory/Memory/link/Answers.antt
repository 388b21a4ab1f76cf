use Rattle.std.proofs.Common.{refl}
use Rattle.std.proofs.lemmas.List.{map-set}
use Rattle.std.proofs.Math.Seq.{map-set_same}
use Rattle.slotstore.specs.Slot.{content, link}
use Rattle.slotstore.proofs.memory.Memory.link.Goals as goal

pub returns-clause-linked : goal.returns-clause-linked
returns-clause-linked c = map-set link c.args.self.now.slots.now c.args.slot _

pub returns-clause-filled : goal.returns-clause-filled
returns-clause-filled c = map-set_same content c.args.self.now.slots.now c.args.slot _ c.index-self-slot.result refl
