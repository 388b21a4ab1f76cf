use Rattle.std.proofs.Common.{set, refl, ap, ◌∙◌}
use Rattle.std.proofs.lemmas.List.{map-set}
use Rattle.std.proofs.Math.Seq.{map-set_same}
use Rattle.slotstore.specs.Slot.{content, link, contents}
use Rattle.slotstore.proofs.memory.Memory.write.Goals as goal

pub returns-clause-linked : goal.returns-clause-linked
returns-clause-linked c = map-set_same link c.args.self.now.slots.now c.args.slot _ c.index-self-slot.result refl

pub returns-clause-filled : goal.returns-clause-filled
returns-clause-filled c = let ss = c.args.self.now.slots.now in map-set content ss c.args.slot _ ∙ ap (set (contents ss) c.args.slot) c.from.ensures
