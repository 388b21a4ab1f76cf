use Rattle.std.proofs.Common.{◌≡◌, List, ◌++◌, length, drop, refl, ◌∙◌, arith}
use Rattle.std.proofs.lemmas.List.{length-append, length-take-le}
use Rattle.slotstore.specs.declared.slot.Slot.{Slot}
use Rattle.rowmodel.proofs.Kept.{sound_empty}
use Rattle.slotstore.specs.Slot.{links}
use Rattle.slotstore.proofs.Starts.{linked_more, linked_front, start_within, start_apart}
use Rattle.slotstore.proofs.store.SlotStore.new.Goals as goal

pub loop-i-preserved : goal.loop-i-preserved
loop-i-preserved c = linked_more c.loop-i.slot-items c.loop-i.i _ (omega arith) refl c.loop-i.invariant

pub invariant_of-result : goal.invariant_of-result
invariant_of-result c =
    let n = c.min-n.result in
    let front = c.loop-i.slot-items in
    let ss : List Slot = front ++ drop n c.args.slots.now in
    let long : length front ≡ n = c.loop-i.auto.slot-items ∙ length-take-le n c.args.slots.now (omega (arith, c.min-n.ensures)) in
    let linked = linked_front front (drop n c.args.slots.now) n (omega (arith, long)) (λ k l. c.loop-i.invariant k (omega (arith, long))) in
    record {
      long = refl;
      within = start_within (links ss) n linked (length ss) (omega (arith, length-append front (drop n c.args.slots.now), long));
      apart = start_apart (links ss) n linked;
      sound = sound_empty n (omega (arith, c.min-n.ensures));
    }
