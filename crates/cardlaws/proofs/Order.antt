-- Strings of a column: how they are compared is lawful, and rows are level both ways or neither.
use Rattle.std.proofs.Common.{◌≡◌, refl, ap, ◌∙◌}
use Rattle.std.specs.declared.cmp.Ordering.{Ordering}
use Rattle.std.specs.declared.cmp.Ordering.TheVariants.{Less, Equal, Greater}
use Rattle.std.specs.Ordering.{ordering_reverse}
use Rattle.text.specs.Order.{Lawful}
use Rattle.text.proofs.Orders.{order_lawful}
use Rattle.fields.specs.Column.{Column}
use Rattle.cardmodel.specs.State.{Bytes, Row, Placed}
use Rattle.cardmodel.specs.Objects.{cell, compared}
use Rattle.cardmodel.specs.CursorRules.{is_level}
use Rattle.cardlaws.specs.Sound.{level_at}

pub compared_lawful : (c : Column) → Lawful (compared c)
unfolding compared
compared_lawful c = order_lawful

level_mirrored : (o : Ordering) → is_level (ordering_reverse o) ≡ is_level o
level_mirrored Less = refl
level_mirrored Equal = refl
level_mirrored Greater = refl

pub level_back : (c : Column) (x y : Bytes) → is_level (compared c y x) ≡ is_level (compared c x y)
level_back c x y = ap is_level ((compared_lawful c).back x y) ∙ level_mirrored (compared c x y)

pub level_at_back : (p : Placed) (x y : Row) → level_at p y x ≡ level_at p x y
level_at_back p x y = level_back p.column (cell x p.number) (cell y p.number)
