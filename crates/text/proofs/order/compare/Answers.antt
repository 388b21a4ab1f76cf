use Rattle.text.proofs.Orders.{order_lawful}
use Rattle.text.proofs.order.compare.Goals as goal

pub returns-clause-lawful : goal.returns-clause-lawful
returns-clause-lawful c = order_lawful
