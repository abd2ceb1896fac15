use Rattle.dcc_flow.proofs.OrderLaws.{order_is}
use Rattle.dcc_flow.proofs.laws.reverse_post_orders_are_orders.Goals as goal

pub returns : goal.returns
returns c = order_is
