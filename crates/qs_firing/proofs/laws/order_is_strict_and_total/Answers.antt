use Rattle.qs_firing.proofs.Orders as orders
use Rattle.qs_firing.proofs.laws.order_is_strict_and_total.Goals as goal

pub returns-clause-asymmetric : goal.returns-clause-asymmetric
returns-clause-asymmetric c = orders.Before-asym

pub returns-clause-transitive : goal.returns-clause-transitive
returns-clause-transitive c = λ f g h a b. orders.order_total.trans f g h a b

pub returns-clause-total : goal.returns-clause-total
returns-clause-total c = orders.total

pub returns-clause-apart : goal.returns-clause-apart
returns-clause-apart c = orders.apart
