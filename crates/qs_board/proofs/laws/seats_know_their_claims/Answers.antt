use Rattle.qs_board.proofs.Staying.{claim_stays, free_stays, right_stays}
use Rattle.qs_board.proofs.laws.seats_know_their_claims.Goals as goal

pub returns-clause-claim : goal.returns-clause-claim
returns-clause-claim c = λ B i seen history M N m n others a k. claim_stays B seen history M N m n i others a k

pub returns-clause-free : goal.returns-clause-free
returns-clause-free c = λ B i seen history M N m n others free. free_stays B seen history M N m n i others free

pub returns-clause-right : goal.returns-clause-right
returns-clause-right c = λ B i seen history M N m n others work low right. right_stays B seen history M N m n others.0 others.1 work low right
