-- What a `Held` ends as, where a `&mut` to its value is returned.
use Rattle.std.specs.Borrow.{Lends, Fml, RattleType, MutBor}
use Rattle.qs_turn.specs.contracts.turns.Held.{the_row}
use Rattle.qs_turn.specs.declared.told.Told.{Ghosts}

module _ (T E : RattleType) (g : Ghosts T.Denot E.Denot) where
  -- Once the borrow r ends, the value that is held is the last that r shows.
  abbrev pub LendsValue : MutBor T.Denot → MutBor T.Denot → Fml
  LendsValue held r = Lends (the_row T E g) T held r (λ x. x)
