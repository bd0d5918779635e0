-- A sink and what its writes took, as contracts see them.
use Rattle.std.specs.Prelude.{ℕ, List}

-- a sink, and the bytes that the writes through this type took; this project's own
pub record Traced (K : Type 0) : Type 0 where
  pub sink : K
  pub taken : List ℕ
