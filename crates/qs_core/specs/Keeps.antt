-- What every state of the core keeps. (This project.)
use Rattle.std.specs.Prelude.{ℕ, ◌<◌, ◌≤◌, ◌≡◌, List, length, slice_get, Some}
use Rattle.qs_tree.specs.Lists.{◌∈◌}
use Rattle.qs_pattern.specs.Rules.{IsUnique}
use Rattle.qs_graph.specs.Graphs.{QGraph, IsValid}
use Rattle.qs_firing.specs.Firings.{Firing}
use Rattle.qs_firing.specs.Work.{IsWorkOf, Work}
use Rattle.qs_core.specs.declared.step.Status.TheVariants as status
use Rattle.qs_core.specs.Growth.{Grown, DoneAt, AllApart, NoTwins}
use Rattle.qs_core.specs.Core.{Base, CoreState, Fired, fired, fired_at, HasClaim}

-- Of this list exactly the first k are done.
pub record AreFirst (done F : List Firing) (k : ℕ) : Type 0 where
  pub within : k ≤ length F
  pub before : (j : ℕ) (f : Firing) → slice_get F j ≡ Some f → j < k → f ∈ done
  pub behind : (j : ℕ) (f : Firing) → slice_get F j ≡ Some f → k ≤ j → f ∈ done → ⊥

pub record Keeps (B : Base) (S : CoreState) : Type 0 where
  -- The arcs are the start's, followed by those that the done firings added in order, and each of these fires over the
  -- arcs that stood before it.
  pub grown : Grown B.rules B.start (fired S) S.graph
  -- Each arc has a status.
  pub status_each : length S.status ≡ length S.graph.arcs
  -- Of a waiting arc nothing of its work is done, of a claimed one exactly the first k, of a done one all.
  pub of_waiting : (m : ℕ) → slice_get S.status m ≡ Some status.Waiting
      → (f : Firing) → IsWorkOf B.rules S.graph.arcs m f → f ∈ fired S → ⊥
  pub of_claimed : (m i k : ℕ) → HasClaim S i m k
      → (F : List Firing) → Work B.rules S.graph.arcs m F → AreFirst (fired S) F k
  pub of_done : (m : ℕ) → slice_get S.status m ≡ Some status.Done
      → (f : Firing) → IsWorkOf B.rules S.graph.arcs m f → f ∈ fired S
  -- Each done firing is in the work of its greatest arc.
  pub placed : (f : Firing) → f ∈ fired S → (m : ℕ) × IsWorkOf B.rules S.graph.arcs m f
  -- A seat has at most one claim.
  pub one_claim : (m n i k l : ℕ) → HasClaim S i m k → HasClaim S i n l → m ≡ n
  -- Claims are of seats that there are.
  pub seated : (m i k : ℕ) → HasClaim S i m k → i < B.seats
  -- At most the limit's firings are done.
  pub few : length S.done ≤ B.limit
  -- No firing is done twice.
  pub once : AllApart (fired S)
  -- Where the rules are unique, no two arcs of which at least one isn't the start's have equal ends and equal trees.
  pub merged : IsValid B.start → IsUnique B.rules → NoTwins B.start S.graph
  -- Each result that is recorded is that of its firing over the graph to which it was added.
  pub results : (d : Fired) → d ∈ S.done
      → (P : QGraph) × DoneAt B.rules B.start (fired S) d.firing P × (d ≡ fired_at B.rules P d.firing)
