-- Passing steps, the last one into a node first, until each source is done.
use Rattle.std.specs.Prelude.{ℕ, ◌≡◌, ◌+◌, ◌<◌, ◌≤◌, ◌⊎◌, Bool, true, false, List}
use Rattle.std.specs.Prelude.{[], ◌∷◌, length, map, slice_get, Option, Some, None}
use Rattle.qs_tree.specs.Lists.{◌∈◌}
use Rattle.qs_levels.specs.declared.ordering.Node.{Node}

-- Steps between nodes below a limit.
pub record AreSteps (limit : ℕ) (sources targets : List ℕ) : Type 0 where
  pub long : length sources ≡ length targets
  pub sources_in : (n : ℕ) → n ∈ sources → n < limit
  pub targets_in : (n : ℕ) → n ∈ targets → n < limit

-- A node that is done, and one that isn't.
pub record IsDone (nodes : List Node) (n : ℕ) (node : Node) : Type 0 where
  pub is : slice_get nodes n ≡ Some node
  pub done : node.done ≡ true

pub record IsUndone (nodes : List Node) (n : ℕ) : Type 0 where
  pub node : Node
  pub is : slice_get nodes n ≡ Some node
  pub undone : node.done ≡ false

-- Step k comes behind the open one.
abbrev pub IsBehind : Option ℕ → ℕ → Type 0
IsBehind None k = Unit {0}
IsBehind (Some p) k = p < k

-- Step k comes no later than the last one of these.
abbrev pub IsUpTo : Option ℕ → ℕ → Type 0
IsUpTo None k = ⊥
IsUpTo (Some p) k = k ≤ p

-- The source of step k is done, at a smaller depth.
pub record IsFromBelow (sources : List ℕ) (nodes : List Node) (k depth : ℕ) : Type 0 where
  pub source : ℕ
  pub at : slice_get sources k ≡ Some source
  pub node : Node
  pub done : IsDone nodes source node
  pub below : node.depth < depth

-- A step leads to n from a node that is done, at the depth just below.
pub record IsReached (sources targets : List ℕ) (nodes : List Node) (n depth : ℕ) : Type 0 where
  pub step : ℕ
  pub to : slice_get targets step ≡ Some n
  pub source : ℕ
  pub from : slice_get sources step ≡ Some source
  pub node : Node
  pub done : IsDone nodes source node
  pub just_below : depth ≡ node.depth + 1

-- The steps into n that come behind the open one are passed, with this depth.
pub record IsPassed (sources targets : List ℕ) (nodes : List Node) (n depth : ℕ) (unpassed : Option ℕ) : Type 0 where
  pub behind : (k : ℕ) → slice_get targets k ≡ Some n → IsBehind unpassed k → IsFromBelow sources nodes k depth
  pub stands : (k : ℕ) → unpassed ≡ Some k → slice_get targets k ≡ Some n
  pub reached : 0 < depth → IsReached sources targets nodes n depth

abbrev pub ArePassed : List ℕ → List ℕ → List Node → Type 0
ArePassed sources targets nodes =
    (n : ℕ) (node : Node) → slice_get nodes n ≡ Some node → IsPassed sources targets nodes n node.depth node.unpassed

-- Nodes that are done have depths below a bound.
abbrev pub AreDoneBelow : List Node → ℕ → Type 0
AreDoneBelow nodes bound = (n : ℕ) (node : Node) → IsDone nodes n node → node.depth < bound

-- The nodes that are done stand in the order, and have no open step.
pub record IsGoing (sources targets : List ℕ) (nodes : List Node) (order : List ℕ) : Type 0 where
  pub passed : ArePassed sources targets nodes
  pub finished : (n : ℕ) (node : Node) → IsDone nodes n node → node.unpassed ≡ None
  pub low : AreDoneBelow nodes (length order)
  pub ordered : (n : ℕ) (node : Node) → IsDone nodes n node → n ∈ order
  pub within : (n : ℕ) → n ∈ order → n < length nodes

-- A step leads to n from a node that isn't done, or that is waited for.
pub record Waits (sources targets : List ℕ) (nodes : List Node) (Pending : ℕ → ℕ → Type 0) (n : ℕ) : Type 0 where
  pub step : ℕ
  pub to : slice_get targets step ≡ Some n
  pub source : ℕ
  pub from : slice_get sources step ≡ Some source
  pub why : IsUndone nodes source ⊎ Pending step source

-- How many nodes aren't done.
abbrev pub undone_of : Bool → ℕ
undone_of true = 0
undone_of false = 1

abbrev pub undone : List Node → ℕ
undone [] = 0
undone (node ∷ nodes) = undone_of node.done + undone nodes

-- Node n was visited.
pub record IsVisited (sources targets : List ℕ) (nodes new_nodes : List Node) (order new_order : List ℕ) (n : ℕ)
    : Type 0 where
  pub going : IsGoing sources targets new_nodes new_order
  pub long : length new_nodes ≡ length nodes
  pub longer : length order ≤ length new_order
  pub kept : (k a : ℕ) → slice_get order k ≡ Some a → slice_get new_order k ≡ Some a
  pub was : (a : ℕ) → IsUndone new_nodes a → IsUndone nodes a
  pub fate : (a : ℕ) → IsUndone nodes a → IsUndone new_nodes a ⊎ (slice_get new_order (length order) ≡ Some a)
  pub waits : IsUndone new_nodes n → Waits sources targets new_nodes (λ k a. ⊥) n
  pub work : undone new_nodes + length new_order ≡ undone nodes + length order

-- The depths: each step leads to a greater one, and each that isn't 0 is reached from the one just below.
pub record AreDepths (limit : ℕ) (sources targets : List ℕ) (nodes : List Node) : Type 0 where
  pub long : length nodes ≡ limit
  pub rises : (k a b : ℕ) (x y : Node) → slice_get sources k ≡ Some a → slice_get targets k ≡ Some b
      → slice_get nodes a ≡ Some x → slice_get nodes b ≡ Some y → x.depth < y.depth
  pub reached : (n : ℕ) (node : Node) → slice_get nodes n ≡ Some node → 0 < node.depth
      → IsReached sources targets nodes n node.depth

-- Some nodes wait for one another: there is one of them, and to each of them a step leads from one of them.
pub record IsStuck (limit : ℕ) (sources targets : List ℕ) : Type 0 where
  pub nodes : List Node
  pub long : length nodes ≡ limit
  pub some : ℕ
  pub one : IsUndone nodes some
  pub each : (n : ℕ) → IsUndone nodes n → Waits sources targets nodes (λ k a. ⊥) n

-- The open step comes from a node that isn't done.
pub record IsHeldUp (sources : List ℕ) (nodes : List Node) (unpassed : Option ℕ) : Type 0 where
  pub step : ℕ
  pub is : unpassed ≡ Some step
  pub source : ℕ
  pub from : slice_get sources step ≡ Some source
  pub undone : IsUndone nodes source

-- Nodes that have passed no step.
abbrev pub AreStarted : List (Option ℕ) → List Node → Type 0
AreStarted last nodes = nodes ≡ map (λ unpassed. record { depth = 0; unpassed = unpassed; done = false }) last

-- How many places there are up to the last one of these.
abbrev pub places_left : Option ℕ → ℕ
places_left None = 0
places_left (Some k) = k + 1
