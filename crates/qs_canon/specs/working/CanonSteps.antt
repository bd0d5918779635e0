-- What stands between the rounds and in the midst of one, and when the last one is done.
use Rattle.std.specs.Prelude.{ℕ, suc, ◌+◌, ◌^◌, ◌<◌, ◌≤◌, ◌≡◌, ◌⊎◌, List, [], map, length, slice_index, take, Option}
use Rattle.std.proofs.Common.{Global}
use Rattle.std.specs.declared.vec.Vec.{Vec}
use Rattle.qs_tree.specs.Lists.{◌∈◌}
use Rattle.qs_pattern.specs.Rules.{Rule, IsAccepted}
use Rattle.qs_graph.specs.Graphs.{Arc, QGraph}
use Rattle.qs_firing.specs.Firings.{Firing}
use Rattle.qs_core.specs.Growth.{DoneAt}
use Rattle.qs_core.specs.Core.{Fired, fired, fired_at}
use Rattle.qs_core.specs.Runs.{Machine}
use Rattle.qs_canon.specs.declared.numbers.Next.{Next}
use Rattle.qs_canon.specs.declared.numbers.Numbers.{Numbers}
use Rattle.qs_canon.specs.Rounds.{Stage, Done, firings, after, Round, Rounds}
use Rattle.qs_canon.specs.working.CanonTables.{IsRecorded, IsTable, IsNodeTable, AreNumbered}
use Rattle.qs_canon.specs.working.CanonTables.{in_numbers, IsUnderWay}
use Rattle.qs_graph.specs.working.Orders.{times}
use Rattle.qs_canon.specs.working.CanonCounts.{paths_of, path_at, AreUsers, uses}
use Rattle.qs_canon.specs.working.CanonNumbers.{table_of}
use Rattle.qs_canon.specs.working.CanonChains.{IsTraced}

-- The graph with so many nodes and these arcs, and the firings that are done.
abbrev pub stage_of : ℕ → List Arc → List Done → Stage
stage_of nodes arcs done = record { graph = record { nodes = nodes; arcs = arcs }; done = done }

-- S is reached in n rounds from the start of a machine that has recorded all firings. One table has the number in S
-- of each arc of the machine, and one that of each node, with a place for 0.
pub record IsBetween (M : Machine) (arcs nodes : List (Option ℕ)) (n : ℕ) (S : Stage) : Type 0 where
  pub recorded : IsRecorded M.base.rules M.base.start (fired M.state) M.state.graph
  pub reached : Rounds M.base.rules M.base.start n S
  pub arcs_each : length arcs ≡ length M.state.graph.arcs
  pub nodes_each : length nodes ≡ M.state.graph.nodes + 1
  pub table :
      IsTable M.base.rules M.base.start (fired M.state) M.state.graph (firings S) S.graph (table_of arcs)
  pub node_table :
      IsNodeTable M.base.rules M.base.start (fired M.state) M.state.graph (firings S) S.graph (table_of nodes)

-- So it is in some number of rounds, and the next one is empty.
pub record IsFinal (M : Machine) (arcs nodes : List (Option ℕ)) (S : Stage) : Type 0 where
  pub rounds : ℕ
  pub between : IsBetween M arcs nodes rounds S
  pub closed : Round M.base.rules S.graph (firings S) []

-- What a machine has whose run ended closed: it has recorded all firings over its graph, each with its result over the
-- graph to which it was added; and its numbers fit the program's.
pub record IsFinished (M : Machine) : Type 0 where
  pub recorded : IsRecorded M.base.rules M.base.start (fired M.state) M.state.graph
  pub accepted : (rule : Rule) → rule ∈ M.base.rules → IsAccepted rule
  pub results : (d : Fired) → d ∈ M.state.done
      → (P : QGraph) × DoneAt M.base.rules M.base.start (fired M.state) d.firing P
      × (d ≡ fired_at M.base.rules P d.firing)
  pub few : length M.state.done + 1 < 2 ^ 32
  pub arcs_fit : length M.state.graph.arcs < 2 ^ 32
  pub nodes_fit : M.state.graph.nodes < 2 ^ 32

-- The closure so far.
abbrev pub stage_now : Numbers → Stage
stage_now now = stage_of now.last_node now.edges.items now.placed.items

-- In the midst of round n + 1, of whose firings those of E are done and those of F are left, the closure so far has the
-- numbers so far.
pub record IsAtWork (M : Machine) (now : Numbers) (n : ℕ) (S : Stage) (E F : List Firing) : Type 0 where
  pub finished : IsFinished M
  pub under :
      IsUnderWay M.base.rules M.base.start (fired M.state) M.state.graph n S E F (table_of now.arcs.items)
      (table_of now.nodes.items)
  pub stage : stage_now now ≡ after M.base.rules (suc n) S E
  pub arcs_each : length now.arcs.items ≡ length M.state.graph.arcs
  pub nodes_each : length now.nodes.items ≡ M.state.graph.nodes + 1
  pub traced : IsTraced now

-- The firing g is one that the machine has done, in these numbers.
abbrev pub IsOneOf : Machine → List (Option ℕ) → Fired → Firing → Type 0
IsOneOf M arcs d g =
    (d ∈ M.state.done)
    × ((ls : List ℕ) × AreNumbered (table_of arcs) d.firing.path ls × (g ≡ in_numbers d.firing ls))

-- The firings of a list, in numbers.
abbrev pub firings_in : List Next → List Firing
firings_in nexts = map (λ next. next.firing) nexts

-- The first arcs of S, so many, are those that stood one round before; in no round none stood.
abbrev pub StoodBefore : Machine → ℕ → Stage → ℕ → Type 0
StoodBefore M n S passed =
    ((n ≡ 0) × (passed ≡ 0))
    ⊎ ((m : ℕ) × (B : Stage) × (F : List Firing) × (n ≡ suc m) × Rounds M.base.rules M.base.start m B
    × Round M.base.rules B.graph (firings B) F × (S ≡ after M.base.rules (suc m) B F)
    × (passed ≡ length B.graph.arcs))

-- Between the rounds n and n + 1. The arcs that stood one round before have passed: of the path of each recorded firing
-- so many arcs are missing as haven't.
pub record IsRounding (M : Machine) (users : List (Vec ℕ Global)) (now : Numbers) (missing : List ℕ) (passed n : ℕ)
    : Type 0 where
  pub finished : IsFinished M
  pub users_are : AreUsers (paths_of M.state.done) users
  pub between : IsBetween M now.arcs.items now.nodes.items n (stage_now now)
  pub traced : IsTraced now
  pub before : StoodBefore M n (stage_now now) passed
  pub passed_few : passed ≤ length now.origins.items
  pub counts : (i : ℕ) → slice_index missing i + times i (uses users (take passed now.origins.items))
      ≡ length (path_at (paths_of M.state.done) i)
  pub rounds : n ≤ length now.placed.items
