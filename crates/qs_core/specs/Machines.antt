-- What a machine of the program keeps. (This project.)
use Rattle.std.specs.Prelude.{ℕ, Bool, ◌+◌, ◌*◌, ◌^◌, ◌<◌, ◌≡◌, List, length, take, Option}
use Rattle.qs_tree.specs.Lists.{◌∈◌}
use Rattle.qs_pattern.specs.Limits.{most_patterns}
use Rattle.qs_pattern.specs.Rules.{Rule, IsAccepted, all_unique}
use Rattle.qs_graph.specs.Graphs.{QGraph, IsValid, IsEntry, IsExit}
use Rattle.qs_core.specs.declared.step.Step.{Step}
use Rattle.qs_core.specs.declared.step.Stop.{Stop}
use Rattle.qs_core.specs.declared.step.Status.{Status}
use Rattle.qs_core.specs.Core.{Fired}
use Rattle.qs_core.specs.Runs.{Machine, IsReplayed}

-- The status of each arc, and the number of seats.
pub record StatusTable : Type 0 where
  pub list : List Status
  pub seats : ℕ

-- The machine with these rules and this limit, that has grown to this graph from one of so many nodes, of which it has
-- the first `arcs` arcs.
abbrev pub machine_from :
    List Rule → ℕ → ℕ → ℕ → QGraph → StatusTable → List Fired → List Step → Option Stop → Machine
machine_from R nodes arcs limit graph table done journal stop = record {
  base = record {
    rules = R;
    start = record { nodes = nodes; arcs = take arcs graph.arcs };
    limit = limit;
    seats = table.seats;
  };
  journal = journal;
  state = record { graph = graph; done = done; status = table.list; stop = stop };
}

-- Its history leads from the opening to its state. Its rules are accepted, and `unique` tells whether all of them are
-- unique. Its start is a valid graph of so many arcs, with this entry and this exit; and the numbers of all arcs and
-- nodes that it may come to have fit the program's.
pub record IsSound (M : Machine) (entry exit arcs : ℕ) (unique : Bool) : Type 0 where
  pub replayed : IsReplayed M
  pub accepted : (rule : Rule) → rule ∈ M.base.rules → IsAccepted rule
  pub unique_is : unique ≡ all_unique M.base.rules
  pub valid : IsValid M.base.start
  pub entry_is : IsEntry M.base.start entry
  pub exit_is : IsExit M.base.start exit
  pub arcs_is : length M.base.start.arcs ≡ arcs
  pub arcs_fit : arcs + most_patterns * M.base.limit < 2 ^ 32
  pub nodes_fit : M.base.start.nodes + most_patterns * M.base.limit < 2 ^ 32
