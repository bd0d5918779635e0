-- The core: the state in which seats, one step after another, claim arcs and do the firings that are their work. It is
-- the machine that one worker or many run. (This project.)
use Rattle.std.specs.Prelude.{ℕ, Bool, ◌+◌, ◌==◌, ◌≡◌, ◌≢◌, ◌⊎◌, if◌then◌else◌, List, [], ◌∷◌, ◌++◌, length, map}
use Rattle.std.specs.Prelude.{slice_get, set, Option, Some, None}
use Rattle.qs_pattern.specs.Rules.{Rule}
use Rattle.qs_graph.specs.Graphs.{QGraph}
use Rattle.qs_firing.specs.Firings.{Firing}
use Rattle.qs_firing.specs.Adding.{adds, added, first_arc, meets}
use Rattle.qs_firing.specs.Work.{Work}
use Rattle.qs_core.specs.declared.step.Stop.{Stop}
use Rattle.qs_core.specs.declared.step.Status.{Status}
use Rattle.qs_core.specs.declared.step.Status.TheVariants as status

-- What no step changes: the rules, the graph from which they start, how many firings may be done, and how many seats
-- there are, which are numbered from 0.
pub record Base : Type 0 where
  pub rules : List Rule
  pub start : QGraph
  pub limit : ℕ
  pub seats : ℕ

-- A firing that is done, with the number of the first arc of its result, and whether it met that arc.
pub record Fired : Type 0 where
  pub firing : Firing
  pub first : ℕ
  pub met : Bool

-- The graph, with its arcs in the order in which they were published; the firings in the order in which they were done;
-- the status of each arc; and the stop, where there is one.
pub record CoreState : Type 0 where
  pub graph : QGraph
  pub done : List Fired
  pub status : List Status
  pub stop : Option Stop

-- The firings that are done.
abbrev pub fired : CoreState → List Firing
fired S = map (λ d. d.firing) S.done

-- An arc waits until a seat claims it. It is claimed by a seat with the number of firings of its work that are done.
-- In the end it is done. Arcs that are added wait.
abbrev pub all_wait : {X : Type 0} → List X → List Status
all_wait xs = map (λ x. status.Waiting) xs

-- At the opening every arc waits, and nothing is done.
abbrev pub opening : Base → CoreState
opening B = record { graph = B.start; done = []; status = all_wait B.start.arcs; stop = None }

-- The state is closed where no stop stands and every arc is done. It has ended where it is closed or a stop stands.
pub record IsClosed (S : CoreState) : Type 0 where
  pub going : S.stop ≡ None
  pub all : (m : ℕ) (s : Status) → slice_get S.status m ≡ Some s → s ≡ status.Done

abbrev pub HasEnded : CoreState → Type 0
HasEnded S = IsClosed S ⊎ (S.stop ≢ None)

-- Seat i has claimed the arc m, with k firings of its work done.
abbrev pub HasClaim : CoreState → ℕ → ℕ → ℕ → Type 0
HasClaim S i m k = slice_get S.status m ≡ Some (status.Claimed i k)

-- A claim of the arc m with k firings done is exhausted where these are all of its work.
pub record IsExhausted (B : Base) (S : CoreState) (m k : ℕ) : Type 0 where
  pub work : List Firing
  pub is : Work B.rules S.graph.arcs m work
  pub all : k ≡ length work

-- Seat i is free: it has no claim, or one that is exhausted.
abbrev pub IsFree : Base → CoreState → ℕ → Type 0
IsFree B S i = (m k : ℕ) → HasClaim S i m k → IsExhausted B S m k

-- No arc waits.
abbrev pub NoneWaits : CoreState → Type 0
NoneWaits S = (m : ℕ) → slice_get S.status m ≢ Some status.Waiting

-- Seat i has a claim that isn't exhausted, of the arc m with k firings of its work done, and this firing is the next.
pub record Next (B : Base) (S : CoreState) (i : ℕ) : Type 0 where
  pub arc : ℕ
  pub k : ℕ
  pub claim : HasClaim S i arc k
  pub work : List Firing
  pub is : Work B.rules S.graph.arcs arc work
  pub firing : Firing
  pub at : slice_get work k ≡ Some firing

-- What seat i has claimed is done.
abbrev pub rest_one : ℕ → Status → Status
rest_one i status.Waiting = status.Waiting
rest_one i (status.Claimed j k) = if j == i then status.Done else status.Claimed j k
rest_one i status.Done = status.Done

abbrev pub after_rest : CoreState → ℕ → CoreState
after_rest S i = record { graph = S.graph; done = S.done; status = map (rest_one i) S.status; stop = S.stop }

-- What seat i had claimed is done, and it claims the arc m, of whose work nothing is done yet.
abbrev pub after_claim : CoreState → ℕ → ℕ → CoreState
after_claim S i m = record {
  graph = S.graph;
  done = S.done;
  status = set (map (rest_one i) S.status) m (status.Claimed i 0);
  stop = S.stop;
}

-- A firing with its result over these rules and this graph.
abbrev pub fired_at : List Rule → QGraph → Firing → Fired
fired_at R G f = record { firing = f; first = first_arc R G f; met = meets R G f }

-- The firing f is done, the k-th, from 0, of the work of the arc m, which seat i has claimed. What it adds is added,
-- and the arcs that are added wait.
abbrev pub after_publish : List Rule → CoreState → ℕ → ℕ → ℕ → Firing → CoreState
after_publish R S i m k f = record {
  graph = adds R S.graph f;
  done = S.done ++ fired_at R S.graph f ∷ [];
  status = set S.status m (status.Claimed i (k + 1)) ++ all_wait (added R S.graph f);
  stop = S.stop;
}

abbrev pub after_stop : CoreState → Stop → CoreState
after_stop S s = record { graph = S.graph; done = S.done; status = S.status; stop = Some s }
