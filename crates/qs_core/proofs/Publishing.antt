-- A publication: what its conditions show, and what it makes of the machine.
use Rattle.std.proofs.Common.{◌≡◌, ℕ, zero, suc, ◌+◌, ◌*◌, ◌^◌, ◌<◌, ◌≤◌, Bool, List, [], ◌∷◌, ◌++◌, length, map, set, take, replicate, refl, sym, ◌∙◌, ap, subst, arith, Option, Some, None, slice_get, get_or}
use Rattle.std.proofs.lemmas.List.{length-map, length-take, take-append-le}
use Rattle.qs_tree.proofs.Elements.{at_mapped}
use Rattle.qs_tree.specs.Lists.{◌∈◌}
use Rattle.qs_tree.proofs.Members.{in_at, in_map, at_place}
use Rattle.qs_pattern.specs.Rules.{Rule, IsAccepted, all_unique}
use Rattle.qs_graph.specs.Graphs.{Arc, QGraph, IsPath}
use Rattle.qs_graph.specs.Chains.{chain}
use Rattle.qs_firing.specs.Firings.{Firing, Fires}
use Rattle.qs_firing.specs.Adding.{adds, added, built, start_of, end_of}
use Rattle.qs_firing.specs.Work.{IsWorkOf, WithTrees, WorkWithTrees, IsRightFor}
use Rattle.qs_firing.proofs.Building.{built_some, built_few}
use Rattle.qs_firing.proofs.Merging.{length-added}
use Rattle.qs_firing.proofs.Within.{length-adds}
use Rattle.qs_firing.proofs.Works.{fires_of_work, work_low}
use Rattle.qs_core.specs.declared.step.Step.{Step}
use Rattle.qs_core.specs.declared.step.Step.TheVariants as step
use Rattle.qs_core.specs.declared.step.Stop.{Stop}
use Rattle.qs_core.specs.declared.step.Status.{Status}
use Rattle.qs_core.specs.declared.step.Status.TheVariants as status
use Rattle.qs_core.specs.Growth.{Grown}
use Rattle.qs_core.specs.Core.{Fired, fired, fired_at, all_wait, HasClaim, Next, after_publish}
use Rattle.qs_core.specs.Runs.{Machine, with_step, MayPublish}
use Rattle.qs_core.specs.Keeps.{Keeps}
use Rattle.qs_core.specs.Machines.{StatusTable, machine_from, IsSound}
use Rattle.qs_core.specs.working.Additions.{IsAddition}
use Rattle.qs_core.proofs.Runs.{keeps}
use Rattle.qs_core.proofs.Machines.{sound_step}
use Rattle.qs_core.proofs.Counting.{first_few}

-- a graph that grows by accepted rules gets at most 16 arcs and nodes by each firing
adds_few : (R : List Rule) → ((rule : Rule) → rule ∈ R → IsAccepted rule) → (G : QGraph) (f : Firing) → (length (adds R G f).arcs ≤ length G.arcs + 16) × ((adds R G f).nodes ≤ G.nodes + 16)
adds_few R accepted G f =
    let few = built_few R accepted f in
    let fewer = length-added R G f in
    (omega (arith, few, fewer, length-adds R G f), omega (arith, few, fewer))

grown_few : (R : List Rule) → ((rule : Rule) → rule ∈ R → IsAccepted rule) → (G : QGraph) (fs : List Firing) (H : QGraph) → Grown R G fs H
    → (length H.arcs ≤ length G.arcs + 16 * length fs) × (H.nodes ≤ G.nodes + 16 * length fs)
grown_few R accepted G [] H e = (omega (arith, ap (λ (X : QGraph). length X.arcs) e), omega (arith, ap (λ (X : QGraph). X.nodes) e))
grown_few R accepted G (f ∷ fs) H (r, g) =
    let (a, n) = adds_few R accepted G f in
    let (b, m) = grown_few R accepted (adds R G f) fs H g in
    (omega (arith, a, b), omega (arith, n, m))

set_more : {X : Type 0} (xs ys : List X) (m : ℕ) (y : X) → m < length xs → set (xs ++ ys) m y ≡ set xs m y ++ ys
set_more [] ys m y h = absurd (omega arith)
set_more (x ∷ xs) ys zero y h = refl
set_more (x ∷ xs) ys (suc m) y h = ap (λ zs. x ∷ zs) (set_more xs ys m y (omega arith))

wait_each : {X : Type 0} (xs : List X) → replicate (length xs) status.Waiting ≡ all_wait xs
wait_each [] = refl
wait_each (x ∷ xs) = ap (λ zs. status.Waiting ∷ zs) (wait_each xs)

take_less : (n : ℕ) (xs ys : List Arc) → length (take n xs) ≡ n → take n (xs ++ ys) ≡ take n xs
take_less n xs ys e = take-append-le n xs ys (omega (arith, e, length-take n xs))

module _ {M : Machine} {entry exit arcs : ℕ} {unique : Bool} (sound : IsSound M entry exit arcs unique) where
  kept : Keeps M.base M.state
  kept = keeps M.base M.journal M.state.stop M.state sound.replayed

  pub status_each : length M.state.status ≡ length M.state.graph.arcs
  status_each = kept.status_each

  pub done_few : length M.state.done ≤ M.base.limit
  done_few = kept.few

  pub claim_seated : (i m k : ℕ) → HasClaim M.state i m k → i < M.base.seats
  claim_seated i m k c = kept.seated m i k c

  -- there is room for the numbers of a firing more
  pub room : length M.state.done < M.base.limit → (length M.state.graph.arcs + 16 < 2 ^ 32) × (M.state.graph.nodes + 16 < 2 ^ 32)
  room less =
      let (a, n) = grown_few M.base.rules sound.accepted M.base.start (fired M.state) M.state.graph kept.grown in
      let many = length-map M.state.done (λ (d : Fired). d.firing) in
      (omega (arith, a, many, less, sound.arcs_is, sound.arcs_fit), omega (arith, n, many, less, sound.nodes_fit))

  module _ (going : M.state.stop ≡ None) (i : ℕ) (work : WorkWithTrees) (k : ℕ) (claim : HasClaim M.state i work.arc k) (right : IsRightFor M.base.rules M.state.graph.arcs work)
      (made : WithTrees) (at : slice_get work.made k ≡ Some made) where
    pub next : Next M.base M.state i
    next = record {
      arc = work.arc;
      k = k;
      claim = claim;
      work = map (λ m. m.firing) work.made;
      is = right.work;
      firing = made.firing;
      at = at_mapped (λ (m : WithTrees). m.firing) work.made k made at;
    }

    mine : IsWorkOf M.base.rules M.state.graph.arcs work.arc made.firing
    mine = right.work.sound made.firing (in_map (λ (m : WithTrees). m.firing) work.made made (in_at work.made k made at))

    pub fires : Fires M.base.rules M.state.graph.arcs made.firing
    fires = fires_of_work M.base.rules mine

    pub trees : made.trees ≡ built M.base.rules made.firing
    trees = right.trees made (in_at work.made k made at)

    pub some : 0 < length made.trees
    some = omega (arith, ap length trees, built_some M.base.rules sound.accepted M.state.graph.arcs made.firing fires)

    pub few : length made.trees ≤ 16
    few = omega (arith, ap length trees, built_few M.base.rules sound.accepted made.firing)

    -- its number fits
    pub number_few : k ≤ M.base.limit
    number_few =
        let n = first_few (fired M.state) (map (λ m. m.firing) work.made) k right.work.ascends (kept.of_claimed work.arc i k claim (map (λ m. m.firing) work.made) right.work) in
        omega (arith, n, done_few, length-map M.state.done (λ (d : Fired). d.firing))

    module _ (less : length M.state.done < M.base.limit) where
      pub may : MayPublish M.base M.state i
      may = record { going = going; seat = claim_seated i work.arc k claim; next = next; few = less }

      module _ (first : ℕ) (met : Bool) (nodes : ℕ) (edges : List Arc) (add : IsAddition M.base.rules M.state.graph made.firing first met nodes edges) where
        pub adds_small : (length edges ≤ 16) × (M.state.graph.nodes + nodes ≤ M.state.graph.nodes + 16)
        adds_small =
            let (a, n) = adds_few M.base.rules sound.accepted M.state.graph made.firing in
            (omega (arith, add.many, length-added M.base.rules M.state.graph made.firing, built_few M.base.rules sound.accepted made.firing), omega (arith, n, ap (λ (g : QGraph). g.nodes) add.graph_is))

        -- the statuses behind it
        pub list_is : (list : List Status) → list ≡ set (M.state.status ++ replicate (length edges) status.Waiting) work.arc (status.Claimed i (k + 1))
            → list ≡ set M.state.status work.arc (status.Claimed i (k + 1)) ++ all_wait (added M.base.rules M.state.graph made.firing)
        list_is list e =
            e ∙ set_more M.state.status (replicate (length edges) status.Waiting) work.arc (status.Claimed i (k + 1)) (omega (arith, status_each, work_low M.base.rules mine))
            ∙ ap (λ n. set M.state.status work.arc (status.Claimed i (k + 1)) ++ replicate n status.Waiting) add.many
            ∙ ap (λ xs. set M.state.status work.arc (status.Claimed i (k + 1)) ++ xs) (wait_each (added M.base.rules M.state.graph made.firing))

        pub fired_is : record { firing = made.firing; first = first; met = met } ≡ fired_at M.base.rules M.state.graph made.firing
        fired_is = λ j. record { firing = made.firing; first = add.first_is j; met = add.met_is j }

        pub publishes : IsSound (with_step M (step.Publish i) (after_publish M.base.rules M.state i work.arc k made.firing)) entry exit arcs unique
        unfolding may next
        publishes = sound_step sound going (step.Publish i) (after_publish M.base.rules M.state i work.arc k made.firing) (may, refl)

-- the machine behind a publication, from its parts
pub published : (R : List Rule) (nodes arcs limit : ℕ) (graph : QGraph) (table : StatusTable) (done : List Fired) (journal : List Step) (stop : Option Stop)
    (f : Firing) (i m k : ℕ) (graph' : QGraph) (table' : StatusTable) (done' : List Fired) (journal' : List Step)
    → length (take arcs graph.arcs) ≡ arcs → graph' ≡ adds R graph f → table' ≡ record { list = set table.list m (status.Claimed i (k + 1)) ++ all_wait (added R graph f); seats = table.seats }
    → done' ≡ done ++ fired_at R graph f ∷ [] → journal' ≡ journal ++ step.Publish i ∷ []
    → machine_from R nodes arcs limit graph' table' done' journal' stop
    ≡ with_step (machine_from R nodes arcs limit graph table done journal stop) (step.Publish i) (after_publish R (machine_from R nodes arcs limit graph table done journal stop).state i m k f)
published R nodes arcs limit graph table done journal stop f i m k graph' table' done' journal' long g t d j =
    (λ x. machine_from R nodes arcs limit (g x) (t x) (d x) (j x) stop)
    ∙ (λ x. record {
      base = record {
        rules = R;
        start = record { nodes = nodes; arcs = take_less arcs graph.arcs (chain (start_of graph.arcs f.path) (added R graph f) (graph.nodes + 1) (end_of graph.arcs f.path)) long x };
        limit = limit;
        seats = table.seats;
      };
      journal = journal ++ step.Publish i ∷ [];
      state = after_publish R (machine_from R nodes arcs limit graph table done journal stop).state i m k f;
    })

-- what is asked of a publication, of the machine as it is kept
pub record IsAsked (M : Machine) (entry exit arcs : ℕ) (unique : Bool) (i k : ℕ) (work : WorkWithTrees) (made : WithTrees) : Type 0 where
  pub sound : IsSound M entry exit arcs unique
  pub going : M.state.stop ≡ None
  pub less : length M.state.done < M.base.limit
  pub claim : HasClaim M.state i work.arc k
  pub right : IsRightFor M.base.rules M.state.graph.arcs work
  pub at : slice_get work.made k ≡ Some made

pub asked : (M now : Machine) (entry exit arcs : ℕ) (unique : Bool) (i k : ℕ) (work : WorkWithTrees) (list : List WithTrees) (made : WithTrees) → M ≡ now → IsSound M entry exit arcs unique
    → now.state.stop ≡ None → length now.state.done < now.base.limit → HasClaim now.state i work.arc k → k < length work.made → IsRightFor now.base.rules now.state.graph.arcs work
    → list ≡ work.made → made ≡ get_or list k made → IsAsked M entry exit arcs unique i k work made
asked M now entry exit arcs unique i k work list made same sound going less claim more right e at = record {
  sound = sound;
  going = ap (λ (m : Machine). m.state.stop) same ∙ going;
  less = subst (λ (m : Machine). length m.state.done < m.base.limit) (sym same) less;
  claim = subst (λ (m : Machine). HasClaim m.state i work.arc k) (sym same) claim;
  right = subst (λ (m : Machine). IsRightFor m.base.rules m.state.graph.arcs work) (sym same) right;
  at = ap (λ xs. slice_get xs k) (sym e) ∙ at_place list k made (omega (arith, more, ap length e)) at;
}

module _ {M : Machine} {entry exit arcs : ℕ} {unique : Bool} {i k : ℕ} {work : WorkWithTrees} {made : WithTrees} (a : IsAsked M entry exit arcs unique i k work made) where
  pub its_path : (x : ℕ) × (y : ℕ) × IsPath M.state.graph.arcs x made.firing.path y
  its_path = let f = fires a.sound a.going i work k a.claim a.right made a.at in (f.from, f.to, f.path)

  pub its_trees : 0 < length made.trees
  its_trees = some a.sound a.going i work k a.claim a.right made a.at

  pub its_nodes : M.state.graph.nodes + length made.trees < 2 ^ 32
  its_nodes = omega (arith, few a.sound a.going i work k a.claim a.right made a.at, (room a.sound a.less).1)

  pub its_number : k + 1 < 2 ^ 32
  its_number = omega (arith, number_few a.sound a.going i work k a.claim a.right made a.at, a.sound.arcs_fit)

  pub each_status : length M.state.status ≡ length M.state.graph.arcs
  each_status = status_each a.sound

  -- what the addition tells
  pub addition : (first : ℕ) (met : Bool) (nodes : ℕ) (edges : List Arc)
      → ((R : List Rule) → unique ≡ all_unique R → made.trees ≡ built R made.firing → IsAddition R M.state.graph made.firing first met nodes edges)
      → IsAddition M.base.rules M.state.graph made.firing first met nodes edges
  addition first met nodes edges told = told M.base.rules a.sound.unique_is (trees a.sound a.going i work k a.claim a.right made a.at)

  module _ (first : ℕ) (met : Bool) (nodes : ℕ) (edges : List Arc) (add : IsAddition M.base.rules M.state.graph made.firing first met nodes edges) where
    pub nodes_fit : M.state.graph.nodes + nodes < 2 ^ 32
    nodes_fit = omega (arith, (adds_small a.sound a.going i work k a.claim a.right made a.at a.less first met nodes edges add).1, (room a.sound a.less).1)

    pub arcs_fit : length M.state.graph.arcs + length edges < 2 ^ 32
    arcs_fit = omega (arith, (adds_small a.sound a.going i work k a.claim a.right made a.at a.less first met nodes edges add).0, (room a.sound a.less).0)

    -- the statuses behind it
    pub its_list : set (M.state.status ++ replicate (length edges) status.Waiting) work.arc (status.Claimed i (k + 1)) ≡ set M.state.status work.arc (status.Claimed i (k + 1)) ++ all_wait (added M.base.rules M.state.graph made.firing)
    its_list = list_is a.sound a.going i work k a.claim a.right made a.at a.less first met nodes edges add (set (M.state.status ++ replicate (length edges) status.Waiting) work.arc (status.Claimed i (k + 1))) refl

    pub its_fired : record { firing = made.firing; first = first; met = met } ≡ fired_at M.base.rules M.state.graph made.firing
    its_fired = fired_is a.sound a.going i work k a.claim a.right made a.at a.less first met nodes edges add

    pub still_sound : IsSound (with_step M (step.Publish i) (after_publish M.base.rules M.state i work.arc k made.firing)) entry exit arcs unique
    still_sound = publishes a.sound a.going i work k a.claim a.right made a.at a.less first met nodes edges add
