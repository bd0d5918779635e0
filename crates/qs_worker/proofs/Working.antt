-- What the passes of workers see of the machine, and the end of its run.
use Rattle.std.proofs.Common.{◌≡◌, ℕ, ◌+◌, ◌^◌, ◌<◌, List, [], ◌∷◌, ◌++◌, length, map, take, drop, refl, sym, ◌∙◌, ap, subst, All, arith, Some, slice_get, append-nil}
use Rattle.std.proofs.lemmas.Grind.{common_steps}
use Rattle.std.proofs.lemmas.List.{length-map}
use Rattle.qs_graph.specs.Graphs.{Arc}
use Rattle.qs_firing.specs.Firings.{Firing}
use Rattle.qs_firing.specs.Work.{WorkWithTrees, IsRightFor}
use Rattle.qs_core.specs.declared.answers.Put.{Put}
use Rattle.qs_core.specs.declared.step.Status.TheVariants as status
use Rattle.qs_core.specs.Core.{Base, Fired, fired, opening, HasClaim, IsFree}
use Rattle.qs_core.specs.Answers.{opened}
use Rattle.qs_core.specs.Keeps.{Keeps}
use Rattle.qs_core.proofs.Counting.{first_few}
use Rattle.qs_core.proofs.Places.{all_waiting}
use Rattle.qs_board.specs.declared.entry.Entry.{Entry}
use Rattle.qs_board.specs.History.{HoldsBehind}
use Rattle.qs_board.specs.Calls.{Publishes}
use Rattle.qs_board.proofs.Histories.{holds}
use Rattle.qs_board.proofs.Staying.{kept}

-- where nothing was seen, the machine is as it was opened: each seat is free
pub free_first : (B : Base) (seen : List Entry) (i : ℕ) → seen ≡ [] → HoldsBehind B seen (λ S. IsFree B S i)
free_first B seen i none =
    subst (λ (es : List Entry). HoldsBehind B es (λ S. IsFree B S i)) (sym none) (holds B [] (opened B) (λ S. IsFree B S i)
    (record {
      base = refl;
      replayed = record { going = opening B; steps = refl; stop = refl };
      history_is = refl;
    })
    (λ m k e. let w = all_waiting B.start.arcs m (status.Claimed i k) e in absurd cc))

-- a view of no arc, and one of all arcs, have the first arcs
pub arcs_first : (B : Base) (seen : List Entry) (view : List Arc) → view ≡ [] → HoldsBehind B seen (λ S. (more : List Arc) × (S.graph.arcs ≡ view ++ more))
arcs_first B seen view none = λ M m. (M.state.graph.arcs, ap (λ xs. xs ++ M.state.graph.arcs) (sym none))

pub arcs_all : (B : Base) (seen : List Entry) (view : List Arc) → HoldsBehind B seen (λ S. S.graph.arcs ≡ view) → HoldsBehind B seen (λ S. (more : List Arc) × (S.graph.arcs ≡ view ++ more))
arcs_all B seen view all = λ M m. ([], all M m ∙ sym (append-nil view))

pub right_all : (B : Base) (seen : List Entry) (view : List Arc) (work : WorkWithTrees) → HoldsBehind B seen (λ S. S.graph.arcs ≡ view) → IsRightFor B.rules view work → HoldsBehind B seen (λ S. IsRightFor B.rules S.graph.arcs work)
right_all B seen view work all right = λ M m. subst (λ (arcs : List Arc). IsRightFor B.rules arcs work) (sym (all M m)) right

-- of a work no more firings are done than the limit
pub fits : (B : Base) (i j : ℕ) (seen now : List Entry) (work : WorkWithTrees) (k : ℕ) (put : Put) → B.limit < 2 ^ 32 → Publishes B j seen work k put now
    → HoldsBehind B now (λ S. HasClaim S i work.arc (k + 1)) → HoldsBehind B now (λ S. IsRightFor B.rules S.graph.arcs work) → k + 1 < 2 ^ 32
fits B i j seen now work k put limit publishes claim right =
    let M = publishes.left in
    let K : Keeps B M.state = kept B now M publishes.entered in
    let F : List Firing = map (λ made. made.firing) work.made in
    let its = (right M publishes.entered).work in
    let few = first_few (fired M.state) F (k + 1) its.ascends (K.of_claimed work.arc i (k + 1) (claim M publishes.entered) F its) in
    let long = length-map M.state.done (λ (d : Fired). d.firing) in
    let all = K.few in
    omega (arith, few, long, all, limit)

-- what holds where one of these passes tells it
pub one_tells : {X : Type 0} (P : X → Type 0) (Q : Type 0) (ps : List X) → All P ps → 0 < length ps → ((i : ℕ) (p : X) → slice_get ps i ≡ Some p → P p → Q) → Q
one_tells P Q [] all some tells = absurd (omega arith)
one_tells P Q (p ∷ ps) all some tells = tells 0 p refl (all 0 p (omega arith))

-- what the members of a Vec have, once a slice of the whole of it was written back
pub still_all : {X : Type 0} (P : X → Type 0) (ys xs : List X) (n : ℕ) → n ≡ length ys → All P ys → All P (take n (ys ++ drop (length ys) xs))
still_all P ys xs n is all = subst (λ (zs : List _). All P zs) (sym (front ys (drop (length ys) xs) n is)) all
  where
    front : {X : Type 0} (ys zs : List X) (n : ℕ) → n ≡ length ys → take n (ys ++ zs) ≡ ys
    front ys zs n is = grind (arith, common_steps)
