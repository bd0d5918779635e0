-- What a seat knows of its claim and of its work stays so, whatever others do.
use Rattle.std.proofs.Common.{◌≡◌, ℕ, ◌+◌, ◌<◌, List, [], ◌++◌, length, map, sym, ◌∙◌, ap, subst, append-nil, slice_get, Some}
use Rattle.std.proofs.lemmas.List.{length-map}
use Rattle.qs_graph.specs.Graphs.{Arc}
use Rattle.qs_graph.specs.Chains.{chain}
use Rattle.qs_firing.specs.Adding.{start_of, end_of, added}
use Rattle.qs_firing.specs.Work.{WorkWithTrees, IsRightFor}
use Rattle.qs_firing.proofs.Works.{work_older}
use Rattle.qs_core.specs.declared.step.Step.{Step}
use Rattle.qs_core.specs.declared.step.Step.TheVariants as step
use Rattle.qs_core.specs.declared.step.Status.TheVariants as status
use Rattle.qs_core.specs.Core.{Base, CoreState, HasClaim, IsExhausted, IsFree}
use Rattle.qs_core.specs.Runs.{Makes}
use Rattle.qs_core.specs.Answers.{HasAnyClaim}
use Rattle.qs_core.specs.Keeps.{Keeps}

pub free_none : (B : Base) (S : CoreState) (i : ℕ) → (HasAnyClaim S i → ⊥) → IsFree B S i
free_none B S i none m k c = absurd (none (m, k, c))

one_status : (S : CoreState) (i m n k l : ℕ) → m ≡ n → HasClaim S i m k → HasClaim S i n l → k ≡ l
one_status S i m n k l e c d = let x : Some (status.Claimed i k) ≡ Some (status.Claimed i l) = sym c ∙ ap (slice_get S.status) e ∙ d in cc

pub free_worked : (B : Base) (S : CoreState) → Keeps B S → (i k : ℕ) (work : WorkWithTrees) → HasClaim S i work.arc k → IsRightFor B.rules S.graph.arcs work → k ≡ length work.made → IsFree B S i
free_worked B S K i k work c right all m l d =
    let same : work.arc ≡ m = K.one_claim work.arc m i k l c d in
    let number : k ≡ l = one_status S i work.arc m k l same c d in
    subst (λ (n : ℕ). IsExhausted B S n l) same (record {
      work = map (λ made. made.firing) work.made;
      is = right.work;
      all = sym number ∙ all ∙ sym (length-map work.made (λ made. made.firing));
    })

pub arcs_more : (B : Base) (S : CoreState) (v : Step) (T : CoreState) → Makes B S v T → (more : List Arc) × (T.graph.arcs ≡ S.graph.arcs ++ more)
arcs_more B S (step.Claim i m) T (may, is) = ([], ap (λ (X : CoreState). X.graph.arcs) is ∙ sym (append-nil S.graph.arcs))
arcs_more B S (step.Rest i) T (may, is) = ([], ap (λ (X : CoreState). X.graph.arcs) is ∙ sym (append-nil S.graph.arcs))
arcs_more B S (step.Publish i) T (may, is) = (
  chain (start_of S.graph.arcs may.next.firing.path) (added B.rules S.graph may.next.firing) (S.graph.nodes + 1) (end_of S.graph.arcs may.next.firing.path),
  ap (λ (X : CoreState). X.graph.arcs) is,
)

pub right_stays : (B : Base) (S : CoreState) (v : Step) (T : CoreState) → Makes B S v T → (work : WorkWithTrees) → work.arc < length S.graph.arcs → IsRightFor B.rules S.graph.arcs work → IsRightFor B.rules T.graph.arcs work
right_stays B S v T made work low right =
    let (more, is) = arcs_more B S v T made in
    subst (λ (arcs : List Arc). IsRightFor B.rules arcs work) (sym is)
    (record { work = (work_older B.rules S.graph.arcs more work.arc (map (λ made. made.firing) work.made) low).0 right.work; trees = right.trees })
