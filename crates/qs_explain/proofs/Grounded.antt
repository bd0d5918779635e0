-- Where supported arcs were added, and that there is one support.
use Rattle.std.proofs.Common.{◌≡◌, ℕ, suc, ◌+◌, ◌-◌, ◌<◌, ◌≤◌, false, [], ◌++◌, length, drop, Option, None, Some, slice_get, unwrap_or, refl, sym, ◌∙◌, ap, subst, arith}
use Rattle.std.specs.Option.{option_map}
use Rattle.qs_tree.specs.Lists.{◌∈◌}
use Rattle.qs_tree.proofs.Members.{in_at}
use Rattle.qs_firing.proofs.Ascending.{same_ascending}
use Rattle.qs_canon.specs.Rounds.{Done, Stage}
use Rattle.qs_canon.specs.Closures.{ClosureOf}
use Rattle.qs_clean.specs.Cleaning.{IsClosureOfValid, Stays}
use Rattle.qs_clean.proofs.Closures.{path_within}
use Rattle.qs_clean.proofs.Outcomes.{lt-asym}
use Rattle.qs_explain.specs.Support.{IsSupportedArc, IsSupportedFiring, next_first, added_first, it_stays, in_path, beside, added, path_at, added_at, SupportOf, IsSupport, WasAdded}
use Rattle.qs_explain.specs.Texts.{numbers_text, rule_at, firing_comment}
use Rattle.qs_graphtext.specs.Texts.{line}
use Rattle.std.specs.Prelude.{codes, decimal}
use Rattle.qs_firing.specs.Adding.{from_on}
use Rattle.qs_explain.proofs.Laid.{drop_is, added-unmet, LaidFrom, rounds_laid, adding, added-low, was_added, path-low}
use Rattle.qs_graph.proofs.Paths.{leads_low}

-- the path at a place
pub path_is : (S : Stage) (i : ℕ) (d : Done) → slice_get S.done i ≡ Some d → path_at S i ≡ d.firing.path
path_is S i d e = ap (λ o. unwrap_or (option_map (λ (x : Done). x.firing.path) o) []) e

-- a supported firing added an arc
pub firing_added : (S : Stage) (i : ℕ) → IsSupportedFiring S i → (k : ℕ) × (k ∈ added_at S i)
firing_added S i (added {k = k} a j) = (k, j)

-- the line of a firing, by what stands at its place
pub comment_is : (S : Stage) (i : ℕ) (d : Done) (behind : ℕ) → slice_get S.done i ≡ Some d → d.met ≡ false → behind ≡ next_first (length S.graph.arcs) (drop (i + 1) S.done)
    → line (codes "# rule " ++ (decimal d.firing.rule ++ (codes " on " ++ (numbers_text d.firing.path ++ (codes " gives " ++ (numbers_text (from_on d.first (behind - d.first)) ++ codes ".")))))) ≡ firing_comment S i
comment_is S i d behind is u e =
    let rule : d.firing.rule ≡ rule_at S i = sym (ap (λ o. unwrap_or (option_map (λ (x : Done). x.firing.rule) o) 0) is) in
    let path : d.firing.path ≡ path_at S i = sym (path_is S i d is) in
    let next : i + 1 ≡ suc i = omega arith in
    let behind_is : behind ≡ next_first (length S.graph.arcs) (drop (suc i) S.done) = e ∙ ap (λ n. next_first (length S.graph.arcs) (drop n S.done)) next in
    let gives : from_on d.first (behind - d.first) ≡ added_at S i =
    ap (λ b. from_on d.first (b - d.first)) behind_is ∙ sym (ap (added_first (length S.graph.arcs)) (drop_is S.done i d is) ∙ added-unmet (length S.graph.arcs) d (drop (suc i) S.done) u) in
    λ j. line (codes "# rule " ++ (decimal (rule j) ++ (codes " on " ++ (numbers_text (path j) ++ (codes " gives " ++ (numbers_text (gives j) ++ codes "."))))))

module _ (c : ClosureOf) (is : IsClosureOfValid c) where
  abbrev S : Stage
  S = c.stage

  pub laid : LaidFrom is.rules (length is.start.arcs) S
  laid = rounds_laid is.rules is.accepted is.start is.closure.closes.rounds S is.closure.closes.reached

  pub stays_within : (k : ℕ) → Stays S k → k < length S.graph.arcs
  stays_within k s = leads_low S.graph.arcs s.entry s.path s.exit s.leads.leads k s.on

  -- some firing is at a place that has a path
  path_done : (i k : ℕ) → k ∈ path_at S i → k < length S.graph.arcs
  path_done i k j = by (slice_get S.done i) refl
    where
      by : (o : Option Done) → slice_get S.done i ≡ o → k < length S.graph.arcs
      by None e = absurd (subst (λ (p : Option Done). k ∈ unwrap_or (option_map (λ (x : Done). x.firing.path) p) []) e j)
      by (Some d) e = path_within c is d (in_at S.done i d e) k (subst (λ ks. k ∈ ks) (path_is S i d e) j)

  pub supported_within : (k : ℕ) → IsSupportedArc S k → k < length S.graph.arcs
  supported_within k (it_stays s) = stays_within k s
  supported_within k (in_path {i = i} f j) = path_done i k j
  supported_within k (beside {i = i} f j) = added-low is.rules (length S.graph.arcs) S.done i k laid.laid j

  pub supported_added : (k : ℕ) → IsSupportedArc S k → c.start ≤ k → WasAdded S k
  supported_added k a low =
      let from = is.closure.start in
      let begins = laid.begins in
      let r = was_added is.rules (length S.graph.arcs) S.done k laid.laid (omega arith) (supported_within k a) in
      let f : IsSupportedFiring S r.0 = added a r.1 in
      let at = adding (length S.graph.arcs) S.done r.0 k r.1 in
      record {
        place = r.0;
        supported = f;
        added = r.1;
        path_supported = λ j p. in_path f p;
        path_smaller = λ j p. path-low is.rules (length S.graph.arcs) S.done r.0 at.done k j laid.laid at.is r.1 (subst (λ ks. j ∈ ks) (path_is S r.0 at.done at.is) p);
      }

pub one_support : (S : Stage) (s t : SupportOf) → IsSupport S s → IsSupport S t → s ≡ t
one_support S s t a b =
    let arcs = same_ascending lt-asym s.arcs t.arcs a.arcs_ascend b.arcs_ascend (λ k i. (b.arcs_are k).1 ((a.arcs_are k).0 i)) (λ k i. (a.arcs_are k).1 ((b.arcs_are k).0 i)) in
    let firings = same_ascending lt-asym s.firings t.firings a.firings_ascend b.firings_ascend (λ k i. (b.firings_are k).1 ((a.firings_are k).0 i)) (λ k i. (a.firings_are k).1 ((b.firings_are k).0 i)) in
    λ i. record { arcs = arcs i; firings = firings i }
