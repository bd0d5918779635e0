-- Rounds and closures under other numbers for the labels.
use Rattle.std.proofs.Common.{◌≡◌, ℕ, zero, suc, ◌<◌, List, [], ◌∷◌, ◌++◌, length, map, unwrap_or, refl, sym, ◌∙◌, ap, subst, inl, inr, ⊎_elim}
use Rattle.std.specs.Prelude.{is_some}
use Rattle.std.proofs.lemmas.List.{map-append, length-map}
use Rattle.qs_tree.specs.Lists.{◌∈◌, Ascends}
use Rattle.qs_tree.proofs.Members.{from_map, mapped, in_map}
use Rattle.qs_pattern.specs.Rules.{Rule}
use Rattle.qs_graph.specs.Graphs.{Arc, QGraph}
use Rattle.qs_firing.specs.Firings.{Firing, Fires, Before}
use Rattle.qs_firing.specs.Adding.{built, met, first_arc, meets}
use Rattle.qs_canon.specs.Rounds.{Round, Done, Stage, firings, after, after_one, Rounds, Closes, Needs}
use Rattle.qs_clean.specs.Renaming.{IsRenaming, renamed_tree, renamed_rule, renamed_arc, renamed_graph}
use Rattle.qs_clean.specs.working.Renaming.{renamed_firing, renamed_done, renamed_stage}
use Rattle.qs_clean.proofs.RenamingUndone.{rules_undone, arcs_undone, firing_undone}
use Rattle.qs_clean.proofs.RenamedInstances.{from_map_undone}
use Rattle.qs_clean.proofs.RenamedFirings.{map_past, IsBound, bound_renamed, order_renamed, met_renamed, adds_renamed, built_renamed, fires_renamed}

pub inverse : (f g : ℕ → ℕ) → IsRenaming f g → IsRenaming g f
inverse f g is = record { back = is.forth; forth = is.back }

module _ (f : ℕ → ℕ) where
  pub firings_renamed : (S : Stage) → firings (renamed_stage f S) ≡ map (renamed_firing f) (firings S)
  firings_renamed S = map_past (renamed_done f) (λ (d : Done). d.firing) (λ (d : Done). d.firing) (renamed_firing f) (λ d. refl) S.done

  ascends_renamed : (F : List Firing) → Ascends Before F → Ascends Before (map (renamed_firing f) F)
  ascends_renamed [] a = tt
  ascends_renamed (x ∷ F) a = (
    (λ y i. let (z, j, e) = mapped (renamed_firing f) F y i in subst (Before (renamed_firing f x)) (sym e) (order_renamed f x z ∙ a.0 z j)),
    ascends_renamed F a.1,
  )

  -- firings that build the same are done the same
  module _ (g : ℕ → ℕ) (undone : (n : ℕ) → g (f n) ≡ n) (R : List Rule) (n : ℕ) where
    one_renamed : (S : Stage) (x : Firing) → built (map (renamed_rule f) R) (renamed_firing f x) ≡ map (renamed_tree f) (built R x)
        → after_one (map (renamed_rule f) R) n (renamed_stage f S) (renamed_firing f x) ≡ renamed_stage f (after_one R n S x)
    one_renamed S x builds =
        let graph = adds_renamed f g undone R S.graph x builds in
        let same : met (map (renamed_rule f) R) (renamed_graph f S.graph) (renamed_firing f x) ≡ met R S.graph x = met_renamed f g undone R S.graph x builds in
        let many : length (map (renamed_arc f) S.graph.arcs) ≡ length S.graph.arcs = length-map S.graph.arcs (renamed_arc f) in
        let this : Done = record { firing = x; first = first_arc R S.graph x; round = n; met = meets R S.graph x } in
        let done : map (renamed_done f) S.done ++ record {
          firing = renamed_firing f x;
          first = first_arc (map (renamed_rule f) R) (renamed_graph f S.graph) (renamed_firing f x);
          round = n;
          met = meets (map (renamed_rule f) R) (renamed_graph f S.graph) (renamed_firing f x);
        } ∷ []
        ≡ map (renamed_done f) (S.done ++ this ∷ []) =
        (λ i. map (renamed_done f) S.done ++ record { firing = renamed_firing f x; first = unwrap_or (same i) (many i); round = n; met = is_some (same i) } ∷ [])
        ∙ sym (map-append (renamed_done f) S.done (this ∷ [])) in
        λ i. record { graph = graph i; done = done i }

    after_renamed : (S : Stage) (F : List Firing) → ((x : Firing) → x ∈ F → built (map (renamed_rule f) R) (renamed_firing f x) ≡ map (renamed_tree f) (built R x))
        → after (map (renamed_rule f) R) n (renamed_stage f S) (map (renamed_firing f) F) ≡ renamed_stage f (after R n S F)
    after_renamed S [] builds = refl
    after_renamed S (x ∷ F) builds =
        ap (λ T. after (map (renamed_rule f) R) n T (map (renamed_firing f) F)) (one_renamed S x (builds x (inl refl)))
        ∙ after_renamed (after_one R n S x) F (λ y i. builds y (inr i))

module _ (f g : ℕ → ℕ) (is : IsRenaming f g) (R : List Rule) (bound : (rule : Rule) → rule ∈ R → IsBound rule) where
  abbrev others : List Rule
  others = map (renamed_rule f) R

  -- what fires under the other numbers fires under the first ones
  fires_back : (arcs : List Arc) (y : Firing) → Fires others (map (renamed_arc f) arcs) y → Fires R arcs (renamed_firing g y)
  fires_back arcs y fires =
      subst (λ (p : List Rule × List Arc). Fires p.0 p.1 (renamed_firing g y)) (λ i. (rules_undone f g is.back R i, arcs_undone f g is.back arcs i))
      (fires_renamed g others (from_map (renamed_rule f) R IsBound (λ rule i. bound_renamed f rule (bound rule i))) (map (renamed_arc f) arcs) y fires f (inverse f g is))

  in_renamed : (y : Firing) (xs : List Firing) → renamed_firing g y ∈ xs → y ∈ map (renamed_firing f) xs
  in_renamed y xs i = subst (λ z. z ∈ map (renamed_firing f) xs) (firing_undone g f is.forth y) (in_map (renamed_firing f) xs (renamed_firing g y) i)

  pub round_renamed : (G : QGraph) (done F : List Firing) → Round R G done F → Round others (renamed_graph f G) (map (renamed_firing f) done) (map (renamed_firing f) F)
  round_renamed G done F r = record {
    ascends = ascends_renamed f F r.ascends;
    fires = from_map (renamed_firing f) F (Fires others (map (renamed_arc f) G.arcs)) (λ x i. fires_renamed f R bound G.arcs x (r.fires x i) g is);
    new = λ y i k.
        let (x, j, e) = mapped (renamed_firing f) F y i in
        r.new x j (from_map_undone (renamed_firing f) (renamed_firing g) (firing_undone f g is.back) done x (subst (λ z. z ∈ map (renamed_firing f) done) e k));
    all = λ y h. ⊎_elim (λ i. inl (in_renamed y done i)) (λ i. inr (in_renamed y F i)) (r.all (renamed_firing g y) (fires_back G.arcs y h));
  }

  -- the rounds over a stage are those over what is done there
  stage_round : (B : Stage) (F : List Firing) → Round R B.graph (firings B) F → Round others (renamed_graph f B.graph) (firings (renamed_stage f B)) (map (renamed_firing f) F)
  stage_round B F r =
      subst (λ done. Round others (renamed_graph f B.graph) done (map (renamed_firing f) F)) (sym (firings_renamed f B)) (round_renamed B.graph (firings B) F r)

  pub rounds_renamed : (G : QGraph) (n : ℕ) (S : Stage) → Rounds R G n S → Rounds others (renamed_graph f G) n (renamed_stage f S)
  rounds_renamed G zero S e = ap (renamed_stage f) e
  rounds_renamed G (suc n) S (B, F, b, r, e) = (
    renamed_stage f B,
    map (renamed_firing f) F,
    rounds_renamed G n B b,
    stage_round B F r,
    ap (renamed_stage f) e ∙ sym (after_renamed f g is.back R (suc n) B F (λ x i. built_renamed f R bound B.graph.arcs x (r.fires x i))),
  )

  pub closes_renamed : (G : QGraph) (C : Stage) → Closes R G C → Closes others (renamed_graph f G) (renamed_stage f C)
  closes_renamed G C c = record { rounds = c.rounds; reached = rounds_renamed G c.rounds C c.reached; closed = stage_round C [] c.closed }

  pub needs_renamed : (G : QGraph) (L : ℕ) → Needs R G L → Needs others (renamed_graph f G) L
  needs_renamed G L n = record {
    rounds = n.rounds;
    within = n.within;
    stage = renamed_stage f n.stage;
    reached = rounds_renamed G n.rounds n.stage n.reached;
    more = subst (λ k. L < k) (sym (length-map n.stage.done (renamed_done f))) n.more;
  }
