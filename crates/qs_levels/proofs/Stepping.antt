-- The steps of tops, top after top.
use Rattle.std.proofs.Common.{◌≡◌, ℕ, ◌+◌, ◌<◌, Bool, true, false, ⊎_elim, List, [], ◌∷◌, ◌++◌, length, map, take, get_or, Some, slice_get, refl, sym, ap, ◌∙◌, subst}
use Rattle.std.proofs.lemmas.List.{take_more, length_push, map-append}
use Rattle.qs_tree.specs.declared.cell.Label.{Label}
use Rattle.qs_graph.proofs.Paths.{slice_get-append}
use Rattle.qs_firing.proofs.Merging.{at_seam}
use Rattle.qs_firing.proofs.Placing.{in_more}
use Rattle.qs_levels.specs.declared.tops.Top.{Top}
use Rattle.qs_levels.specs.Tops.{with_label, each_once}
use Rattle.qs_levels.specs.working.Steps.{IsNodeOf, IsStepBy, IsStepOf, AreStepsOf}
use Rattle.qs_levels.proofs.Numbering.{with_keeps, with_labels-more}

abbrev label_of : Top → Label
label_of top = top.label

pub no_steps : (rules : ℕ) (labels : List Label) (sources targets : List ℕ) → labels ≡ [] → sources ≡ [] → targets ≡ [] → AreStepsOf rules [] labels sources targets
no_steps rules labels sources targets l s t = record {
  labels_are = l;
  long_sources = ap length s;
  long_targets = ap length t;
  step = λ k top e. absurd cc;
}

-- a node stays when labels are put behind
node_stays : (rules : ℕ) (labels : List Label) (l x : Label) (n : ℕ) → IsNodeOf rules labels x n → IsNodeOf rules (with_label labels l) x n
node_stays rules labels l x n h = record { place = h.place; stands = with_keeps labels l h.place x h.stands; node = h.node }

step_stays : (right : Bool) (rules : ℕ) (labels : List Label) (l : Label) (top : Top) (a b : ℕ) → IsStepBy right rules labels top a b → IsStepBy right rules (with_label labels l) top a b
step_stays true rules labels l top a b (e, h) = (e, node_stays rules labels l top.label b h)
step_stays false rules labels l top a b (h, e) = (node_stays rules labels l top.label a h, e)

module _ (rules : ℕ) (tops : List Top) (top : Top) (labels : List Label) (sources targets : List ℕ) (s : AreStepsOf rules tops labels sources targets) (a b : ℕ) where
  more_steps : IsStepOf rules (with_label labels top.label) top a b → AreStepsOf rules (tops ++ top ∷ []) (with_label labels top.label) (sources ++ a ∷ []) (targets ++ b ∷ [])
  more_steps is = record {
    labels_are =
        ap (λ ls. with_label ls top.label) s.labels_are ∙ sym (with_labels-more [] (map label_of tops) top.label) ∙ ap each_once (sym (map-append label_of tops (top ∷ [])));
    long_sources = length_push sources a ∙ ap (λ n. n + 1) s.long_sources ∙ sym (length_push tops top);
    long_targets = length_push targets b ∙ ap (λ n. n + 1) s.long_targets ∙ sym (length_push tops top);
    step = λ k t e. ⊎_elim (old k t) (λ (p, q). new k t p q) (in_more tops top k t e);
  }
    where
      old : (k : ℕ) (t : Top) → slice_get tops k ≡ Some t
          → (x y : ℕ) × (slice_get (sources ++ a ∷ []) k ≡ Some x) × (slice_get (targets ++ b ∷ []) k ≡ Some y) × IsStepOf rules (with_label labels top.label) t x y
      old k t e =
          let (x, y, p, q, h) = s.step k t e in
          (x, y, slice_get-append sources (a ∷ []) k x p, slice_get-append targets (b ∷ []) k y q, step_stays t.right rules labels top.label t x y h)

      new : (k : ℕ) (t : Top) → k ≡ length tops → t ≡ top
          → (x y : ℕ) × (slice_get (sources ++ a ∷ []) k ≡ Some x) × (slice_get (targets ++ b ∷ []) k ≡ Some y) × IsStepOf rules (with_label labels top.label) t x y
      new k t p q = (
        a,
        b,
        subst (λ j. slice_get (sources ++ a ∷ []) j ≡ Some a) (s.long_sources ∙ sym p) (at_seam sources a []),
        subst (λ j. slice_get (targets ++ b ∷ []) j ≡ Some b) (s.long_targets ∙ sym p) (at_seam targets b []),
        subst (λ (u : Top). IsStepOf rules (with_label labels top.label) u a b) (sym q) is,
      )

-- the same for the next member of a list, by the side at which it stands
module _ (rules : ℕ) (tops : List Top) (i : ℕ) (top d : Top) (here : i < length tops) (read : top ≡ get_or tops i d) (labels new_labels : List Label) (sources targets new_sources new_targets : List ℕ)
    (s : AreStepsOf rules (take i tops) labels sources targets) (put : new_labels ≡ with_label labels top.label) (k node : ℕ) (at : slice_get new_labels k ≡ Some top.label) (is_node : node ≡ rules + k) where
  more : take (i + 1) tops ≡ take i tops ++ top ∷ []
  more = take_more tops i d here ∙ ap (λ t. take i tops ++ t ∷ []) (sym read)

  node_is : IsNodeOf rules (with_label labels top.label) top.label node
  node_is = record { place = k; stands = ap (λ ls. slice_get ls k) (sym put) ∙ at; node = is_node }

  pub next_right : top.right ≡ true → new_sources ≡ sources ++ top.rule ∷ [] → new_targets ≡ targets ++ node ∷ [] → AreStepsOf rules (take (i + 1) tops) new_labels new_sources new_targets
  next_right side e f =
      let is : IsStepOf rules (with_label labels top.label) top top.rule node = subst (λ right. IsStepBy right rules (with_label labels top.label) top top.rule node) (sym side) (refl, node_is) in
      rw (more, put, e, f) (more_steps rules (take i tops) top labels sources targets s top.rule node is)

  pub next_left : top.right ≡ false → new_sources ≡ sources ++ node ∷ [] → new_targets ≡ targets ++ top.rule ∷ [] → AreStepsOf rules (take (i + 1) tops) new_labels new_sources new_targets
  next_left side e f =
      let is : IsStepOf rules (with_label labels top.label) top node top.rule = subst (λ right. IsStepBy right rules (with_label labels top.label) top node top.rule) (sym side) (node_is, refl) in
      rw (more, put, e, f) (more_steps rules (take i tops) top labels sources targets s node top.rule is)
