-- A split of a list of trees, and one that passed one tree more.
use Rattle.std.proofs.Common.{◌≡◌, ◌+◌, List, [], ◌∷◌, ◌++◌, length, sym, ap, ◌∙◌, append_assoc, append-nil, length-append}
use Rattle.qs_tree.specs.Trees.{Tree}
use Rattle.qs_tree.specs.Splits.{PassesTree}

module _ {front behind longer shorter : List Tree} where
  pub passes_joins : (ts : List Tree) → PassesTree front behind longer shorter → front ++ behind ≡ ts → longer ++ shorter ≡ ts
  passes_joins ts p j = ap (λ (us : List Tree). us ++ shorter) p.front_is ∙ append_assoc front (p.tree ∷ []) shorter ∙ ap (λ (us : List Tree). front ++ us) (sym p.behind_is) ∙ j

  pub passes_length : PassesTree front behind longer shorter → length longer ≡ length front + 1
  passes_length p = ap length p.front_is ∙ length-append front (p.tree ∷ [])

-- nothing is behind
pub whole_front : (front behind ts : List Tree) → front ++ behind ≡ ts → behind ≡ [] → front ≡ ts
whole_front front behind ts j e = sym (append-nil front) ∙ ap (λ (us : List Tree). front ++ us) (sym e) ∙ j
