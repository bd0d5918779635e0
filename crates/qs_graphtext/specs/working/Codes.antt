-- How the logic tells chains apart. Nothing that a reader has to believe stands here.
use Rattle.std.specs.Prelude.{ℕ, List, refl}
use Rattle.std.specs.Coded.{Coded, code_by, coded×, coded_list, coded_ℕ}
use Rattle.qs_tree.specs.Trees.{Tree}
use Rattle.qs_tree.specs.working.Cells.{tree_code}
use Rattle.qs_graphtext.specs.WrittenChains.{WrittenChain}

abbrev pub chain_code : Coded WrittenChain
chain_code =
    code_by (ℕ × (List Tree × (ℕ × List ℕ)))
    (coded× coded_ℕ (coded× (coded_list tree_code) (coded× coded_ℕ (coded_list coded_ℕ))))
    (λ c. (c.from, (c.trees, (c.to, c.at)))) (λ p. record { from = p.0; trees = p.1.0; to = p.1.1.0; at = p.1.1.1 })
    (λ _. refl)
