-- The first tree that is too many.
use Rattle.std.proofs.Common.{◌≡◌, ℕ, zero, suc, ◌+◌, ◌<◌, ◌≤◌, Some, slice_get, List, [], ◌∷◌, ◌++◌, length, take, get_or, refl, sym, ◌∙◌, ap, inl, inr, arith, length-append}
use Rattle.qs_tree.specs.Lists.{◌∈◌}
use Rattle.qs_graphtext.specs.WrittenChains.{WrittenChain}
use Rattle.qs_graphtext.specs.GraphOfChains.{IsWhole, trees_in, places_in}

-- the trees of the first i chains and of the one behind them are among all
pub trees_so_far : (chains : List WrittenChain) (i : ℕ) (chain : WrittenChain) → i < length chains → chain ≡ get_or chains i chain
    → length (trees_in (take i chains)) + length chain.trees ≤ length (trees_in chains)
trees_so_far [] i chain l e = absurd (omega arith)
trees_so_far (c ∷ chains) zero chain l e =
    let all : length (trees_in (c ∷ chains)) ≡ length c.trees + length (trees_in chains) = length-append c.trees (trees_in chains) in
    omega (arith, all, ap (λ (d : WrittenChain). length d.trees) e)
trees_so_far (c ∷ chains) (suc i) chain l e =
    let all : length (trees_in (c ∷ chains)) ≡ length c.trees + length (trees_in chains) = length-append c.trees (trees_in chains) in
    let some : length (trees_in (take (suc i) (c ∷ chains))) ≡ length c.trees + length (trees_in (take i chains)) = length-append c.trees (trees_in (take i chains)) in
    omega (arith, all, some, trees_so_far chains i chain (omega arith) e)

slice_get-behind : (xs ys : List ℕ) (k j : ℕ) → k ≡ length xs + j → slice_get (xs ++ ys) k ≡ slice_get ys j
slice_get-behind [] ys k j e = ap (slice_get ys) (let f : k ≡ j = omega (arith, e) in f)
slice_get-behind (x ∷ xs) ys zero j e = absurd (omega (arith, e))
slice_get-behind (x ∷ xs) ys (suc k) j e = slice_get-behind xs ys k j (omega (arith, e))

slice_get-front : (xs ys : List ℕ) (j place : ℕ) → slice_get xs j ≡ Some place → slice_get (xs ++ ys) j ≡ Some place
slice_get-front [] ys j place e = absurd cc
slice_get-front (x ∷ xs) ys zero place e = e
slice_get-front (x ∷ xs) ys (suc j) place e = slice_get-front xs ys j place e

-- the place of a tree of the chain behind the first i
pub place_at : (chains : List WrittenChain) → ((c : WrittenChain) → c ∈ chains → IsWhole c) → (i : ℕ) (chain : WrittenChain) (j k place : ℕ) → i < length chains → chain ≡ get_or chains i chain
    → k ≡ length (trees_in (take i chains)) + j → slice_get chain.at j ≡ Some place → slice_get (places_in chains) k ≡ Some place
place_at [] h i chain j k place l e f p = absurd (omega arith)
place_at (c ∷ chains) h zero chain j k place l e f p =
    ap (slice_get (places_in (c ∷ chains))) (let g : k ≡ j = omega (arith, f) in g)
    ∙ slice_get-front c.at (places_in chains) j place (ap (λ (d : WrittenChain). slice_get d.at j) (sym e) ∙ p)
place_at (c ∷ chains) h (suc i) chain j k place l e f p =
    let whole = h c (inl refl) in
    let n : length (trees_in (take (suc i) (c ∷ chains))) ≡ length c.trees + length (trees_in (take i chains)) = length-append c.trees (trees_in (take i chains)) in
    slice_get-behind c.at (places_in chains) k (length (trees_in (take i chains)) + j) (omega (arith, f, n, whole.places))
    ∙ place_at chains (λ d m. h d (inr m)) i chain j (length (trees_in (take i chains)) + j) place (omega arith) e refl p
