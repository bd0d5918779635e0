-- The line of a reading, one tree after another.
use Rattle.std.proofs.Common.{◌≡◌, ℕ, suc, ◌+◌, ◌<◌, ◌≤◌, Bool, Some, slice_get, List, [], ◌∷◌, ◌++◌, length, map, take, get_or, refl, sym, ◌∙◌, ap, subst, inl, inr, append_assoc, append-nil, take_all, length-take-le, arith}
use Rattle.std.specs.Prelude.{flat_map, codes, nat_lt, if◌then◌else◌}
use Rattle.std.proofs.lemmas.List.{take_more, map_push, length-map}
use Rattle.std.proofs.lemmas.List.Elements.{filter_map-append}
use Rattle.qs_graph.proofs.Numbers.{in_take}
use Rattle.qs_graph.proofs.Paths.{leads_low}
use Rattle.qs_tree.specs.Lists.{◌∈◌}
use Rattle.qs_tree.specs.Text.{tree_text}
use Rattle.qs_tree.proofs.Members.{in_get_or, at_place}
use Rattle.qs_graph.specs.Graphs.{Arc, QGraph, trees_on, arcs_at}
use Rattle.qs_phrase.specs.Readings.{AreFirst}
use Rattle.qs_ruletext.specs.Texts.{joined}
use Rattle.qs_phrase.proofs.Ways.{arc_at}
use Rattle.qs_explain.proofs.Numbers.{some_before}
use Rattle.qs_telling.specs.PhraseTexts.{reading_line}
use Rattle.qs_telling.specs.working.Phrasing.{next_tree}

-- the numbers of a path are those of arcs
pub within_arcs : (arcs : List Arc) (path : List ℕ) (i : ℕ) → ((k : ℕ) → k ∈ path → k < length arcs) → i < length path → get_or path i 0 < length arcs
within_arcs arcs path i within low = within (get_or path i 0) (in_get_or path i 0 low)

-- one text more
rest_more : (between : List ℕ) (texts : List (List ℕ)) (text : List ℕ) → flat_map (λ t. between ++ t) (texts ++ text ∷ []) ≡ flat_map (λ t. between ++ t) texts ++ (between ++ text)
rest_more between [] text = append-nil (between ++ text)
rest_more between (t ∷ texts) text =
    ap (λ xs. (between ++ t) ++ xs) (rest_more between texts text) ∙ sym (append_assoc (between ++ t) (flat_map (λ t. between ++ t) texts) (between ++ text))

joined_more : (between : List ℕ) (texts : List (List ℕ)) (text : List ℕ) (b : Bool) → b ≡ nat_lt 0 (length texts) → joined between (texts ++ text ∷ []) ≡ joined between texts ++ ((if b then between else []) ++ text)
joined_more between [] text b e = append-nil text ∙ ap (λ c. (if c then between else []) ++ text) (sym e)
joined_more between (t ∷ texts) text b e =
    let same : between ++ text ≡ (if b then between else []) ++ text = ap (λ c. (if c then between else []) ++ text) (sym (e ∙ some_before (length texts))) in
    ap (λ xs. t ++ xs) (rest_more between texts text) ∙ (sym (append_assoc t (flat_map (λ t. between ++ t) texts) (between ++ text)) ∙ ap (λ xs. (t ++ flat_map (λ t. between ++ t) texts) ++ xs) same)

-- the trees on a path, with one arc more
one_arc : (arcs : List Arc) (k : ℕ) (arc : Arc) → slice_get arcs k ≡ Some arc → arcs_at arcs (k ∷ []) ≡ arc ∷ []
one_arc arcs k arc at = rw at refl

trees_more : (arcs : List Arc) (ks : List ℕ) (k : ℕ) (arc : Arc) → slice_get arcs k ≡ Some arc → trees_on arcs (ks ++ k ∷ []) ≡ trees_on arcs ks ++ arc.tree ∷ []
trees_more arcs ks k arc at =
    ap (map (λ (a : Arc). a.tree)) (filter_map-append (slice_get arcs) ks (k ∷ []) ∙ ap (λ ys. arcs_at arcs ks ++ ys) (one_arc arcs k arc at))
    ∙ map_push (λ (a : Arc). a.tree) (arcs_at arcs ks) arc

-- all places of the path are those of arcs
length-trees : (arcs : List Arc) (ks : List ℕ) → ((k : ℕ) → k ∈ ks → k < length arcs) → length (trees_on arcs ks) ≡ length ks
length-trees arcs [] within = refl
length-trees arcs (k ∷ ks) within =
    let (arc, at) = arc_at arcs k (within k (inl refl)) in
    let rest = length-trees arcs ks (λ j i. within j (inr i)) in
    ap (λ (ys : List Arc). length (map (λ (a : Arc). a.tree) ys)) (filter_map-append (slice_get arcs) (k ∷ []) ks ∙ ap (λ ys. ys ++ arcs_at arcs ks) (one_arc arcs k arc at))
    ∙ ap suc rest

-- the next tree of a reading
pub reading_on : (names : List (List ℕ)) (arcs : List Arc) (path : List ℕ) (i k : ℕ) (arc : Arc) (b : Bool) (start before after : List ℕ) → i < length path → k ≡ get_or path i 0
    → arc ≡ get_or arcs k arc → ((j : ℕ) → j ∈ path → j < length arcs) → b ≡ nat_lt 0 i → before ≡ start ++ joined (codes " ") (map (tree_text names) (trees_on arcs (take i path)))
    → after ≡ before ++ next_tree names b arc.tree → after ≡ start ++ joined (codes " ") (map (tree_text names) (trees_on arcs (take (i + 1) path)))
reading_on names arcs path i k arc b start before after low is at within e old new =
    let here : slice_get arcs k ≡ Some arc = at_place arcs k arc (subst (λ j. j < length arcs) (sym is) (within_arcs arcs path i within low)) at in
    let all : take (i + 1) path ≡ take i path ++ k ∷ [] = take_more path i 0 low ∙ ap (λ x. take i path ++ x ∷ []) (sym is) in
    let front : List (List ℕ) = map (tree_text names) (trees_on arcs (take i path)) in
    let more : map (tree_text names) (trees_on arcs (take (i + 1) path)) ≡ front ++ tree_text names arc.tree ∷ [] =
    ap (λ ks. map (tree_text names) (trees_on arcs ks)) all ∙ ap (map (tree_text names)) (trees_more arcs (take i path) k arc here)
    ∙ map_push (tree_text names) (trees_on arcs (take i path)) arc.tree in
    let many : length front ≡ i =
    length-map (trees_on arcs (take i path)) (tree_text names) ∙ length-trees arcs (take i path) (λ j m. within j (in_take path i j m)) ∙ length-take-le i path (omega (arith, low)) in
    new ∙ ap (λ xs. xs ++ next_tree names b arc.tree) old ∙ append_assoc start (joined (codes " ") front) (next_tree names b arc.tree)
    ∙ ap (λ xs. start ++ xs) (sym (ap (joined (codes " ")) more ∙ joined_more (codes " ") front (tree_text names arc.tree) b (e ∙ ap (nat_lt 0) (sym many))))

-- the whole line
pub reading_done : (names : List (List ℕ)) (arcs : List Arc) (path : List ℕ) (i : ℕ) (start before after : List ℕ) → length path ≤ i
    → before ≡ start ++ joined (codes " ") (map (tree_text names) (trees_on arcs (take i path))) → after ≡ before ++ codes "\n" → after ≡ start ++ reading_line names arcs path
reading_done names arcs path i start before after past old new =
    let whole = joined (codes " ") (map (tree_text names) (trees_on arcs path)) in
    new ∙ ap (λ xs. xs ++ codes "\n") (old ∙ ap (λ ks. start ++ joined (codes " ") (map (tree_text names) (trees_on arcs ks))) (take_all i path past))
    ∙ append_assoc start whole (codes "\n")

pub readings_within : (G : QGraph) (most : ℕ) (paths : List (List ℕ)) → AreFirst G most paths → (path : List ℕ) → path ∈ paths → (k : ℕ) → k ∈ path → k < length G.arcs
readings_within G most paths first path i k j =
    let r = first.are_readings path i in
    leads_low G.arcs r.entry path r.exit r.is_path.leads k j
