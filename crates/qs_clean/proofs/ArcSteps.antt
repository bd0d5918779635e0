-- The steps of the loops over arcs and marks.
use Rattle.std.proofs.Common.{◌≡◌, ◌⊎◌, ◌↔◌, ℕ, ◌+◌, ◌<◌, ◌≤◌, Bool, false, true, List, [], ◌∷◌, ◌++◌, length, take, drop, get_or, set, replicate, refl, sym, ◌∙◌, ap, subst, inl, inr, ⊎_elim, arith, append_assoc}
use Rattle.std.proofs.lemmas.List.{take_more, take_all, drop_more, drop_all, append-nil}
use Rattle.qs_tree.specs.Lists.{◌∈◌}
use Rattle.qs_tree.proofs.Members.{from_append, in_append_left, in_append_right}
use Rattle.qs_canon.specs.Rounds.{Done}
use Rattle.qs_clean.specs.Marks.{IsMarked}
use Rattle.qs_clean.specs.working.Steps.{IsUsed, each_pair, marked, numbering}
use Rattle.qs_clean.proofs.Exploring.{set_still, set_marked, set_only, none_of-replicate}

-- what is made of one more pair
pub pair_more : {X Y Z : Type 0} (make : X → Y → List Z) (xs : List X) (ys : List Y) (i : ℕ) (x : X) (y : Y) (before after all : List Z) → i < length xs → length ys ≡ length xs → x ≡ get_or xs i x → y ≡ get_or ys i y
    → after ≡ before ++ make x y → before ++ each_pair make (drop i xs) (drop i ys) ≡ all → after ++ each_pair make (drop (i + 1) xs) (drop (i + 1) ys) ≡ all
pair_more make xs ys i x y before after all l same ex ey new e =
    let dx : drop i xs ≡ x ∷ drop (i + 1) xs = drop_more xs i x l ∙ ap (λ z. z ∷ drop (i + 1) xs) (sym ex) in
    let dy : drop i ys ≡ y ∷ drop (i + 1) ys = drop_more ys i y (omega arith) ∙ ap (λ z. z ∷ drop (i + 1) ys) (sym ey) in
    let here : before ++ each_pair make (x ∷ drop (i + 1) xs) (y ∷ drop (i + 1) ys) ≡ all = subst (λ zs. before ++ each_pair make zs (y ∷ drop (i + 1) ys) ≡ all) dx (subst (λ zs. before ++ each_pair make (drop i xs) zs ≡ all) dy e) in
    ap (λ zs. zs ++ each_pair make (drop (i + 1) xs) (drop (i + 1) ys)) new ∙ append_assoc before (make x y) (each_pair make (drop (i + 1) xs) (drop (i + 1) ys)) ∙ here

pub pairs_done : {X Y Z : Type 0} (make : X → Y → List Z) (xs : List X) (ys : List Y) (i : ℕ) (made all : List Z) → length xs ≤ i → made ++ each_pair make (drop i xs) (drop i ys) ≡ all → made ≡ all
pairs_done make xs ys i made all l e =
    sym (append-nil made) ∙ ap (λ zs. made ++ each_pair make zs (drop i ys)) (sym (drop_all i xs l)) ∙ e

-- one more mark is numbered
pub number_more : (marks : List Bool) (i : ℕ) (c : ℕ) (before after all : List ℕ) → i < length marks → get_or marks i false ≡ true → after ≡ before ++ (c + 1) ∷ []
    → before ++ numbering c (drop i marks) ≡ all → after ++ numbering (c + 1) (drop (i + 1) marks) ≡ all
number_more marks i c before after all l m new e =
    let d : drop i marks ≡ true ∷ drop (i + 1) marks = drop_more marks i false l ∙ ap (λ z. z ∷ drop (i + 1) marks) m in
    ap (λ zs. zs ++ numbering (c + 1) (drop (i + 1) marks)) new ∙ append_assoc before ((c + 1) ∷ []) (numbering (c + 1) (drop (i + 1) marks))
    ∙ subst (λ zs. before ++ numbering c zs ≡ all) d e

pub number_none : (marks : List Bool) (i : ℕ) (c : ℕ) (before after all : List ℕ) → i < length marks → get_or marks i false ≡ false → after ≡ before ++ 0 ∷ []
    → before ++ numbering c (drop i marks) ≡ all → after ++ numbering c (drop (i + 1) marks) ≡ all
number_none marks i c before after all l m new e =
    let d : drop i marks ≡ false ∷ drop (i + 1) marks = drop_more marks i false l ∙ ap (λ z. z ∷ drop (i + 1) marks) m in
    ap (λ zs. zs ++ numbering c (drop (i + 1) marks)) new ∙ append_assoc before (0 ∷ []) (numbering c (drop (i + 1) marks))
    ∙ subst (λ zs. before ++ numbering c zs ≡ all) d e

pub marked_more : (marks : List Bool) (i : ℕ) → i < length marks → get_or marks i false ≡ true → marked (drop i marks) ≡ marked (drop (i + 1) marks) + 1
marked_more marks i l m = ap marked (drop_more marks i false l ∙ ap (λ z. z ∷ drop (i + 1) marks) m)

pub marked_none : (marks : List Bool) (i : ℕ) → i < length marks → get_or marks i false ≡ false → marked (drop i marks) ≡ marked (drop (i + 1) marks)
marked_none marks i l m = ap marked (drop_more marks i false l ∙ ap (λ z. z ∷ drop (i + 1) marks) m)

pub numbers_done : (marks : List Bool) (i c : ℕ) (made all : List ℕ) → length marks ≤ i → made ++ numbering c (drop i marks) ≡ all → made ≡ all
numbers_done marks i c made all l e = sym (append-nil made) ∙ ap (λ zs. made ++ numbering c zs) (sym (drop_all i marks l)) ∙ e

-- one more number of a path is marked
pub path_more : (path : List ℕ) (i t : ℕ) (marks now after : List Bool) → i < length path → t ≡ get_or path i 0 → t < length now → after ≡ set now t true
    → ((k : ℕ) → IsMarked now k ↔ (IsMarked marks k ⊎ (k ∈ take i path))) → (k : ℕ) → IsMarked after k ↔ (IsMarked marks k ⊎ (k ∈ take (i + 1) path))
path_more path i t marks now after l e within new h k = subst (λ ms. IsMarked ms k ↔ (IsMarked marks k ⊎ (k ∈ take (i + 1) path))) (sym new) (there, back)
  where
    all : take (i + 1) path ≡ take i path ++ t ∷ []
    all = take_more path i 0 l ∙ ap (λ x. take i path ++ x ∷ []) (sym e)

    there : IsMarked (set now t true) k → IsMarked marks k ⊎ (k ∈ take (i + 1) path)
    there m = ⊎_elim
        (λ n. ⊎_elim inl (λ j. inr (subst (λ ns. k ∈ ns) (sym all) (in_append_left (take i path) (t ∷ []) k j))) ((h k).0 n))
        (λ s. inr (subst (λ ns. k ∈ ns) (sym all) (in_append_right (take i path) (t ∷ []) k (inl s))))
        (set_only now t k m)

    back : IsMarked marks k ⊎ (k ∈ take (i + 1) path) → IsMarked (set now t true) k
    back c = ⊎_elim
        (λ m. set_still now t k ((h k).1 (inl m)))
        (λ j. ⊎_elim
        (λ i. set_still now t k ((h k).1 (inr i)))
        (λ i. ⊎_elim (λ s. subst (λ n. IsMarked (set now t true) n) (sym s) (set_marked now t within)) (λ none. absurd none) i)
        (from_append (take i path) (t ∷ []) k (subst (λ ns. k ∈ ns) all j)))
        c

-- one more firing
used_more : (done more : List Done) (k : ℕ) → IsUsed done k → IsUsed (done ++ more) k
used_more done more k u = record { by = u.by; is_done = in_append_left done more u.by u.is_done; used = u.used }

pub firing_more : (done : List Done) (i : ℕ) (d : Done) (path : List ℕ) (now after : List Bool) → i < length done → d ≡ get_or done i d → path ≡ d.firing.path
    → ((k : ℕ) → IsMarked now k ↔ IsUsed (take i done) k) → ((k : ℕ) → IsMarked after k ↔ (IsMarked now k ⊎ (k ∈ path))) → (k : ℕ) → IsMarked after k ↔ IsUsed (take (i + 1) done) k
firing_more done i d path now after l e p h g k = subst (λ ds. IsMarked after k ↔ IsUsed ds k) (sym all) (there, back)
  where
    all : take (i + 1) done ≡ take i done ++ d ∷ []
    all = take_more done i d l ∙ ap (λ x. take i done ++ x ∷ []) (sym e)

    there : IsMarked after k → IsUsed (take i done ++ d ∷ []) k
    there m = ⊎_elim
        (λ n. used_more (take i done) (d ∷ []) k ((h k).0 n))
        (λ j. record { by = d; is_done = in_append_right (take i done) (d ∷ []) d (inl refl); used = subst (λ ns. k ∈ ns) p j })
        ((g k).0 m)

    back : IsUsed (take i done ++ d ∷ []) k → IsMarked after k
    back u = ⊎_elim
        (λ j. (g k).1 (inl ((h k).1 (record { by = u.by; is_done = j; used = u.used }))))
        (λ j. ⊎_elim
        (λ s. (g k).1 (inr (subst (λ ns. k ∈ ns) (sym p) (subst (λ (x : Done). k ∈ x.firing.path) s u.used))))
        (λ none. absurd none)
        j)
        (from_append (take i done) (d ∷ []) u.by u.is_done)

-- the whole path is marked
pub path_all : (path : List ℕ) (i : ℕ) (marks now : List Bool) → length path ≤ i → ((k : ℕ) → IsMarked now k ↔ (IsMarked marks k ⊎ (k ∈ take i path))) → (k : ℕ) → IsMarked now k ↔ (IsMarked marks k ⊎ (k ∈ path))
path_all path i marks now l h k = subst (λ ns. IsMarked now k ↔ (IsMarked marks k ⊎ (k ∈ ns))) (take_all i path l) (h k)

pub none_used : (arcs : ℕ) (marks : List Bool) → marks ≡ replicate arcs false → (k : ℕ) → IsMarked marks k ↔ IsUsed [] k
none_used arcs marks e k = (λ m. absurd (none_of-replicate arcs k (subst (λ ms. IsMarked ms k) e m)), λ u. absurd u.is_done)
