-- The steps of the loops over links, over the lists that the program has.
use Rattle.std.proofs.Common.{◌≡◌, ℕ, ◌+◌, ◌<◌, Bool, false, true, List, [], ◌∷◌, ◌++◌, length, map, take, drop, get_or, set, replicate, Global, refl, sym, ◌∙◌, ap, subst, inl, arith, length-set}
use Rattle.std.proofs.lemmas.List.{take_more, take_at, map-set, get_or-map, length-map, length-replicate}
use Rattle.std.specs.declared.vec.Vec.{Vec}
use Rattle.qs_tree.specs.Lists.{◌∈◌}
use Rattle.qs_tree.proofs.Members.{in_append_right}
use Rattle.qs_clean.specs.declared.links.Link.{Link}
use Rattle.qs_clean.specs.working.Links.{AreGroups, AreMarked}
use Rattle.qs_clean.proofs.Exploring.{IsExploring, marked_before, marked_now, marked_within, exploring_start, exploring_on}
use Rattle.qs_clean.proofs.Grouping.{group_link}

pub mark_new : (ts : List ℕ) (i t : ℕ) (marks new_marks after_marks : List Bool) (waiting new_waiting after_waiting : List ℕ) → i < length ts → t ≡ get_or ts i 0 → t < length new_marks
    → get_or new_marks t false ≡ false → after_marks ≡ set new_marks t true → after_waiting ≡ new_waiting ++ t ∷ [] → AreMarked (take i ts) marks new_marks waiting new_waiting
    → AreMarked (take (i + 1) ts) marks after_marks waiting after_waiting
mark_new ts i t marks new_marks after_marks waiting new_waiting after_waiting l e in_range free m w a =
    let all : take (i + 1) ts ≡ take i ts ++ t ∷ [] = take_more ts i 0 l ∙ ap (λ x. take i ts ++ x ∷ []) (sym e) in
    rw (all, m, w) (marked_now (take i ts) marks new_marks waiting new_waiting a t in_range free)

pub mark_old : (ts : List ℕ) (i t : ℕ) (marks new_marks after_marks : List Bool) (waiting new_waiting after_waiting : List ℕ) → i < length ts → t ≡ get_or ts i 0
    → get_or new_marks t false ≡ true → after_marks ≡ new_marks → after_waiting ≡ new_waiting → AreMarked (take i ts) marks new_marks waiting new_waiting
    → AreMarked (take (i + 1) ts) marks after_marks waiting after_waiting
mark_old ts i t marks new_marks after_marks waiting new_waiting after_waiting l e marked m w a =
    let all : take (i + 1) ts ≡ take i ts ++ t ∷ [] = take_more ts i 0 l ∙ ap (λ x. take i ts ++ x ∷ []) (sym e) in
    rw (all, m, w) (marked_before (take i ts) marks new_marks waiting new_waiting a t marked)

abbrev pub items_of : Vec ℕ Global → List ℕ
items_of v = v.items

-- the group that was read is the one at its place
pub targets_are : (groups : List (Vec ℕ Global)) (k : ℕ) (at : Vec ℕ Global) → k < length groups → at ≡ get_or groups k at → at.items ≡ get_or (map items_of groups) k []
targets_are groups k at l e = ap items_of e ∙ sym (get_or-map items_of groups k at [] l)

pub group_step : (links : List Link) (i : ℕ) (d : Link) (groups : List (Vec ℕ Global)) (was now : Vec ℕ Global) → i < length links → (get_or links i d).from < length groups
    → was ≡ get_or groups (get_or links i d).from was → now.items ≡ was.items ++ (get_or links i d).to ∷ [] → AreGroups (take i links) (map items_of groups)
    → AreGroups (take (i + 1) links) (map items_of (set groups (get_or links i d).from now))
group_step links i d groups was now l in_range read pushed g =
    let link : Link = get_or links i d in
    let at : was.items ≡ get_or (map items_of groups) (get_or links i d).from [] = targets_are groups (get_or links i d).from was in_range read in
    let new : map items_of (set groups (get_or links i d).from now) ≡ set (map items_of groups) (get_or links i d).from (get_or (map items_of groups) (get_or links i d).from [] ++ (get_or links i d).to ∷ []) =
    map-set items_of groups (get_or links i d).from now ∙ ap (λ xs. set (map items_of groups) (get_or links i d).from xs) (pushed ∙ ap (λ xs. xs ++ (get_or links i d).to ∷ []) at) in
    rw (take_more links i d l) (group_link (take i links) (map items_of groups) (map items_of (set groups (get_or links i d).from now)) (get_or links i d) (omega (arith, length-map groups items_of)) new g)

pub exploring_init : (links : List Link) (start n : ℕ) (marks : List Bool) (none waiting : List ℕ) → start < n → marks ≡ replicate n false → none ≡ [] → waiting ≡ none ++ start ∷ []
    → IsExploring links start (set marks start true) waiting × (length (set marks start true) ≡ n)
exploring_init links start n marks none waiting l m e w =
    (rw (m, w, e) (exploring_start links start n l), length-set marks start true ∙ ap length m ∙ length-replicate n false)

-- a node that waits last is within the marks
pub last_within : (links : List Link) (start : ℕ) (marks : List Bool) (waiting rest : List ℕ) (node : ℕ) → IsExploring links start marks waiting → waiting ≡ rest ++ node ∷ [] → node < length marks
last_within links start marks waiting rest node x e =
    marked_within marks node (x.waits node (subst (λ ns. node ∈ ns) (sym e) (in_append_right rest (node ∷ []) node (inl refl))))

-- the marks that a call changed, whole
pub written_back : (new old : List Bool) (n : ℕ) → length new ≡ n → take n (new ++ drop (length new) old) ≡ new
written_back new old n e = take_at new (drop (length new) old) n e

-- the targets of one more node are marked
pub explore_step : (links : List Link) (start : ℕ) (groups : List (Vec ℕ Global)) (node : ℕ) (at : Vec ℕ Global) (targets : List ℕ) (marks before new_marks : List Bool) (waiting rest new_waiting : List ℕ) (n : ℕ)
    → AreGroups links (map items_of groups) → node < length groups → at ≡ get_or groups node at → targets ≡ at.items → before ≡ marks → length new_marks ≡ n → waiting ≡ rest ++ node ∷ []
    → IsExploring links start marks waiting → AreMarked targets before new_marks rest new_waiting
    → IsExploring links start (take n (new_marks ++ drop (length new_marks) marks)) new_waiting × (length (take n (new_marks ++ drop (length new_marks) marks)) ≡ n)
explore_step links start groups node at targets marks before new_marks waiting rest new_waiting n g l read ts same long w x a =
    let are : targets ≡ get_or (map items_of groups) node [] = ts ∙ targets_are groups node at l read in
    let a' : AreMarked (get_or (map items_of groups) node []) marks new_marks rest new_waiting = rw (← are, ← same) a in
    let x' : IsExploring links start marks (rest ++ node ∷ []) = subst (IsExploring links start marks) w x in
    let whole : take n (new_marks ++ drop (length new_marks) marks) ≡ new_marks = written_back new_marks marks n long in
    rw whole (exploring_on links start (map items_of groups) g marks new_marks rest new_waiting node x' a', long)
