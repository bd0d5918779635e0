-- What rounds reach has grown, each firing once; in the closure all firings are done.
use Rattle.std.proofs.Common.{◌≡◌, ℕ, zero, suc, List, [], ◌∷◌, ◌++◌, length, refl, sym, ◌∙◌, ap, subst, inl, inr, ⊎_elim, append_assoc, append-nil}
use Rattle.std.proofs.lemmas.List.{map-append, length-map}
use Rattle.qs_tree.specs.Lists.{◌∈◌, Ascends}
use Rattle.qs_tree.proofs.Members.{from_append}
use Rattle.qs_pattern.specs.Rules.{Rule}
use Rattle.qs_graph.specs.Graphs.{QGraph}
use Rattle.qs_firing.specs.Firings.{Firing, Fires, Before}
use Rattle.qs_firing.specs.Adding.{adds, first_arc, meets}
use Rattle.qs_firing.proofs.Orders.{Before-asym}
use Rattle.qs_firing.proofs.Within.{fires_stays, within_adds}
use Rattle.qs_core.specs.Growth.{Grown, DoneAt, AllApart}
use Rattle.qs_core.proofs.Growth.{grown_more, at_more, at_last}
use Rattle.qs_canon.specs.Rounds.{Rounds, Stage, Done, firings, after, after_one, Closes}

pub length-firings : (S : Stage) → length (firings S) ≡ length S.done
length-firings S = length-map S.done (λ d. d.firing)

pub firings-one : (R : List Rule) (n : ℕ) (S : Stage) (f : Firing) → firings (after_one R n S f) ≡ firings S ++ f ∷ []
firings-one R n S f = map-append (λ (d : Done). d.firing) S.done (record { firing = f; first = first_arc R S.graph f; met = meets R S.graph f; round = n } ∷ [])

pub firings-after : (R : List Rule) (n : ℕ) (S : Stage) (F : List Firing) → firings (after R n S F) ≡ firings S ++ F
firings-after R n S [] = sym (append-nil (firings S))
firings-after R n S (f ∷ F) = firings-after R n (after_one R n S f) F ∙ ap (λ xs. xs ++ F) (firings-one R n S f) ∙ append_assoc (firings S) (f ∷ []) F

pub grown_after : (R : List Rule) (G : QGraph) (n : ℕ) (S : Stage) (F : List Firing) → Grown R G (firings S) S.graph → ((f : Firing) → f ∈ F → Fires R S.graph.arcs f)
    → Grown R G (firings (after R n S F)) (after R n S F).graph
grown_after R G n S [] g fires = g
grown_after R G n S (f ∷ F) g fires =
    grown_after R G n (after_one R n S f) F
    (subst (λ xs. Grown R G xs (adds R S.graph f)) (sym (firings-one R n S f)) (grown_more R G (firings S) S.graph f g (fires f (inl refl))))
    (λ h i. fires_stays R (within_adds R S.graph f) (fires h (inr i)))

pub rounds_grown : (R : List Rule) (G : QGraph) (n : ℕ) (S : Stage) → Rounds R G n S → Grown R G (firings S) S.graph
rounds_grown R G zero S e = subst (λ (X : Stage). Grown R G (firings X) X.graph) (sym e) refl
rounds_grown R G (suc n) S (B, F, b, r, e) =
    subst (λ (X : Stage). Grown R G (firings X) X.graph) (sym e) (grown_after R G (suc n) B F (rounds_grown R G n B b) r.fires)

ascends_apart : (F : List Firing) → Ascends Before F → AllApart F
ascends_apart [] a = tt
ascends_apart (f ∷ F) a = ((λ i. let b = a.0 f i in Before-asym f f b b), ascends_apart F a.1)

append_apart : (xs ys : List Firing) → AllApart xs → AllApart ys → ((f : Firing) → f ∈ ys → f ∈ xs → ⊥) → AllApart (xs ++ ys)
append_apart [] ys a b new = b
append_apart (x ∷ xs) ys a b new = ((λ i. ⊎_elim a.0 (λ j. new x j (inl refl)) (from_append xs ys x i)), append_apart xs ys a.1 b (λ f i j. new f i (inr j)))

pub rounds_apart : (R : List Rule) (G : QGraph) (n : ℕ) (S : Stage) → Rounds R G n S → AllApart (firings S)
rounds_apart R G zero S e = subst (λ (X : Stage). AllApart (firings X)) (sym e) tt
rounds_apart R G (suc n) S (B, F, b, r, e) =
    subst (λ (X : Stage). AllApart (firings X)) (sym e)
    (subst AllApart (sym (firings-after R (suc n) B F)) (append_apart (firings B) F (rounds_apart R G n B b) (ascends_apart F r.ascends) r.new))

pub closes_all : (R : List Rule) (G : QGraph) (C : Stage) → Closes R G C → (f : Firing) → Fires R C.graph.arcs f → f ∈ firings C
closes_all R G C c f r = ⊎_elim (λ i. i) (λ i. absurd i) (c.closed.all f r)

-- the recorded first arc of a firing is that of its result in the graph to which it was added
abbrev HasFirst : List Rule → QGraph → Stage → Done → Type 0
HasFirst R G S d = (P : QGraph) × DoneAt R G (firings S) d.firing P × (d.first ≡ first_arc R P d.firing) × (d.met ≡ meets R P d.firing)

first_after : (R : List Rule) (G : QGraph) (n : ℕ) (S : Stage) (F : List Firing) → Grown R G (firings S) S.graph → ((f : Firing) → f ∈ F → Fires R S.graph.arcs f)
    → ((d : Done) → d ∈ S.done → HasFirst R G S d) → (d : Done) → d ∈ (after R n S F).done → HasFirst R G (after R n S F) d
first_after R G n S [] g fires old d i = old d i
first_after R G n S (f ∷ F) g fires old d i =
    first_after R G n (after_one R n S f) F
    (subst (λ xs. Grown R G xs (adds R S.graph f)) (sym (firings-one R n S f)) (grown_more R G (firings S) S.graph f g (fires f (inl refl))))
    (λ h j. fires_stays R (within_adds R S.graph f) (fires h (inr j)))
    (λ e j. ⊎_elim (kept e) (λ k. ⊎_elim (added e) (λ b. absurd b) k) (from_append S.done (record { firing = f; first = first_arc R S.graph f; met = meets R S.graph f; round = n } ∷ []) e j))
    d i
  where
    kept : (e : Done) → e ∈ S.done → HasFirst R G (after_one R n S f) e
    kept e j = let (P, a, l, m) = old e j in (P, subst (λ xs. DoneAt R G xs e.firing P) (sym (firings-one R n S f)) (at_more R G (firings S) (f ∷ []) e.firing P a), l, m)

    added : (e : Done) → e ≡ record { firing = f; first = first_arc R S.graph f; met = meets R S.graph f; round = n } → HasFirst R G (after_one R n S f) e
    added e same = subst (HasFirst R G (after_one R n S f)) (sym same) (S.graph, subst (λ xs. DoneAt R G xs f S.graph) (sym (firings-one R n S f)) (at_last R G (firings S) S.graph f g), refl, refl)

pub first_is : (R : List Rule) (G : QGraph) (n : ℕ) (S : Stage) → Rounds R G n S → (d : Done) → d ∈ S.done → (P : QGraph) × DoneAt R G (firings S) d.firing P × (d.first ≡ first_arc R P d.firing) × (d.met ≡ meets R P d.firing)
first_is R G zero S e = subst (λ (X : Stage). (d : Done) → d ∈ X.done → HasFirst R G X d) (sym e) (λ d i. absurd i)
first_is R G (suc n) S (B, F, b, r, e) =
    subst (λ (X : Stage). (d : Done) → d ∈ X.done → HasFirst R G X d) (sym e) (first_after R G (suc n) B F (rounds_grown R G n B b) r.fires (first_is R G n B b))
