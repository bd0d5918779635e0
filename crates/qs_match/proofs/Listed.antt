-- Lists of exactly those of which a fact holds.
use Rattle.std.proofs.Common.{subst, ◌≡◌, ◌⊎◌, inl, inr, List, [], ◌∷◌, ◌++◌, refl, sym, ap, ◌∙◌, append-nil}
use Rattle.qs_tree.specs.Lists.{◌∈◌, Ascends}
use Rattle.qs_tree.proofs.Members.{in_append_left, in_append_right, from_append}
use Rattle.qs_pattern.specs.Substitutions.{Substitution, variables_of}
use Rattle.qs_match.specs.Order.{LengthsBefore}
use Rattle.qs_match.specs.working.Tasks.{Tasks, Solves, AreOfClass, Lists, Appends}

module _ {X : Type 0} where
  pub Ascends-append : (Below : X → X → Type 0) (xs ys : List X) → Ascends Below xs → Ascends Below ys → ((x y : X) → x ∈ xs → y ∈ ys → Below x y) → Ascends Below (xs ++ ys)
  Ascends-append Below [] ys a b h = b
  Ascends-append Below (x ∷ xs) ys a b h = (
    λ z i. elim (from_append xs ys z i) [ inl j ↦ a.0 z j | inr j ↦ h x z (inl refl) j ],
    Ascends-append Below xs ys a.1 b (λ y z i j. h y z (inr i) j),
  )

module _ {P Q : Substitution → Type 0} {found : List Substitution} where
  pub lists_same : ((r : Substitution) → P r → Q r) → ((r : Substitution) → Q r → P r) → Lists P found → Lists Q found
  lists_same to from l = record {
    sound = λ r i. to r (l.sound r i);
    all = λ r q. l.all r (from r q);
    ascends = l.ascends;
  }

pub lists_none : {P : Substitution → Type 0} → ((r : Substitution) → P r → ⊥) → Lists P []
lists_none never = record { sound = λ r i. absurd i; all = λ r p. never r p; ascends = tt }

module _ {P Q A : Substitution → Type 0} {found more : List Substitution} where
  -- two lists, where each of the first comes before each of the second
  pub lists_both : Lists P found → Lists Q more → ((r : Substitution) → P r → A r) → ((r : Substitution) → Q r → A r) → ((r : Substitution) → A r → P r ⊎ Q r)
      → ((r q : Substitution) → P r → Q q → LengthsBefore r q) → Lists A (found ++ more)
  lists_both l m pa qa split order = record {
    sound = λ r i. elim (from_append found more r i) [ inl j ↦ pa r (l.sound r j) | inr j ↦ qa r (m.sound r j) ];
    all = λ r a. elim (split r a) [ inl p ↦ in_append_left found more r (l.all r p) | inr q ↦ in_append_right found more r (m.all r q) ];
    ascends = Ascends-append LengthsBefore found more l.ascends m.ascends (λ r q i j. order r q (l.sound r i) (m.sound q j));
  }

module _ {tasks other : Tasks} {s t : Substitution} {old new : List Substitution} where
  pub appends_same : ((r : Substitution) → Solves other t r → Solves tasks s r) → ((r : Substitution) → Solves tasks s r → Solves other t r) → Appends other t old new → Appends tasks s old new
  appends_same to from a = record { found = a.found; are = a.are; lists = lists_same to from a.lists }

pub appends_none : (tasks : Tasks) (s : Substitution) (old : List Substitution) → ((r : Substitution) → Solves tasks s r → ⊥) → Appends tasks s old old
appends_none tasks s old never = record { found = []; are = sym (append-nil old); lists = lists_none never }

-- Nothing is left to be matched.
solved : (s : Substitution) → AreOfClass s → Solves [] s s
solved s c = record { extends = record { more = []; are = sym (append-nil s); variables = refl; classes = c }; fits = tt }

no_more : (s r more : Substitution) → r ≡ s ++ more → more ≡ [] → r ≡ s
no_more s r more e n = e ∙ ap (λ (t : Substitution). s ++ t) n ∙ append-nil s

no_names : (more : Substitution) → variables_of more ≡ [] → more ≡ []
no_names [] e = refl
no_names (p ∷ more) e = absurd cc

pub appends_one : (s : Substitution) (old : List Substitution) → AreOfClass s → Appends [] s old (old ++ s ∷ [])
appends_one s old c = record {
  found = s ∷ [];
  are = refl;
  lists = record {
    sound = λ r i. elim i [ inl e ↦ subst (λ t. Solves [] s t) (sym e) (solved s c) | inr j ↦ absurd j ];
    all = λ r x. inl (no_more s r x.extends.more x.extends.are (no_names x.extends.more x.extends.variables));
    ascends = (λ y i. absurd i, tt);
  };
}
