-- The sorts of tokens, one behind the other.
use Rattle.std.proofs.Common.{◌≡◌, ℕ, zero, suc, Bool, true, ◌&&◌, refl, ap, sym, ◌∙◌, subst, List, [], ◌∷◌, Some, eqb-true}
use Rattle.std.specs.Prelude.{slice_get}
use Rattle.std.proofs.lemmas.Bool.{and_parts}
use Rattle.qs_lex.specs.declared.token.Word.TheVariants.{Systeme, Graphe, Fin, Dans, Hors, Et, Ou, Non, Version, Egal, Unique}
use Rattle.qs_lex.specs.Grammar.{Sort, a_label, a_label_variable, a_tree_variable, a_forest_variable, a_node_mark, the_word, opening, closing, comma, plus, slash, equals, stop}
use Rattle.qs_lex.specs.Expecting.{number_of, same_sort}

-- each at its number
abbrev all_sorts : List Sort
all_sorts =
    a_label ∷ a_label_variable ∷ a_tree_variable ∷ a_forest_variable ∷ a_node_mark
    ∷ opening ∷ closing ∷ comma ∷ plus ∷ slash ∷ equals ∷ stop
    ∷ (the_word Systeme) ∷ (the_word Graphe) ∷ (the_word Fin) ∷ (the_word Dans) ∷ (the_word Hors) ∷ (the_word Et) ∷ (the_word Ou) ∷ (the_word Non) ∷ (the_word Version) ∷ (the_word Egal) ∷ (the_word Unique) ∷ []

at_number : (s : Sort) → slice_get all_sorts (number_of s) ≡ Some s
at_number a_label = refl
at_number a_label_variable = refl
at_number a_tree_variable = refl
at_number a_forest_variable = refl
at_number a_node_mark = refl
at_number opening = refl
at_number closing = refl
at_number comma = refl
at_number plus = refl
at_number slash = refl
at_number equals = refl
at_number stop = refl
at_number (the_word Systeme) = refl
at_number (the_word Graphe) = refl
at_number (the_word Fin) = refl
at_number (the_word Dans) = refl
at_number (the_word Hors) = refl
at_number (the_word Et) = refl
at_number (the_word Ou) = refl
at_number (the_word Non) = refl
at_number (the_word Version) = refl
at_number (the_word Egal) = refl
at_number (the_word Unique) = refl

pub same_is : (s k : Sort) → same_sort s k ≡ true → k ≡ s
same_is s k e =
    let same : Some k ≡ Some s = sym (at_number k) ∙ ap (slice_get all_sorts) (sym (eqb-true (number_of s) (number_of k) e)) ∙ at_number s in
    cc

-- the test holds of each
abbrev each_of : (Sort → Bool) → List Sort → Bool
each_of P [] = true
each_of P (s ∷ ss) = P s && each_of P ss

each_of_is : (P : Sort → Bool) (ss : List Sort) (n : ℕ) (s : Sort) → each_of P ss ≡ true → slice_get ss n ≡ Some s → P s ≡ true
each_of_is P [] n s e there = cc
each_of_is P (r ∷ rs) zero s e there =
    let same : r ≡ s = (let f : Some r ≡ Some s = there in cc) in subst (λ q. P q ≡ true) same (and_parts (P r) (each_of P rs) e).0
each_of_is P (r ∷ rs) (suc n) s e there = each_of_is P rs n s (and_parts (P r) (each_of P rs) e).1 there

-- the test holds of every sort
abbrev pub every : (Sort → Bool) → Bool
every P = each_of P all_sorts

pub every_is : (P : Sort → Bool) → every P ≡ true → (k : Sort) → P k ≡ true
every_is P e k = each_of_is P all_sorts (number_of k) k e (at_number k)
