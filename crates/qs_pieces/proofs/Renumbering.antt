-- Between two lists of texts there is a renaming: where the texts of one list differ from each other and each of them is in
-- the other list too, the numbers of the other list can be renamed so that each of these texts has its number in the first.
use Rattle.std.proofs.Common.{◌≡◌, ◌≢◌, ℕ, zero, suc, ◌<◌, ◌≤◌, ◌==◌, ◌⊎◌, List, [], length, cond, Some, get_or, slice_get, Contains, refl, sym, ap, ◌∙◌, subst, ⊎_elim, arith}
use Rattle.std.proofs.lemmas.Bool.Decides.{nat_tests}
use Rattle.std.proofs.lemmas.Option.{slice_get-get_or, slice_get_within}
use Rattle.qs_tree.specs.Names.{AreDistinct}
use Rattle.qs_tree.proofs.NamesLemmas.{Contains-slice_get}
use Rattle.qs_clean.specs.Renaming.{IsRenaming}
use Rattle.qs_pieces.proofs.RenamedGrammars.{Carries}

-- k and m each in the other's place
abbrev exchanged : ℕ → ℕ → ℕ → ℕ
exchanged k m n = cond (n == k) m (cond (n == m) k n)

-- to exchange them twice changes nothing
exchanged_twice : (k m n : ℕ) → exchanged k m (exchanged k m n) ≡ n
exchanged_twice k m n = grind (arith, nat_tests)

-- k becomes m, and what is neither stays
exchanged_first : (k m : ℕ) → exchanged k m k ≡ m
exchanged_first k m = grind (arith, nat_tests)

exchanged_other : (k m n : ℕ) → n ≢ k → n ≢ m → exchanged k m n ≡ n
exchanged_other k m n other another = grind (arith, nat_tests)

module _ (others names : List (List ℕ)) (distinct : AreDistinct others) (among : (text : List ℕ) → Contains others text → Contains names text) where
  -- the numbers below k have their texts
  abbrev CarriesBelow : ℕ → (ℕ → ℕ) → Type 0
  CarriesBelow k g = (j : ℕ) → j < k → (text : List ℕ) → slice_get others j ≡ Some text → slice_get names (g j) ≡ Some text

  abbrev CarriedBelow : ℕ → Type 0
  CarriedBelow k = (f g : ℕ → ℕ) × IsRenaming f g × CarriesBelow k g

  -- one number more
  module _ (k : ℕ) (low : k < length others) (f g : ℕ → ℕ) (renaming : IsRenaming f g) (carries : CarriesBelow k g) where
    -- its text
    abbrev text : List ℕ
    text = get_or others k []

    abbrev has_text : slice_get others k ≡ Some text
    has_text = slice_get-get_or others k [] low

    -- the place of its text among the names, and the number that stands for that place until now
    abbrev there : (n : ℕ) × (slice_get names n ≡ Some text)
    there =
        let (n, within, is) = among text (Contains-slice_get others text k has_text) in
        (n, slice_get-get_or names n text within ∙ ap (λ (t : List ℕ). Some t) is)

    abbrev m : ℕ
    m = f there.0

    -- it is none of the numbers below k, since these have other texts
    not_below : m < k → ⊥
    not_below below =
        let other : List ℕ = get_or others m [] in
        let has_other : slice_get others m ≡ Some other = slice_get-get_or others m [] (omega arith) in
        let carried : slice_get names (g m) ≡ Some other = carries m below other has_other in
        let at : slice_get names (g m) ≡ Some text = subst (λ (n : ℕ). slice_get names n ≡ Some text) (sym (renaming.back there.0)) there.1 in
        let same : m ≡ k = distinct m k text (has_other ∙ sym carried ∙ at) has_text in
        omega arith

    carried_too : CarriedBelow (suc k)
    carried_too = (
      λ n. exchanged k m (f n),
      λ n. g (exchanged k m n),
      record {
        back = λ n. ap g (exchanged_twice k m (f n)) ∙ renaming.back n;
        forth = λ n. ap (exchanged k m) (renaming.forth (exchanged k m n)) ∙ exchanged_twice k m n;
      },
      λ j within t is. ⊎_elim (below j t is) (here j t is) (which j within),
    )
      where
        which : (j : ℕ) → j < suc k → (j < k) ⊎ (j ≡ k)
        which j within = grind arith

        below : (j : ℕ) (t : List ℕ) → slice_get others j ≡ Some t → j < k → slice_get names (g (exchanged k m j)) ≡ Some t
        below j t is less =
            let late : k ≤ m = omega (arith, not_below) in
            ap (λ (n : ℕ). slice_get names (g n)) (exchanged_other k m j (omega arith) (omega arith)) ∙ carries j less t is

        here : (j : ℕ) (t : List ℕ) → slice_get others j ≡ Some t → j ≡ k → slice_get names (g (exchanged k m j)) ≡ Some t
        here j t is same =
            ap (λ (n : ℕ). slice_get names (g (exchanged k m n))) same ∙ ap (λ (n : ℕ). slice_get names (g n)) (exchanged_first k m)
            ∙ ap (slice_get names) (renaming.back there.0) ∙ there.1
            ∙ sym has_text ∙ ap (slice_get others) (sym same) ∙ is

  -- so as many as one likes, beginning with no number renamed
  carried_below : (k : ℕ) → k ≤ length others → CarriedBelow k
  carried_below zero within = (λ n. n, λ n. n, record { back = λ n. refl; forth = λ n. refl }, λ j below. absurd (omega arith))
  carried_below (suc k) within =
      let (f, g, renaming, carries) = carried_below k (omega arith) in
      carried_too k (omega arith) f g renaming carries

  -- and so all
  pub renaming : (f g : ℕ → ℕ) × IsRenaming f g × Carries g others names
  renaming =
      let (f, g, is, carries) = carried_below (length others) (omega arith) in
      (f, g, is, λ k text has. carries k (slice_get_within others k text has) text has)
