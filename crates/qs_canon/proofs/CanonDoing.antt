-- The firings of a round, one after another.
use Rattle.std.proofs.Common.{◌≡◌, ℕ, ◌+◌, List, [], ◌∷◌, ◌++◌, refl, sym, ◌∙◌, subst, inl, inr, append_assoc, append-nil, slice_get, Some}
use Rattle.qs_tree.specs.Lists.{◌∈◌}
use Rattle.qs_tree.proofs.Members.{in_at}
use Rattle.qs_firing.specs.Firings.{Firing}
use Rattle.qs_core.specs.Core.{Fired}
use Rattle.qs_core.specs.Runs.{Machine}
use Rattle.qs_canon.specs.declared.numbers.Next.{Next}
use Rattle.qs_canon.specs.declared.numbers.Numbers.{Numbers}
use Rattle.qs_canon.specs.Rounds.{Stage}
use Rattle.qs_canon.specs.working.CanonTables.{AreNumbered}
use Rattle.qs_canon.specs.working.CanonNumbers.{table_of, IsInNumbers}
use Rattle.qs_canon.specs.working.CanonSteps.{firings_in, IsAtWork, IsOneOf}

-- of all firings of the round these are left
pub record IsDoing (M : Machine) (start now : Numbers) (round : ℕ) (all rest : List Next) : Type 0 where
  pub work : (n : ℕ) (S : Stage) → round ≡ n + 1 → IsAtWork M start n S [] (firings_in all)
      → (E : List Firing) × (E ++ firings_in rest ≡ firings_in all) × IsAtWork M now n S E (firings_in rest)
  pub stay : (ks ls : List ℕ) → AreNumbered (table_of start.arcs.items) ks ls → AreNumbered (table_of now.arcs.items) ks ls
  pub among : (next : Next) → next ∈ rest → next ∈ all

pub doing_first : (M : Machine) (start : Numbers) (round : ℕ) (all : List Next) → IsDoing M start start round all all
doing_first M start round all = record {
  work = λ n S r w. ([], refl, w);
  stay = λ ks ls a. a;
  among = λ next i. i;
}

module _ (M : Machine) (start now : Numbers) (round : ℕ) (all : List Next) (next : Next) (rest : List Next) (x : IsDoing M start now round all (next ∷ rest)) where
  -- the next firing is a recorded one
  pub next_one : ((m : Next) → m ∈ all → IsInNumbers (table_of start.arcs.items) M.state.done m.place m) → (d : Fired) × (slice_get M.state.done next.place ≡ Some d) × IsOneOf M now.arcs.items d next.firing
  next_one each =
      let (p, (d, at, (ls, a, e))) = each next (x.among next (inl refl)) in
      (d, at, (in_at M.state.done next.place d at, (ls, x.stay d.firing.path ls a, e)))

  pub doing_next : (new : Numbers)
      → ((n : ℕ) (S : Stage) (E F : List Firing) → round ≡ n + 1 → IsAtWork M now n S E (next.firing ∷ F) → IsAtWork M new n S (E ++ next.firing ∷ []) F)
      → ((ks ls : List ℕ) → AreNumbered (table_of now.arcs.items) ks ls → AreNumbered (table_of new.arcs.items) ks ls)
      → IsDoing M start new round all rest
  doing_next new work stay = record {
    work = λ n S r w.
        let (E, e, v) = x.work n S r w in
        (E ++ next.firing ∷ [], append_assoc E (next.firing ∷ []) (firings_in rest) ∙ e, work n S E (firings_in rest) r v);
    stay = λ ks ls a. stay ks ls (x.stay ks ls a);
    among = λ m i. x.among m (inr i);
  }

pub doing_last : (M : Machine) (start now : Numbers) (round : ℕ) (all : List Next) → IsDoing M start now round all []
    → (n : ℕ) (S : Stage) → round ≡ n + 1 → IsAtWork M start n S [] (firings_in all) → IsAtWork M now n S (firings_in all) []
doing_last M start now round all x n S r w =
    let (E, e, v) = x.work n S r w in
    subst (λ F. IsAtWork M now n S F []) (sym (append-nil E) ∙ e) v
