-- Rules with which each graph has a round close with at most L firings, or need more.
use Rattle.std.proofs.Common.{ℕ, zero, suc, ◌+◌, ◌≤◌, List, [], ◌∷◌, length, refl, inl, inr, ⊎_elim, ◌⊎◌, arith}
use Rattle.std.proofs.lemmas.Bool.{cases_lt}
use Rattle.qs_pattern.specs.Rules.{Rule}
use Rattle.qs_graph.specs.Graphs.{QGraph}
use Rattle.qs_firing.specs.Firings.{Firing}
use Rattle.qs_canon.specs.Rounds.{Round, HasRounds, Rounds, Stage, start, firings, after, Closes, ClosesWithin, Needs}
use Rattle.qs_canon.proofs.Rounds.{length-after}

-- the rules have closed in at most n rounds
abbrev ClosedBy : List Rule → QGraph → ℕ → Type 0
ClosedBy R G n = (C : Stage) × (c : Closes R G C) × (c.rounds ≤ n)

-- n rounds have done at least n firings
abbrev GoesOn : List Rule → QGraph → ℕ → Type 0
GoesOn R G n = (S : Stage) × Rounds R G n S × (n ≤ length S.done)

progress : (R : List Rule) → HasRounds R → (G : QGraph) (n : ℕ) → ClosedBy R G n ⊎ GoesOn R G n
progress R has G zero = inr (start G, refl, omega arith)
progress R has G (suc n) = ⊎_elim closed further (progress R has G n)
  where
    closed : ClosedBy R G n → ClosedBy R G (suc n) ⊎ GoesOn R G (suc n)
    closed (C, c, h) = inl (C, c, omega arith)

    next : (S : Stage) → Rounds R G n S → n ≤ length S.done → (F : List Firing) → Round R S.graph (firings S) F → ClosedBy R G (suc n) ⊎ GoesOn R G (suc n)
    next S s h [] r = inl (S, record { rounds = n; reached = s; closed = r }, omega arith)
    next S s h (f ∷ fs) r =
        inr (after R (suc n) S (f ∷ fs), (S, f ∷ fs, s, r, refl), omega (arith, length-after R (suc n) S (f ∷ fs)))

    further : GoesOn R G n → ClosedBy R G (suc n) ⊎ GoesOn R G (suc n)
    further (S, s, h) = let (F, r) = has S.graph (firings S) in next S s h F r

pub closes_or_needs : (R : List Rule) → HasRounds R → (G : QGraph) (L : ℕ) → ClosesWithin R G L ⊎ Needs R G L
closes_or_needs R has G L = ⊎_elim closed more (progress R has G (L + 1))
  where
    closed : ClosedBy R G (L + 1) → ClosesWithin R G L ⊎ Needs R G L
    closed (C, c, h) = ⊎_elim
        (λ many. inr (record { rounds = c.rounds; within = h; stage = C; reached = c.reached; more = many }))
        (λ few. inl (record { closure = C; closes = c; few = few }))
        (cases_lt L (length C.done))

    more : GoesOn R G (L + 1) → ClosesWithin R G L ⊎ Needs R G L
    more (S, s, h) = inr (record { rounds = L + 1; within = omega arith; stage = S; reached = s; more = omega arith })
