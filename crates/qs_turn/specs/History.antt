-- Histories: lists of entries, the earliest first. Each entry names a pass by its number.
use Rattle.std.specs.Prelude.{◌≡◌, ◌≢◌, ℕ, ◌<◌, ◌++◌, List, [], ◌∷◌, Option, Some, None, All}

-- The number of another pass. The passes are numbered from 0, so the number of each is below how many there are.
abbrev pub IsOtherPass : ℕ → ℕ → ℕ → Type 0
IsOtherPass passes number other = (other ≢ number) × (other < passes)

-- The history begins with what the pass of this number has seen, and what follows was entered by other passes.
abbrev pub ContinuedByOthers : {E : Type 0} → (E → ℕ) → ℕ → ℕ → List E → List E → Type 0
ContinuedByOthers pass_of passes number seen history =
    (later : List _) × (history ≡ seen ++ later) × All (λ e. IsOtherPass passes number (pass_of e)) later

-- A history, followed by an entry where one is given.
abbrev pub followed_by : {E : Type 0} → List E → Option E → List E
followed_by history None = history
followed_by history (Some e) = history ++ e ∷ []
