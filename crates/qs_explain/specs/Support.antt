-- Where the arcs that cleaning keeps come from. (This project.)
use Rattle.std.specs.Prelude.{ℕ, ◌<◌, ◌-◌, ◌↔◌, if◌then◌else◌, List, [], ◌∷◌, length, drop, slice_get, unwrap_or}
use Rattle.std.specs.Option.{option_map}
use Rattle.qs_tree.specs.Lists.{◌∈◌, Ascends}
use Rattle.qs_firing.specs.Adding.{from_on}
use Rattle.qs_canon.specs.Rounds.{Done, Stage}
use Rattle.qs_clean.specs.Cleaning.{Stays}

-- Of firings done one after another, the first arc of the next one that met none; where there is no such firing, the
-- number of arcs at the end. All arcs before it stood before any of these firings was done, or were met.
abbrev pub next_first : ℕ → List Done → ℕ
next_first arcs [] = arcs
next_first arcs (d ∷ ds) = if d.met then next_first arcs ds else d.first

-- The arcs that the first of these firings added: none where it met its result; else those from its first arc up to,
-- and without, the first arc of the next firing that met none, or up to the end.
abbrev pub added_first : ℕ → List Done → List ℕ
added_first arcs [] = []
added_first arcs (d ∷ ds) = if d.met then [] else from_on d.first (next_first arcs ds - d.first)

-- The arcs that the firing at this place of a stage's list added, by their numbers, and those of its path. Places count
-- from 0; at a place where there is no firing, nothing was added.
abbrev pub added_at : Stage → ℕ → List ℕ
added_at S i = added_first (length S.graph.arcs) (drop i S.done)

abbrev pub path_at : Stage → ℕ → List ℕ
path_at S i = unwrap_or (option_map (λ d. d.firing.path) (slice_get S.done i)) []

-- The supported arcs, and the places of the supported firings: those that these rules give, and no others. An arc that
-- stays is supported; so is each arc in the path of a supported firing, and each arc that a supported firing added,
-- beside others that it added or alone. A firing that added a supported arc is supported.
mutual
  pub data IsSupportedArc (S : Stage) : ℕ → Type 0 where
    it_stays : {k : ℕ} → Stays S k → IsSupportedArc S k
    in_path : {i k : ℕ} → IsSupportedFiring S i → k ∈ path_at S i → IsSupportedArc S k
    beside : {i k : ℕ} → IsSupportedFiring S i → k ∈ added_at S i → IsSupportedArc S k

  pub data IsSupportedFiring (S : Stage) : ℕ → Type 0 where
    added : {i k : ℕ} → IsSupportedArc S k → k ∈ added_at S i → IsSupportedFiring S i

-- Two lists: of arcs by their numbers, and of firings by their places.
pub record SupportOf : Type 0 where
  pub arcs : List ℕ
  pub firings : List ℕ

-- s is the support of a stage: its lists have, ascending, exactly the supported arcs and the supported firings.
pub record IsSupport (S : Stage) (s : SupportOf) : Type 0 where
  pub arcs_ascend : Ascends ◌<◌ s.arcs
  pub arcs_are : (k : ℕ) → k ∈ s.arcs ↔ IsSupportedArc S k
  pub firings_ascend : Ascends ◌<◌ s.firings
  pub firings_are : (i : ℕ) → i ∈ s.firings ↔ IsSupportedFiring S i

-- The firing at some place added the arc. It is supported, and its path has supported arcs alone, each of a smaller
-- number.
pub record WasAdded (S : Stage) (k : ℕ) : Type 0 where
  pub place : ℕ
  pub supported : IsSupportedFiring S place
  pub added : k ∈ added_at S place
  pub path_supported : (j : ℕ) → j ∈ path_at S place → IsSupportedArc S j
  pub path_smaller : (j : ℕ) → j ∈ path_at S place → j < k
