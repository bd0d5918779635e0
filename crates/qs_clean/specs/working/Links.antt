-- Links between nodes, and the nodes to which they lead.
use Rattle.std.specs.Prelude.{ℕ, ◌≡◌, ◌+◌, ◌⊎◌, Bool, true, false, List, [], ◌∷◌, length, slice_index_or}
use Rattle.qs_tree.specs.Lists.{◌∈◌}
use Rattle.qs_clean.specs.Marks.{IsMarked}
use Rattle.qs_clean.specs.declared.links.Link.{Link}

-- Links lead from a to b: none where a is b, or some, each from where the one before it ends.
pub data Reaches (links : List Link) : ℕ → ℕ → Type 0 where
  here : {a : ℕ} → Reaches links a a
  onward : {a b : ℕ} (link : Link) → link ∈ links → link.from ≡ a → Reaches links link.to b → Reaches links a b

-- The same link in the other direction.
abbrev pub turned : Link → Link
turned link = record { from = link.to; to = link.from }

-- One link leads from a to b.
pub record IsLinked (links : List Link) (a b : ℕ) : Type 0 where
  pub link : Link
  pub is_in : link ∈ links
  pub from : link.from ≡ a
  pub to : link.to ≡ b

-- For each node from 0, the nodes to which a link leads from it.
pub record AreGroups (links : List Link) (groups : List (List ℕ)) : Type 0 where
  pub sound : (a b : ℕ) → b ∈ slice_index_or groups a [] → IsLinked links a b
  pub all : (link : Link) → link ∈ links → link.to ∈ slice_index_or groups link.from []

-- How many numbers are not marked.
abbrev pub unmarked : List Bool → ℕ
unmarked [] = 0
unmarked (true ∷ marks) = unmarked marks
unmarked (false ∷ marks) = unmarked marks + 1

-- The targets are marked, and those that were not wait behind the others.
pub record AreMarked (targets : List ℕ) (marks new_marks : List Bool) (waiting new_waiting : List ℕ) : Type 0 where
  pub marked : (n : ℕ) → IsMarked new_marks n → IsMarked marks n ⊎ (n ∈ targets)
  pub still : (n : ℕ) → IsMarked marks n → IsMarked new_marks n
  pub all : (n : ℕ) → n ∈ targets → IsMarked new_marks n
  pub waits : (n : ℕ) → n ∈ new_waiting → (n ∈ waiting) ⊎ (n ∈ targets)
  pub still_waits : (n : ℕ) → n ∈ waiting → n ∈ new_waiting
  pub new_waits : (n : ℕ) → IsMarked new_marks n → IsMarked marks n ⊎ (n ∈ new_waiting)
  pub work : unmarked new_marks + length new_waiting ≡ unmarked marks + length waiting
