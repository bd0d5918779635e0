-- What the rounds keep: each stage is a valid graph with the entry and the exit of the start, and the path of each done
-- firing is a path of it.
use Rattle.std.proofs.Common.{◌≡◌, ◌⊎◌, ◌↔◌, ℕ, zero, suc, ◌+◌, ◌<◌, List, [], ◌∷◌, ◌++◌, length, map, Option, Some, None, refl, sym, ◌∙◌, ap, subst, inl, inr, ⊎_elim, arith}
use Rattle.std.proofs.lemmas.List.{nil_from_length}
use Rattle.qs_canon.proofs.Rounds.{length-after}
use Rattle.qs_tree.specs.Lists.{◌∈◌}
use Rattle.qs_pattern.specs.Rules.{Rule, IsAccepted}
use Rattle.qs_graph.specs.Graphs.{Arc, QGraph, IsPath, IsEntry, IsExit, IsValid}
use Rattle.qs_graph.specs.Chains.{chain}
use Rattle.qs_graph.proofs.Paths.{leads_more}
use Rattle.qs_graph.proofs.Adding.{adding_valid, same_entry, same_exit}
use Rattle.qs_firing.specs.Firings.{Firing}
use Rattle.qs_firing.specs.Adding.{start_of, end_of, built, added, adds, met, first_arc, meets}
use Rattle.qs_firing.proofs.Building.{built_some}
use Rattle.qs_firing.proofs.Merging.{met-adds, unmet-adds}
use Rattle.qs_core.proofs.Growth.{start_is, end_is}
use Rattle.qs_canon.specs.Rounds.{Rounds, Stage, Done, firings, after, after_one, start}

-- the path of a firing is a path over these arcs
pub record HasPath (arcs : List Arc) (f : Firing) : Type 0 where
  pub from : ℕ
  pub to : ℕ
  pub is : IsPath arcs from f.path to

has_path_more : (arcs more : List Arc) (f : Firing) → HasPath arcs f → HasPath (arcs ++ more) f
has_path_more arcs more f h = record { from = h.from; to = h.to; is = record { some = h.is.some; leads = leads_more arcs more h.from f.path h.to h.is.leads } }

-- the firing leads between the ends that the definitions compute
own_path : (arcs : List Arc) (f : Firing) → HasPath arcs f → IsPath arcs (start_of arcs f.path) f.path (end_of arcs f.path)
own_path arcs f h =
    subst (λ a. IsPath arcs a f.path (end_of arcs f.path)) (sym (start_is arcs h.from f.path h.to h.is))
    (subst (λ b. IsPath arcs h.from f.path b) (sym (end_is arcs h.from f.path h.to h.is)) h.is)

-- H is a valid graph with the entry and the exit of G
record StaysAs (G H : QGraph) : Type 0 where
  valid : IsValid H
  entry : (n : ℕ) → IsEntry G n ↔ IsEntry H n
  exit : (n : ℕ) → IsExit G n ↔ IsExit H n

-- a stage is as it should be
pub record Keeps (G : QGraph) (S : Stage) : Type 0 where
  pub valid : IsValid S.graph
  pub entry : (n : ℕ) → IsEntry G n ↔ IsEntry S.graph n
  pub exit : (n : ℕ) → IsExit G n ↔ IsExit S.graph n
  pub paths : (f : Firing) → f ∈ firings S → HasPath S.graph.arcs f

last_cases : (ds : List Done) (d : Done) (f : Firing) → f ∈ map (λ (e : Done). e.firing) (ds ++ d ∷ []) → (f ∈ map (λ (e : Done). e.firing) ds) ⊎ (f ≡ d.firing)
last_cases [] d f (inl e) = inr e
last_cases [] d f (inr i) = absurd i
last_cases (c ∷ ds) d f (inl e) = inl (inl e)
last_cases (c ∷ ds) d f (inr i) = ⊎_elim (λ j. inl (inr j)) inr (last_cases ds d f i)

iff_on : {A B C : Type 0} → A ↔ B → B ↔ C → A ↔ C
iff_on f g = (λ a. g.0 (f.0 a), λ c. f.1 (g.1 c))

-- one more firing is done
module _ (R : List Rule) (G : QGraph) (n : ℕ) (S : Stage) (f : Firing) where
  abbrev a : ℕ
  a = start_of S.graph.arcs f.path

  abbrev b : ℕ
  b = end_of S.graph.arcs f.path

  abbrev pub new : List Arc
  new = chain a (added R S.graph f) (S.graph.nodes + 1) b

  -- the graph with what is added is valid, and its entry and exit stay
  stays : Keeps G S → HasPath S.graph.arcs f → 0 < length (built R f) → StaysAs G (adds R S.graph f)
  stays k h some = by (met R S.graph f) refl
    where
      by : (o : Option ℕ) → met R S.graph f ≡ o → StaysAs G (adds R S.graph f)
      by (Some l) e = subst (StaysAs G) (sym (met-adds R S.graph f l e)) (record { valid = k.valid; entry = k.entry; exit = k.exit })
      by None e =
          let p : IsPath S.graph.arcs a f.path b = own_path S.graph.arcs f h in
          subst (StaysAs G) (sym (unmet-adds R S.graph f e)) (record {
            valid = adding_valid S.graph k.valid a b f.path p (built R f) some;
            entry = λ m. iff_on (k.entry m) (same_entry S.graph k.valid a b f.path p (built R f) some m);
            exit = λ m. iff_on (k.exit m) (same_exit S.graph k.valid a b f.path p (built R f) some m);
          })

  pub keeps_one : Keeps G S → HasPath S.graph.arcs f → 0 < length (built R f) → Keeps G (after_one R n S f)
  keeps_one k h some =
      let s = stays k h some in
      record {
        valid = s.valid;
        entry = s.entry;
        exit = s.exit;
        paths = λ g i. ⊎_elim
            (λ j. has_path_more S.graph.arcs new g (k.paths g j))
            (λ e. has_path_more S.graph.arcs new g (subst (HasPath S.graph.arcs) (sym e) h))
            (last_cases S.done (record { firing = f; first = first_arc R S.graph f; round = n; met = meets R S.graph f }) g i);
      }

keeps_all : (R : List Rule) (G : QGraph) (n : ℕ) (F : List Firing) (S : Stage) → Keeps G S → ((f : Firing) → f ∈ F → HasPath S.graph.arcs f × (0 < length (built R f)))
    → Keeps G (after R n S F)
keeps_all R G n [] S k h = k
keeps_all R G n (f ∷ fs) S k h =
    keeps_all R G n fs (after_one R n S f) (keeps_one R G n S f k (h f (inl refl)).0 (h f (inl refl)).1)
    (λ g i. (has_path_more S.graph.arcs (new R G n S f) g (h g (inr i)).0, (h g (inr i)).1))

module _ (R : List Rule) (accepted : (rule : Rule) → rule ∈ R → IsAccepted rule) (G : QGraph) (valid : IsValid G) where
  keeps_start : Keeps G (start G)
  keeps_start = record { valid = valid; entry = λ n. (λ e. e, λ e. e); exit = λ n. (λ e. e, λ e. e); paths = λ f i. absurd i }

  pub keeps_rounds : (n : ℕ) (S : Stage) → Rounds R G n S → Keeps G S
  keeps_rounds zero S e = subst (Keeps G) (sym e) keeps_start
  keeps_rounds (suc n) S (B, F, b, r, e) =
      subst (Keeps G) (sym e)
      (keeps_all R G (suc n) F B (keeps_rounds n B b)
      (λ f i. let fires = r.fires f i in
      (record { from = fires.from; to = fires.to; is = fires.path }, built_some R accepted B.graph.arcs f fires)))

-- where nothing is done, the graph is the start
pub nothing_done : (R : List Rule) (G : QGraph) (n : ℕ) (S : Stage) → Rounds R G n S → length S.done ≡ 0 → S.graph ≡ G
nothing_done R G zero S e none = ap (λ (X : Stage). X.graph) e
nothing_done R G (suc n) S (B, F, b, r, e) none =
    let long = length-after R (suc n) B F in
    let same = ap (λ (X : Stage). length X.done) e in
    let no_firing : F ≡ [] = nil_from_length F (omega arith) in
    ap (λ (X : Stage). X.graph) (e ∙ ap (λ fs. after R (suc n) B fs) no_firing) ∙ nothing_done R G n B b (omega arith)
