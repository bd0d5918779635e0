-- Marks exist: what is denoted and what links reach can be decided, number by number.
use Rattle.std.proofs.Common.{◌≡◌, ◌⊎◌, ◌↔◌, ℕ, zero, suc, ◌+◌, ◌<◌, Bool, false, true, List, [], ◌∷◌, length, refl, sym, ◌∙◌, ap, subst, inl, inr, ⊎_elim, arith}
use Rattle.qs_tree.specs.Lists.{◌∈◌}
use Rattle.qs_tree.proofs.Decisions.{decide_number, decide_member}
use Rattle.qs_firing.specs.Firings.{Firing}
use Rattle.qs_canon.specs.Rounds.{Stage, firings}
use Rattle.qs_clean.specs.declared.links.Link.{Link}
use Rattle.qs_clean.specs.Marks.{IsMarked}
use Rattle.qs_clean.specs.working.Links.{Reaches, here, onward}
use Rattle.qs_clean.specs.Cleaning.{IsDenoted}
use Rattle.qs_clean.proofs.ArcLists.{reaches_on}

-- a mark for each of so many numbers of which P holds, from i on
abbrev mark_of : {P : Type 0} → Dec P → Bool
mark_of (yes p) = true
mark_of (no n) = false

module _ (P : ℕ → Type 0) (d : (n : ℕ) → Dec (P n)) where
  abbrev pub marks_from : ℕ → ℕ → List Bool
  marks_from i zero = []
  marks_from i (suc many) = mark_of (d i) ∷ marks_from (i + 1) many

  pub length-marks : (i many : ℕ) → length (marks_from i many) ≡ many
  length-marks i zero = refl
  length-marks i (suc many) = ap suc (length-marks (i + 1) many)

  mark_holds : (n : ℕ) (e : Dec (P n)) → mark_of e ≡ true → P n
  mark_holds n (yes p) is = p
  mark_holds n (no f) is = absurd cc

  holds_mark : (n : ℕ) (e : Dec (P n)) → P n → mark_of e ≡ true
  holds_mark n (yes p) h = refl
  holds_mark n (no f) h = absurd (f h)

  marked_from : (i many k : ℕ) → IsMarked (marks_from i many) k → P (i + k)
  marked_from i zero k m = absurd cc
  marked_from i (suc many) zero m = let e : i ≡ i + 0 = omega arith in subst P e (mark_holds i (d i) m)
  marked_from i (suc many) (suc k) m = let e : i + 1 + k ≡ i + suc k = omega arith in subst P e (marked_from (i + 1) many k m)

  from_marked : (i many k : ℕ) → k < many → P (i + k) → IsMarked (marks_from i many) k
  from_marked i zero k l h = absurd (omega arith)
  from_marked i (suc many) zero l h = let e : i + 0 ≡ i = omega arith in holds_mark i (d i) (subst P e h)
  from_marked i (suc many) (suc k) l h = let e : i + suc k ≡ i + 1 + k = omega arith in from_marked (i + 1) many k (omega arith) (subst P e h)

  -- the marks of those of which P holds, where these are fewer than so many
  pub marks_are : (many : ℕ) → ((n : ℕ) → P n → n < many) → (n : ℕ) → IsMarked (marks_from 0 many) n ↔ P n
  marks_are many low n = (
    λ m. let e : 0 + n ≡ n = omega arith in subst P e (marked_from 0 many n m),
    λ h. let e : n ≡ 0 + n = omega arith in from_marked 0 many n (low n h) (subst P e h),
  )

-- whether the path of one of some firings uses an arc
used_by : (fs : List Firing) (k : ℕ) → Dec ((f : Firing) × (f ∈ fs) × (k ∈ f.path))
used_by [] k = no (λ u. u.1)
used_by (f ∷ fs) k = either (decide_member decide_number k f.path) (used_by fs k)
  where
    either : Dec (k ∈ f.path) → Dec ((g : Firing) × (g ∈ fs) × (k ∈ g.path)) → Dec ((g : Firing) × (g ∈ (f ∷ fs)) × (k ∈ g.path))
    either (yes i) q = yes (f, inl refl, i)
    either (no n) (yes u) = yes (u.0, inr u.1, u.2)
    either (no n) (no m) = no (λ u. ⊎_elim (λ e. n (subst (λ (g : Firing). k ∈ g.path) e u.2)) (λ j. m (u.0, j, u.2)) u.1)

pub decide_denoted : (S : Stage) (k : ℕ) → Dec (IsDenoted S k)
decide_denoted S k = by (used_by (firings S) k)
  where
    by : Dec ((f : Firing) × (f ∈ firings S) × (k ∈ f.path)) → Dec (IsDenoted S k)
    by (yes u) = yes (record { by = u.0; done = u.1; used = u.2 })
    by (no n) = no (λ d. n (d.by, d.done, d.used))

-- one more link leads where the others do, and from where they lead to its start to where they lead from its end
pub reaches_wider : (link : Link) {links : List Link} {a b : ℕ} → Reaches links a b → Reaches (link ∷ links) a b
reaches_wider link here = here
reaches_wider link (onward first i e r) = onward first (inr i) e (reaches_wider link r)

pub reaches_across : (link : Link) (links : List Link) {a b : ℕ} → Reaches links a link.from → Reaches links link.to b → Reaches (link ∷ links) a b
reaches_across link links r s = reaches_on (reaches_wider link r) (onward link (inl refl) refl (reaches_wider link s))

pub reaches_parts : (link : Link) (links : List Link) {a b : ℕ} → Reaches (link ∷ links) a b → Reaches links a b ⊎ (Reaches links a link.from × Reaches links link.to b)
reaches_parts link links here = inl here
reaches_parts link links {a = a} {b} (onward first (inl s) e r) = inr (
  subst (Reaches links a) (sym e ∙ ap (λ (l : Link). l.from) s) here,
  ⊎_elim (λ t. subst (λ (l : Link). Reaches links l.to b) s t) (λ t. t.1) (reaches_parts link links r),
)
reaches_parts link links (onward first (inr i) e r) =
    ⊎_elim (λ t. inl (onward first i e t)) (λ t. inr (onward first i e t.0, t.1)) (reaches_parts link links r)

no_link : {a b : ℕ} → Reaches [] a b → a ≡ b
no_link here = refl
no_link (onward link i e r) = absurd i

pub decide_reaches : (links : List Link) (a b : ℕ) → Dec (Reaches links a b)
decide_reaches [] a b = by (decide_number a b)
  where
    by : Dec (a ≡ b) → Dec (Reaches [] a b)
    by (yes e) = yes (subst (Reaches [] a) e here)
    by (no n) = no (λ r. n (no_link r))
decide_reaches (link ∷ links) a b = by (decide_reaches links a b) (decide_reaches links a link.from) (decide_reaches links link.to b)
  where
    by : Dec (Reaches links a b) → Dec (Reaches links a link.from) → Dec (Reaches links link.to b) → Dec (Reaches (link ∷ links) a b)
    by (yes r) q s = yes (reaches_wider link r)
    by (no n) (yes q) (yes s) = yes (reaches_across link links q s)
    by (no n) (no m) s = no (λ r. ⊎_elim n (λ t. m t.0) (reaches_parts link links r))
    by (no n) q (no m) = no (λ r. ⊎_elim n (λ t. m t.1) (reaches_parts link links r))
