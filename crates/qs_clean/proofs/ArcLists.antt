-- What is made of arcs and of marks, member by member.
use Rattle.std.proofs.Common.{◌≡◌, ◌⊎◌, ℕ, zero, suc, ◌+◌, Bool, false, true, ◌&&◌, not, List, [], ◌∷◌, ◌++◌, length, map, get_or, slice_get, Option, Some, None, refl, sym, ◌∙◌, ap, subst, inl, inr, ⊎_elim, arith, append_assoc}
use Rattle.std.specs.Prelude.{if◌then◌else◌}
use Rattle.std.specs.List.{cons_option}
use Rattle.std.proofs.lemmas.List.{length_push}
use Rattle.std.proofs.lemmas.Option.{same_Some}
use Rattle.qs_tree.specs.Lists.{◌∈◌}
use Rattle.qs_tree.proofs.Members.{mapped, in_map}
use Rattle.qs_graph.specs.Graphs.{Arc, arcs_at}
use Rattle.qs_clean.specs.declared.links.Link.{Link}
use Rattle.qs_clean.specs.Marks.{IsMarked}
use Rattle.qs_clean.specs.working.Links.{Reaches, here, onward, turned}
use Rattle.qs_clean.specs.working.Steps.{each_pair, free_link, keeps_mark, marked, numbered_arc, if_kept}
use Rattle.qs_clean.proofs.Exploring.{reaches_more}
use Rattle.qs_clean.proofs.Places.{places}
use Rattle.qs_firing.proofs.Merging.{at_seam}

-- the arcs of these numbers
module _ (arcs : List Arc) where
  pub in_arcs_at : (ks : List ℕ) (arc : Arc) → arc ∈ arcs_at arcs ks → (k : ℕ) × (k ∈ ks) × (slice_get arcs k ≡ Some arc)
  in_arcs_at [] arc i = absurd i
  in_arcs_at (k ∷ ks) arc i = tested (slice_get arcs k) refl i (in_arcs_at ks arc)
    where
      tested : (o : Option Arc) → slice_get arcs k ≡ o → arc ∈ cons_option o (arcs_at arcs ks) → (arc ∈ arcs_at arcs ks → (j : ℕ) × (j ∈ ks) × (slice_get arcs j ≡ Some arc))
          → (j : ℕ) × (j ∈ (k ∷ ks)) × (slice_get arcs j ≡ Some arc)
      tested None e i rest = let (j, m, is) = rest i in (j, inr m, is)
      tested (Some other) e (inl s) rest = (k, inl refl, e ∙ ap Some (sym s))
      tested (Some other) e (inr i) rest = let (j, m, is) = rest i in (j, inr m, is)

  pub to_arcs_at : (ks : List ℕ) (k : ℕ) (arc : Arc) → k ∈ ks → slice_get arcs k ≡ Some arc → arc ∈ arcs_at arcs ks
  to_arcs_at [] k arc i is = absurd i
  to_arcs_at (j ∷ ks) k arc (inl e) is =
      let at : slice_get arcs j ≡ Some arc = ap (slice_get arcs) (sym e) ∙ is in
      subst (λ o. arc ∈ cons_option o (arcs_at arcs ks)) (sym at) (inl refl)
  to_arcs_at (j ∷ ks) k arc (inr i) is = behind (slice_get arcs j) (to_arcs_at ks k arc i is)
    where
      behind : (o : Option Arc) → arc ∈ arcs_at arcs ks → arc ∈ cons_option o (arcs_at arcs ks)
      behind None m = m
      behind (Some other) m = inr m

-- the arcs that are marked, in their order
abbrev pub chosen : List Arc → List Bool → List Arc
chosen arcs marks = each_pair (λ arc mark. if mark then arc ∷ [] else []) arcs marks

arcs_behind : (before arcs : List Arc) (marks : List Bool) → length marks ≡ length arcs → arcs_at (before ++ arcs) (places (length before) marks) ≡ chosen arcs marks
arcs_behind before [] [] e = refl
arcs_behind before [] (m ∷ marks) e = absurd (omega arith)
arcs_behind before (arc ∷ arcs) [] e = absurd (omega arith)
arcs_behind before (arc ∷ arcs) (true ∷ marks) e =
    let rest : arcs_at ((before ++ arc ∷ []) ++ arcs) (places (length (before ++ arc ∷ [])) marks) ≡ chosen arcs marks = arcs_behind (before ++ arc ∷ []) arcs marks (omega arith) in
    let rest' : arcs_at (before ++ arc ∷ arcs) (places (length before + 1) marks) ≡ chosen arcs marks = rw (append_assoc before (arc ∷ []) arcs, length_push before arc) at rest in
    ap (λ o. cons_option o (arcs_at (before ++ arc ∷ arcs) (places (length before + 1) marks))) (at_seam before arc arcs) ∙ ap (λ (more : List Arc). arc ∷ more) rest'
arcs_behind before (arc ∷ arcs) (false ∷ marks) e =
    let rest : arcs_at ((before ++ arc ∷ []) ++ arcs) (places (length (before ++ arc ∷ [])) marks) ≡ chosen arcs marks = arcs_behind (before ++ arc ∷ []) arcs marks (omega arith) in
    rw (append_assoc before (arc ∷ []) arcs, length_push before arc) at rest

pub arcs_at-places : (arcs : List Arc) (marks : List Bool) → length marks ≡ length arcs → arcs_at arcs (places 0 marks) ≡ chosen arcs marks
arcs_at-places arcs marks e = arcs_behind [] arcs marks e

pub each_if_kept : (numbers : List ℕ) (arcs : List Arc) (marks : List Bool) → each_pair (if_kept numbers) arcs marks ≡ map (numbered_arc numbers) (chosen arcs marks)
each_if_kept numbers [] marks = refl
each_if_kept numbers (arc ∷ arcs) [] = refl
each_if_kept numbers (arc ∷ arcs) (true ∷ marks) = ap (λ (more : List Arc). numbered_arc numbers arc ∷ more) (each_if_kept numbers arcs marks)
each_if_kept numbers (arc ∷ arcs) (false ∷ marks) = each_if_kept numbers arcs marks

pub length-if_kept : (numbers : List ℕ) (arcs : List Arc) (marks : List Bool) → length marks ≡ length arcs → length (each_pair (if_kept numbers) arcs marks) ≡ marked marks
length-if_kept numbers [] [] e = refl
length-if_kept numbers [] (m ∷ marks) e = absurd (omega arith)
length-if_kept numbers (arc ∷ arcs) [] e = absurd (omega arith)
length-if_kept numbers (arc ∷ arcs) (true ∷ marks) e = omega (arith, length-if_kept numbers arcs marks (omega arith))
length-if_kept numbers (arc ∷ arcs) (false ∷ marks) e = length-if_kept numbers arcs marks (omega arith)

-- an arc that is not denoted leads from a to b
pub record FreeArc (arcs : List Arc) (denoted : List Bool) (a b : ℕ) : Type 0 where
  pub number : ℕ
  pub arc : Arc
  pub is : slice_get arcs number ≡ Some arc
  pub free : get_or denoted number false ≡ false
  pub from : arc.from ≡ a
  pub to : arc.to ≡ b

abbrev link_of : Arc → Link
link_of arc = record { from = arc.from; to = arc.to }

later : (first : Arc) (mark : Bool) (arcs : List Arc) (denoted : List Bool) (a b : ℕ) → FreeArc arcs denoted a b → FreeArc (first ∷ arcs) (mark ∷ denoted) a b
later first mark arcs denoted a b f = record { number = suc f.number; arc = f.arc; is = f.is; free = f.free; from = f.from; to = f.to }

pub free_from_link : (arcs : List Arc) (denoted : List Bool) (link : Link) → link ∈ each_pair free_link arcs denoted → FreeArc arcs denoted link.from link.to
free_from_link [] denoted link i = absurd i
free_from_link (arc ∷ arcs) [] link i = absurd i
free_from_link (arc ∷ arcs) (true ∷ denoted) link i = later arc true arcs denoted link.from link.to (free_from_link arcs denoted link i)
free_from_link (arc ∷ arcs) (false ∷ denoted) link (inl e) =
    record { number = 0; arc = arc; is = refl; free = refl; from = ap (λ (l : Link). l.from) (sym e); to = ap (λ (l : Link). l.to) (sym e) }
free_from_link (arc ∷ arcs) (false ∷ denoted) link (inr i) = later arc false arcs denoted link.from link.to (free_from_link arcs denoted link i)

pub link_from_free : (arcs : List Arc) (denoted : List Bool) → length denoted ≡ length arcs → (k : ℕ) (arc : Arc) → slice_get arcs k ≡ Some arc → get_or denoted k false ≡ false
    → link_of arc ∈ each_pair free_link arcs denoted
link_from_free [] denoted e k arc is free = absurd cc
link_from_free (first ∷ arcs) [] e k arc is free = absurd (omega arith)
link_from_free (first ∷ arcs) (true ∷ denoted) e zero arc is free = absurd cc
link_from_free (first ∷ arcs) (true ∷ denoted) e (suc k) arc is free = link_from_free arcs denoted (omega arith) k arc is free
link_from_free (first ∷ arcs) (false ∷ denoted) e zero arc is free = inl (ap link_of (sym (same_Some first arc is)))
link_from_free (first ∷ arcs) (false ∷ denoted) e (suc k) arc is free = inr (link_from_free arcs denoted (omega arith) k arc is free)

-- an arc that is kept
pub record KeptArc (arcs : List Arc) (denoted from_entry to_exit : List Bool) (k : ℕ) : Type 0 where
  pub arc : Arc
  pub is : slice_get arcs k ≡ Some arc
  pub free : get_or denoted k false ≡ false
  pub from : IsMarked from_entry arc.from
  pub to : IsMarked to_exit arc.to

keeps_parts : (d a b : Bool) → (not d && (a && b)) ≡ true → (d ≡ false) × (a ≡ true) × (b ≡ true)
keeps_parts true a b e = absurd cc
keeps_parts false true b e = (refl, refl, e)
keeps_parts false false b e = absurd cc

keeps_from : (d a b : Bool) → d ≡ false → a ≡ true → b ≡ true → (not d && (a && b)) ≡ true
keeps_from true a b p q r = absurd cc
keeps_from false true b p q r = r
keeps_from false false b p q r = absurd cc

module _ (from_entry to_exit : List Bool) where
  pub kept_from_mark : (arcs : List Arc) (denoted : List Bool) (k : ℕ) → IsMarked (each_pair (keeps_mark from_entry to_exit) arcs denoted) k → KeptArc arcs denoted from_entry to_exit k
  kept_from_mark [] denoted k m = absurd cc
  kept_from_mark (arc ∷ arcs) [] k m = absurd cc
  kept_from_mark (arc ∷ arcs) (d ∷ denoted) zero m =
      let (free, from, to) = keeps_parts d (get_or from_entry arc.from false) (get_or to_exit arc.to false) m in
      record { arc = arc; is = refl; free = free; from = from; to = to }
  kept_from_mark (arc ∷ arcs) (d ∷ denoted) (suc k) m =
      let r = kept_from_mark arcs denoted k m in
      record { arc = r.arc; is = r.is; free = r.free; from = r.from; to = r.to }

  pub mark_from_kept : (arcs : List Arc) (denoted : List Bool) → length denoted ≡ length arcs → (k : ℕ) → KeptArc arcs denoted from_entry to_exit k
      → IsMarked (each_pair (keeps_mark from_entry to_exit) arcs denoted) k
  mark_from_kept [] denoted e k r = (let is = r.is in absurd cc)
  mark_from_kept (arc ∷ arcs) [] e k r = absurd (omega arith)
  mark_from_kept (arc ∷ arcs) (d ∷ denoted) e zero r =
      let same : arc ≡ r.arc = same_Some arc r.arc r.is in
      keeps_from d (get_or from_entry arc.from false) (get_or to_exit arc.to false) r.free
      (subst (λ (x : Arc). IsMarked from_entry x.from) (sym same) r.from) (subst (λ (x : Arc). IsMarked to_exit x.to) (sym same) r.to)
  mark_from_kept (arc ∷ arcs) (d ∷ denoted) e (suc k) r =
      mark_from_kept arcs denoted (omega arith) k (record { arc = r.arc; is = r.is; free = r.free; from = r.from; to = r.to })

  pub length-keeps : (arcs : List Arc) (denoted : List Bool) → length denoted ≡ length arcs → length (each_pair (keeps_mark from_entry to_exit) arcs denoted) ≡ length arcs
  length-keeps [] denoted e = refl
  length-keeps (arc ∷ arcs) [] e = absurd (omega arith)
  length-keeps (arc ∷ arcs) (d ∷ denoted) e = ap suc (length-keeps arcs denoted (omega arith))

  pub not_kept : (arcs : List Arc) (denoted : List Bool) (k : ℕ) → IsMarked denoted k → get_or (each_pair (keeps_mark from_entry to_exit) arcs denoted) k false ≡ false
  not_kept [] denoted k m = refl
  not_kept (arc ∷ arcs) [] k m = refl
  not_kept (arc ∷ arcs) (true ∷ denoted) zero m = refl
  not_kept (arc ∷ arcs) (false ∷ denoted) zero m = absurd cc
  not_kept (arc ∷ arcs) (d ∷ denoted) (suc k) m = not_kept arcs denoted k m

-- links in the other direction
pub turned_back : {links : List Link} {a b : ℕ} → Reaches (map turned links) a b → Reaches links b a
turned_back here = here
turned_back {links} (onward link i e r) =
    let (first, j, is) = mapped turned links link i in
    let rest : Reaches links _ first.from = subst (Reaches links _) (ap (λ (l : Link). l.to) is) (turned_back r) in
    subst (Reaches links _) (ap (λ (l : Link). l.from) (sym is) ∙ e) (reaches_more rest first j refl)

pub turned_there : {links : List Link} {a b : ℕ} → Reaches links a b → Reaches (map turned links) b a
turned_there here = here
turned_there {links} (onward link i e r) =
    subst (Reaches (map turned links) _) e (reaches_more (turned_there r) (turned link) (in_map turned links link i) refl)

pub reaches_on : {links : List Link} {a b c : ℕ} → Reaches links a b → Reaches links b c → Reaches links a c
reaches_on here s = s
reaches_on (onward link i e r) s = onward link i e (reaches_on r s)

-- the last link, where there is one
pub reaches_last : {links : List Link} {a b : ℕ} → Reaches links a b → (a ≡ b) ⊎ ((link : Link) × (link ∈ links) × Reaches links a link.from × (link.to ≡ b))
reaches_last here = inl refl
reaches_last {links} (onward link i e r) = inr (⊎_elim
    (λ s. (link, i, subst (λ n. Reaches links n link.from) e here, s))
    (λ l. (l.0, l.1, onward link i e l.2, l.3))
    (reaches_last r))

-- the first link, where there is one
pub reaches_first : {links : List Link} {a b : ℕ} → Reaches links a b → (a ≡ b) ⊎ ((link : Link) × (link ∈ links) × (link.from ≡ a) × Reaches links link.to b)
reaches_first here = inl refl
reaches_first (onward link i e r) = inr (link, i, e, r)
