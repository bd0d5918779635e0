-- What the marks keep is what cleaning keeps.
use Rattle.std.proofs.Common.{◌≡◌, ◌⊎◌, ◌↔◌, ℕ, Bool, false, true, List, [], ◌∷◌, ◌++◌, get_or, slice_get, Some, refl, sym, ◌∙◌, ap, subst, inl, inr, ⊎_elim, arith, length-append}
use Rattle.std.proofs.lemmas.Bool.{false_from_ne_true}
use Rattle.qs_tree.specs.Lists.{◌∈◌}
use Rattle.qs_graph.specs.Graphs.{Arc, Leads, IsEntry, IsExit, IsValid, arcs_at}
use Rattle.qs_tree.proofs.Members.{from_append, in_append_right}
use Rattle.qs_graph.proofs.Paths.{leads-append}
use Rattle.qs_canon.specs.Rounds.{Stage}
use Rattle.qs_clean.specs.declared.links.Link.{Link}
use Rattle.qs_clean.specs.Marks.{IsMarked}
use Rattle.qs_clean.specs.working.Links.{Reaches, here, onward}
use Rattle.qs_clean.specs.working.Steps.{each_pair, free_link, keeps_mark, both, AreMarks}
use Rattle.qs_clean.specs.Cleaning.{IsDenoted, Stays, IsEndOf}
use Rattle.qs_clean.proofs.Exploring.{reaches_more}
use Rattle.qs_clean.proofs.Places.{places, in_places, in_both_from, in_both_to}
use Rattle.qs_clean.proofs.ArcLists.{in_arcs_at, to_arcs_at, FreeArc, free_from_link, link_from_free, KeptArc, kept_from_mark, mark_from_kept, turned_back, turned_there, reaches_on, reaches_last, reaches_first}

-- a path of arcs that are not denoted
pub record FreePath (S : Stage) (a b : ℕ) : Type 0 where
  pub path : List ℕ
  pub leads : Leads S.graph.arcs a path b
  pub undenoted : (j : ℕ) → j ∈ path → IsDenoted S j → ⊥

module _ (S : Stage) (entry exit : ℕ) (denoted from_entry to_exit : List Bool) (are : AreMarks S entry exit denoted from_entry to_exit) where
  abbrev arcs : List Arc
  arcs = S.graph.arcs

  abbrev pub links : List Link
  links = each_pair free_link S.graph.arcs denoted

  abbrev pub kept_marks : List Bool
  kept_marks = each_pair (keeps_mark from_entry to_exit) S.graph.arcs denoted

  abbrev pub kept : List ℕ
  kept = places 0 kept_marks

  not_denoted : (k : ℕ) → get_or denoted k false ≡ false → IsDenoted S k → ⊥
  not_denoted k free d = let m : get_or denoted k false ≡ true = (are.denoted_are k).1 d in let e : true ≡ false = sym m ∙ free in cc

  free_mark : (k : ℕ) → (IsDenoted S k → ⊥) → get_or denoted k false ≡ false
  free_mark k un = false_from_ne_true (get_or denoted k false) (λ m. un ((are.denoted_are k).0 m))

  -- links are the arcs that are not denoted
  free_path : {a b : ℕ} → Reaches links a b → FreePath S a b
  free_path here = record { path = []; leads = refl; undenoted = λ j i. absurd i }
  free_path {b = b} (onward link i e r) =
      let f = free_from_link arcs denoted link i in
      let rest = free_path r in
      record {
        path = f.number ∷ rest.path;
        leads = (f.arc, f.is, f.from ∙ e, subst (λ n. Leads arcs n rest.path b) (sym f.to) rest.leads);
        undenoted = λ j k. ⊎_elim (λ s. subst (λ m. IsDenoted S m → ⊥) (sym s) (not_denoted f.number f.free)) (rest.undenoted j) k;
      }

  link_in : (k : ℕ) (arc : Arc) → slice_get arcs k ≡ Some arc → (IsDenoted S k → ⊥) → record { from = arc.from; to = arc.to } ∈ links
  link_in k arc is un = link_from_free arcs denoted are.denoted_len k arc is (free_mark k un)

  reaches_path : (a : ℕ) (path : List ℕ) (b : ℕ) → Leads arcs a path b → ((j : ℕ) → j ∈ path → IsDenoted S j → ⊥) → Reaches links a b
  reaches_path a [] b e un = subst (Reaches links a) e here
  reaches_path a (k ∷ ks) b (arc, is, e, l) un =
      onward (record { from = arc.from; to = arc.to }) (link_in k arc is (un k (inl refl))) e (reaches_path arc.to ks b l (λ j i. un j (inr i)))

  -- an arc on a path of undenoted arcs
  record OnPath (a : ℕ) (k : ℕ) (b : ℕ) : Type 0 where
    arc : Arc
    is : slice_get arcs k ≡ Some arc
    before : Reaches links a arc.from
    behind : Reaches links arc.to b

  on_path : (a : ℕ) (path : List ℕ) (b : ℕ) (k : ℕ) → k ∈ path → Leads arcs a path b → ((j : ℕ) → j ∈ path → IsDenoted S j → ⊥) → OnPath a k b
  on_path a [] b k i l un = absurd i
  on_path a (j ∷ ks) b k (inl s) (arc, is, e, l) un = record {
    arc = arc;
    is = ap (slice_get arcs) s ∙ is;
    before = subst (λ n. Reaches links n arc.from) e here;
    behind = reaches_path arc.to ks b l (λ m i. un m (inr i));
  }
  on_path a (j ∷ ks) b k (inr i) (arc, is, e, l) un =
      let o = on_path arc.to ks b k i l (λ m n. un m (inr n)) in
      record {
        arc = o.arc;
        is = o.is;
        before = onward (record { from = arc.from; to = arc.to }) (link_in j arc is (un j (inl refl))) e o.before;
        behind = o.behind;
      }

  to_exit_from : (n : ℕ) → IsMarked to_exit n → Reaches links n exit
  to_exit_from n m = turned_back ((are.to_exit_are n).0 m)

  to_exit_to : (n : ℕ) → Reaches links n exit → IsMarked to_exit n
  to_exit_to n r = (are.to_exit_are n).1 (turned_there r)

  pub kept_arc : (k : ℕ) → IsMarked kept_marks k → KeptArc arcs denoted from_entry to_exit k
  kept_arc k m = kept_from_mark from_entry to_exit arcs denoted k m

  -- an arc between a node that is reached from the entry and one that reaches the exit is kept
  keep : (a b : ℕ) → Reaches links entry a → FreeArc arcs denoted a b → Reaches links b exit → (k : ℕ) × (arc : Arc) × IsMarked kept_marks k × (slice_get arcs k ≡ Some arc) × (arc.from ≡ a) × (arc.to ≡ b)
  keep a b r f s = (
    f.number,
    f.arc,
    mark_from_kept from_entry to_exit arcs denoted are.denoted_len f.number (record {
      arc = f.arc;
      is = f.is;
      free = f.free;
      from = (are.from_entry_are f.arc.from).1 (subst (Reaches links entry) (sym f.from) r);
      to = to_exit_to f.arc.to (subst (λ n. Reaches links n exit) (sym f.to) s);
    }),
    f.is,
    f.from,
    f.to,
  )

  module _ (valid : IsValid S.graph) (is_entry : IsEntry S.graph entry) (is_exit : IsExit S.graph exit) where
    pub stays_from : (k : ℕ) → IsMarked kept_marks k → Stays S k
    stays_from k m =
        let r = kept_arc k m in
        let p = free_path ((are.from_entry_are r.arc.from).0 r.from) in
        let q = free_path (to_exit_from r.arc.to r.to) in
        record {
          entry = entry;
          exit = exit;
          path = p.path ++ k ∷ q.path;
          is_entry = is_entry;
          is_exit = is_exit;
          leads = record {
            some = omega (arith, length-append p.path (k ∷ q.path));
            leads = leads-append arcs entry p.path r.arc.from (k ∷ q.path) exit p.leads (r.arc, r.is, refl, q.leads);
          };
          undenoted = λ j i. ⊎_elim
              (p.undenoted j)
              (λ n. ⊎_elim (λ s. subst (λ u. IsDenoted S u → ⊥) (sym s) (not_denoted k r.free)) (q.undenoted j) n)
              (from_append p.path (k ∷ q.path) j i);
          on = in_append_right p.path (k ∷ q.path) k (inl refl);
        }

    pub stays_to : (k : ℕ) → Stays S k → IsMarked kept_marks k
    stays_to k s =
        let e : s.entry ≡ entry = valid.entry.only s.entry s.is_entry ∙ sym (valid.entry.only entry is_entry) in
        let x : s.exit ≡ exit = valid.exit.only s.exit s.is_exit ∙ sym (valid.exit.only exit is_exit) in
        let o = on_path s.entry s.path s.exit k s.on s.leads.leads s.undenoted in
        mark_from_kept from_entry to_exit arcs denoted are.denoted_len k (record {
          arc = o.arc;
          is = o.is;
          free = free_mark k (s.undenoted k s.on);
          from = (are.from_entry_are o.arc.from).1 (subst (λ n. Reaches links n o.arc.from) e o.before);
          to = to_exit_to o.arc.to (subst (Reaches links o.arc.to) x o.behind);
        })

    pub kept_are : (k : ℕ) → k ∈ kept ↔ Stays S k
    kept_are k = (λ i. stays_from k ((in_places kept_marks k).0 i), λ s. (in_places kept_marks k).1 (stays_to k s))

  -- the nodes that are left, where an arc is kept
  abbrev pub left_marks : List Bool
  left_marks = each_pair both from_entry to_exit

  abbrev pub left : List ℕ
  left = places 0 left_marks

  pub in_left : (n : ℕ) → n ∈ left → Reaches links entry n × Reaches links n exit
  in_left n i =
      let (f, t) = in_both_from from_entry to_exit n ((in_places left_marks n).0 i) in
      ((are.from_entry_are n).0 f, to_exit_from n t)

  pub to_left : (n : ℕ) → Reaches links entry n → Reaches links n exit → n ∈ left
  to_left n r s = (in_places left_marks n).1 (in_both_to from_entry to_exit n ((are.from_entry_are n).1 r) (to_exit_to n s))

  -- an arc that is kept links its ends
  record KeptLink (k : ℕ) : Type 0 where
    link : Link
    is_in : link ∈ links
    before : Reaches links entry link.from
    behind : Reaches links link.to exit

  pub kept_ends : (k : ℕ) (arc : Arc) → k ∈ kept → slice_get arcs k ≡ Some arc → (arc.from ∈ left) × (arc.to ∈ left)
  kept_ends k arc i is =
      let r = kept_arc k ((in_places kept_marks k).0 i) in
      let same : r.arc ≡ arc = (let p = r.is in let q : Some r.arc ≡ Some arc = sym p ∙ is in cc) in
      let l = link_from_free arcs denoted are.denoted_len k r.arc r.is r.free in
      let f = (are.from_entry_are r.arc.from).0 r.from in
      let t = to_exit_from r.arc.to r.to in
      let from : r.arc.from ∈ left = to_left r.arc.from f (onward (record { from = r.arc.from; to = r.arc.to }) l refl t) in
      let to : r.arc.to ∈ left = to_left r.arc.to (reaches_more f (record { from = r.arc.from; to = r.arc.to }) l refl) t in
      (subst (λ (x : Arc). x.from ∈ left) same from, subst (λ (x : Arc). x.to ∈ left) same to)

  -- a kept arc leads into a node that is left, unless it is the entry, and out of it, unless it is the exit
  pub kept_into : (n : ℕ) → n ∈ left → (entry ≡ n) ⊎ ((k : ℕ) × (arc : Arc) × (k ∈ kept) × (slice_get arcs k ≡ Some arc) × (arc.to ≡ n))
  kept_into n i =
      let (r, s) = in_left n i in
      ⊎_elim inl
      (λ l.
      let kept_one = keep l.0.from n l.2 (let f = free_from_link arcs denoted l.0 l.1 in record { number = f.number; arc = f.arc; is = f.is; free = f.free; from = f.from; to = f.to ∙ l.3 }) s in
      inr (kept_one.0, kept_one.1, (in_places kept_marks kept_one.0).1 kept_one.2, kept_one.3, kept_one.5))
      (reaches_last r)

  pub kept_out_of : (n : ℕ) → n ∈ left → (n ≡ exit) ⊎ ((k : ℕ) × (arc : Arc) × (k ∈ kept) × (slice_get arcs k ≡ Some arc) × (arc.from ≡ n))
  kept_out_of n i =
      let (r, s) = in_left n i in
      ⊎_elim inl
      (λ l.
      let kept_one = keep n l.0.to r (let f = free_from_link arcs denoted l.0 l.1 in record { number = f.number; arc = f.arc; is = f.is; free = f.free; from = f.from ∙ l.2; to = f.to }) l.3 in
      inr (kept_one.0, kept_one.1, (in_places kept_marks kept_one.0).1 kept_one.2, kept_one.3, kept_one.4))
      (reaches_first s)

  module _ (some : ℕ) (some_kept : some ∈ kept) where
    abbrev first : KeptArc S.graph.arcs denoted from_entry to_exit some
    first = kept_arc some ((in_places kept_marks some).0 some_kept)

    across : Reaches links entry exit
    across =
        let l = link_from_free arcs denoted are.denoted_len some first.arc first.is first.free in
        reaches_on ((are.from_entry_are first.arc.from).0 first.from)
        (onward (record { from = first.arc.from; to = first.arc.to }) l refl (to_exit_from first.arc.to first.to))

    pub entry_left : entry ∈ left
    entry_left = to_left entry here across

    pub exit_left : exit ∈ left
    exit_left = to_left exit across here

    -- the exit is an end of a kept arc
    exit_end : (k : ℕ) × (arc : Arc) × (k ∈ kept) × (slice_get arcs k ≡ Some arc) × (arc.to ≡ exit)
    exit_end =
        let l = link_from_free arcs denoted are.denoted_len some first.arc first.is first.free in
        let f = (are.from_entry_are first.arc.from).0 first.from in
        ⊎_elim
        (λ e. (some, first.arc, some_kept, first.is, e))
        (λ m.
        let r : Reaches links entry m.0.from = reaches_on (reaches_more f (record { from = first.arc.from; to = first.arc.to }) l refl) m.2 in
        let kept_one = keep m.0.from exit r (let g = free_from_link arcs denoted m.0 m.1 in record { number = g.number; arc = g.arc; is = g.is; free = g.free; from = g.from; to = g.to ∙ m.3 }) here in
        (kept_one.0, kept_one.1, (in_places kept_marks kept_one.0).1 kept_one.2, kept_one.3, kept_one.5))
        (reaches_last (to_exit_from first.arc.to first.to))

    pub left_are : (n : ℕ) → n ∈ left ↔ IsEndOf (arcs_at S.graph.arcs kept) n
    left_are n = (there, back)
      where
        there : n ∈ left → IsEndOf (arcs_at S.graph.arcs kept) n
        there i = ⊎_elim
            (λ e.
            let (k, arc, m, is, to) = exit_end in
            (arc, to_arcs_at arcs kept k arc m is, inr (e ∙ sym to)))
            (λ o. (o.1, to_arcs_at arcs kept o.0 o.1 o.2 o.3, inl (sym o.4)))
            (kept_out_of n i)

        back : IsEndOf (arcs_at S.graph.arcs kept) n → n ∈ left
        back (arc, i, c) =
            let (k, m, is) = in_arcs_at arcs kept arc i in
            let (f, t) = kept_ends k arc m is in
            ⊎_elim (λ e. subst (λ u. u ∈ left) (sym e) f) (λ e. subst (λ u. u ∈ left) (sym e) t) c
