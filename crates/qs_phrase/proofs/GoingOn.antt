-- The least way on from a node, and the next reading.
use Rattle.std.proofs.Common.{◌≡◌, ◌<◌, ◌≤◌, ◌⊎◌, ℕ, suc, Some, None, slice_get, List, [], ◌∷◌, ◌++◌, length, refl, sym, ◌∙◌, ap, subst, inl, inr, ⊎_elim, arith, append_assoc, append-nil}
use Rattle.std.proofs.lemmas.Bool.{cases_order}
use Rattle.qs_tree.proofs.Members.{in_at}
use Rattle.qs_graph.specs.Graphs.{Arc, QGraph, Leads, IsEntry, IsValid}
use Rattle.qs_graph.proofs.Paths.{place_of, leads-append}
use Rattle.qs_phrase.specs.Readings.{IsReading, IsBefore}
use Rattle.qs_phrase.specs.working.Leaving.{IsLeast}
use Rattle.qs_phrase.specs.working.Walking.{IsWay, IsUpTo, GoesOn, IsNext, IsLast}
use Rattle.qs_phrase.proofs.Orders.{before_here, before_parts, before_front, not_back, up_to_behind}
use Rattle.qs_phrase.proofs.Ways.{leads_through, leads_more, same_arc, end_node, path_is_short, way_of, reading_of}

-- ---- the least way on

-- a way goes on from these arcs
pub record GoesThrough (G : QGraph) (ks : List ℕ) (at : ℕ) (js : List ℕ) : Type 0 where
  pub rest : List ℕ
  pub are : js ≡ ks ++ rest
  pub way : IsWay G at rest

-- a list comes behind each that goes on from these arcs
abbrev pub IsBeyond : List ℕ → List ℕ → Type 0
IsBeyond ks js = (rest : List ℕ) → IsBefore (ks ++ rest) js

-- the path has gone on from the node by the least arcs, and is at a node
pub record IsGoing (G : QGraph) (from : ℕ) (old path : List ℕ) (at : ℕ) : Type 0 where
  pub so_far : List ℕ
  pub are : path ≡ old ++ so_far
  pub entry : ℕ
  pub is_entry : IsEntry G entry
  pub from_entry : Leads G.arcs entry path at
  pub leads : Leads G.arcs from so_far at
  pub least : (js : List ℕ) → IsWay G from js → GoesThrough G so_far at js ⊎ IsBeyond so_far js

module _ (G : QGraph) (valid : IsValid G) where
  pub going_first : (a from : ℕ) (old : List ℕ) → IsEntry G a → Leads G.arcs a old from → IsGoing G from old old from
  going_first a from old entry l = record {
    so_far = [];
    are = sym (append-nil old);
    entry = a;
    is_entry = entry;
    from_entry = l;
    leads = refl;
    least = λ js way. inl (record { rest = js; are = refl; way = way });
  }

  -- the node has its place, and the path is short
  pub going_low : {from : ℕ} {old path : List ℕ} {at : ℕ} → IsGoing G from old path at → at ≤ G.nodes
  going_low {path = path} {at = at} x = (end_node G valid x.entry path at x.is_entry.node x.from_entry).1

  pub going_short : {from : ℕ} {old path : List ℕ} {at : ℕ} → IsGoing G from old path at → length path < G.nodes
  going_short {path = path} {at = at} x = path_is_short G valid x.entry path at x.is_entry.node x.from_entry

  pub going_more : (from : ℕ) (old path : List ℕ) (at k : ℕ) (arc : Arc) → slice_get G.arcs k ≡ Some arc → IsLeast G.arcs at 0 (Some k) → IsGoing G from old path at → IsGoing G from old (path ++ k ∷ []) arc.to
  going_more from old path at k arc is least x = record {
    so_far = x.so_far ++ k ∷ [];
    are = ap (λ ks. ks ++ k ∷ []) x.are ∙ append_assoc old x.so_far (k ∷ []);
    entry = x.entry;
    is_entry = x.is_entry;
    from_entry = leads_more G.arcs x.entry path at k arc x.from_entry is leaves;
    leads = leads_more G.arcs from x.so_far at k arc x.leads is leaves;
    least = λ js way. ⊎_elim (λ t. through js t.rest t.are t.way) (λ b. inr (λ rest. subst (λ ks. IsBefore ks js) (sym (append_assoc x.so_far (k ∷ []) rest)) (b (k ∷ rest)))) (x.least js way);
  }
    where
      leaves : arc.from ≡ at
      leaves = let (y, at_k, e) = least.1 in (let same : arc ≡ y = cc in ap (λ (z : Arc). z.from) same ∙ e)

      through : (js rest : List ℕ) → js ≡ x.so_far ++ rest → IsWay G at rest → GoesThrough G (x.so_far ++ k ∷ []) arc.to js ⊎ IsBeyond (x.so_far ++ k ∷ []) js
      through js [] e way = absurd (way.is_exit.none_out arc (in_at G.arcs k arc is) (leaves ∙ way.leads))
      through js (j ∷ rest) e way =
          let (y, at_j, d, l) = way.leads in
          ⊎_elim
          (λ s. inl (record {
            rest = rest;
            are = e ∙ ap (λ i. x.so_far ++ i ∷ rest) (sym s) ∙ sym (append_assoc x.so_far (k ∷ []) rest);
            way = record { exit = way.exit; is_exit = way.is_exit; leads = subst (λ (z : Arc). Leads G.arcs z.to rest way.exit) (same_arc G.arcs k j arc y s is at_j) l };
          }))
          (λ o. ⊎_elim
          (λ s. inr (λ more. subst (λ ks. IsBefore ((x.so_far ++ k ∷ []) ++ more) ks) (sym e) (subst (λ ks. IsBefore ks (x.so_far ++ j ∷ rest)) (sym (append_assoc x.so_far (k ∷ []) more)) (before_front x.so_far (k ∷ more) (j ∷ rest) (before_here k j more rest s)))))
          (λ s. (let low = least.2 j (omega arith) (y, at_j, d) in absurd (omega arith)))
          o)
          (cases_order k j)

  pub going_last : (from : ℕ) (old path : List ℕ) (at : ℕ) → IsLeast G.arcs at 0 None → IsGoing G from old path at → GoesOn G from old path
  going_last from old path at none x = record {
    behind = x.so_far;
    are = x.are;
    way = record {
      exit = at;
      is_exit = record {
        node = end_node G valid x.entry path at x.is_entry.node x.from_entry;
        none_out = λ arc i e. let (k, is) = place_of G.arcs arc i in none k (omega arith) (arc, is, e);
      };
      leads = x.leads;
    };
    least = λ js way. ⊎_elim (λ t. inl (whole js t.rest t.are t.way)) (λ b. inr (subst (λ ks. IsBefore ks js) (append-nil x.so_far) (b []))) (x.least js way);
  }
    where
      whole : (js rest : List ℕ) → js ≡ x.so_far ++ rest → IsWay G at rest → x.so_far ≡ js
      whole js [] e way = sym (e ∙ append-nil x.so_far)
      whole js (j ∷ rest) e way = let (y, at_j, d, l) = way.leads in absurd (none j (omega arith) (y, at_j, d))

-- ---- the next reading

-- the arcs behind the path are the greatest way on
pub record IsSpent (G : QGraph) (old path : List ℕ) : Type 0 where
  pub behind : List ℕ
  pub are : old ≡ path ++ behind
  pub entry : ℕ
  pub is_entry : IsEntry G entry
  pub at : ℕ
  pub leads : Leads G.arcs entry path at
  pub way : IsWay G at behind
  pub greatest : (js : List ℕ) → IsWay G at js → IsUpTo js behind

module _ (G : QGraph) where
  pub spent_first : (old : List ℕ) → IsReading G old → IsSpent G old old
  spent_first old r = record {
    behind = [];
    are = sym (append-nil old);
    entry = r.entry;
    is_entry = r.is_entry;
    at = r.exit;
    leads = r.is_path.leads;
    way = record { exit = r.exit; is_exit = r.is_exit; leads = refl };
    greatest = none;
  }
    where
      none : (js : List ℕ) → IsWay G r.exit js → IsUpTo js []
      none [] way = inl refl
      none (j ∷ js) way = let (y, at_j, d, l) = way.leads in absurd (r.is_exit.none_out y (in_at G.arcs j y at_j) d)

  -- the path without its last arc, where the way leaves the node at which it ends
  pub record HasLast (old path less : List ℕ) (k : ℕ) (arc : Arc) : Type 0 where
    pub behind : List ℕ
    pub are : old ≡ less ++ k ∷ behind
    pub entry : ℕ
    pub is_entry : IsEntry G entry
    pub leads : Leads G.arcs entry less arc.from
    pub is : slice_get G.arcs k ≡ Some arc
    pub way : IsWay G arc.to behind
    pub greatest : (js : List ℕ) → IsWay G arc.to js → IsUpTo js behind

  pub has_last : (old path less : List ℕ) (k : ℕ) → path ≡ less ++ k ∷ [] → IsSpent G old path → (arc : Arc) × HasLast old path less k arc
  has_last old path less k e x =
      let t = leads_through G.arcs x.entry less (k ∷ []) x.at (subst (λ ks. Leads G.arcs x.entry ks x.at) e x.leads) in
      let (arc, is, from, to) = t.behind in (
        arc,
        record {
          behind = x.behind;
          are = x.are ∙ ap (λ ks. ks ++ x.behind) e ∙ append_assoc less (k ∷ []) x.behind;
          entry = x.entry;
          is_entry = x.is_entry;
          leads = subst (λ n. Leads G.arcs x.entry less n) (sym from) t.before;
          is = is;
          way = subst (λ n. IsWay G n x.behind) (sym to) x.way;
          greatest = subst (λ n. (js : List ℕ) → IsWay G n js → IsUpTo js x.behind) (sym to) x.greatest;
        },
      )

  -- where the last arc can't be changed for a greater one, it is spent too
  pub spent_more : (old path less : List ℕ) (k : ℕ) (arc : Arc) → HasLast old path less k arc → IsLeast G.arcs arc.from (suc k) None → IsSpent G old less
  spent_more old path less k arc x none = record {
    behind = k ∷ x.behind;
    are = x.are;
    entry = x.entry;
    is_entry = x.is_entry;
    at = arc.from;
    leads = x.leads;
    way = record { exit = x.way.exit; is_exit = x.way.is_exit; leads = (arc, x.is, refl, x.way.leads) };
    greatest = up_to;
  }
    where
      up_to : (js : List ℕ) → IsWay G arc.from js → IsUpTo js (k ∷ x.behind)
      up_to [] way = absurd (way.is_exit.none_out arc (in_at G.arcs k arc x.is) way.leads)
      up_to (j ∷ js) way =
          let (y, at_j, d, l) = way.leads in
          ⊎_elim
          (λ s. subst (λ i. IsUpTo (i ∷ js) (k ∷ x.behind)) (sym s) (up_to_behind k js x.behind (x.greatest js (record { exit = way.exit; is_exit = way.is_exit; leads = subst (λ (z : Arc). Leads G.arcs z.to js way.exit) (same_arc G.arcs k j arc y (sym s) x.is at_j) l }))))
          (λ o. ⊎_elim (λ s. inr (before_here j k js x.behind s)) (λ s. absurd (none j (omega arith) (y, at_j, d))) o)
          (cases_order j k)

  -- the path leads on by another arc of the same node
  pub goes_over : (old path less : List ℕ) (k : ℕ) (arc : Arc) (o : ℕ) (other : Arc) → (x : HasLast old path less k arc) → IsLeast G.arcs arc.from (suc k) (Some o) → slice_get G.arcs o ≡ Some other
      → Leads G.arcs x.entry (less ++ o ∷ []) other.to
  goes_over old path less k arc o other x least at_o = leads_more G.arcs x.entry less arc.from o other x.leads at_o leaves
    where
      leaves : other.from ≡ arc.from
      leaves = let (y, at_y, e) = least.1 in (let same : other ≡ y = cc in ap (λ (z : Arc). z.from) same ∙ e)

  -- where nothing lies between the ways on, nothing lies between the paths
  none_between : (a : ℕ) (front : List ℕ) (m : ℕ) (was new : List ℕ) → Leads G.arcs a front m → ((js : List ℕ) → IsWay G m js → IsBefore was js → IsUpTo new js)
      → (path : List ℕ) → IsWay G a path → IsBefore (front ++ was) path → IsUpTo (front ++ new) path
  none_between a [] m was new l h path way b = h path (subst (λ n. IsWay G n path) l way) b
  none_between a (k ∷ front) m was new l h [] way b = absurd cc
  none_between a (k ∷ front) m was new (arc, is, e, l) h (j ∷ path) way b =
      let (y, at_j, d, rest) = way.leads in
      ⊎_elim
      (λ s. inr (before_here k j (front ++ new) path s))
      (λ (s, c). subst (λ i. IsUpTo (k ∷ (front ++ new)) (i ∷ path)) s (up_to_behind k (front ++ new) path
      (none_between arc.to front m was new l h path (record { exit = way.exit; is_exit = way.is_exit; leads = subst (λ (z : Arc). Leads G.arcs z.to path way.exit) (same_arc G.arcs k j arc y s is at_j) rest }) c)))
      (before_parts k j (front ++ was) path b)

  pub next_is : IsValid G → (old path less : List ℕ) (k : ℕ) (arc : Arc) (o : ℕ) (other : Arc) (new : List ℕ) → HasLast old path less k arc → IsLeast G.arcs arc.from (suc k) (Some o) → slice_get G.arcs o ≡ Some other
      → GoesOn G other.to (less ++ o ∷ []) new → IsNext G old new
  next_is valid old path less k arc o other new x least at_o g = record {
    is_reading = reading_of G valid x.entry new x.is_entry (record {
      exit = g.way.exit;
      is_exit = g.way.is_exit;
      leads = subst (λ ks. Leads G.arcs x.entry ks g.way.exit) (sym new_is) (leads-append G.arcs x.entry less arc.from (o ∷ g.behind) g.way.exit x.leads (other, at_o, leaves, g.way.leads));
    });
    before = subst (λ ks. IsBefore ks new) (sym x.are) (subst (IsBefore (less ++ k ∷ x.behind)) (sym new_is) (before_front less (k ∷ x.behind) (o ∷ g.behind) (before_here k o x.behind g.behind (omega (arith, least.0)))));
    least = λ way r b. subst (λ ks. IsUpTo ks way) (sym new_is) (none_between x.entry less arc.from (k ∷ x.behind) (o ∷ g.behind) x.leads here way (way_of G valid x.entry way x.is_entry r) (subst (λ ks. IsBefore ks way) x.are b));
  }
    where
      new_is : new ≡ less ++ o ∷ g.behind
      new_is = g.are ∙ append_assoc less (o ∷ []) g.behind

      leaves : other.from ≡ arc.from
      leaves = let (y, at_y, e) = least.1 in (let same : other ≡ y = cc in ap (λ (z : Arc). z.from) same ∙ e)

      here : (js : List ℕ) → IsWay G arc.from js → IsBefore (k ∷ x.behind) js → IsUpTo (o ∷ g.behind) js
      here [] way b = absurd cc
      here (j ∷ js) way b =
          let (y, at_j, d, l) = way.leads in
          ⊎_elim
          (λ s. ⊎_elim
          (λ t. subst (λ i. IsUpTo (o ∷ g.behind) (i ∷ js)) t (up_to_behind o g.behind js (g.least js (record { exit = way.exit; is_exit = way.is_exit; leads = subst (λ (z : Arc). Leads G.arcs z.to js way.exit) (same_arc G.arcs o j other y t at_o at_j) l }))))
          (λ t. ⊎_elim (λ u. inr (before_here o j g.behind js u)) (λ u. (let low = least.2 j (omega arith) (y, at_j, d) in absurd (omega arith))) t)
          (cases_order o j))
          (λ (s, c). absurd (not_back js x.behind (x.greatest js (record { exit = way.exit; is_exit = way.is_exit; leads = subst (λ (z : Arc). Leads G.arcs z.to js way.exit) (same_arc G.arcs k j arc y s x.is at_j) l })) c))
          (before_parts k j x.behind js b)

  pub last_is : IsValid G → (old path : List ℕ) → path ≡ [] → IsSpent G old path → IsLast G old
  last_is valid old path e x = λ other r.
      let at_entry : x.entry ≡ x.at = subst (λ ks. Leads G.arcs x.entry ks x.at) e x.leads in
      subst (IsUpTo other) (sym (x.are ∙ ap (λ ks. ks ++ x.behind) e))
      (x.greatest other (subst (λ n. IsWay G n other) at_entry (way_of G valid x.entry other x.is_entry r)))
