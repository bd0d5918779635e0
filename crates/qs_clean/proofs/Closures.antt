-- What a closure over a valid graph gives its cleaning.
use Rattle.std.proofs.Common.{◌≡◌, ◌↔◌, ℕ, ◌<◌, ◌≤◌, Bool, false, true, List, [], ◌∷◌, length, map, get_or, refl, sym, ◌∙◌, ap, subst, inl, ⊎_elim, arith}
use Rattle.std.proofs.lemmas.Bool.{cases_lt}
use Rattle.qs_tree.specs.Lists.{◌∈◌}
use Rattle.qs_graph.specs.Graphs.{QGraph, IsNode, IsEntry, IsExit, IsValid}
use Rattle.qs_tree.proofs.Members.{in_at, mapped, in_map}
use Rattle.qs_firing.specs.Firings.{Firing}
use Rattle.qs_canon.specs.Rounds.{Stage, Done, firings}
use Rattle.qs_canon.specs.Closures.{ClosureOf}
use Rattle.qs_canon.proofs.Keeping.{Keeps, keeps_rounds, nothing_done}
use Rattle.qs_clean.specs.declared.links.Link.{Link}
use Rattle.qs_clean.specs.working.Links.{Reaches, turned}
use Rattle.qs_clean.specs.working.Steps.{IsUsed, each_pair, free_link, keeps_mark, both, marked, AreMarks}
use Rattle.qs_clean.specs.Cleaning.{IsClosureOfValid, IsDenoted}
use Rattle.qs_clean.proofs.Places.{marked_le, marked_lt, in_both_from, length-both}
use Rattle.qs_clean.proofs.ArcLists.{FreeArc, free_from_link, length-keeps, not_kept, reaches_last}
use Rattle.qs_graph.proofs.Paths.{leads_low}

some_in_path : (path : List ℕ) → 0 < length path → (k : ℕ) × (k ∈ path)
some_in_path [] l = absurd (omega arith)
some_in_path (k ∷ path) l = (k, inl refl)

some_done : (done : List Done) → 0 < length done → (d : Done) × (d ∈ done)
some_done [] l = absurd (omega arith)
some_done (d ∷ done) l = (d, inl refl)

module _ (c : ClosureOf) (is : IsClosureOfValid c) where
  abbrev pub S : Stage
  S = c.stage

  keeps : Keeps is.start S
  keeps = keeps_rounds is.rules is.accepted is.start is.valid is.closure.closes.rounds S is.closure.closes.reached

  pub stage_valid : IsValid S.graph
  stage_valid = keeps.valid

  pub entry_is : IsEntry S.graph c.entry
  entry_is = (keeps.entry c.entry).0 is.closure.entry

  pub exit_is : IsExit S.graph c.exit
  exit_is = (keeps.exit c.exit).0 is.closure.exit

  done_firing : (d : Done) → d ∈ S.done → d.firing ∈ firings S
  done_firing d i = in_map (λ (x : Done). x.firing) S.done d i

  -- what is denoted is what done firings use
  pub denoted_used : (k : ℕ) → IsUsed S.done k ↔ IsDenoted S k
  denoted_used k = (there, back)
    where
      there : IsUsed S.done k → IsDenoted S k
      there u = record { by = u.by.firing; done = done_firing u.by u.is_done; used = u.used }

      back : IsDenoted S k → IsUsed S.done k
      back d =
          let (done, i, e) = mapped (λ (x : Done). x.firing) S.done d.by d.done in
          record { by = done; is_done = i; used = subst (λ (f : Firing). k ∈ f.path) e d.used }

  pub path_within : (d : Done) → d ∈ S.done → (k : ℕ) → k ∈ d.firing.path → k < length S.graph.arcs
  path_within d i k j =
      let p = keeps.paths d.firing (done_firing d i) in
      leads_low S.graph.arcs p.from d.firing.path p.to p.is.leads k j

  module _ (denoted : List Bool) (links : List Link) (are : links ≡ each_pair free_link S.graph.arcs denoted) where
    link_arc : (link : Link) → link ∈ links → FreeArc S.graph.arcs denoted link.from link.to
    link_arc link i = free_from_link S.graph.arcs denoted link (subst (λ (ls : List Link). link ∈ ls) are i)

    pub links_in : (link : Link) → link ∈ links → IsNode S.graph link.from × IsNode S.graph link.to
    links_in link i =
        let f = link_arc link i in
        let h = stage_valid.in_range f.arc (in_at S.graph.arcs f.number f.arc f.is) in
        (subst (IsNode S.graph) f.from h.0, subst (IsNode S.graph) f.to h.1)

    pub turned_in : (back : List Link) → back ≡ map turned links → (link : Link) → link ∈ back → IsNode S.graph link.from × IsNode S.graph link.to
    turned_in back e link i =
        let (first, j, same) = mapped turned links link (subst (λ (ls : List Link). link ∈ ls) e i) in
        let h = links_in first j in
        (subst (IsNode S.graph) (ap (λ (l : Link). l.from) (sym same)) h.1, subst (IsNode S.graph) (ap (λ (l : Link). l.to) (sym same)) h.0)

  -- the numbers of the nodes that are left, and of the arcs that are kept, fit
  module _ (denoted from_entry to_exit : List Bool) (are : AreMarks S c.entry c.exit denoted from_entry to_exit) where
    zero_unreached : Reaches (each_pair free_link S.graph.arcs denoted) c.entry 0 → ⊥
    zero_unreached r = ⊎_elim
        (λ e. omega (arith, entry_is.node.0))
        (λ l. let h = links_in denoted (each_pair free_link S.graph.arcs denoted) refl l.0 l.1 in omega (arith, h.1.0, l.3))
        (reaches_last r)

    zero_unmarked : (b : Bool) → get_or (each_pair both from_entry to_exit) 0 false ≡ b → b ≡ false
    zero_unmarked true e = absurd (zero_unreached ((are.from_entry_are 0).0 (in_both_from from_entry to_exit 0 e).0))
    zero_unmarked false e = refl

    pub left_few : length from_entry ≤ 4294967296 → marked (each_pair both from_entry to_exit) < 4294967296
    left_few few =
        let long = length-both from_entry to_exit (are.to_exit_len ∙ sym are.from_entry_len) in
        let less = marked_lt (each_pair both from_entry to_exit) 0 (omega (arith, are.from_entry_len)) (zero_unmarked (get_or (each_pair both from_entry to_exit) 0 false) refl) in
        omega (arith, less, long)

    pub kept_few : marked (each_pair (keeps_mark from_entry to_exit) S.graph.arcs denoted) < 4294967295
    kept_few = ⊎_elim some none (cases_lt 0 (length S.done))
      where
        long : length (each_pair (keeps_mark from_entry to_exit) S.graph.arcs denoted) ≡ length S.graph.arcs
        long = length-keeps from_entry to_exit S.graph.arcs denoted are.denoted_len

        some : 0 < length S.done → marked (each_pair (keeps_mark from_entry to_exit) S.graph.arcs denoted) < 4294967295
        some l =
            let (d, i) = some_done S.done l in
            let p = keeps.paths d.firing (done_firing d i) in
            let (k, j) = some_in_path d.firing.path p.is.some in
            let within = path_within d i k j in
            let mark = (are.denoted_are k).1 (record { by = d.firing; done = done_firing d i; used = j }) in
            let less = marked_lt (each_pair (keeps_mark from_entry to_exit) S.graph.arcs denoted) k (omega (arith, long)) (not_kept from_entry to_exit S.graph.arcs denoted k mark) in
            omega (arith, is.few, long)

        none : length S.done ≤ 0 → marked (each_pair (keeps_mark from_entry to_exit) S.graph.arcs denoted) < 4294967295
        none l =
            let same = nothing_done is.rules is.start is.closure.closes.rounds S is.closure.closes.reached (omega arith) in
            let few : length S.graph.arcs < 4294967295 = subst (λ (G : QGraph). length G.arcs < 4294967295) (sym same) is.start_few in
            omega (arith, marked_le (each_pair (keeps_mark from_entry to_exit) S.graph.arcs denoted), long)
