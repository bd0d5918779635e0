use Rattle.std.proofs.Common.{◌≡◌, ◌∙◌, ◌<◌, ◌++◌, ℕ, List, Vec, Global, length, map, refl, ap, ap₂, sym, subst, append_assoc}
use Rattle.std.specs.Prelude.{flat_map}
use Rattle.qs_tree.specs.Lists.{◌∈◌}
use Rattle.qs_graph.specs.Graphs.{Arc}
use Rattle.qs_graphtext.specs.Texts.{AreArcsNamed}
use Rattle.qs_phrase.specs.ReadingLists.{paths_of}
use Rattle.qs_telling.specs.PhraseTexts.{more_line, reading_line}
use Rattle.qs_telling.proofs.ReadingLines.{readings_within}
use Rattle.qs_telling.proofs.reading_lines.append_readings.Goals as goal

pub append_paths-requires-clause-within : goal.append_paths-requires-clause-within
append_paths-requires-clause-within c =
    subst (λ (arcs : List Arc). (path : List ℕ) → path ∈ map (λ (p : Vec ℕ Global). p.items) c.deref.result.now → (k : ℕ) → k ∈ path → k < length arcs) (sym c.edges.ensures.value)
    (subst (λ (ps : List (Vec ℕ Global)). (path : List ℕ) → path ∈ map (λ (p : Vec ℕ Global). p.items) ps → (k : ℕ) → k ∈ path → k < length c.args.graph.now.arcs) (sym c.deref.ensures.value)
    (readings_within c.args.graph.now c.args.most (paths_of c.in_ok-list.list) c.in_ok-list.ensures.first))

pub append_paths-requires-clause-named : goal.append_paths-requires-clause-named
append_paths-requires-clause-named c = subst (AreArcsNamed (length c.args.names.now)) (sym c.edges.ensures.value) c.requires.named

pub returns : goal.returns
returns c =
    let paths = paths_of c.in_ok-list.list in
    let lines = flat_map (reading_line c.args.names.now c.args.graph.now.arcs) paths in
    let same : flat_map (reading_line c.args.names.now c.edges.result.now) (map (λ (p : Vec ℕ Global). p.items) c.deref.result.now) ≡ lines =
    ap₂ (λ (arcs : List Arc) (ps : List (Vec ℕ Global)). flat_map (reading_line c.args.names.now arcs) (map (λ (p : Vec ℕ Global). p.items) ps)) c.edges.ensures.value c.deref.ensures.value in (
      lines ++ more_line c.in_ok-list.list.more,
      record { paths = paths; are_first = c.in_ok-list.ensures.first; more = c.in_ok-list.list.more; more_is = c.in_ok-list.ensures.more; text_is = refl },
      c.in_ok-append_more.ensures ∙ ap (λ o. o ++ more_line c.in_ok-list.list.more) (c.in_ok-append_paths.ensures ∙ ap (λ l. c.args.out.now.items ++ l) same)
          ∙ append_assoc c.args.out.now.items lines (more_line c.in_ok-list.list.more),
    )
