use Rattle.std.proofs.Common.{refl, ◌≡◌, ◌+◌, [], inr, IsTrue, arith, sym, ap, ◌∙◌, subst}
use Rattle.qs_tree.specs.Cells.{trees_of, tree_of}
use Rattle.qs_tree.specs.Splits.{front_of, behind_of}
use Rattle.qs_pattern.specs.Patterns.{patterns}
use Rattle.qs_pattern.specs.Patterns.{AreInClass, cells}
use Rattle.qs_match.specs.working.Remaining.{tasks_of}
use Rattle.qs_match.specs.working.Bindings.{substitution_of, value_of_ref}
use Rattle.qs_match.proofs.Variants.{tasks-Nothing, tasks-Then, substitution-More}
use Rattle.qs_pattern.proofs.SubstitutionLemmas.{substitution_class}
use Rattle.qs_match.proofs.Substitutions.{binds_substitution}
use Rattle.qs_pattern.proofs.PatternLemmas.{side_node}
use Rattle.qs_tree.proofs.Kept.{on_ok}
use Rattle.qs_match.proofs.Calls.{tree_appends, tree_none, label_some, label_is, root_none, kids_none, head_appends, end_found, is_none, front_begin, front_short, front_tries, front_more, front_last, front_enough}
use Rattle.qs_match.proofs.Fronts.{splits_no}
use Rattle.qs_match.proofs.Splits.{passes_length}
use Rattle.qs_match.proofs.search.+search.Goals as goal

pub search-search_node-requires : goal.search-search_node-requires
search-search_node-requires t c =
    let e = side_node c.args.state.now.side.now c.first-item.result c.in-Node.head c.in-Node.kids c.deref.result.now c.in-len1-up.len_at_least c.first-item.is c.in-Node.is c.deref.ensures.value in
    (omega (arith, ap cells e), ((subst AreInClass e c.requires.in_class.0, c.requires.in_class.1), c.requires.substitution))

pub search-returns-in-Node : goal.search-returns-in-Node
search-returns-in-Node t c =
    let e = side_node c.args.state.now.side.now c.first-item.result c.in-Node.head c.in-Node.kids c.deref.result.now c.in-len1-up.len_at_least c.first-item.is c.in-Node.is c.deref.ensures.value in
    rw e c.search_node.ensures

pub search_with-search-requires-in-None : goal.search_with-search-requires-in-None
search_with-search-requires-in-None t c =
    let e = substitution-More c.args.var c.args.value c.args.state.now.bindings in
    (omega arith, (c.requires.in_class, binds_substitution (substitution_of c.args.state.now.bindings.now) _ c.args.var (value_of_ref c.args.value) (inr (sym c.in-None.ensures, e)) c.requires.substitution c.requires.class))

pub search_remaining-returns-in_ok-push-in-Nothing : goal.search_remaining-returns-in_ok-push-in-Nothing
search_remaining-returns-in_ok-push-in-Nothing t c =
    let w : tasks_of c.args.state.now.remaining.now ≡ [] = ap tasks_of c.in-Nothing.is ∙ tasks-Nothing in
    let empty : trees_of c.args.state.now.trees.cells.now ≡ [] = c.first_rest.ensures.none.0 (is_none c.first_rest.result c.is_some.result c.if-is_some.false c.is_some.ensures) in
    end_found (tasks_of c.args.state.now.remaining.now) (substitution_of c.args.state.now.bindings.now) c.in_ok-subst_of-in-Nothing.field-0 (trees_of c.args.state.now.trees.cells.now) c.args.found.now.items c.push.new.self.items w (substitution_class (substitution_of c.args.state.now.bindings.now) c.requires.substitution) empty c.in_ok-subst_of-in-Nothing.ensures c.in_ok-push-in-Nothing.ensures.items

pub search_tree-returns-in_default : goal.search_tree-returns-in_default
search_tree-returns-in_default t c =
    let empty : trees_of c.args.state.now.trees.cells.now ≡ [] = c.in_default.ensures.none.0 refl in
    tree_none (tasks_of c.args.state.now.remaining.now) (substitution_of c.args.state.now.bindings.now) c.args.found.now.items c.args.found.now.items c.args.var (patterns c.args.state.now.side.now) c.requires.in_class.0.0 (trees_of c.args.state.now.trees.cells.now) empty

pub search_tree-returns : goal.search_tree-returns
search_tree-returns t c =
    on_ok c.search_with.result
    (tree_appends (tasks_of c.args.state.now.remaining.now) (substitution_of c.args.state.now.bindings.now) c.args.var (patterns c.args.state.now.side.now) c.requires.in_class.0.0
    (tree_of c.in-Some.tree.cells.now) (trees_of c.in-Some.behind.cells.now) (trees_of c.args.state.now.trees.cells.now) c.args.found.now.items c.search_with.new.found.items c.in-Some.ensures.some)
    c.search_with.ensures

pub search_forest-returns-in_default : goal.search_forest-returns-in_default
search_forest-returns-in_default t c = splits_no (tasks_of c.args.state.now.remaining.now) (substitution_of c.args.state.now.bindings.now) c.args.var (patterns c.args.state.now.side.now) c.requires.in_class.0.0 (trees_of c.args.state.now.trees.cells.now) c.args.found.now.items (c.in_default.ensures.none refl)

pub search_forest-returns-in_default-split_behind : goal.search_forest-returns-in_default-split_behind
search_forest-returns-in_default-split_behind t c =
    front_short (tasks_of c.args.state.now.remaining.now) (substitution_of c.args.state.now.bindings.now) c.args.var (patterns c.args.state.now.side.now) c.requires.in_class.0.0 (trees_of c.args.state.now.trees.cells.now) c.args.found.now.items c.in-Some.lengths.least c.in-Some.lengths.most c.in-Some.ensures.some
    (c.in_default-split_behind.ensures.none refl)

pub search_forest-fronts-init : goal.search_forest-fronts-init
search_forest-fronts-init t c =
    record {
      tried = front_begin (tasks_of c.args.state.now.remaining.now) (substitution_of c.args.state.now.bindings.now) c.args.var (patterns c.args.state.now.side.now) c.requires.in_class.0.0 (trees_of c.args.state.now.trees.cells.now) c.args.found.now.items c.in-Some.lengths.least c.in-Some.lengths.most c.in-Some.ensures.some
          (front_of c.in-Some-split_behind.split) (behind_of c.in-Some-split_behind.split) c.in-Some-split_behind.ensures.joins c.in-Some-split_behind.ensures.some;
      long = c.in-Some-split_behind.ensures.some;
    }

pub search_forest-returns-then-lengths-length : goal.search_forest-returns-then-lengths-length
search_forest-returns-then-lengths-length t c =
    front_enough c.requires.in_class.0.0 (front_tries c.requires.in_class.0.0 c.fronts.invariant.tried (trees_of c.front.result.cells.now) (trees_of c.behind.result.cells.now) c.front.ensures c.behind.ensures c.in_ok-search_with.ensures)
    (λ r a k. let most = (c.in-Some.ensures.some r a k).1 in omega (arith, c.fronts.invariant.long, c.if-lengths-length.true))

pub search_forest-returns-in_default-next : goal.search_forest-returns-in_default-next
search_forest-returns-in_default-next t c = front_last c.requires.in_class.0.0 (front_tries c.requires.in_class.0.0 c.fronts.invariant.tried (trees_of c.front.result.cells.now) (trees_of c.behind.result.cells.now) c.front.ensures c.behind.ensures c.in_ok-search_with.ensures) (c.in_default-next.ensures.none.0 refl)

pub search_forest-fronts-preserved : goal.search_forest-fronts-preserved
search_forest-fronts-preserved t c =
    record {
      tried = front_more (front_tries c.requires.in_class.0.0 c.fronts.invariant.tried (trees_of c.front.result.cells.now) (trees_of c.behind.result.cells.now) c.front.ensures c.behind.ensures c.in_ok-search_with.ensures) c.in-Some-next.ensures.some;
      long = passes_length c.in-Some-next.ensures.some ∙ ap (λ k. k + 1) c.fronts.invariant.long;
    }

pub search_node-returns-then-not-can_be_root : goal.search_node-returns-then-not-can_be_root
search_node-returns-then-not-can_be_root t c =
    root_none (tasks_of c.args.state.now.remaining.now) (substitution_of c.args.state.now.bindings.now) c.args.found.now.items c.args.head (patterns c.args.kids.now) (patterns c.args.state.now.side.now) (tree_of c.in-Some.tree.cells.now) (trees_of c.in-Some.behind.cells.now)
    (trees_of c.args.state.now.trees.cells.now) c.in-Some.ensures.some c.root.result c.root.ensures
    (λ r. let f = c.if-not-can_be_root.true in let k = c.can_be_root.ensures.1 r in cc)

pub search_node-returns-then-not-can_fit : goal.search_node-returns-then-not-can_fit
search_node-returns-then-not-can_fit t c =
    kids_none (tasks_of c.args.state.now.remaining.now) (substitution_of c.args.state.now.bindings.now) c.args.found.now.items c.args.head (patterns c.args.kids.now) (patterns c.args.state.now.side.now) (tree_of c.in-Some.tree.cells.now) (trees_of c.in-Some.behind.cells.now)
    (trees_of c.args.state.now.trees.cells.now) c.in-Some.ensures.some (trees_of c.kids.result.cells.now) c.kids.ensures c.requires.in_class.0.1
    (λ r. let f = c.if-not-can_fit.true in let k = c.can_fit.ensures.1 r in cc)

pub search_node-returns-in-Label : goal.search_node-returns-in-Label
search_node-returns-in-Label t c =
    let f = c.if-not-can_be_root.false in
    let k : IsTrue c.can_be_root.result = cc in
    on_ok c.search.result
    (label_some (tasks_of c.args.state.now.remaining.now) (substitution_of c.args.state.now.bindings.now) c.args.found.now.items c.search.new.found.items
    c.args.head c.in-Label.field-0 (patterns c.args.kids.now) (patterns c.args.state.now.side.now) (tree_of c.in-Some.tree.cells.now)
    (trees_of c.in-Some.behind.cells.now) (trees_of c.args.state.now.trees.cells.now) (trees_of c.kids-2.result.cells.now) (tasks_of _)
    c.in-Label.is c.in-Some.ensures.some c.kids-2.ensures
    (label_is c.args.head c.in-Label.field-0 c.root.result c.in-Label.is (c.can_be_root.ensures.0 k) ∙ c.root.ensures) (tasks-Then c.args.state.now.side c.in-Some.behind c.args.state.now.remaining))
    c.search.ensures

pub search_node-returns-in-Var : goal.search_node-returns-in-Var
search_node-returns-in-Var t c =
    on_ok c.search_with.result
    (head_appends (tasks_of c.args.state.now.remaining.now) (substitution_of c.args.state.now.bindings.now) c.args.head c.in-Var.var (patterns c.args.kids.now) (patterns c.args.state.now.side.now)
    (tree_of c.in-Some.tree.cells.now) c.root-in-Var.result (trees_of c.in-Some.behind.cells.now) (trees_of c.args.state.now.trees.cells.now) (trees_of c.kids-2.result.cells.now) (tasks_of _)
    c.args.found.now.items c.search_with.new.found.items c.in-Var.is c.requires.in_class.0.0 c.in-Some.ensures.some c.kids-2.ensures c.root-in-Var.ensures (tasks-Then c.args.state.now.side c.in-Some.behind c.args.state.now.remaining))
    c.search_with.ensures
