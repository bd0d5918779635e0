use Rattle.std.proofs.Common.{◌≡◌, ◌++◌, ◌∷◌, [], length, take, ap, ◌∙◌, refl}
use Rattle.qs_tree.specs.Trees.{first_tree}
use Rattle.qs_tree.proofs.Kept.{kept-append, kept-further, kept-same, on_err}
use Rattle.qs_tree.specs.Cells.{tree_of, forest_in}
use Rattle.qs_tree.proofs.Walk.{spelling, goes_down, goes_over, goes_up, smaller_down, smaller_over, smaller_up, first_of, none_of, forests-push}
use Rattle.qs_tree.proofs.text.append_tree.Goals as goal
use Rattle.qs_tree.proofs.text.append_tree.Goals.{In_ok-push-2, In_ok-push-3, In_ok-push-5}

-- the first subtree and the others
below : (c : In_ok-push-2) → (tree_of c.in-Some.here.cells.now).subtrees ≡ first_tree (tree_of c.in-Some-first_rest.first.cells.now).root (tree_of c.in-Some-first_rest.first.cells.now).subtrees (forest_in c.in-Some-first_rest.rest.cells.now)
below c = first_of _ c.kids.result.cells.now _ c.in-Some-first_rest.rest.cells.now c.kids.ensures c.in-Some-first_rest.ensures.some

written : (c : In_ok-push-2) → c.push.new.self.items ≡ (c.loop-next.out.items ++ spelling c.args.names.now (tree_of c.in-Some.here.cells.now).root) ++ 40 ∷ []
written c =
    c.in_ok-push.ensures.items
    ∙ ap (λ xs. xs ++ 40 ∷ [])
    (c.in_ok-append_label.ensures.ok ∙ ap (λ l. c.loop-next.out.items ++ spelling c.args.names.now l) c.root.ensures)

-- what stood in `out` at first still stands there, with the label and the parenthesis behind it
kept : (c : In_ok-push-2) → take (length c.args.out.now.items) c.push.new.self.items ≡ c.args.out.now.items
kept c =
    kept-append _ c.append_label.new.out.items _ (40 ∷ [])
    (kept-append _ c.loop-next.out.items _ _ c.loop-next.invariant.kept c.in_ok-append_label.ensures.ok) c.in_ok-push.ensures.items

pub loop-next-smaller-in-Some : goal.loop-next-smaller-in-Some
loop-next-smaller-in-Some c =
    smaller_down c.loop-next.next _ _ c.in-Some.here c.in-Some-first_rest.first _ c.in-Some.is (below c) (forests-push _ _ c.in-Some-first_rest.rest c.in_ok-push-2.ensures.items)

pub loop-next-preserved-in-Some : goal.loop-next-preserved-in-Some
loop-next-preserved-in-Some c = record {
  written =
      goes_down _ _ _ c.loop-next.out.items _ c.loop-next.next _ _ c.in-Some.here c.in-Some-first_rest.first _ c.in-Some.is (below c) (written c)
      (forests-push _ _ c.in-Some-first_rest.rest c.in_ok-push-2.ensures.items) c.loop-next.invariant.written;
  kept = kept c;
}

pub loop-next-smaller-in_default-first_rest-2 : goal.loop-next-smaller-in_default-first_rest-2
loop-next-smaller-in_default-first_rest-2 c =
    smaller_up c.loop-next.next _ _ _ (forests-push _ _ c.in-Some-pop.left c.in-Some-pop.ensures.items)

pub loop-next-preserved-in_default-first_rest-2 : goal.loop-next-preserved-in_default-first_rest-2
loop-next-preserved-in_default-first_rest-2 c = record {
  written =
      goes_up _ _ _ c.loop-next.out.items _ c.loop-next.next _ _ (forest_in c.in-Some-pop.left.cells.now) c.in_default.is
      (none_of _ c.in-Some-pop.left.cells.now refl (c.in_default-first_rest-2.ensures.none.0 refl)) c.in_ok-push-3.ensures.items
      (forests-push _ _ c.in-Some-pop.left c.in-Some-pop.ensures.items) c.loop-next.invariant.written;
  kept = kept-append _ c.loop-next.out.items _ _ c.loop-next.invariant.kept c.in_ok-push-3.ensures.items;
}

next : (c : In_ok-push-5) → forest_in c.in-Some-pop.left.cells.now ≡ first_tree (tree_of c.in-Some-first_rest-2.first.cells.now).root (tree_of c.in-Some-first_rest-2.first.cells.now).subtrees (forest_in c.in-Some-first_rest-2.rest.cells.now)
next c = first_of _ c.in-Some-pop.left.cells.now _ c.in-Some-first_rest-2.rest.cells.now refl c.in-Some-first_rest-2.ensures.some

pub loop-next-smaller : goal.loop-next-smaller
loop-next-smaller c =
    smaller_over c.loop-next.next _ _ c.in-Some-first_rest-2.first _ _ _ (next c)
    (forests-push _ _ c.in-Some-pop.left c.in-Some-pop.ensures.items) (forests-push _ _ c.in-Some-first_rest-2.rest c.in_ok-push-5.ensures.items)

pub loop-next-preserved : goal.loop-next-preserved
loop-next-preserved c = record {
  written =
      goes_over _ _ _ c.loop-next.out.items _ c.loop-next.next _ _ c.in-Some-first_rest-2.first _ _ _ c.in_default.is (next c) c.in_ok-push-4.ensures.items
      (forests-push _ _ c.in-Some-pop.left c.in-Some-pop.ensures.items) (forests-push _ _ c.in-Some-first_rest-2.rest c.in_ok-push-5.ensures.items)
      c.loop-next.invariant.written;
  kept = kept-append _ c.loop-next.out.items _ _ c.loop-next.invariant.kept c.in_ok-push-4.ensures.items;
}

pub returns-in_err-append_label-clause-err : goal.returns-in_err-append_label-clause-err
returns-in_err-append_label-clause-err c =
    on_err _ (kept-further _ c.loop-next.out.items _ c.loop-next.invariant.kept c.in_err-append_label.ensures.err)

pub returns-in_err-push-clause-err : goal.returns-in_err-push-clause-err
returns-in_err-push-clause-err c =
    on_err _
    (kept-same _ c.append_label.new.out.items _ (kept-append _ c.loop-next.out.items _ _ c.loop-next.invariant.kept c.in_ok-append_label.ensures.ok) c.in_err-push.ensures.items)

pub returns-in_err-push-2-clause-err : goal.returns-in_err-push-2-clause-err
returns-in_err-push-2-clause-err c =
    on_err _
    (kept-append _ c.append_label.new.out.items _ (40 ∷ [])
    (kept-append _ c.loop-next.out.items _ _ c.loop-next.invariant.kept c.in_ok-append_label.ensures.ok) c.in_ok-push.ensures.items)

pub returns-in_err-push-3-clause-err : goal.returns-in_err-push-3-clause-err
returns-in_err-push-3-clause-err c = on_err _ (kept-same _ c.loop-next.out.items _ c.loop-next.invariant.kept c.in_err-push-3.ensures.items)

pub returns-in_err-push-4-clause-err : goal.returns-in_err-push-4-clause-err
returns-in_err-push-4-clause-err c = on_err _ (kept-same _ c.loop-next.out.items _ c.loop-next.invariant.kept c.in_err-push-4.ensures.items)
