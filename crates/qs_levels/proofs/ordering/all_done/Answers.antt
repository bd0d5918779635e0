use Rattle.std.proofs.Common.{◌≡◌, ◌++◌, ◌∷◌, [], ℕ, true, false, List, take, get_or, None, ⊎_elim, sym, ap, ◌∙◌, subst, arith}
use Rattle.std.proofs.lemmas.List.{take_all, take_more}
use Rattle.qs_firing.proofs.Placing.{in_more}
use Rattle.qs_levels.specs.declared.ordering.Node.{Node}
use Rattle.qs_levels.specs.working.Ordering.{IsUndone}
use Rattle.qs_levels.proofs.ordering.all_done.Goals as goal

one_more : (nodes : List Node) (x : Node) → ((n : ℕ) → IsUndone nodes n → ⊥) → x.done ≡ true → (n : ℕ) → IsUndone (nodes ++ x ∷ []) n → ⊥
one_more nodes x h t n u = ⊎_elim
    (λ e. h n (record { node = u.node; is = e; undone = u.undone }))
    (λ (p, q). let f : true ≡ false = sym t ∙ ap (λ (y : Node). y.done) (sym q) ∙ u.undone in cc)
    (in_more nodes x n u.node u.is)

pub loop-node-preserved : goal.loop-node-preserved
loop-node-preserved c =
    let d : Node = (record { depth = 0; unpassed = None; done = false }) in
    subst (λ (ns : List Node). (n : ℕ) → IsUndone ns n → ⊥) (sym (take_more c.args.nodes.now c.loop-node.node-index (record { depth = 0; unpassed = None; done = false }) c.loop-node-test.true))
    (one_more (take c.loop-node.node-index c.args.nodes.now) (get_or c.args.nodes.now c.loop-node.node-index (record { depth = 0; unpassed = None; done = false })) c.loop-node.invariant c.if-not-node.false)

pub returns-clause-yes : goal.returns-clause-yes
returns-clause-yes c = λ _. subst (λ (ns : List Node). (n : ℕ) → IsUndone ns n → ⊥) (take_all c.loop-node.node-index c.args.nodes.now (omega arith)) c.loop-node.invariant
