use Rattle.std.proofs.Common.{◌≡◌, List, [], ◌∷◌, ◌++◌, map, sym, ap, ◌∙◌, subst, append_assoc}
use Rattle.std.specs.Arc.{arc_value}
use Rattle.qs_firing.specs.Firings.{Firing}
use Rattle.qs_firing.specs.Work.{WithTrees}
use Rattle.qs_join.specs.working.Sorting.{Repeats}
use Rattle.qs_join.proofs.Making.{of_next, made_before, made_now}
use Rattle.qs_join.proofs.joining.made_of.Goals as goal

pub loop-firing-preserved-then-is_repeated : goal.loop-firing-preserved-then-is_repeated
loop-firing-preserved-then-is_repeated c =
    let (arcs, fires) = c.requires.fire in
    let x = c.loop-firing.invariant in
    let f = c.in-Some.firing in
    let more = c.next.new.self.rest.items in
    let split : c.args.firings.items ≡ x.seen ++ (f ∷ more) = x.all ∙ ap (λ fs. x.seen ++ fs) c.in-Some.ensures.steps.0 in
    record {
      seen = x.seen ++ f ∷ [];
      all = split ∙ sym (append_assoc x.seen (f ∷ []) more);
      made = made_before c.args.rules.now c.requires.in_class arcs c.args.firings.items fires c.requires.rises x.seen more f split c.loop-firing.made.items x.made
          (subst (λ (ms : List WithTrees). Repeats ms f) c.deref.ensures.value (c.is_repeated.ensures.0 c.if-is_repeated.true));
    }

pub built-requires : goal.built-requires
built-requires c =
    let (arcs, fires) = c.requires.fire in
    let x = c.loop-firing.invariant in
    let f = c.in-Some.firing in
    let more = c.next.new.self.rest.items in
    let split : c.args.firings.items ≡ x.seen ++ (f ∷ more) = x.all ∙ ap (λ fs. x.seen ++ fs) c.in-Some.ensures.steps.0 in
    (arcs, fires f (of_next c.args.rules.now c.requires.in_class arcs c.args.firings.items fires c.requires.rises x.seen more f split))

pub loop-firing-preserved : goal.loop-firing-preserved
loop-firing-preserved c =
    let (arcs, fires) = c.requires.fire in
    let x = c.loop-firing.invariant in
    let f = c.in-Some.firing in
    let more = c.next.new.self.rest.items in
    let split : c.args.firings.items ≡ x.seen ++ (f ∷ more) = x.all ∙ ap (λ fs. x.seen ++ fs) c.in-Some.ensures.steps.0 in
    let ts = map (λ t. arc_value t) c.in_ok-trees.trees.items in
    record {
      seen = x.seen ++ f ∷ [];
      all = split ∙ sym (append_assoc x.seen (f ∷ []) more);
      made = made_now c.args.rules.now c.requires.in_class arcs c.args.firings.items fires c.requires.rises x.seen more f split c.loop-firing.made.items c.push.new.self.items ts x.made
          (λ again. let t = c.is_repeated.ensures.1 (subst (λ (ms : List WithTrees). Repeats ms f) (sym c.deref.ensures.value) again) in let n = c.if-is_repeated.false in absurd cc)
          (c.in_ok-push.ensures.items ∙ ap (λ (g : Firing). c.loop-firing.made.items ++ record { firing = g; trees = ts } ∷ []) c.in_ok-firing.ensures.ok)
          c.in_ok-trees.ensures;
    }
