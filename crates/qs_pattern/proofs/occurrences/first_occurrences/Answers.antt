use Rattle.std.proofs.Common.{◌≡◌, ◌∷◌, ◌++◌, [], Vec, Global, take, sym, ◌∙◌, ap}
use Rattle.std.specs.Prelude.{if◌then◌else◌}
use Rattle.qs_pattern.specs.declared.variable.Var.{Var}
use Rattle.qs_pattern.specs.Variables.{firsts}
use Rattle.qs_pattern.proofs.FirstOccurrences.{firsts-more, is_among}
use Rattle.qs_pattern.proofs.occurrences.first_occurrences.Goals as goal
use Rattle.qs_pattern.proofs.occurrences.first_occurrences.Goals.{then-not-contains+in_ok-push, else-not-contains}

pub loop-var-preserved : goal.loop-var-preserved
loop-var-preserved c =
    let v = c.var-item.result in
    let seen = firsts (take c.loop-var.var-index c.args.list.now) in
    let among : is_among v seen ≡ c.contains.result = ap (is_among v) (sym (c.deref.ensures.value ∙ c.loop-var.invariant)) ∙ sym c.contains.ensures.value in
    let more = firsts-more c.args.list.now c.loop-var.var-index v c.loop-var-test.true c.var-item.is in
    elim c.if-not-contains.branch [
      | then-not-contains+in_ok-push w ↦
          ap (λ (s : Vec Var Global). s.items) w.seen-is
          ∙ w.in_ok-push.ensures.items
          ∙ ap (λ us. us ++ v ∷ []) c.loop-var.invariant
          ∙ sym (more ∙ ap (λ b. if b then seen else seen ++ v ∷ []) (among ∙ w.if-not-contains.true))
      | else-not-contains w ↦
          ap (λ (s : Vec Var Global). s.items) w.seen-is
          ∙ c.loop-var.invariant
          ∙ sym (more ∙ ap (λ b. if b then seen else seen ++ v ∷ []) (among ∙ w.if-not-contains.false))
    ]
