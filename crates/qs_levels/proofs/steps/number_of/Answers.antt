use Rattle.std.proofs.Common.{◌≡◌, ℕ, [], List, length, Some, None, cond, nat_eq, slice_get, sym, ap, subst, ◌∙◌, arith}
use Rattle.std.specs.HashMap.{get}
use Rattle.qs_tree.specs.declared.cell.Label.{Label}
use Rattle.qs_firing.proofs.Merging.{at_seam}
use Rattle.qs_levels.specs.working.Steps.{AreNumbered}
use Rattle.qs_levels.proofs.Numbering.{known_stays, is_behind, is_numbered}
use Rattle.qs_levels.proofs.steps.number_of.Goals as goal

pub returns-in-Some : goal.returns-in-Some
returns-in-Some c =
    let k = known_stays c.args.labels.now.items (λ n. get nat_eq c.args.numbers.now n) c.requires c.args.label c.in-Some.number.now (sym c.in-Some.ensures.value) in
    record { labels = sym k.0; numbered = c.requires; number = k.1 }

pub returns : goal.returns
returns c =
    let long : c.len-number.result ≡ length c.args.labels.now.items = omega (arith, c.len-number.ensures, c.args.labels.now.ok.0) in
    let none : get nat_eq c.args.numbers.now c.args.label.0 ≡ None = sym c.in_default.ensures.value in
    let after : (n : ℕ) → get nat_eq c.insert.new.self n ≡ cond (nat_eq c.args.label.0 n) (Some (length c.args.labels.now.items)) (get nat_eq c.args.numbers.now n) =
    (λ n. c.in_ok-insert.ensures.updates.0 n ∙ ap (λ k. cond (nat_eq c.args.label.0 n) (Some k) (get nat_eq c.args.numbers.now n)) long) in
    let put = c.in_ok-push.ensures.items in
    record {
      labels = put ∙ sym (is_behind c.args.labels.now.items (λ n. get nat_eq c.args.numbers.now n) c.requires c.args.label none (λ n. get nat_eq c.insert.new.self n) after);
      numbered = subst (λ (ls : List Label). AreNumbered ls (λ n. get nat_eq c.insert.new.self n)) (sym put)
          (is_numbered c.args.labels.now.items (λ n. get nat_eq c.args.numbers.now n) c.requires c.args.label none (λ n. get nat_eq c.insert.new.self n) after);
      number = subst (λ k. slice_get c.push.new.self.items k ≡ Some c.args.label) (sym long) (ap (λ ls. slice_get ls (length c.args.labels.now.items)) put ∙ at_seam c.args.labels.now.items c.args.label []);
    }
