use Rattle.std.proofs.Common.{List, ℕ, sym, subst, ap, ◌∙◌}
use Rattle.qs_firing.specs.Firings.{Firing}
use Rattle.qs_canon.specs.working.CanonTables.{AreNumbered}
use Rattle.qs_canon.specs.working.CanonNumbers.{table_of}
use Rattle.qs_canon.proofs.numbers.firing_in_numbers.Goals as goal

pub numbers_of-requires : goal.numbers_of-requires
numbers_of-requires c =
    let path = c.deref.ensures.value ∙ ap (λ (f : Firing). f.path) c.firing.view_is in
    subst (λ (ks : List ℕ). (ls : List ℕ) × AreNumbered (table_of c.args.table.now) ks ls) (sym path) c.requires

pub returns : goal.returns
returns c =
    let path = c.deref.ensures.value ∙ ap (λ (f : Firing). f.path) c.firing.view_is in
    let rule = ap (λ (f : Firing). f.rule) c.firing.view_is in
    let values = c.in_ok-copy.ensures ∙ ap (λ (f : Firing). f.values) c.firing.view_is in (
      c.in_ok-numbers_of.field-0.items,
      subst (λ (ks : List ℕ). AreNumbered (table_of c.args.table.now) ks c.in_ok-numbers_of.field-0.items) path c.in_ok-numbers_of.ensures,
      (λ i. record { rule = rule i; path = c.in_ok-numbers_of.field-0.items; values = values i }),
    )
