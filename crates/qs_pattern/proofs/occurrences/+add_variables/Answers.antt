use Rattle.std.proofs.Common.{◌++◌, ◌-◌, length, take, drop, arith, ap, sym, ◌∙◌, append_assoc}
use Rattle.std.proofs.lemmas.Result.{on_ok_weaker}
use Rattle.qs_pattern.specs.Patterns.{cells, variables_in, head_variables, patterns}
use Rattle.qs_pattern.proofs.PatternLemmas.{side_node}
use Rattle.qs_pattern.proofs.occurrences.+add_variables.Goals as goal

pub add_variables-requires : goal.add_variables-requires
add_variables-requires t c =
    let e = side_node c.args.side.now c.first-item.result c.in-Node.head c.in-Node.kids c.deref.result.now c.in-len1-up.len_at_least c.first-item.is c.in-Node.is c.deref.ensures.value in
    (omega (arith, ap cells e), tt)

pub returns-in_ok-add_variables-in-Node : goal.returns-in_ok-add_variables-in-Node
returns-in_ok-add_variables-in-Node t c =
    let e = side_node c.args.side.now c.first-item.result c.in-Node.head c.in-Node.kids c.deref.result.now c.in-len1-up.len_at_least c.first-item.is c.in-Node.is c.deref.ensures.value in
    let head = head_variables c.in-Node.head in
    let kids = variables_in (patterns c.deref.result.now) in
    let rest = variables_in (patterns (take (length c.args.side.now - 1) (drop 1 c.args.side.now))) in
    on_ok_weaker c.add_variables-in-Node.result
    (λ h.
    h
    ∙ ap (λ vs. vs ++ rest) (c.in_ok-add_variables-in-Node.ensures ∙ ap (λ vs. vs ++ kids) c.in_ok-add_head-in-Node.ensures)
    ∙ append_assoc (c.args.out.now.items ++ head) kids rest
    ∙ append_assoc c.args.out.now.items head (kids ++ rest)
    ∙ ap (λ vs. c.args.out.now.items ++ vs) (sym (ap variables_in e)))
    c.add_variables-in-Node.ensures
