use Rattle.std.proofs.Common.{◌≡◌, ◌<◌, ◌≤◌, ◌++◌, ap, ◌∙◌, sym, subst, append_assoc, rules, refl, codes, length, arith}
use Rattle.std.proofs.lemmas.Bool.Decides.{nat_tests}
use Rattle.qs_tree.proofs.Kept.{kept-append, kept-further, on_err}
use Rattle.qs_pattern.specs.declared.pattern.Pattern.TheFolds.{the_lemmas}
use Rattle.qs_pattern.specs.Patterns.{patterns}
use Rattle.qs_pattern.specs.Named.{ArePatternsNamed}
use Rattle.qs_ruletext.specs.Texts.{pattern_texts, head_text, kids_text}
use Rattle.qs_ruletext.proofs.PatternTexts.{kept_first, kids_some, kids_none, named_kids, text-Node, named_here, opened, opened_more, opened_done}
use Rattle.qs_ruletext.proofs.writing.+append_pattern.Goals as goal

pub loop-kid-init : goal.loop-kid-init
loop-kid-init t c =
    record {
      written = refl;
      kept = kept_first c.args.out.now.items _ _ c.in_ok-append_head.ensures.ok;
      named =
          subst (λ ps. ArePatternsNamed (length c.args.names.now) (patterns ps)) (sym c.deref-kid-items.ensures.value)
          (named_kids _ c.in-Node.head c.in-Node.kids _ c.in-Node.is c.requires).1;
    }

pub append_pattern-requires : goal.append_pattern-requires
append_pattern-requires t c = (
  search (rules, the_lemmas),
  (named_here c.args.names.now _ _ c.loop-kid.kid-index c.kid-item.result c.loop-kid-test.true c.kid-item.is c.loop-kid.invariant.named).0,
)

pub returns-in_err-append_pattern-clause-err : goal.returns-in_err-append_pattern-clause-err
returns-in_err-append_pattern-clause-err t c =
    on_err _
    (kept-further _ c.push.new.self.items _ (kept-append _ c.loop-kid.out.items _ _ c.loop-kid.invariant.kept c.in_ok-push.ensures.items) c.in_err-append_pattern.ensures.err)

pub loop-kid-preserved : goal.loop-kid-preserved
loop-kid-preserved t c =
    record {
      written =
          opened_more c.args.names.now _ c.loop-kid.kid-index c.kid-item.result c.loop-kid-test.true c.kid-item.is c.loop-kid.before
          _ _ _ _ c.in_ok-push.ensures.items c.in_ok-append_pattern.ensures.ok c.loop-kid.invariant.written;
      kept =
          kept-append _ c.push.new.self.items _ _
          (kept-append _ c.loop-kid.out.items _ _ c.loop-kid.invariant.kept c.in_ok-push.ensures.items) c.in_ok-append_pattern.ensures.ok;
      named = (named_here c.args.names.now _ _ c.loop-kid.kid-index c.kid-item.result c.loop-kid-test.true c.kid-item.is c.loop-kid.invariant.named).1;
    }

pub returns-in_ok-push-2-clause-ok : goal.returns-in_ok-push-2-clause-ok
returns-in_ok-push-2-clause-ok t c =
    let names = c.args.names.now in
    let kids = c.in-Node.kids.items in
    let some : 0 < length kids = grind (arith, nat_tests, c.if-not-is_empty.ensures, c.in-Node.kids.ok.0) in
    let loop : c.loop-kid.out.items ≡ c.append_head.new.out.items ++ opened 40 (pattern_texts names (patterns kids)) =
    opened_done names _ c.loop-kid.kid-index _ _ _ c.loop-kid-test.false c.loop-kid.invariant.written
    ∙ ap (λ ps. c.append_head.new.out.items ++ opened 40 (pattern_texts names (patterns ps))) c.deref-kid-items.ensures.value
    in
    c.in_ok-push-2.ensures.items
    ∙ ap (λ xs. xs ++ codes ")") loop
    ∙ append_assoc c.append_head.new.out.items _ (codes ")")
    ∙ ap (λ xs. c.append_head.new.out.items ++ xs) (sym (kids_some names kids some))
    ∙ ap (λ xs. xs ++ kids_text (pattern_texts names (patterns kids))) c.in_ok-append_head.ensures.ok
    ∙ append_assoc c.args.out.now.items (head_text names c.in-Node.head) _
    ∙ ap (λ xs. c.args.out.now.items ++ xs) (sym (text-Node names c.in-Node.head c.in-Node.kids _ c.in-Node.is))

pub returns-else-not-is_empty-clause-ok : goal.returns-else-not-is_empty-clause-ok
returns-else-not-is_empty-clause-ok t c =
    let names = c.args.names.now in
    let kids = c.in-Node.kids.items in
    let none : length kids ≤ 0 = grind (arith, nat_tests, c.if-not-is_empty.ensures, c.in-Node.kids.ok.0) in
    let loop : c.loop-kid.out.items ≡ c.append_head.new.out.items ++ opened 40 (pattern_texts names (patterns kids)) =
    opened_done names _ c.loop-kid.kid-index _ _ _ c.loop-kid-test.false c.loop-kid.invariant.written
    ∙ ap (λ ps. c.append_head.new.out.items ++ opened 40 (pattern_texts names (patterns ps))) c.deref-kid-items.ensures.value
    in
    loop
    ∙ ap (λ xs. c.append_head.new.out.items ++ xs) (sym (kids_none names kids none))
    ∙ ap (λ xs. xs ++ kids_text (pattern_texts names (patterns kids))) c.in_ok-append_head.ensures.ok
    ∙ append_assoc c.args.out.now.items (head_text names c.in-Node.head) _
    ∙ ap (λ xs. c.args.out.now.items ++ xs) (sym (text-Node names c.in-Node.head c.in-Node.kids _ c.in-Node.is))
