use Rattle.std.proofs.Common.{◌≡◌, subst, sym, refl, drop}
use Rattle.qs_lex.specs.Grammar.{part, repeated, IsWhole}
use Rattle.qs_reader.specs.declared.text_end.TextEnd.TheVariants.{Memory}
use Rattle.qs_reader.specs.Names.{NamesGrow}
use Rattle.qs_reader.specs.Readers.{between}
use Rattle.qs_reader.proofs.Steps.{hands_on}
use Rattle.qs_reader.proofs.Lists.{next_read}
use Rattle.qs_ruletext.specs.Grammar.{rule, line}
use Rattle.qs_ruletext.specs.Rules.{ReadsRules, NoRuleAt, EndsFrom}
use Rattle.qs_ruletext.proofs.Told.{told_rules}
use Rattle.qs_ruletext.proofs.RuleSteps.{rules_start, rules_next, all_read, all_whole, all_names, no_rule_behind, ends_behind}
use Rattle.qs_ruletext.proofs.RulesEnd.{not_both_ends, only_memory}
use Rattle.qs_ruletext.proofs.rules.read_rules.Goals as goal

pub loop-reader-init : goal.loop-reader-init
loop-reader-init c = rules_start c.args.names.now c.new-reader.ensures c.requires.within c.new-rules.ensures.items

pub loop-reader-preserved : goal.loop-reader-preserved
loop-reader-preserved c = next_read (rules_next c.loop-reader.rules.items c.push.new.self.items c.in_ok-push.ensures.items) c.loop-reader.invariant c.in_ok-raw.ensures.read

pub returns-in_err-raw-clause-ends : goal.returns-in_err-raw-clause-ends
returns-in_err-raw-clause-ends c =
    hands_on c.from_residual.result (EndsFrom c.args.tokens.now c.args.from) c.from_residual.ensures.1 (ends_behind c.loop-reader.rules.items c.loop-reader.invariant (c.loop-reader-test.ensures.yes refl) c.in_err-raw.ensures.ends)

pub returns-in_err-raw-clause-faultless : goal.returns-in_err-raw-clause-faultless
returns-in_err-raw-clause-faultless c = λ to whole none.
    hands_on c.from_residual.result (λ end. end ≡ Memory) c.from_residual.ensures.1
    (only_memory c.args.tokens.now c.args.from c.in_err-raw.field-0.0 (ends_behind c.loop-reader.rules.items c.loop-reader.invariant (c.loop-reader-test.ensures.yes refl) c.in_err-raw.ensures.ends)
    (λ at stops. not_both_ends c.args.tokens.now c.args.from to at whole none stops))

pub returns-clause-read : goal.returns-clause-read
returns-clause-read c = λ later keeps.
    subst (λ at. ReadsRules later c.args.text.now (drop c.args.from c.args.tokens.now) c.loop-reader.rules.items (drop at c.args.tokens.now)) (sym c.place.ensures.place) (all_read c.loop-reader.rules.items c.loop-reader.invariant later keeps)

pub returns-clause-whole : goal.returns-clause-whole
returns-clause-whole c =
    subst (λ at. IsWhole line (repeated (part rule)) (drop c.args.from c.args.tokens.now) (drop at c.args.tokens.now)) (sym c.place.ensures.place) (all_whole c.loop-reader.rules.items c.loop-reader.invariant)

pub returns-clause-behind : goal.returns-clause-behind
returns-clause-behind c = subst (λ at. NoRuleAt c.args.tokens.now at) (sym c.place.ensures.place) (no_rule_behind c.loop-reader.rules.items c.loop-reader.invariant (c.loop-reader-test.ensures.no refl))

pub returns-clause-made : goal.returns-clause-made
returns-clause-made c =
    told_rules c.loop-reader.names c.args.text.now (drop c.args.from c.args.tokens.now) (drop c.loop-reader.reader.place c.args.tokens.now) c.loop-reader.rules.items (all_read c.loop-reader.rules.items c.loop-reader.invariant c.loop-reader.names (λ k t i. i))

pub returns-clause-names : goal.returns-clause-names
returns-clause-names c = subst (λ at. NamesGrow c.args.text.now (between c.args.tokens.now c.args.from at) c.args.names.now c.loop-reader.names) (sym c.place.ensures.place) (all_names c.loop-reader.rules.items c.loop-reader.invariant)

pub returns-clause-faulty : goal.returns-clause-faulty
returns-clause-faulty c = λ at stops.
    absurd (not_both_ends c.args.tokens.now c.args.from c.loop-reader.reader.place at (all_whole c.loop-reader.rules.items c.loop-reader.invariant) (no_rule_behind c.loop-reader.rules.items c.loop-reader.invariant (c.loop-reader-test.ensures.no refl)) stops)
