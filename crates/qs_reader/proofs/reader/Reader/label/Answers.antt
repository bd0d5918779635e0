use Rattle.std.proofs.Common.{subst, ap}
use Rattle.qs_reader.specs.Names.{IsLabelOf, AddsNameOf}
use Rattle.qs_reader.proofs.Tokens.{passed}
use Rattle.qs_reader.proofs.reader.Reader.label.Goals as goal

pub returns-in_ok-label-in-Some-clause-names : goal.returns-in_ok-label-in-Some-clause-names
returns-in_ok-label-in-Some-clause-names c = record {
  token = c.in-Some.next;
  passed = passed c.args.self.now c.take.new.self c.in-Some.next c.in-Some.ensures.some c.take.ensures.taken;
  is_label = λ later keeps. subst (λ text. IsLabelOf later text c.in-Some.next c.in_ok-label-in-Some.label) (ap (λ r. r.text) c.self.view_is) (c.in_ok-label-in-Some.ensures.label later keeps);
  adds = subst (λ text. AddsNameOf text c.in-Some.next c.args.names.now c.label_of.new.names) (ap (λ r. r.text) c.self.view_is) c.in_ok-label-in-Some.ensures.adds;
  keeps = c.in_ok-label-in-Some.ensures.keeps;
  few = c.in_ok-label-in-Some.ensures.few;
}
