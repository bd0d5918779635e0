-- Checking rules, one behind the other.
use Rattle.std.proofs.Common.{◌≡◌, ◌<◌, Bool, List, [], ◌∷◌, ◌++◌, length, map, sym, ◌∙◌, ap, subst}
use Rattle.std.specs.List.{All}
use Rattle.std.proofs.lemmas.List.{map-append, append-nil, append_assoc}
use Rattle.std.proofs.lemmas.List.Elements.{All-nil, All-cons, All-push, All-head, All-tail, All-append}
use Rattle.std.proofs.lemmas.Grind.{flat_map-append}
use Rattle.qs_pattern.specs.Rules.{Rule, IsAcceptable, IsAccepted}
use Rattle.qs_ruletext.specs.WrittenRules.{WrittenRule}
use Rattle.qs_check.specs.Checking.{CanBeChecked, EndsWith}
use Rattle.qs_check.specs.declared.checking.CheckEnd.{CheckEnd}
use Rattle.qs_check.specs.declared.checking.CheckEnd.TheVariants.{Refused, Memory}
use Rattle.qs_deck.specs.WrittenDecks.{WrittenSystem, rules_of}
use Rattle.qs_deck.specs.declared.system.System.{System}
use Rattle.qs_deck.specs.Decks.{Grammar, rule_of, grammar_of, meaning_of}
use Rattle.qs_deck.specs.working.Checked.{AreAccepted, IsFirstRefused}

-- a system's rules are fewer than a number of rules can be
abbrev pub HasFewRules : WrittenSystem → Type 0
HasFewRules system = length system.rules < 4294967295

-- what holds of each member of two lists, one behind the other, holds of each member of both
All-left : {X : Type 0} (P : X → Type 0) (xs ys : List X) → All P (xs ++ ys) → All P xs
All-left P [] ys h = All-nil P
All-left P (x ∷ xs) ys h = All-cons P x xs (All-head P x (xs ++ ys) h) (All-left P xs ys (All-tail P x (xs ++ ys) h))

All-right : {X : Type 0} (P : X → Type 0) (xs ys : List X) → All P (xs ++ ys) → All P ys
All-right P [] ys h = h
All-right P (x ∷ xs) ys h = All-right P xs ys (All-tail P x (xs ++ ys) h)

-- the rules so far are those of the front, which are accepted, and the rest is behind it
pub record AreCheckedSoFar (unique : Bool) (raws : List WrittenRule) (rules : List Rule) (rest : List WrittenRule) : Type 0 where
  pub front : List WrittenRule
  pub are : raws ≡ front ++ rest
  pub accepted : AreAccepted front
  pub rules_are : rules ≡ map (rule_of unique) front
  pub can : All CanBeChecked rest

pub checked_first : (unique : Bool) (raws : List WrittenRule) (rules : List Rule) (rest : List WrittenRule) → rules ≡ [] → rest ≡ raws → All CanBeChecked raws → AreCheckedSoFar unique raws rules rest
checked_first unique raws rules rest n e can = record {
  front = [];
  are = sym e;
  accepted = All-nil (λ r. IsAcceptable r.rule);
  rules_are = n;
  can = subst (All CanBeChecked) (sym e) can;
}

-- one more is accepted
pub checked_next : (unique : Bool) (raws : List WrittenRule) (rules new : List Rule) (left rest : List WrittenRule) (raw : WrittenRule) (rule : Rule) → left ≡ raw ∷ rest → rule ≡ rule_of unique raw → IsAccepted rule → new ≡ rules ++ rule ∷ []
    → AreCheckedSoFar unique raws rules left → AreCheckedSoFar unique raws new rest
checked_next unique raws rules new left rest raw rule l e a n x = record {
  front = x.front ++ raw ∷ [];
  are = x.are ∙ ap (λ ys. x.front ++ ys) l ∙ sym (append_assoc x.front (raw ∷ []) rest);
  accepted = All-push (λ r. IsAcceptable r.rule) x.front raw x.accepted (subst IsAccepted e a);
  rules_are = n ∙ ap (λ rs. rs ++ rule ∷ []) x.rules_are ∙ ap (λ r. map (rule_of unique) x.front ++ r ∷ []) e ∙ sym (map-append (rule_of unique) x.front (raw ∷ []));
  can = All-tail CanBeChecked raw rest (subst (All CanBeChecked) l x.can);
}

-- the next can be checked
pub can_next : (unique : Bool) (raws : List WrittenRule) (rules : List Rule) (left rest : List WrittenRule) (raw : WrittenRule) → left ≡ raw ∷ rest → AreCheckedSoFar unique raws rules left → CanBeChecked raw
can_next unique raws rules left rest raw l x = All-head CanBeChecked raw rest (subst (All CanBeChecked) l x.can)

-- all are accepted
pub checked_all : (unique : Bool) (raws : List WrittenRule) (rules : List Rule) (left : List WrittenRule) → left ≡ [] → AreCheckedSoFar unique raws rules left → (rules ≡ map (rule_of unique) raws) × AreAccepted raws
checked_all unique raws rules left l x =
    let are : raws ≡ x.front = x.are ∙ ap (λ ys. x.front ++ ys) l ∙ append-nil x.front in
    (x.rules_are ∙ ap (map (rule_of unique)) (sym are), subst AreAccepted (sym are) x.accepted)

-- the next is refused
pub refused_next : (unique : Bool) (raws : List WrittenRule) (rules : List Rule) (left rest : List WrittenRule) (raw : WrittenRule) (end : CheckEnd) → left ≡ raw ∷ rest → AreCheckedSoFar unique raws rules left → EndsWith raw end → IsFirstRefused raws end
refused_next unique raws rules left rest raw (Refused cause at) l x ends = record {
  front = x.front;
  raw = raw;
  behind = rest;
  are = x.are ∙ ap (λ ys. x.front ++ ys) l;
  accepted = x.accepted;
  ends = ends;
}
refused_next unique raws rules left rest raw Memory l x ends = tt

-- the grammars so far are those of the systems in front, whose rules are accepted, and the rest is behind them
pub record AreSystemsSoFar (systems : List WrittenSystem) (grammars : List Grammar) (rest : List WrittenSystem) : Type 0 where
  pub front : List WrittenSystem
  pub are : systems ≡ front ++ rest
  pub accepted : AreAccepted (rules_of front)
  pub grammars_are : grammars ≡ map meaning_of front
  pub can : All CanBeChecked (rules_of rest)
  pub few : All HasFewRules rest

pub systems_first : (systems : List WrittenSystem) (checked : List System) (rest : List WrittenSystem) → checked ≡ [] → rest ≡ systems → All CanBeChecked (rules_of systems) → All HasFewRules systems
    → AreSystemsSoFar systems (map grammar_of checked) rest
systems_first systems checked rest n e can few = record {
  front = [];
  are = sym e;
  accepted = All-nil (λ r. IsAcceptable r.rule);
  grammars_are = ap (map grammar_of) n;
  can = subst (λ ss. All CanBeChecked (rules_of ss)) (sym e) can;
  few = subst (All HasFewRules) (sym e) few;
}

-- one more has accepted rules
pub systems_next : (systems : List WrittenSystem) (checked new : List System) (left rest : List WrittenSystem) (system : WrittenSystem) (next : System) → left ≡ system ∷ rest → grammar_of next ≡ meaning_of system
    → AreAccepted system.rules → new ≡ checked ++ next ∷ [] → AreSystemsSoFar systems (map grammar_of checked) left → AreSystemsSoFar systems (map grammar_of new) rest
systems_next systems checked new left rest system next l e a n x = record {
  front = x.front ++ system ∷ [];
  are = x.are ∙ ap (λ ys. x.front ++ ys) l ∙ sym (append_assoc x.front (system ∷ []) rest);
  accepted =
      subst AreAccepted (sym (flat_map-append (λ (s : WrittenSystem). s.rules) x.front (system ∷ [])))
      (All-append (λ r. IsAcceptable r.rule) (rules_of x.front) (rules_of (system ∷ [])) x.accepted (subst AreAccepted (sym (append-nil system.rules)) a));
  grammars_are =
      ap (map grammar_of) n ∙ map-append grammar_of checked (next ∷ []) ∙ ap (λ gs. gs ++ grammar_of next ∷ []) x.grammars_are ∙ ap (λ g. map meaning_of x.front ++ g ∷ []) e
      ∙ sym (map-append meaning_of x.front (system ∷ []));
  can = All-right CanBeChecked system.rules (rules_of rest) (subst (λ ss. All CanBeChecked (rules_of ss)) l x.can);
  few = All-tail HasFewRules system rest (subst (All HasFewRules) l x.few);
}

-- the rules of the next can be checked, and are few
pub can_system : (systems : List WrittenSystem) (grammars : List Grammar) (left rest : List WrittenSystem) (system : WrittenSystem) → left ≡ system ∷ rest → AreSystemsSoFar systems grammars left
    → All CanBeChecked system.rules × HasFewRules system
can_system systems grammars left rest system l x =
    (All-left CanBeChecked system.rules (rules_of rest) (subst (λ ss. All CanBeChecked (rules_of ss)) l x.can), All-head HasFewRules system rest (subst (All HasFewRules) l x.few))

-- all rules are accepted
pub systems_all : (systems : List WrittenSystem) (grammars : List Grammar) (left : List WrittenSystem) → left ≡ [] → AreSystemsSoFar systems grammars left → (grammars ≡ map meaning_of systems) × AreAccepted (rules_of systems)
systems_all systems grammars left l x =
    let are : systems ≡ x.front = x.are ∙ ap (λ ys. x.front ++ ys) l ∙ append-nil x.front in
    (x.grammars_are ∙ ap (map meaning_of) (sym are), subst (λ ss. AreAccepted (rules_of ss)) (sym are) x.accepted)

-- a rule of the next is refused
pub refused_system : (systems : List WrittenSystem) (grammars : List Grammar) (left rest : List WrittenSystem) (system : WrittenSystem) (end : CheckEnd) → left ≡ system ∷ rest → AreSystemsSoFar systems grammars left
    → IsFirstRefused system.rules end → IsFirstRefused (rules_of systems) end
refused_system systems grammars left rest system (Refused cause at) l x first = record {
  front = rules_of x.front ++ first.front;
  raw = first.raw;
  behind = first.behind ++ rules_of rest;
  are =
      ap rules_of (x.are ∙ ap (λ ys. x.front ++ ys) l) ∙ flat_map-append (λ (s : WrittenSystem). s.rules) x.front (system ∷ rest) ∙ ap (λ rs. rules_of x.front ++ (rs ++ rules_of rest)) first.are
      ∙ ap (λ rs. rules_of x.front ++ rs) (append_assoc first.front (first.raw ∷ first.behind) (rules_of rest)) ∙ sym (append_assoc (rules_of x.front) first.front (first.raw ∷ (first.behind ++ rules_of rest)));
  accepted = All-append (λ r. IsAcceptable r.rule) (rules_of x.front) first.front x.accepted first.accepted;
  ends = first.ends;
}
refused_system systems grammars left rest system Memory l x first = tt
