-- The arguments of the simple command, and that a parse with it gives each option a number.
use Rattle.std.proofs.Common.{◌≡◌, ◌⊎◌, ◌∙◌, ◌<◌, ◌≤◌, ◌&&◌, ℕ, zero, suc, Bool, true, false, not, List, [], ◌∷◌, length, is_some, map, Option, Some, None, refl, sym, subst, ap, inl, inr, arith, codes}
use Rattle.std.specs.List.{slice_index_or}
use Rattle.std.specs.Str.{bytes_eq}
use Rattle.std.proofs.Math.ListN.{get_or-map}
use Rattle.std.proofs.lemmas.List.{length-map, nil_from_length}
use Rattle.std.proofs.lemmas.Bool.{not-true}
use borrow.Author.Tests.{eqb-true}
use Rattle.clap.specs.Facts.{args_of, groups_of, least_values, unwrap_or_range}
use Rattle.clap.specs.Texts.{items_of}
use Rattle.clap.specs.Built.{IsParsedFrom, NamesNoGroup}
use Rattle.clap.specs.Matches.{found_of, one_text}
use Rattle.clap.specs.Lexer.{without_minus}
use Rattle.clap.specs.Walk.{Rule, Text, is_empty, is_simple_arg, rule_of}
use Rattle.clap.specs.Simple.{App, app_of, has_plain_fields}
use Rattle.clap.specs.declared.builder.arg.Arg.{Arg}
use Rattle.clap.specs.declared.builder.command.Command.{Command}
use Rattle.clap.specs.declared.builder.command.Command.TheViews.{out-Command}
use Rattle.clap.specs.declared.builder.range.ValueRange.{ValueRange}
use Rattle.clap.specs.declared.parser.matches.ArgMatches.{ArgMatches}
use Rattle.qs_command.specs.Words.{number_option, required_word, simple_command}
use Rattle.qs_command.specs.working.Options.{HasNumber, HasNumbers}
use Rattle.qs_command.proofs.OptionLemmas.{IsNumberOption, option_read}

abbrev rules : List Rule
rules =
    required_word (codes "command") ∷ number_option (codes "limit") 1 1000000 (codes "10000")
    ∷ number_option (codes "workers") 1 32 (codes "4") ∷ number_option (codes "size") 0 13 (codes "8")
    ∷ number_option (codes "readings") 1 1000 (codes "10") ∷ []

rules_are : (c : Command) → app_of c ≡ simple_command → map rule_of (args_of c) ≡ rules
unfolding simple_command
rules_are c is = ap (λ (a : App). a.top.rules) is

is_plain : (c : Command) → app_of c ≡ simple_command → has_plain_fields (out-Command c) ≡ true
unfolding simple_command
is_plain c is = ap (λ (a : App). a.top.is_plain) is

pub empty_list : {X : Type 0} (xs : List X) → is_empty xs ≡ true → xs ≡ []
empty_list xs e = nil_from_length xs (eqb-true (length xs) 0 e)

no_value : {X : Type 0} (o : Option X) → not (is_some o) ≡ true → o ≡ None
no_value None e = refl
no_value (Some x) e = absurd (cc e)

first_three : (a b c d : Bool) → (a && (b && (c && d))) ≡ true → (a ≡ true) × (b ≡ true) × (c ≡ true)
first_three true true true d e = (refl, refl, refl)
first_three true true false d e = absurd (cc e)
first_three true false c d e = absurd (cc e)
first_three false b c d e = absurd (cc e)

four_after_one : (a b c d e : Bool) → (a && (b && (c && (d && e)))) ≡ true → (b ≡ true) × (c ≡ true) × (d ≡ true)
four_after_one true true true true e h = (refl, refl, refl)
four_after_one true true true false e h = absurd (cc h)
four_after_one true true false d e h = absurd (cc h)
four_after_one true false c d e h = absurd (cc h)
four_after_one false b c d e h = absurd (cc h)

-- a simple argument has no default under a condition, no group and no delimiter
simple_parts : (a : Arg) → is_simple_arg a ≡ true
    → (is_empty a.default_vals_ifs.items ≡ true) × (is_empty a.groups.items ≡ true) × (not (is_some a.val_delim) ≡ true)
simple_parts a h =
    four_after_one (is_empty a.overrides.items) (is_empty a.default_vals_ifs.items) (is_empty a.groups.items) (not (is_some a.val_delim))
    (not (is_some a.terminator) && (not a.allow_hyphen_values && (not a.allow_negative_numbers
    && (not a.require_equals && (not a.last && not a.global)))))
    h

all_simple : (k : ℕ) (r : Rule) → k < 5 → (slice_index_or rules k r).is_simple ≡ true
all_simple zero r lt = refl
all_simple (suc zero) r lt = refl
all_simple (suc (suc zero)) r lt = refl
all_simple (suc (suc (suc zero))) r lt = refl
all_simple (suc (suc (suc (suc zero)))) r lt = refl
all_simple (suc (suc (suc (suc (suc k))))) r lt = absurd (omega arith)

module _ (c : Command) (is : app_of c ≡ simple_command) where
  count : length (args_of c) ≡ 5
  count = sym (length-map (args_of c) rule_of) ∙ ap length (rules_are c is)

  rule_at : (k : ℕ) (d : Arg) → rule_of (slice_index_or (args_of c) k d) ≡ slice_index_or rules k (rule_of d)
  rule_at k d = sym (get_or-map rule_of (args_of c) k d) ∙ ap (λ (l : List Rule). slice_index_or l k (rule_of d)) (rules_are c is)

  plain_fields : (is_empty (groups_of c) ≡ true) × (not (out-Command c).allow_external_subcommands ≡ true) × (not (out-Command c).has_globals ≡ true)
  plain_fields = first_three _ _ _ _ (is_plain c is)

  no_groups : groups_of c ≡ []
  no_groups = empty_list (groups_of c) plain_fields.0

  no_globals : (out-Command c).has_globals ≡ false
  no_globals = not-true _ plain_fields.2

  names_no_group : NamesNoGroup c
  names_no_group k d lt =
      let five = count in
      let simple : is_simple_arg (slice_index_or (args_of c) k d) ≡ true = ap (λ (r : Rule). r.is_simple) (rule_at k d) ∙ all_simple k (rule_of d) (omega arith) in
      empty_list _ (simple_parts (slice_index_or (args_of c) k d) simple).1

  number_option_at : (k : ℕ) (d : Arg) (name default : Text) (least most : ℕ) → k < 5
      → slice_index_or rules k (rule_of d) ≡ number_option name least most default
      → ((j : ℕ) (r : Rule) → j < 5 → bytes_eq (slice_index_or rules j r).id name ≡ true → j ≡ k)
      → (name ≡ [] → ⊥) → ((name ≡ codes "help") ⊎ (name ≡ codes "version") → ⊥)
      → IsNumberOption c k d least most
  number_option_at k d name default least most within at only named own =
      let a = slice_index_or (args_of c) k d in
      let five = count in
      let rule : rule_of a ≡ number_option name least most default = rule_at k d ∙ at in
      let id : a.id.now ≡ name = ap (λ (r : Rule). r.id) rule in
      let simple : is_simple_arg a ≡ true = ap (λ (r : Rule). r.is_simple) rule in
      let parts = simple_parts a simple in
      let range : a.num_vals ≡ None = ap (λ (r : Rule). r.range) rule in
      let one_value : least_values a ≡ 1 = ap (λ (r : Option ValueRange). (unwrap_or_range r).start_inclusive) range in
      let takes : 1 ≤ least_values a = omega arith in
      let defaults = ap (λ (r : Rule). r.defaults) rule in
      let one : length (items_of a.default_vals) ≡ 1 = sym (length-map (items_of a.default_vals) (λ s. s.now)) ∙ ap length defaults in
      record {
        within = omega arith;
        set = ap (λ (r : Rule). r.action) rule;
        parser = ap (λ (r : Rule). r.parser) rule;
        delimiter = no_value a.val_delim parts.2;
        takes_one = takes;
        default = (empty_list _ parts.0, omega arith);
        only = λ j e low same. only j (rule_of e) (omega arith)
            (subst (λ (t : Text). bytes_eq t name ≡ true) (ap (λ (r : Rule). r.id) (rule_at j e)) (subst (λ (t : Text). bytes_eq (slice_index_or (args_of c) j e).id.now t ≡ true) id same));
        named = λ empty. named (sym id ∙ empty);
        own = λ auto. own (elim auto [ inl h ↦ inl (sym id ∙ h) | inr h ↦ inr (sym id ∙ h) ]);
      }

only_limit : (j : ℕ) (r : Rule) → j < 5 → bytes_eq (slice_index_or rules j r).id (codes "limit") ≡ true → j ≡ 1
only_limit zero r lt e = absurd (cc e)
only_limit (suc zero) r lt e = refl
only_limit (suc (suc zero)) r lt e = absurd (cc e)
only_limit (suc (suc (suc zero))) r lt e = absurd (cc e)
only_limit (suc (suc (suc (suc zero)))) r lt e = absurd (cc e)
only_limit (suc (suc (suc (suc (suc j))))) r lt e = absurd (omega arith)

only_workers : (j : ℕ) (r : Rule) → j < 5 → bytes_eq (slice_index_or rules j r).id (codes "workers") ≡ true → j ≡ 2
only_workers zero r lt e = absurd (cc e)
only_workers (suc zero) r lt e = absurd (cc e)
only_workers (suc (suc zero)) r lt e = refl
only_workers (suc (suc (suc zero))) r lt e = absurd (cc e)
only_workers (suc (suc (suc (suc zero)))) r lt e = absurd (cc e)
only_workers (suc (suc (suc (suc (suc j))))) r lt e = absurd (omega arith)

only_size : (j : ℕ) (r : Rule) → j < 5 → bytes_eq (slice_index_or rules j r).id (codes "size") ≡ true → j ≡ 3
only_size zero r lt e = absurd (cc e)
only_size (suc zero) r lt e = absurd (cc e)
only_size (suc (suc zero)) r lt e = absurd (cc e)
only_size (suc (suc (suc zero))) r lt e = refl
only_size (suc (suc (suc (suc zero)))) r lt e = absurd (cc e)
only_size (suc (suc (suc (suc (suc j))))) r lt e = absurd (omega arith)

only_readings : (j : ℕ) (r : Rule) → j < 5 → bytes_eq (slice_index_or rules j r).id (codes "readings") ≡ true → j ≡ 4
only_readings zero r lt e = absurd (cc e)
only_readings (suc zero) r lt e = absurd (cc e)
only_readings (suc (suc zero)) r lt e = absurd (cc e)
only_readings (suc (suc (suc zero))) r lt e = absurd (cc e)
only_readings (suc (suc (suc (suc zero)))) r lt e = refl
only_readings (suc (suc (suc (suc (suc j))))) r lt e = absurd (omega arith)

-- a name of another first letter than `help` and `version`
own_name : (name : Text) (first : ℕ) → slice_index_or name 0 0 ≡ first → (first ≡ 104 → ⊥) → (first ≡ 118 → ⊥)
    → (name ≡ codes "help") ⊎ (name ≡ codes "version") → ⊥
own_name name first is help version (inl e) = help (sym is ∙ ap (λ (t : Text). slice_index_or t 0 0) e)
own_name name first is help version (inr e) = version (sym is ∙ ap (λ (t : Text). slice_index_or t 0 0) e)

some_arg : (xs : List Arg) → length xs ≡ 5 → Arg
some_arg [] five = absurd (omega arith)
some_arg (x ∷ xs) five = x

module _ (c : Command) (is : app_of c ≡ simple_command) (m : ArgMatches) (p : IsParsedFrom c m) where
  abbrev d : Arg
  d = some_arg (args_of c) (count c is)

  number_at : (k : ℕ) (name : Text) (least most : ℕ) → IsNumberOption c k d least most → (slice_index_or (args_of c) k d).id.now ≡ name → HasNumber (found_of m) name least most
  number_at k name least most option id =
      let read = option_read c m p k d least most option (names_no_group c is) (no_groups c is) (no_globals c is) in
      record {
        text = read.0;
        is = subst (λ (w : Text). one_text (found_of m) w ≡ Some (without_minus read.0)) id read.1;
        in_range = read.2;
      }

  -- a parse gives each option a number in its range
  pub has_numbers : HasNumbers (found_of m)
  has_numbers = record {
    limit = number_at 1 (codes "limit") 1 1000000
        (number_option_at c is 1 d (codes "limit") (codes "10000") 1 1000000 (omega arith) refl only_limit (λ e. cc e) (own_name (codes "limit") 108 refl (λ e. omega arith) (λ e. omega arith)))
        (ap (λ (r : Rule). r.id) (rule_at c is 1 d));
    workers = number_at 2 (codes "workers") 1 32
        (number_option_at c is 2 d (codes "workers") (codes "4") 1 32 (omega arith) refl only_workers (λ e. cc e) (own_name (codes "workers") 119 refl (λ e. omega arith) (λ e. omega arith)))
        (ap (λ (r : Rule). r.id) (rule_at c is 2 d));
    size = number_at 3 (codes "size") 0 13
        (number_option_at c is 3 d (codes "size") (codes "8") 0 13 (omega arith) refl only_size (λ e. cc e) (own_name (codes "size") 115 refl (λ e. omega arith) (λ e. omega arith)))
        (ap (λ (r : Rule). r.id) (rule_at c is 3 d));
    readings = number_at 4 (codes "readings") 1 1000
        (number_option_at c is 4 d (codes "readings") (codes "10") 1 1000 (omega arith) refl only_readings (λ e. cc e) (own_name (codes "readings") 114 refl (λ e. omega arith) (λ e. omega arith)))
        (ap (λ (r : Rule). r.id) (rule_at c is 4 d));
  }
