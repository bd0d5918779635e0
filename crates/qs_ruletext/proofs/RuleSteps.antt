-- The steps of the reader of a rule, and what holds between two rules that are read.
use Rattle.std.proofs.Common.{◌≡◌, ℕ, zero, suc, ◌-◌, ◌<◌, ◌≤◌, refl, sym, ◌∙◌, ap, subst, ⊎_elim, List, [], ◌∷◌, ◌++◌, length, take, drop, arith, Option, Some, None, append_assoc, append-nil}
use Rattle.std.specs.Prelude.{slice_get}
use Rattle.std.proofs.lemmas.Bool.{false≢true}
use Rattle.qs_lex.specs.declared.token.Token.{Token}
use Rattle.qs_lex.specs.Grammar.{equals, slash, stop, part, repeated, sort_of, IsWhole, Begins, begins_token, begins_part, begins_first, begins_this, begins_other}
use Rattle.qs_lex.specs.Expecting.{NextIsNo}
use Rattle.qs_lex.proofs.Expected.{begin_front}
use Rattle.qs_pattern.specs.Patterns.{Patterns}
use Rattle.qs_pattern.specs.Conditions.{Condition}
use Rattle.qs_reader.specs.declared.text_end.TextEnd.{TextEnd}
use Rattle.qs_reader.specs.declared.text_end.TextEnd.TheVariants.{Syntax, Memory}
use Rattle.qs_reader.specs.Names.{KeepsNames, NamesGrow}
use Rattle.qs_reader.specs.working.Names.{NamesGrowUpTo}
use Rattle.qs_reader.specs.Readers.{Reading, rest_of, Passes, Stays, EndsHere, between}
use Rattle.qs_reader.specs.working.Readers.{Reads, AToken, a_token, Nothing, nothing, Then, then, StopsOr}
use Rattle.qs_reader.specs.Readers as begun
use Rattle.qs_reader.proofs.Steps.{token_read, left_out_read, then_read, read_so, read_at, member_read, part_read, token_ends, part_ends, first_ends, then_ends, member_ends}
use Rattle.qs_reader.proofs.Lists.{none_read}
use Rattle.qs_reader.proofs.Between.{between_drop, next_at, at_next, names_up_to, cannot_go_on}
use Rattle.qs_ruletext.specs.WrittenRules.{WrittenRule}
use Rattle.qs_ruletext.specs.Grammar.{rule, side, cond, line}
use Rattle.qs_ruletext.specs.Rules.{cell_bytes, ReadsCondIfGiven, no_cond, some_cond, ReadsRule, reads_rule, ReadsWrittenRule, ReadsRules, NoRuleAt, EndsFrom}
use Rattle.qs_ruletext.specs.working.Readers.{table, IsTreeSort, BeginsTree, IsRead, IsReadSoFar, Ends, condition_if_any, ACond, ACondIfGiven, ASide, AWrittenRule, begins_tree}
use Rattle.qs_ruletext.proofs.Tables.{more, all_ok}
use Rattle.qs_ruletext.proofs.Whole.{rules_whole}

-- the condition, if one stands here
none_given : (names : List (List ℕ)) (text : List ℕ) (ts rest : List Token) → Nothing names text ts rest → ReadsCondIfGiven names text ts None rest
none_given names text ts rest nothing = no_cond

pub read_no_cond : {r s : Reading} (names : List (List ℕ)) → Stays slash r s → IsRead condition_if_any (ACondIfGiven None) r s names names
read_no_cond names st = read_so none_given (left_out_read names st.none st)

some_given : {c : Condition} (names : List (List ℕ)) (text : List ℕ) (ts rest : List Token) → Then (AToken slash) (ACond c) names text ts rest → ReadsCondIfGiven names text ts (Some c) rest
some_given names text ts rest (then (a_token s) c) = some_cond s c

pub read_some_cond : {c : Condition} {r s u : Reading} {old new : List (List ℕ)} → Passes slash r s → IsRead (part cond) (ACond c) s u old new
    → IsRead condition_if_any (ACondIfGiven (Some c)) r u old new
read_some_cond {old} p a = read_so some_given (member_read (then_read (token_read old refl p) a))

pub ends_in_cond : {r s : Reading} {end : TextEnd} → Passes slash r s → Ends (part cond) s end → Ends condition_if_any r end
ends_in_cond p e = member_ends p e

-- a rule
a_rule : {left right : Patterns} {c : Option Condition} (names : List (List ℕ)) (text : List ℕ) (ts rest : List Token)
    → Then (ASide left) (Then (AToken equals) (Then (ASide right) (Then (ACondIfGiven c) (AToken stop)))) names text ts rest → ReadsRule names text ts (record { left = left; right = right; condition = c }) rest
a_rule names text ts rest (then l (then (a_token e) (then r (then g (a_token s))))) = reads_rule l e r g s

module _ {L : Reads} {r s : Reading} {old first : List (List ℕ)} (left : IsRead (part side) L r s old first) where
  pub ends_at_equals : {end : TextEnd} → EndsHere equals s end → Ends (part rule) r end
  ends_at_equals e = part_ends (then_ends left (first_ends (token_ends e)))

  module _ {u : Reading} (p : Passes equals s u) where
    pub ends_in_right : {end : TextEnd} → Ends (part side) u end → Ends (part rule) r end
    ends_in_right e = part_ends (then_ends left (then_ends (token_read first refl p) (first_ends e)))

    module _ {R : Reads} {v : Reading} {second : List (List ℕ)} (right : IsRead (part side) R u v first second) where
      pub ends_in_given : {end : TextEnd} → Ends condition_if_any v end → Ends (part rule) r end
      ends_in_given e = part_ends (then_ends left (then_ends (token_read first refl p) (then_ends right (first_ends e))))

      pub ends_at_stop : {G : Reads} {w : Reading} {new : List (List ℕ)} {end : TextEnd} → IsRead condition_if_any G v w second new → EndsHere stop w end → Ends (part rule) r end
      ends_at_stop given e = part_ends (then_ends left (then_ends (token_read first refl p) (then_ends right (then_ends given (token_ends e)))))

pub ends_in_left : {r : Reading} {end : TextEnd} → Ends (part side) r end → Ends (part rule) r end
ends_in_left e = part_ends (first_ends e)

pub read_rule : {left right : Patterns} {c : Option Condition} {r s u v w x : Reading} {old first second new : List (List ℕ)} (raw : WrittenRule)
    → raw.rule ≡ record { left = left; right = right; condition = c } → raw.at ≡ cell_bytes (between x.tokens r.place x.place)
    → IsRead (part side) (ASide left) r s old first → Passes equals s u
    → IsRead (part side) (ASide right) u v first second
    → IsRead condition_if_any (ACondIfGiven c) v w second new → Passes stop w x
    → IsRead (part rule) (AWrittenRule raw) r x old new
read_rule {r} {x} {first} {new} raw e at l p m g q =
    let whole = read_so a_rule (then_read l (then_read (token_read first refl p) (then_read m (then_read g (token_read new refl q))))) in
    let on = whole.goes_on in
    part_read
    (read_at (λ w. w)
    (λ later rule. record {
      rule = subst (λ q. ReadsRule later r.text (rest_of r) q (rest_of x)) (sym e) rule;
      tokens = between x.tokens r.place x.place;
      are = sym (between_drop x.tokens r.place x.place on.forward ∙ ap (drop r.place) on.tokens);
      at = at;
    })
    whole)

-- these rules are read, and whatever is read behind them is read with them
abbrev pub CompletesRules : List WrittenRule → Reads
CompletesRules rules names text ts rest = (raws : List WrittenRule) (end : List Token) → ReadsRules names text rest raws end → ReadsRules names text ts (rules ++ raws) end

rules_none : (rules : List WrittenRule) (names : List (List ℕ)) (text : List ℕ) (ts : List Token) → rules ≡ [] → CompletesRules rules names text ts ts
rules_none rules names text ts e raws end r = subst (λ x. ReadsRules names text ts (x ++ raws) end) (sym e) r

pub rules_start : {rules : List WrittenRule} {r s : Reading} (names : List (List ℕ)) → s ≡ r → r.place ≤ length r.tokens → rules ≡ [] → IsReadSoFar (repeated (part rule)) (part rule) (CompletesRules rules) r s names names
rules_start {rules} {r} names same within e =
    subst (λ s. IsReadSoFar (repeated (part rule)) (part rule) (CompletesRules rules) r s names names) (sym same)
    (none_read names within (λ later. rules_none rules later r.text (rest_of r) e))

pub rules_next : {raw : WrittenRule} (rules longer : List WrittenRule) → longer ≡ rules ++ raw ∷ [] → (names : List (List ℕ)) (text : List ℕ) (ts us rest : List Token)
    → CompletesRules rules names text ts us → ReadsWrittenRule names text us raw rest → CompletesRules longer names text ts rest
rules_next {raw} rules longer e names text ts us rest before r raws end m =
    subst (λ x. ReadsRules names text ts x end) (sym (ap (λ x. x ++ raws) e ∙ append_assoc rules (raw ∷ []) raws)) (before (raw ∷ raws) end (rest, r, m))

pub tree_begins_rule : (t : Token) → IsTreeSort (sort_of t.kind) → Begins line (part rule) (t ∷ [])
tree_begins_rule t of_sort =
    begins_part (begins_first (begins_part (begins_first (begins_part
    (⊎_elim (λ a. begins_this (begins_first (begins_this (begins_token a))))
    (λ others. ⊎_elim (λ b. begins_this (begins_first (begins_other (begins_token b)))) (λ c. begins_other (begins_token c)) others) of_sort)))))

less_unless : (m n : ℕ) → m ≤ n → (m ≡ n → ⊥) → m < n
less_unless zero zero le differs = absurd (differs refl)
less_unless zero (suc n) le differs = omega arith
less_unless (suc m) zero le differs = absurd (omega (arith, le))
less_unless (suc m) (suc n) le differs = let less = less_unless m n (omega (arith, le)) (λ e. differs (ap suc e)) in omega (arith, less)

module _ {text : List ℕ} {tokens : List Token} {from : ℕ} (rules : List WrittenRule) {s : Reading} {old new : List (List ℕ)}
    (so_far : IsReadSoFar (repeated (part rule)) (part rule) (CompletesRules rules) (record { text = text; tokens = tokens; place = from }) s old new) where
  -- what stands behind them, by the place
  behind : rest_of s ≡ drop s.place tokens
  behind = ap (drop s.place) so_far.goes_on.tokens

  pub all_read : (later : List (List ℕ)) → KeepsNames new later → ReadsRules later text (drop from tokens) rules (drop s.place tokens)
  all_read later keeps =
      subst (λ us. ReadsRules later text (drop from tokens) rules us) behind
      (subst (λ x. ReadsRules later text (drop from tokens) x (rest_of s)) (append-nil rules) (so_far.reads later keeps [] (rest_of s) refl))

  pub all_whole : IsWhole line (repeated (part rule)) (drop from tokens) (drop s.place tokens)
  all_whole = rules_whole new text (drop from tokens) (drop s.place tokens) rules (all_read new (λ k t i. i))

  pub all_names : NamesGrow text (between tokens from s.place) old new
  all_names =
      names_up_to text tokens from s.place old new so_far.goes_on.forward (subst (λ us. s.place ≤ length us) so_far.goes_on.tokens so_far.goes_on.within)
      (subst (λ us. NamesGrowUpTo text (drop from tokens) us old new) behind so_far.names)

  pub no_rule_behind : NextIsNo begins_tree (rest_of s) → NoRuleAt tokens s.place
  no_rule_behind n t here b =
      let next = at_next tokens s.place t here in
      false≢true (sym (subst (λ us. NextIsNo begins_tree us) (behind ∙ next.1) n) ∙ begin_front table all_ok.table_is b)

  -- a rule that begins here and stops
  stops_behind : BeginsTree s → (end : TextEnd) → StopsOr line table (part rule) s end → EndsFrom tokens from end
  stops_behind begins Memory e = tt
  stops_behind begins (Syntax at) e =
      let c = subst (λ us. begun.CannotGoOn line (part rule) us s.place at) so_far.goes_on.tokens (cannot_go_on table more all_ok (part rule) tt (λ k. refl) e) in
      let past : s.place ≡ at → ⊥ =
      λ same.
      let there : slice_get tokens at ≡ Some begins.token = next_at tokens begins.next.behind at begins.token (ap (λ k. drop k tokens) (sym same) ∙ sym behind ∙ begins.next.are) in
      let none : between tokens s.place at ≡ [] = ap (λ k. take k (drop s.place tokens)) (let gone : at - s.place ≡ 0 = omega (arith, same) in gone) in
      c.no_further begins.token there (subst (λ us. Begins line (part rule) (us ++ begins.token ∷ [])) (sym none) (tree_begins_rule begins.token begins.of_sort))
      in
      record {
        begun = s.place;
        whole = all_whole;
        some = less_unless s.place at c.forward past;
        within = c.within;
        begins = c.begins;
        not_whole = c.not_whole;
        no_further = c.no_further;
      }

  pub ends_behind : {end : TextEnd} → BeginsTree s → Ends (part rule) s end → EndsFrom tokens from end
  ends_behind {end} begins e = stops_behind begins end e.stops
