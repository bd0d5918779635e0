-- What is known of a deck that was read.
use Rattle.std.proofs.Common.{◌≡◌, ℕ, ◌+◌, ◌≤◌, ◌<◌, Bool, List, [], ◌∷◌, length, filter, refl, sym, ◌∙◌, ap, subst, inl, inr, ◌⊎◌, arith, length-append}
use Rattle.std.specs.List.{All}
use Rattle.std.proofs.lemmas.List.Elements.{All-nil, All-cons, All-append}
use Rattle.qs_tree.specs.Lists.{◌∈◌}
use Rattle.qs_tree.proofs.Members.{in_append_left, in_append_right, from_append, from_map, from_filter}
use Rattle.qs_lex.specs.declared.token.Token.{Token}
use Rattle.qs_pattern.specs.Patterns.{Patterns, no_pattern, node_first, tree_var_first, forest_var_first, count, cells}
use Rattle.qs_ruletext.specs.WrittenRules.{WrittenRule}
use Rattle.qs_ruletext.specs.Rules.{ReadsWrittenRule, ReadsRules, IsWellRead, is_cell, cell_bytes}
use Rattle.qs_ruletext.proofs.Told.{told_rules}
use Rattle.qs_check.specs.Checking.{CanBeChecked}
use Rattle.qs_check.proofs.WhatIsRead.{can_be_checked}
use Rattle.qs_graphtext.specs.Reading.{IsByteOf}
use Rattle.qs_deck.specs.WrittenDecks.{WrittenSystem, rules_of}
use Rattle.qs_deck.specs.Reading.{ReadsMark, no_mark, a_mark, ReadsSystem, reads_system, ReadsSystems}
use Rattle.qs_deck.proofs.CheckSteps.{HasFewRules}
use Rattle.std.specs.Prelude.{not}
use Rattle.std.proofs.lemmas.List.{length-map}
use Rattle.std.proofs.lemmas.List.Filters.{length-filter_both}
use Rattle.std.proofs.lemmas.Option.{slice_get_within}

-- a side that isn't empty has a cell
some_cells : (p : Patterns) → 1 ≤ count p → 1 ≤ cells p
some_cells no_pattern h = h
some_cells (node_first l k b) h = omega (arith)
some_cells (tree_var_first v b) h = omega (arith)
some_cells (forest_var_first v b) h = omega (arith)

-- there are no more cells than tokens
few_cells : (ts : List Token) → length (cell_bytes ts) ≤ length ts
few_cells ts =
    omega (arith, length-map (filter (λ (t : Token). is_cell t.kind) ts) (λ (t : Token). t.from), length-filter_both (λ (t : Token). is_cell t.kind) (λ (t : Token). not (is_cell t.kind)) (λ t. refl) ts)

module _ (names : List (List ℕ)) (text : List ℕ) where
  -- a rule is read from a token at least
  shorter : (ts rest : List Token) (raw : WrittenRule) → ReadsWrittenRule names text ts raw rest → length rest < length ts
  shorter ts rest raw r =
      let can = can_be_checked names text ts raw rest r in
      let some = some_cells raw.rule.left can.left_some in
      let few : length (cell_bytes r.tokens) ≤ length r.tokens = few_cells r.tokens in
      omega (arith, ap (λ (xs : List Token). length xs) r.are, length-append r.tokens rest, ap (λ (xs : List ℕ). length xs) r.at, can.bytes, few, some)

  later_rule : (ts rest : List Token) (raw : WrittenRule) → ReadsWrittenRule names text ts raw rest → (t : Token) → t ∈ rest → t ∈ ts
  later_rule ts rest raw r t i = subst (λ us. t ∈ us) (sym r.are) (in_append_right r.tokens rest t i)

  byte_of_rule : (ts rest : List Token) (raw : WrittenRule) → ReadsWrittenRule names text ts raw rest → (byte : ℕ) → byte ∈ raw.at → IsByteOf ts byte
  byte_of_rule ts rest raw r byte i =
      from_map (λ (t : Token). t.from) (filter (λ (t : Token). is_cell t.kind) r.tokens) (IsByteOf ts)
      (λ t j. (t, subst (λ us. t ∈ us) (sym r.are) (in_append_left r.tokens rest t (from_filter (λ (u : Token). is_cell u.kind) r.tokens t j).1), refl))
      byte (subst (λ bs. byte ∈ bs) r.at i)

  -- rules
  rules_can : (ts rest : List Token) (raws : List WrittenRule) → ReadsRules names text ts raws rest → All CanBeChecked raws
  rules_can ts rest [] h = All-nil CanBeChecked
  rules_can ts rest (raw ∷ raws) h = All-cons CanBeChecked raw raws (can_be_checked names text ts raw h.0 h.1) (rules_can h.0 rest raws h.2)

  rules_few : (ts rest : List Token) (raws : List WrittenRule) → ReadsRules names text ts raws rest → length raws + length rest ≤ length ts
  rules_few ts rest [] h = omega (arith, ap (λ (xs : List Token). length xs) h)
  rules_few ts rest (raw ∷ raws) h = omega (arith, shorter ts h.0 raw h.1, rules_few h.0 rest raws h.2)

  rules_later : (ts rest : List Token) (raws : List WrittenRule) → ReadsRules names text ts raws rest → (t : Token) → t ∈ rest → t ∈ ts
  rules_later ts rest [] h t i = subst (λ us. t ∈ us) (sym h) i
  rules_later ts rest (raw ∷ raws) h t i = later_rule ts h.0 raw h.1 t (rules_later h.0 rest raws h.2 t i)

  rules_byte : (ts rest : List Token) (raws : List WrittenRule) → ReadsRules names text ts raws rest → (raw : WrittenRule) → raw ∈ raws → (byte : ℕ) → byte ∈ raw.at → IsByteOf ts byte
  rules_byte ts rest [] h raw i byte j = elim i [ ]
  rules_byte ts rest (first ∷ raws) h raw (inl e) byte j = byte_of_rule ts h.0 first h.1 byte (subst (λ (r : WrittenRule). byte ∈ r.at) e j)
  rules_byte ts rest (first ∷ raws) h raw (inr i) byte j = let b = rules_byte h.0 rest raws h.2 raw i byte j in (b.0, later_rule ts h.0 first h.1 b.0 b.1, b.2)

  -- a mark
  mark_few : {ts rest : List Token} {unique : Bool} → ReadsMark ts unique rest → length rest ≤ length ts
  mark_few no_mark = omega arith
  mark_few (a_mark is) = omega arith

  mark_later : {ts rest : List Token} {unique : Bool} → ReadsMark ts unique rest → (t : Token) → t ∈ rest → t ∈ ts
  mark_later no_mark t i = i
  mark_later (a_mark is) t i = inr i

  -- a system
  system_can : (ts rest : List Token) (system : WrittenSystem) → ReadsSystem names text ts system rest → All CanBeChecked system.rules
  system_can _ rest system (reads_system {ts} w a l m s rules) = rules_can ts rest system.rules rules

  system_few : (ts rest : List Token) (system : WrittenSystem) → ReadsSystem names text ts system rest → length system.rules + length rest ≤ length ts
  system_few _ rest system (reads_system {ts} w a l m s rules) = omega (arith, mark_few m, rules_few ts rest system.rules rules)

  system_later : (ts rest : List Token) (system : WrittenSystem) → ReadsSystem names text ts system rest → (t : Token) → t ∈ rest → t ∈ ts
  system_later _ rest system (reads_system {ts} w a l m s rules) t i =
      inr (inr (mark_later m t (inr (rules_later ts rest system.rules rules t i))))

  system_rule_byte : (ts rest : List Token) (system : WrittenSystem) → ReadsSystem names text ts system rest → (raw : WrittenRule) → raw ∈ system.rules → (byte : ℕ) → byte ∈ raw.at → IsByteOf ts byte
  system_rule_byte _ rest system (reads_system {ts} w a l m s rules) raw i byte j =
      let b = rules_byte ts rest system.rules rules raw i byte j in (b.0, inr (inr (mark_later m b.0 (inr b.1))), b.2)

  system_byte : (ts rest : List Token) (system : WrittenSystem) → ReadsSystem names text ts system rest → IsByteOf ts system.at
  system_byte _ rest system (reads_system {t} w a l m s rules) = (t, inl refl, sym a)

  system_named : (ts rest : List Token) (system : WrittenSystem) → ReadsSystem names text ts system rest → (system.name.0 < length names) × All (λ raw. IsWellRead (length names) raw.rule) system.rules
  system_named _ rest system (reads_system {ts} w a l m s rules) = (slice_get_within names system.name.0 l.spelling l.named, told_rules names text ts rest system.rules rules)

  -- systems
  pub systems_can : (ts rest : List Token) (systems : List WrittenSystem) → ReadsSystems names text ts systems rest → All CanBeChecked (rules_of systems)
  systems_can ts rest [] h = All-nil CanBeChecked
  systems_can ts rest (system ∷ systems) h = All-append CanBeChecked system.rules (rules_of systems) (system_can ts h.0 system h.1) (systems_can h.0 rest systems h.2)

  pub systems_few : (ts rest : List Token) (systems : List WrittenSystem) → ReadsSystems names text ts systems rest → length ts < 4294967295 → All HasFewRules systems
  systems_few ts rest [] h n = All-nil HasFewRules
  systems_few ts rest (system ∷ systems) h n =
      let f = system_few ts h.0 system h.1 in All-cons HasFewRules system systems (omega (arith, f, n)) (systems_few h.0 rest systems h.2 (omega (arith, f, n)))

  pub systems_later : (ts rest : List Token) (systems : List WrittenSystem) → ReadsSystems names text ts systems rest → (t : Token) → t ∈ rest → t ∈ ts
  systems_later ts rest [] h t i = subst (λ us. t ∈ us) (sym h) i
  systems_later ts rest (system ∷ systems) h t i = system_later ts h.0 system h.1 t (systems_later h.0 rest systems h.2 t i)

  either_byte : (ts middle : List Token) (system : WrittenSystem) → ReadsSystem names text ts system middle → (raw : WrittenRule) (behind : List WrittenRule) {byte : ℕ} → (raw ∈ behind → IsByteOf middle byte)
      → (b : ℕ) → b ∈ raw.at → (raw ∈ system.rules) ⊎ (raw ∈ behind) → b ≡ byte → IsByteOf ts b
  either_byte ts middle system h raw behind more b j (inl k) e = system_rule_byte ts middle system h raw k b j
  either_byte ts middle system h raw behind more b j (inr k) e = let x = more k in (x.0, system_later ts middle system h x.0 x.1, x.2 ∙ sym e)

  pub rule_byte : (ts rest : List Token) (systems : List WrittenSystem) → ReadsSystems names text ts systems rest → (raw : WrittenRule) → raw ∈ rules_of systems → (byte : ℕ) → byte ∈ raw.at → IsByteOf ts byte
  rule_byte ts rest [] h raw i byte j = elim i [ ]
  rule_byte ts rest (system ∷ systems) h raw i byte j =
      either_byte ts h.0 system h.1 raw (rules_of systems) (λ k. rule_byte h.0 rest systems h.2 raw k byte j) byte j (from_append system.rules (rules_of systems) raw i) refl

  pub word_byte : (ts rest : List Token) (systems : List WrittenSystem) → ReadsSystems names text ts systems rest → (system : WrittenSystem) → system ∈ systems → IsByteOf ts system.at
  word_byte ts rest [] h system i = elim i [ ]
  word_byte ts rest (first ∷ systems) h system (inl e) = let b = system_byte ts h.0 first h.1 in (b.0, b.1, b.2 ∙ ap (λ (s : WrittenSystem). s.at) (sym e))
  word_byte ts rest (first ∷ systems) h system (inr i) = let b = word_byte h.0 rest systems h.2 system i in (b.0, system_later ts h.0 first h.1 b.0 b.1, b.2)

  pub systems_named : (ts rest : List Token) (systems : List WrittenSystem) → ReadsSystems names text ts systems rest → (system : WrittenSystem) → system ∈ systems
      → (system.name.0 < length names) × All (λ raw. IsWellRead (length names) raw.rule) system.rules
  systems_named ts rest [] h system i = elim i [ ]
  systems_named ts rest (first ∷ systems) h system (inl e) =
      subst (λ (s : WrittenSystem). (s.name.0 < length names) × All (λ raw. IsWellRead (length names) raw.rule) s.rules) (sym e) (system_named ts h.0 first h.1)
  systems_named ts rest (first ∷ systems) h system (inr i) = systems_named h.0 rest systems h.2 system i
