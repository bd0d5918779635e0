-- How lists of patterns are written, from one place on.
use Rattle.std.proofs.Common.{◌≡◌, ℕ, ◌<◌, ◌≤◌, ◌+◌, length, List, [], ◌∷◌, ◌++◌, slice_get, unwrap_or, sym, refl, ap, ◌∙◌, subst, append_assoc, append-nil, take, drop, get_or, codes, arith, ◌-◌, Global}
use Rattle.std.proofs.lemmas.Grind.{common_steps}
use Rattle.std.proofs.lemmas.List.{drop_more, drop_all}
use Rattle.std.proofs.Math.Seq.{take-append_seam}
use Rattle.std.specs.List.{flat_map}
use Rattle.std.specs.declared.vec.Vec.{Vec}
use Rattle.qs_pattern.specs.declared.pattern.Head.{Head}
use Rattle.qs_pattern.specs.declared.pattern.Pattern.{Pattern, Node, Node', Tree, Forest}
use Rattle.qs_pattern.specs.Patterns.{Patterns, no_pattern, pattern_before, patterns}
use Rattle.qs_pattern.specs.working.Patterns.{one_pattern}
use Rattle.qs_pattern.proofs.PatternLemmas.{pattern-Node, rest_is}
use Rattle.qs_pattern.specs.Named.{IsHeadNamed, ArePatternsNamed}
use Rattle.qs_ruletext.specs.Texts.{joined, head_text, kids_text, pattern_texts}
use Rattle.qs_ruletext.specs.working.Texts.{pattern_text}

pub named_parts : (n : ℕ) (p : Pattern) (us : Patterns) → ArePatternsNamed n (pattern_before p us) → ArePatternsNamed n (one_pattern p) × ArePatternsNamed n us
named_parts n (Node' h shape kids) us c = ((c.0, c.1, tt), c.2)
named_parts n (Tree v) us c = (tt, c)
named_parts n (Forest v) us c = (tt, c)

module _ (names : List (List ℕ)) where
  pub texts-pattern_before : (p : Pattern) (us : Patterns) → pattern_texts names (pattern_before p us) ≡ pattern_text names p ∷ pattern_texts names us
  texts-pattern_before (Node' h shape kids) us = refl
  texts-pattern_before (Tree v) us = refl
  texts-pattern_before (Forest v) us = refl

module _ (names : List (List ℕ)) (n : ℕ) (ps : List Pattern) (i : ℕ) (x : Pattern) (l : i < length ps) (is : x ≡ get_or ps i x) where
  -- the loop over patterns goes one on
  pub named_here : ArePatternsNamed n (patterns (drop i ps)) → ArePatternsNamed n (one_pattern x) × ArePatternsNamed n (patterns (drop (i + 1) ps))
  named_here c =
      let p = named_parts n (get_or ps i x) (patterns (drop (i + 1) ps)) (subst (λ qs. ArePatternsNamed n (patterns qs)) (drop_more ps i x l) c) in
      (subst (λ y. ArePatternsNamed n (one_pattern y)) (sym is) p.0, p.1)

  pub texts_here : pattern_texts names (patterns (drop i ps)) ≡ pattern_text names x ∷ pattern_texts names (patterns (drop (i + 1) ps))
  texts_here =
      ap (λ qs. pattern_texts names (patterns qs)) (drop_more ps i x l)
      ∙ texts-pattern_before names (get_or ps i x) (patterns (drop (i + 1) ps))
      ∙ ap (λ y. pattern_text names y ∷ pattern_texts names (patterns (drop (i + 1) ps))) (sym is)

  pub behind_more : (between a b c all : List ℕ) → b ≡ a ++ between → c ≡ b ++ pattern_text names x
      → a ++ flat_map (λ t. between ++ t) (pattern_texts names (patterns (drop i ps))) ≡ all
      → c ++ flat_map (λ t. between ++ t) (pattern_texts names (patterns (drop (i + 1) ps))) ≡ all
  behind_more between a b c all e f h =
      let rest : List ℕ = flat_map (λ t. between ++ t) (pattern_texts names (patterns (drop (i + 1) ps))) in
      ap (λ xs. xs ++ rest) (f ∙ ap (λ xs. xs ++ pattern_text names x) e ∙ append_assoc a between (pattern_text names x))
      ∙ append_assoc a (between ++ pattern_text names x) rest
      ∙ sym (ap (λ ts. a ++ flat_map (λ t. between ++ t) ts) texts_here)
      ∙ h

pub behind_done : (names : List (List ℕ)) (ps : List Pattern) (i : ℕ) (between a all : List ℕ) → length ps ≤ i
    → a ++ flat_map (λ t. between ++ t) (pattern_texts names (patterns (drop i ps))) ≡ all → a ≡ all
behind_done names ps i between a all l h =
    sym (append-nil a) ∙ ap (λ qs. a ++ flat_map (λ t. between ++ t) (pattern_texts names (patterns qs))) (sym (drop_all i ps l)) ∙ h

pub named_kids : (n : ℕ) (h : Head) (ks : Vec Pattern Global) (p : Pattern) → p ≡ Node h ks → ArePatternsNamed n (one_pattern p)
    → IsHeadNamed n h × ArePatternsNamed n (patterns ks.items)
named_kids n h ks p e c = let q = subst (ArePatternsNamed n) (ap one_pattern e ∙ pattern-Node h ks no_pattern) c in (q.0, q.1)

pub text-Node : (names : List (List ℕ)) (h : Head) (ks : Vec Pattern Global) (p : Pattern) → p ≡ Node h ks
    → pattern_text names p ≡ head_text names h ++ kids_text (pattern_texts names (patterns ks.items))
text-Node names h ks p e =
    let whole : pattern_texts names (one_pattern p) ≡ (head_text names h ++ kids_text (pattern_texts names (patterns ks.items))) ∷ [] =
    ap (pattern_texts names) (ap one_pattern e ∙ pattern-Node h ks no_pattern)
    in
    ap (λ ts. unwrap_or (slice_get ts 0) []) whole

-- a list with a first pattern
pub split_first : (ps : List Pattern) (p : Pattern) → 1 ≤ length ps → p ≡ get_or ps 0 p → ps ≡ p ∷ take (length ps - 1) (drop 1 ps)
split_first [] p some is = absurd (omega arith)
split_first (q ∷ qs) p some is = ap (λ x. x ∷ qs) (sym is) ∙ ap (λ xs. p ∷ xs) (sym (rest_is q qs))

-- what stands behind the first pattern of a list
abbrev pub behind_first : List (List ℕ) → List ℕ → List Pattern → List ℕ
behind_first names between ps = flat_map (λ t. between ++ t) (pattern_texts names (patterns (take (length ps - 1) (drop 1 ps))))

module _ (names : List (List ℕ)) (ps : List Pattern) (p : Pattern) (some : 1 ≤ length ps) (is : p ≡ get_or ps 0 p) where
  pub named_first : (n : ℕ) → ArePatternsNamed n (patterns ps) → ArePatternsNamed n (one_pattern p) × ArePatternsNamed n (patterns (take (length ps - 1) (drop 1 ps)))
  named_first n c = named_parts n p _ (subst (λ qs. ArePatternsNamed n (patterns qs)) (split_first ps p some is) c)

  -- a list is its first pattern, and what stands behind it
  pub joined_first : (between : List ℕ) → joined between (pattern_texts names (patterns ps))
      ≡ pattern_text names p ++ behind_first names between ps
  joined_first between =
      ap (λ qs. joined between (pattern_texts names (patterns qs))) (split_first ps p some is)
      ∙ ap (joined between) (texts-pattern_before names p (patterns (take (length ps - 1) (drop 1 ps))))

-- these texts, each behind a comma, but the first behind this byte
abbrev pub opened : ℕ → List (List ℕ) → List ℕ
opened b [] = []
opened b (t ∷ ts) = b ∷ (t ++ flat_map (λ u. codes "," ++ u) ts)

opened_comma : (ts : List (List ℕ)) → opened 44 ts ≡ flat_map (λ u. codes "," ++ u) ts
opened_comma [] = refl
opened_comma (t ∷ ts) = refl

-- the patterns of a node, where there is one, and where there is none
pub kids_some : (names : List (List ℕ)) (ps : List Pattern) → 0 < length ps
    → kids_text (pattern_texts names (patterns ps)) ≡ opened 40 (pattern_texts names (patterns ps)) ++ codes ")"
kids_some names [] l = absurd (omega arith)
kids_some names (p ∷ ps) l =
    let ts : List (List ℕ) = pattern_texts names (patterns ps) in
    let e : pattern_texts names (patterns (p ∷ ps)) ≡ pattern_text names p ∷ ts = texts-pattern_before names p (patterns ps) in
    ap kids_text e
    ∙ sym (append_assoc (codes "(") (joined (codes ",") (pattern_text names p ∷ ts)) (codes ")"))
    ∙ sym (ap (λ us. opened 40 us ++ codes ")") e)

pub kids_none : (names : List (List ℕ)) (ps : List Pattern) → length ps ≤ 0
    → kids_text (pattern_texts names (patterns ps)) ≡ opened 40 (pattern_texts names (patterns ps))
kids_none names [] l = refl
kids_none names (p ∷ ps) l = absurd (omega arith)

module _ (names : List (List ℕ)) (ps : List Pattern) (i : ℕ) (x : Pattern) (l : i < length ps) (is : x ≡ get_or ps i x) where
  pub opened_more : (before : ℕ) (a b c all : List ℕ) → b ≡ a ++ before ∷ [] → c ≡ b ++ pattern_text names x
      → a ++ opened before (pattern_texts names (patterns (drop i ps))) ≡ all
      → c ++ opened 44 (pattern_texts names (patterns (drop (i + 1) ps))) ≡ all
  opened_more before a b c all e f h =
      let rest : List (List ℕ) = pattern_texts names (patterns (drop (i + 1) ps)) in
      ap (λ xs. c ++ xs) (opened_comma rest)
      ∙ ap (λ xs. xs ++ flat_map (λ u. codes "," ++ u) rest) (f ∙ ap (λ xs. xs ++ pattern_text names x) e ∙ append_assoc a (before ∷ []) (pattern_text names x))
      ∙ append_assoc a (before ∷ pattern_text names x) (flat_map (λ u. codes "," ++ u) rest)
      ∙ sym (ap (λ ts. a ++ opened before ts) (texts_here names 0 ps i x l is))
      ∙ h

pub opened_done : (names : List (List ℕ)) (ps : List Pattern) (i : ℕ) (before : ℕ) (a all : List ℕ) → length ps ≤ i
    → a ++ opened before (pattern_texts names (patterns (drop i ps))) ≡ all → a ≡ all
opened_done names ps i before a all l h =
    sym (append-nil a) ∙ ap (λ qs. a ++ opened before (pattern_texts names (patterns qs))) (sym (drop_all i ps l)) ∙ h

-- what stood at first still stands there behind the first append
pub kept_first : (start now more : List ℕ) → now ≡ start ++ more → take (length start) now ≡ start
kept_first start now more e = ap (λ xs. take (length start) xs) e ∙ take-append_seam start more
