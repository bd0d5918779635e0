-- Lines of words, read word by word and line by line.
use Rattle.std.proofs.Common.{◌≡◌, ℕ, zero, suc, ◌+◌, ◌-◌, ◌<◌, ◌≤◌, true, cond, not, refl, sym, ◌∙◌, ap, subst, ⊎_elim, List, [], ◌∷◌, ◌++◌, length, map, take, drop, get_or, Some, slice_get, arith, append_assoc, append-nil, length-append, length-drop, nat_lt}
use Rattle.std.specs.Prelude.{IsCharBoundary, ◌==◌}
use Rattle.std.specs.Str.{IsUtf8}
use Rattle.std.specs.List.{All, filter, flat_map, prefix_len}
use Rattle.std.proofs.lemmas.Bool.{cases_lt, lt-ltb, eqb-true}
use Rattle.std.proofs.lemmas.Bool.Decides.{nat_tests}
use Rattle.std.proofs.lemmas.List.{length-take-le, take_at, drop_at, take-map, map-append, get_or-take}
use Rattle.std.proofs.lemmas.List.Elements.{All-nil, All-cons, All-head, All-tail, filter-append}
use Rattle.std.proofs.lemmas.List.Concat.{flat_map-append}
use Rattle.qs_lex.specs.Characters.{line_feed}
use Rattle.qs_tree.specs.declared.cell.Label.{Label}
use Rattle.qs_deck.specs.Limits.{most_words}
use Rattle.qs_deck.specs.declared.fault.FaultEnd.{FaultEnd}
use Rattle.qs_deck.specs.declared.fault.FaultEnd.TheVariants.{Fault, Memory}
use Rattle.qs_deck.specs.Segments.{Segment, segments_from}
use Rattle.qs_deck.specs.PhraseTexts.{lines_from, is_blank, has_bytes, words_of, IsShort, has_words, lines_with_words, AddsWords, named_by, written_in}
use Rattle.qs_deck.specs.LinesOfWords.{parted, AreEnds}
use Rattle.qs_deck.specs.working.Phrases.{ends_of, flat, words_from, AddsWord, AddsLabels, ReadsWords, ReadsWordsTo, IsEndOfWords, ReadsLines, ReadsLinesTo, IsEndOfLines}
use Rattle.qs_deck.proofs.Cutting.{next_segment, nothing_behind, next_border, front_segments}
use Rattle.qs_deck.proofs.NamedWords.{adds_none, adds_one, few_after_one, words_on, words_keep, still_named, named_on, as_many}

pub blank_ascii : (b : ℕ) → is_blank b ≡ true → b < 128
blank_ascii b e = grind (arith, nat_tests)

pub feed_ascii : (b : ℕ) → (b == line_feed) ≡ true → b < 128
feed_ascii b e = omega (arith, eqb-true b 10 e)

-- ---- the words of a line

pub no_word_yet : (text : List ℕ) (from : ℕ) (names : List (List ℕ)) (labels : List Label) → IsCharBoundary text from → from ≤ length text → length names < from → length labels < from → ReadsWordsTo text from from 0 names names labels labels
no_word_yet text from names labels border within few more = record {
  words = [];
  all = refl;
  count_is = refl;
  adds = adds_none names labels;
  short = omega arith;
  few_names = few;
  few_words = more;
  within = omega (arith, within);
  border = λ _. border;
}

module _ (text : List ℕ) (from at n count : ℕ) (old middle : List (List ℕ)) (before between : List Label) (utf8 : IsUtf8 text) (so_far : ReadsWordsTo text from at count old middle before between)
    (within : at ≤ length text) (is : n ≡ prefix_len (λ b. not (is_blank b)) (drop at text)) (bound : n ≤ length (drop at text)) where
  word : Segment
  word = record { at = at; bytes = take n (drop at text) }

  here : words_from text at ≡ filter has_bytes (record { at = at; bytes = take n (drop at text) } ∷ segments_from is_blank text (at + n + 1))
  here = ap (filter has_bytes) (next_segment is_blank text at n within is bound)

  ends_within : at + n ≤ length text
  ends_within = omega (arith, bound, length-drop at text, within)

  -- two bytes between words side by side
  pub no_word_here : n ≡ 0 → ReadsWordsTo text from (at + n + 1) count old middle before between
  no_word_here none =
      let empty : length (take n (drop at text)) ≡ 0 = length-take-le n (drop at text) bound ∙ none in
      let same : words_from text at ≡ words_from text (at + n + 1) = here ∙ ap (λ k. cond (nat_lt 0 k) (record { at = at; bytes = take n (drop at text) } ∷ words_from text (at + n + 1)) (words_from text (at + n + 1))) empty in
      record {
        words = so_far.words;
        all = so_far.all ∙ ap (λ ws. so_far.words ++ ws) same;
        count_is = so_far.count_is;
        adds = so_far.adds;
        short = so_far.short;
        few_names = omega (arith, so_far.few_names);
        few_words = omega (arith, so_far.few_words);
        within = omega (arith, ends_within);
        border = next_border is_blank blank_ascii text at n utf8 is;
      }

  word_next : 0 < n → words_from text at ≡ record { at = at; bytes = take n (drop at text) } ∷ words_from text (at + n + 1)
  word_next some =
      let size : length (take n (drop at text)) ≡ n = length-take-le n (drop at text) bound in
      here ∙ ap (λ b. cond b (record { at = at; bytes = take n (drop at text) } ∷ words_from text (at + n + 1)) (words_from text (at + n + 1))) (lt-ltb 0 (length (take n (drop at text))) (omega (arith, size, some)))

  all_next : 0 < n → words_from text from ≡ so_far.words ++ (record { at = at; bytes = take n (drop at text) } ∷ words_from text (at + n + 1))
  all_next some = so_far.all ∙ ap (λ ws. so_far.words ++ ws) (word_next some)

  pub one_word_on : (new : List (List ℕ)) (behind : List Label) → 0 < n → count < most_words → AddsWord (take n (drop at text)) middle new between behind → ReadsWordsTo text from (at + n + 1) (count + 1) old new before behind
  one_word_on new behind some room adds =
      let few = few_after_one middle new (take n (drop at text)) between behind adds in
      record {
        words = so_far.words ++ (record { at = at; bytes = take n (drop at text) } ∷ []);
        all = all_next some ∙ sym (append_assoc so_far.words (record { at = at; bytes = take n (drop at text) } ∷ []) (words_from text (at + n + 1)));
        count_is = omega (arith, so_far.count_is, length-append so_far.words (record { at = at; bytes = take n (drop at text) } ∷ []));
        adds = adds_one so_far.words (record { at = at; bytes = take n (drop at text) }) old middle new before between behind so_far.adds adds;
        short = omega (arith, room);
        few_names = omega (arith, so_far.few_names, few.0, some);
        few_words = omega (arith, so_far.few_words, few.1, some);
        within = omega (arith, ends_within);
        border = next_border is_blank blank_ascii text at n utf8 is;
      }

  -- the 65,537th word
  pub one_too_many : 0 < n → count ≡ most_words → IsCharBoundary text at → (byte : ℕ) → byte ≡ at
      → (word : Segment) × (slice_get (words_from text from) most_words ≡ Some word) × (byte ≡ word.at) × (byte < length text) × IsCharBoundary text byte
  one_too_many some full border byte same =
      let place : most_words ≡ length so_far.words = sym full ∙ so_far.count_is in (
        record { at = at; bytes = take n (drop at text) },
        ap (λ ws. slice_get ws most_words) (all_next some) ∙ at_seam so_far.words (record { at = at; bytes = take n (drop at text) }) (words_from text (at + n + 1)) most_words place,
        same,
        omega (arith, same, ends_within, some),
        subst (IsCharBoundary text) (sym same) border,
      )
    where
      at_seam : (xs : List Segment) (y : Segment) (ys : List Segment) (k : ℕ) → k ≡ length xs → slice_get (xs ++ y ∷ ys) k ≡ Some y
      at_seam xs y ys k e = subst (λ i. slice_get (xs ++ y ∷ ys) i ≡ Some y) (sym e) (seam xs)
        where
          seam : (zs : List Segment) → slice_get (zs ++ y ∷ ys) (length zs) ≡ Some y
          seam [] = refl
          seam (z ∷ zs) = seam zs

pub all_words : (text : List ℕ) (from at count : ℕ) (old new : List (List ℕ)) (before behind : List Label) → length text < at → ReadsWordsTo text from at count old new before behind → ReadsWords text from old new before behind
all_words text from at count old new before behind past so_far =
    let all : words_from text from ≡ so_far.words = so_far.all ∙ ap (λ ss. so_far.words ++ filter has_bytes ss) (nothing_behind is_blank text at past) ∙ append-nil so_far.words in
    record {
      adds = subst (λ ws. AddsLabels ws old new before behind) (sym all) so_far.adds;
      short = omega (arith, ap length all, so_far.short, so_far.count_is);
      few_names = omega (arith, so_far.few_names, so_far.within);
      few_words = omega (arith, so_far.few_words, so_far.within);
    }

-- ---- lines

pub no_line_yet : (text : List ℕ) (from : ℕ) (names : List (List ℕ)) (words : List Label) (ends : List ℕ) → words ≡ [] → ends ≡ [] → length names < from → from ≤ length text + 1 → (from ≤ length text → IsCharBoundary text from)
    → ReadsLinesTo text from from names names words ends
no_line_yet text from names words ends none no_end few within border = record {
  lines = [];
  all = refl;
  short = All-nil IsShort;
  adds = refl;
  named = ap (named_by names) none;
  ends_are = no_end;
  few_names = few;
  few_words = omega (arith, ap length none, few);
  within = within;
  border = border;
}

flat_append : {X : Type 0} (xs : List (List X)) (x : List X) → flat (xs ++ x ∷ []) ≡ flat xs ++ x
flat_append xs x = flat_map-append (λ y. y) xs (x ∷ []) ∙ ap (λ ys. flat xs ++ ys) (append-nil x)

ends_append : {X : Type 0} (from : ℕ) (xs : List (List X)) (x : List X) → ends_of from (xs ++ x ∷ []) ≡ ends_of from xs ++ (from + length (flat xs) + length x) ∷ []
ends_append from [] x = ap (λ k. k ∷ []) (omega arith)
ends_append from (y ∷ xs) x =
    ap (λ es. (from + length y) ∷ es) (ends_append (from + length y) xs x ∙ ap (λ k. ends_of (from + length y) xs ++ k ∷ []) (omega (arith, length-append y (flat xs))))

short_on : (lines : List Segment) (line : Segment) → All IsShort lines → IsShort line → All IsShort (lines ++ line ∷ [])
short_on [] line all short = All-cons IsShort line [] short (All-nil IsShort)
short_on (l ∷ lines) line all short = All-cons IsShort l (lines ++ line ∷ []) (All-head IsShort l lines all) (short_on lines line (All-tail IsShort l lines all) short)

module _ (text : List ℕ) (from at n : ℕ) (old middle : List (List ℕ)) (words : List Label) (ends : List ℕ) (utf8 : IsUtf8 text) (so_far : ReadsLinesTo text from at old middle words ends)
    (within : at ≤ length text) (is : n ≡ prefix_len (λ b. not (b == line_feed)) (drop at text)) (bound : n ≤ length (drop at text)) where
  abbrev line_here : Segment
  line_here = record { at = at; bytes = take n (drop at text) }

  line_within : at + n ≤ length text
  line_within = omega (arith, bound, length-drop at text, within)

  all_lines_next : lines_from text from ≡ so_far.lines ++ (line_here ∷ lines_from text (at + n + 1))
  all_lines_next = so_far.all ∙ ap (λ ls. so_far.lines ++ ls) (next_segment (λ b. b == line_feed) text at n within is bound)

  words_here : words_from (take (at + n) text) at ≡ words_of line_here
  words_here = ap (filter has_bytes) (front_segments is_blank text at n line_within)

  module _ (new : List (List ℕ)) (behind : List Label) (reads : ReadsWords (take (at + n) text) at middle new words behind) where
    adds_here : AddsLabels (words_of line_here) middle new words behind
    adds_here = subst (λ ws. AddsLabels ws middle new words behind) words_here reads.adds

    many_here : length adds_here.labels ≡ length (words_of line_here)
    many_here = as_many new adds_here.labels (words_of line_here) adds_here.named

    long : length behind ≡ length words + length (words_of line_here)
    long = ap length adds_here.behind_is ∙ length-append words adds_here.labels ∙ ap (λ k. length words + k) many_here

    old_words : named_by new words ≡ written_in (flat (lines_with_words so_far.lines))
    old_words = still_named words (flat (lines_with_words so_far.lines)) middle new (words_keep (words_of line_here) middle new adds_here.adds) so_far.named

    split : lines_with_words (so_far.lines ++ line_here ∷ []) ≡ lines_with_words so_far.lines ++ lines_with_words (line_here ∷ [])
    split = ap (filter has_words) (map-append words_of so_far.lines (line_here ∷ [])) ∙ filter-append has_words (map words_of so_far.lines) (words_of line_here ∷ [])

    line_on : (more : List ℕ) → named_by new behind ≡ written_in (flat (lines_with_words (so_far.lines ++ line_here ∷ []))) → more ≡ ends_of 0 (lines_with_words (so_far.lines ++ line_here ∷ []))
        → ReadsLinesTo text from (at + n + 1) old new behind more
    line_on more named ends_are =
        let size : length (take (at + n) text) ≡ at + n = length-take-le (at + n) text line_within in
        record {
          lines = so_far.lines ++ line_here ∷ [];
          all = all_lines_next ∙ sym (append_assoc so_far.lines (line_here ∷ []) (lines_from text (at + n + 1)));
          short = short_on so_far.lines line_here so_far.short (omega (arith, reads.short, ap length words_here));
          adds = subst (λ ws. AddsWords ws old new) (sym (flat_map-append words_of so_far.lines (line_here ∷ []) ∙ ap (λ ws. flat_map words_of so_far.lines ++ ws) (append-nil (words_of line_here))))
              (words_on (flat_map words_of so_far.lines) (words_of line_here) old middle new so_far.adds adds_here.adds);
          named = named;
          ends_are = ends_are;
          few_names = omega (arith, reads.few_names, size);
          few_words = omega (arith, reads.few_words, size);
          within = omega (arith, line_within);
          border = next_border (λ b. b == line_feed) feed_ascii text at n utf8 is;
        }

    -- a line without words
    pub no_words_on : length behind ≤ length words → ReadsLinesTo text from (at + n + 1) old new behind ends
    no_words_on none =
        let empty : length (words_of line_here) ≡ 0 = omega (arith, none, long) in
        let passed : lines_with_words (line_here ∷ []) ≡ [] = ap (λ k. cond (nat_lt 0 k) (words_of line_here ∷ []) []) empty in
        let same : lines_with_words (so_far.lines ++ line_here ∷ []) ≡ lines_with_words so_far.lines = split ∙ ap (λ ls. lines_with_words so_far.lines ++ ls) passed ∙ append-nil (lines_with_words so_far.lines) in
        let no_label : adds_here.labels ≡ [] = nothing adds_here.labels (many_here ∙ empty) in
        let labels : behind ≡ words = adds_here.behind_is ∙ ap (λ ls. words ++ ls) no_label ∙ append-nil words in
        line_on ends (ap (named_by new) labels ∙ old_words ∙ ap (λ ls. written_in (flat ls)) (sym same)) (so_far.ends_are ∙ ap (ends_of 0) (sym same))
      where
        nothing : {X : Type 0} (xs : List X) → length xs ≡ 0 → xs ≡ []
        nothing [] e = refl
        nothing (x ∷ xs) e = absurd (omega (arith, e))

    -- a line with words
    pub words_on_line : (more : List ℕ) → length words < length behind → more ≡ ends ++ length behind ∷ [] → ReadsLinesTo text from (at + n + 1) old new behind more
    words_on_line more some are =
        let here_some : 0 < length (words_of line_here) = omega (arith, some, long) in
        let kept : lines_with_words (line_here ∷ []) ≡ words_of line_here ∷ [] = ap (λ b. cond b (words_of line_here ∷ []) []) (lt-ltb 0 (length (words_of line_here)) here_some) in
        let same : lines_with_words (so_far.lines ++ line_here ∷ []) ≡ lines_with_words so_far.lines ++ words_of line_here ∷ [] = split ∙ ap (λ ls. lines_with_words so_far.lines ++ ls) kept in
        let flat_same : flat (lines_with_words (so_far.lines ++ line_here ∷ [])) ≡ flat (lines_with_words so_far.lines) ++ words_of line_here = ap flat same ∙ flat_append (lines_with_words so_far.lines) (words_of line_here) in
        let named : named_by new behind ≡ written_in (flat (lines_with_words so_far.lines) ++ words_of line_here) =
        ap (named_by new) adds_here.behind_is ∙ named_on new words adds_here.labels (flat (lines_with_words so_far.lines)) (words_of line_here) old_words adds_here.named
        in
        let size : length behind ≡ 0 + length (flat (lines_with_words so_far.lines)) + length (words_of line_here) =
        omega (arith, long, as_many new words (flat (lines_with_words so_far.lines)) old_words)
        in
        line_on more (named ∙ ap written_in (sym flat_same))
        (are ∙ ap (λ es. es ++ length behind ∷ []) so_far.ends_are ∙ ap (λ k. ends_of 0 (lines_with_words so_far.lines) ++ k ∷ []) size
        ∙ sym (ap (ends_of 0) same ∙ ends_append 0 (lines_with_words so_far.lines) (words_of line_here)))

  -- a line with too many words
  pub too_many_on : (end : FaultEnd) → IsEndOfWords (take (at + n) text) at end → IsEndOfLines text (lines_from text from) end
  too_many_on (Fault byte cause) e = (
    record {
      front = so_far.lines;
      line = line_here;
      more = lines_from text (at + n + 1);
      word = e.0;
      are = all_lines_next;
      short = so_far.short;
      word_is = subst (λ ws. slice_get ws most_words ≡ Some e.0) words_here e.1;
      byte_is = e.2;
      border = in_front text (at + n) byte line_within e.4 e.5;
    },
    e.3,
  )
    where
      in_front : (bs : List ℕ) (k byte : ℕ) → k ≤ length bs → byte < length (take k bs) → IsCharBoundary (take k bs) byte → IsCharBoundary bs byte
      in_front bs k byte l inside b =
          let size = length-take-le k bs l in
          let same : get_or (take k bs) byte 0 ≡ get_or bs byte 0 = get_or-take k bs byte 0 (omega (arith, inside, size)) in
          (omega (arith, inside, size, l), λ m high. subst (λ c. 192 ≤ c) same (b.1 inside (subst (λ c. 128 ≤ c) (sym same) high)))
  too_many_on Memory e = tt

-- ---- all lines

pub lines_apart : (names : List (List ℕ)) (from : ℕ) (labels : List Label) (lines : List (List Segment)) → named_by names labels ≡ written_in (flat lines) → map (named_by names) (parted from labels (ends_of from lines)) ≡ map written_in lines
lines_apart names from labels [] e = refl
lines_apart names from labels (l ∷ lines) e =
    let k : from + length l - from ≡ length l = omega arith in
    let size : length (written_in l) ≡ length l = as_long l in
    let both : named_by names labels ≡ written_in l ++ written_in (flat lines) = e ∙ map-append (λ (w : Segment). Some w.bytes) l (flat lines) in
    let front : named_by names (take (length l) labels) ≡ written_in l =
    sym (take-map (λ (x : Label). slice_get names x.0) (length l) labels) ∙ ap (take (length l)) both ∙ take_at (written_in l) (written_in (flat lines)) (length l) size
    in
    let rest : named_by names (drop (length l) labels) ≡ written_in (flat lines) =
    sym (drop_map (length l) labels) ∙ ap (drop (length l)) both ∙ drop_at (written_in l) (written_in (flat lines)) (length l) size
    in
    let more = lines_apart names (from + length l) (drop (length l) labels) lines rest in
    subst (λ m. map (named_by names) (take m labels ∷ parted (from + length l) (drop m labels) (ends_of (from + length l) lines)) ≡ map written_in (l ∷ lines)) (sym k) (λ i. front i ∷ more i)
  where
    as_long : (ws : List Segment) → length (written_in ws) ≡ length ws
    as_long [] = refl
    as_long (w ∷ ws) = ap suc (as_long ws)

    drop_map : (m : ℕ) (ls : List Label) → drop m (named_by names ls) ≡ named_by names (drop m ls)
    drop_map zero ls = refl
    drop_map (suc m) [] = refl
    drop_map (suc m) (x ∷ ls) = drop_map m ls

-- their ends part the words
abbrev Fits : List Segment → Type 0
Fits words = (0 < length words) × (length words ≤ most_words)

all_fit : (lines : List Segment) → All IsShort lines → All Fits (lines_with_words lines)
all_fit [] all = All-nil Fits
all_fit (l ∷ lines) all = ⊎_elim (some (all_fit lines (All-tail IsShort l lines all))) (none (all_fit lines (All-tail IsShort l lines all))) (cases_lt 0 (length (words_of l)))
  where
    some : All Fits (lines_with_words lines) → 0 < length (words_of l) → All Fits (lines_with_words (l ∷ lines))
    some more here =
        let kept : lines_with_words (l ∷ lines) ≡ words_of l ∷ lines_with_words lines = ap (λ b. cond b (words_of l ∷ lines_with_words lines) (lines_with_words lines)) (lt-ltb 0 (length (words_of l)) here) in
        subst (All Fits) (sym kept) (All-cons Fits (words_of l) (lines_with_words lines) (here, All-head IsShort l lines all) more)

    none : All Fits (lines_with_words lines) → length (words_of l) ≤ 0 → All Fits (lines_with_words (l ∷ lines))
    none more here =
        let empty : length (words_of l) ≡ 0 = omega (arith, here) in
        let passed : lines_with_words (l ∷ lines) ≡ lines_with_words lines = ap (λ k. cond (nat_lt 0 k) (words_of l ∷ lines_with_words lines) (lines_with_words lines)) empty in
        subst (All Fits) (sym passed) more

ends_part : (from : ℕ) (lines : List (List Segment)) → All Fits lines → AreEnds from (ends_of from lines) (from + length (flat lines))
ends_part from [] all = omega arith
ends_part from (l ∷ lines) all =
    let here = All-head Fits l lines all in
    (omega (arith, here.0), omega (arith, here.1), subst (AreEnds (from + length l) (ends_of (from + length l) lines)) (omega (arith, length-append l (flat lines))) (ends_part (from + length l) lines (All-tail Fits l lines all)))

pub ends_right : (text : List ℕ) (from at : ℕ) (old new : List (List ℕ)) (words : List Label) (ends : List ℕ) → ReadsLinesTo text from at old new words ends → AreEnds 0 ends (length words)
ends_right text from at old new words ends r =
    let size : length words ≡ 0 + length (flat (lines_with_words r.lines)) = omega (arith, as_many new words (flat (lines_with_words r.lines)) r.named) in
    subst (λ k. AreEnds 0 ends k) (sym size) (subst (λ es. AreEnds 0 es (0 + length (flat (lines_with_words r.lines)))) (sym r.ends_are) (ends_part 0 (lines_with_words r.lines) (all_fit r.lines r.short)))

pub all_lines : (text : List ℕ) (from at : ℕ) (old new : List (List ℕ)) (words : List Label) (ends : List ℕ) → length text < at → ReadsLinesTo text from at old new words ends
    → (read : List (List Label)) → read ≡ parted 0 words ends → ReadsLines (lines_from text from) old new read
all_lines text from at old new words ends past r read is =
    let all : lines_from text from ≡ r.lines = r.all ∙ ap (λ ls. r.lines ++ ls) (nothing_behind (λ b. b == line_feed) text at past) ∙ append-nil r.lines in
    subst (λ ls. ReadsLines ls old new read) (sym all)
    (record {
      short = r.short;
      adds = r.adds;
      lines_are = ap (map (named_by new)) (is ∙ ap (parted 0 words) r.ends_are) ∙ lines_apart new 0 words (lines_with_words r.lines) r.named;
    })
