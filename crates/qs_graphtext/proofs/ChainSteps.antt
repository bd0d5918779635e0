-- The steps of the readers of chains and graphs.
use Rattle.std.proofs.Common.{◌≡◌, ℕ, refl, sym, ◌∙◌, ap, subst, List, [], ◌∷◌, ◌++◌, append_assoc, append-nil}
use Rattle.qs_lex.specs.declared.token.Token.{Token}
use Rattle.qs_lex.specs.declared.token.Word.TheVariants.{Graphe, Fin}
use Rattle.qs_lex.specs.Grammar.{a_node_mark, the_word, plus, stop, sort_of, one, part}
use Rattle.qs_tree.specs.Trees.{Tree}
use Rattle.qs_reader.specs.declared.text_end.TextEnd.{TextEnd}
use Rattle.qs_reader.specs.declared.text_end.TextEnd.TheVariants.{Syntax, Memory}
use Rattle.qs_reader.specs.Readers.{Reading, rest_of, IsNext, Passes, EndsHere}
use Rattle.qs_reader.specs.working.Readers.{Reads, AToken, a_token, Then, then, StopsOr}
use Rattle.qs_reader.proofs.Steps.{passed_read, token_read, then_read, read_at, read_so, part_read, token_ends, part_ends, first_ends, then_ends}
use Rattle.qs_reader.proofs.Between.{cannot_go_on}
use Rattle.qs_graphtext.specs.WrittenChains.{WrittenChain}
use Rattle.qs_graphtext.specs.Grammar.{graph, chain, plain, line}
use Rattle.qs_graphtext.specs.Reading.{ReadsRooted, reads_rooted, ReadsPlain, ReadsTrees, reads_trees, ReadsMoreTrees, no_more_trees, one_more_tree, ReadsChain, reads_chain, ReadsChains, reads_chains, ReadsMoreChains, no_more_chains, one_more_chain, ReadsGraph, reads_graph}
use Rattle.qs_graphtext.specs.Refusals.{EndsFrom}
use Rattle.qs_graphtext.specs.working.Readers.{table, IsRead, Ends, PassesMark, plains_with, some_chains, AMark, a_mark, APlain, ARooted, Trees, AChain, Chains, AGraph}
use Rattle.qs_graphtext.proofs.Tables.{more, all_ok}

-- a tree with the byte of its root
pub read_rooted : {tree : Tree} {t : Token} {r s : Reading} {old new : List (List ℕ)} → IsNext t r → IsRead (part plain) (APlain tree) r s old new → IsRead (part plain) (ARooted tree t.from) r s old new
read_rooted {tree} {t} {r} {s} n a =
    read_at (λ w. w)
    (λ later x. subst (λ us. ReadsRooted later r.text us tree t.from (rest_of s)) (sym n.are) (reads_rooted (subst (λ us. ReadsPlain later r.text us tree (rest_of s)) n.are x))) a

-- trees of which these are read, and whatever is read behind them, are read whole
abbrev pub CompletesTrees : List Tree → List ℕ → Reads
CompletesTrees trees at names text ts rest =
    (behind : List Tree) (bytes : List ℕ) (end : List Token) → ReadsMoreTrees names text rest behind bytes end → ReadsTrees names text ts (trees ++ behind) (at ++ bytes) end

pub trees_first : {t : Tree} {byte : ℕ} (trees : List Tree) (at : List ℕ) → trees ≡ t ∷ [] → at ≡ byte ∷ [] → (names : List (List ℕ)) (text : List ℕ) (ts rest : List Token)
    → ReadsRooted names text ts t byte rest → CompletesTrees trees at names text ts rest
trees_first trees at e f names text ts rest r behind bytes end m = rw (e, f) (reads_trees r m)

pub trees_next : {t : Tree} {byte : ℕ} (trees longer : List Tree) (at bytes_longer : List ℕ) → longer ≡ trees ++ t ∷ [] → bytes_longer ≡ at ++ byte ∷ []
    → (names : List (List ℕ)) (text : List ℕ) (ts us rest : List Token)
    → CompletesTrees trees at names text ts us → Then (AToken plus) (ARooted t byte) names text us rest → CompletesTrees longer bytes_longer names text ts rest
trees_next {t} {byte} trees longer at bytes_longer e f names text ts us rest before (then (a_token p) r) behind bytes end m =
    let trees_are : longer ++ behind ≡ trees ++ (t ∷ behind) = ap (λ xs. xs ++ behind) e ∙ append_assoc trees (t ∷ []) behind in
    let bytes_are : bytes_longer ++ bytes ≡ at ++ (byte ∷ bytes) = ap (λ xs. xs ++ bytes) f ∙ append_assoc at (byte ∷ []) bytes in
    rw (trees_are, bytes_are) (before (t ∷ behind) (byte ∷ bytes) end (one_more_tree p r m))

pub trees_last : {trees : List Tree} {at : List ℕ} (names : List (List ℕ)) (text : List ℕ) (ts rest : List Token) → CompletesTrees trees at names text ts rest → ReadsTrees names text ts trees at rest
trees_last {trees} {at} names text ts rest whole =
    subst (λ xs. ReadsTrees names text ts xs at rest) (append-nil trees) (subst (λ ys. ReadsTrees names text ts (trees ++ []) ys rest) (append-nil at) (whole [] [] rest no_more_trees))

-- a chain
mark_read : {number : ℕ} {r s : Reading} (names : List (List ℕ)) → PassesMark number r s → IsRead (one a_node_mark) (AMark number) r s names names
mark_read names p = passed_read names refl (ap sort_of p.is) (λ later. a_mark p.is) p.passed

a_chain : {from to : ℕ} {trees : List Tree} {at : List ℕ} (names : List (List ℕ)) (text : List ℕ) (ts rest : List Token)
    → Then (AMark from) (Then (Trees trees at) (Then (AMark to) (AToken stop))) names text ts rest → ReadsChain names text ts (record { from = from; trees = trees; to = to; at = at }) rest
a_chain names text ts rest (then (a_mark f) (then r (then (a_mark g) (a_token s)))) = reads_chain f r g s

pub ends_at_from : {r : Reading} {end : TextEnd} → EndsHere a_node_mark r end → Ends (part chain) r end
ends_at_from e = part_ends (first_ends (token_ends e))

module _ {from : ℕ} {r s : Reading} (p : PassesMark from r s) where
  pub ends_in_trees : {end : TextEnd} (names : List (List ℕ)) → Ends (plains_with plus) s end → Ends (part chain) r end
  ends_in_trees names e = part_ends (then_ends (mark_read names p) (first_ends e))

  module _ {R : Reads} {u : Reading} {old new : List (List ℕ)} (a : IsRead (plains_with plus) R s u old new) where
    pub ends_at_to : {end : TextEnd} → EndsHere a_node_mark u end → Ends (part chain) r end
    ends_at_to e = part_ends (then_ends (mark_read old p) (then_ends a (first_ends (token_ends e))))

    pub ends_at_stop : {to : ℕ} {v : Reading} {end : TextEnd} → PassesMark to u v → EndsHere stop v end → Ends (part chain) r end
    ends_at_stop q e = part_ends (then_ends (mark_read old p) (then_ends a (then_ends (mark_read new q) (token_ends e))))

pub read_chain : {from to : ℕ} {trees : List Tree} {at : List ℕ} {r s u v w : Reading} {old new : List (List ℕ)} → PassesMark from r s
    → IsRead (plains_with plus) (Trees trees at) s u old new → PassesMark to u v → Passes stop v w
    → IsRead (part chain) (AChain (record { from = from; trees = trees; to = to; at = at })) r w old new
read_chain {old} {new} p a q k = part_read (read_so a_chain (then_read (mark_read old p) (then_read a (then_read (mark_read new q) (token_read new refl k)))))

-- chains of which these are read, and whatever is read behind them, are read whole
abbrev pub CompletesChains : List WrittenChain → Reads
CompletesChains chains names text ts rest =
    (behind : List WrittenChain) (end : List Token) → ReadsMoreChains names text rest behind end → ReadsChains names text ts (chains ++ behind) end

pub chains_first : {c : WrittenChain} (chains : List WrittenChain) → chains ≡ c ∷ [] → (names : List (List ℕ)) (text : List ℕ) (ts rest : List Token)
    → ReadsChain names text ts c rest → CompletesChains chains names text ts rest
chains_first chains e names text ts rest r behind end m = rw e (reads_chains r m)

pub chains_next : {c : WrittenChain} (chains longer : List WrittenChain) → longer ≡ chains ++ c ∷ [] → (names : List (List ℕ)) (text : List ℕ) (ts us rest : List Token)
    → CompletesChains chains names text ts us → ReadsChain names text us c rest → CompletesChains longer names text ts rest
chains_next {c} chains longer e names text ts us rest before r behind end m =
    let are : longer ++ behind ≡ chains ++ (c ∷ behind) = ap (λ xs. xs ++ behind) e ∙ append_assoc chains (c ∷ []) behind in
    rw are (before (c ∷ behind) end (one_more_chain r m))

pub chains_last : {chains : List WrittenChain} (names : List (List ℕ)) (text : List ℕ) (ts rest : List Token) → CompletesChains chains names text ts rest → ReadsChains names text ts chains rest
chains_last {chains} names text ts rest whole = subst (λ xs. ReadsChains names text ts xs rest) (append-nil chains) (whole [] rest no_more_chains)

-- a graph
a_graph : {chains : List WrittenChain} (names : List (List ℕ)) (text : List ℕ) (ts rest : List Token)
    → Then (AToken (the_word Graphe)) (Then (Chains chains) (AToken (the_word Fin))) names text ts rest → ReadsGraph names text ts chains rest
a_graph names text ts rest (then (a_token g) (then r (a_token f))) = reads_graph g r f

pub ends_at_graph : {r : Reading} {end : TextEnd} → EndsHere (the_word Graphe) r end → Ends (part graph) r end
ends_at_graph e = part_ends (first_ends (token_ends e))

pub ends_in_chains : {r s : Reading} {end : TextEnd} (names : List (List ℕ)) → Passes (the_word Graphe) r s → Ends some_chains s end → Ends (part graph) r end
ends_in_chains names p e = part_ends (then_ends (token_read names refl p) (first_ends e))

pub ends_at_fin : {R : Reads} {r s u : Reading} {old new : List (List ℕ)} {end : TextEnd} → Passes (the_word Graphe) r s → IsRead some_chains R s u old new → EndsHere (the_word Fin) u end
    → Ends (part graph) r end
ends_at_fin {old} p a e = part_ends (then_ends (token_read old refl p) (then_ends a (token_ends e)))

pub read_graph : {chains : List WrittenChain} {r s u v : Reading} {old new : List (List ℕ)} → Passes (the_word Graphe) r s → IsRead some_chains (Chains chains) s u old new → Passes (the_word Fin) u v
    → IsRead (part graph) (AGraph chains) r v old new
read_graph {old} {new} p a q = part_read (read_so a_graph (then_read (token_read old refl p) (then_read a (token_read new refl q))))

-- where no graph can go on
stops_from : (r : Reading) (end : TextEnd) → StopsOr line table (part graph) r end → EndsFrom r.tokens r.place end
stops_from r (Syntax at) e = cannot_go_on table more all_ok (part graph) tt (λ k. refl) e
stops_from r Memory e = tt

pub graph_ends : {text : List ℕ} {tokens : List Token} {from : ℕ} {r : Reading} {end : TextEnd} → r ≡ record { text = text; tokens = tokens; place = from } → Ends (part graph) r end → EndsFrom tokens from end
graph_ends {r} {end} starts e = subst (λ r. EndsFrom r.tokens r.place end) starts (stops_from r end e.stops)
