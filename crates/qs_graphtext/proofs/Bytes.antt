-- Chains that were read have trees, a byte for each, and each of these bytes is that of a token that was read.
use Rattle.std.proofs.Common.{◌≡◌, ℕ, suc, ◌<◌, List, length, refl, sym, ◌∙◌, ap, subst, inl, inr, ◌⊎◌, arith}
use Rattle.qs_lex.specs.declared.token.Token.{Token}
use Rattle.qs_tree.specs.Lists.{◌∈◌}
use Rattle.qs_tree.specs.Trees.{Forest, Tree}
use Rattle.qs_tree.proofs.Members.{from_append}
use Rattle.qs_graphtext.specs.WrittenChains.{WrittenChain}
use Rattle.qs_graphtext.specs.GraphOfChains.{IsWhole, places_in}
use Rattle.qs_graphtext.specs.Reading.{ReadsPlain, reads_plain, ReadsSubtrees, no_parentheses, nothing_inside, plains_inside, ReadsPlains, reads_plains, ReadsMorePlains, no_more_plains, one_more_plain, ReadsRooted, reads_rooted, ReadsMoreTrees, no_more_trees, one_more_tree, ReadsTrees, reads_trees, ReadsChain, reads_chain, ReadsMoreChains, no_more_chains, one_more_chain, ReadsChains, reads_chains, ReadsGraph, reads_graph, IsByteOf}

-- a token that is left was there
mutual
  later_plain : {names : List (List ℕ)} {text : List ℕ} {ts rest : List Token} {tree : Tree} → ReadsPlain names text ts tree rest → (t : Token) → t ∈ rest → t ∈ ts
  later_plain (reads_plain is below) t i = inr (later_subtrees below t i)

  later_subtrees : {names : List (List ℕ)} {text : List ℕ} {ts rest : List Token} {kids : Forest} → ReadsSubtrees names text ts kids rest → (t : Token) → t ∈ rest → t ∈ ts
  later_subtrees no_parentheses t i = i
  later_subtrees (nothing_inside o c) t i = inr (inr i)
  later_subtrees (plains_inside o inside c) t i = inr (later_plains inside t (inr i))

  later_plains : {names : List (List ℕ)} {text : List ℕ} {ts rest : List Token} {kids : Forest} → ReadsPlains names text ts kids rest → (t : Token) → t ∈ rest → t ∈ ts
  later_plains (reads_plains first more) t i = later_plain first t (later_more_plains more t i)

  later_more_plains : {names : List (List ℕ)} {text : List ℕ} {ts rest : List Token} {kids : Forest} → ReadsMorePlains names text ts kids rest → (t : Token) → t ∈ rest → t ∈ ts
  later_more_plains no_more_plains t i = i
  later_more_plains (one_more_plain c next more) t i = inr (later_plain next t (later_more_plains more t i))

later_rooted : {names : List (List ℕ)} {text : List ℕ} {ts rest : List Token} {tree : Tree} {byte : ℕ} → ReadsRooted names text ts tree byte rest → (t : Token) → t ∈ rest → t ∈ ts
later_rooted (reads_rooted reads) t i = later_plain reads t i

later_more_trees : {names : List (List ℕ)} {text : List ℕ} {ts rest : List Token} {trees : List Tree} {at : List ℕ} → ReadsMoreTrees names text ts trees at rest → (t : Token) → t ∈ rest → t ∈ ts
later_more_trees no_more_trees t i = i
later_more_trees (one_more_tree p next more) t i = inr (later_rooted next t (later_more_trees more t i))

later_trees : {names : List (List ℕ)} {text : List ℕ} {ts rest : List Token} {trees : List Tree} {at : List ℕ} → ReadsTrees names text ts trees at rest → (t : Token) → t ∈ rest → t ∈ ts
later_trees (reads_trees first more) t i = later_rooted first t (later_more_trees more t i)

later_chain : {names : List (List ℕ)} {text : List ℕ} {ts rest : List Token} {chain : WrittenChain} → ReadsChain names text ts chain rest → (t : Token) → t ∈ rest → t ∈ ts
later_chain (reads_chain from trees to stop) t i = inr (later_trees trees t (inr (inr i)))

-- the byte is that of one of these tokens, or of more
more_tokens : (ts us : List Token) (byte : ℕ) → ((t : Token) → t ∈ us → t ∈ ts) → IsByteOf us byte → IsByteOf ts byte
more_tokens ts us byte more is = (is.0, more is.0 is.1, is.2)

byte_of_rooted : {names : List (List ℕ)} {text : List ℕ} {ts rest : List Token} {tree : Tree} {byte : ℕ} → ReadsRooted names text ts tree byte rest → IsByteOf ts byte
byte_of_rooted (reads_rooted {t} reads) = (t, inl refl, refl)

byte_of_more : {names : List (List ℕ)} {text : List ℕ} {ts rest : List Token} {trees : List Tree} {at : List ℕ} → ReadsMoreTrees names text ts trees at rest → (byte : ℕ) → byte ∈ at → IsByteOf ts byte
byte_of_more no_more_trees byte i = elim i [ ]
byte_of_more (one_more_tree p next more) byte (inl e) = let is = byte_of_rooted next in (is.0, inr is.1, is.2 ∙ sym e)
byte_of_more (one_more_tree p next more) byte (inr i) = let is = byte_of_more more byte i in (is.0, inr (later_rooted next is.0 is.1), is.2)

byte_of_trees : {names : List (List ℕ)} {text : List ℕ} {ts rest : List Token} {trees : List Tree} {at : List ℕ} → ReadsTrees names text ts trees at rest → (byte : ℕ) → byte ∈ at → IsByteOf ts byte
byte_of_trees (reads_trees first more) byte (inl e) = let is = byte_of_rooted first in (is.0, is.1, is.2 ∙ sym e)
byte_of_trees (reads_trees first more) byte (inr i) = let is = byte_of_more more byte i in (is.0, later_rooted first is.0 is.1, is.2)

byte_of_chain : {names : List (List ℕ)} {text : List ℕ} {ts rest : List Token} {chain : WrittenChain} → ReadsChain names text ts chain rest → (byte : ℕ) → byte ∈ chain.at → IsByteOf ts byte
byte_of_chain (reads_chain from trees to stop) byte i = let is = byte_of_trees trees byte i in (is.0, inr is.1, is.2)

byte_of_either : {names : List (List ℕ)} {text : List ℕ} {ts middle : List Token} {chain : WrittenChain} (behind : List ℕ) → ReadsChain names text ts chain middle
    → ((byte : ℕ) → byte ∈ behind → IsByteOf middle byte) → (byte : ℕ) → (byte ∈ chain.at) ⊎ (byte ∈ behind) → IsByteOf ts byte
byte_of_either behind reads more byte (inl i) = byte_of_chain reads byte i
byte_of_either {ts} {middle} behind reads more byte (inr i) = more_tokens ts middle byte (λ t j. later_chain reads t j) (more byte i)

byte_of_more_chains : {names : List (List ℕ)} {text : List ℕ} {ts rest : List Token} {chains : List WrittenChain} → ReadsMoreChains names text ts chains rest → (byte : ℕ) → byte ∈ places_in chains → IsByteOf ts byte
byte_of_more_chains no_more_chains byte i = elim i [ ]
byte_of_more_chains (one_more_chain {next} {behind} reads more) byte i = byte_of_either (places_in behind) reads (λ b j. byte_of_more_chains more b j) byte (from_append next.at (places_in behind) byte i)

byte_of_chains : {names : List (List ℕ)} {text : List ℕ} {ts rest : List Token} {chains : List WrittenChain} → ReadsChains names text ts chains rest → (byte : ℕ) → byte ∈ places_in chains → IsByteOf ts byte
byte_of_chains (reads_chains {first} {behind} reads more) byte i = byte_of_either (places_in behind) reads (λ b j. byte_of_more_chains more b j) byte (from_append first.at (places_in behind) byte i)

pub byte_of_graph : {names : List (List ℕ)} {text : List ℕ} {ts rest : List Token} {chains : List WrittenChain} → ReadsGraph names text ts chains rest → (byte : ℕ) → byte ∈ places_in chains → IsByteOf ts byte
byte_of_graph (reads_graph w reads f) byte i = let is = byte_of_chains reads byte i in (is.0, inr is.1, is.2)

-- each chain has a tree, and a byte for each
as_many : {names : List (List ℕ)} {text : List ℕ} {ts rest : List Token} {trees : List Tree} {at : List ℕ} → ReadsMoreTrees names text ts trees at rest → length at ≡ length trees
as_many no_more_trees = refl
as_many (one_more_tree p next more) = ap (λ n. suc n) (as_many more)

whole_chain : {names : List (List ℕ)} {text : List ℕ} {ts rest : List Token} {chain : WrittenChain} → ReadsChain names text ts chain rest → IsWhole chain
whole_chain (reads_chain from (reads_trees first more) to stop) = record { some = omega (arith); places = ap (λ n. suc n) (as_many more) }

whole_more : {names : List (List ℕ)} {text : List ℕ} {ts rest : List Token} {chains : List WrittenChain} → ReadsMoreChains names text ts chains rest → (chain : WrittenChain) → chain ∈ chains → IsWhole chain
whole_more no_more_chains chain i = elim i [ ]
whole_more (one_more_chain reads more) chain (inl e) = subst IsWhole (sym e) (whole_chain reads)
whole_more (one_more_chain reads more) chain (inr i) = whole_more more chain i

pub whole_graph : {names : List (List ℕ)} {text : List ℕ} {ts rest : List Token} {chains : List WrittenChain} → ReadsGraph names text ts chains rest → (chain : WrittenChain) → chain ∈ chains → IsWhole chain
whole_graph (reads_graph w (reads_chains reads more) f) chain (inl e) = subst IsWhole (sym e) (whole_chain reads)
whole_graph (reads_graph w (reads_chains reads more) f) chain (inr i) = whole_more more chain i

pub some_chain : {names : List (List ℕ)} {text : List ℕ} {ts rest : List Token} {chains : List WrittenChain} → ReadsGraph names text ts chains rest → 0 < length chains
some_chain (reads_graph w (reads_chains reads more) f) = omega (arith)
