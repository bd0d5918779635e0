-- The steps of the search, over the lists that its contracts name.
use Rattle.std.proofs.Common.{Bool, true, false, inl, inr, ℕ, nat_eq, ◌≡◌, ◌+◌, ◌<◌, ◌≤◌, List, [], ◌∷◌, ◌++◌, length, Option, Some, None, IsNone, refl, sym, ap, ◌∙◌, subst, arith}
use Rattle.std.specs.Option.{is_some}
use Rattle.std.proofs.lemmas.Bool.{eqb-true}
use Rattle.qs_tree.specs.declared.cell.Label.{Label}
use Rattle.qs_tree.specs.Trees.{Tree, node, kids}
use Rattle.qs_pattern.specs.declared.variable.Var.{Var}
use Rattle.qs_pattern.specs.declared.pattern.Head.{Head}
use Rattle.qs_pattern.specs.declared.pattern.Head.TheVariants as head
use Rattle.qs_pattern.specs.declared.subst.Value.TheVariants as value
use Rattle.qs_pattern.specs.Patterns.{Patterns, no_pattern, node_first, tree_var_first, forest_var_first}
use Rattle.qs_pattern.specs.Substitutions.{Substitution}
use Rattle.qs_pattern.specs.Patterns.{IsHeadInClass}
use Rattle.qs_pattern.specs.Variables.{IsTreeVar, IsForestVar}
use Rattle.qs_match.specs.working.Tasks.{Tasks, task_variables, head_before, variables_before, Extends, Solves, Appends, Binds, HasOther, AppendsWith, AreOfClass, TakesFront}
use Rattle.qs_match.proofs.Steps.{node_parts, step_end, step_tree, stop_tree, stop_no_tree, step_node, step_head, stop_head}
use Rattle.qs_match.proofs.Listed.{appends_one, appends_none}
use Rattle.qs_match.proofs.Binding.{has_value, binding, bind_to}
use Rattle.qs_match.proofs.Covered.{fits}
use Rattle.qs_match.proofs.Splits.{passes_joins, passes_length, whole_front}
use Rattle.qs_match.specs.working.Counts.{CanFit, CanBeRoot}
use Rattle.qs_tree.specs.Splits.{PassesTree}
use Rattle.qs_pattern.specs.Instances.{inst, label_of}
use Rattle.qs_pattern.specs.Patterns.{AreInClass}
use Rattle.qs_match.proofs.Fronts.{Splits, SplitsAt, TriedAt, splits_start, splits_end, splits_no, splits_more, splits_none, takes_within}

module _ (W : Tasks) (s : Substitution) (old new : List Substitution) where
  pub tree_some : (v : Var) (rest : Patterns) → IsTreeVar v → (t : Substitution) (u x : Tree) (us ts : List Tree) → ts ≡ u ∷ us → x ≡ u → Binds s v (value.Tree x) t
      → Appends ((rest, us) ∷ W) t old new → Appends ((tree_var_first v rest, ts) ∷ W) s old new
  tree_some v rest c t u x us ts e same b a =
      rw e (step_tree W s old new v rest c t u us (subst (λ (y : Tree). Binds s v (value.Tree y) t) same b) a)

  pub tree_clash : (v : Var) (rest : Patterns) → IsTreeVar v → (u x : Tree) (us ts : List Tree) → ts ≡ u ∷ us → x ≡ u → HasOther s v (value.Tree x) → Appends ((tree_var_first v rest, ts) ∷ W) s old old
  tree_clash v rest c u x us ts e same b = rw e (stop_tree W s old new v rest c u us (subst (λ (y : Tree). HasOther s v (value.Tree y)) same b))

  pub tree_none : (v : Var) (rest : Patterns) → IsTreeVar v → (ts : List Tree) → ts ≡ [] → Appends ((tree_var_first v rest, ts) ∷ W) s old old
  tree_none v rest c ts e = rw e (stop_no_tree W s old new v rest c)

  pub label_some : (h : Head) (l : Label) (ks rest : Patterns) (u : Tree) (us ts subtrees : List Tree) (N : Tasks) → h ≡ head.Label l → ts ≡ u ∷ us → subtrees ≡ kids u → l ≡ u.root → N ≡ (rest, us) ∷ W
      → Appends ((ks, subtrees) ∷ N) s old new → Appends ((node_first h ks rest, ts) ∷ W) s old new
  label_some h l ks rest u us ts subtrees N hl e k same n a =
      let b : Appends ((ks, kids u) ∷ (rest, us) ∷ W) s old new = rw (k, n) at a in
      rw (hl, e) (step_node W s old new l ks rest u us same b)

  pub head_some : (h : Head) (v : Var) (ks rest : Patterns) (t : Substitution) (u : Tree) (x : Label) (us ts subtrees : List Tree) (N : Tasks) → h ≡ head.Var v → IsHeadInClass h → ts ≡ u ∷ us → subtrees ≡ kids u → x ≡ u.root
      → N ≡ (rest, us) ∷ W → Binds s v (value.Label x) t → Appends ((ks, subtrees) ∷ N) t old new → Appends ((node_first h ks rest, ts) ∷ W) s old new
  head_some h v ks rest t u x us ts subtrees N hv c e k same n b a =
      let d : Appends ((ks, kids u) ∷ (rest, us) ∷ W) t old new = rw (k, n) at a in
      rw (hv, e) (step_head W s old new v ks rest (subst IsHeadInClass hv c) t u us (subst (λ (y : Label). Binds s v (value.Label y) t) same b) d)

  pub head_clash : (h : Head) (v : Var) (ks rest : Patterns) (u : Tree) (x : Label) (us ts : List Tree) → h ≡ head.Var v → IsHeadInClass h → ts ≡ u ∷ us → x ≡ u.root → HasOther s v (value.Label x)
      → Appends ((node_first h ks rest, ts) ∷ W) s old old
  head_clash h v ks rest u x us ts hv c e same b =
      rw (hv, e) (stop_head W s old new v ks rest (subst IsHeadInClass hv c) u us (subst (λ (y : Label). HasOther s v (value.Label y)) same b))

-- no pattern and no tree is left, and nothing is next
pub end_found : (W : Tasks) (s t : Substitution) (ts : List Tree) (old new : List Substitution) → W ≡ [] → AreOfClass s → ts ≡ [] → t ≡ s → new ≡ old ++ t ∷ [] → Appends ((no_pattern, ts) ∷ W) s old new
end_found W s t ts old new w c e same is =
    let n : new ≡ old ++ s ∷ [] = is ∙ ap (λ (r : Substitution). old ++ (r ∷ [])) same in
    rw (e, w, n) (step_end [] s old (old ++ s ∷ []) (appends_one s old c))

pub same_label : (l m : Label) → nat_eq l.0 m.0 ≡ true → l ≡ m
same_label l m e = let f : l.0 ≡ m.0 = eqb-true l.0 m.0 e in λ i. record { 0 = f i }

pub is_none : {A : Type 0} (o : Option A) (b : Bool) → b ≡ false → b ≡ is_some o → IsNone o
is_none None b e f = refl
is_none (Some x) b e f = absurd cc

-- What a node is refused by at once.
kids_extend : (h : Head) (vs : List Var) (s r : Substitution) → Extends (head_before h vs) s r → (t : Substitution) × Extends vs t r
kids_extend (head.Label l) vs s r e = (s, e)
kids_extend (head.Var v) vs s r e =
    let h = has_value e in
    let b = binding h.0 e h.1 in
    (b.0, bind_to b.1 e h.1)

pub root_is : (h : Head) (r : Substitution) (u : Tree) → label_of r h ≡ u.root → CanBeRoot h u.root
root_is (head.Label l) r u e = e
root_is (head.Var v) r u e = tt

module _ (W : Tasks) (s : Substitution) (old : List Substitution) (h : Head) (ks rest : Patterns) (u : Tree) (us ts : List Tree) (e : ts ≡ u ∷ us) where
  node_solved : (r : Substitution) → Solves ((node_first h ks rest, ts) ∷ W) s r → node (label_of r h) (inst r ks) ≡ u
  node_solved r z = let f : node (label_of r h) (inst r ks) ∷ inst r rest ≡ u ∷ us = z.fits.0 ∙ e in cc

  pub root_none : (x : Label) → x ≡ u.root → (CanBeRoot h x → ⊥) → Appends ((node_first h ks rest, ts) ∷ W) s old old
  root_none x same never =
      appends_none ((node_first h ks rest, ts) ∷ W) s old
      (λ r z. never (subst (CanBeRoot h) (sym same) (root_is h r u (node_parts (label_of r h) (inst r ks) u (node_solved r z)).0)))

  pub kids_none : (subtrees : List Tree) → subtrees ≡ kids u → AreInClass ks → (CanFit ks (length subtrees) → ⊥) → Appends ((node_first h ks rest, ts) ∷ W) s old old
  kids_none subtrees same c never =
      appends_none ((node_first h ks rest, ts) ∷ W) s old
      (λ r z.
      let x = kids_extend h (variables_before ks (variables_before rest (task_variables W))) s r z.extends in
      let k : inst r ks ≡ subtrees = (node_parts (label_of r h) (inst r ks) u (node_solved r z)).1 ∙ sym same in
      never (subst (CanFit ks) (ap length k) (fits ks (variables_before rest (task_variables W)) x.0 r c x.1)))

pub label_is : (h : Head) (l x : Label) → h ≡ head.Label l → CanBeRoot h x → l ≡ x
label_is h l x e c = subst (λ g. CanBeRoot g x) e c

-- What is tried with a value of the variable.
pub tree_appends : (W : Tasks) (s : Substitution) (v : Var) (rest : Patterns) → IsTreeVar v → (u : Tree) (us ts : List Tree) (old new : List Substitution) → ts ≡ u ∷ us → AppendsWith ((rest, us) ∷ W) s v (value.Tree u) old new
    → Appends ((tree_var_first v rest, ts) ∷ W) s old new
tree_appends W s v rest c u us ts old new e (inl a) = tree_some W s old new v rest c a.0 u u us ts e refl a.1 a.2
tree_appends W s v rest c u us ts old new e (inr a) = rw a.1 (tree_clash W s old new v rest c u u us ts e refl a.0)

pub head_appends : (W : Tasks) (s : Substitution) (h : Head) (v : Var) (ks rest : Patterns) (u : Tree) (x : Label) (us ts subtrees : List Tree) (N : Tasks) (old new : List Substitution) → h ≡ head.Var v → IsHeadInClass h → ts ≡ u ∷ us
    → subtrees ≡ kids u → x ≡ u.root → N ≡ (rest, us) ∷ W → AppendsWith ((ks, subtrees) ∷ N) s v (value.Label x) old new → Appends ((node_first h ks rest, ts) ∷ W) s old new
head_appends W s h v ks rest u x us ts subtrees N old new hv c e k same n (inl a) = head_some W s old new h v ks rest a.0 u x us ts subtrees N hv c e k same n a.1 a.2
head_appends W s h v ks rest u x us ts subtrees N old new hv c e k same n (inr a) = rw a.1 (head_clash W s old new h v ks rest u x us ts hv c e same a.0)

-- The fronts that a forest variable takes.
module _ {W : Tasks} {s : Substitution} {v : Var} {rest : Patterns} {ts front behind : List Tree} {old new : List Substitution} where
  pub front_tries : IsForestVar v → {mid : List Substitution} → SplitsAt W s v rest ts front behind old mid → (x y : List Tree) → x ≡ front → y ≡ behind → AppendsWith ((rest, y) ∷ W) s v (value.Forest x) mid new
      → TriedAt W s v rest ts front behind old new
  front_tries c {mid} a x y xe ye (inl b) = record {
    joins = a.joins;
    done = splits_more W s v rest c ts front behind a.joins (length front) refl old mid new b.0 (subst (λ (us : List Tree). Binds s v (value.Forest us) b.0) xe b.1) a.done
        (subst (λ (us : List Tree). Appends ((rest, us) ∷ W) b.0 mid new) ye b.2);
  }
  front_tries c {mid} a x y xe ye (inr b) =
      let same : new ≡ mid = b.1 in
      record {
        joins = a.joins;
        done = rw same (splits_none W s v rest c ts front behind a.joins (length front) refl old mid new (subst (λ (us : List Tree). HasOther s v (value.Forest us)) xe b.0) a.done);
      }

  -- no longer front can be the variable's
  pub front_enough : IsForestVar v → TriedAt W s v rest ts front behind old new → ((r : Substitution) (a : List Tree) → TakesFront s v rest ts r a → length a ≤ length front)
      → Appends ((forest_var_first v rest, ts) ∷ W) s old new
  front_enough c a h = splits_end W s v rest c ts (length front + 1) old new (λ r b t. let l = h r b t in omega arith) a.done

  -- no tree is behind this front
  pub front_last : IsForestVar v → TriedAt W s v rest ts front behind old new → behind ≡ [] → Appends ((forest_var_first v rest, ts) ∷ W) s old new
  front_last c a e =
      let n : length front ≡ length ts = ap length (whole_front front behind ts a.joins e) in
      front_enough c a (λ r b t. let l = takes_within W s v rest c ts r b t in omega arith)

  -- one tree more goes to the front
  pub front_more : TriedAt W s v rest ts front behind old new → {longer shorter : List Tree} → PassesTree front behind longer shorter → SplitsAt W s v rest ts longer shorter old new
  front_more a p = record {
    joins = passes_joins ts p a.joins;
    done = subst (λ k. Splits ((forest_var_first v rest, ts) ∷ W) s v k old new) (sym (passes_length p)) a.done;
  }

module _ (W : Tasks) (s : Substitution) (v : Var) (rest : Patterns) (c : IsForestVar v) (ts : List Tree) (old : List Substitution) (least most : ℕ)
    (within : (r : Substitution) (a : List Tree) → TakesFront s v rest ts r a → (least ≤ length a) × (length a ≤ most)) where
  -- no shorter front can be the variable's
  pub front_begin : (front behind : List Tree) → front ++ behind ≡ ts → length front ≡ least → SplitsAt W s v rest ts front behind old old
  front_begin front behind e l = record { joins = e; done = splits_start W s v rest c ts (length front) (λ r a t. let m = (within r a t).0 in omega arith) old }

  -- there are fewer trees
  pub front_short : length ts < least → Appends ((forest_var_first v rest, ts) ∷ W) s old old
  front_short l = splits_no W s v rest c ts old (λ r a t. let m = (within r a t).0 in let n = takes_within W s v rest c ts r a t in absurd (omega arith))
