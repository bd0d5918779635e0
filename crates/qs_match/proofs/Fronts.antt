-- A forest variable takes each front of the trees, shortest first.
use Rattle.std.proofs.Common.{◌≡◌, ℕ, ◌+◌, ◌<◌, ◌≤◌, ◌⊎◌, inl, inr, List, [], ◌∷◌, ◌++◌, length, Option, Some, None, refl, sym, ap, ◌∙◌, arith, append_assoc, length-append, append-nil}
use Rattle.std.specs.Cmp.{nat_cmp_is}
use Rattle.std.specs.Cmp.Lexicographic.{slice_cmp}
use Rattle.std.specs.Ordering.{nat_cmp}
use Rattle.std.specs.declared.cmp.Ordering.TheVariants.{Less, Equal}
use Rattle.std.proofs.Math.Nat.{eq-or-lt_of_le}
use Rattle.std.proofs.lemmas.List.{append_cancel_left}
use Rattle.std.proofs.lemmas.List.Elements.{filter_map-append}
use Rattle.qs_tree.specs.Trees.{Tree}
use Rattle.qs_pattern.specs.declared.variable.Var.{Var}
use Rattle.qs_pattern.specs.declared.subst.Value.{Value}
use Rattle.qs_pattern.specs.declared.subst.Value.TheVariants as value
use Rattle.qs_pattern.specs.Patterns.{Patterns, forest_var_first}
use Rattle.qs_pattern.specs.Instances.{inst, trees_in}
use Rattle.qs_pattern.specs.Substitutions.{value_of}
use Rattle.qs_pattern.specs.Substitutions.{Substitution, forest_lengths, forest_length}
use Rattle.qs_pattern.specs.Variables.{IsForestVar}
use Rattle.qs_match.specs.Order.{LengthsBefore}
use Rattle.qs_match.specs.working.Tasks.{Tasks, task_variables, Extends, Solves, Lists, Appends, Binds, HasOther, TakesFront}
use Rattle.qs_match.proofs.Values.{known_value, new_to}
use Rattle.qs_match.proofs.Binding.{bind_to, bind_from, clash_never, forest_value}
use Rattle.qs_match.proofs.Listed.{lists_both, lists_same, lists_none, appends_none}

-- lists that first differ at one place are in the order of that place
before_at : (p : List ℕ) (m n : ℕ) (a b : List ℕ) → m < n → slice_cmp nat_cmp (p ++ m ∷ a) (p ++ n ∷ b) ≡ Less
before_at [] m n a b h = rw (sym (nat_cmp_is m n Less h)) refl
before_at (k ∷ p) m n a b h = rw (sym (nat_cmp_is k k Equal refl)) (before_at p m n a b h)

lengths_at : (s r more : Substitution) (v : Var) (y : Value) (a : List Tree) → r ≡ (s ++ (v, y) ∷ []) ++ more → y ≡ value.Forest a → forest_lengths r ≡ forest_lengths s ++ length a ∷ forest_lengths more
lengths_at s r more v y a e is =
    ap forest_lengths (e ∙ append_assoc s ((v, y) ∷ []) more ∙ ap (λ (z : Value). s ++ ((v, z) ∷ more)) is) ∙ filter_map-append forest_length s ((v, value.Forest a) ∷ more)

-- of two extensions the one with the shorter forest comes first
forest_order : (s r q : Substitution) (v : Var) (vs us : List Var) (a b : List Tree) → Extends (v ∷ vs) s r → Extends (v ∷ us) s q
    → value_of r v ≡ Some (value.Forest a) → value_of q v ≡ Some (value.Forest b) → length a < length b → LengthsBefore r q
forest_order s r q v vs us a b x y ra qb h = split (value_of s v) refl
  where
    split : (o : Option Value) → value_of s v ≡ o → LengthsBefore r q
    split (Some z) e =
        let f = known_value s r v vs z e x in
        let g = known_value s q v us z e y in
        let same : a ≡ b = cc in
        let n : length a ≡ length b = ap length same in
        absurd (omega arith)
    split None e =
        let f = new_to s r v vs e x in
        let g = new_to s q v us e y in
        let fa : f.0 ≡ value.Forest a = let k = f.1 in cc in
        let gb : g.0 ≡ value.Forest b = let k = g.1 in cc in
        rw (lengths_at s r f.2.more v f.0 a f.2.are fa, lengths_at s q g.2.more v g.0 b g.2.are gb) (before_at (forest_lengths s) (length a) (length b) (forest_lengths f.2.more) (forest_lengths g.2.more) h)

-- a solution in which the variable's forest is shorter than n
pub record ShortSolves (tasks : Tasks) (s : Substitution) (v : Var) (n : ℕ) (r : Substitution) : Type 0 where
  pub solves : Solves tasks s r
  pub front : List Tree
  pub is : value_of r v ≡ Some (value.Forest front)
  pub short : length front < n

-- the solutions with a forest shorter than n were appended
pub record Splits (tasks : Tasks) (s : Substitution) (v : Var) (n : ℕ) (old new : List Substitution) : Type 0 where
  pub found : List Substitution
  pub are : new ≡ old ++ found
  pub lists : Lists (ShortSolves tasks s v n) found

pub same_front : (a b x y : List Tree) → length a ≡ length b → a ++ x ≡ b ++ y → a ≡ b
same_front [] [] x y n e = refl
same_front [] (u ∷ b) x y n e = absurd (omega arith)
same_front (t ∷ a) [] x y n e = absurd (omega arith)
same_front (t ∷ a) (u ∷ b) x y n e =
    let l : length a ≡ length b = omega arith in
    let f : a ++ x ≡ b ++ y = cc in
    let g : a ≡ b = same_front a b x y l f in
    cc

module _ (W : Tasks) (s : Substitution) (v : Var) (rest : Patterns) (c : IsForestVar v) (ts : List Tree) where
  -- the trees are the variable's forest and the instance of the rest
  parts : (r : Substitution) (a : List Tree) → Solves ((forest_var_first v rest, ts) ∷ W) s r → value_of r v ≡ Some (value.Forest a) → a ++ inst r rest ≡ ts
  parts r a z is = ap (λ o. trees_in o ++ inst r rest) (sym is) ∙ z.fits.0

  pub takes : (r : Substitution) (front : List Tree) → Solves ((forest_var_first v rest, ts) ∷ W) s r → value_of r v ≡ Some (value.Forest front) → TakesFront s v rest ts r front
  takes r front z is = record { vs = task_variables W; extends = z.extends; is = is; fits = parts r front z is }

  -- no solution has a forest shorter than n
  pub splits_start : (n : ℕ) → ((r : Substitution) (front : List Tree) → TakesFront s v rest ts r front → n ≤ length front) → (old : List Substitution)
      → Splits ((forest_var_first v rest, ts) ∷ W) s v n old old
  splits_start n h old = record {
    found = [];
    are = sym (append-nil old);
    lists = lists_none (λ r z. let l = z.short in let m = h r z.front (takes r z.front z.solves z.is) in absurd (omega arith));
  }

  -- each solution has a forest shorter than n
  pub splits_end : (n : ℕ) (old new : List Substitution) → ((r : Substitution) (front : List Tree) → TakesFront s v rest ts r front → length front < n)
      → Splits ((forest_var_first v rest, ts) ∷ W) s v n old new → Appends ((forest_var_first v rest, ts) ∷ W) s old new
  splits_end n old new h a = record {
    found = a.found;
    are = a.are;
    lists = lists_same (λ r z. z.solves)
        (λ r z. let k = forest_value c z.extends in record { solves = z; front = k.0; is = k.1; short = h r k.0 (takes r k.0 z k.1) })
        a.lists;
  }

  -- no list at the head of the trees can be the variable's
  pub splits_no : (old : List Substitution) → ((r : Substitution) (front : List Tree) → TakesFront s v rest ts r front → ⊥) → Appends ((forest_var_first v rest, ts) ∷ W) s old old
  splits_no old h = appends_none ((forest_var_first v rest, ts) ∷ W) s old (λ r z. let k = forest_value c z.extends in h r k.0 (takes r k.0 z k.1))

  pub takes_within : (r : Substitution) (front : List Tree) → TakesFront s v rest ts r front → length front ≤ length ts
  takes_within r front t = let e = ap length t.fits in omega (arith, e, length-append front (inst r rest))

  module _ (front behind : List Tree) (e : front ++ behind ≡ ts) (n : ℕ) (long : length front ≡ n) (old mid new : List Substitution) where
    -- solutions with this forest are those with the variable bound to it
    here_from : (t r : Substitution) → Binds s v (value.Forest front) t → Solves ((rest, behind) ∷ W) t r → Solves ((forest_var_first v rest, ts) ∷ W) s r × (value_of r v ≡ Some (value.Forest front))
    here_from t r b z =
        let f = bind_from b z.extends in
        (record { extends = f.0; fits = (ap (λ o. trees_in o ++ inst r rest) f.1 ∙ ap (λ us. front ++ us) z.fits.0 ∙ e, z.fits.1) }, f.1)

    here_to : (t r : Substitution) → Binds s v (value.Forest front) t → Solves ((forest_var_first v rest, ts) ∷ W) s r → value_of r v ≡ Some (value.Forest front) → Solves ((rest, behind) ∷ W) t r
    here_to t r b z is =
        record { extends = bind_to b z.extends is; fits = (append_cancel_left front (inst r rest) behind (parts r front z is ∙ sym e), z.fits.1) }

    -- a forest as long as this one is this one
    only : (r : Substitution) (z : ShortSolves ((forest_var_first v rest, ts) ∷ W) s v (n + 1) r) → (length z.front < n) ⊎ (z.front ≡ front)
    only r z =
        let h = z.short in
        let le : length z.front ≤ n = omega arith in
        elim (eq-or-lt_of_le le) [
          | inl g ↦ inr (same_front z.front front (inst r rest) behind (g ∙ sym long) (parts r z.front z.solves z.is ∙ sym e))
          | inr l ↦ inl l
        ]

    pub splits_more : (t : Substitution) → Binds s v (value.Forest front) t → Splits ((forest_var_first v rest, ts) ∷ W) s v n old mid → Appends ((rest, behind) ∷ W) t mid new
        → Splits ((forest_var_first v rest, ts) ∷ W) s v (n + 1) old new
    splits_more t b a m = record {
      found = a.found ++ m.found;
      are = m.are ∙ ap (λ (us : List Substitution). us ++ m.found) a.are ∙ append_assoc old a.found m.found;
      lists = lists_both a.lists m.lists
          (λ r z. let h = z.short in record { solves = z.solves; front = z.front; is = z.is; short = omega arith })
          (λ r z. let f = here_from t r b z in record { solves = f.0; front = front; is = f.1; short = omega arith })
          (λ r z.
          elim (only r z) [
            | inl l ↦ inl (record { solves = z.solves; front = z.front; is = z.is; short = l })
            | inr same ↦ inr (here_to t r b z.solves (z.is ∙ ap (λ us. Some (value.Forest us)) same))
          ])
          (λ r q z y.
          let f = here_from t q b y in
          let h = z.short in
          forest_order s r q v _ _ z.front front z.solves.extends f.0.extends z.is f.1 (omega arith));
    }

    pub splits_none : HasOther s v (value.Forest front) → Splits ((forest_var_first v rest, ts) ∷ W) s v n old mid → Splits ((forest_var_first v rest, ts) ∷ W) s v (n + 1) old mid
    splits_none b a = record {
      found = a.found;
      are = a.are;
      lists = lists_same
          (λ r z. let h = z.short in record { solves = z.solves; front = z.front; is = z.is; short = omega arith })
          (λ r z.
          elim (only r z) [
            | inl l ↦ record { solves = z.solves; front = z.front; is = z.is; short = l }
            | inr same ↦ absurd (clash_never b z.solves.extends (z.is ∙ ap (λ us. Some (value.Forest us)) same))
          ])
          a.lists;
    }

-- the loop over the fronts: those that are shorter than this one are done
pub record SplitsAt (W : Tasks) (s : Substitution) (v : Var) (rest : Patterns) (ts front behind : List Tree) (old new : List Substitution) : Type 0 where
  pub joins : front ++ behind ≡ ts
  pub done : Splits ((forest_var_first v rest, ts) ∷ W) s v (length front) old new

-- and this one too
pub record TriedAt (W : Tasks) (s : Substitution) (v : Var) (rest : Patterns) (ts front behind : List Tree) (old new : List Substitution) : Type 0 where
  pub joins : front ++ behind ≡ ts
  pub done : Splits ((forest_var_first v rest, ts) ∷ W) s v (length front + 1) old new
