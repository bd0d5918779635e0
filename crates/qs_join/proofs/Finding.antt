-- Lists of found firings, put together.
use Rattle.std.proofs.Common.{◌≡◌, ◌⊎◌, inl, ⊎_elim, List, [], ◌∷◌, ◌++◌, sym, ap, ◌∙◌, subst, append_assoc, append-nil}
use Rattle.qs_tree.proofs.Members.{in_append_left, in_append_right, from_append}
use Rattle.qs_firing.specs.Firings.{Firing}
use Rattle.qs_join.specs.working.Searching.{Finds}

module _ {P : Firing → Type 0} where
  -- nothing is to be found
  pub finds_none : ((f : Firing) → P f → ⊥) → (fs : List Firing) → Finds P fs fs
  finds_none never fs = record {
    found = [];
    are = sym (append-nil fs);
    sound = λ f i. absurd i;
    all = λ f p. absurd (never f p);
  }

  -- one firing is to be found
  pub finds_one : (g : Firing) → P g → ((f : Firing) → P f → f ≡ g) → (fs gs : List Firing) → gs ≡ fs ++ g ∷ [] → Finds P fs gs
  finds_one g holds only fs gs e = record {
    found = g ∷ [];
    are = e;
    sound = λ f i. ⊎_elim (λ d. subst P (sym d) holds) (λ j. absurd j) i;
    all = λ f p. inl (only f p);
  }

module _ {P A : Firing → Type 0} {old new : List Firing} where
  pub finds_same : ((f : Firing) → P f → A f) → ((f : Firing) → A f → P f) → Finds P old new → Finds A old new
  finds_same to from x = record {
    found = x.found;
    are = x.are;
    sound = λ f i. to f (x.sound f i);
    all = λ f a. x.all f (from f a);
  }

module _ {P Q A : Firing → Type 0} {old middle new : List Firing} where
  -- all of which P holds were found, and then all of which Q holds
  pub finds_both : ((f : Firing) → P f → A f) → ((f : Firing) → Q f → A f) → ((f : Firing) → A f → P f ⊎ Q f) → Finds P old middle → Finds Q middle new → Finds A old new
  finds_both pa qa split x y = record {
    found = x.found ++ y.found;
    are = y.are ∙ ap (λ fs. fs ++ y.found) x.are ∙ append_assoc old x.found y.found;
    sound = λ f i. ⊎_elim (λ j. pa f (x.sound f j)) (λ j. qa f (y.sound f j)) (from_append x.found y.found f i);
    all = λ f a. ⊎_elim (λ p. in_append_left x.found y.found f (x.all f p)) (λ q. in_append_right x.found y.found f (y.all f q)) (split f a);
  }
