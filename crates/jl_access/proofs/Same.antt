-- The derived tests of facts.
use Rattle.std.proofs.Common.{◌≡◌, List, [], ◌∷◌, ◌++◌, Bool, true, false, cond, ◌&&◌, ◌||◌, ◌==◌, refl, sym, ◌∙◌, ap, ap₂}
use Rattle.std.specs.List.{list_any}
use Rattle.jl_access.specs.declared.statement.Reach.{Reach}
use Rattle.jl_access.specs.declared.statement.Reach.TheVariants.{All, To, Nobody}
use Rattle.jl_access.specs.declared.table.About.{About}
use Rattle.jl_access.specs.declared.table.About.TheVariants.{Exports, Opens, Uses}
use Rattle.jl_access.specs.declared.table.Fact.{Fact}
use Rattle.jl_access.specs.declared.table.Fact.TheVariants.{Reads, Of}
use Rattle.jl_access.specs.Kept.{is_same_reach, is_same_about, same_fact, to_all, IsTable}
use Rattle.jl_access.specs.contracts.statement.ReachPartialEq.TheImpl as reach
use Rattle.jl_access.specs.contracts.table.AboutPartialEq.TheImpl as about
use Rattle.jl_access.specs.contracts.table.FactPartialEq.TheImpl.{eq-value}
use Rattle.std.proofs.lemmas.List.Folds.{list_any-append}
use Rattle.jl_access.proofs.Lists.{eqb_turned, any_alike}

abbrev pub derived : Fact → Fact → Bool
derived = eq-value.it

turned_reach : (a b : Reach) → is_same_reach a b ≡ is_same_reach b a
turned_reach All All = refl
turned_reach All (To m) = refl
turned_reach All Nobody = refl
turned_reach (To m) All = refl
turned_reach (To m) (To n) = eqb_turned m.0 n.0
turned_reach (To m) Nobody = refl
turned_reach Nobody All = refl
turned_reach Nobody (To m) = refl
turned_reach Nobody Nobody = refl

turned_about : (a b : About) → is_same_about a b ≡ is_same_about b a
turned_about (Exports a r) (Exports b s) = ap₂ (λ x y. x && y) (eqb_turned a.0 b.0) (turned_reach r s)
turned_about (Exports a r) (Opens b s) = refl
turned_about (Exports a r) (Uses b) = refl
turned_about (Opens a r) (Exports b s) = refl
turned_about (Opens a r) (Opens b s) = ap₂ (λ x y. x && y) (eqb_turned a.0 b.0) (turned_reach r s)
turned_about (Opens a r) (Uses b) = refl
turned_about (Uses a) (Exports b s) = refl
turned_about (Uses a) (Opens b s) = refl
turned_about (Uses a) (Uses b) = eqb_turned a.0 b.0

pub turned : (a b : Fact) → same_fact a b ≡ same_fact b a
turned (Reads a b) (Reads c d) = ap₂ (λ x y. x && y) (eqb_turned a.0 c.0) (eqb_turned b.0 d.0)
turned (Reads a b) (Of x n) = refl
turned (Of x n) (Reads a b) = refl
turned (Of x n) (Of y m) = ap₂ (λ v w. v && w) (turned_about x y) (eqb_turned m n)

derived_reach : (a b : Reach) → reach.eq-value.it a b ≡ is_same_reach a b
derived_reach All All = refl
derived_reach All (To m) = refl
derived_reach All Nobody = refl
derived_reach (To m) All = refl
derived_reach (To m) (To n) = refl
derived_reach (To m) Nobody = refl
derived_reach Nobody All = refl
derived_reach Nobody (To m) = refl
derived_reach Nobody Nobody = refl

derived_about : (a b : About) → about.eq-value.it a b ≡ is_same_about a b
derived_about (Exports a r) (Exports b s) = ap (λ x. (a.0 == b.0) && x) (derived_reach r s)
derived_about (Exports a r) (Opens b s) = refl
derived_about (Exports a r) (Uses b) = refl
derived_about (Opens a r) (Exports b s) = refl
derived_about (Opens a r) (Opens b s) = ap (λ x. (a.0 == b.0) && x) (derived_reach r s)
derived_about (Opens a r) (Uses b) = refl
derived_about (Uses a) (Exports b s) = refl
derived_about (Uses a) (Opens b s) = refl
derived_about (Uses a) (Uses b) = refl

pub derived_is : (a b : Fact) → derived a b ≡ same_fact a b
derived_is (Reads a b) (Reads c d) = refl
derived_is (Reads a b) (Of x n) = refl
derived_is (Of x n) (Reads a b) = refl
derived_is (Of x n) (Of y m) = ap₂ (λ v w. v && w) (derived_about x y) (eqb_turned n m)

-- ---- the tables

cond_or : (b c : Bool) → cond b true c ≡ (b || c)
cond_or true c = refl
cond_or false c = refl

-- after a fact was taken into a set
pub inserted : (old new : List Fact) (f : Fact) → ((q : Fact) → list_any (derived q) new ≡ cond (derived f q) true (list_any (derived q) old)) → (k : Fact) → list_any (same_fact k) new ≡ (same_fact k f || list_any (same_fact k) old)
inserted old new f h k =
    any_alike (same_fact k) (derived k) new (λ x. sym (derived_is k x))
    ∙ h k
    ∙ ap₂ (λ b c. cond b true c) (derived_is f k ∙ turned f k) (any_alike (derived k) (same_fact k) old (derived_is k))
    ∙ cond_or (same_fact k f) (list_any (same_fact k) old)

-- what is looked up
pub looked_up : (facts exact anywhere : List Fact) (k : Fact) → IsTable facts exact anywhere → list_any (derived k) exact ≡ list_any (same_fact k) facts
looked_up facts exact anywhere k t = any_alike (derived k) (same_fact k) exact (derived_is k) ∙ t.exact_ones k

pub looked_anywhere : (facts exact anywhere : List Fact) (k : Fact) → IsTable facts exact anywhere → list_any (derived k) anywhere ≡ list_any (λ f. same_fact k (to_all f)) facts
looked_anywhere facts exact anywhere k t = any_alike (derived k) (same_fact k) anywhere (derived_is k) ∙ t.any_ones k

swapped : (a b : Bool) → (a || (b || false)) ≡ (b || a)
swapped true true = refl
swapped true false = refl
swapped false true = refl
swapped false false = refl

one_later : (p : Fact → Bool) (facts : List Fact) (f : Fact) → list_any p (facts ++ f ∷ []) ≡ (p f || list_any p facts)
one_later p facts f = list_any-append p facts (f ∷ []) ∙ swapped (list_any p facts) (p f)

-- one more fact
pub table_with : (facts exact anywhere more exact_more anywhere_more : List Fact) (f g : Fact) → IsTable facts exact anywhere → more ≡ facts ++ f ∷ []
    → g ≡ to_all f
    → ((k : Fact) → list_any (same_fact k) exact_more ≡ (same_fact k f || list_any (same_fact k) exact))
    → ((k : Fact) → list_any (same_fact k) anywhere_more ≡ (same_fact k g || list_any (same_fact k) anywhere))
    → IsTable more exact_more anywhere_more
table_with facts exact anywhere more exact_more anywhere_more f g t grown is e a = record {
  exact_ones = λ k. e k ∙ ap (λ b. same_fact k f || b) (t.exact_ones k) ∙ sym (ap (list_any (same_fact k)) grown ∙ one_later (same_fact k) facts f);
  any_ones = λ k. a k ∙ ap₂ (λ h b. same_fact k h || b) is (t.any_ones k) ∙ sym (ap (list_any (λ h. same_fact k (to_all h))) grown ∙ one_later (λ h. same_fact k (to_all h)) facts f);
}
