-- What is asked of statements, by what is looked up.
use Rattle.std.proofs.Common.{◌≡◌, ℕ, List, Bool, true, false, ◌&&◌, ◌||◌, refl, ◌∙◌, ap, ap₂}
use Rattle.std.specs.List.{list_any}
use Rattle.jl_logic.specs.Order.{is_text}
use Rattle.jl_prim.specs.declared.numbers.ModuleId.{ModuleId}
use Rattle.jl_access.specs.declared.statement.Reach.{Reach}
use Rattle.jl_access.specs.declared.statement.Reach.TheVariants.{All, To, Nobody}
use Rattle.jl_access.specs.declared.statement.Statement.{Statement}
use Rattle.jl_access.specs.declared.statement.Statement.TheVariants as statements
use Rattle.jl_access.specs.declared.table.About.TheVariants.{Exports, Opens, Uses}
use Rattle.jl_access.specs.Facts.{is_same, reaches, reach_to, reaches_all, anywhere, says_exports, says_opens, says_uses}
use Rattle.jl_access.specs.Kept.{is_same_reach}
use Rattle.jl_access.specs.Whole.{says, says_anywhere}
use Rattle.jl_access.proofs.Lists.{eqb_turned, any_alike, any_either}

-- ---- booleans: the module, the name and the reach

two_reaches : (m t r a b : Bool) → r ≡ (a || b) → (m && (t && r)) ≡ (((m && a) && t) || ((m && b) && t))
two_reaches false t r a b e = refl
two_reaches true false r true true e = refl
two_reaches true false r true false e = refl
two_reaches true false r false true e = refl
two_reaches true false r false false e = refl
two_reaches true true r true b e = e
two_reaches true true r false true e = e
two_reaches true true r false false e = e

all_or_to : (c : ModuleId) (r : Reach) → reaches r c ≡ (is_same_reach All r || is_same_reach (To c) r)
all_or_to c All = refl
all_or_to c (To d) = eqb_turned d.0 c.0
all_or_to c Nobody = refl

all_alone : (r : Reach) → reaches_all r ≡ is_same_reach All r
all_alone All = refl
all_alone (To d) = refl
all_alone Nobody = refl

in_turn : (m t r : Bool) → (m && (t && r)) ≡ ((m && r) && t)
in_turn true true true = refl
in_turn true true false = refl
in_turn true false true = refl
in_turn true false false = refl
in_turn false t r = refl

module _ (m : ModuleId) (p : List ℕ) (ss : List Statement) where
  pub opens_to_asked : (c : ModuleId) → list_any (says_opens (reach_to c) m p) ss ≡ (list_any (says (Opens m All) p) ss || list_any (says (Opens m (To c)) p) ss)
  opens_to_asked c = any_alike (says_opens (reach_to c) m p) (λ s. says (Opens m All) p s || says (Opens m (To c)) p s) ss one ∙ any_either (says (Opens m All) p) (says (Opens m (To c)) p) ss
    where
      one : (s : Statement) → says_opens (reach_to c) m p s ≡ (says (Opens m All) p s || says (Opens m (To c)) p s)
      one (statements.Reads a b) = refl
      one (statements.Exports x q r) = refl
      one (statements.Opens x q r) = ap (λ b. b && (is_text q p && reaches r c)) (eqb_turned x.0 m.0) ∙ two_reaches (is_same m x) (is_text q p) (reaches r c) (is_same_reach All r) (is_same_reach (To c) r) (all_or_to c r)
      one (statements.Uses x t) = refl

  pub exports_to_asked : (c : ModuleId) → list_any (says_exports (reach_to c) m p) ss ≡ (list_any (says (Exports m All) p) ss || list_any (says (Exports m (To c)) p) ss)
  exports_to_asked c = any_alike (says_exports (reach_to c) m p) (λ s. says (Exports m All) p s || says (Exports m (To c)) p s) ss one ∙ any_either (says (Exports m All) p) (says (Exports m (To c)) p) ss
    where
      one : (s : Statement) → says_exports (reach_to c) m p s ≡ (says (Exports m All) p s || says (Exports m (To c)) p s)
      one (statements.Reads a b) = refl
      one (statements.Opens x q r) = refl
      one (statements.Exports x q r) = ap (λ b. b && (is_text q p && reaches r c)) (eqb_turned x.0 m.0) ∙ two_reaches (is_same m x) (is_text q p) (reaches r c) (is_same_reach All r) (is_same_reach (To c) r) (all_or_to c r)
      one (statements.Uses x t) = refl

  pub opens_all_asked : list_any (says_opens reaches_all m p) ss ≡ list_any (says (Opens m All) p) ss
  opens_all_asked = any_alike (says_opens reaches_all m p) (says (Opens m All) p) ss one
    where
      one : (s : Statement) → says_opens reaches_all m p s ≡ says (Opens m All) p s
      one (statements.Reads a b) = refl
      one (statements.Exports x q r) = refl
      one (statements.Opens x q r) = ap₂ (λ b e. b && (is_text q p && e)) (eqb_turned x.0 m.0) (all_alone r) ∙ in_turn (is_same m x) (is_text q p) (is_same_reach All r)
      one (statements.Uses x t) = refl

  pub exports_all_asked : list_any (says_exports reaches_all m p) ss ≡ list_any (says (Exports m All) p) ss
  exports_all_asked = any_alike (says_exports reaches_all m p) (says (Exports m All) p) ss one
    where
      one : (s : Statement) → says_exports reaches_all m p s ≡ says (Exports m All) p s
      one (statements.Reads a b) = refl
      one (statements.Opens x q r) = refl
      one (statements.Exports x q r) = ap₂ (λ b e. b && (is_text q p && e)) (eqb_turned x.0 m.0) (all_alone r) ∙ in_turn (is_same m x) (is_text q p) (is_same_reach All r)
      one (statements.Uses x t) = refl

  pub opens_asked : list_any (says_opens anywhere m p) ss ≡ list_any (says_anywhere (Opens m All) p) ss
  opens_asked = any_alike (says_opens anywhere m p) (says_anywhere (Opens m All) p) ss one
    where
      one : (s : Statement) → says_opens anywhere m p s ≡ says_anywhere (Opens m All) p s
      one (statements.Reads a b) = refl
      one (statements.Exports x q r) = refl
      one (statements.Opens x q r) = ap (λ b. b && (is_text q p && true)) (eqb_turned x.0 m.0) ∙ in_turn (is_same m x) (is_text q p) true
      one (statements.Uses x t) = refl

  pub exports_asked : list_any (says_exports anywhere m p) ss ≡ list_any (says_anywhere (Exports m All) p) ss
  exports_asked = any_alike (says_exports anywhere m p) (says_anywhere (Exports m All) p) ss one
    where
      one : (s : Statement) → says_exports anywhere m p s ≡ says_anywhere (Exports m All) p s
      one (statements.Reads a b) = refl
      one (statements.Opens x q r) = refl
      one (statements.Exports x q r) = ap (λ b. b && (is_text q p && true)) (eqb_turned x.0 m.0) ∙ in_turn (is_same m x) (is_text q p) true
      one (statements.Uses x t) = refl

  pub uses_asked : list_any (says_uses m p) ss ≡ list_any (says (Uses m) p) ss
  uses_asked = any_alike (says_uses m p) (says (Uses m) p) ss one
    where
      one : (s : Statement) → says_uses m p s ≡ says (Uses m) p s
      one (statements.Reads a b) = refl
      one (statements.Exports x q r) = refl
      one (statements.Opens x q r) = refl
      one (statements.Uses x t) = ap (λ b. b && is_text t p) (eqb_turned x.0 m.0)
