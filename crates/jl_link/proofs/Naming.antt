-- The class entry that a member entry names.
use Rattle.std.proofs.Common.{◌≡◌, ◌∙◌, sym, ap, subst, refl, List, [], ◌∷◌, Option, None, Some, Bool, true, false, ◌&&◌, arith}
use Rattle.std.specs.Prelude.{ℕ, zero, suc, slice_get, IsTrue}
use Rattle.std.specs.List.{AllByRecursion}
use Rattle.std.proofs.lemmas.Option.{none-some, same_Some}
use Rattle.jl_pool.specs.declared.entry.Entry.{Entry}
use Rattle.jl_pool.specs.declared.entry.Entry.TheVariants as entries
use Rattle.jl_pool.specs.Pool.{member_of, member_parts, is_class, refers_rightly}
use Rattle.jl_pool.specs.Spelling.{StandsPool}

all_get : {X : Type 0} (P : X → Type 0) (xs : List X) (i : ℕ) (x : X) → AllByRecursion P xs → slice_get xs i ≡ Some x → P x
all_get P [] i x all e = absurd (none-some x e)
all_get P (y ∷ ys) zero x all e = subst P (same_Some y x e) all.0
all_get P (y ∷ ys) (suc i) x all e = all_get P ys i x all.1 e

-- each entry of a pool refers rightly
refers : (bytes : List ℕ) (at : ℕ) (pool : List Entry) (next : ℕ) → StandsPool bytes at pool next → (i : ℕ) (e : Entry) → slice_get pool i ≡ Some e → IsTrue (refers_rightly pool e)
refers bytes at pool next s i e h = subst (λ (p : List Entry). IsTrue (refers_rightly p e)) (sym s.first_unused) (by i (subst (λ (p : List Entry). slice_get p i ≡ Some e) s.first_unused h)) where
  by : (i : ℕ) → slice_get (entries.Unused ∷ s.es) i ≡ Some e → IsTrue (refers_rightly (entries.Unused ∷ s.es) e)
  by zero h = subst (λ (x : Entry). IsTrue (refers_rightly (entries.Unused ∷ s.es) x)) (same_Some entries.Unused e h) refl
  by (suc i) h = all_get (λ (x : Entry). IsTrue (refers_rightly (entries.Unused ∷ s.es) x)) s.es i e s.right.refer h

left_true : (a b : Bool) → (a && b) ≡ true → a ≡ true
left_true true b h = refl
left_true false b h = h

-- what a member names as its class
named : (pool : List Entry) (x : Entry) (parts : ℕ × ℕ × ℕ) → refers_rightly pool x ≡ true → member_parts (Some x) ≡ Some parts → is_class (slice_get pool parts.1) ≡ true
named pool (entries.Field i j) parts r e = subst (λ (p : ℕ × ℕ × ℕ). is_class (slice_get pool p.1) ≡ true) (same_Some _ parts e) (left_true _ _ r)
named pool (entries.Method i j) parts r e = subst (λ (p : ℕ × ℕ × ℕ). is_class (slice_get pool p.1) ≡ true) (same_Some _ parts e) (left_true _ _ r)
named pool (entries.InterfaceMethod i j) parts r e = subst (λ (p : ℕ × ℕ × ℕ). is_class (slice_get pool p.1) ≡ true) (same_Some _ parts e) (left_true _ _ r)
named pool x parts r e = absurd (none-some parts e)

no_member : (o : Option Entry) → is_class o ≡ true → member_parts o ≡ None
no_member None h = refl
no_member (Some (entries.Class i)) h = refl
no_member (Some x) h = absurd (grind arith)

pub class_of_member : (bytes : List ℕ) (at : ℕ) (pool : List Entry) (next i : ℕ) (parts : ℕ × ℕ × ℕ) → StandsPool bytes at pool next → member_of pool i ≡ Some parts → member_of pool parts.1 ≡ None
class_of_member bytes at pool next i parts s e = by (slice_get pool i) refl where
  by : (o : Option Entry) → slice_get pool i ≡ o → member_of pool parts.1 ≡ None
  by None h = absurd (none-some parts (sym (ap member_parts h) ∙ e))
  by (Some x) h = no_member (slice_get pool parts.1) (named pool x parts (refers bytes at pool next s i x h) (sym (ap member_parts h) ∙ e))
