-- The first table that is too long.
use Rattle.std.proofs.Common.{◌≡◌, ℕ, ◌<◌, arith, Bool, true, false, List, [], ◌∷◌, ◌++◌, length, map, Option, None, Some, refl, sym, ap, ◌∙◌, inl, inr}
use Rattle.std.specs.Prelude.{codes, nat_lt, if◌then◌else◌}
use Rattle.std.specs.List.{list_any, AllByRecursion}
use Rattle.std.proofs.lemmas.Bool.{cases_Bool, ltb-false}
use Rattle.jl_prim.specs.declared.declaration.Grant.{Grant}
use Rattle.jl_prim.specs.declared.declaration.Provides.{Provides}
use Rattle.jl_prim.specs.declared.declaration.Declaration.{Declaration}
use Rattle.jl_modinfo.specs.Writing.{Counted, target_counts, class_counts, tables}
use Rattle.jl_tables.specs.Layout.{targets}
use Rattle.jl_modinfo.specs.Layout.{first_long, has_long_targets, has_long_classes, or_else, named_if, long_of_grants, long_behind_grants, long_in_file, AreFew}
use Rattle.jl_modinfo.proofs.AllLaws.{all_front, all_back, all_of}

-- one table before others
one_long : (name : List ℕ) (n : ℕ) (rest : List Counted) → or_else (named_if name (nat_lt 65535 n)) (first_long rest) ≡ first_long ((name, n) ∷ rest)
one_long name n rest = by (nat_lt 65535 n)
  where
    by : (b : Bool) → or_else (named_if name b) (first_long rest) ≡ (if b then Some name else first_long rest)
    by true = refl
    by false = refl

-- a table beside others of one name
each_long : {X : Type 0} (name : List ℕ) (count : X → ℕ) (xs : List X) (rest : List Counted)
    → or_else (named_if name (list_any (λ x. nat_lt 65535 (count x)) xs)) (first_long rest) ≡ first_long (map (λ x. (name, count x)) xs ++ rest)
each_long name count [] rest = refl
each_long name count (x ∷ xs) rest = elim (cases_Bool (nat_lt 65535 (count x))) [
  | inl l ↦ rw l refl
  | inr s ↦ rw s (each_long name count xs rest)
]

or_else_assoc : (a b c : Option (List ℕ)) → or_else (or_else a b) c ≡ or_else a (or_else b c)
or_else_assoc None b c = refl
or_else_assoc (Some x) b c = refl

or_none : (a : Option (List ℕ)) → or_else a None ≡ a
or_none None = refl
or_none (Some x) = refl

grants_long : (name : List ℕ) (grants : List Grant) (rest : List Counted) → or_else (long_of_grants name grants) (first_long rest) ≡ first_long ((name, length grants) ∷ (target_counts grants ++ rest))
grants_long name grants rest =
    or_else_assoc (named_if name (nat_lt 65535 (length grants))) (named_if (codes "targets") (list_any has_long_targets grants)) (first_long rest)
    ∙ (ap (or_else (named_if name (nat_lt 65535 (length grants)))) (each_long (codes "targets") (λ (g : Grant). length (targets g)) grants rest) ∙ one_long name (length grants) (target_counts grants ++ rest))

last_long : (name : List ℕ) (n : ℕ) → named_if name (nat_lt 65535 n) ≡ first_long ((name, n) ∷ [])
last_long name n = sym (or_none (named_if name (nat_lt 65535 n))) ∙ one_long name n []

behind_long : (d : Declaration) → long_behind_grants d ≡ first_long ((codes "uses", length d.uses) ∷ (codes "provides", length d.provides) ∷ (class_counts d.provides ++ ((codes "packages", length d.packages) ∷ [])))
behind_long d =
    let uses = named_if (codes "uses") (nat_lt 65535 (length d.uses)) in
    let provides = named_if (codes "provides") (nat_lt 65535 (length d.provides)) in
    let classes = named_if (codes "implementations") (list_any has_long_classes d.provides) in
    let packages = (codes "packages", length d.packages) ∷ [] in
    ap (λ (o : Option (List ℕ)). or_else uses (or_else provides (or_else classes o))) (last_long (codes "packages") (length d.packages))
    ∙ (ap (λ (o : Option (List ℕ)). or_else uses (or_else provides o)) (each_long (codes "implementations") (λ (p : Provides). length p.implementations) d.provides packages)
    ∙ (ap (or_else uses) (one_long (codes "provides") (length d.provides) (class_counts d.provides ++ packages))
    ∙ one_long (codes "uses") (length d.uses) ((codes "provides", length d.provides) ∷ (class_counts d.provides ++ packages))))

pub file_long : (d : Declaration) → long_in_file d ≡ first_long (tables d)
file_long d =
    let required = named_if (codes "requires") (nat_lt 65535 (length d.required)) in
    let exports = long_of_grants (codes "exports") d.exports in
    let opens = long_of_grants (codes "opens") d.opens in
    let last = (codes "uses", length d.uses) ∷ (codes "provides", length d.provides) ∷ (class_counts d.provides ++ ((codes "packages", length d.packages) ∷ [])) in
    let open_tables = (codes "opens", length d.opens) ∷ (target_counts d.opens ++ last) in
    ap (λ (o : Option (List ℕ)). or_else required (or_else exports (or_else opens o))) (behind_long d)
    ∙ (ap (λ (o : Option (List ℕ)). or_else required (or_else exports o)) (grants_long (codes "opens") d.opens last)
    ∙ (ap (or_else required) (grants_long (codes "exports") d.exports open_tables)
    ∙ one_long (codes "requires") (length d.required) ((codes "exports", length d.exports) ∷ (target_counts d.exports ++ open_tables))))

-- ---- no table is too long

abbrev IsFew : Counted → Type 0
IsFew t = t.1 < 65536

all_few : (ts : List Counted) → first_long ts ≡ None → AllByRecursion IsFew ts
all_few [] e = tt
all_few (t ∷ ts) e = elim (cases_Bool (nat_lt 65535 t.1)) [
  | inl l ↦ absurd (cc (l, e))
  | inr s ↦ (let f = ltb-false 65535 t.1 s in omega (arith, f), all_few ts (rw s at e))
]

pub are_few : (d : Declaration) → first_long (tables d) ≡ None → AreFew d
are_few d e =
    let packages = (codes "packages", length d.packages) ∷ [] in
    let provides = class_counts d.provides ++ packages in
    let last = (codes "uses", length d.uses) ∷ (codes "provides", length d.provides) ∷ provides in
    let opens = (codes "opens", length d.opens) ∷ (target_counts d.opens ++ last) in
    let all = all_few (tables d) e in
    let from_opens = all_back IsFew (target_counts d.exports) opens all.1.1 in
    let from_uses = all_back IsFew (target_counts d.opens) last from_opens.1 in
    record {
      required = all.0;
      exports = all.1.0;
      exported = all_of IsFew (λ (g : Grant). (codes "targets", length (targets g))) d.exports (all_front IsFew (target_counts d.exports) opens all.1.1);
      opens = from_opens.0;
      opened = all_of IsFew (λ (g : Grant). (codes "targets", length (targets g))) d.opens (all_front IsFew (target_counts d.opens) last from_opens.1);
      uses = from_uses.0;
      provides = from_uses.1.0;
      provided = all_of IsFew (λ (p : Provides). (codes "implementations", length p.implementations)) d.provides (all_front IsFew (class_counts d.provides) packages from_uses.1.1);
      packages = (all_back IsFew (class_counts d.provides) packages from_uses.1.1).0;
    }
