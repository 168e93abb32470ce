-- How long the contents of attributes are.
use Rattle.std.proofs.Common.{◌≡◌, ℕ, ◌+◌, ◌*◌, ◌<◌, ◌≤◌, List, [], ◌∷◌, ◌++◌, length, ap, arith}
use Rattle.std.specs.List.{flat_map, sum_by}
use Rattle.std.proofs.lemmas.List.{length-append}
use Rattle.std.proofs.lemmas.List.Concat.{flat_map-cons}
use Rattle.std.proofs.lemmas.List.Sums.{sum_by-cons}
use Rattle.jl_prim.specs.declared.declaration.Grant.{Grant}
use Rattle.jl_prim.specs.declared.declaration.Provides.{Provides}
use Rattle.jl_prim.specs.declared.declaration.Declaration.{Declaration}
use Rattle.jl_pool.specs.declared.constant.Constant.{Constant}
use Rattle.jl_tables.specs.Layout.{targets}
use Rattle.jl_modinfo.specs.Writing.{members}
use Rattle.jl_tables.specs.Layout.{counted_by, module_bytes, class_bytes, package_bytes, requires_written, grant_written, provides_written}
use Rattle.jl_modinfo.specs.Layout.{head_written, tables_written, body_written, target_length, class_length}
use Rattle.jl_modinfo.proofs.MemberLaws.{members_are}

-- rows of at most six bytes for each of their members
rows_within : {X : Type 0} (row : X → List ℕ) (size : X → ℕ) → ((x : X) → length (row x) ≤ 6 + 2 * size x) → (xs : List X) → length (flat_map row xs) ≤ 6 * length xs + 2 * sum_by size xs
rows_within row size h [] = omega arith
rows_within row size h (x ∷ xs) =
    let rest = rows_within row size h xs in
    let here = h x in
    let l = ap length (flat_map-cons row x xs) in
    let m = length-append (row x) (flat_map row xs) in
    let s = sum_by-cons size x xs in
    omega (arith, rest, here, l, m, s)

abbrev none : {X : Type 0} → X → ℕ
none x = 0

none_in : {X : Type 0} (xs : List X) → sum_by none xs ≡ 0
none_in [] = omega arith
none_in (x ∷ xs) = let r = none_in xs in let s = sum_by-cons none x xs in omega (arith, r, s)

-- rows of two bytes
pairs_within : {X : Type 0} (row : X → List ℕ) → ((x : X) → length (row x) ≤ 6) → (xs : List X) → length (flat_map row xs) ≤ 6 * length xs
pairs_within row h xs = let w = rows_within row none (λ x. let l = h x in omega (arith, l)) xs in let n = none_in xs in omega (arith, w, n)

two_each : {X : Type 0} (row : X → List ℕ) → ((x : X) → length (row x) ≡ 2) → (xs : List X) → length (flat_map row xs) ≡ 2 * length xs
two_each row h [] = omega arith
two_each row h (x ∷ xs) =
    let rest = two_each row h xs in
    let here = h x in
    let l = ap length (flat_map-cons row x xs) in
    let m = length-append (row x) (flat_map row xs) in
    omega (arith, rest, here, l, m)

module _ (cs : List Constant) (d : Declaration) (few : members d ≤ 16777216) where
  grant_size : (g : Grant) → length (grant_written cs g) ≤ 6 + 2 * target_length g
  grant_size g = let l = two_each (module_bytes cs) (λ n. omega arith) (targets g) in omega (arith, l)

  provides_size : (p : Provides) → length (provides_written cs p) ≤ 6 + 2 * class_length p
  provides_size p = let l = two_each (class_bytes cs) (λ n. omega arith) p.implementations in omega (arith, l)

  pub small_body : length (body_written cs d) < 4294967296
  small_body =
      let required = pairs_within (requires_written cs) (λ r. omega arith) d.required in
      let exports = rows_within (grant_written cs) target_length grant_size d.exports in
      let opens = rows_within (grant_written cs) target_length grant_size d.opens in
      let uses = pairs_within (class_bytes cs) (λ n. omega arith) d.uses in
      let provides = rows_within (provides_written cs) class_length provides_size d.provides in
      let all = members_are d in
      let one = counted_by (requires_written cs) d.required in
      let two = counted_by (grant_written cs) d.exports in
      let three = counted_by (grant_written cs) d.opens in
      let four = counted_by (class_bytes cs) d.uses in
      let five = counted_by (provides_written cs) d.provides in
      let a = length-append (head_written cs d) (tables_written cs d) in
      let b = length-append one (two ++ (three ++ (four ++ five))) in
      let c = length-append two (three ++ (four ++ five)) in
      let e = length-append three (four ++ five) in
      let f = length-append four five in
      omega (arith, few, required, exports, opens, uses, provides, all, a, b, c, e, f)

  pub small_packages : length (counted_by (package_bytes cs) d.packages) < 4294967296
  small_packages =
      let all = members_are d in
      let l = two_each (package_bytes cs) (λ n. omega arith) d.packages in
      omega (arith, few, all, l)
