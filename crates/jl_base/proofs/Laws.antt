-- What is computed of the table.
use Rattle.std.proofs.Common.{◌≡◌, ◌≤◌, ℕ, List, [], ◌∷◌, length, map, IsTrue, refl, sym, subst, lit≤}
use Rattle.std.specs.Prelude.{nat_eq}
use Rattle.std.specs.List.{list_all}
use Rattle.std.specs.Str.{chars}
use Rattle.std.specs.Cmp.Lexicographic.{bytes_decides}
use Rattle.std.proofs.lemmas.Bool.{eq-eqb}
use Rattle.jl_logic.specs.Order.{is_text}
use Rattle.jl_logic.specs.Lists.{AreDistinct}
use Rattle.jl_names.specs.Names.{parts, package_of}
use Rattle.jl_names.specs.Descriptors.{brackets, name_end, base_at, type_at, param_at, params_at, result_at, method_at, field_at, descriptor_read}
use Rattle.jl_classw.specs.Building.{entered, class_entered, attribute_entered, new_class, with_interface, with_field, with_method}
use Rattle.jl_base.specs.Table.{table, values_rows, interfaces_rows, exceptions_rows, errors_rows, collections_rows, system_rows, reflection_rows, modules_rows, hidden_rows}
use Rattle.jl_base.specs.Images.{class_of}
use Rattle.jl_base.specs.Made.{class_begun, class_made}
use Rattle.jl_base.specs.Ready.{is_ready}
use Rattle.jl_base.specs.Laws.{has_members_apart, has_right_flags, stand_in_order, is_in, name_of, IsBegin, boxed_rows}
use Rattle.jl_base.specs.Base.{base_declaration}
use Rattle.jl_base.proofs.Distinct.{finds_none_twice, distinct_by}

pub flagged : IsTrue (list_all has_right_flags (map class_of table))
unfolding table values_rows interfaces_rows exceptions_rows errors_rows collections_rows system_rows reflection_rows modules_rows hidden_rows class_of
flagged = refl

pub apart : IsTrue (list_all has_members_apart (map class_of table))
unfolding table values_rows interfaces_rows exceptions_rows errors_rows collections_rows system_rows reflection_rows modules_rows hidden_rows class_of
apart = refl

pub ready : IsTrue (list_all is_ready table)
unfolding chars table values_rows interfaces_rows exceptions_rows errors_rows collections_rows system_rows reflection_rows modules_rows hidden_rows is_ready class_made class_begun new_class with_interface with_field with_method entered class_entered attribute_entered parts brackets name_end base_at type_at param_at params_at result_at method_at field_at descriptor_read
ready = refl

ordered : IsTrue (stand_in_order [] (map class_of table))
unfolding table values_rows interfaces_rows exceptions_rows errors_rows collections_rows system_rows reflection_rows modules_rows hidden_rows class_of
ordered = refl

inside : IsTrue (list_all (is_in base_declaration.packages) (map class_of table))
unfolding table values_rows interfaces_rows exceptions_rows errors_rows collections_rows system_rows reflection_rows modules_rows hidden_rows class_of package_of
inside = refl

names_apart : IsTrue (finds_none_twice is_text (map name_of (map class_of table)))
unfolding table values_rows interfaces_rows exceptions_rows errors_rows collections_rows system_rows reflection_rows modules_rows hidden_rows class_of
names_apart = refl

few : length (map class_of table) ≤ 65536
unfolding table values_rows interfaces_rows exceptions_rows errors_rows collections_rows system_rows reflection_rows modules_rows hidden_rows
few = lit≤ tt

pub begin : IsBegin base_declaration.packages (map class_of table)
begin = record {
  order = ordered;
  apart = distinct_by is_text (λ a b e. (bytes_decides a b).1 e) (map name_of (map class_of table)) names_apart;
  inside = inside;
  few = few;
}

-- the rows of the boxed natives, in the order of the table
abbrev pub boxed : List ℕ
boxed = 1 ∷ 2 ∷ 3 ∷ 4 ∷ 5 ∷ 6 ∷ 7 ∷ 8 ∷ 9 ∷ 20 ∷ 21 ∷ 14 ∷ 15 ∷ 10 ∷ 11 ∷ 12 ∷ 13 ∷ 16 ∷ 17 ∷ 18 ∷ 19 ∷ 30 ∷ 31 ∷ 32 ∷ []

pub boxed_is : boxed_rows table ≡ boxed
unfolding table values_rows interfaces_rows exceptions_rows errors_rows collections_rows system_rows reflection_rows modules_rows hidden_rows
boxed_is = refl

pub boxed_distinct : AreDistinct (boxed_rows table)
boxed_distinct = subst AreDistinct (sym boxed_is) (distinct_by nat_eq (λ a b e. eq-eqb a b e) boxed refl)
