-- Worked rows of constraints: the loaders that they join, where these lead, and what one constraint more does.
use Rattle.std.proofs.Common.{◌≡◌, ℕ, List, [], ◌∷◌, true, false, Some, None, Ok, refl}
use Rattle.std.specs.Prelude.{codes}
use Rattle.jl_names.specs.Names.{package_of}
use Rattle.jl_names.specs.Descriptors.{descriptor_read, method_at, params_at, param_at, type_at, base_at, name_end, brackets, result_at, field_at}
use Rattle.jl_prim.specs.declared.numbers.ModuleId.{ModuleId}
use Rattle.jl_prim.specs.declared.numbers.LoaderId.{LoaderId}
use Rattle.jl_prim.specs.declared.declaration.ParentLoader.TheVariants.{Null}
use Rattle.jl_loaders.specs.declared.constraint.Constraint.{Constraint}
use Rattle.jl_loaders.specs.Loaders as delegation
use Rattle.jl_loaders.specs.Loaders.{Parts, lead_by}
use Rattle.jl_loaders.specs.Constraints.{constraint}
use Rattle.jl_loads.specs.Worlds.{State, bare}
use Rattle.jl_link.specs.Joining.{are_joined, loaders_to, group_lead}
use Rattle.jl_link.specs.Constraining.{names_in, apart, impose, impose_each, agree}

abbrev m : ℕ → ModuleId
m n = record { 0 = n }

abbrev l : ℕ → LoaderId
l n = record { 0 = n }

-- a loader that has the package p for a module
abbrev has_p : ℕ → Parts
has_p n = record { own = (codes "p", m n) ∷ []; seen = []; parent = Null }

abbrev has_none : Parts
has_none = record { own = []; seen = []; parent = Null }

-- loaders 1 and 4 have p, each for a module of its own; loader 5 has it for that of loader 1
abbrev among : List Constraint → delegation.State
among cs = record { loaders = has_p 1 ∷ has_none ∷ has_none ∷ has_p 2 ∷ has_p 1 ∷ []; base = None; constraints = cs; spare = 0 }

abbrev over : List Constraint → State
over cs = bare (record { configurations = []; layers = []; modules = []; loaders = among cs; facts = record { modules = []; statements = []; spare_modules = 0; spare_statements = 0 } })

abbrev on_p : ℕ → ℕ → Constraint
on_p a b = constraint (codes "p/T") (l a) (l b)

-- ---- joined

joined_itself : are_joined [] (codes "p/T") (l 2) (l 2) ≡ true
unfolding are_joined
joined_itself = refl

not_joined : are_joined (on_p 1 2 ∷ []) (codes "p/T") (l 1) (l 3) ≡ false
unfolding are_joined
not_joined = refl

-- two constraints, one of them the other way round
joined_by_two : are_joined (on_p 1 2 ∷ on_p 3 2 ∷ []) (codes "p/T") (l 1) (l 3) ≡ true
unfolding are_joined
joined_by_two = refl

joined_back : are_joined (on_p 1 2 ∷ on_p 3 2 ∷ []) (codes "p/T") (l 3) (l 1) ≡ true
unfolding are_joined
joined_back = refl

joined_by_name : are_joined (on_p 1 2 ∷ []) (codes "p/U") (l 1) (l 2) ≡ false
unfolding are_joined
joined_by_name = refl

-- ---- where a group leads

led_by_another : group_lead (among (on_p 1 2 ∷ on_p 3 2 ∷ [])) (codes "p/T") (l 3) ≡ Some (m 1)
unfolding are_joined loaders_to lead_by package_of
led_by_another = refl

led_nowhere : group_lead (among (on_p 3 2 ∷ [])) (codes "p/T") (l 3) ≡ None
unfolding are_joined loaders_to lead_by package_of
led_nowhere = refl

-- ---- one constraint more

-- loader 3 stands for module 1 through the others, and loader 4 leads to module 2
clash_by_others : apart (group_lead (among (on_p 1 2 ∷ on_p 3 2 ∷ [])) (codes "p/T") (l 3)) (group_lead (among (on_p 1 2 ∷ on_p 3 2 ∷ [])) (codes "p/T") (l 4)) ≡ Some (m 1, m 2)
unfolding are_joined loaders_to lead_by package_of
clash_by_others = refl

-- a clash changes nothing
nothing_imposed : (impose (over (on_p 1 2 ∷ [])) (codes "p/T") (l 2) (l 4)).0 ≡ over (on_p 1 2 ∷ [])
unfolding are_joined loaders_to lead_by package_of
nothing_imposed = refl

-- one module by two loaders is no clash
imposed_alike : impose (over (on_p 1 2 ∷ [])) (codes "p/T") (l 2) (l 5) ≡ (over (on_p 1 2 ∷ on_p 2 5 ∷ []), Ok tt)
unfolding are_joined loaders_to lead_by package_of
imposed_alike = refl

-- ---- the names of a descriptor

names_of_a_method : names_in (codes "(Lp/A;I[Lq/B;)Lr/C;") ≡ codes "p/A" ∷ codes "q/B" ∷ codes "r/C" ∷ []
unfolding descriptor_read method_at params_at param_at type_at base_at name_end brackets result_at field_at
names_of_a_method = refl

names_of_a_field : names_in (codes "[[J") ≡ []
unfolding descriptor_read method_at params_at param_at type_at base_at name_end brackets result_at field_at
names_of_a_field = refl

names_of_another_text : names_in (codes "p/A") ≡ []
unfolding descriptor_read method_at params_at param_at type_at base_at name_end brackets result_at field_at
names_of_another_text = refl

-- what was imposed before a clash stays
before_a_clash : (agree (over []) (l 1) (l 4) (codes "(Lq/A;Lp/T;Lq/B;)V")).0 ≡ over (constraint (codes "q/A") (l 1) (l 4) ∷ [])
unfolding impose_each are_joined loaders_to lead_by package_of descriptor_read method_at params_at param_at type_at base_at name_end brackets result_at field_at
before_a_clash = refl

one_loader : agree (over []) (l 1) (l 1) (codes "Lp/T;") ≡ (over [], Ok tt)
one_loader = refl
