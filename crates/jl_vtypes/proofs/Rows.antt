-- Worked rows of the definitions.
use Rattle.std.proofs.Common.{◌≡◌, ℕ, List, [], ◌∷◌, Bool, true, false, Result, Ok, Err, refl}
use Rattle.std.specs.Prelude.{codes}
use Rattle.jl_vtypes.specs.declared.item.Item.TheVariants as items
use Rattle.jl_vtypes.specs.declared.ends.HierarchyEnd.{HierarchyEnd}
use Rattle.jl_vtypes.specs.declared.ends.HierarchyEnd.TheVariants as ends
use Rattle.jl_vtypes.specs.declared.question.Question.TheVariants as questions
use Rattle.jl_vtypes.specs.declared.question.Asked.{Asked}
use Rattle.jl_vtypes.specs.Asking.{Asks, Done, Ask, Follows}
use Rattle.jl_vtypes.specs.Assignability.{goes, spelled, before_semicolon, unless_interface}

-- a class goes to another where that one is an interface, and else where it is a superclass
abbrev asked : List ℕ → List ℕ → Asks Bool
asked from to = Ask (questions.IsInterface to) (unless_interface from to)

classes : goes (items.Class (codes "p/A")) (items.Class (codes "p/B")) ≡ asked (codes "p/A") (codes "p/B")
classes = refl

the_same_class : goes (items.Class (codes "p/A")) (items.Class (codes "p/A")) ≡ Done true
the_same_class = refl

to_object : goes (items.Class (codes "p/A")) (items.Class (codes "java/lang/Object")) ≡ Done true
to_object = refl

elements : goes (items.Array (codes "[[Lp/A;")) (items.Array (codes "[[Lp/B;")) ≡ asked (codes "p/A") (codes "p/B")
unfolding spelled before_semicolon
elements = refl

rows_as_objects : goes (items.Array (codes "[[I")) (items.Array (codes "[Ljava/lang/Object;")) ≡ Done true
unfolding spelled before_semicolon
rows_as_objects = refl

ints_as_objects : goes (items.Array (codes "[I")) (items.Array (codes "[Ljava/lang/Object;")) ≡ Done false
unfolding spelled before_semicolon
ints_as_objects = refl

primitives_alone : goes (items.Array (codes "[B")) (items.Array (codes "[Z")) ≡ Done false
unfolding spelled before_semicolon
primitives_alone = refl

arrays_are_cloneable : goes (items.Array (codes "[I")) (items.Class (codes "java/lang/Cloneable")) ≡ Done true
arrays_are_cloneable = refl

arrays_are_nothing_else : goes (items.Array (codes "[I")) (items.Class (codes "java/lang/Runnable")) ≡ Done false
arrays_are_nothing_else = refl

no_array : goes (items.Class (codes "java/lang/Object")) (items.Array (codes "[I")) ≡ Done false
no_array = refl

null : goes items.Null (items.Array (codes "[I")) ≡ Done true
null = refl

to_null : goes (items.Class (codes "p/A")) items.Null ≡ Done false
to_null = refl

uninitialized : goes (items.Uninit 3) (items.Class (codes "java/lang/Object")) ≡ Done false
uninitialized = refl

another_new : goes (items.Uninit 3) (items.Uninit 7) ≡ Done false
another_new = refl

the_same_new : goes (items.Uninit 3) (items.Uninit 3) ≡ Done true
the_same_new = refl

the_same_this : goes items.UninitThis items.UninitThis ≡ Done true
the_same_this = refl

long_to_top : goes items.Long items.Top ≡ Done true
long_to_top = refl

null_to_a_class : goes items.Null (items.Class (codes "p/A")) ≡ Done true
null_to_a_class = refl

array_to_object : goes (items.Array (codes "[I")) (items.Class (codes "java/lang/Object")) ≡ Done true
array_to_object = refl

elements_to_object : goes (items.Array (codes "[Lp/A;")) (items.Array (codes "[Ljava/lang/Object;")) ≡ Done true
unfolding spelled before_semicolon
elements_to_object = refl

references_to_primitives : goes (items.Array (codes "[Lp/A;")) (items.Array (codes "[I")) ≡ Done false
unfolding spelled before_semicolon
references_to_primitives = refl

-- texts that spell no class are compared whole
no_classes : goes (items.Array (codes "[Lx")) (items.Array (codes "[Ly")) ≡ Done false
unfolding spelled before_semicolon
no_classes = refl

to_top : goes (items.Uninit 3) items.Top ≡ Done true
to_top = refl

-- ---- with answers

abbrev comes : List Asked → Result Bool HierarchyEnd → Type 0
comes all result = Follows (λ q e. e) (goes (items.Class (codes "p/A")) (items.Class (codes "p/B"))) all result

an_interface : comes (record { question = questions.IsInterface (codes "p/B"); answer = Ok true } ∷ []) (Ok true)
an_interface = (refl, refl)

no_subclass : comes (record { question = questions.IsInterface (codes "p/B"); answer = Ok false } ∷ record { question = questions.IsSubclass (codes "p/A") (codes "p/B"); answer = Ok false } ∷ []) (Ok false)
no_subclass = (refl, (refl, refl))

a_fault : comes (record { question = questions.IsInterface (codes "p/B"); answer = Err ends.ReadFault } ∷ []) (Err ends.ReadFault)
a_fault = (refl, (refl, refl))
