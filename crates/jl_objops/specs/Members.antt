-- The members that references refer to, and the errors that name them (JVMS 5.4.3, 6.5).
use Rattle.std.specs.Prelude.{ℕ, List, [], ◌++◌, slice_get, Option, None, Some, Result, Ok, Err, Bool, false, codes}
use Rattle.std.specs.Option.{option_map_or, option_and_then}
use Rattle.jl_names.specs.Dots.{dotted}
use Rattle.jl_prim.specs.declared.numbers.ClassId.{ClassId}
use Rattle.jl_prim.specs.declared.numbers.ObjRef.{ObjRef}
use Rattle.jl_prim.specs.declared.error_kind.ErrorKind.{ErrorKind}
use Rattle.jl_prim.specs.declared.error_kind.ErrorKind.TheVariants as errors
use Rattle.jl_class.specs.declared.member.FieldDecl.{FieldDecl}
use Rattle.jl_class.specs.declared.member.MethodDecl.{MethodDecl}
use Rattle.jl_heap.specs.Heap.{HeapState, shape_at}
use Rattle.jl_loads.specs.declared.slot.Target.{Target}
use Rattle.jl_loads.specs.declared.slot.Target.TheVariants as targets
use Rattle.jl_loads.specs.Worlds.{State, is_subclass, fields_of, methods_of}
use Rattle.jl_loads.specs.Outcomes.{error, of_member}
use Rattle.jl_link.specs.declared.member.Member.{Member}
use Rattle.jl_link.specs.Members.{field_at, method_at}
use Rattle.jl_link.specs.Owners.{field_owner, method_owner}
use Rattle.jl_link.specs.Selection.{class_name}
use Rattle.jl_objops.specs.declared.caller.Caller.{Caller}
use Rattle.jl_objops.specs.declared.halt.Halt.{Halt}
use Rattle.jl_objops.specs.Outcomes.{of_thrown, no_member}
use Rattle.jl_objops.specs.Types.{class_of}

-- ---- members

abbrev pub placed_field : State → ClassId × ℕ → Option Member
placed_field w (c, at) = field_at c (fields_of w c) at

abbrev pub placed_method : State → ClassId × ℕ → Option Member
placed_method w (c, at) = method_at c (methods_of w c) at

-- the field that is the target of a reference
abbrev pub target_field : State → Target → Option Member
target_field w (targets.Field f) = option_and_then (placed_field w) (field_owner w f)
target_field w _ = None

-- and the method
abbrev pub target_method : State → Target → Option Member
target_method w (targets.Method m) = option_and_then (placed_method w) (method_owner w m)
target_method w _ = None

-- what there is
abbrev pub found : Option Member → Result Member Halt
found None = Err no_member
found (Some m) = Ok m

-- ---- names

abbrev pub field_name : State → Member → List ℕ
field_name w m = option_map_or (λ (f : FieldDecl). f.name) (slice_get (fields_of w m.owner) m.at) []

abbrev pub method_name : State → ClassId → ℕ → List ℕ
method_name w c at = option_map_or (λ (m : MethodDecl). m.name) (slice_get (methods_of w c) at) []

-- the name of the method that runs
abbrev pub caller_name : State → Caller → List ℕ
caller_name w caller = method_name w caller.class caller.place

-- ---- errors that name a member by the class that declares it

abbrev pub field_error : ErrorKind → State → Member → Halt
field_error kind w m = of_thrown (of_member kind (class_name w m.owner) (field_name w m))

abbrev pub method_error : ErrorKind → State → Member → Halt
method_error kind w m = of_thrown (of_member kind (class_name w m.owner) (method_name w m.owner m.at))

-- a field that is final is written where it may not be
abbrev pub final_error : State → Member → Halt
final_error w m = of_thrown (error errors.IllegalAccessError (codes "final field " ++ dotted (class_name w m.owner) ++ codes "." ++ field_name w m))

-- ---- objects with a member

-- the object is of the class that declares a member, or of a subclass of it
abbrev pub is_object_of : State → HeapState → ClassId → ObjRef → Bool
is_object_of w h c o = option_map_or (λ x. is_subclass w (class_of w x) c) (shape_at h o) false
