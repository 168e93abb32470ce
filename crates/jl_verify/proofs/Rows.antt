-- Worked rows of the definitions.
use Rattle.std.proofs.Common.{◌≡◌, ℕ, List, [], ◌∷◌, true, false, None, Some, refl}
use Rattle.std.specs.Prelude.{codes}
use Rattle.jl_names.specs.Descriptors.{descriptor_read, method_at, field_at, params_at, param_at, result_at, type_at, base_at, name_end, brackets}
use Rattle.jl_names.specs.Names.{parts}
use Rattle.jl_frames.specs.declared.frame.Change.TheVariants as changes
use Rattle.jl_code.specs.declared.code.Arg.{Arg}
use Rattle.jl_code.specs.declared.code.Arg.TheVariants as args
use Rattle.jl_code.specs.declared.code.Instr.{Instr}
use Rattle.jl_class.specs.Classes.{Class as ClassFile}
use Rattle.jl_class.specs.declared.member.MethodDecl.{MethodDecl}
use Rattle.jl_vtypes.specs.declared.item.Item.{Item}
use Rattle.jl_vtypes.specs.declared.item.Item.TheVariants as items
use Rattle.jl_vtypes.specs.Asking.{Done}
use Rattle.jl_verify.specs.Frames.{Frame}
use Rattle.jl_verify.specs.Declaring.{first_frame, changed_by}
use Rattle.jl_verify.specs.Families.{family_rows}
use Rattle.jl_verify.specs.Checked.{Checked}
use Rattle.jl_verify.specs.Rows.{after, with_local}
use Rattle.jl_verify.specs.Checks.{failing_from, first_failed}
use Rattle.jl_verify.specs.declared.rule.CheckRule.TheVariants as rules

abbrev a_class : ClassFile
a_class = record { major = 53; minor = 0; flags = 0; name = codes "p/A"; super_name = Some (codes "java/lang/Object"); interfaces = []; fields = []; methods = []; nest_host = None; nest_members = []; permits = None; pool = [] }

abbrev method : ℕ → List ℕ → List ℕ → MethodDecl
method flags name desc = record { flags = flags; name = name; desc = desc; code = None }

abbrev instr : ℕ → ℕ → Arg → Instr
instr at op arg = record { at = at; op = op; wide = false; arg = arg }

abbrev checked : MethodDecl → ℕ → List Instr → Checked
checked m max_stack instrs = record { class = a_class; method = m; code = record { max_stack = max_stack; max_locals = 1; code = []; handlers = []; frames = None }; instrs = instrs; declared = [] }

abbrev stack : List Item → Frame
stack all = record { locals = []; stack = all; marked = false }

-- iconst_0 and areturn in a method whose result is an Object
an_int_for_an_object : first_failed (checked (method 8 (codes "g") (codes "()Ljava/lang/Object;")) 1 (instr 0 3 args.Nothing ∷ instr 1 176 args.Nothing ∷ [])) (stack [] ∷ stack (items.Int ∷ []) ∷ []) ≡ Done (Some (1, rules.Operand))
unfolding failing_from family_rows descriptor_read method_at field_at params_at param_at result_at type_at base_at name_end brackets
an_int_for_an_object = refl

-- iconst_0 alone
no_end : first_failed (checked (method 8 (codes "g") (codes "()V")) 1 (instr 0 3 args.Nothing ∷ [])) (stack [] ∷ []) ≡ Done (Some (0, rules.End))
unfolding failing_from family_rows descriptor_read method_at field_at params_at param_at result_at type_at base_at name_end brackets
no_end = refl

-- iconst_0 without room
no_room : first_failed (checked (method 8 (codes "g") (codes "()V")) 0 (instr 0 3 args.Nothing ∷ [])) (stack [] ∷ []) ≡ Done (Some (0, rules.Overflow))
unfolding failing_from family_rows descriptor_read method_at field_at params_at param_at result_at type_at base_at name_end brackets
no_room = refl

-- a goto to itself without a frame
no_target : first_failed (checked (method 8 (codes "g") (codes "()V")) 0 (instr 0 167 (args.Target 0) ∷ [])) (stack [] ∷ []) ≡ Done (Some (0, rules.Target))
unfolding failing_from family_rows descriptor_read method_at field_at params_at param_at result_at type_at base_at name_end brackets
no_target = refl

-- a return before another <init> was called
return_before_init : first_failed (checked (method 0 (codes "<init>") (codes "()V")) 0 (instr 0 177 args.Nothing ∷ [])) (record { locals = items.UninitThis ∷ []; stack = []; marked = true } ∷ []) ≡ Done (Some (0, rules.Init))
unfolding failing_from family_rows descriptor_read method_at field_at params_at param_at result_at type_at base_at name_end brackets
return_before_init = refl

a_return : first_failed (checked (method 8 (codes "g") (codes "()V")) 0 (instr 0 177 args.Nothing ∷ [])) (stack [] ∷ []) ≡ Done None
unfolding failing_from family_rows descriptor_read method_at field_at params_at param_at result_at type_at base_at name_end brackets
a_return = refl

-- ---- frames

first_of_an_instance : first_frame a_class (method 0 (codes "f") (codes "(JLp/B;[I)V")) ≡ record { locals = items.Class (codes "p/A") ∷ items.Long ∷ items.Top ∷ items.Class (codes "p/B") ∷ items.Array (codes "[I") ∷ []; stack = []; marked = false }
unfolding descriptor_read method_at field_at params_at param_at result_at type_at base_at name_end brackets parts
first_of_an_instance = refl

-- a long as one item is chopped whole
chopped : changed_by (items.Int ∷ items.Long ∷ []) (changes.Chop 1) [] ≡ Some (record { locals = items.Int ∷ []; stack = [] })
chopped = refl

chopped_below_none : changed_by (items.Int ∷ []) (changes.Chop 2) [] ≡ None
chopped_below_none = refl

-- ---- locals

stored_past_the_end : with_local [] 2 items.Int ≡ items.Top ∷ items.Top ∷ items.Int ∷ []
stored_past_the_end = refl

a_long_is_cut : with_local (items.Long ∷ items.Top ∷ []) 1 items.Int ≡ items.Top ∷ items.Int ∷ []
a_long_is_cut = refl

a_long_takes_two : with_local (items.Int ∷ items.Int ∷ []) 0 items.Long ≡ items.Long ∷ items.Top ∷ []
a_long_takes_two = refl

-- ---- rows

-- dup_x2 over a long
dup_below_a_long : after (checked (method 8 (codes "g") (codes "()V")) 4 []) (stack (items.Int ∷ items.Top ∷ items.Long ∷ [])) (instr 0 91 args.Nothing) ≡ stack (items.Int ∷ items.Top ∷ items.Long ∷ items.Int ∷ [])
unfolding family_rows
dup_below_a_long = refl

-- what is Top on the stack may be half of a long
a_half_is_not_popped : first_failed (checked (method 8 (codes "g") (codes "()V")) 2 (instr 0 87 args.Nothing ∷ instr 1 177 args.Nothing ∷ [])) (stack (items.Top ∷ items.Top ∷ []) ∷ stack (items.Top ∷ []) ∷ []) ≡ Done (Some (0, rules.Operand))
unfolding failing_from family_rows descriptor_read method_at field_at params_at param_at result_at type_at base_at name_end brackets
a_half_is_not_popped = refl

-- ladd
longs : after (checked (method 8 (codes "g") (codes "()V")) 4 []) (stack (items.Top ∷ items.Long ∷ items.Top ∷ items.Long ∷ items.Int ∷ [])) (instr 0 97 args.Nothing) ≡ stack (items.Top ∷ items.Long ∷ items.Int ∷ [])
unfolding family_rows
longs = refl
