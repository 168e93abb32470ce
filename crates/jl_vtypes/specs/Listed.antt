-- What a list of classes answers, and what each question leaves of it. No text of Java has such lists.
use Rattle.std.specs.Prelude.{◌≡◌, ℕ, zero, suc, ◌+◌, List, [], ◌∷◌, ◌++◌, length, find, Option, None, Some, Result, Ok, Err, Bool, false, ◌||◌, ◌==◌, if◌then◌else◌}
use Rattle.std.specs.List.{list_any}
use Rattle.jl_logic.specs.Answers.{Tells}
use Rattle.jl_logic.specs.Counts.{raised}
use Rattle.jl_logic.specs.Order.{is_text}
use Rattle.jl_prim.specs.declared.error_kind.ErrorKind.TheVariants as errors
use Rattle.jl_vtypes.specs.declared.ends.HierarchyEnd.{HierarchyEnd}
use Rattle.jl_vtypes.specs.declared.ends.HierarchyEnd.TheVariants as ends
use Rattle.jl_vtypes.specs.declared.question.Question.{Question}
use Rattle.jl_vtypes.specs.declared.question.Question.TheVariants as questions
use Rattle.jl_vtypes.specs.declared.question.Asked.{Asked}
use Rattle.jl_vtypes.specs.declared.listed.ListedClass.{ListedClass}
use Rattle.jl_vtypes.specs.declared.listed.MissingClass.{MissingClass}
use Rattle.jl_vtypes.specs.declared.listed.ListedClasses.{ListedClasses}

-- what an error tells: all but want of memory
abbrev pub told : HierarchyEnd → Option HierarchyEnd
told ends.NoMemory = None
told e = Some e

-- the first class with a name
abbrev pub class_named : List ListedClass → List ℕ → Option ListedClass
class_named classes name = find (λ (c : ListedClass). is_text c.name name) classes

-- the first missing name that is this one
abbrev pub missing_named : List MissingClass → List ℕ → Option MissingClass
missing_named missing name = find (λ (m : MissingClass). is_text m.name name) missing

-- the class, where there is one
abbrev pub class_or_none : Option ListedClass → Result ListedClass HierarchyEnd
class_or_none (Some class) = Ok class
class_or_none None = Err (ends.Missing errors.NoClassDefFoundError None)

-- how the load of a missing name ends
abbrev pub error_of : MissingClass → HierarchyEnd
error_of m = ends.Missing m.kind m.message

-- the error of a missing name, or else the class
abbrev pub error_or_class : Option MissingClass → Option ListedClass → Result ListedClass HierarchyEnd
error_or_class (Some m) class = Err (error_of m)
error_or_class None class = class_or_none class

-- the class that a name loads
abbrev pub loaded : ListedClasses → List ℕ → Result ListedClass HierarchyEnd
loaded all name = error_or_class (missing_named all.missing name) (class_named all.classes name)

-- the name of a class's superclass
abbrev pub superclass_of : Option ListedClass → Option (List ℕ)
superclass_of None = None
superclass_of (Some class) = class.superclass

-- the one is the other, or its superclass is, or that one's, at most so many of them
unfoldable pub descends : ℕ → List ListedClass → List ℕ → List ℕ → Bool
descends zero classes to from = false
descends (suc n) classes to from =
    is_text from to || elim (superclass_of (class_named classes from)) [ Some above ↦ descends n classes to above | None ↦ false ]

-- whether a class that loads is an interface
abbrev pub interface_answer : Result ListedClass HierarchyEnd → Result Bool HierarchyEnd
interface_answer (Ok class) = Ok class.is_interface
interface_answer (Err e) = Err e

-- both classes load, the first before the second
abbrev pub subclass_answer : Result ListedClass HierarchyEnd → Result ListedClass HierarchyEnd → Bool → Result Bool HierarchyEnd
subclass_answer (Err e) to is_one = Err e
subclass_answer (Ok class) (Err e) is_one = Err e
subclass_answer (Ok class) (Ok above) is_one = Ok is_one

-- what the classes answer
abbrev pub known : ListedClasses → Question → Result Bool HierarchyEnd
known all (questions.IsInterface name) = interface_answer (loaded all name)
known all (questions.IsSubclass from to) = subclass_answer (loaded all from) (loaded all to) (descends (length all.classes) all.classes to from)

-- the next question is one of those that fail
abbrev pub is_failing : ListedClasses → Bool
is_failing all = list_any (λ n. n == length all.asked + 1) all.fails

abbrev pub answer : ListedClasses → Question → Result Bool HierarchyEnd
answer all question = if is_failing all then Err ends.ReadFault else known all question

-- the list keeps the question with its answer
abbrev pub with_asked : ListedClasses → Asked → ListedClasses
with_asked all a = record all { asked = all.asked ++ a ∷ [] }

-- what a question leaves: nothing new without memory, one fault more where it failed, and nothing else but that it was asked
abbrev pub after : ListedClasses → Asked → ListedClasses
after all a = elim a.answer [ Ok b ↦ with_asked all a | Err e ↦ elim e [ ends.Missing kind message ↦ with_asked all a | ends.ReadFault ↦ record (with_asked all a) { faults = raised all.faults } | ends.NoMemory ↦ all ] ]

-- One question to a list of classes.
pub record Steps (old : ListedClasses) (a : Asked) (new : ListedClasses) : Type 0 where
  pub says : Tells told a.answer (answer old a.question)
  pub leaves : new ≡ after old a
