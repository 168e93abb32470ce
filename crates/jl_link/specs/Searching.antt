-- Steps of the search for a field. No public clause cites these.
use Rattle.std.specs.Prelude.{◌≡◌, ◌⊎◌, List, [], ◌∷◌, ◌++◌, Option, None, true, ⊤}
use Rattle.std.specs.Option.{option_map_or, option_or}
use Rattle.jl_prim.specs.declared.numbers.ClassId.{ClassId}
use Rattle.jl_link.specs.declared.member.Member.{Member}
use Rattle.jl_link.specs.declared.fields.Step.{Step}
use Rattle.jl_link.specs.declared.fields.Step.TheVariants.{Enter, Leave}
use Rattle.jl_link.specs.Members.{Wanted, own_field, field_of}
use Rattle.jl_loads.specs.Worlds.{State, IsClass, is_among, super_of, interfaces_of}

-- classes to be entered, the first of them uppermost, which is the last of the list
unfoldable pub entered : List ClassId → List Step
entered [] = []
entered (c ∷ cs) = entered cs ++ Enter c ∷ []

-- what is done of a class that has not the field itself: its superinterfaces in order, its superclass, and then it is left
abbrev pub opened : State → ClassId → List Step
opened s c = Leave c ∷ (option_map_or (λ d. Enter d ∷ []) (super_of s c) [] ++ entered (interfaces_of s c))

-- what a step finds
abbrev pub gives : State → Wanted → Step → Option Member
gives s w (Enter c) = field_of s c w
gives s w (Leave c) = None

-- what steps find, the last of them first
abbrev pub answer : State → Wanted → List Step → Option Member
answer s w [] = None
answer s w (x ∷ above) = option_or (answer s w above) (gives s w x)

-- A class that is to be entered is there. One that is to be left has not the field, if nothing is found before.
abbrev pub AreDue : State → Wanted → List Step → Type 0
AreDue s w [] = ⊤
AreDue s w (Enter c ∷ above) = IsClass s c × AreDue s w above
AreDue s w (Leave c ∷ above) = (answer s w above ≡ None → field_of s c w ≡ None) × AreDue s w above

-- The steps find the field of a class, and classes that were searched in vain have not the field.
pub record Searches (s : State) (w : Wanted) (c : ClassId) (steps : List Step) (seen : List ClassId) : Type 0 where
  pub answer : answer s w steps ≡ field_of s c w
  pub due : AreDue s w steps
  pub vain : (d : ClassId) → is_among d seen ≡ true → field_of s d w ≡ None

-- A class has not the field itself: it was searched in vain, or what is above it is to be entered.
abbrev pub IsEntered : State → Wanted → List ClassId → ClassId → List Step → List Step → Type 0
IsEntered s w seen d old new = ((is_among d seen ≡ true) × (new ≡ old)) ⊎ ((own_field s w d ≡ None) × (new ≡ old ++ opened s d))
