-- What a well-formed command line is (as the options of the command `java`).
use Rattle.std.specs.Prelude.{◌≡◌, ℕ, ◌≤◌, List, [], ◌∷◌, ◌++◌, length, map, filter, Bool, true, false, ◌||◌, ◌==◌, IsTrue, if◌then◌else◌}
use Rattle.std.specs.List.{flat_map, AllByRecursion}
use Rattle.jl_logic.specs.Lists.{Match}
use Rattle.jl_prim.specs.Limits.{most_words, most_sample_modules, usual_steps}
use Rattle.jl_prim.specs.Names.{names_a_module}
use Rattle.jl_words.specs.declared.command.Added.{Added}
use Rattle.jl_words.specs.declared.command.RunWords.{RunWords}
use Rattle.jl_words.specs.declared.command.Command.{Command}
use Rattle.jl_words.specs.declared.command.Command.TheVariants.{Resolve, Run, Sample}
use Rattle.jl_words.specs.declared.setting.Setting.{Setting}
use Rattle.jl_words.specs.declared.setting.Setting.TheVariants as settings
use Rattle.jl_words.specs.declared.setting.Verb.{Verb}
use Rattle.jl_words.specs.declared.setting.Verb.TheVariants as verbs
use Rattle.jl_words.specs.Settings.{verb_text, setting_text, has_setting, is_single, is_flag, is_setting}
use Rattle.jl_words.specs.Values.{path_parts, listed, IsNumber, IsAdded, IsTarget}

-- A use of an option: its value (nothing for a flag), and whether it is joined to the option by = or is a word of its own.
pub record Use : Type 0 where
  pub setting : Setting
  pub value : List ℕ
  pub joined : Bool

-- the words of a use
abbrev pub use_words : Use → List (List ℕ)
use_words u =
    if is_flag u.setting then setting_text u.setting ∷ []
    else if u.joined then (setting_text u.setting ++ 61 ∷ u.value) ∷ []
    else setting_text u.setting ∷ u.value ∷ []

abbrev pub uses_of : Setting → List Use → List Use
uses_of s uses = filter (λ (u : Use). is_setting s u.setting) uses

-- the values given for an option, in order
abbrev pub values_of : Setting → List Use → List (List ℕ)
values_of s uses = map (λ (u : Use). u.value) (uses_of s uses)

-- an option of the command; a flag has no value
pub record IsUse (verb : Verb) (u : Use) : Type 0 where
  pub has : has_setting verb u.setting ≡ true
  pub flag : is_flag u.setting ≡ true → (u.value ≡ []) × (u.joined ≡ false)

-- options of the command, of which some may stand once
pub record AreUses (verb : Verb) (uses : List Use) : Type 0 where
  pub each : AllByRecursion (IsUse verb) uses
  pub once : (s : Setting) → is_single s ≡ true → length (uses_of s uses) ≤ 1

abbrev pub adds : Use → Bool
adds u = is_setting settings.AddReads u.setting || (is_setting settings.AddExports u.setting || is_setting settings.AddOpens u.setting)

-- the modules that are added as roots
pub record AreRoots (uses : List Use) (add : List (List ℕ)) : Type 0 where
  pub listed : add ≡ flat_map listed (values_of settings.AddModules uses)
  pub named : AllByRecursion (λ n. IsTrue (names_a_module n)) add

-- the elements of the module path
abbrev pub AreElements : List Use → List (List ℕ) → Type 0
AreElements uses elements = elements ≡ flat_map path_parts (values_of settings.ModulePath uses)

-- the facts that are added, in the order of their options
abbrev pub AreAdded : List Use → List Added → Type 0
AreAdded uses added = Match (λ (u : Use). IsAdded u.setting u.value) (filter adds uses) added

-- the bound on steps, which is the usual one where none is given
abbrev pub IsBound : List (List ℕ) → ℕ → Type 0
IsBound [] steps = steps ≡ usual_steps
IsBound (v ∷ vs) steps = IsNumber v steps

abbrev pub is_some_use : List Use → Bool
is_some_use [] = false
is_some_use (u ∷ us) = true

abbrev pub begins_with_dash : List ℕ → Bool
begins_with_dash [] = false
begins_with_dash (b ∷ bs) = b == 45

-- Operands begin with a word that is no option.
abbrev pub AreOperands : List (List ℕ) → Type 0
AreOperands [] = ⊥
AreOperands (w ∷ ws) = begins_with_dash w ≡ false

-- resolve [options] ROOT..
pub record IsResolve (words elements add roots : List (List ℕ)) : Type 0 where
  pub uses : List Use
  pub text : words ≡ verb_text verbs.Resolve ∷ (flat_map use_words uses ++ roots)
  pub options : AreUses verbs.Resolve uses
  pub path : AreElements uses elements
  pub added_roots : AreRoots uses add
  pub operands : AreOperands roots
  pub named : AllByRecursion (λ n. IsTrue (names_a_module n)) roots

-- run [options] MODULE[/CLASS] [args..]
pub record IsRun (words : List (List ℕ)) (r : RunWords) : Type 0 where
  pub uses : List Use
  pub target : List ℕ
  pub text : words ≡ verb_text verbs.Run ∷ (flat_map use_words uses ++ target ∷ r.args)
  pub options : AreUses verbs.Run uses
  pub path : AreElements uses r.elements
  pub added_roots : AreRoots uses r.add
  pub added : AreAdded uses r.added
  pub steps : IsBound (values_of settings.Steps uses) r.steps
  pub report : r.report ≡ is_some_use (uses_of settings.Report uses)
  pub operands : begins_with_dash target ≡ false
  pub main : IsTarget target r.main_module r.main_class

-- sample N BOUND
pub record IsSample (words : List (List ℕ)) (n bound : ℕ) : Type 0 where
  pub number : List ℕ
  pub limit : List ℕ
  pub text : words ≡ verb_text verbs.Sample ∷ number ∷ limit ∷ []
  pub counts : IsNumber number n
  pub few : (1 ≤ n) × (n ≤ most_sample_modules)
  pub bounds : IsNumber limit bound

-- the words are this command
abbrev pub IsCommand : List (List ℕ) → Command → Type 0
IsCommand words (Resolve elements add roots) = IsResolve words elements add roots
IsCommand words (Run r) = IsRun words r
IsCommand words (Sample n bound) = IsSample words n bound

-- A well-formed command line, which has no more words than it may have.
pub record IsLine (words : List (List ℕ)) (c : Command) : Type 0 where
  pub few : length words ≤ most_words
  pub command : IsCommand words c
