-- The options of the commands (as those of the command `java`).
use Rattle.std.specs.Prelude.{ℕ, List, Bool, true, false, codes}
use Rattle.jl_words.specs.declared.setting.Setting.{Setting}
use Rattle.jl_words.specs.declared.setting.Setting.TheVariants.{ModulePath, AddModules, AddReads, AddExports, AddOpens, Steps, Report}
use Rattle.jl_words.specs.declared.setting.Verb.{Verb}
use Rattle.jl_words.specs.declared.setting.Verb.TheVariants as verbs

-- the word of a command
abbrev pub verb_text : Verb → List ℕ
verb_text verbs.Resolve = codes "resolve"
verb_text verbs.Run = codes "run"
verb_text verbs.Sample = codes "sample"

abbrev pub setting_text : Setting → List ℕ
setting_text ModulePath = codes "--module-path"
setting_text AddModules = codes "--add-modules"
setting_text AddReads = codes "--add-reads"
setting_text AddExports = codes "--add-exports"
setting_text AddOpens = codes "--add-opens"
setting_text Steps = codes "--steps"
setting_text Report = codes "--report"

-- which command has which option
abbrev pub has_setting : Verb → Setting → Bool
has_setting verbs.Resolve ModulePath = true
has_setting verbs.Resolve AddModules = true
has_setting verbs.Resolve _ = false
has_setting verbs.Run _ = true
has_setting verbs.Sample _ = false

-- an option that may not be repeated
abbrev pub is_single : Setting → Bool
is_single ModulePath = true
is_single Steps = true
is_single Report = true
is_single _ = false

-- the one option that takes no value
abbrev pub is_flag : Setting → Bool
is_flag Report = true
is_flag _ = false

abbrev pub is_setting : Setting → Setting → Bool
is_setting ModulePath ModulePath = true
is_setting AddModules AddModules = true
is_setting AddReads AddReads = true
is_setting AddExports AddExports = true
is_setting AddOpens AddOpens = true
is_setting Steps Steps = true
is_setting Report Report = true
is_setting _ _ = false
