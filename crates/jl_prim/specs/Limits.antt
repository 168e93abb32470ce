-- The limits of the profile (JVMS 4.11 leaves such limits to an implementation).
use Rattle.std.specs.Prelude.{ℕ}

-- modules in one scan of a path, of one configuration, of all layers
abbrev pub most_modules : ℕ
most_modules = 4096

-- folders listed in one scan of a path
abbrev pub most_folders : ℕ
most_folders = 65536

-- bytes of a class file or of a declaration file: 4 MiB
abbrev pub most_file_bytes : ℕ
most_file_bytes = 4194304

-- words of a command line
abbrev pub most_words : ℕ
most_words = 65536

-- modules of a sample tree
abbrev pub most_sample_modules : ℕ
most_sample_modules = 1000

-- the bound on steps where none is given
abbrev pub usual_steps : ℕ
usual_steps = 100000000
