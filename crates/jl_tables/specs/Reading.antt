-- Reading names and tables from left to right, with the first fault that is met (JVMS 4.7.25).
use Rattle.std.specs.Prelude.{ℕ, List, [], map, Option, Result, Ok, Err, ◌==◌, codes, if◌then◌else◌}
use Rattle.jl_reading.specs.Reading.{◌>>=◌, number_at, each_at}
use Rattle.jl_prim.specs.declared.declaration.Requires.{Requires}
use Rattle.jl_prim.specs.declared.declaration.Grant.{Grant}
use Rattle.jl_prim.specs.declared.declaration.Provides.{Provides}
use Rattle.jl_pool.specs.declared.entry.Entry.{Entry}
use Rattle.jl_pool.specs.Pool.{class_named}
use Rattle.jl_tables.specs.declared.fault.InfoFault.{InfoFault}
use Rattle.jl_tables.specs.declared.fault.InfoFault.TheVariants as faults
use Rattle.jl_tables.specs.Meaning.{module_named, version_named, is_set, is_among, targets_of}
use Rattle.jl_tables.specs.Faults.{short, named_or}

-- ---- names

-- an index, as the name that it has
unfoldable pub name_at : (List Entry → ℕ → Option (List ℕ)) → List Entry → List ℕ → ℕ → Result (List ℕ × ℕ) InfoFault
name_at named pool bytes at = do
  i ← number_at short 2 bytes at
  name ← named_or at (named pool i.0)
  Ok (name, i.1)

-- likewise, where a name that the table has already is repeated
unfoldable pub new_name_at : List ℕ → (List Entry → ℕ → Option (List ℕ)) → List Entry → List ℕ → List (List ℕ) → ℕ → Result (List ℕ × ℕ) InfoFault
new_name_at table named pool bytes done at = do
  name ← name_at named pool bytes at
  if is_among name.0 done then Err (faults.Repeated table name.0) else Ok name

-- a count, and so many names, each once
unfoldable pub names_at : List ℕ → (List Entry → ℕ → Option (List ℕ)) → List Entry → List ℕ → ℕ → Result (List (List ℕ) × ℕ) InfoFault
names_at table named pool bytes at = do
  count ← number_at short 2 bytes at
  each_at (new_name_at table named pool bytes) [] count.0 count.1

-- the index of a version, as the version
unfoldable pub version_at : List Entry → List ℕ → ℕ → Result (Option (List ℕ) × ℕ) InfoFault
version_at pool bytes at = do
  i ← number_at short 2 bytes at
  version ← named_or at (version_named pool i.0)
  Ok (version, i.1)

-- ---- tables

-- an entry of the requires table
unfoldable pub requires_at : List Entry → List ℕ → List Requires → ℕ → Result (Requires × ℕ) InfoFault
requires_at pool bytes done at = do
  name ← new_name_at (codes "requires") module_named pool bytes (map (λ (r : Requires). r.name) done) at
  flags ← number_at short 2 bytes name.1
  version ← version_at pool bytes flags.1
  Ok (record { name = name.0; transitive = is_set flags.0 0x20; is_static = is_set flags.0 0x40 }, version.1)

unfoldable pub requires_table_at : List Entry → List ℕ → ℕ → Result (List Requires × ℕ) InfoFault
requires_table_at pool bytes at = do
  count ← number_at short 2 bytes at
  each_at (requires_at pool bytes) [] count.0 count.1

-- an entry of a table of exports or opens
unfoldable pub grant_at : List ℕ → (List Entry → ℕ → Option (List ℕ)) → List Entry → List ℕ → List Grant → ℕ → Result (Grant × ℕ) InfoFault
grant_at table named pool bytes done at = do
  name ← new_name_at table named pool bytes (map (λ (g : Grant). g.«package») done) at
  flags ← number_at short 2 bytes name.1
  targets ← names_at (codes "targets") module_named pool bytes flags.1
  Ok (record { «package» = name.0; to = targets_of targets.0 }, targets.1)

unfoldable pub grants_at : List ℕ → (List Entry → ℕ → Option (List ℕ)) → List Entry → List ℕ → ℕ → Result (List Grant × ℕ) InfoFault
grants_at table named pool bytes at = do
  count ← number_at short 2 bytes at
  each_at (grant_at table named pool bytes) [] count.0 count.1

-- the classes that implement a service, of which there is one at least
unfoldable pub implementations_at : List Entry → List ℕ → ℕ → Result (List (List ℕ) × ℕ) InfoFault
implementations_at pool bytes at = do
  count ← number_at short 2 bytes at
  if count.0 == 0 then Err (faults.BadIndex at) else each_at (new_name_at (codes "implementations") class_named pool bytes) [] count.0 count.1

-- an entry of the provides table
unfoldable pub provides_at : List Entry → List ℕ → List Provides → ℕ → Result (Provides × ℕ) InfoFault
provides_at pool bytes done at = do
  service ← new_name_at (codes "provides") class_named pool bytes (map (λ (p : Provides). p.service) done) at
  classes ← implementations_at pool bytes service.1
  Ok (record { service = service.0; implementations = classes.0 }, classes.1)

unfoldable pub provides_table_at : List Entry → List ℕ → ℕ → Result (List Provides × ℕ) InfoFault
provides_table_at pool bytes at = do
  count ← number_at short 2 bytes at
  each_at (provides_at pool bytes) [] count.0 count.1
