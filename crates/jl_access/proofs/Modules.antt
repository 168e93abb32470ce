-- Modules by their numbers.
use Rattle.std.proofs.Common.{◌≡◌, ◌-◌, ◌<◌, ℕ, suc, List, map, slice_get, Option, Some, None, Bor, refl, sym, ◌∙◌, ap, arith}
use Rattle.std.specs.Option.{option_map, option_copied}
use Rattle.std.proofs.lemmas.Option.{slice_get-map}
use Rattle.jl_access.specs.declared.facts.Module.{Module}
use Rattle.jl_access.specs.Facts.{numbered}
use Rattle.jl_access.specs.Whole.{declared}

copied_map : (r : Option (Bor Module)) → option_map (λ x. declared x.now) r ≡ option_map declared (option_copied r)
copied_map None = refl
copied_map (Some x) = refl

pub numbered_told : (modules : List Module) (n : ℕ) (r : Option (Bor Module)) → 0 < n → option_copied r ≡ slice_get modules (n - 1) → option_map (λ x. declared x.now) r ≡ numbered (map declared modules) n
numbered_told modules n r lt at = copied_map r ∙ ap (option_map declared) at ∙ sym (slice_get-map declared modules (n - 1)) ∙ by (n - 1) (omega arith)
  where
    by : (k : ℕ) → n ≡ suc k → slice_get (map declared modules) k ≡ numbered (map declared modules) n
    by k e = sym (ap (numbered (map declared modules)) e)
