-- Options one after the other, as a loop reads them.
use Rattle.std.proofs.Common.{◌≡◌, ℕ, zero, suc, ◌-◌, ◌+◌, ◌≤◌, ◌<◌, List, true, false, Result, Ok, refl, sym, ap, ◌∙◌, arith}
use Rattle.std.specs.Prelude.{slice_get}
use Rattle.jl_logic.specs.Answers.{Fails}
use Rattle.jl_reading.specs.Reading.{◌>>=◌}
use Rattle.jl_reading.proofs.Steps.{fails_as}
use Rattle.jl_words.specs.declared.fault.WordFault.{WordFault}
use Rattle.jl_words.specs.declared.given.Given.{Given}
use Rattle.jl_words.specs.declared.setting.Verb.{Verb}
use Rattle.jl_words.specs.Reading.{told, is_option, word_of, named_by, use_of, options_from}

-- the option at a place
abbrev pub used : Verb → List (List ℕ) → Given → ℕ → Result (Given × ℕ) WordFault
used verb words given at = use_of (named_by verb (word_of (slice_get words at))) words given at

-- the options end
pub options_stop : (n : ℕ) (verb : Verb) (words : List (List ℕ)) (given : Given) (at : ℕ) → is_option (slice_get words at) ≡ false → options_from n verb words given at ≡ Ok (given, at)
unfolding options_from
options_stop zero verb words given at stop = refl
options_stop (suc n) verb words given at stop = rw stop refl

pub step : (n : ℕ) (verb : Verb) (words : List (List ℕ)) (given : Given) (at : ℕ) → is_option (slice_get words at) ≡ true → options_from (suc n) verb words given at ≡ (used verb words given at >>= λ next. options_from n verb words next.0 next.1)
unfolding options_from
step n verb words given at go = rw go refl

step_at : (count i : ℕ) (verb : Verb) (words : List (List ℕ)) (given : Given) (at : ℕ) → i < count → is_option (slice_get words at) ≡ true → options_from (count - i) verb words given at ≡ (used verb words given at >>= λ next. options_from (count - (i + 1)) verb words next.0 next.1)
step_at count i verb words given at lt go =
    let k : count - i ≡ suc (count - (i + 1)) = omega arith in
    ap (λ n. options_from n verb words given at) k ∙ step (count - (i + 1)) verb words given at go

-- one more option is read
pub options_more : (count i : ℕ) (verb : Verb) (words : List (List ℕ)) (given more : Given) (at next : ℕ) (total : Result (Given × ℕ) WordFault) → i < count → is_option (slice_get words at) ≡ true → used verb words given at ≡ Ok (more, next)
    → options_from (count - i) verb words given at ≡ total → options_from (count - (i + 1)) verb words more next ≡ total
options_more count i verb words given more at next total lt go h so_far =
    ap (λ r. r >>= λ x. options_from (count - (i + 1)) verb words x.0 x.1) (sym h) ∙ sym (step_at count i verb words given at lt go) ∙ so_far

-- an option that is not read ends the reading
pub options_end : (e : WordFault) (count i : ℕ) (verb : Verb) (words : List (List ℕ)) (given : Given) (at : ℕ) (total : Result (Given × ℕ) WordFault) → i < count → is_option (slice_get words at) ≡ true → Fails told e (used verb words given at)
    → options_from (count - i) verb words given at ≡ total → Fails told e total
options_end e count i verb words given at total lt go h so_far =
    fails_as (told e) (used verb words given at) (λ x. options_from (count - (i + 1)) verb words x.0 x.1) total h (sym (step_at count i verb words given at lt go) ∙ so_far)

-- all words are options
pub options_done : (count i : ℕ) (verb : Verb) (words : List (List ℕ)) (given : Given) (at : ℕ) (total : Result (Given × ℕ) WordFault) → count ≤ i → options_from (count - i) verb words given at ≡ total → total ≡ Ok (given, at)
unfolding options_from
options_done count i verb words given at total le so_far =
    let k : count - i ≡ 0 = omega arith in
    sym so_far ∙ ap (λ n. options_from n verb words given at) k
