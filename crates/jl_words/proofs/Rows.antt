-- Worked rows: what some command lines are.
use Rattle.std.proofs.Common.{◌≡◌, inl, inr, [], ◌∷◌, true, false, None, Some, Ok, Err, refl, arith}
use Rattle.std.specs.Prelude.{codes}
use Rattle.jl_names.specs.Names.{parts}
use Rattle.jl_words.specs.declared.command.Added.TheVariants.{Reads, Exports}
use Rattle.jl_words.specs.declared.command.Command.TheVariants.{Resolve, Run, Sample}
use Rattle.jl_words.specs.declared.fault.WordFault.TheVariants.{NoCommand, Missing, Repeated, BadNumber, BadTarget, UnknownWord}
use Rattle.jl_words.specs.Values.{split, path_parts, number_of}
use Rattle.jl_words.proofs.ValueLaws.{number_is}
use Rattle.jl_words.specs.Laws.{Begins, IsMet}
use Rattle.jl_words.specs.Reading.{parted, parted_last, options_from, resolve_at, run_at, sample_at, line_read, words_read}

no_words : words_read [] ≡ Err NoCommand
unfolding words_read line_read
no_words = refl

no_root : words_read (codes "resolve" ∷ []) ≡ Err (Missing (codes "ROOT"))
unfolding words_read line_read options_from resolve_at
no_root = refl

steps_twice : words_read (codes "run" ∷ codes "--steps" ∷ codes "1" ∷ codes "--steps" ∷ codes "2" ∷ codes "a/p.Main" ∷ []) ≡ Err (Repeated (codes "--steps"))
unfolding words_read line_read options_from parted
steps_twice = refl

steps_too_great : words_read (codes "run" ∷ codes "--steps" ∷ codes "99999999999999999999" ∷ codes "a/p.Main" ∷ []) ≡ Err (BadNumber 2)
unfolding words_read line_read options_from parted
steps_too_great = refl

no_package : words_read (codes "run" ∷ codes "a/Main" ∷ []) ≡ Err (BadTarget 1)
unfolding words_read line_read options_from run_at parted parts
no_package = refl

flag_with_a_value : words_read (codes "run" ∷ codes "--report=v" ∷ codes "a" ∷ []) ≡ Err (UnknownWord 1)
unfolding words_read line_read options_from parted
flag_with_a_value = refl

option_of_the_program : words_read (codes "run" ∷ codes "--report" ∷ codes "a/p.C" ∷ codes "--report" ∷ []) ≡ Ok (Run (record { elements = []; add = []; added = []; steps = 100000000; report = true; main_module = codes "a"; main_class = Some (codes "p/C"); args = codes "--report" ∷ [] }))
unfolding words_read line_read options_from run_at parted parts
option_of_the_program = refl

added_in_order : words_read (codes "run" ∷ codes "--add-exports" ∷ codes "a/p.q=b" ∷ codes "--add-reads=a=c" ∷ codes "a" ∷ []) ≡ Ok (Run (record { elements = []; add = []; added = Exports (codes "a") (codes "p/q") (codes "b") ∷ Reads (codes "a") (codes "c") ∷ []; steps = 100000000; report = false; main_module = codes "a"; main_class = None; args = [] }))
unfolding words_read line_read options_from run_at parted parted_last parts
added_in_order = refl

a_sample : words_read (codes "sample" ∷ codes "0003" ∷ codes "10" ∷ []) ≡ Ok (Sample 3 10)
unfolding words_read line_read options_from sample_at
a_sample = refl

empty_elements : path_parts (codes "a:b::c") ≡ codes "a" ∷ codes "b" ∷ codes "c" ∷ []
unfolding split
empty_elements = refl

greatest_number : number_of (codes "18446744073709551615") ≡ Some 18446744073709551615
greatest_number = refl

past_the_greatest : number_of (codes "18446744073709551616") ≡ None
past_the_greatest = refl

roots_from_options : words_read (codes "resolve" ∷ codes "--add-modules" ∷ codes "a,b" ∷ codes "--add-modules=c" ∷ codes "r" ∷ codes "-s" ∷ []) ≡ Ok (Resolve [] (codes "a" ∷ codes "b" ∷ codes "c" ∷ []) (codes "r" ∷ codes "-s" ∷ []))
unfolding words_read line_read options_from resolve_at parted split
roots_from_options = refl

-- what begins a command, and where a fault is met
bound_to_come : Begins (codes "sample" ∷ codes "3" ∷ [])
bound_to_come = record { rest = codes "10" ∷ []; command = Sample 3 10; few = omega arith; is = record { number = codes "3"; limit = codes "10"; text = refl; counts = number_is (codes "3") 3 refl; few = (omega arith, omega arith); bounds = number_is (codes "10") 10 refl } }

second_use : IsMet (codes "run" ∷ codes "--steps" ∷ codes "1" ∷ codes "--steps" ∷ codes "2" ∷ codes "a" ∷ []) (Repeated (codes "--steps")) 3
second_use = (codes "--steps", refl, inl refl)

second_joined : IsMet (codes "run" ∷ codes "--steps" ∷ codes "1" ∷ codes "--steps=2" ∷ codes "a" ∷ []) (Repeated (codes "--steps")) 3
second_joined = (codes "--steps=2", refl, inr (codes "2", refl))

behind_the_last : IsMet (codes "resolve" ∷ []) (Missing (codes "ROOT")) 1
behind_the_last = refl
