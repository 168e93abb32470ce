-- Lines of more words than there may be.
use Rattle.std.proofs.Common.{◌≡◌, ℕ, ◌≤◌, ◌<◌, List, length, map, take, Result, Ok, Err, refl, ap, arith}
use Rattle.std.proofs.lemmas.Bool.{le-leb, lt-leb}
use Rattle.std.proofs.lemmas.List.{length-map, take-map}
use Rattle.jl_logic.specs.Answers.{Gives}
use Rattle.jl_words.specs.declared.command.Command.{Command}
use Rattle.jl_words.specs.declared.fault.WordFault.{WordFault}
use Rattle.jl_words.specs.declared.fault.WordFault.TheVariants as faults
use Rattle.jl_prim.specs.Limits.{most_words}
use Rattle.jl_words.specs.Reading.{told, line_read, past_most, words_read}

pub few_read : (words : List (List ℕ)) → length words ≤ most_words → words_read words ≡ line_read words
unfolding words_read
few_read words few = rw (le-leb (length words) most_words few) refl

pub many_read : (words : List (List ℕ)) → most_words < length words → words_read words ≡ past_most (line_read (take most_words words))
unfolding words_read
many_read words many = rw (lt-leb (length words) most_words many) refl

gives_past : (r d : Result Command WordFault) → Gives told (λ x. x) r d → Gives told (λ x. x) (past_most r) (past_most d)
gives_past (Ok c) d h = ap past_most h
gives_past (Err faults.NoMemory) d h = tt
gives_past (Err _) d h = ap past_most h

module _ {W : Type 0} (f : W → List ℕ) (ws : List W) where
  pub gives_few : (r : Result Command WordFault) → length ws ≤ most_words → Gives told (λ x. x) r (line_read (map f ws)) → Gives told (λ x. x) r (words_read (map f ws))
  gives_few r few h = rw (few_read (map f ws) (omega (arith, length-map ws f, few))) h

  pub gives_many : (r past : Result Command WordFault) → most_words < length ws → past ≡ past_most r → Gives told (λ x. x) r (line_read (map f (take most_words ws))) → Gives told (λ x. x) past (words_read (map f ws))
  gives_many r past many is h =
      rw (many_read (map f ws) (omega (arith, length-map ws f, many)), take-map f most_words ws, is) (gives_past r (line_read (map f (take most_words ws))) h)
