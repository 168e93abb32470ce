-- Questions asked one behind the other, as a loop asks them.
use Rattle.std.proofs.Common.{◌≡◌, subst, sym, Bool, true, false, Result, Ok, Err}
use Rattle.jl_vtypes.specs.declared.question.Asked.{Asked}
use Rattle.jl_vtypes.specs.Asking.{Asks, Done}
use Rattle.jl_verify.specs.declared.fault.VerifyFault.{VerifyFault}
use Rattle.jl_verify.specs.Comes.{Comes}
use Rattle.jl_verify.specs.Moves.{both}
use Rattle.jl_verify.proofs.Comings.{done, both_true, both_false, both_err}

-- what all comes to is what the rest, which is still to be asked, comes to
pub record SoFar {S X : Type 0} (step : S → Asked → S → Type 0) (whole rest : Asks X) (old mid : S) : Type 0 where
  pub on : (result : Result X VerifyFault) (new : S) → Comes step rest mid result new → Comes step whole old result new

module _ {S : Type 0} (step : S → Asked → S → Type 0) where
  pub begun : {X : Type 0} (whole : Asks X) (s : S) → SoFar step whole whole s s
  begun whole s = record { on = λ result new p. p }

  pub further : (whole rest a b : Asks Bool) (old mid new : S) (is : Bool) → rest ≡ both a b → is ≡ true → SoFar step whole rest old mid → Comes step a mid (Ok is) new → SoFar step whole b old new
  further whole rest a b old mid new is e yes_ so p =
      record { on = λ result last q. so.on result last (subst (λ asks. Comes step asks mid result last) (sym e) (both_true step a b mid new result last (subst (λ t. Comes step a mid (Ok t) new) yes_ p) q)) }

  pub stopped : (whole rest a b : Asks Bool) (old mid new : S) (is : Bool) → rest ≡ both a b → is ≡ false → SoFar step whole rest old mid → Comes step a mid (Ok is) new → Comes step whole old (Ok false) new
  stopped whole rest a b old mid new is e no_ so p =
      so.on (Ok false) new (subst (λ asks. Comes step asks mid (Ok false) new) (sym e) (both_false step a b mid new (subst (λ t. Comes step a mid (Ok t) new) no_ p)))

  pub failed : (whole rest a b : Asks Bool) (old mid new : S) (fault : VerifyFault) → rest ≡ both a b → SoFar step whole rest old mid → Comes step a mid (Err fault) new → Comes step whole old (Err fault) new
  failed whole rest a b old mid new fault e so p = so.on (Err fault) new (subst (λ asks. Comes step asks mid (Err fault) new) (sym e) (both_err step a b fault mid new p))

  pub ended : (whole rest : Asks Bool) (old mid : S) → rest ≡ Done true → SoFar step whole rest old mid → Comes step whole old (Ok true) mid
  ended whole rest old mid e so = so.on (Ok true) mid (subst (λ asks. Comes step asks mid (Ok true) mid) (sym e) (done step true mid))

  -- ---- the second is asked where the first is so

  pub both_on : (a b : Asks Bool) (old mid : S) (result : Result Bool VerifyFault) (new : S) (is : Bool) → is ≡ true → Comes step a old (Ok is) mid → Comes step b mid result new → Comes step (both a b) old result new
  both_on a b old mid result new is e p q = both_true step a b old mid result new (subst (λ t. Comes step a old (Ok t) mid) e p) q

  pub both_off : (a b : Asks Bool) (old new : S) (is : Bool) → is ≡ false → Comes step a old (Ok is) new → Comes step (both a b) old (Ok false) new
  both_off a b old new is e p = both_false step a b old new (subst (λ t. Comes step a old (Ok t) new) e p)

  -- and nothing behind it
  pub alone : (a : Asks Bool) (old : S) (result : Result Bool VerifyFault) (new : S) → Comes step a old result new → Comes step (both a (Done true)) old result new
  alone a old (Ok true) new p = both_true step a (Done true) old new (Ok true) new p (done step true new)
  alone a old (Ok false) new p = both_false step a (Done true) old new p
  alone a old (Err fault) new p = both_err step a (Done true) fault old new p
