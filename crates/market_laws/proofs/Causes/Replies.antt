-- What services answer to requests: replies alone, but for a checkout that is sent on and a delivery.
use Rattle.std.proofs.Common.{Bool, true, false, List, [], ◌∷◌, if◌then◌else◌, inl, inr, sym, subst}
use Rattle.market_events.specs.declared.bodies.Body.{Body}
use Rattle.market_events.specs.declared.bodies.Body.TheVariants as body
use Rattle.market_events.specs.Steps.{Sending}
use Rattle.market_laws.specs.Runs.{Member}

-- the body tells a reply
abbrev pub IsTold : Body → Type 0
IsTold (body.Told id reply) = Unit {0}
IsTold other = ⊥

-- each of these does
abbrev pub AllTold : List Sending → Type 0
AllTold [] = Unit {0}
AllTold (s ∷ more) = IsTold s.1 × AllTold more

-- nothing else is among them
pub told-member : (made : List Sending) (x : Sending) → AllTold made → Member x made → IsTold x.1
told-member [] x all here = absurd here
told-member (s ∷ more) x all (inl same) = subst (λ (y : Sending). IsTold y.1) (sym same) all.0
told-member (s ∷ more) x all (inr later) = told-member more x all.1 later

-- either of two
pub told-either : (test : Bool) (us vs : List Sending) → AllTold us → AllTold vs → AllTold (if test then us else vs)
told-either true us vs one other = one
told-either false us vs one other = other
