-- The step of a run that made a body on a link: it makes one at most there, so the bodies before it are those that the steps
-- before it made.
use Rattle.std.proofs.Common.{◌≡◌, ◌≤◌, Bool, true, false, List, [], ◌∷◌, ◌++◌, length, refl, ap, sym, subst, ◌∙◌, append-nil, append_assoc, arith}
use Rattle.std.specs.List.{AllByRecursion}
use Rattle.std.proofs.lemmas.List.Elements.{filter_map-append}
use Rattle.market_events.specs.declared.bodies.Body.{Body}
use Rattle.market_events.specs.declared.links.Link.{Link}
use Rattle.market_events.specs.AnswerShape.{LinksApart}
use Rattle.market_events.specs.Links.{same_link}
use Rattle.market_events.specs.declared.roles.Role.{Role}
use Rattle.market_events.specs.Services.{Follows, RunsFrom, IsRunOf}
use Rattle.market_events.specs.Steps.{Step, Sending, made_in, body_on, made_on}
use Rattle.market_events.proofs.Values.Offers.{same_link-true, same_link-same}
use Rattle.market_events.proofs.Steps.Taken.{made_on-push, run-push}
use Rattle.market_laws.specs.Runs.{Member}
use Rattle.market_laws.proofs.Growth.Outs.{answers-shape}
use Rattle.market_laws.proofs.Runs.Counts.{on, member-split}

-- what a step that follows a run makes is on links apart
pub made-apart : (role : Role) (before : List Step) (s : Step) → IsRunOf role before → Follows role before s → LinksApart s.made
made-apart role before s run follows =
    subst LinksApart (sym follows.made) (answers-shape role before s.from s.body run follows.fit).apart

-- two links that differ, turned round
other_link : (link l : Link) → same_link link l ≡ false → same_link l link ≡ false
other_link link l other = either (same_link l link) refl
  where
    either : (b : Bool) → same_link l link ≡ b → same_link l link ≡ false
    either true is =
        let same : same_link link l ≡ true = ap (λ x. same_link link x) (same_link-true l link is) ∙ same_link-same link in
        let no : ⊥ = cc in absurd no
    either false is = is

-- of links apart, none of the others is this one
none_on : (link : Link) (made : List Sending) → AllByRecursion (λ (other : Sending). same_link link other.0 ≡ false) made → on link made ≡ []
none_on link [] apart = refl
none_on link (m ∷ more) apart = rw (other_link link m.0 apart.0) (none_on link more apart.1)

-- of links apart, one at most is this one
pub on-few : (link : Link) (made : List Sending) → LinksApart made → length (on link made) ≤ 1
on-few link [] apart = omega arith
on-few link (m ∷ more) apart = either (same_link m.0 link) refl (on-few link more apart.1)
  where
    either : (b : Bool) → same_link m.0 link ≡ b → length (on link more) ≤ 1 → length (on link (m ∷ more)) ≤ 1
    either true here few =
        let none : on link more ≡ [] = none_on link more (subst (λ l. AllByRecursion (λ (other : Sending). same_link l other.0 ≡ false) more) (same_link-true m.0 link here) apart.0) in
        rw (here, none) (omega arith)
    either false other few = rw other few

-- a body that was made on a link after the bodies xs: the steps before, the step that made it alone there, and the steps after
pub record MadeOn (role : Role) (link : Link) (steps : List Step) (xs : List Body) (b : Body) : Type 0 where
  pub before : List Step
  pub step : Step
  pub after : List Step
  pub is : steps ≡ before ++ step ∷ after
  pub run : IsRunOf role before
  pub follows : Follows role before step
  pub rest : RunsFrom role (before ++ step ∷ []) after
  pub earlier : made_on link before ≡ xs
  pub here : on link step.made ≡ b ∷ []

-- along the steps
made_from : (role : Role) (link : Link) (before rest : List Step) (xs ys : List Body) (b : Body) → IsRunOf role before → RunsFrom role before rest → made_on link rest ≡ xs ++ b ∷ ys → MadeOn role link (before ++ rest) (made_on link before ++ xs) b
made_from role link before [] [] ys b run more is = cc
made_from role link before [] (x ∷ xs) ys b run more is = cc
made_from role link before (s ∷ ss) xs ys b run more is =
    by_made (on link s.made) refl (on-few link s.made (made-apart role before s run more.0)) xs (sym (filter_map-append (body_on link) s.made (made_in ss)) ∙ is)
    (λ zs later. made_from role link (before ++ s ∷ []) ss zs ys b (run-push role before s run more.0) more.1 later)
  where
    -- what the step made stands before
    earlier : (ms zs : List Body) → on link s.made ≡ ms → made_on link (before ++ s ∷ []) ++ zs ≡ made_on link before ++ (ms ++ zs)
    earlier ms zs made = ap (λ bs. bs ++ zs) (made_on-push link before s ∙ ap (λ bs. made_on link before ++ bs) made) ∙ append_assoc (made_on link before) ms zs

    moved : (ms zs : List Body) → on link s.made ≡ ms → MadeOn role link ((before ++ s ∷ []) ++ ss) (made_on link (before ++ s ∷ []) ++ zs) b → MadeOn role link (before ++ s ∷ ss) (made_on link before ++ (ms ++ zs)) b
    moved ms zs made found = subst (λ bs. MadeOn role link (before ++ s ∷ ss) bs b) (earlier ms zs made) (subst (λ steps. MadeOn role link steps (made_on link (before ++ s ∷ []) ++ zs) b) (append_assoc before (s ∷ []) ss) found)

    by_made : (ms : List Body) → on link s.made ≡ ms → length ms ≤ 1 → (xs : List Body) → ms ++ made_on link ss ≡ xs ++ b ∷ ys
        → ((zs : List Body) → made_on link ss ≡ zs ++ b ∷ ys → MadeOn role link ((before ++ s ∷ []) ++ ss) (made_on link (before ++ s ∷ []) ++ zs) b) → MadeOn role link (before ++ s ∷ ss) (made_on link before ++ xs) b
    by_made [] made few xs is again = moved [] xs made (again xs is)
    by_made (m ∷ []) made few [] is again =
        let same : m ≡ b = cc in
        record { before = before; step = s; after = ss; is = refl; run = run; follows = more.0; rest = more.1; earlier = sym (append-nil (made_on link before)); here = made ∙ ap (λ x. x ∷ []) same }
    by_made (m ∷ []) made few (x ∷ xs) is again =
        let same : m ≡ x = cc in
        let later : made_on link ss ≡ xs ++ b ∷ ys = cc in
        subst (λ x. MadeOn role link (before ++ s ∷ ss) (made_on link before ++ x ∷ xs) b) same (moved (m ∷ []) xs made (again xs later))
    by_made (m ∷ k ∷ ms) made few xs is again = absurd (omega (arith, few))

-- a body that a run made on a link after these was made by a step after those that made these
pub made_split : (role : Role) (link : Link) (steps : List Step) (xs ys : List Body) (b : Body) → IsRunOf role steps → made_on link steps ≡ xs ++ b ∷ ys → MadeOn role link steps xs b
made_split role link steps xs ys b run is = made_from role link [] steps xs ys b tt run is

-- a body that a run made on a link was made by a step
pub made_by : (role : Role) (link : Link) (steps : List Step) (b : Body) → IsRunOf role steps → Member b (made_on link steps) → (xs : List Body) × MadeOn role link steps xs b
made_by role link steps b run here = let parts = member-split b (made_on link steps) here in (parts.0, made_split role link steps parts.0 parts.1 b run parts.2)
